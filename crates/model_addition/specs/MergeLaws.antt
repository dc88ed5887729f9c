-- The merge of two lists of terms in memory: one iteration of its loop, and its end.
use Rattle.std.specs.Prelude.{◌≡◌, refl, true, false, List, [], ◌∷◌, ◌++◌, map, ℕ, ◌+◌, ◌≤◌, ◌<◌, length, get_or, set}
use Rattle.std.proofs.Math.Path.{sym, ap, ap₂, subst}
use Rattle.std.proofs.Common.{◌∙◌, append_assoc, append-nil, lit<, lt→ltb, length-append}
use Rattle.std.proofs.Math.Decide.{dec_le}
use native.Mathlib.Omega.{arith}
use Rattle.std.proofs.Math.Dec.{T}
use Rattle.std.proofs.Math.ListN.{drop}
use Rattle.calculus.specs.Key.{key_width, key_fits, monomial_of}
use Rattle.calculus.specs.Monomial.{less}
use Rattle.calculus.specs.Terms.{Terms, term, every, select, rising_from, rising, is_nonzero, drop_zeros, collect}
use Rattle.calculus.specs.Model.{most_degree, most_terms, fits}
use Rattle.calculus_laws.specs.TermsLaws.{every_head, every_nil, rising_cons}
use Rattle.model_types.specs.declared.Term.{Term}
use Rattle.model_types.specs.declared.Model.{Model}
use Rattle.model_types.specs.ModelStruct.{zero_term, view_term, pack_term, pad, listed}
use Rattle.model_types.specs.ModelStructLaws.{read, rest_more, rest_end, packed_more, pack_view_term}
use Rattle.calculus_laws.specs.MonomialKeyLaws.{fits_key, fits_below, less_monomials}
use Rattle.model_addition.specs.declared.Next.{Next}
use Rattle.model_addition.specs.Merge.{Takes, from_first, from_second, from_both}
use Rattle.model_addition.specs.SumTermsLaws.{sum_terms, unless_zero, zero_dropped, nonzero_kept, Above}
use Rattle.model_addition.specs.SumTermsLaws.{rising_above}
use Rattle.model_addition.specs.SumTermsLaws.{every_drop, rising_drop, first_term, second_term, joint_terms}

-- ---- one list
-- its first c places hold rising terms in n variables
pub record Rising (n c : ℕ) (ts : List Term) : Type 0 where
  pub width : n ≤ key_width
  pub whole : c ≤ length ts
  pub fitting : T (every (λ k z. fits n most_degree k) (read n c ts))
  pub rises : T (rising (read n c ts))

-- t is next, and what comes after rises from it
record Head (n c : ℕ) (ts : List Term) (i : ℕ) (t : Term) : Type 0 where
  next : drop i (read n c ts) ≡ view_term n t ∷ drop (i + 1) (read n c ts)
  key : T (key_fits key_width n t.key)
  rises : T (rising_from (monomial_of n t.key) (drop (i + 1) (read n c ts)))
  above : Above (monomial_of n t.key) (drop (i + 1) (read n c ts))

module _ {n c : ℕ} {ts : List Term} (s : Rising n c ts) (i : ℕ) where
  head : (t : Term) → get_or ts i zero_term ≡ t → i < c → Head n c ts i t
  unfolding most_degree view_term rising
  head t e h = record {
    next = here;
    key = fits_key n most_degree t.key s.width (lit< tt)
        (every_head (λ k z. fits n most_degree k) (view_term n t) (drop (i + 1) (read n c ts))
        (subst (λ p. T (every (λ k z. fits n most_degree k) p)) here
        (every_drop (λ k z. fits n most_degree k) i (read n c ts) s.fitting)));
    rises = after;
    above = rising_above (monomial_of n t.key) (drop (i + 1) (read n c ts)) after;
  }
    where
      here : drop i (read n c ts) ≡ view_term n t ∷ drop (i + 1) (read n c ts)
      here = rest_more n c ts s.whole i h ∙ ap (λ t. view_term n t ∷ drop (i + 1) (read n c ts)) e

      after : T (rising (view_term n t ∷ drop (i + 1) (read n c ts)))
      after = subst (λ p. T (rising p)) here (rising_drop i (read n c ts) s.rises)

  -- all that is left is above a key that is below the next one
  above_rest : (k : ℕ) → T (key_fits key_width n k) → (t : Term) → (i < c → Head n c ts i t) → (i < c → k < t.key)
      → Above (monomial_of n k) (drop i (read n c ts))
  unfolding view_term
  above_rest k f t e b = go (dec_le c i)
    where
      go : Dec (c ≤ i) → Above (monomial_of n k) (drop i (read n c ts))
      go (yes h) = subst (Above (monomial_of n k)) (sym (rest_end n c ts s.whole i h))
          (every_nil (λ j z. less (monomial_of n k) j))
      go (no h) =
          let g : i < c = omega arith in
          subst (Above (monomial_of n k)) (sym (e g).next)
          (rising_above (monomial_of n k) (view_term n t ∷ drop (i + 1) (read n c ts))
          (rising_cons (monomial_of n k) (view_term n t) (drop (i + 1) (read n c ts))
          (subst T (sym (less_monomials n k t.key s.width f (e g).key)) (lt→ltb k t.key (b g)))
          (e g).rises))

-- ---- two lists: those of two models in the same variables
pub record Mergeable (a b : Model) : Type 0 where
  pub first : Rising a.n a.count (listed a)
  pub second : Rising a.n b.count (listed b)

module _ (a b : Model) where
  abbrev p : Terms
  p = read a.n a.count (listed a)

  abbrev q : Terms
  q = read a.n b.count (listed b)

  -- the terms of the sum
  abbrev pub whole_sum : Terms
  whole_sum = sum_terms p q

  -- what comes next, r, and the rest make up the sum of what was left
  pub record Iteration (i j : ℕ) (r : Next) : Type 0 where
    pub next : sum_terms (drop i p) (drop j q)
        ≡ unless_zero (view_term a.n r.term) ++ sum_terms (drop r.i p) (drop r.j q)
    pub key : T (key_fits key_width a.n r.term.key)
    pub on : i + j < r.i + r.j
    pub left : r.i ≤ a.count
    pub right : r.j ≤ b.count

  -- what is stored, followed by the sum of what is left, is the whole sum
  pub record Merged (out : List Term) (count i j : ℕ) : Type 0 where
    pub left : i ≤ a.count
    pub right : j ≤ b.count
    pub done : Terms
    pub stored : out ≡ pad (map pack_term done)
    pub many : length done ≡ count
    pub few : count ≤ most_terms
    pub sum : done ++ sum_terms (drop i p) (drop j q) ≡ whole_sum

  -- before the first iteration
  pub nothing_stored : Merged (pad []) 0 0 0
  nothing_stored = record {
    left = omega arith;
    right = omega arith;
    done = [];
    stored = refl;
    many = refl;
    few = omega arith;
    sum = refl;
  }

  module _ (o : Mergeable a b) {out : List Term} {count i j : ℕ} (m : Merged out count i j) where
    -- x and y stand at the two places
    pub iteration : (x y : Term) → (i < a.count → get_or (listed a) i zero_term ≡ x)
        → (j < b.count → get_or (listed b) j zero_term ≡ y)
        → (r : Next) → Takes i a.count x j b.count y r → Iteration i j r
    unfolding view_term
    iteration x y e f r t = go r t (λ h. head o.first i x (e h) h) (λ h. head o.second j y (f h) h)
      where
        go : (r : Next) → Takes i a.count x j b.count y r → (i < a.count → Head a.n a.count (listed a) i x)
            → (j < b.count → Head a.n b.count (listed b) j y) → Iteration i j r
        go _ (from_first h k) u v = record {
          next = ap (λ l. sum_terms l (drop j q)) (u h).next
              ∙ first_term (view_term a.n x) (drop (i + 1) p) (drop j q) (u h).above
              (above_rest o.second j x.key (u h).key y v k);
          key = (u h).key;
          on = omega arith;
          left = omega arith;
          right = m.right;
        }
        go _ (from_second h k) u v = record {
          next = ap (λ l. sum_terms (drop i p) l) (v h).next
              ∙ second_term (view_term a.n y) (drop i p) (drop (j + 1) q)
              (above_rest o.first i y.key (v h).key x u k) (v h).above;
          key = (v h).key;
          on = omega arith;
          left = m.left;
          right = omega arith;
        }
        go _ (from_both h g k) u v = record {
          next = ap₂ sum_terms (u h).next
              ((v g).next ∙ ap (λ z. term y.coefficient (monomial_of a.n z) ∷ drop (j + 1) q) (sym k))
              ∙ joint_terms (monomial_of a.n x.key) x.coefficient y.coefficient
              (drop (i + 1) p) (drop (j + 1) q) (u h).above
              (subst (λ z. Above (monomial_of a.n z) (drop (j + 1) q)) (sym k) (v g).above);
          key = (u h).key;
          on = omega arith;
          left = omega arith;
          right = omega arith;
        }

    module _ (r : Next) (t : Iteration i j r) where
      -- a zero is not stored
      pub skip : is_nonzero r.term.coefficient ≡ false → Merged out count r.i r.j
      unfolding view_term
      skip z = record {
        left = t.left;
        right = t.right;
        done = m.done;
        stored = m.stored;
        many = m.many;
        few = m.few;
        sum = rw (t.next, zero_dropped (view_term a.n r.term) z) at m.sum;
      }

      with_next : is_nonzero r.term.coefficient ≡ true
          → m.done ++ (view_term a.n r.term ∷ sum_terms (drop r.i p) (drop r.j q)) ≡ whole_sum
      unfolding view_term
      with_next z = rw (t.next, nonzero_kept (view_term a.n r.term) z) at m.sum

      -- any other term is, while there is a place,
      pub store : is_nonzero r.term.coefficient ≡ true → count < most_terms
          → Merged (set out count r.term) (count + 1) r.i r.j
      store z k = record {
        left = t.left;
        right = t.right;
        done = m.done ++ (view_term a.n r.term ∷ []);
        stored = ap₂ (λ l u. set l count u) m.stored
            (sym (pack_view_term a.n r.term o.first.width (fits_below a.n r.term.key t.key)))
            ∙ packed_more m.done count (view_term a.n r.term) m.many k;
        many = omega (arith, length-append m.done (view_term a.n r.term ∷ []), m.many);
        few = omega arith;
        sum = append_assoc m.done _ _ ∙ with_next z;
      }

      -- and else is one too many
      pub too_many : is_nonzero r.term.coefficient ≡ true → most_terms ≤ count → most_terms < length whole_sum
      too_many z k = omega (
        arith,
        m.many,
        ap length (with_next z),
        length-append m.done (view_term a.n r.term ∷ sum_terms (drop r.i p) (drop r.j q)),
      )

    -- after the last iteration
    pub all_stored : a.count + b.count ≤ i + j → m.done ≡ whole_sum
    unfolding drop_zeros collect select
    all_stored h = sym (append-nil m.done) ∙ rw (
      rest_end a.n a.count (listed a) o.first.whole i (omega (arith, m.right)),
      rest_end a.n b.count (listed b) o.second.whole j (omega (arith, m.left)),
    ) at m.sum
