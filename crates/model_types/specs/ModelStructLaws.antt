-- Laws of models in memory: what views and packed models say of each other, and one iteration of a loop over terms.
use Rattle.std.specs.Prelude.{◌≡◌, Bool, not, ◌&&◌, T, ℤ, pos, length, take, drop, get_or, set}
use Rattle.std.proofs.Math.Path.{refl, subst}
use Rattle.std.proofs.Common.{sym, ◌∙◌, ap, ap₂, add-one, le-leb, T_not, drop_of_length-le, length-take-le, drop-cons, get_or-take}
use Rattle.std.proofs.Math.Bool.{true, false}
use mathlib.Core.List.{List, [], ◌∷◌, ◌++◌, map, append-nil, map-append}
use Prim.Native.Nat.{ℕ, zero, suc, ◌+◌, ◌-◌, ◌^◌, ◌≤◌, ◌<◌}
use native.Mathlib.Omega.{arith}
use Rattle.std.proofs.Math.Nat as NatL
use Rattle.std.proofs.Math.IntN.{nat_abs}
use Rattle.std.proofs.lemmas.List.{length-map}
use Rattle.std.proofs.Math.ListN.{get_or-map}
use Rattle.algebra.specs.Integer.{natAbs_add}
use Rattle.polynomial.specs.Polynomial as P
use Rattle.numbers.specs.Fixed.{U, span_limit}
use Rattle.calculus.specs.Key.{key_width, key_limit, key, key_fits, monomial_of}
use Rattle.calculus.specs.Key.{Below}
use Rattle.calculus_laws.specs.KeyLaws.{below_degree}
use Rattle.calculus.specs.Terms.{Terms, term, every, select, sum_over, sum_ℕ, sum_ℤ, size, is_nonzero, drop_zeros}
use Rattle.calculus.specs.Operations.{constant, variable}
use Rattle.calculus_laws.specs.TermsLaws.{every_head, every_tail, by_select}
pub use Rattle.calculus_laws.specs.LoopLaws.{select-++}
use Rattle.calculus_laws.specs.SumLaws.{Addition, sum_snoc, sum_split, ℕ_addition, at_term, if_so}
use Rattle.calculus.specs.Model as C
use Rattle.calculus.specs.Model.{zero_model, most_terms, most_vars, most_degree, between, fits, sound, span}
use Rattle.calculus.specs.Tests.{vars_sound}
use Rattle.calculus_laws.specs.BookLaws.{between_low, between_high}
use Rattle.calculus_laws.specs.FitsLaws.{fits_length, fits_degree}
use Rattle.calculus_laws.specs.SoundLaws.{sound_parts}
use Rattle.calculus.specs.Refusal as R
pub use Rattle.model_types.specs.ArrayLaws.{take_more}
use Rattle.model_types.specs.ArrayLaws.{first_take, length_first, padded_more, length_padded_least, take_padded}
use Rattle.model_types.specs.declared.Term.{Term}
use Rattle.model_types.specs.declared.Model.{Model}
use Rattle.model_types.specs.declared.Refusal.{Refusal}
use Rattle.model_types.specs.declared.Refusal.TheVariants.{BadLength, BadMark, BadLimits, BadOffset}
use Rattle.model_types.specs.declared.Refusal.TheVariants.{BadModel, BadStep}
use Rattle.model_types.specs.declared.Refusal.TheVariants.{OverSpan, TooManyTerms, LeavesBox}
use Rattle.model_types.specs.declared.Refusal.TheVariants.{VariablesDiffer, ShortBuffer, Uncertified}
use Rattle.model_types.specs.declared.Refusal.TheVariants.{NotOneVariable, CutTooDeep, BadReading}
use Rattle.model_types.specs.declared.Refusal.TheVariants.{BadDouble, BadRank}
use Rattle.model_types.specs.ModelStruct.{refusal, cause, one_term, zero_term, places, view_term, view}
use Rattle.model_types.specs.ModelStruct.{pack_term, pad, pack, listed, of_terms}
use Rattle.model_types.specs.PairedLaws.{paired_of}
use Rattle.calculus_laws.specs.MonomialKeyLaws.{key_monomial, monomial_key, fits_key, fits_below}
use Rattle.calculus_laws.specs.MonomialKeyLaws.{monomial_zero, monomial_variable}
use Rattle.model_keys.specs.Keys.{key_raised}

-- ---- terms selected, one more at the end
pub select_in : (f : List ℕ → ℤ → Bool) (p : Terms) (t : P.Term ℤ) → T (f t.exponents t.coefficient)
    → select f (p ++ (t ∷ [])) ≡ select f p ++ (t ∷ [])
unfolding select
select_in f p t h = select-++ f p (t ∷ []) ∙ ap (λ l. select f p ++ l)
    (by_select (λ q. q ≡ t ∷ []) f t [] (λ y. refl) (λ n. absurd (T_not (f t.exponents t.coefficient) n h)))

pub select_out : (f : List ℕ → ℤ → Bool) (p : Terms) (t : P.Term ℤ) → T (not (f t.exponents t.coefficient))
    → select f (p ++ (t ∷ [])) ≡ select f p
unfolding select
select_out f p t h = select-++ f p (t ∷ []) ∙ ap (λ l. select f p ++ l)
    (by_select (λ q. q ≡ []) f t [] (λ y. absurd (T_not (f t.exponents t.coefficient) h y)) (λ n. refl))
    ∙ append-nil (select f p)

-- ---- a store after the terms
pub pad_more : (ts : List Term) (i : ℕ) (t : Term) → length ts ≡ i → i < most_terms
    → set (pad ts) i t ≡ pad (ts ++ (t ∷ []))
pad_more = padded_more zero_term most_terms

-- ---- there and back
pub pack_key : (n z : ℕ) (c : ℤ) → n ≤ key_width → z < key_limit
    → pack_term (term c (monomial_of n z)) ≡ record { key = z; coefficient = c }
unfolding pack_term
pack_key n z c l h = ap (λ k. record { key = k; coefficient = c }) (key_monomial n z l h)

pub pack_view_term : (n : ℕ) (t : Term) → n ≤ key_width → t.key < key_limit → pack_term (view_term n t) ≡ t
unfolding view_term
pack_view_term n t l h = pack_key n t.key t.coefficient l h

pub view_pack_term : (n : ℕ) (t : P.Term ℤ) → n ≤ key_width → length t.exponents ≡ n → Below 16 t.exponents
    → view_term n (pack_term t) ≡ t
unfolding pack_term view_term
view_pack_term n t l e b = ap (λ k. term t.coefficient k)
    (ap (λ i. monomial_of i (key key_width t.exponents)) (sym e) ∙ monomial_key t.exponents (omega arith) b)

view_pack_terms : (n d : ℕ) (p : Terms) → n ≤ key_width → d < 16 → T (every (λ k c. fits n d k) p)
    → map (view_term n) (map pack_term p) ≡ p
view_pack_terms n d [] l s h = refl
view_pack_terms n d (t ∷ p) l s h = ap₂ ◌∷◌ (head (every_head (λ k c. fits n d k) t p h))
    (view_pack_terms n d p l s (every_tail (λ k c. fits n d k) t p h))
  where
    head : T (fits n d t.exponents) → view_term n (pack_term t) ≡ t
    head f = view_pack_term n t l (fits_length n d t.exponents f)
        (below_degree 16 t.exponents (omega (arith, fits_degree n d t.exponents f)))

pub length_packed : (m : C.Model) → length m.terms ≤ length (listed (pack m))
unfolding pack
length_packed m =
    rw (paired_of (pad (map pack_term m.terms)))
    (omega (
      arith,
      length_padded_least zero_term most_terms (map pack_term m.terms),
      length-map m.terms pack_term,
    ))

-- the terms of all its places
pub listed_pack : (m : C.Model) → listed (pack m) ≡ pad (map pack_term m.terms)
unfolding pack
listed_pack m = paired_of (pad (map pack_term m.terms))

-- what was packed is viewed
pub view_pack : (d : ℕ) (m : C.Model) → d < 16 → m.vars ≤ key_width → T (every (λ k c. fits m.vars d k) m.terms)
    → view (pack m) ≡ m
unfolding view pack
view_pack d m s l h = ap (λ p. record { vars = m.vars; radius = m.radius; terms = p })
    (ap (map (view_term m.vars))
    (first_take zero_term (length m.terms) (listed (pack m)) (length_packed m)
    ∙ ap (take (length m.terms)) (paired_of (pad (map pack_term m.terms)))
    ∙ take_padded zero_term most_terms (map pack_term m.terms) (length m.terms) (length-map m.terms pack_term))
    ∙ view_pack_terms m.vars d m.terms l s h)

-- ---- a sound model: 1 to 8 variables, and its other parts
pub vars_range : (n : ℕ) → vars_sound n ≡ true → (1 ≤ n) × (n ≤ key_width)
unfolding vars_sound most_vars key_width
vars_range n v = let h = subst T (sym v) tt in (between_low 1 key_width n h, between_high 1 key_width n h)

pub vars_within : (n : ℕ) → 1 ≤ n → n ≤ key_width → vars_sound n ≡ true
unfolding vars_sound between most_vars key_width
vars_within n l h = rw (le-leb 1 n l, le-leb n key_width h)

pub sound_vars : (d : ℕ) (m : C.Model) → T (sound d m) → vars_sound m.vars ≡ true
unfolding sound vars_sound
sound_vars d m h = first (vars_sound m.vars) _ _ _ _ _ h
  where
    first : (v c f z r s : Bool) → T (v && c && f && z && r && s) → v ≡ true
    first true c f z r s h = refl
    first false c f z r s h = absurd h

pub view_pack_sound : (d : ℕ) (m : C.Model) → d ≤ most_degree → T (sound d m) → view (pack m) ≡ m
unfolding most_degree
view_pack_sound d m s h = view_pack d m (omega arith) (vars_range m.vars (sound_vars d m h)).1
    (sound_parts d m h).0.fitting

-- ---- the terms read so far
-- the first i, as a model in n variables holds them
abbrev pub read : (n i : ℕ) → List Term → Terms
read n i ts = map (view_term n) (take i ts)

-- that at place i
abbrev pub term_at : (n i : ℕ) → List Term → P.Term ℤ
term_at n i ts = view_term n (get_or ts i zero_term)

pub length_read : (n i : ℕ) (ts : List Term) → i ≤ length ts → length (read n i ts) ≡ i
length_read n i ts h = length-map (take i ts) (view_term n) ∙ length-take-le i ts h

pub length_view : (m : Model) → length (view m).terms ≡ m.count
unfolding view
length_view m = length-map (places m.count (listed m)) (view_term m.n)
    ∙ length_first zero_term m.count (listed m)

pub view_terms : (m : Model) → m.count ≤ length (listed m) → (view m).terms ≡ read m.n m.count (listed m)
unfolding view
view_terms m h = ap (map (view_term m.n)) (first_take zero_term m.count (listed m) h)

pack_view_terms : (n d : ℕ) (l : List Term) → n ≤ key_width → d < 16
    → T (every (λ k c. fits n d k) (map (view_term n) l))
    → map pack_term (map (view_term n) l) ≡ l
pack_view_terms n d [] w s h = refl
pack_view_terms n d (t ∷ l) w s h = ap₂ ◌∷◌
    (pack_view_term n t w (fits_below n t.key
    (fits_key n d t.key w s (head (every_head (λ k c. fits n d k) (view_term n t) _ h)))))
    (pack_view_terms n d l w s (every_tail (λ k c. fits n d k) (view_term n t) _ h))
  where
    head : T (fits n d (view_term n t).exponents) → T (fits n d (monomial_of n t.key))
    head f = unfold view_term in f

pub view_is : (m : Model) → m.count ≤ length (listed m)
    → view m ≡ record { vars = m.n; radius = m.radius; terms = read m.n m.count (listed m) }
unfolding view
view_is m h = ap (λ p. record { vars = m.n; radius = m.radius; terms = p }) (view_terms m h)

-- a sound view, packed, is the struct with zeros beyond the count
pub pack_view : (d : ℕ) (m : Model) → d ≤ most_degree → T (sound d (view m)) → m.count ≤ length (listed m)
    → pack (view m)
    ≡ of_terms m.n m.count m.radius (pad (take m.count (listed m)))
unfolding view pack most_degree
pack_view d m s h w = ap₂
    (λ (c : ℕ) (l : List Term). of_terms m.n c m.radius (pad l)) (length_view m)
    (ap (map pack_term) (view_terms m w)
    ∙ pack_view_terms m.n d (take m.count (listed m)) (vars_range m.n (sound_vars d (view m) h)).1
    (omega arith)
    (subst (λ p. T (every (λ k c. fits m.n d k) p)) (view_terms m w) (sound_parts d (view m) h).0.fitting))

-- one more: the terms, and a sum over them
module _ (n i : ℕ) (ts : List Term) (h : i < length ts) where
  pub read_more : read n (i + 1) ts ≡ read n i ts ++ (term_at n i ts ∷ [])
  read_more = ap (map (view_term n)) (take_more ts i zero_term h)
      ∙ map-append (view_term n) (take i ts) (get_or ts i zero_term ∷ [])

  pub sum_more : {A : Type 0} (N : Addition A) (g : List ℕ → ℤ → A)
      → sum_over N.plus N.nothing g (read n (i + 1) ts)
      ≡ N.plus (sum_over N.plus N.nothing g (read n i ts)) (at_term N g (term_at n i ts))
  sum_more N g = ap (sum_over N.plus N.nothing g) read_more ∙ sum_snoc N g (read n i ts) (term_at n i ts)

  pub size_more : size (read n (i + 1) ts) ≡ size (read n i ts) + nat_abs (get_or ts i zero_term).coefficient
  unfolding size view_term
  size_more = sum_more ℕ_addition (λ k c. nat_abs c)

  -- those selected: with it, or not
  pub select_more : (f : List ℕ → ℤ → Bool) → T (f (term_at n i ts).exponents (term_at n i ts).coefficient)
      → select f (read n (i + 1) ts) ≡ select f (read n i ts) ++ (term_at n i ts ∷ [])
  select_more f t = ap (select f) read_more ∙ select_in f (read n i ts) (term_at n i ts) t

  pub select_same : (f : List ℕ → ℤ → Bool) → T (not (f (term_at n i ts).exponents (term_at n i ts).coefficient))
      → select f (read n (i + 1) ts) ≡ select f (read n i ts)
  select_same f t = ap (select f) read_more ∙ select_out f (read n i ts) (term_at n i ts) t

  -- and a sum over them
  pub sum_select_more : {A : Type 0} (N : Addition A) (g : List ℕ → ℤ → A) (f : List ℕ → ℤ → Bool)
      → T (f (term_at n i ts).exponents (term_at n i ts).coefficient)
      → sum_over N.plus N.nothing g (select f (read n (i + 1) ts))
      ≡ N.plus (sum_over N.plus N.nothing g (select f (read n i ts))) (at_term N g (term_at n i ts))
  sum_select_more N g f t = ap (sum_over N.plus N.nothing g) (select_more f t)
      ∙ sum_snoc N g (select f (read n i ts)) (term_at n i ts)

  -- their images
  pub map_more : {A : Type 0} (f : P.Term ℤ → A)
      → map f (read n (i + 1) ts) ≡ map f (read n i ts) ++ (f (term_at n i ts) ∷ [])
  map_more f = ap (map f) read_more ∙ map-append f (read n i ts) (term_at n i ts ∷ [])

-- ---- the terms that are left, of the first c
module _ (n c : ℕ) (ts : List Term) (w : c ≤ length ts) where
  pub rest_more : (i : ℕ) → i < c → drop i (read n c ts) ≡ term_at n i ts ∷ drop (i + 1) (read n c ts)
  rest_more i h = drop-cons (read n c ts) i (view_term n zero_term) (omega (arith, length_read n c ts w))
      ∙ ap₂ ◌∷◌ (get_or-map (view_term n) (take c ts) i zero_term ∙ ap (view_term n) (get_or-take c ts i zero_term h))
      (ap (λ j. drop j (read n c ts)) (sym (add-one i)))

  pub rest_end : (i : ℕ) → c ≤ i → drop i (read n c ts) ≡ []
  rest_end i h = drop_of_length-le (read n c ts) {i = i} (omega (arith, length_read n c ts w))

-- ---- a store of one more term after packed ones
pub packed_more : (p : Terms) (i : ℕ) (t : P.Term ℤ) → length p ≡ i → i < most_terms
    → set (pad (map pack_term p)) i (pack_term t) ≡ pad (map pack_term (p ++ (t ∷ [])))
packed_more p i t e h = pad_more (map pack_term p) i (pack_term t) (length-map p pack_term ∙ e) h
    ∙ ap pad (sym (map-append pack_term p (t ∷ [])))

-- an iteration of a loop that maps: the next term's image goes to the next place
pub map_iteration : (f : P.Term ℤ → P.Term ℤ) (n i : ℕ) (ts out : List Term) (t : Term) → i < length ts → i < most_terms
    → out ≡ pad (map pack_term (map f (read n i ts))) → t ≡ pack_term (f (term_at n i ts))
    → set out i t ≡ pad (map pack_term (map f (read n (i + 1) ts)))
map_iteration f n i ts out t h k o e = ap₂ (λ l s. set l i s) o e
    ∙ packed_more (map f (read n i ts)) i _ (length-map (read n i ts) f ∙ length_read n i ts (omega arith)) k
    ∙ ap (λ p. pad (map pack_term p)) (sym (map_more n i ts h f))

-- an iteration of a loop that selects: a term that passes goes after those before it
pub select_iteration : (f : List ℕ → ℤ → Bool) (n i j : ℕ) (ts out : List Term) → i < length ts → j < most_terms
    → T (f (term_at n i ts).exponents (term_at n i ts).coefficient)
    → j ≡ length (select f (read n i ts)) → out ≡ pad (map pack_term (select f (read n i ts)))
    → set out j (pack_term (term_at n i ts)) ≡ pad (map pack_term (select f (read n (i + 1) ts)))
select_iteration f n i j ts out h k t c o = ap (λ l. set l j (pack_term (term_at n i ts))) o
    ∙ packed_more (select f (read n i ts)) j (term_at n i ts) (sym c) k
    ∙ ap (λ p. pad (map pack_term p)) (sym (select_more n i ts h f t))

-- a loop that sums g over the terms that pass f
pub record Summed {A : Type 0} (N : Addition A) (g : List ℕ → ℤ → A) (f : List ℕ → ℤ → Bool) (m : Model) (total : A)
    (i : ℕ) : Type 0 where
  pub within : i ≤ m.count
  pub sum : total ≡ sum_over N.plus N.nothing g (select f (read m.n i (listed m)))

module _ {A : Type 0} (N : Addition A) (g : List ℕ → ℤ → A) (f : List ℕ → ℤ → Bool) (m : Model)
    (w : m.count ≤ length (listed m)) where
  pub summed_first : Summed N g f m N.nothing 0
  unfolding select sum_over
  summed_first = record { within = omega arith; sum = refl }

  module _ (total : A) (i : ℕ) (h : Summed N g f m total i) where
    pub summed_end : m.count ≤ i → total ≡ sum_over N.plus N.nothing g (select f (view m).terms)
    summed_end l =
        let e : i ≡ m.count = omega (arith, h.within) in
        h.sum ∙ ap (λ j. sum_over N.plus N.nothing g (select f (read m.n j (listed m)))) e
        ∙ ap (λ p. sum_over N.plus N.nothing g (select f p)) (sym (view_terms m w))

    module _ (l : i < m.count) where
      abbrev summand : P.Term ℤ
      summand = term_at m.n i (listed m)

      pub summed_more : f summand.exponents summand.coefficient ≡ true → (next : A)
          → next ≡ N.plus total (g summand.exponents summand.coefficient) → Summed N g f m next (i + 1)
      summed_more t next e = record {
        within = omega arith;
        sum = e ∙ ap (λ x. N.plus x (g summand.exponents summand.coefficient)) h.sum
            ∙ sym (sum_select_more m.n i (listed m) (omega arith) N g f (subst T (sym t) tt));
      }

      pub summed_same : f summand.exponents summand.coefficient ≡ false → Summed N g f m total (i + 1)
      summed_same t = record {
        within = omega arith;
        sum = h.sum ∙ ap (sum_over N.plus N.nothing g)
            (sym (select_same m.n i (listed m) (omega arith) f (subst (λ b. T (not b)) (sym t) tt)));
      }

      -- either, told by what is added: the summand, or nothing where it does not pass
      pub summed_iteration : (next : A)
          → next ≡ N.plus total (if_so N (f summand.exponents summand.coefficient)
          (g summand.exponents summand.coefficient))
          → Summed N g f m next (i + 1)
      unfolding if_so
      summed_iteration next e = go (f summand.exponents summand.coefficient) refl e
        where
          go : (b : Bool) → f summand.exponents summand.coefficient ≡ b
              → next ≡ N.plus total (if_so N b (g summand.exponents summand.coefficient))
              → Summed N g f m next (i + 1)
          go true t k = summed_more t next k
          go false t k = subst (λ x. Summed N g f m x (i + 1))
              (sym (k ∙ N.plus_comm total N.nothing ∙ N.plus_nothing total)) (summed_same t)

-- ---- sums of natural numbers
module _ (g : List ℕ → ℤ → ℕ) where
  -- fewer terms
  pub sum_prefix : (n i j : ℕ) (ts : List Term) → i ≤ j → sum_ℕ g (read n i ts) ≤ sum_ℕ g (read n j ts)
  unfolding sum_over
  sum_prefix n zero j ts h = omega arith
  sum_prefix n (suc i) zero ts h = absurd (omega arith)
  sum_prefix n (suc i) (suc j) [] h = omega arith
  sum_prefix n (suc i) (suc j) (t ∷ ts) h = omega (arith, sum_prefix n i j ts (omega arith))

  pub sum_select_le : (f : List ℕ → ℤ → Bool) (p : Terms) → sum_ℕ g (select f p) ≤ sum_ℕ g p
  sum_select_le f p = omega (arith, sum_split ℕ_addition g f p)

  -- one of them
  pub at_most_sum : (n i j : ℕ) (ts : List Term) → i < j → i < length ts
      → g (term_at n i ts).exponents (term_at n i ts).coefficient ≤ sum_ℕ g (read n j ts)
  at_most_sum n i j ts h l =
      omega (arith, sum_more n i ts l ℕ_addition g, sum_prefix n (i + 1) j ts (omega arith))

-- the size of a sum of integers
pub sum_abs : (g : List ℕ → ℤ → ℕ) (h : List ℕ → ℤ → ℤ) → ((k : List ℕ) (c : ℤ) → nat_abs (h k c) ≤ g k c)
    → (p : Terms) → nat_abs (sum_ℤ h p) ≤ sum_ℕ g p
unfolding sum_over
sum_abs g h b [] = omega arith
sum_abs g h b (t ∷ p) = omega (
  arith,
  natAbs_add (h t.exponents t.coefficient) (sum_ℤ h p),
  b t.exponents t.coefficient,
  sum_abs g h b p,
)

-- of those selected, with one more
pub sum_room : (f : List ℕ → ℤ → Bool) (h : List ℕ → ℤ → ℤ) (n i j : ℕ) (ts : List Term) → i < j → i < length ts
    → nat_abs (sum_ℤ h (select f (read n i ts))) + nat_abs (h (term_at n i ts).exponents (term_at n i ts).coefficient)
    ≤ sum_ℕ (λ k c. nat_abs (h k c)) (read n j ts)
sum_room f h n i j ts l w = omega (
  arith,
  sum_abs (λ k c. nat_abs (h k c)) h (λ k c. omega arith) (select f (read n i ts)),
  sum_select_le (λ k c. nat_abs (h k c)) f (read n i ts),
  sum_more n i ts w ℕ_addition (λ k c. nat_abs (h k c)),
  sum_prefix (λ k c. nat_abs (h k c)) n (i + 1) j ts (omega arith),
)

-- each coefficient is within the span
pub within_span : (m : Model) (i : ℕ) → m.count ≤ length (listed m) → i < m.count
    → nat_abs (get_or (listed m) i zero_term).coefficient ≤ span (view m)
unfolding span size view_term
within_span m i w h = rw (view_terms m w)
    (omega (arith, at_most_sum (λ k c. nat_abs c) m.n i m.count (listed m) h (omega arith)))

-- so are the terms read so far
pub read_within_span : (m : Model) (i : ℕ) → m.count ≤ length (listed m) → i ≤ m.count
    → size (read m.n i (listed m)) + m.radius ≤ span (view m)
unfolding span size view
read_within_span m i w h = omega (
  arith,
  ap size (view_terms m w),
  sum_prefix (λ k c. nat_abs c) m.n i m.count (listed m) h,
)

-- ---- what soundness says of a struct
pub record Limits (m : Model) : Type 0 where
  pub some : 1 ≤ m.n
  pub width : m.n ≤ key_width
  pub few : m.count ≤ most_terms
  pub small : span (view m) ≤ span_limit

pub limits : (d : ℕ) (m : Model) → T (sound d (view m)) → Limits m
unfolding view
limits d m h = record {
  some = (vars_range m.n (sound_vars d (view m) h)).0;
  width = (vars_range m.n (sound_vars d (view m) h)).1;
  few = omega (arith, (sound_parts d (view m) h).1.count, length_view m);
  small = (sound_parts d (view m) h).1.small_span;
}

-- the key of each term fits
every_read : (f : List ℕ → ℤ → Bool) (n i j : ℕ) (ts : List Term) → i < j → i < length ts → T (every f (read n j ts))
    → T (f (term_at n i ts).exponents (term_at n i ts).coefficient)
every_read f n i j [] h l t = absurd (omega arith)
every_read f n i zero (s ∷ ts) h l t = absurd (omega arith)
every_read f n zero (suc j) (s ∷ ts) h l t = every_head f (view_term n s) (read n j ts) t
every_read f n (suc i) (suc j) (s ∷ ts) h l t =
    every_read f n i j ts (omega arith) (omega arith) (every_tail f (view_term n s) (read n j ts) t)

pub key_fits_at : (d : ℕ) (m : Model) (i : ℕ) → d ≤ most_degree → T (sound d (view m)) → m.count ≤ length (listed m)
    → i < m.count → T (key_fits key_width m.n (get_or (listed m) i zero_term).key)
unfolding view view_term most_degree
key_fits_at d m i s h w l = fits_key m.n d (get_or (listed m) i zero_term).key (limits d m h).width (omega arith)
    (every_read (λ k c. fits m.n d k) m.n i m.count (listed m) l (omega arith)
    (subst (λ p. T (every (λ k c. fits m.n d k) p)) (view_terms m w) (sound_parts d (view m) h).0.fitting))

-- ---- models of at most one term
pub constant_zero : (n : ℕ) (v : ℤ) → is_nonzero v ≡ false → constant n v ≡ zero_model n
unfolding constant zero_model drop_zeros select
constant_zero n v h = rw (h, select)

pub constant_one_term : (n : ℕ) (v : ℤ) → n ≤ key_width → is_nonzero v ≡ true → constant n v ≡ one_term n 0 v
unfolding constant one_term drop_zeros select
constant_one_term n v l h = rw (h, select, monomial_zero n l)

pub variable_one_term : (n i : ℕ) → 1 ≤ i → i ≤ n → n ≤ key_width
    → variable n i ≡ one_term n (key_raised i 0) (pos U)
unfolding variable one_term key_raised
variable_one_term n i s h l = rw (NatL.zero-add (16 ^ (key_width - i)), monomial_variable n i s h l)

-- ---- refusals
pub refusal_cause : (r : Refusal) → refusal (cause r) ≡ r
unfolding refusal cause
refusal_cause BadLength = refl
refusal_cause BadMark = refl
refusal_cause BadLimits = refl
refusal_cause BadOffset = refl
refusal_cause BadModel = refl
refusal_cause BadStep = refl
refusal_cause OverSpan = refl
refusal_cause TooManyTerms = refl
refusal_cause LeavesBox = refl
refusal_cause VariablesDiffer = refl
refusal_cause ShortBuffer = refl
refusal_cause Uncertified = refl
refusal_cause NotOneVariable = refl
refusal_cause CutTooDeep = refl
refusal_cause BadReading = refl
refusal_cause BadDouble = refl
refusal_cause BadRank = refl

pub cause_refusal : (r : R.Refusal) → cause (refusal r) ≡ r
unfolding refusal cause
cause_refusal R.bad_length = refl
cause_refusal R.bad_mark = refl
cause_refusal R.bad_limits = refl
cause_refusal R.bad_offset = refl
cause_refusal R.bad_model = refl
cause_refusal R.bad_step = refl
cause_refusal R.over_span = refl
cause_refusal R.too_many_terms = refl
cause_refusal R.leaves_box = refl
cause_refusal R.variables_differ = refl
cause_refusal R.short_buffer = refl
cause_refusal R.uncertified = refl
cause_refusal R.not_one_variable = refl
cause_refusal R.cut_too_deep = refl
cause_refusal R.bad_reading = refl
cause_refusal R.bad_double = refl
cause_refusal R.bad_rank = refl
