-- The largest exponent of a variable, and the terms of one of its powers: one iteration of each loop over a model's
-- terms.
use Rattle.std.specs.Prelude.{◌≡◌, Bool, ℕ, ◌+◌, ◌-◌, ◌≤◌, ◌<◌, max, eqb, ℤ, get_or, set}
use Rattle.std.proofs.Math.Path.{refl, sym, ap, ap₂}
use Rattle.std.proofs.Common.{◌∙◌, subst, eqb→eq, length-append}
use mathlib.Core.List.{List, [], ◌∷◌, ◌++◌, map, map-append}
use native.Mathlib.Omega.{arith}
use Rattle.std.proofs.Math.Dec.{T, not_T, eqb_refl}
use Rattle.std.proofs.Math.IntN.{nat_abs}
use Rattle.std.proofs.Math.ListN.{length, length-map}
use Rattle.polynomial.specs.Polynomial as P
use Rattle.polynomial.specs.Polynomial.{exponent, without}
use Rattle.calculus.specs.Monomial.{index_of}
use Rattle.calculus.specs.Key.{key_width, key_fits}
use Rattle.calculus.specs.Terms.{Terms, term, select, size, map_monomials}
use Rattle.calculus_laws.specs.TermsLaws.{length_select}
use Rattle.calculus_laws.specs.SumLaws.{ℕ_addition, sum_map_monomials}
use Rattle.calculus.specs.Model as C
use Rattle.calculus.specs.Model.{most_degree, most_terms, span}
use Rattle.calculus.specs.Operations.{largest_exponent, part_terms, part}
use Rattle.calculus_laws.specs.SoundLaws.{Sound, part_canonical}
use Rattle.model_types.specs.declared.Term.{Term}
use Rattle.model_types.specs.declared.Model.{Model}
use Rattle.model_types.specs.ModelStruct.{zero_term, places, view_term, view, pack_term, pad, pack, listed, of_terms}
use Rattle.model_types.specs.ModelStructLaws.{read, term_at, length_read, view_terms, read_more}
use Rattle.model_types.specs.ModelStructLaws.{select_more, select_same}
use Rattle.model_types.specs.ModelStructLaws.{sum_select_le, packed_more, limits, key_fits_at}
use Rattle.model_keys.specs.Keys.{key_exponent, key_without, Slot}
use Rattle.model_powers.specs.Powers.{InVariable}
use Rattle.model_keys.specs.KeyExponentLaws.{monomial_exponent, monomial_without}

-- ---- one more term
largest_snoc : (i : ℕ) (p : Terms) (t : P.Term ℤ)
    → largest_exponent i (p ++ (t ∷ [])) ≡ max (largest_exponent i p) (exponent (index_of i) t.exponents)
unfolding largest_exponent
largest_snoc i [] t = omega arith
largest_snoc i (s ∷ p) t = omega (arith, largest_snoc i p t)

module _ (i k : ℕ) where
  -- the terms of the k-th power
  abbrev of_power : List ℕ → ℤ → Bool
  of_power m c = eqb (exponent (index_of i) m) k

  -- a term without variable i
  abbrev freed : P.Term ℤ → P.Term ℤ
  freed t = term t.coefficient (without (index_of i) t.exponents)

  length_part : (p : Terms) → length (part_terms i k p) ≤ length p
  unfolding part_terms map_monomials
  length_part p = omega (arith, length-map (select of_power p) freed, length_select of_power p)

  -- a part of a sound model is sound
  pub part_sound : (n d : ℕ) (f : C.Model) → Sound n d f → Sound n d (part i k f)
  unfolding part
  part_sound n d f s = (
    part_canonical n d i k f s.0,
    record {
      count = omega (arith, length_part f.terms, s.1.count);
      small_span = unfold span size part_terms in omega (
        arith,
        sum_map_monomials ℕ_addition (λ m c. nat_abs c) (without (index_of i)) (select of_power f.terms),
        sum_select_le (λ m c. nat_abs c) of_power f.terms,
        s.1.small_span,
      );
    },
  )

  module _ (n j : ℕ) (ts : List Term) (h : j < length ts) where
    part_more : exponent (index_of i) (term_at n j ts).exponents ≡ k
        → part_terms i k (read n (j + 1) ts) ≡ part_terms i k (read n j ts) ++ (freed (term_at n j ts) ∷ [])
    unfolding part_terms map_monomials
    part_more e = ap (map freed) (select_more n j ts h of_power (subst (λ x. T (eqb x k)) (sym e) (eqb_refl k)))
        ∙ map-append freed (select of_power (read n j ts)) (term_at n j ts ∷ [])

    part_same : (exponent (index_of i) (term_at n j ts).exponents ≡ k → ⊥)
        → part_terms i k (read n (j + 1) ts) ≡ part_terms i k (read n j ts)
    unfolding part_terms map_monomials
    part_same e = ap (map freed) (select_same n j ts h of_power (not_T (eqb _ k) (λ t. e (eqb→eq _ k t))))

-- ---- a model in memory, and one of its variables
module _ (i : ℕ) (f : Model) where
  -- its first j terms
  abbrev before : ℕ → Terms
  before j = read f.n j (listed f)

  -- its next term
  abbrev next : ℕ → P.Term ℤ
  next j = term_at f.n j (listed f)

  -- those of the k-th power among the first j, without the variable
  abbrev parted : ℕ → ℕ → Terms
  parted k j = part_terms i k (before j)

  -- what is found of the terms from j on: their largest exponent
  pub record Largest (largest j : ℕ) : Type 0 where
    pub within : j ≤ f.count
    pub found : largest_exponent i (view f).terms ≡ max (largest_exponent i (before j)) largest

  -- what is stored after j terms
  pub record Taken (k : ℕ) (out : List Term) (count j : ℕ) : Type 0 where
    pub within : j ≤ f.count
    pub stored : out ≡ pad (map pack_term (parted k j))
    pub many : length (parted k j) ≡ count

pub slot : {i : ℕ} {f : Model} → InVariable i f → Slot i
slot {f = f} s = record { first = s.first; last = omega (arith, s.last, (limits most_degree f s.model).width) }

module _ {i : ℕ} {f : Model} (s : InVariable i f) (w : f.count ≤ length (listed f)) where
  width : f.n ≤ key_width
  width = (limits most_degree f s.model).width

  -- the key of the next term
  module _ (j : ℕ) (h : j < f.count) where
    abbrev key_at : ℕ
    key_at = (get_or (listed f) j zero_term).key

    fits_at : T (key_fits key_width f.n key_at)
    fits_at = key_fits_at most_degree f j (omega arith) s.model w h

    exponent_at : exponent (index_of i) (next i f j).exponents ≡ key_exponent i key_at
    unfolding view_term
    exponent_at = monomial_exponent f.n i key_at width s.first s.last fits_at

    without_at : (t : Term) → t.key ≡ key_without i key_at → t.coefficient ≡ (get_or (listed f) j zero_term).coefficient
        → t ≡ pack_term (freed i (key_exponent i key_at) (next i f j))
    unfolding view_term pack_term
    without_at t a b = ap₂ (λ (z : ℕ) (c : ℤ). record { key = z; coefficient = c })
        (a ∙ sym (monomial_without f.n i key_at width s.first s.last fits_at)) b

  -- ---- the largest exponent
  pub largest_first : Largest i f 0 f.count
  largest_first = record {
    within = omega arith;
    found = omega (arith, ap (largest_exponent i) (view_terms f w));
  }

  module _ {largest j : ℕ} (l : Largest i f largest j) where
    pub largest_iteration : 0 < j → (h : j - 1 < f.count) {more : ℕ}
        → more ≡ max largest (key_exponent i (key_at (j - 1) h)) → Largest i f more (j - 1)
    largest_iteration z h e = record {
      within = omega arith;
      found = omega (arith, l.found, last_one, exponent_at (j - 1) h, e);
    }
      where
        again : j ≡ j - 1 + 1
        again = omega (arith, z)

        last_one : largest_exponent i (before i f j)
            ≡ max (largest_exponent i (before i f (j - 1))) (exponent (index_of i) (next i f (j - 1)).exponents)
        last_one = ap (λ j. largest_exponent i (before i f j)) again
            ∙ ap (largest_exponent i) (read_more f.n (j - 1) (listed f) (omega (arith, h, w)))
            ∙ largest_snoc i (before i f (j - 1)) (next i f (j - 1))

    pub largest_end : j ≤ 0 → largest ≡ largest_exponent i (view f).terms
    unfolding largest_exponent
    largest_end h =
        let e : j ≡ 0 = omega (arith, h) in
        let none : largest_exponent i (before i f j) ≡ 0 = ap (λ j. largest_exponent i (before i f j)) e in
        omega (arith, l.found, none)

  -- ---- the terms of one power
  module _ {k : ℕ} where
    pub taken_first : Taken i f k (pad []) 0 0
    unfolding part_terms map_monomials select
    taken_first = record { within = omega arith; stored = refl; many = refl }

    module _ {out : List Term} {count j : ℕ} (l : Taken i f k out count j) where
      pub taken_room : j < f.count → count < most_terms
      taken_room h = omega (
        arith,
        l.many,
        length_part i k (before i f j),
        length_read f.n j (listed f) (omega arith),
        (limits most_degree f s.model).few,
      )

      pub taken_in : (h : j < f.count) → key_exponent i (key_at j h) ≡ k
          → {t : Term} → t.key ≡ key_without i (key_at j h)
          → t.coefficient ≡ (get_or (listed f) j zero_term).coefficient
          → Taken i f k (set out count t) (count + 1) (j + 1)
      taken_in h e {t = t} a b = record {
        within = omega arith;
        stored = ap₂ (λ o t. set o count t) l.stored (without_at j h t a b)
            ∙ packed_more (parted i f k j) count _ l.many (taken_room h)
            ∙ ap (λ p. pad (map pack_term p)) (sym more);
        many = ap length more ∙ length-append (parted i f k j) _ ∙ ap (λ n. n + 1) l.many;
      }
        where
          more : parted i f k (j + 1) ≡ parted i f k j ++ (freed i k (next i f j) ∷ [])
          more = part_more i k f.n j (listed f) (omega arith) (exponent_at j h ∙ e)

      pub taken_out : (h : j < f.count) → (key_exponent i (key_at j h) ≡ k → ⊥) → Taken i f k out count (j + 1)
      taken_out h e = record {
        within = omega arith;
        stored = l.stored ∙ ap (λ p. pad (map pack_term p)) (sym same);
        many = ap length same ∙ l.many;
      }
        where
          same : parted i f k (j + 1) ≡ parted i f k j
          same = part_same i k f.n j (listed f) (omega arith) (λ q. e (sym (exponent_at j h) ∙ q))

      pub taken_end : f.count ≤ j
          → of_terms f.n count 0 out ≡ pack (part i k (view f))
      unfolding part pack view
      taken_end h = ap₂ (λ (c : ℕ) (l : List Term). of_terms f.n c 0 l)
          (sym l.many ∙ ap (λ p. length (part_terms i k p)) all)
          (l.stored ∙ ap (λ p. pad (map pack_term (part_terms i k p))) all)
        where
          all : before i f j ≡ map (view_term f.n) (places f.count (listed f))
          all = let e : j ≡ f.count = omega (arith, l.within) in rw e (sym (view_terms f w))
