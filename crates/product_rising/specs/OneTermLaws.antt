-- The products of one term with others whose keys rise: they rise, so what is kept of them stands in order as it comes.
use Rattle.std.specs.Prelude.{◌≡◌, T, leb, ℤ, pos, nat_abs, ◌*ℤ◌, length, get_or}
use Rattle.std.proofs.Math.Path.{refl, sym, ap, ap₂}
use Rattle.std.proofs.Common.{◌∙◌, ltb→lt, lt→ltb}
use mathlib.Core.List.{List, [], ◌∷◌, ◌++◌, append-nil}
use Prim.Native.Nat.{ℕ, zero, suc, ◌+◌, ◌*◌, ◌^◌, ◌<◌, ◌≤◌}
use Rattle.std.proofs.Math.Decide.{dec_lt}
use native.Mathlib.Omega.{arith}
use Rattle.std.proofs.Math.IntN.{*ℤ_comm, +ℤ_idl}
use Rattle.std.proofs.lemmas.List.{length-map}
use Rattle.std.proofs.Math.ListN.{length-append}
use Rattle.algebra.specs.Integer.{nat_abs_mul}
use Rattle.algebra.specs.IntegerRing.{ℤR}
use Rattle.algebra.specs.Lexicographic.{less}
use Rattle.polynomial.specs.Polynomial.{Term, add_exponents, times, product}
use Rattle.numbers.specs.Fixed.{round}
use Rattle.calculus.specs.Terms.{Terms, term, select, size, rising, rising_from, distinct, is_nonzero, drop_zeros}
use Rattle.calculus.specs.Terms.{map_coefficients}
use Rattle.calculus.specs.Model.{most_terms}
use Rattle.calculus_laws.specs.TestLaws.{and_left, and_right, both}
use Rattle.calculus_laws.specs.TermsLaws.{length_select}
use Rattle.calculus_laws.specs.CanonicalLaws.{SameCoefficients, coefficient_at, coefficient_nil}
use Rattle.product_sums.specs.TermArrays.{at_key, terms}
use Rattle.product_sums.specs.InsertLaws.{less_key}
use Rattle.product_sums.specs.declared.Gathered.{Gathered}
use Rattle.product_sums.specs.Wide.{degree_byte}
use Rattle.product_sums.specs.Kept.{wide_within_order, wide_kept}
use Rattle.product_sums.specs.ProductSums.{accumulated_all, ProductGathered}
use Rattle.product_sums.specs.ProductsLaws.{size_nil, size_cons, size_times}
use Rattle.product_sums.specs.AccumulatedAllLaws.{distinct_accumulated_all, coefficient_accumulated_all}
use Rattle.product_rising.specs.Rising.{in_turn, OneReady, Part}
use Rattle.product_rising.specs.RisingLaws.{size_in_turn_step, scanned_few}
use Rattle.product_rising.specs.SameSumsLaws.{scanned_gathering}

-- ---- terms in arrays
-- one more of them
terms_more : (n : ℕ) (keys : List ℕ) (sums : List ℤ) → n < length keys → n < length sums
    → terms (suc n) keys sums ≡ terms n keys sums ++ (at_key (get_or keys n 0) (get_or sums n (pos 0)) ∷ [])
unfolding terms
terms_more n [] sums h l = absurd (omega arith)
terms_more n (x ∷ keys) [] h l = absurd (omega arith)
terms_more zero (x ∷ keys) (y ∷ sums) h l = refl
terms_more (suc n) (x ∷ keys) (y ∷ sums) h l =
    ap (λ (r : Terms). at_key x y ∷ r) (terms_more n keys sums (omega arith) (omega arith))

-- one of them
terms_one : (keys : List ℕ) (sums : List ℤ) → 1 ≤ length keys → 1 ≤ length sums
    → terms 1 keys sums ≡ at_key (get_or keys 0 0) (get_or sums 0 (pos 0)) ∷ []
unfolding terms
terms_one keys sums h l = terms_more 0 keys sums (omega arith) (omega arith)

-- ---- a product with one term
add_exponents_comm : (k l : List ℕ) → add_exponents k l ≡ add_exponents l k
unfolding add_exponents
add_exponents_comm [] [] = refl
add_exponents_comm [] (b ∷ l) = refl
add_exponents_comm (a ∷ k) [] = refl
add_exponents_comm (a ∷ k) (b ∷ l) =
    let e : a + b ≡ b + a = omega arith in ap₂ (λ x (y : List ℕ). x ∷ y) e (add_exponents_comm k l)

module _ (t : Term ℤ) where
  times_append : (p q : Terms) → times ℤR t (p ++ q) ≡ times ℤR t p ++ times ℤR t q
  unfolding times
  times_append [] q = refl
  times_append (s ∷ p) q =
      ap (λ (r : Terms).
      term (t.coefficient *ℤ s.coefficient) (add_exponents t.exponents s.exponents) ∷ r) (times_append p q)

  product_first : (q : Terms) → product ℤR (t ∷ []) q ≡ times ℤR t q
  unfolding product
  product_first q = append-nil (times ℤR t q)

  product_second : (p : Terms) → product ℤR p (t ∷ []) ≡ times ℤR t p
  unfolding product times
  product_second [] = refl
  product_second (s ∷ p) =
      ap₂ (λ (x : Term ℤ) (r : Terms). x ∷ r)
      (ap₂ term (*ℤ_comm s.coefficient t.coefficient) (add_exponents_comm s.exponents t.exponents))
      (product_second p)

-- its keys rise with those of the others
module _ (key : ℕ) (c : ℤ) where
  less_more : (a b : ℕ) → T (less (a ∷ []) (b ∷ [])) → T (less ((key + a) ∷ []) ((key + b) ∷ []))
  less_more a b h =
      let l : a < b = ltb→lt a b (rw (less_key a b) at h) in
      rw (less_key (key + a) (key + b)) (lt→ltb (key + a) (key + b) (omega arith))

  rising_after : (a n : ℕ) (keys : List ℕ) (sums : List ℤ) → T (rising_from (a ∷ []) (terms n keys sums))
      → T (rising_from ((key + a) ∷ []) (times ℤR (at_key key c) (terms n keys sums)))
  unfolding terms times add_exponents rising_from
  rising_after a zero keys sums h = tt
  rising_after a (suc n) [] sums h = tt
  rising_after a (suc n) (k ∷ keys) [] h = tt
  rising_after a (suc n) (k ∷ keys) (z ∷ sums) h =
      both (less ((key + a) ∷ []) ((key + k) ∷ [])) _ (less_more a k (and_left (less (a ∷ []) (k ∷ [])) _ h))
      (rising_after k n keys sums (and_right (less (a ∷ []) (k ∷ [])) _ h))

  times_rising : (n : ℕ) (keys : List ℕ) (sums : List ℤ) → T (rising (terms n keys sums))
      → T (rising (times ℤR (at_key key c) (terms n keys sums)))
  unfolding terms times add_exponents rising
  times_rising zero keys sums h = tt
  times_rising (suc n) [] sums h = tt
  times_rising (suc n) (k ∷ keys) [] h = tt
  times_rising (suc n) (k ∷ keys) (z ∷ sums) h = rising_after k n keys sums h

  -- one by one
  abbrev pub one_part : (kb : List ℕ) (cb : List ℤ) → ℕ → Terms
  one_part kb cb j = at_key (key + get_or kb j 0) (c *ℤ get_or cb j (pos 0)) ∷ []

  one_product : (kb : List ℕ) (cb : List ℤ) (j : ℕ)
      → one_part kb cb j ≡ times ℤR (at_key key c) (at_key (get_or kb j 0) (get_or cb j (pos 0)) ∷ [])
  unfolding times add_exponents
  one_product kb cb j = refl

  one_by_one : (n : ℕ) (kb : List ℕ) (cb : List ℤ) → n ≤ length kb → n ≤ length cb
      → in_turn (one_part kb cb) n ≡ times ℤR (at_key key c) (terms n kb cb)
  unfolding in_turn
  one_by_one zero kb cb h l = unfold terms times in refl
  one_by_one (suc n) kb cb h l =
      ap₂ (λ (p q : Terms). p ++ q) (one_by_one n kb cb (omega arith) (omega arith)) (one_product kb cb n)
      ∙ sym (times_append (at_key key c) (terms n kb cb) (at_key (get_or kb n 0) (get_or cb n (pos 0)) ∷ []))
      ∙ sym (ap (times ℤR (at_key key c)) (terms_more n kb cb (omega arith) (omega arith)))

  one_length : (n : ℕ) (kb : List ℕ) (cb : List ℤ) → length (in_turn (one_part kb cb) n) ≡ n
  unfolding in_turn
  one_length zero kb cb = refl
  one_length (suc n) kb cb =
      length-append (in_turn (one_part kb cb) n) (one_part kb cb n) ∙ omega (arith, one_length n kb cb)

-- no more terms are kept than there are
kept_length : (d : ℕ) (p : Terms) → length (wide_kept d p) ≤ length p
unfolding wide_kept wide_within_order drop_zeros map_coefficients
kept_length d p =
    let within = select (λ k z. leb (degree_byte k) d) p in
    omega (
      arith,
      length_select (λ k c. is_nonzero c) (map_coefficients round within),
      length-map within (λ (t : Term ℤ). term (round t.coefficient) t.exponents),
      length_select (λ k z. leb (degree_byte k) d) p,
    )

-- ---- all of them
module _ {ka : List ℕ} {ca : List ℤ} {kb : List ℕ} {cb : List ℤ} {nb : ℕ} (h : OneReady ka ca kb cb nb) where
  abbrev key : ℕ
  key = get_or ka 0 0

  abbrev c : ℤ
  c = get_or ca 0 (pos 0)

  abbrev all : Terms
  all = in_turn (one_part key c kb cb) nb

  one : terms 1 ka ca ≡ at_key key c ∷ []
  one = terms_one ka ca h.first_key h.first_coefficient

  all_is : all ≡ times ℤR (at_key key c) (terms nb kb cb)
  all_is = one_by_one key c nb kb cb h.keys_long h.coefficients_long

  -- their size, and that of each
  pub all_small : size all < 2 ^ 63
  all_small =
      let e : size (terms 1 ka ca) ≡ nat_abs c = rw one (omega (arith, size_cons (at_key key c) [], size_nil)) in
      rw (all_is, size_times) (rw e at h.small)

  pub one_small : (j : ℕ) → j < nb → nat_abs c * nat_abs (get_or cb j (pos 0)) < 2 ^ 63
  one_small j l =
      omega (
        arith,
        size_in_turn_step (one_part key c kb cb) j nb l,
        size_cons (at_key (key + get_or kb j 0) (c *ℤ get_or cb j (pos 0))) [],
        nat_abs_mul c (get_or cb j (pos 0)),
        all_small,
      )

  -- what is kept of them
  all_rising : T (rising all)
  all_rising = rw all_is (times_rising key c nb kb cb h.keys_rise)

  products_are : product ℤR (terms 1 ka ca) (terms nb kb cb) ≡ all
  products_are = rw one (product_first (at_key key c) (terms nb kb cb)) ∙ sym all_is

  few_kept : (d : ℕ) → length (wide_kept d all) ≤ most_terms
  few_kept d = omega (arith, kept_length d all, one_length key c nb kb cb, h.few)

  sums_same : SameCoefficients all (accumulated_all [] all)
  unfolding distinct
  sums_same k =
      sym (coefficient_accumulated_all [] all tt k ∙ rw (coefficient_nil k) (+ℤ_idl (coefficient_at all k)))

  pub one_gathered : {d : ℕ} {kept₀ kept : List ℕ} {coefficients₀ coefficients : List ℤ} {r : Gathered}
      → Part d all 0 kept₀ coefficients₀ kept coefficients r
      → ProductGathered d 1 ka ca nb kb cb kept coefficients r
  unfolding distinct
  one_gathered {d} {kept₀} {kept} {coefficients₀} {coefficients} {r} x =
      rw products_are
      (scanned_gathering d all (accumulated_all [] all) all_rising (distinct_accumulated_all [] all tt) sums_same
      (scanned_few d all kept₀ kept coefficients₀ coefficients r x few))
    where
      few : r.count ≤ most_terms
      few = elim (dec_lt most_terms r.count) [
        | yes l ↦ absurd (omega (arith, x.many l, few_kept d))
        | no l ↦ omega arith
      ]

  -- and where the one term is the second factor
  pub turned_gathered : {d : ℕ} {kept : List ℕ} {coefficients : List ℤ} {r : Gathered}
      → ProductGathered d 1 ka ca nb kb cb kept coefficients r
      → ProductGathered d nb kb cb 1 ka ca kept coefficients r
  turned_gathered g =
      let e : product ℤR (terms 1 ka ca) (terms nb kb cb) ≡ product ℤR (terms nb kb cb) (terms 1 ka ca) =
      rw one (product_first (at_key key c) (terms nb kb cb) ∙ sym (product_second (at_key key c) (terms nb kb cb))) in
      rw e at g
