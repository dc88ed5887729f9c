-- The product of a model with a constant is one pass over its terms.
use Rattle.std.specs.Prelude.{◌≡◌, Bool, ◌&&◌, ℕ, zero, suc, ◌+◌, ◌*◌, eqb, ℤ, pos, ◌*ℤ◌, length}
use Rattle.std.proofs.Math.Path.{refl, sym, ap, ap₂, subst}
use Rattle.std.proofs.Common.{◌∙◌, eqb→eq}
use Rattle.std.proofs.Math.Bool.{true, false, not}
use mathlib.Core.List.{List, [], ◌∷◌, ◌++◌}
use native.Mathlib.Omega.{arith}
use Rattle.std.proofs.Math.Dec.{T, leb}
use Rattle.std.proofs.Math.IntN.{nat_abs}
use Rattle.algebra.specs.IntegerRing.{ℤR}
use Rattle.algebra.specs.RingLaws.{*-zero}
use Rattle.polynomial.specs.Polynomial.{Term, add_exponents, times, product}
use Rattle.numbers.specs.Fixed.{round, residual, round_up}
use Rattle.numbers.proofs.FixedLaws.{round_zero, residual_zero}
use Rattle.calculus.specs.Monomial.{degree, zeros}
use Rattle.calculus.specs.Terms.{Terms, term, every, select, sum_over, sum_ℕ, size, map_coefficients, rising}
use Rattle.calculus.specs.Terms.{is_nonzero}
use Rattle.calculus.specs.Terms.{drop_zeros, insert, collect}
use Rattle.calculus_laws.specs.TermsLaws.{by_select, every_head, every_tail, rising_map_coefficients, rising_any}
use Rattle.calculus_laws.specs.TermsLaws.{every_map_coefficients, every_implies, zero_coefficient}
use Rattle.calculus_laws.specs.SumLaws.{ℕ_addition, sum_map_coefficients}
use Rattle.calculus_laws.specs.TestLaws.{and_left, and_right}
use Rattle.calculus.specs.Model.{Model, fits}
use Rattle.calculus.specs.Operations.{limited, constant, products, within_order, above_order, kept, rounding, swept}
use Rattle.calculus.specs.Operations.{carried, error, multiply}
use Rattle.calculus_laws.specs.SoundLaws.{Canonical}
use Rattle.model_addition.specs.SumTermsLaws.{rising_above, insert_first}
use Rattle.model_scaling.specs.Scaling.{scaled_coefficient, scaled_residual, scaled_terms, scaled_error}

-- ---- rising terms are collected already
pub collect_rising : (p : Terms) → T (rising p) → collect p ≡ p
unfolding collect rising
collect_rising [] h = refl
collect_rising (t ∷ p) h = ap (insert t) (collect_rising p (rising_any t.exponents p h))
    ∙ insert_first t p (rising_above t.exponents p h)

-- ---- tests that all pass
select_all : (f : List ℕ → ℤ → Bool) (p : Terms) → T (every f p) → select f p ≡ p
select_all f [] h = unfold select in refl
select_all f (t ∷ p) h = by_select (λ q. q ≡ t ∷ p) f t p
    (λ y. ap (λ q. t ∷ q) (select_all f p (every_tail f t p h)))
    (λ z. absurd (clash (f t.exponents t.coefficient) (every_head f t p h) z))
  where
    clash : (b : Bool) → T b → T (not b) → ⊥
    clash true y z = z
    clash false y z = y

select_none : (f : List ℕ → ℤ → Bool) (p : Terms) → T (every f p) → select (λ k c. not (f k c)) p ≡ []
select_none f [] h = unfold select in refl
select_none f (t ∷ p) h = by_select (λ q. q ≡ []) (λ k c. not (f k c)) t p
    (λ y. absurd (clash (f t.exponents t.coefficient) (every_head f t p h) y))
    (λ z. select_none f p (every_tail f t p h))
  where
    clash : (b : Bool) → T b → T (not b) → ⊥
    clash true y z = z
    clash false y z = y

-- ---- the products
add_zeros : (k : List ℕ) (n : ℕ) → length k ≡ n → add_exponents k (zeros n) ≡ k
unfolding add_exponents zeros
add_zeros [] zero e = refl
add_zeros [] (suc n) e = absurd (omega arith)
add_zeros (a ∷ k) zero e = absurd (omega arith)
add_zeros (a ∷ k) (suc n) e =
    let z : a + 0 ≡ a = omega arith in
    ap₂ (λ a k. a ∷ k) z (add_zeros k n (omega arith))

abbrev by : ℤ → Terms → Terms
by X = map_coefficients (λ c. c *ℤ X)

module _ (n d : ℕ) (X : ℤ) where
  product_single : (p : Terms) → T (every (λ k c. fits n d k) p)
      → product ℤR p (term X (zeros n) ∷ []) ≡ by X p
  unfolding product times map_coefficients fits
  product_single [] h = refl
  product_single (t ∷ p) h = ap₂ (λ (k : List ℕ) (q : Terms). term (t.coefficient *ℤ X) k ∷ q)
      (add_zeros t.exponents n
      (eqb→eq (length t.exponents) n (and_left (eqb (length t.exponents) n) _
      (every_head (λ k c. fits n d k) t p h))))
      (product_single p (every_tail (λ k c. fits n d k) t p h))

  product_none : (p : Terms) → product ℤR p [] ≡ []
  unfolding product times
  product_none [] = refl
  product_none (t ∷ p) = product_none p

  degrees : (p : Terms) → T (every (λ k c. fits n d k) p) → T (every (λ k c. leb (degree k) d) p)
  degrees p h = every_implies (λ k c. fits n d k) (λ k c. leb (degree k) d)
      (λ k c t. unfold fits in and_right (eqb (length k) n) (leb (degree k) d) (unfold fits in t)) p h

-- ---- other coefficients, twice
map_twice : (u v : ℤ → ℤ) (p : Terms) → map_coefficients u (map_coefficients v p) ≡ map_coefficients (λ c. u (v c)) p
unfolding map_coefficients
map_twice u v [] = refl
map_twice u v (t ∷ p) = ap (λ q. term (u (v t.coefficient)) t.exponents ∷ q) (map_twice u v p)

-- by the constant 0 nothing is left
zero_terms : (p : Terms) → scaled_terms (pos 0) p ≡ []
unfolding scaled_terms scaled_coefficient map_coefficients drop_zeros
zero_terms [] = unfold select in refl
zero_terms (t ∷ p) = by_select (λ q. q ≡ []) (λ k c. is_nonzero c) _ _
    (λ y. absurd (no t.coefficient y)) (λ z. zero_terms p)
  where
    no : (c : ℤ) → T (is_nonzero (round (c *ℤ pos 0))) → ⊥
    no c y = unfold is_nonzero in
        subst (λ z. T (is_nonzero z)) (ap round (*-zero ℤR c) ∙ round_zero) y

zero_residuals : (p : Terms) → sum_ℕ (λ k c. scaled_residual (pos 0) c) p ≡ 0
unfolding scaled_residual sum_over
zero_residuals [] = refl
zero_residuals (t ∷ p) =
    let r : residual (t.coefficient *ℤ pos 0) ≡ 0 = ap residual (*-zero ℤR t.coefficient) ∙ residual_zero in
    let s = zero_residuals p in
    omega arith

-- ---- a model times a constant
module _ {n d : ℕ} (X : ℤ) (f : Model) (h : Canonical n d f) where
  abbrev g : Model
  g = constant f.vars X

  fitting : T (every (λ k c. fits f.vars d k) f.terms)
  fitting = subst (λ m. T (every (λ k c. fits m d k) f.terms)) (sym h.vars) h.fitting

  -- the constant's terms
  single : T (is_nonzero X) → g.terms ≡ term X (zeros f.vars) ∷ []
  unfolding constant drop_zeros
  single y = select_all (λ k c. is_nonzero c) (term X (zeros f.vars) ∷ []) (unfold every in both (is_nonzero X) y)
    where
      both : (b : Bool) → T b → T (b && true)
      both true y = tt
      both false y = y

  nothing : T (not (is_nonzero X)) → g.terms ≡ []
  unfolding constant drop_zeros
  nothing z = by_select (λ q. q ≡ []) (λ k c. is_nonzero c) (term X (zeros f.vars)) []
      (λ y. absurd (clash (is_nonzero X) y z)) (λ w. unfold select in refl)
    where
      clash : (b : Bool) → T b → T (not b) → ⊥
      clash true y z = z
      clash false y z = y

  carried_is : (q : Terms) → g.terms ≡ q → carried f g ≡ size q * f.radius
  unfolding carried constant
  carried_is q e = let s : size g.terms ≡ size q = ap size e in
      subst (λ s. size f.terms * 0 + s * f.radius + f.radius * 0 ≡ size q * f.radius) (sym s) (omega arith)

  -- not 0
  module _ (y : T (is_nonzero X)) where
    products_are : products f g ≡ by X f.terms
    unfolding products
    products_are = ap (λ q. collect (product ℤR f.terms q)) (single y)
        ∙ ap collect (product_single f.vars d X f.terms fitting)
        ∙ collect_rising (by X f.terms) (rising_map_coefficients (λ c. c *ℤ X) f.terms h.rising_terms)

    few : T (every (λ k c. leb (degree k) d) (by X f.terms))
    few = every_map_coefficients (λ k c. leb (degree k) d) (λ c. c *ℤ X) (λ k c t. t) f.terms
        (degrees f.vars d X f.terms fitting)

    terms_are : drop_zeros (kept d (products f g)) ≡ scaled_terms X f.terms
    unfolding kept within_order scaled_terms scaled_coefficient
    terms_are = ap (λ zs. drop_zeros (map_coefficients round (select (λ k z. leb (degree k) d) zs))) products_are
        ∙ ap (λ zs. drop_zeros (map_coefficients round zs)) (select_all (λ k z. leb (degree k) d) _ few)
        ∙ ap drop_zeros (map_twice round (λ c. c *ℤ X) f.terms)

    error_is : error d f g ≡ scaled_error X f
    unfolding error rounding swept within_order above_order scaled_error scaled_residual size sum_over
    error_is =
        let c : carried f g ≡ (nat_abs X + 0) * f.radius = carried_is _ (single y) in
        let r : rounding d (products f g) ≡ sum_ℕ (λ k c. residual (c *ℤ X)) f.terms =
        ap (λ zs. sum_ℕ (λ k z. residual z) (select (λ k z. leb (degree k) d) zs)) products_are
        ∙ ap (sum_ℕ (λ k z. residual z)) (select_all (λ k z. leb (degree k) d) _ few)
        ∙ sum_map_coefficients ℕ_addition (λ k z. residual z) (λ c. c *ℤ X) f.terms in
        let s : swept d (products f g) ≡ 0 =
        ap (λ zs. size (select (λ k z. not (leb (degree k) d)) zs)) products_are
        ∙ ap size (select_none (λ k z. leb (degree k) d) _ few) in
        let z : nat_abs X + 0 ≡ nat_abs X = omega arith in
        ap₂ (λ a b. a + b) (ap₂ (λ a b. a + b) (c ∙ ap (λ x. x * f.radius) z) r) s ∙ omega arith

  -- 0
  module _ (z : T (not (is_nonzero X))) where
    zero_is : X ≡ pos 0
    zero_is = zero_coefficient X z

    none_are : products f g ≡ []
    unfolding products collect
    none_are = ap (λ q. collect (product ℤR f.terms q)) (nothing z)
        ∙ ap collect (product_none f.vars d X f.terms)

    terms_none : drop_zeros (kept d (products f g)) ≡ scaled_terms X f.terms
    unfolding kept within_order map_coefficients drop_zeros select
    terms_none = ap (λ zs. drop_zeros (map_coefficients round (select (λ k z. leb (degree k) d) zs))) none_are
        ∙ sym (ap (λ X. scaled_terms X f.terms) zero_is ∙ zero_terms f.terms)

    error_none : error d f g ≡ scaled_error X f
    unfolding error rounding swept within_order above_order scaled_error size sum_over select
    error_none =
        let c : carried f g ≡ 0 * f.radius = carried_is [] (nothing z) in
        let r : rounding d (products f g) ≡ 0 =
        ap (λ zs. sum_ℕ (λ k z. residual z) (select (λ k z. leb (degree k) d) zs)) none_are in
        let s : swept d (products f g) ≡ 0 =
        ap (λ zs. size (select (λ k z. not (leb (degree k) d)) zs)) none_are in
        ap₂ (λ a b. a + b) (ap₂ (λ a b. a + b) c r) s
        ∙ sym (ap (λ X. nat_abs X * f.radius + sum_ℕ (λ k c. scaled_residual X c) f.terms) zero_is
        ∙ ap (λ s. 0 * f.radius + s) (zero_residuals f.terms) ∙ omega arith)

  -- either
  pub multiply_scaled : multiply d f g
      ≡ limited (record { vars = f.vars; radius = round_up (scaled_error X f); terms = scaled_terms X f.terms })
  unfolding multiply
  multiply_scaled = go (is_nonzero X) (λ y. error_is y) (λ y. terms_are y) (λ z. error_none z) (λ z. terms_none z)
    where
      go : (b : Bool) → (T b → error d f g ≡ scaled_error X f)
          → (T b → drop_zeros (kept d (products f g)) ≡ scaled_terms X f.terms)
          → (T (not b) → error d f g ≡ scaled_error X f)
          → (T (not b) → drop_zeros (kept d (products f g)) ≡ scaled_terms X f.terms)
          → limited (record {
            vars = f.vars;
            radius = round_up (error d f g);
            terms = drop_zeros (kept d (products f g));
          })
          ≡ limited (record {
            vars = f.vars;
            radius = round_up (scaled_error X f);
            terms = scaled_terms X f.terms;
          })
      go true a b c e = ap₂ (λ (r : ℕ) (t : Terms). limited (record { vars = f.vars; radius = round_up r; terms = t }))
          (a tt) (b tt)
      go false a b c e = ap₂ (λ (r : ℕ) (t : Terms). limited
          (record { vars = f.vars; radius = round_up r; terms = t }))
          (c tt) (e tt)
