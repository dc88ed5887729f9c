-- Conversion encloses: what is near the one form is near the other. All at one x from -1 to 1.
use Rattle.std.specs.Prelude.{◌≡◌, refl, List, [], ◌∷◌, ℕ, suc, ◌*◌, ◌≤◌, ◌<◌, T, length}
use Rattle.std.proofs.Common.{sym, ◌∙◌, ap, ap₂, arith, lit<}
use Rattle.algebra.specs.Ring.{pow}
use Rattle.algebra.specs.RingSolver.{◌⊟◌, ◌⊠◌, ring}
use Rattle.algebra.specs.Ordered.{abs}
use Rattle.algebra.specs.OrderedLaws.{*-mono}
use Rattle.algebra.proofs.Rational.{ℚ, ◌+ℚ◌, ◌*ℚ◌, ◌≤ℚ◌, reciprocal}
use Rattle.algebra.proofs.RationalRing.{ℚR}
use Rattle.algebra.proofs.RationalOrder.{ℚO}
use Rattle.algebra.specs.RingLaws.{one-*}
use Rattle.algebra.proofs.RationalLaws.{nat_whole, ÷-back}
use Rattle.chebyshev.specs.RingIntegersLaws.{int_whole}
use Rattle.polynomial.specs.Polynomial.{exponent, monomial}
use Rattle.numbers.specs.Fixed.{U}
use Rattle.numbers.proofs.FixedLaws.{U_pos}
use Rattle.calculus.specs.Monomial.{degree}
use Rattle.calculus.specs.Terms.{Terms, term, every}
use Rattle.calculus.specs.Model.{Model, most_degree, fits, ◌-ℚ◌}
use Rattle.calculus.specs.Model as M
use Rattle.calculus_laws.specs.FitsLaws.{fits_degree}
use Rattle.calculus_laws.specs.TermsLaws.{every_head, every_tail}
use Rattle.calculus_laws.specs.ChainLaws.{◌≡≤◌, ◌≤≡◌}
use Rattle.calculus_laws.specs.UnitLaws.{natural, natural-*, natural_nonneg, U_inverse}
use Rattle.calculus_laws.specs.ValueLaws.{scaled_value, U_value, scaled_nil, scaled_cons, scaled_drop_zeros}
use Rattle.calculus_laws.specs.ValueLaws as P
use Rattle.chebyshev.specs.Coefficients.{Row, value}
use Rattle.chebyshev.proofs.CoefficientsLaws.{value_nil, value_cons, value_added}
use Rattle.chebyshev.specs.PowerRows.{places}
use Rattle.chebyshev.proofs.PowerRowsLaws.{zeros_value}
use Rattle.chebyshev.proofs.RowLengthLaws.{add_at_length, zeros_length}
use Rattle.chebyshev.specs.Tables.{power_scale}
use Rattle.chebyshev.proofs.TablesLaws.{into_powers, from_powers_scaled}
use Rattle.chebyshev.specs.Curve.{Curve}
use Rattle.chebyshev.specs.Curve as C
use Rattle.chebyshev.specs.CurveOperations.{terms_from, in_powers, row_of, in_chebyshev}
use Rattle.chebyshev.proofs.CurveValueLaws.{Near, factor_abs, rounded_near}

-- a monomial at a point of one coordinate
monomial_one : (k : List ℕ) (x : ℚ) → monomial ℚR k (x ∷ []) ≡ pow ℚR x (exponent 0 k)
unfolding monomial exponent pow
monomial_one [] x = refl
monomial_one (e ∷ []) x = ℚR.*-one _
monomial_one (e ∷ d ∷ k) x = ℚR.*-one _

monomial_power : (k : ℕ) (x : ℚ) → monomial ℚR (k ∷ []) (x ∷ []) ≡ pow ℚR x k
unfolding monomial
monomial_power k x = ℚR.*-one _

-- ---- to powers
-- a row as terms
terms_value : (k : ℕ) (p : Row) (x : ℚ) → scaled_value (terms_from k p) (x ∷ []) ≡ value ℚR (pow ℚR x) k p
unfolding terms_from
terms_value k [] x = scaled_nil (x ∷ []) ∙ sym (value_nil ℚR (pow ℚR x) k)
terms_value k (a ∷ p) x = scaled_cons (x ∷ []) (term a (k ∷ [])) (terms_from (suc k) p)
    ∙ ap₂ ◌+ℚ◌ (ap₂ ◌*ℚ◌ (sym (int_whole a)) (monomial_power k x))
    (terms_value (suc k) p x)
    ∙ sym (value_cons ℚR (pow ℚR x) k a p)

pub to_powers_near : (f : Curve) (x y : ℚ) → length f.coefficients ≡ places → Near f x y
    → P.Near (in_powers f) (x ∷ []) y
unfolding Near P.Near in_powers
to_powers_near f x y l h = ap (λ v. abs ℚO (natural U *ℚ y -ℚ v))
    (scaled_drop_zeros (x ∷ []) _ ∙ terms_value 0 _ x ∙ into_powers ℚR x f.coefficients l)
    ≡≤ h

-- the same value, exactly
pub to_powers_exact : (f : Curve) (x : ℚ) → length f.coefficients ≡ places
    → M.value (in_powers f) (x ∷ []) ≡ C.value f x
unfolding C.value in_powers
to_powers_exact f x l = sym (back _)
    ∙ ap (λ v. v *ℚ reciprocal U) (U_value (in_powers f) (x ∷ []) ∙ scaled_drop_zeros (x ∷ []) _ ∙ terms_value 0 _ x
    ∙ into_powers ℚR x f.coefficients l ∙ sym (÷-back (C.series f.coefficients x) U (omega (arith, U_pos))))
    ∙ back _
  where
    back : (z : ℚ) → natural U *ℚ z *ℚ reciprocal U ≡ z
    back z = ring 3 ℚR (λ u z v. u ⊠ z ⊠ v) (λ u z v. (u ⊠ v) ⊠ z) refl (natural U) z (reciprocal U)
        ∙ ap (λ w. w *ℚ z) U_inverse ∙ one-* ℚR z

-- ---- from powers
-- the row of some terms has their value,
row_of_value : (p : Terms) (x : ℚ) → value ℚR (pow ℚR x) 0 (row_of p) ≡ scaled_value p (x ∷ [])
unfolding row_of
row_of_value [] x = zeros_value ℚR (pow ℚR x) ∙ sym (scaled_nil (x ∷ []))
row_of_value (t ∷ p) x = value_added ℚR (pow ℚR x) (exponent 0 t.exponents) t.coefficient (row_of p)
    ∙ ap₂ ◌+ℚ◌ (ap₂ ◌*ℚ◌ (int_whole t.coefficient) (sym (monomial_one t.exponents x))) (row_of_value p x)
    ∙ sym (scaled_cons (x ∷ []) t p)

exponent_degree : (k : List ℕ) → exponent 0 k ≤ degree k
unfolding exponent degree
exponent_degree [] = omega arith
exponent_degree (e ∷ k) = omega arith

most_below : most_degree < places
unfolding most_degree places
most_below = lit< tt

-- and sixteen coefficients, where no degree is above 15
row_of_length : (n : ℕ) (p : Terms) → T (every (λ k c. fits n most_degree k) p) → length (row_of p) ≡ places
unfolding row_of
row_of_length n [] h = zeros_length
row_of_length n (t ∷ p) h =
    let ih = row_of_length n p (every_tail (λ k c. fits n most_degree k) t p h) in
    let d = fits_degree n most_degree t.exponents (every_head (λ k c. fits n most_degree k) t p h) in
    add_at_length (exponent 0 t.exponents) t.coefficient (row_of p)
    (omega (arith, exponent_degree t.exponents, most_below)) ∙ ih

power_scale_pos : 0 < power_scale
unfolding power_scale
power_scale_pos = lit< tt

pub from_powers_near : (n : ℕ) (f : Model) (x y : ℚ) → abs ℚO x ≤ℚ natural 1
    → T (every (λ k c. fits n most_degree k) f.terms) → P.Near f (x ∷ []) y → Near (in_chebyshev f) x y
unfolding P.Near in_chebyshev
from_powers_near n f x y b t h = rounded_near x b power_scale (power_scale * f.radius) _ y power_scale_pos
    (ap (abs ℚO) (ap (λ v. s *ℚ (natural U *ℚ y) -ℚ v)
    (from_powers_scaled ℚR x (row_of f.terms) (row_of_length n f.terms t)
    ∙ ap₂ ◌*ℚ◌ (nat_whole power_scale) (row_of_value f.terms x))
    ∙ ring 3 ℚR (λ s u v. s ⊠ u ⊟ s ⊠ v) (λ s u v. s ⊠ (u ⊟ v)) refl s (natural U *ℚ y)
    (scaled_value f.terms (x ∷ [])))
    ∙ factor_abs power_scale _ ∙ ℚR.*-comm s _
    ≡≤ *-mono ℚO (natural_nonneg power_scale) h
    ≤≡ ℚR.*-comm _ s ∙ sym (natural-* power_scale f.radius))
  where
    s : ℚ
    s = natural power_scale
