-- Facts beside the claim on curves. It is not empty: every curve and every model has a function within it, and the
-- box has a point. And it is not true of everything: at x = 1, where every T_k is 1, it refutes wrong answers.
use Rattle.std.specs.Prelude.{◌≡◌, refl, [], ◌∷◌, ℕ, zero, suc, ◌-◌, ◌*◌, ◌/◌, ◌≤◌, ℤ, pos, neg_ℤ, ◌+ℤ◌, ◌-ℤ◌, nat_abs}
use Rattle.std.proofs.Common.{sym, ◌∙◌, ap, ap₂, arith, leb→le}
use Rattle.algebra.specs.RingSolver.{𝟎, 𝟏, ◌⊞◌, ◌⊟◌, ◌⊠◌, ⊝◌, ring}
use Rattle.algebra.specs.Ordered.{abs}
use Rattle.algebra.specs.OrderedLaws.{abs_is}
use Rattle.algebra.proofs.Rational.{◌+ℚ◌, ◌*ℚ◌, negℚ, whole, ◌≤ℚ◌}
use Rattle.algebra.proofs.RationalRing.{ℚR}
use Rattle.algebra.proofs.RationalOrder.{ℚO}
use Rattle.algebra.proofs.RationalLaws.{≤-whole, whole-+, whole_neg, ÷-back}
use Rattle.polynomial.specs.Box.{none, more}
use Rattle.numbers.specs.Computing.{numbers}
use Rattle.numbers.specs.Fixed.{U}
use Rattle.numbers.proofs.FixedLaws.{U_pos, U_even}
use Rattle.calculus.specs.Model.{Model, zero_model, ◌/U, ◌-ℚ◌, distance, Point, InBox}
use Rattle.calculus.specs.Model as M
use Rattle.calculus.specs.Operations.{zero_ends}
use Rattle.calculus.specs.Functions.{Function, coordinate, Lies}
use Rattle.calculus_laws.specs.ChainLaws.{◌≤≤◌, ◌≡≤◌, equal}
use Rattle.calculus_laws.specs.UnitLaws.{natural, natural_≤, abs_whole}
use Rattle.calculus_laws.specs.ValueLaws.{abs_zero}
use Rattle.calculus_laws.specs.ValueLaws as P
use Rattle.claim.proofs.ClaimFacts.{radius_nonneg, false_≤}
use Rattle.chebyshev.specs.Recurrence.{chebyshev}
use Rattle.chebyshev.specs.RecurrenceLaws.{chebyshev_zero, chebyshev_one, chebyshev_next}
use Rattle.chebyshev.specs.RingIntegersLaws.{int_whole}
use Rattle.chebyshev.specs.Coefficients.{Row, add_at}
use Rattle.chebyshev.specs.Coefficients as C
use Rattle.chebyshev.proofs.CoefficientsLaws.{value_nil, value_cons}
use Rattle.chebyshev.specs.PowerRows.{places, zeros}
use Rattle.chebyshev.specs.Curve.{Curve, zero_curve, series, value, At, Within}
use Rattle.chebyshev.proofs.CurveValueLaws.{Near, at_near}
use Rattle.chebyshev.proofs.CurveClaimProof.{coordinate_one}
use Rattle.chebyshev.specs.ChebyshevEdges.{curve, at_degree}
open ℚR use {+-neg, *-one, *-comm}

-- ---- every hypothesis can be met
-- the values of a curve
unfoldable pub own : Curve → Function
own c x = value c (coordinate 1 x)

-- are within it
pub own_within : (c : Curve) → Within (own c) c
unfolding Within At distance own
own_within c x h = ap (abs ℚO) (+-neg (value c (coordinate 1 x))) ≡≤ abs_zero ≤≤ radius_nonneg c.radius

-- and so are those a whole radius above
pub edge_within : (c : Curve) → Within (λ x. own c x +ℚ pos c.radius /U) c
unfolding Within At distance own
edge_within c x h = equal (abs_is ℚO (radius_nonneg c.radius)
    (ring 2 ℚR (λ v r. v ⊞ r ⊟ v) (λ v r. r) refl (value c (coordinate 1 x)) (pos c.radius /U)))

-- those of a model in powers are within it
pub model_within : (m : Model) → M.Within (M.value m) m
unfolding M.Within M.At distance
model_within m x h = ap (abs ℚO) (+-neg (M.value m x)) ≡≤ abs_zero ≤≤ radius_nonneg m.radius

-- 1 is a point of the box
unfoldable pub one_point : Point
one_point = natural 1 ∷ []

pub one_inside : InBox 1 one_point
unfolding one_point
one_inside = more (abs_whole (pos 1) ≡≤ natural_≤ 1 1 (omega arith)) none

-- ---- at 1 a curve has the sum of its coefficients
chebyshev_at_one : (k : ℕ) → chebyshev ℚR (natural 1) k ≡ natural 1
chebyshev_at_one zero = chebyshev_zero ℚR (natural 1)
chebyshev_at_one (suc zero) = chebyshev_one ℚR (natural 1)
chebyshev_at_one (suc (suc k)) = chebyshev_next ℚR (natural 1) k
    ∙ ap₂ (λ t u. natural 1 *ℚ t +ℚ natural 1 *ℚ t +ℚ negℚ u) (chebyshev_at_one (suc k)) (chebyshev_at_one k)
    ∙ ring 0 ℚR (𝟏 ⊠ 𝟏 ⊞ 𝟏 ⊠ 𝟏 ⊟ 𝟏) 𝟏 refl

-- the sum of all coefficients
unfoldable pub total : Row → ℤ
total [] = pos 0
total (a ∷ p) = a +ℤ total p

series_at_one : (k : ℕ) (p : Row) → C.value ℚR (chebyshev ℚR (natural 1)) k p ≡ whole (total p)
unfolding total
series_at_one k [] = value_nil ℚR (chebyshev ℚR (natural 1)) k
series_at_one k (a ∷ p) = value_cons ℚR (chebyshev ℚR (natural 1)) k a p
    ∙ ap₂ ◌+ℚ◌ (ap₂ ◌*ℚ◌ (int_whole a) (chebyshev_at_one k) ∙ *-one (whole a)) (series_at_one (suc k) p)
    ∙ sym (whole-+ a (total p))

-- U times its value there
U_own : (c : Curve) → natural U *ℚ own c one_point ≡ whole (total c.coefficients)
unfolding own one_point value
U_own c = ap (λ x. natural U *ℚ value c x) (coordinate_one (natural 1))
    ∙ unfold value in ÷-back (series c.coefficients (natural 1)) U U_pos
    ∙ series_at_one 0 c.coefficients

-- a function that is z / U at 1 is within a curve only if z differs from that sum by at most the radius
pub at_one : (f : Function) (r : Curve) (z : ℤ) → natural U *ℚ f one_point ≡ whole z → Within f r
    → nat_abs (z -ℤ total r.coefficients) ≤ r.radius
unfolding Within one_point
at_one f r z e h = leb→le _ _ (≤-whole (pos (nat_abs (z -ℤ s))) (pos r.radius)
    (sym (abs_whole (z -ℤ s)) ≡≤ ap (abs ℚO) (sym difference) ≡≤ near)).le
  where
    s : ℤ
    s = total r.coefficients

    near : abs ℚO (natural U *ℚ f (natural 1 ∷ []) -ℚ series r.coefficients (natural 1)) ≤ℚ natural r.radius
    near = unfold Near in at_near r (natural 1) (f (natural 1 ∷ []))
        (rw (coordinate_one (natural 1)) at (h (natural 1 ∷ []) (unfold one_point in one_inside)))

    difference : natural U *ℚ f (natural 1 ∷ []) -ℚ series r.coefficients (natural 1) ≡ whole (z -ℤ s)
    difference = ap₂ (λ a b. a +ℚ negℚ b) e (series_at_one 0 r.coefficients)
        ∙ ap (λ b. whole z +ℚ b) (sym (whole_neg s)) ∙ sym (whole-+ z _)

-- ---- wrong answers
-- the constant 1
unfoldable pub one : Curve
one = at_degree 0 (pos U)

-- T_15
unfoldable pub last : Curve
last = at_degree 15 (pos U)

-- two functions, the second of which is 1 there
product_at_one : (c d : Curve) → total d.coefficients ≡ pos U
    → natural U *ℚ (own c one_point *ℚ own d one_point) ≡ whole (total c.coefficients)
product_at_one c d e =
    ring 3 ℚR (λ u y z. u ⊠ (y ⊠ z)) (λ u y z. y ⊠ (u ⊠ z)) refl (natural U) (own c one_point) (own d one_point)
    ∙ ap (λ v. own c one_point *ℚ v) (U_own d ∙ ap whole e) ∙ *-comm (own c one_point) (natural U) ∙ U_own c

total_one : total one.coefficients ≡ pos U
unfolding one at_degree add_at zeros places total numbers
total_one = refl

total_last : total last.coefficients ≡ pos U
unfolding last at_degree add_at zeros places total numbers
total_last = refl

-- 1 times 1 is not the zero curve
pub zero_refuted : Within (λ x. own one x *ℚ own one x) zero_curve → ⊥
unfolding zero_curve zeros places total numbers
zero_refuted w = let h : U ≤ 0 =
    at_one _ zero_curve (pos U) (product_at_one one one total_one ∙ ap whole total_one) w in
    omega (arith, U_pos)

-- nor half of T_0, where a product with T_0 is counted once
pub once_refuted : Within (λ x. own one x *ℚ own one x) (at_degree 0 (pos (U / 2))) → ⊥
unfolding at_degree add_at zeros places total numbers
once_refuted w = let h : U / 2 ≤ 0 =
    at_one _ (at_degree 0 (pos (U / 2))) (pos U) (product_at_one one one total_one ∙ ap whole total_one) w in
    omega (arith, U_pos, U_even)

-- T_15 times T_15 is half of T_0 only with a radius of half a unit of 1, for T_30: one less is refuted
pub swept_refuted : Within (λ x. own last x *ℚ own last x) (curve (pos (U / 2) ∷ []) (U / 2 - 1)) → ⊥
unfolding curve total numbers
swept_refuted w = let h : U / 2 ≤ U / 2 - 1 =
    at_one _ (curve (pos (U / 2) ∷ []) (U / 2 - 1)) (pos U) (product_at_one last last total_last ∙ ap whole total_last)
    w in
    omega (arith, U_pos, U_even)

-- minus 1 is not 1, its operand passed through
pub passing_refuted : Within (λ x. negℚ (own one x)) one → ⊥
unfolding one at_degree add_at zeros places total numbers
passing_refuted w = let h : 2 * U ≤ 0 =
    at_one _ one (neg_ℤ (pos U))
    (ring 2 ℚR (λ u y. u ⊠ (⊝ y)) (λ u y. ⊝ (u ⊠ y)) refl (natural U) (own one one_point)
    ∙ ap negℚ (U_own one ∙ ap whole total_one) ∙ sym (whole_neg (pos U))) w in omega (arith, U_pos)

-- 0 to 0 is not the range of 1
pub range_refuted : ((x : Point) → InBox 1 x → Lies (own one x) zero_ends) → ⊥
unfolding zero_ends
range_refuted w = false_≤ U 0 U_pos
    (sym (U_own one ∙ ap whole total_one) ≡≤ (w one_point one_inside).to)

-- the zero model is not 1 in powers
pub powers_refuted : M.Within (own one) (zero_model 1) → ⊥
unfolding M.Within zero_model P.Near
powers_refuted w = false_≤ U 0 U_pos
    (sym (abs_whole (pos U)) ≡≤ ap (abs ℚO) (sym difference)
    ≡≤ P.at_near (zero_model 1) one_point (own one one_point) (w one_point one_inside))
  where
    difference : natural U *ℚ own one one_point -ℚ P.scaled_value [] one_point ≡ whole (pos U)
    difference = ap₂ (λ a b. a +ℚ negℚ b) (U_own one ∙ ap whole total_one) (P.scaled_nil one_point)
        ∙ ring 1 ℚR (λ a. a ⊟ 𝟎) (λ a. a) refl (whole (pos U))
