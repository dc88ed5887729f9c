-- Each operation encloses: what is near the operands gives what is near the result. All at one x from -1 to 1.
use Rattle.std.specs.Prelude.{◌≡◌, refl, ℕ, ◌+◌, ◌*◌, ◌<◌, ℤ, pos, ◌+ℤ◌, ◌-ℤ◌, drop}
use Rattle.std.proofs.Common.{sym, ◌∙◌, ap, arith}
use Rattle.std.proofs.Math.Path.{ap₂}
use Rattle.algebra.specs.RingSolver.{◌⊞◌, ◌⊟◌, ◌⊠◌, ⊝◌, ring}
use Rattle.algebra.specs.Ordered.{abs}
use Rattle.algebra.specs.OrderedLaws.{abs_neg_eq, le_abs, neg_le_abs, +-mono, neg_mono, triangle, enclose_mul}
use Rattle.algebra.proofs.Rational.{ℚ, ◌+ℚ◌, ◌*ℚ◌, negℚ, whole, ◌≤ℚ◌}
use Rattle.algebra.proofs.RationalRing.{ℚR}
use Rattle.algebra.proofs.RationalOrder.{ℚO}
use Rattle.algebra.proofs.RationalLaws.{whole-+, whole_neg}
use Rattle.numbers.specs.Fixed.{U}
use Rattle.numbers.proofs.FixedLaws.{U_pos}
use Rattle.calculus.specs.Model.{◌-ℚ◌}
use Rattle.calculus.specs.Functions.{Lies}
use Rattle.calculus_laws.specs.ChainLaws.{◌≤≤◌, ◌≡≤◌, ◌≤≡◌}
use Rattle.calculus_laws.specs.UnitLaws.{natural, natural-+, natural-*}
use Rattle.calculus_laws.specs.ValueLaws.{sum_≤}
use Rattle.chebyshev.specs.Recurrence.{chebyshev}
use Rattle.chebyshev.specs.Coefficients.{size}
use Rattle.chebyshev.specs.Coefficients as C
use Rattle.chebyshev.proofs.CoefficientsLaws.{value_sum, value_negated, value_zeros, value_products}
use Rattle.chebyshev.specs.Curve.{Curve, series}
use Rattle.chebyshev.specs.CurveOperations.{negate, added, products, carried, multiplied, constant_part}
use Rattle.chebyshev.specs.CurveOperations.{variation, range}
use Rattle.chebyshev.proofs.CurveValueLaws.{Near, series_≤, series_first, rounded_near}
open ℚO use {≤-refl}

-- ---- negate, add
pub negate_near : (f : Curve) (x y : ℚ) → Near f x y → Near (negate f) x (negℚ y)
unfolding Near negate
negate_near f x y h = ap (abs ℚO)
    (ap (λ z. natural U *ℚ negℚ y -ℚ z) (value_negated ℚR (chebyshev ℚR x) 0 f.coefficients)
    ∙ ring 3 ℚR (λ u y v. u ⊠ (⊝ y) ⊟ (⊝ v)) (λ u y v. ⊝ (u ⊠ y ⊟ v)) refl (natural U) y (series f.coefficients x))
    ∙ abs_neg_eq ℚO _
    ≡≤ h

pub add_near : (f g : Curve) (x y z : ℚ) → Near f x y → Near g x z → Near (added f g) x (y +ℚ z)
unfolding Near added
add_near f g x y z hf hg = ap (abs ℚO)
    (ap (λ v. natural U *ℚ (y +ℚ z) -ℚ v) (value_sum ℚR (chebyshev ℚR x) 0 f.coefficients g.coefficients)
    ∙ ring 5 ℚR (λ u y z a b. u ⊠ (y ⊞ z) ⊟ (a ⊞ b)) (λ u y z a b. (u ⊠ y ⊟ a) ⊞ (u ⊠ z ⊟ b)) refl
    (natural U) y z (series f.coefficients x) (series g.coefficients x))
    ≡≤ sum_≤ _ _ _ _ hf hg

-- ---- multiply
-- a number twice
twice : (n : ℕ) → natural (2 * n) ≡ natural n +ℚ natural n
twice n = ap natural (double n) ∙ natural-+ n n
  where
    double : (n : ℕ) → 2 * n ≡ n + n
    double n = omega arith

-- the collected products are worth twice the product
products_value : (f g : Curve) (x : ℚ) → series (products f g) x
    ≡ series f.coefficients x *ℚ series g.coefficients x
    +ℚ series f.coefficients x *ℚ series g.coefficients x
unfolding products
products_value f g x = value_products ℚR x 0 f.coefficients g.coefficients _
    ∙ ap (λ v. series f.coefficients x *ℚ series g.coefficients x
    +ℚ series f.coefficients x *ℚ series g.coefficients x +ℚ v) (value_zeros ℚR (chebyshev ℚR x) 0 31)
    ∙ ℚR.+-zero _

pub multiply_near : (f g : Curve) (x y z : ℚ) → abs ℚO x ≤ℚ natural 1 → Near f x y → Near g x z
    → Near (multiplied f g) x (y *ℚ z)
unfolding Near multiplied
multiply_near f g x y z b hf hg = rounded_near x b (2 * U) (2 * carried f g) (products f g) (y *ℚ z)
    (let h : 0 < U = U_pos in omega arith)
    (ap (abs ℚO) (ap₂ (λ n v. n *ℚ (natural U *ℚ (y *ℚ z)) -ℚ v) (twice U) (products_value f g x)
    ∙ ring 5 ℚR (λ u y z p q. (u ⊞ u) ⊠ (u ⊠ (y ⊠ z)) ⊟ (p ⊠ q ⊞ p ⊠ q))
    (λ u y z p q. ((u ⊠ y) ⊠ (u ⊠ z) ⊟ p ⊠ q) ⊞ ((u ⊠ y) ⊠ (u ⊠ z) ⊟ p ⊠ q)) refl (natural U) y z F G)
    ≡≤ triangle ℚO _ _
    ≤≤ +-mono ℚO once once
    ≤≡ sym (twice (carried f g)))
  where
    F : ℚ
    F = series f.coefficients x

    G : ℚ
    G = series g.coefficients x

    shares : natural (carried f g) ≡ natural (size f.coefficients) *ℚ natural g.radius
        +ℚ natural (size g.coefficients) *ℚ natural f.radius +ℚ natural f.radius *ℚ natural g.radius
    shares = unfold carried in
        (natural-+ _ _ ∙ ap₂ ◌+ℚ◌ (natural-+ _ _ ∙ ap₂ ◌+ℚ◌ (natural-* _ _) (natural-* _ _)) (natural-* _ _))

    once : abs ℚO ((natural U *ℚ y) *ℚ (natural U *ℚ z) -ℚ F *ℚ G) ≤ℚ natural (carried f g)
    once = enclose_mul ℚO (natural U *ℚ y) F (natural U *ℚ z) G hf hg (series_≤ x b 0 f.coefficients)
        (series_≤ x b 0 g.coefficients) ≤≡ sym shares

-- ---- range
-- |U y - c| ≤ n puts U y from c - n to c + n
lies_near : (y : ℚ) (c : ℤ) (n : ℕ) → abs ℚO (natural U *ℚ y -ℚ whole c) ≤ℚ natural n
    → Lies y (record { low = c -ℤ pos n; high = c +ℤ pos n })
lies_near y c n h = record {
  from = whole-+ c _ ∙ ap (λ z. whole c +ℚ z) (whole_neg (pos n))
      ≡≤ +-mono ℚO (≤-refl (whole c)) (neg_mono ℚO (neg_le_abs ℚO _ ≤≤ h))
      ≤≡ ring 2 ℚR (λ u c. c ⊟ (⊝ (u ⊟ c))) (λ u c. u) refl (natural U *ℚ y) (whole c);
  to = ring 2 ℚR (λ u c. u) (λ u c. c ⊞ (u ⊟ c)) refl (natural U *ℚ y) (whole c)
      ≡≤ +-mono ℚO (≤-refl (whole c)) (le_abs ℚO _ ≤≤ h)
      ≤≡ sym (whole-+ c (pos n));
}

pub range_near : (f : Curve) (x y : ℚ) → abs ℚO x ≤ℚ natural 1 → Near f x y → Lies y (range f)
unfolding Near range constant_part variation
range_near f x y b h = lies_near y (constant_part f) (variation f)
    (ap (abs ℚO) apart ≡≤ sum_≤ _ _ _ _ (series_≤ x b 1 (drop 1 f.coefficients)) h)
  where
    others : ℚ
    others = C.value ℚR (chebyshev ℚR x) 1 (drop 1 f.coefficients)

    apart : natural U *ℚ y -ℚ whole (constant_part f) ≡ others +ℚ (natural U *ℚ y -ℚ series f.coefficients x)
    apart = ring 3 ℚR (λ u c o. u ⊟ c) (λ u c o. o ⊞ (u ⊟ (c ⊞ o))) refl (natural U *ℚ y)
        (whole (constant_part f)) others
        ∙ ap (λ v. others +ℚ (natural U *ℚ y -ℚ v)) (sym (series_first f.coefficients x))
