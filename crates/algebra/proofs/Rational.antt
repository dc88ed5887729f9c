-- ℚ: fractions up to cross-multiplying, so that equal ones are one. A function of fractions that respects
-- cross-multiplying (FractionLaws.antt) is a function on ℚ; so ℚ has the operations and the order of Fraction.antt.
use Rattle.std.specs.Prelude.{◌≡◌, refl, Bool, ℕ, T, ℤ, pos}
use Rattle.std.proofs.Math.Bool.{Bool-set}
use mathlib.Core.Quot.Quotient
use mathlib.Core.Quot.{Setoid, Quotient, Quotient-set}
use Rattle.algebra.specs.Fraction.{Frac, Same, at_most, over_1, sum, product, negation, inversion}
use Rattle.algebra.proofs.FractionLaws.{Same-prop, Same-equivalence, sum_respects, product_respects}
use Rattle.algebra.proofs.FractionLaws.{negation_respects, inversion_respects, at_most_respects}

-- ---- the quotient
-- fractions with cross-multiplying as their equality
abbrev Fractions : Setoid {0, 0} Frac
Fractions = record { r = Same; iseqv = Same-equivalence }

-- the fractions up to cross-multiplying
pub ℚ : Type 0
ℚ = Quotient Fractions

-- the element that a fraction writes
pub class : Frac → ℚ
unfolding ℚ
class p = Quotient.mk Fractions p

pub ℚ_set : IsSet ℚ
unfolding ℚ
ℚ_set = Quotient-set Fractions

-- two fractions write one element exactly if they are equal
pub class_sound : (p q : Frac) → Same p q → class p ≡ class q
unfolding ℚ class
class_sound p q h = Quotient.sound Fractions h

pub class_exact : (p q : Frac) → class p ≡ class q → Same p q
unfolding ℚ class
class_exact p q h = Quotient.exact Fractions Same-prop h

-- a function of fractions on ℚ
on_classes : (f : Frac → Frac) → ((p q : Frac) → Same p q → Same (f p) (f q)) → ℚ → ℚ
unfolding ℚ
on_classes f h = Quotient.lift Fractions ℚ_set (λ p. class (f p)) (λ p q k. class_sound (f p) (f q) (h p q k))

-- a function of two fractions on ℚ
on_classes₂ : (f : Frac → Frac → Frac)
    → ((p q p' q' : Frac) → Same p p' → Same q q' → Same (f p q) (f p' q')) → ℚ → ℚ → ℚ
unfolding ℚ
on_classes₂ f h = Quotient.lift₂ Fractions Fractions ℚ_set (λ p q. class (f p q))
    (λ p q p' q' k l. class_sound (f p q) (f p' q') (h p q p' q' k l))

-- ---- the operations
infixl 60 ◌+ℚ◌
infixl 70 ◌*ℚ◌ ◌/ℚ◌ ◌÷◌
infix 50 ◌≤ℚ◌
-- the sum
pub ◌+ℚ◌ : ℚ → ℚ → ℚ
◌+ℚ◌ = on_classes₂ sum sum_respects

-- the product
pub ◌*ℚ◌ : ℚ → ℚ → ℚ
◌*ℚ◌ = on_classes₂ product product_respects

-- the negation
pub negℚ : ℚ → ℚ
negℚ = on_classes negation negation_respects

-- the inverse; that of 0 is 0
pub inverse : ℚ → ℚ
inverse = on_classes inversion inversion_respects

-- the comparison
pub leℚ : ℚ → ℚ → Bool
unfolding ℚ
leℚ = Quotient.lift₂ Fractions Fractions Bool-set at_most at_most_respects

-- the order
pub record ◌≤ℚ◌ (x y : ℚ) : Type 0 where
  pub le : T (leℚ x y)

-- a whole number over 1
unfoldable pub whole : ℤ → ℚ
whole z = class (over_1 z)

-- x / y; 0 if y is 0
unfoldable pub ◌/ℚ◌ : ℚ → ℚ → ℚ
x /ℚ y = x *ℚ inverse y

-- 1 / n, for n from 1
unfoldable pub reciprocal : ℕ → ℚ
reciprocal n = inverse (whole (pos n))

-- x / n, for n from 1
unfoldable pub ◌÷◌ : ℚ → ℕ → ℚ
x ÷ n = x *ℚ reciprocal n

-- ---- what they do to fractions
pub sum_class : (p q : Frac) → class p +ℚ class q ≡ class (sum p q)
unfolding ℚ class ◌+ℚ◌ on_classes₂ Quotient.lift₂
sum_class p q = refl

pub product_class : (p q : Frac) → class p *ℚ class q ≡ class (product p q)
unfolding ℚ class ◌*ℚ◌ on_classes₂ Quotient.lift₂
product_class p q = refl

pub negation_class : (p : Frac) → negℚ (class p) ≡ class (negation p)
unfolding ℚ class negℚ on_classes Quotient.lift
negation_class p = refl

pub inverse_class : (p : Frac) → inverse (class p) ≡ class (inversion p)
unfolding ℚ class inverse on_classes Quotient.lift
inverse_class p = refl

pub leℚ_class : (p q : Frac) → leℚ (class p) (class q) ≡ at_most p q
unfolding ℚ class leℚ Quotient.lift₂
leℚ_class p q = refl

-- ---- what holds of fractions holds on ℚ
pub ℚ_ind : {P : ℚ → Type 0} → ((x : ℚ) → IsProp (P x)) → ((p : Frac) → P (class p)) → (x : ℚ) → P x
unfolding ℚ class
ℚ_ind s h = Quotient.ind Fractions s h

pub ℚ_ind₂ : {P : ℚ → ℚ → Type 0} → ((x y : ℚ) → IsProp (P x y)) → ((p q : Frac) → P (class p) (class q))
    → (x y : ℚ) → P x y
unfolding ℚ class
ℚ_ind₂ s h = Quotient.ind₂ Fractions Fractions s h

pub ℚ_ind₃ : {P : ℚ → ℚ → ℚ → Type 0} → ((x y z : ℚ) → IsProp (P x y z))
    → ((p q r : Frac) → P (class p) (class q) (class r)) → (x y z : ℚ) → P x y z
unfolding ℚ class
ℚ_ind₃ s h x y z = Quotient.induction_on₃ Fractions Fractions Fractions s x y z h
