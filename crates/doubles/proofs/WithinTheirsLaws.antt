-- Any function within theirs is within ours.
use Rattle.std.specs.Prelude.{◌≡◌, Bool, true, false, not, [], ◌∷◌, ℕ, ◌%◌, ◌<◌, eqb, Float, ℤ, pos, nat_abs}
use Rattle.std.proofs.Math.Path.{refl, ap}
use Rattle.std.proofs.Common.{sym, ◌∙◌, arith}
use Rattle.std.specs.Float.{nan, inf, fin}
use Rattle.std.specs.Float.Ieee.Fits.{down_pos}
use Rattle.algebra.specs.Ring.{pow}
use Rattle.algebra.specs.RingSolver.{𝟏, ◌⊞◌, ◌⊟◌, ◌⊠◌, ring}
use Rattle.algebra.specs.Ordered.{abs}
use Rattle.algebra.specs.OrderedLaws.{abs_prod, le_abs}
use Rattle.algebra.proofs.Rational.{ℚ, ◌+ℚ◌, ◌*ℚ◌, whole, ◌≤ℚ◌, reciprocal, ◌÷◌}
use Rattle.algebra.proofs.RationalRing.{ℚR}
use Rattle.algebra.proofs.RationalOrder.{ℚO}
use Rattle.algebra.proofs.RationalLaws.{whole-*}
use Rattle.polynomial.specs.Polynomial.{monomial}
use Rattle.polynomial.specs.Box.{none, more}
use Rattle.polynomial.proofs.BoxLaws.{monomial_le}
use Rattle.numbers.specs.Fixed.{U}
use Rattle.calculus.specs.Monomial.{index_of}
use Rattle.calculus.specs.Terms.{term}
use Rattle.calculus.specs.Model.{Model, ◌-ℚ◌, distance, Point, InBox, Within}
use Rattle.calculus.specs.Refusal.{bad_double, done}
use Rattle.calculus.specs.Operations.{one_if_any}
use Rattle.calculus.specs.Functions.{coordinate}
use Rattle.calculus_laws.specs.SumLaws.{if_so, if_ℕ}
use Rattle.calculus_laws.specs.RefusalLaws.{if_done, placed, require_at_done}
use Rattle.calculus_laws.specs.UnitLaws.{natural, U_times_≤, U_abs}
use Rattle.calculus_laws.specs.ValueLaws.{scaled_value, Near, near_at, scaled_nil, scaled_cons, scaled_drop_zeros}
use Rattle.calculus_laws.specs.ValueLaws.{sum_≤}
use Rattle.calculus_laws.specs.EnclosureLaws.{limited_accepted}
use Rattle.calculus_laws.specs.AntiderivativeEnclosureLaws.{rounded_≤, swept_≤}
use Rattle.calculus_laws.specs.ChainLaws.{◌≤≤◌, ◌≡≤◌, ◌≤≡◌}
use Rattle.doubles.specs.Doubles.{Delivery, numerator, denominator, exact, their_value, WithinTheirs, units}
use Rattle.doubles.specs.Doubles.{coefficient, inexact, radius_up, model_of, converted, deliverable, call_doubles}
open ℚR use {*-one}

-- ---- one double
pub denominator_pos : (x : Float) → 0 < denominator x
unfolding denominator
denominator_pos nan = omega arith
denominator_pos (inf s) = omega arith
denominator_pos (fin s m e) = down_pos e

pub U_exact : (x : Float) → natural U *ℚ exact x ≡ whole (units x) *ℚ reciprocal (denominator x)
unfolding exact units ◌÷◌
U_exact x = ring 3 ℚR (λ u n r. u ⊠ (n ⊠ r)) (λ u n r. n ⊠ u ⊠ r) refl (natural U) (whole (numerator x)) _
    ∙ ap (λ z. z *ℚ reciprocal (denominator x)) (sym (whole-* (numerator x) (pos U)))

one_if : (r : ℕ) → if_ℕ (not (eqb r 0)) 1 ≡ one_if_any r
unfolding if_so one_if_any
one_if r = go (eqb r 0)
  where
    go : (b : Bool) → if_ℕ (not b) 1 ≡ elim b [ true ↦ 0 | false ↦ 1 ]
    go true = refl
    go false = refl

-- the coefficient is U times it, but for at most 1, and for nothing where it is exact
coefficient_near : (x : Float) → abs ℚO (natural U *ℚ exact x -ℚ whole (coefficient x)) ≤ℚ natural (inexact x)
unfolding coefficient inexact
coefficient_near x = ap (λ z. abs ℚO (z -ℚ whole (coefficient x))) (U_exact x)
    ≡≤ rounded_≤ (denominator x) (denominator_pos x) (units x)
    ≤≡ ap natural (one_if (nat_abs (units x) % denominator x))

-- the radius is at least U times theirs
radius_enough : (x : Float) → natural U *ℚ exact x ≤ℚ natural (radius_up x)
unfolding radius_up
radius_enough x = U_exact x ≡≤ le_abs ℚO _ ≤≤ swept_≤ (denominator x) (denominator_pos x) (units x)

-- ---- the curve
-- U times their value, term by term
U_value : (c : Delivery) {x : Point} → InBox 1 x → natural U *ℚ their_value c x
    ≡ natural U *ℚ exact c.c0 *ℚ monomial ℚR (0 ∷ []) x
    +ℚ (natural U *ℚ exact c.c1 *ℚ monomial ℚR (1 ∷ []) x
    +ℚ natural U *ℚ exact c.c2 *ℚ monomial ℚR (2 ∷ []) x)
unfolding their_value coordinate index_of monomial pow
U_value c (more {x = y} h none) =
    ring 5 ℚR (λ u a b c y. u ⊠ (a ⊞ b ⊠ y ⊞ c ⊠ (y ⊠ y)))
    (λ u a b c y. u ⊠ a ⊠ (𝟏 ⊠ 𝟏) ⊞ (u ⊠ b ⊠ (y ⊠ 𝟏 ⊠ 𝟏) ⊞ u ⊠ c ⊠ (y ⊠ (y ⊠ 𝟏) ⊠ 𝟏))) refl
    (natural U) (exact c.c0) (exact c.c1) (exact c.c2) y

-- U times ours, term by term
scaled_three : (a b c : ℤ) (x : Point)
    → scaled_value (term a (0 ∷ []) ∷ term b (1 ∷ []) ∷ term c (2 ∷ []) ∷ []) x
    ≡ whole a *ℚ monomial ℚR (0 ∷ []) x
    +ℚ (whole b *ℚ monomial ℚR (1 ∷ []) x +ℚ whole c *ℚ monomial ℚR (2 ∷ []) x)
scaled_three a b c x = scaled_cons x _ _
    ∙ ap (λ z. whole a *ℚ monomial ℚR (0 ∷ []) x +ℚ z) (scaled_cons x _ _
    ∙ ap (λ z. whole b *ℚ monomial ℚR (1 ∷ []) x +ℚ z) (scaled_cons x _ _
    ∙ ap (λ z. whole c *ℚ monomial ℚR (2 ∷ []) x +ℚ z) (scaled_nil x) ∙ ℚR.+-zero _))

-- one term, at a point of the box
module _ {x : Point} (b : InBox 1 x) where
  abbrev theirs : (k : ℕ) → Float → ℚ
  theirs k y = natural U *ℚ exact y *ℚ monomial ℚR (k ∷ []) x

  abbrev ours : (k : ℕ) → Float → ℚ
  ours k y = whole (coefficient y) *ℚ monomial ℚR (k ∷ []) x

  term_near : (k : ℕ) (y : Float) → abs ℚO (theirs k y -ℚ ours k y) ≤ℚ natural (inexact y)
  term_near k y = ap (abs ℚO) (ring 3 ℚR (λ u c m. u ⊠ m ⊟ c ⊠ m) (λ u c m. (u ⊟ c) ⊠ m) refl
      (natural U *ℚ exact y) (whole (coefficient y)) (monomial ℚR (k ∷ []) x))
      ≡≤ abs_prod ℚO _ _ (coefficient_near y) (monomial_le ℚO (k ∷ []) b)
      ≤≡ *-one _

  -- what was within their radius is within ours
  carried : (c : Delivery) (y : ℚ) → distance y (their_value c x) ≤ℚ exact c.radius
      → abs ℚO (natural U *ℚ y -ℚ (theirs 0 c.c0 +ℚ (theirs 1 c.c1 +ℚ theirs 2 c.c2)))
      ≤ℚ natural (radius_up c.radius)
  unfolding distance
  carried c y h = ap (λ v. abs ℚO (natural U *ℚ y -ℚ v)) (sym (U_value c b))
      ∙ ap (abs ℚO) (ring 3 ℚR (λ u y v. u ⊠ y ⊟ u ⊠ v) (λ u y v. u ⊠ (y ⊟ v)) refl (natural U) y (their_value c x))
      ∙ U_abs _
      ≡≤ U_times_≤ h
      ≤≤ radius_enough c.radius

  -- all of them
  curve_near : (c : Delivery) (y : ℚ) → distance y (their_value c x) ≤ℚ exact c.radius → Near (converted c) x y
  unfolding Near converted model_of
  curve_near c y h = ap (abs ℚO)
      (ap (λ v. natural U *ℚ y -ℚ v) (scaled_drop_zeros x _ ∙ scaled_three _ _ _ x)
      ∙ ring 7 ℚR (λ y p q r i j k. y ⊟ (i ⊞ (j ⊞ k)))
      (λ y p q r i j k. (y ⊟ (p ⊞ (q ⊞ r))) ⊞ (p ⊟ i) ⊞ (q ⊟ j) ⊞ (r ⊟ k)) refl
      (natural U *ℚ y) (theirs 0 c.c0) (theirs 1 c.c1) (theirs 2 c.c2)
      (ours 0 c.c0) (ours 1 c.c1) (ours 2 c.c2))
      ≡≤ sum_≤ _ _ _ _ (sum_≤ _ _ _ _ (sum_≤ _ _ _ _ (carried c y h) (term_near 0 c.c0)) (term_near 1 c.c1))
      (term_near 2 c.c2)

-- ---- THE ENCLOSURE: any function within theirs is within ours
pub converted_within : (c : Delivery) (f : Point → ℚ) → WithinTheirs f c → Within f (converted c)
unfolding WithinTheirs Within converted model_of
converted_within c f h x b = near_at _ x (f x) (curve_near b c (f x) (h x b))

-- of what the call answers
pub call_within : (c : Delivery) (f : Point → ℚ) (m : Model) → call_doubles c ≡ done m → WithinTheirs f c → Within f m
unfolding call_doubles
call_within c f m e h = if_done {P = Within f} (require_at_done 0 (deliverable c) bad_double _
    (λ t. placed 0 (limited_accepted {P = Within f} (converted c) (converted_within c f h)))) e
