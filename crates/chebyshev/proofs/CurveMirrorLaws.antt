-- A mirrored curve: turning the signs of one factor turns those of the product and leaves its radius, or its refusal.
use Rattle.std.specs.Prelude.{◌≡◌, Bool, ◌&&◌, eqb, leb, ℤ, ◌+ℤ◌, ◌-ℤ◌, ◌*ℤ◌, length, take, drop, replicate}
use Rattle.std.proofs.Math.Path.{refl, ap, ap₂}
use Rattle.std.proofs.Common.{◌∙◌, arith}
use Rattle.std.proofs.Math.Bool.{true, false}
use mathlib.Core.List.{[], ◌∷◌, map}
use Prim.Native.Nat.{ℕ, zero, suc, ◌+◌, ◌*◌, ◌<◌}
use Rattle.std.proofs.Math.IntN.{pos, neg_ℤ, nat_abs, neg_ℤ-neg_ℤ}
use Rattle.std.proofs.Math.ListN.{length-map}
use Rattle.algebra.specs.IntegerRing.{ℤR}
use Rattle.algebra.specs.RingSolver.{◌⊞◌, ◌⊠◌, ⊝◌, ring}
use Rattle.numbers.specs.Division.{divided_up, nearest}
use Rattle.numbers.proofs.NearestLaws.{nearest_neg, left_neg}
use Rattle.numbers.specs.Fixed.{U, span_limit}
use Rattle.numbers.proofs.FixedLaws.{U_pos}
use Rattle.calculus.specs.Refusal.{over_span, bad_model, accepted, require, at_place, require_at}
use Rattle.calculus.specs.Refusal.{Result, done, stopped, ◌followed_by◌}
use Rattle.chebyshev.specs.Recurrence.{apart}
use Rattle.chebyshev.specs.Coefficients.{Row, size, add_at, products_of, products_from}
use Rattle.chebyshev.specs.PowerRows.{places}
use Rattle.chebyshev.specs.Curve.{Curve, span, sound}
use Rattle.chebyshev.specs.CurveOperations.{limited_curve, negate, residuals, swept, rounded, products, carried}
use Rattle.chebyshev.specs.CurveOperations.{multiplied, multiply}
use Rattle.chebyshev.specs.CurveCalls.{require_two, call_multiply}
use Rattle.chebyshev.specs.CurveClaim.{mirrored}
use Rattle.chebyshev.proofs.CurveSoundLaws.{size_negated}

-- ---- rows with all signs turned
-- one row
abbrev turned : Row → Row
turned = map neg_ℤ

turned_twice : (p : Row) → turned (turned p) ≡ p
turned_twice [] = refl
turned_twice (a ∷ p) = ap₂ ◌∷◌ (neg_ℤ-neg_ℤ a) (turned_twice p)

turned_take : (n : ℕ) (p : Row) → take n (turned p) ≡ turned (take n p)
turned_take zero p = refl
turned_take (suc n) [] = refl
turned_take (suc n) (a ∷ p) = ap (λ q. neg_ℤ a ∷ q) (turned_take n p)

turned_drop : (n : ℕ) (p : Row) → drop n (turned p) ≡ turned (drop n p)
turned_drop zero p = refl
turned_drop (suc n) [] = refl
turned_drop (suc n) (a ∷ p) = turned_drop n p

sum_neg : (a b : ℤ) → neg_ℤ a +ℤ neg_ℤ b ≡ neg_ℤ (a +ℤ b)
sum_neg a b = ring 2 ℤR (λ a b. ⊝ a ⊞ (⊝ b)) (λ a b. ⊝ (a ⊞ b)) refl a b

first_neg : (a b : ℤ) → neg_ℤ a *ℤ b ≡ neg_ℤ (a *ℤ b)
first_neg a b = ring 2 ℤR (λ a b. ⊝ a ⊠ b) (λ a b. ⊝ (a ⊠ b)) refl a b

second_neg : (a b : ℤ) → a *ℤ neg_ℤ b ≡ neg_ℤ (a *ℤ b)
second_neg a b = ring 2 ℤR (λ a b. a ⊠ (⊝ b)) (λ a b. ⊝ (a ⊠ b)) refl a b

-- ---- the collected products turn with a factor
add_at_turned : (k : ℕ) (z : ℤ) (p : Row) → add_at k (neg_ℤ z) (turned p) ≡ turned (add_at k z p)
unfolding add_at
add_at_turned zero z [] = refl
add_at_turned zero z (a ∷ p) = ap (λ b. b ∷ turned p) (sum_neg z a)
add_at_turned (suc k) z [] = ap (λ q. pos 0 ∷ q) (add_at_turned k z [])
add_at_turned (suc k) z (a ∷ p) = ap (λ q. neg_ℤ a ∷ q) (add_at_turned k z p)

-- one product, put at both its degrees
both_turned : (k l : ℕ) (y z : ℤ) (p q : Row) → y ≡ neg_ℤ z → p ≡ turned q
    → add_at k y (add_at l y p) ≡ turned (add_at k z (add_at l z q))
both_turned k l y z p q e h = ap₂ (λ y p. add_at k y (add_at l y p)) e h
    ∙ ap (add_at k (neg_ℤ z)) (add_at_turned l z q) ∙ add_at_turned k z (add_at l z q)

products_of_first : (i : ℕ) (a : ℤ) (j : ℕ) (g z : Row)
    → products_of i (neg_ℤ a) j g (turned z) ≡ turned (products_of i a j g z)
unfolding products_of
products_of_first i a j [] z = refl
products_of_first i a j (b ∷ g) z = both_turned (i + j) (apart i j) (neg_ℤ a *ℤ b) (a *ℤ b)
    (products_of i (neg_ℤ a) (suc j) g (turned z)) (products_of i a (suc j) g z)
    (first_neg a b) (products_of_first i a (suc j) g z)

products_of_second : (i : ℕ) (a : ℤ) (j : ℕ) (g z : Row)
    → products_of i a j (turned g) (turned z) ≡ turned (products_of i a j g z)
unfolding products_of
products_of_second i a j [] z = refl
products_of_second i a j (b ∷ g) z = both_turned (i + j) (apart i j) (a *ℤ neg_ℤ b) (a *ℤ b)
    (products_of i a (suc j) (turned g) (turned z)) (products_of i a (suc j) g z)
    (second_neg a b) (products_of_second i a (suc j) g z)

products_from_first : (i : ℕ) (f g z : Row) → products_from i (turned f) g (turned z) ≡ turned (products_from i f g z)
unfolding products_from
products_from_first i [] g z = refl
products_from_first i (a ∷ f) g z = ap (products_of i (neg_ℤ a) 0 g) (products_from_first (suc i) f g z)
    ∙ products_of_first i a 0 g (products_from (suc i) f g z)

products_from_second : (i : ℕ) (f g z : Row) → products_from i f (turned g) (turned z) ≡ turned (products_from i f g z)
unfolding products_from
products_from_second i [] g z = refl
products_from_second i (a ∷ f) g z = ap (products_of i a 0 (turned g)) (products_from_second (suc i) f g z)
    ∙ products_of_second i a 0 g (products_from (suc i) f g z)

products_first : (f g : Curve) → products (negate f) g ≡ turned (products f g)
unfolding products negate
products_first f g = products_from_first 0 f.coefficients g.coefficients (replicate 31 (pos 0))

products_second : (f g : Curve) → products f (negate g) ≡ turned (products f g)
unfolding products negate
products_second f g = products_from_second 0 f.coefficients g.coefficients (replicate 31 (pos 0))

-- ---- and so do the rounded coefficients, with the same radius
module _ (d : ℕ) (l : 0 < d) where
  nearest_turned : (p : Row) → map (λ a. nearest a d) (turned p) ≡ turned (map (λ a. nearest a d) p)
  nearest_turned [] = refl
  nearest_turned (a ∷ p) = ap₂ ◌∷◌ (nearest_neg a d l) (nearest_turned p)

  left_turned : (p : Row)
      → size (map (λ a. a -ℤ nearest a d *ℤ pos d) (turned p)) ≡ size (map (λ a. a -ℤ nearest a d *ℤ pos d) p)
  unfolding size
  left_turned [] = refl
  left_turned (a ∷ p) = ap₂ ◌+◌
      (ap (λ c. nat_abs (neg_ℤ a -ℤ c *ℤ pos d)) (nearest_neg a d l) ∙ left_neg a (nearest a d) d) (left_turned p)

  residuals_turned : (z : Row) → residuals d (turned z) ≡ residuals d z
  unfolding residuals
  residuals_turned z = ap (λ p. size (map (λ a. a -ℤ nearest a d *ℤ pos d) p)) (turned_take places z)
      ∙ left_turned (take places z)

  swept_turned : (z : Row) → swept (turned z) ≡ swept z
  unfolding swept
  swept_turned z = ap size (turned_drop places z) ∙ size_negated (drop places z)

  rounded_turned : (E : ℕ) (z : Row) → rounded d E (turned z) ≡ negate (rounded d E z)
  unfolding rounded negate
  rounded_turned E z = λ i. record {
    coefficients = kept i;
    radius = divided_up (error i) d;
  }
    where
      kept : map (λ a. nearest a d) (take places (turned z)) ≡ turned (map (λ a. nearest a d) (take places z))
      kept = ap (map (λ a. nearest a d)) (turned_take places z) ∙ nearest_turned (take places z)

      error : E + residuals d (turned z) + swept (turned z) ≡ E + residuals d z + swept z
      error = ap₂ (λ r s. E + r + s) (residuals_turned z) (swept_turned z)

-- ---- the limit does not see the signs
negate_twice : (f : Curve) → negate (negate f) ≡ f
unfolding negate
negate_twice f = ap (λ p. record { coefficients = p; radius = f.radius }) (turned_twice f.coefficients)

span_negate : (f : Curve) → span (negate f) ≡ span f
unfolding span negate
span_negate f = ap (λ n. n + f.radius) (size_negated f.coefficients)

sound_negate : (f : Curve) → sound (negate f) ≡ sound f
unfolding sound
sound_negate f = ap₂ (λ n s. eqb n places && leb s span_limit) (lengths f) (span_negate f)
  where
    lengths : (f : Curve) → length (negate f).coefficients ≡ length f.coefficients
    lengths f = unfold negate in length-map f.coefficients neg_ℤ

limited_mirrored : (f : Curve) → at_place 0 (limited_curve (negate f)) ≡ mirrored (at_place 0 (limited_curve f))
unfolding limited_curve
limited_mirrored f =
    ap (λ s. at_place 0 (require (leb s span_limit) over_span (accepted (negate f)))) (span_negate f)
    ∙ go (leb (span f) span_limit)
  where
    go : (b : Bool) → at_place 0 (require b over_span (accepted (negate f)))
        ≡ mirrored (at_place 0 (require b over_span (accepted f)))
    go true = unfold require at_place mirrored ◌followed_by◌ in refl
    go false = unfold require at_place mirrored ◌followed_by◌ in refl

-- ---- the product
carried_first : (f g : Curve) → carried (negate f) g ≡ carried f g
unfolding carried negate
carried_first f g = omega (arith, ap (λ a. a * g.radius) (size_negated f.coefficients))

carried_second : (f g : Curve) → carried f (negate g) ≡ carried f g
unfolding carried negate
carried_second f g = omega (arith, ap (λ b. b * f.radius) (size_negated g.coefficients))

-- the products of f and g are those of h and k turned, and as much is carried
turned_product : (f g h k : Curve) → carried f g ≡ carried h k → products f g ≡ turned (products h k)
    → multiplied f g ≡ negate (multiplied h k)
unfolding multiplied
turned_product f g h k c z = ap₂ (λ e p. rounded (2 * U) (2 * e) p) c z
    ∙ rounded_turned (2 * U) (omega (arith, U_pos)) (2 * carried h k) (products h k)

pub multiplied_first : (f g : Curve) → multiplied (negate f) g ≡ negate (multiplied f g)
multiplied_first f g = turned_product (negate f) g f g (carried_first f g) (products_first f g)

pub multiplied_second : (f g : Curve) → multiplied f (negate g) ≡ negate (multiplied f g)
multiplied_second f g = turned_product f (negate g) f g (carried_second f g) (products_second f g)

-- ---- the calls
-- both tests answer of a mirrored curve as of the curve
two_mirrored : (f g h k : Curve) (a b : Result Curve) → sound f ≡ sound h → sound g ≡ sound k → a ≡ mirrored b
    → require_two f g a ≡ mirrored (require_two h k b)
unfolding require_two
two_mirrored f g h k a b s t e =
    ap₂ (λ s t. require_at 0 s bad_model (require_at 1 t bad_model a)) s t
    ∙ ap (λ a. require_at 0 (sound h) bad_model (require_at 1 (sound k) bad_model a)) e
    ∙ go (sound h) (sound k)
  where
    go : (s t : Bool) → require_at 0 s bad_model (require_at 1 t bad_model (mirrored b))
        ≡ mirrored (require_at 0 s bad_model (require_at 1 t bad_model b))
    go true true = unfold require_at in refl
    go true false = unfold require_at mirrored ◌followed_by◌ in refl
    go false t = unfold require_at mirrored ◌followed_by◌ in refl

pub mirrored_first : (f g : Curve) → call_multiply (negate f) g ≡ mirrored (call_multiply f g)
unfolding call_multiply multiply
mirrored_first f g = two_mirrored (negate f) g f g _ _ (sound_negate f) refl
    (ap (λ c. at_place 0 (limited_curve c)) (multiplied_first f g) ∙ limited_mirrored (multiplied f g))

pub mirrored_second : (f g : Curve) → call_multiply f (negate g) ≡ mirrored (call_multiply f g)
unfolding call_multiply multiply
mirrored_second f g = two_mirrored f (negate g) f g _ _ refl (sound_negate g)
    (ap (λ c. at_place 0 (limited_curve c)) (multiplied_second f g) ∙ limited_mirrored (multiplied f g))

-- turning twice is nothing
mirrored_twice : (r : Result Curve) → mirrored (mirrored r) ≡ r
unfolding mirrored ◌followed_by◌
mirrored_twice (done c) = ap done (negate_twice c)
mirrored_twice (stopped r i) = refl

-- both turned: the product stays
pub mirrored_both : (f g : Curve) → call_multiply (negate f) (negate g) ≡ call_multiply f g
mirrored_both f g = mirrored_first f (negate g) ∙ ap mirrored (mirrored_second f g) ∙ mirrored_twice (call_multiply f g)
