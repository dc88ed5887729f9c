-- What is claimed of the calls on curves; CurveClaimProof proves it (`claim_of_one`, `claim_of_two`, `claim_of_model`).
-- It rests on these definitions, to be read in this order:
--   calculus: a model in powers, which functions are within it, and what lies between two ends
--   Recurrence, Coefficients, PowerRows, Tables: the Chebyshev polynomials, rows of coefficients, the tables
--   Curve: the model form in Chebyshev polynomials, and which functions are within it
--   CurveOperations, CurveCalls: the operations, and the calls with their refusals
use Rattle.std.specs.Prelude.{◌≡◌, [], ◌∷◌, T}
use Rattle.algebra.proofs.Rational.{ℚ, ◌+ℚ◌, ◌*ℚ◌, negℚ}
use Rattle.calculus.specs.Model.{Model, most_degree, ◌-ℚ◌, Point, InBox}
use Rattle.calculus.specs.Model as M
use Rattle.calculus.specs.Refusal.{Result, done, ◌followed_by◌}
use Rattle.calculus.specs.Operations.{Ends}
use Rattle.calculus.specs.Functions.{Function, Lies}
use Rattle.chebyshev.specs.Curve.{Curve, sound, value, Within}
use Rattle.chebyshev.specs.CurveOperations.{negate}
use Rattle.chebyshev.specs.CurveCalls.{call_negate, call_range, call_add, call_subtract, call_multiply}
use Rattle.chebyshev.specs.CurveCalls.{call_to_powers, call_from_powers}

-- ---- a curve that a call gives: it is one by the rules, and f is within it
pub record Encloses (f : Function) (r : Curve) : Type 0 where
  pub is_sound : T (sound r)
  pub within : Within f r

-- a curve with all signs turned; a refusal stays
unfoldable pub mirrored : Result Curve → Result Curve
mirrored a = a followed_by (λ c. done (negate c))

-- ---- of one curve, and a function within it
pub record ClaimOfOne (c : Curve) (f : Function) : Type 0 where
  -- negation
  pub negation : (r : Curve) → call_negate c ≡ done r → Encloses (λ x. negℚ (f x)) r
  -- the value times U is at least the low and at most the high end of the range, at every point of the box
  pub in_range : (e : Ends) → call_range c ≡ done e → (x : Point) → InBox 1 x → Lies (f x) e
  -- in powers: a model by the rules in one variable, which the function is within
  pub in_powers : (m : Model) → call_to_powers c ≡ done m → T (M.sound most_degree m) × (m.vars ≡ 1) × M.Within f m
  -- and which has the same value at every x, and the same radius
  pub exact_in_powers : (m : Model) → call_to_powers c ≡ done m
      → ((x : ℚ) → M.value m (x ∷ []) ≡ value c x) × (m.radius ≡ c.radius)

-- ---- of two curves, and a function within each
pub record ClaimOfTwo (c d : Curve) (f g : Function) : Type 0 where
  -- the sum, the difference and the product
  pub sum : (r : Curve) → call_add c d ≡ done r → Encloses (λ x. f x +ℚ g x) r
  pub difference : (r : Curve) → call_subtract c d ≡ done r → Encloses (λ x. f x -ℚ g x) r
  pub product : (r : Curve) → call_multiply c d ≡ done r → Encloses (λ x. f x *ℚ g x) r

-- ---- of a model in powers, and a function within it
pub record ClaimOfModel (m : Model) (f : Function) : Type 0 where
  -- in Chebyshev polynomials
  pub in_chebyshev : (r : Curve) → call_from_powers m ≡ done r → Encloses f r

-- ---- of two curves alone: turning the signs of one factor turns those of the product and leaves its radius
pub record ClaimOfSigns (c d : Curve) : Type 0 where
  pub first : call_multiply (negate c) d ≡ mirrored (call_multiply c d)
  pub second : call_multiply c (negate d) ≡ mirrored (call_multiply c d)
  pub both : call_multiply (negate c) (negate d) ≡ call_multiply c d

-- ---- the theorems
-- every curve, every function within it
abbrev pub EveryCurve : Type 0
EveryCurve = (c : Curve) (f : Function) → Within f c → ClaimOfOne c f

-- every two curves
abbrev pub EveryTwoCurves : Type 0
EveryTwoCurves = (c d : Curve) (f g : Function) → Within f c → Within g d → ClaimOfTwo c d f g

-- every model in powers
abbrev pub EveryModel : Type 0
EveryModel = (m : Model) (f : Function) → M.Within f m → ClaimOfModel m f

-- every two curves, whatever their signs
abbrev pub EverySign : Type 0
EverySign = (c d : Curve) → ClaimOfSigns c d
