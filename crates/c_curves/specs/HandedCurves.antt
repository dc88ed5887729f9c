-- Curves as numbers and slices: what is handed over, the call that a code names, and what the slices hold at the end.
use Rattle.std.specs.Prelude.{Bool, true, false, ◌&&◌, cond, List, [], ◌∷◌, ℕ, eqb, leb, ℤ, take}
use Rattle.calculus.specs.Refusal.{Result}
use Rattle.calculus.specs.Operations.{Ends}
use Rattle.chebyshev.specs.PowerRows.{places}
use Rattle.chebyshev.specs.Curve as C
use Rattle.chebyshev.specs.CurveCalls.{call_negate, call_add, call_subtract, call_multiply}
use Rattle.model_types.specs.declared.Bounds.{Bounds}
use Rattle.model_types.specs.declared.CurveAnswer.{CurveAnswer}
use Rattle.model_types.specs.ModelStruct.{bounds, verdict_number, verdict_place}
use Rattle.model_types.specs.CurveStruct.{curve_answer}
use Rattle.model_slices.specs.HandedModels.{borrowed, misused, over}

-- the curve that is handed over: the first sixteen of a slice of coefficients, and the radius
unfoldable pub handed_curve : List ℤ → (radius : ℕ) → C.Curve
handed_curve cs radius = record { coefficients = take places cs; radius = radius }

-- the call that a code names, as in a sheet's steps: 3 negate, 4 add, 5 subtract, 6 multiply
unfoldable pub curve_call : (code : ℕ) (f g : C.Curve) → Result C.Curve
curve_call code f g =
    cond (eqb code 3) (call_negate f)
    (cond (eqb code 4) (call_add f g)
    (cond (eqb code 5) (call_subtract f g)
    (call_multiply f g)))

-- ---- a call that answers with a curve
-- the number that it returns, and its slices
pub record CalledCurve : Type 0 where
  pub number : ℕ
  pub coefficients : List ℤ
  pub numbers : List ℕ

-- these, put together
unfoldable pub curve_state : (number : ℕ) → List ℤ → List ℕ → CalledCurve
curve_state number cs ns = record { number = number; coefficients = cs; numbers = ns }

-- how many numbers go with a curve that is answered: a refusal's place and the radius
abbrev pub curve_numbers : ℕ
curve_numbers = 2

-- an answer, over what the slices hold
unfoldable pub stored_curve : CurveAnswer → List ℤ → List ℕ → CalledCurve
stored_curve a cs ns =
    curve_state (verdict_number a.verdict) (over a.curve.coefficients cs)
    (over (verdict_place a.verdict ∷ a.curve.radius ∷ []) ns)

-- whether slices of these lengths have room for it
unfoldable pub curve_room : (coefficients numbers : ℕ) → Bool
curve_room coefficients numbers = leb places coefficients && leb curve_numbers numbers

-- whether the code is known, both curves have sixteen coefficients, and there is room
unfoldable pub curve_fits : (code coefficients₁ coefficients₂ : ℕ) (room : Bool) → Bool
curve_fits code c₁ c₂ room =
    leb 3 code && leb code 6 && leb places c₁ && leb places c₂ && room

-- a call that fits is answered, any other returns 255 and changes nothing
unfoldable pub called_curve : (fits : Bool) → Result C.Curve → List ℤ → List ℕ → CalledCurve
called_curve true a cs ns = stored_curve (curve_answer a) cs ns
called_curve false a cs ns = curve_state misused cs ns

-- ---- the range
-- the number that it returns, and its slice
pub record CalledRange : Type 0 where
  pub number : ℕ
  pub ends : List ℤ

-- these, put together
unfoldable pub range_state : (number : ℕ) → List ℤ → CalledRange
range_state number es = record { number = number; ends = es }

-- two ends, over what the slice holds
unfoldable pub stored_bounds : Bounds → List ℤ → CalledRange
stored_bounds b es = range_state (verdict_number b.verdict) (over (b.low ∷ b.high ∷ []) es)

-- whether the curve has sixteen coefficients, and there is room for two ends
unfoldable pub range_fits : (coefficients ends : ℕ) → Bool
range_fits coefficients ends = leb places coefficients && leb 2 ends

-- a call that fits is answered, any other returns 255 and changes nothing
unfoldable pub called_range : (fits : Bool) → Result Ends → List ℤ → CalledRange
called_range true a es = stored_bounds (bounds a) es
called_range false a es = range_state misused es

-- ---- conversion
-- to powers: whether the curve has sixteen coefficients, and there is room for a model
unfoldable pub to_powers_fits : (coefficients : ℕ) (room : Bool) → Bool
to_powers_fits coefficients room = leb places coefficients && room

-- back: whether the model's slices have every place that its count names, and there is room for a curve
unfoldable pub from_powers_fits : (count keys coefficients : ℕ) (room : Bool) → Bool
from_powers_fits count keys coefficients room = borrowed count keys coefficients && room
