-- The structs of a call's outcome hand back document 01's number, place and value, for every case of the outcome.
use Rattle.std.specs.Prelude.{◌≡◌, refl}
use Rattle.std.proofs.Common.{ap}
use Rattle.calculus.specs.Model as C
use Rattle.calculus.specs.Operations.{Ends, Integral, zero_integral}
use Rattle.calculus.specs.Refusal as R
use Rattle.calculus.specs.Refusal.{Result, done, stopped, returned}
use Rattle.calculus.specs.Calls.{returned_model, returned_ends, returned_integral}
use Rattle.model_types.specs.ModelStruct.{pack, verdict_number, verdict_place, answer, bounds}
use Rattle.model_types.specs.ModelStruct.{integral_answer, integral_held}
use Rattle.model_types.specs.ModelStructLaws.{cause_refusal}

-- ---- models: the number, the place
pub answer_number : (r : Result C.Model) → verdict_number (answer r).verdict ≡ (returned_model r).number
unfolding answer verdict_number returned_model returned
answer_number (done m) = refl
answer_number (stopped r i) = ap R.number (cause_refusal r)

pub answer_place : (r : Result C.Model) → verdict_place (answer r).verdict ≡ (returned_model r).place
unfolding answer verdict_place returned_model returned
answer_place (done m) = refl
answer_place (stopped r i) = refl

-- and the model
pub answer_model : (r : Result C.Model) → (answer r).model ≡ pack (returned_model r).value
unfolding answer returned_model returned
answer_model (done m) = refl
answer_model (stopped r i) = refl

-- ---- ends: the number, the place
pub bounds_number : (r : Result Ends) → verdict_number (bounds r).verdict ≡ (returned_ends r).number
unfolding bounds verdict_number returned_ends returned
bounds_number (done e) = refl
bounds_number (stopped r i) = ap R.number (cause_refusal r)

pub bounds_place : (r : Result Ends) → verdict_place (bounds r).verdict ≡ (returned_ends r).place
unfolding bounds verdict_place returned_ends returned
bounds_place (done e) = refl
bounds_place (stopped r i) = refl

-- and the ends
pub bounds_low : (r : Result Ends) → (bounds r).low ≡ (returned_ends r).value.low
unfolding bounds returned_ends returned
bounds_low (done e) = refl
bounds_low (stopped r i) = refl

pub bounds_high : (r : Result Ends) → (bounds r).high ≡ (returned_ends r).value.high
unfolding bounds returned_ends returned
bounds_high (done e) = refl
bounds_high (stopped r i) = refl

-- ---- integrals: the number, the place
pub integral_number : (r : Result Integral) → verdict_number (integral_answer r).verdict ≡ (returned_integral r).number
unfolding integral_answer verdict_number returned_integral returned
integral_number (done v) = refl
integral_number (stopped r i) = ap R.number (cause_refusal r)

pub integral_place : (r : Result Integral) → verdict_place (integral_answer r).verdict ≡ (returned_integral r).place
unfolding integral_answer verdict_place returned_integral returned
integral_place (done v) = refl
integral_place (stopped r i) = refl

-- and the ends, q and r
pub integral_value : (r : Result Integral) → integral_held (integral_answer r) ≡ (returned_integral r).value
unfolding integral_answer integral_held returned_integral returned zero_integral
integral_value (done v) = refl
integral_value (stopped r i) = refl
