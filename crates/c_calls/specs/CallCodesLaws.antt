-- Which codes name a call, what a call that fits has room for, two ends alone as structs, and how large a remainder is.
use Rattle.std.specs.Prelude.{◌≡◌, refl, Bool, true, false, ◌&&◌, cond, List, [], ◌∷◌, map, ℕ, ◌^◌, ◌≤◌, ◌<◌, T}
use Rattle.std.specs.Prelude.{eqb, leb, ℤ}
use Rattle.std.proofs.Common.{sym, subst, arith, leb→le}
use Rattle.calculus.specs.Model as C
use Rattle.calculus.specs.Model.{most_degree, most_terms, sound}
use Rattle.calculus.specs.Refusal.{bad_model, Result, done, stopped, require_at, ◌followed_by◌}
use Rattle.calculus.specs.Operations.{Ends, zero_ends, zero_mixed, common_denominator, exact_part}
use Rattle.model.specs.OperationLaws.{exact_remainder}
use Rattle.calculus.specs.Operations.{whole_integral}
use Rattle.calculus.specs.Calls.{call_range, call_integral, call_evaluate}
use Rattle.calculus_laws.specs.TestLaws.{and_right}
use Rattle.model_types.specs.ModelStruct.{bounds, integral_answer}
use Rattle.model_slices.specs.HandedModels.{borrowed, answer_numbers, model_room}
use Rattle.model_slices.specs.HandedModelsLaws.{room_parts}
use Rattle.c_calls.specs.CallCodes.{call_known, alone, ends_alone, ends_call, call_fits, ends_call_fits}
use Rattle.c_calls.specs.CallCodes.{point_fits}

-- codes 0 to 11: a step's 0, an input, and 9, a quotient, are no calls
pub known_codes :
    map call_known (0 ∷ 1 ∷ 2 ∷ 3 ∷ 4 ∷ 5 ∷ 6 ∷ 7 ∷ 8 ∷ 9 ∷ 10 ∷ 11 ∷ [])
    ≡ false ∷ true ∷ true ∷ true ∷ true ∷ true ∷ true ∷ true ∷ true ∷ false ∷ true ∷ false ∷ []
unfolding call_known
known_codes = refl

pub fits_room : (code c₁ k₁ z₁ c₂ k₂ z₂ k z n : ℕ) → call_fits code c₁ k₁ z₁ c₂ k₂ z₂ (model_room k z n) ≡ true
    → (most_terms ≤ k) × (most_terms ≤ z) × (answer_numbers ≤ n)
unfolding call_fits
fits_room code c₁ k₁ z₁ c₂ k₂ z₂ k z n h =
    room_parts k z n
    (and_right (call_known code && borrowed c₁ k₁ z₁ && borrowed c₂ k₂ z₂) (model_room k z n) (subst T (sym h) tt))

pub fits_ends : (code c k z p e : ℕ) → ends_call_fits code c k z p e ≡ true → 4 ≤ e
unfolding ends_call_fits
fits_ends code c k z p e h =
    leb→le 4 e
    (and_right (leb 1 code && leb code 3 && borrowed c k z && point_fits code p) (leb 4 e) (subst T (sym h) tt))

-- ---- two ends alone
pub alone_answer : (a : Result Ends) → ends_alone (bounds a) ≡ integral_answer (alone a)
unfolding ends_alone alone bounds integral_answer ◌followed_by◌ zero_ends zero_mixed
alone_answer (done e) = refl
alone_answer (stopped r i) = refl

-- ---- the remainder of an answer fits a signed word
pub exact_small : (m : C.Model) → (exact_part m).remainder < 2 ^ 63
unfolding common_denominator
exact_small m = omega (arith, exact_remainder m)

small_alone : (a : Result Ends) → (integral_answer (alone a)).remainder < 2 ^ 63
unfolding alone integral_answer ◌followed_by◌ zero_mixed
small_alone (done e) = omega arith
small_alone (stopped r i) = omega arith

small_integral : (f : C.Model) → (integral_answer (call_integral f)).remainder < 2 ^ 63
unfolding call_integral integral_answer whole_integral require_at zero_mixed
small_integral f = go (sound most_degree f)
  where
    go : (b : Bool) → (integral_answer (require_at 0 b bad_model (done (whole_integral f)))).remainder < 2 ^ 63
    go true = exact_small f
    go false = omega arith

pub ends_call_small : (code : ℕ) (xs : List ℤ) (f : C.Model)
    → (integral_answer (ends_call code xs f)).remainder < 2 ^ 63
unfolding ends_call
ends_call_small code xs f = go (eqb code 1) (eqb code 2)
  where
    go : (a b : Bool)
        → (integral_answer (cond a (alone (call_range f)) (cond b (call_integral f) (alone (call_evaluate xs f))))
        ).remainder < 2 ^ 63
    go true b = small_alone (call_range f)
    go false true = small_integral f
    go false false = small_alone (call_evaluate xs f)
