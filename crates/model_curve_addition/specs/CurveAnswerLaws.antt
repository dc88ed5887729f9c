-- What each way out of a call on curves answers.
use Rattle.std.specs.Prelude.{◌≡◌, true, false, leb, length}
use Rattle.std.proofs.Common.{sym, ◌∙◌, eq-eqb}
use Rattle.numbers.specs.Fixed.{span_limit}
use Rattle.calculus.specs.Refusal.{stopped, over_span, bad_model, at_place, require, require_at}
use Rattle.chebyshev.specs.Curve.{span, sound}
use Rattle.chebyshev.specs.PowerRows.{places}
use Rattle.chebyshev.specs.CurveOperations.{limited_curve, negate, added, add, subtract}
use Rattle.chebyshev.specs.CurveCalls.{call_negate, call_add, call_subtract, require_two}
use Rattle.model_types.specs.declared.Curve.{Curve}
use Rattle.std.specs.Prelude.{Ok}
use Rattle.model_types.specs.CurveStruct.{view_curve, pack_curve, curve_answer}

module _ (c : Curve) (w : length c.coefficients ≡ 16) where
  by_span : sound (view_curve c) ≡ leb (span (view_curve c)) span_limit
  unfolding sound places
  by_span = rw (eq-eqb (length c.coefficients) 16 w)

  pub limited_in : sound (view_curve c) ≡ true
      → record { curve = c; verdict = Ok tt } ≡ curve_answer (at_place 0 (limited_curve (view_curve c)))
  unfolding limited_curve require at_place curve_answer
  limited_in t = rw (sym by_span ∙ t)

  pub limited_out : sound (view_curve c) ≡ false
      → curve_answer (stopped over_span 0) ≡ curve_answer (at_place 0 (limited_curve (view_curve c)))
  unfolding limited_curve require at_place
  limited_out t = rw (sym by_span ∙ t)

-- ---- negate
pub negate_unsound : (c : Curve) → sound (view_curve c) ≡ false
    → curve_answer (stopped bad_model 0) ≡ curve_answer (call_negate (view_curve c))
unfolding call_negate require_at
negate_unsound c t = rw t

pub negate_sound : (c : Curve) → sound (view_curve c) ≡ true
    → record { curve = pack_curve (negate (view_curve c)); verdict = Ok tt }
    ≡ curve_answer (call_negate (view_curve c))
unfolding call_negate require_at curve_answer
negate_sound c t = rw t

-- ---- add
module _ (f g : Curve) where
  pub first_unsound : sound (view_curve f) ≡ false
      → curve_answer (stopped bad_model 0) ≡ curve_answer (call_add (view_curve f) (view_curve g))
  unfolding call_add require_two require_at
  first_unsound t = rw t

  pub second_unsound : sound (view_curve f) ≡ true → sound (view_curve g) ≡ false
      → curve_answer (stopped bad_model 1) ≡ curve_answer (call_add (view_curve f) (view_curve g))
  unfolding call_add require_two require_at
  second_unsound t u = rw (t, u)

  pub both_sound : sound (view_curve f) ≡ true → sound (view_curve g) ≡ true
      → curve_answer (at_place 0 (limited_curve (added (view_curve f) (view_curve g))))
      ≡ curve_answer (call_add (view_curve f) (view_curve g))
  unfolding call_add require_two require_at add
  both_sound t u = rw (t, u)

-- ---- subtract
module _ (f g : Curve) where
  pub minuend_unsound : sound (view_curve f) ≡ false
      → curve_answer (stopped bad_model 0) ≡ curve_answer (call_subtract (view_curve f) (view_curve g))
  unfolding call_subtract require_two require_at
  minuend_unsound t = rw t

  pub subtrahend_unsound : sound (view_curve f) ≡ true → sound (view_curve g) ≡ false
      → curve_answer (stopped bad_model 1) ≡ curve_answer (call_subtract (view_curve f) (view_curve g))
  unfolding call_subtract require_two require_at
  subtrahend_unsound t u = rw (t, u)

  pub subtracted : sound (view_curve f) ≡ true → sound (view_curve g) ≡ true
      → curve_answer (at_place 0 (limited_curve (added (view_curve f) (negate (view_curve g)))))
      ≡ curve_answer (call_subtract (view_curve f) (view_curve g))
  unfolding call_subtract require_two require_at subtract add
  subtracted t u = rw (t, u)
