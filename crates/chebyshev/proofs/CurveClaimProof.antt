-- The claim on curves: functions within the operands give functions within the result.
use Rattle.std.specs.Prelude.{◌≡◌, refl, [], ◌∷◌, T, eqb, leb, length}
use Rattle.std.proofs.Common.{sym, subst, eqb→eq}
use Rattle.algebra.specs.Ordered.{abs}
use Rattle.algebra.proofs.Rational.{ℚ, ◌+ℚ◌, ◌*ℚ◌, negℚ, ◌≤ℚ◌}
use Rattle.algebra.proofs.RationalOrder.{ℚO}
use Rattle.polynomial.specs.Box.{none, more}
use Rattle.numbers.specs.Fixed.{span_limit}
use Rattle.calculus.specs.Monomial.{index_of}
use Rattle.calculus.specs.Model.{Model, most_vars, most_degree, between, ◌-ℚ◌, Point, InBox}
use Rattle.calculus.specs.Model as M
use Rattle.calculus.specs.Refusal.{over_span, bad_model, not_one_variable, Result}
use Rattle.calculus_laws.specs.RefusalLaws.{IfAccepted, holds, require_accepted, IfDone, is_done, if_done, placed}
use Rattle.calculus_laws.specs.RefusalLaws.{require_at_done}
use Rattle.calculus.specs.Functions.{Function, coordinate, Lies}
use Rattle.calculus_laws.specs.SoundLaws.{Sound, sound_parts, parts_sound}
use Rattle.calculus_laws.specs.UnitLaws.{natural}
use Rattle.calculus_laws.specs.ValueLaws as P
use Rattle.chebyshev.specs.PowerRows.{places}
use Rattle.chebyshev.specs.Curve.{Curve, span, sound, value, Within}
use Rattle.chebyshev.specs.CurveOperations.{limited_curve, negate, added, add, subtract, multiplied, multiply}
use Rattle.chebyshev.specs.CurveOperations.{range}
use Rattle.chebyshev.specs.CurveOperations.{in_powers, to_powers, in_chebyshev, from_powers}
use Rattle.chebyshev.specs.CurveCalls.{call_negate, call_range, require_two, call_add, call_subtract}
use Rattle.chebyshev.specs.CurveCalls.{call_multiply, call_to_powers, call_from_powers}
use Rattle.chebyshev.proofs.CurveValueLaws.{Near, near_at, at_near}
use Rattle.chebyshev.proofs.CurveEnclosureLaws.{negate_near, add_near, multiply_near, range_near}
use Rattle.chebyshev.proofs.CurveSoundLaws.{sound_length, negate_sound, add_sound, subtract_sound, multiply_sound}
use Rattle.chebyshev.proofs.CurveSoundLaws.{to_powers_sound, from_powers_sound}
use Rattle.chebyshev.proofs.ConversionLaws.{to_powers_near, to_powers_exact, from_powers_near}
use Rattle.chebyshev.proofs.CurveMirrorLaws.{mirrored_first, mirrored_second, mirrored_both}
use Rattle.chebyshev.specs.CurveClaim.{EveryCurve, EveryTwoCurves, EveryModel, EverySign}

-- ---- points of one coordinate
by_point : (P : Point → Type 0) → ((x : ℚ) → abs ℚO x ≤ℚ natural 1 → P (x ∷ [])) → (x : Point) → InBox 1 x → P x
by_point P h x (more {x = y} k none) = h y k

pub coordinate_one : (x : ℚ) → coordinate 1 (x ∷ []) ≡ x
unfolding coordinate index_of
coordinate_one x = refl

-- near at every x from -1 to 1 is within, and back
within_by : (f : Function) (c : Curve) → ((x : ℚ) → abs ℚO x ≤ℚ natural 1 → Near c x (f (x ∷ []))) → Within f c
unfolding Within
within_by f c h = by_point _ (λ x b. rw (coordinate_one x) (near_at c x (f (x ∷ [])) (h x b)))

within_near : (f : Function) (c : Curve) → Within f c → (x : ℚ) → abs ℚO x ≤ℚ natural 1 → Near c x (f (x ∷ []))
unfolding Within
within_near f c h x b = at_near c x (f (x ∷ [])) (rw (coordinate_one x) at (h (x ∷ []) (more b none)))

-- ---- the limit changes nothing that is accepted
limited_within : (P : Curve → Type 0) (c : Curve) → P c → IfAccepted P (limited_curve c)
unfolding limited_curve
limited_within P c h = require_accepted (leb (span c) span_limit) over_span _ (λ s. holds h)

-- ---- the operations
pub negate_within : (f : Function) (c : Curve) → Within f c → Within (λ x. negℚ (f x)) (negate c)
negate_within f c h = within_by _ _ (λ x b. negate_near c x _ (within_near f c h x b))

pub add_within : (f g : Function) (c d : Curve) → Within f c → Within g d
    → IfAccepted (Within (λ x. f x +ℚ g x)) (add c d)
unfolding add
add_within f g c d h k = limited_within _ (added c d)
    (within_by _ _ (λ x b. add_near c d x _ _ (within_near f c h x b) (within_near g d k x b)))

pub subtract_within : (f g : Function) (c d : Curve) → Within f c → Within g d
    → IfAccepted (Within (λ x. f x -ℚ g x)) (subtract c d)
unfolding subtract
subtract_within f g c d h k = add_within f (λ x. negℚ (g x)) c (negate d) h (negate_within g d k)

pub multiply_within : (f g : Function) (c d : Curve) → Within f c → Within g d
    → IfAccepted (Within (λ x. f x *ℚ g x)) (multiply c d)
unfolding multiply
multiply_within f g c d h k = limited_within _ (multiplied c d)
    (within_by _ _ (λ x b. multiply_near c d x _ _ b (within_near f c h x b) (within_near g d k x b)))

pub range_within : (f : Function) (c : Curve) → Within f c → (x : Point) → InBox 1 x → Lies (f x) (range c)
range_within f c h = by_point (λ x. Lies (f x) (range c)) (λ x b. range_near c x _ b (within_near f c h x b))

converted_within : (f : Function) (c : Curve) → length c.coefficients ≡ places → Within f c
    → M.Within f (in_powers c)
unfolding M.Within in_powers
converted_within f c l h = by_point (λ x. M.At (in_powers c) x (f x))
    (λ x b. P.near_at (in_powers c) (x ∷ []) (f (x ∷ [])) (to_powers_near c x _ l (within_near f c h x b)))

pub to_powers_within : (f : Function) (c : Curve) → T (sound c) → Within f c → IfAccepted (M.Within f) (to_powers c)
unfolding to_powers
to_powers_within f c s h = require_accepted (leb (M.span (in_powers c)) span_limit) over_span _
    (λ l. holds (converted_within f c (sound_length c s) h))

pub from_powers_within : (f : Function) (m : Model) → T (M.sound most_degree m) → m.vars ≡ 1 → M.Within f m
    → IfAccepted (Within f) (from_powers m)
unfolding from_powers M.Within
from_powers_within f m s e h = limited_within (Within f) (in_chebyshev m) (within_by f _ (λ x b.
    from_powers_near m.vars m x _ b (sound_parts most_degree m s).0.fitting
    (P.at_near m (x ∷ []) _ (h (x ∷ []) (subst (λ n. InBox n (x ∷ [])) (sym e) (more b none))))))

-- ---- the calls
two_done : {A : Type 0} {P : A → Type 0} (c d : Curve) (r : Result A) → IfDone P r → IfDone P (require_two c d r)
unfolding require_two
two_done c d r h = require_at_done 0 (sound c) bad_model _ (λ s. require_at_done 1 (sound d) bad_model r (λ t. h))

call_negate_within : (f : Function) (c : Curve) → Within f c → IfDone (Within (λ x. negℚ (f x))) (call_negate c)
unfolding call_negate
call_negate_within f c h = require_at_done 0 (sound c) bad_model _ (λ s. is_done (negate_within f c h))

call_range_within : (f : Function) (c : Curve) → Within f c
    → IfDone (λ r. (x : Point) → InBox 1 x → Lies (f x) r) (call_range c)
unfolding call_range
call_range_within f c h = require_at_done 0 (sound c) bad_model _ (λ s. is_done (range_within f c h))

call_add_within : (f g : Function) (c d : Curve) → Within f c → Within g d
    → IfDone (Within (λ x. f x +ℚ g x)) (call_add c d)
unfolding call_add
call_add_within f g c d h k = two_done c d _ (placed 0 (add_within f g c d h k))

call_subtract_within : (f g : Function) (c d : Curve) → Within f c → Within g d
    → IfDone (Within (λ x. f x -ℚ g x)) (call_subtract c d)
unfolding call_subtract
call_subtract_within f g c d h k = two_done c d _ (placed 0 (subtract_within f g c d h k))

call_multiply_within : (f g : Function) (c d : Curve) → Within f c → Within g d
    → IfDone (Within (λ x. f x *ℚ g x)) (call_multiply c d)
unfolding call_multiply
call_multiply_within f g c d h k = two_done c d _ (placed 0 (multiply_within f g c d h k))

call_to_powers_within : (f : Function) (c : Curve) → Within f c → IfDone (M.Within f) (call_to_powers c)
unfolding call_to_powers
call_to_powers_within f c h =
    require_at_done 0 (sound c) bad_model _ (λ s. placed 0 (to_powers_within f c s h))

call_from_powers_within : (f : Function) (m : Model) → M.Within f m
    → IfDone (Within f) (call_from_powers m)
unfolding call_from_powers
call_from_powers_within f m h = require_at_done 0 (M.sound most_degree m) bad_model _
    (λ s. require_at_done 0 (eqb m.vars 1) not_one_variable _
    (λ v. placed 0 (from_powers_within f m s (eqb→eq m.vars 1 v) h)))

-- ---- what they give is sound
two_sound : {A : Type 0} {P : A → Type 0} (c d : Curve) (r : Result A) → (T (sound c) → T (sound d) → IfDone P r)
    → IfDone P (require_two c d r)
unfolding require_two
two_sound c d r h = require_at_done 0 (sound c) bad_model _ (λ s. require_at_done 1 (sound d) bad_model r (λ t. h s t))

call_negate_sound : (c : Curve) → IfDone (λ r. T (sound r)) (call_negate c)
unfolding call_negate
call_negate_sound c = require_at_done 0 (sound c) bad_model _ (λ s. is_done (negate_sound c s))

call_add_sound : (c d : Curve) → IfDone (λ r. T (sound r)) (call_add c d)
unfolding call_add
call_add_sound c d = two_sound c d _ (λ s t. placed 0 (add_sound c d s t))

call_subtract_sound : (c d : Curve) → IfDone (λ r. T (sound r)) (call_subtract c d)
unfolding call_subtract
call_subtract_sound c d = two_sound c d _ (λ s t. placed 0 (subtract_sound c d s t))

call_multiply_sound : (c d : Curve) → IfDone (λ r. T (sound r)) (call_multiply c d)
unfolding call_multiply
call_multiply_sound c d = two_sound c d _ (λ s t. placed 0 (multiply_sound c d))

call_from_powers_sound : (m : Model) → IfDone (λ r. T (sound r)) (call_from_powers m)
unfolding call_from_powers
call_from_powers_sound m = require_at_done 0 (M.sound most_degree m) bad_model _
    (λ s. require_at_done 0 (eqb m.vars 1) not_one_variable _ (λ v. placed 0 (from_powers_sound m)))

-- one variable is from 1 to 8
one_between : T (between 1 most_vars 1)
unfolding between most_vars
one_between = tt

model_sound : (m : Model) → Sound 1 most_degree m → T (M.sound most_degree m)
model_sound m s = parts_sound most_degree m
    (subst (λ n. T (between 1 most_vars n)) (sym s.0.vars) one_between)
    (subst (λ n. Sound n most_degree m) (sym s.0.vars) s)

-- ---- in powers: sound, in one variable, with the same value and radius
call_to_powers_sound : (c : Curve) → IfDone (Sound 1 most_degree) (call_to_powers c)
unfolding call_to_powers
call_to_powers_sound c = require_at_done 0 (sound c) bad_model _ (λ s. placed 0 (to_powers_sound c))

-- the model that a curve is in powers has the curve's values and its radius
Exactly : Curve → Model → Type 0
Exactly c m = ((x : ℚ) → M.value m (x ∷ []) ≡ value c x) × (m.radius ≡ c.radius)

same_radius : (c : Curve) → (in_powers c).radius ≡ c.radius
unfolding in_powers
same_radius c = refl

call_to_powers_exact : (c : Curve) → IfDone (Exactly c) (call_to_powers c)
unfolding call_to_powers to_powers Exactly
call_to_powers_exact c = require_at_done 0 (sound c) bad_model _ (λ s. placed 0
    (require_accepted (leb (M.span (in_powers c)) span_limit) over_span _
    (λ l. holds (λ x. to_powers_exact c x (sound_length c s), same_radius c))))

-- ---- the claim
pub claim_of_one : EveryCurve
claim_of_one c f h = record {
  negation = λ r e. record {
    is_sound = if_done (call_negate_sound c) e;
    within = if_done (call_negate_within f c h) e;
  };
  in_range = λ r e. if_done (call_range_within f c h) e;
  in_powers = λ m e.
      let s = if_done (call_to_powers_sound c) e in
      (model_sound m s, s.0.vars, if_done (call_to_powers_within f c h) e);
  exact_in_powers = λ m e. unfold Exactly in if_done (call_to_powers_exact c) e;
}

pub claim_of_two : EveryTwoCurves
claim_of_two c d f g h k = record {
  sum = λ r e. record {
    is_sound = if_done (call_add_sound c d) e;
    within = if_done (call_add_within f g c d h k) e;
  };
  difference = λ r e. record {
    is_sound = if_done (call_subtract_sound c d) e;
    within = if_done (call_subtract_within f g c d h k) e;
  };
  product = λ r e. record {
    is_sound = if_done (call_multiply_sound c d) e;
    within = if_done (call_multiply_within f g c d h k) e;
  };
}

pub claim_of_model : EveryModel
claim_of_model m f h = record {
  in_chebyshev = λ r e. record {
    is_sound = if_done (call_from_powers_sound m) e;
    within = if_done (call_from_powers_within f m h) e;
  };
}

pub claim_of_signs : EverySign
claim_of_signs c d = record {
  first = mirrored_first c d;
  second = mirrored_second c d;
  both = mirrored_both c d;
}
