-- `from_powers` tests the model and its variables, makes a row of its terms, converts and rounds it, tests the span.
use mathlib.Core.Path.{◌≡◌, sym, ◌∙◌, ap, ap₂, subst}
use mathlib.Core.Bool.{true, false}
use Prim.Native.Nat.{◌+◌, ◌*◌, ◌^◌, ◌≤◌, ◌<◌}
use native.Mathlib.Omega.{arith}
use borrow.Author.Rules.{rules}
use borrow.Author.Tests.{not-true, not-false, eq-eqb, ne_eqb}
use lib.Dec.{T, eqb}
use lib.IntN.{pos}
use lib.ListN.{length}
use Rattle.calculus.specs.Model.{most_degree}
use Rattle.calculus.specs.Model as M
use Rattle.calculus.specs.Refusal.{at_place}
use Rattle.chebyshev.specs.Coefficients.{Row, size}
use Rattle.chebyshev.specs.PowerRows.{places, combine}
use Rattle.chebyshev.proofs.RowLengthLaws.{from_powers_length}
use Rattle.chebyshev.specs.Tables.{power_table, power_scale}
use Rattle.chebyshev.specs.Curve as C
use Rattle.chebyshev.specs.CurveOperations.{limited_curve, rounded, row_of}
use Rattle.model_types.specs.Arrays.{padded}
use Rattle.model_types.specs.declared.CurveAnswer.{CurveAnswer}
use Rattle.model_types.specs.ModelStruct.{view, cause}
use Rattle.model_types.specs.CurveStruct.{view_curve, curve_answer}
use Rattle.model_curve_from_powers.specs.RowLoopLaws.{rounded_padded, row_of_small, degrees_small, scale_is}
use Rattle.model_curve_from_powers.specs.RowLoopLaws.{model_unsound, more_variables, one_variable}
use Rattle.model_curve_from_powers.specs.RowLoopLaws.{vars_view, radius_view}
use Rattle.model_curve_from_powers.proofs.from_powers.Goals as goal
use Rattle.model_curve_from_powers.proofs.from_powers.Goals.{After-row_from-row, After-sound, Else-n-ne1, Else-not-sound, Then-n-ne1}

tested : (c : After-sound) → c.sound.result ≡ M.sound most_degree (view c.args.m)
unfolding most_degree
tested c = c.sound.ensures

pub returns-then-not-sound : goal.returns-then-not-sound
unfolding cause
returns-then-not-sound c =
    c.refuse_curve.ensures ∙ model_unsound _ (sym (tested (goal.at.returns-then-not-sound c).After-sound)
    ∙ c.if-not-sound.true)

is_sound : (c : Else-not-sound) → M.sound most_degree (view c.args.m) ≡ true
is_sound c = sym (tested c.before) ∙ c.if-not-sound.false

other : (c : Then-n-ne1) → eqb (view c.args.m).vars 1 ≡ false
other c =
    let m = c.args.m in
    ap (λ v. eqb v 1) (vars_view m) ∙ ne_eqb m.n 1 (λ e. absurd (c.if-n-ne1.true e))

pub returns-then-n-ne1 : goal.returns-then-n-ne1
unfolding cause
returns-then-n-ne1 c = c.refuse_curve-then-n-ne1.ensures
    ∙ more_variables _ (is_sound (goal.at.returns-then-n-ne1 c).Else-not-sound)
    (other (goal.at.returns-then-n-ne1 c).Then-n-ne1)

one : (c : Else-n-ne1) → eqb (view c.args.m).vars 1 ≡ true
one c =
    let m = c.args.m in
    ap (λ v. eqb v 1) (vars_view m) ∙ eq-eqb m.n 1 c.if-n-ne1.false

module _ (c : Else-n-ne1) where
  sound_here : T (M.sound most_degree (view c.args.m))
  sound_here = subst T (sym (is_sound c.before)) tt

  small : size (row_of (view c.args.m).terms) + c.args.m.radius < 2 ^ 31
  small = omega (arith, row_of_small (view c.args.m) sound_here, radius_view c.args.m)

pub overflow_mul-e : goal.overflow_mul-e
overflow_mul-e c = omega (arith, small (goal.at.overflow_mul-e c).Else-n-ne1)

pub row_from-row-requires : goal.row_from-row-requires
row_from-row-requires c = sound_here (goal.at.row_from-row-requires c).Else-n-ne1

row_small : (c : After-row_from-row) → size c.row_from-row.result.coefficients < 2 ^ 31
row_small c = omega (arith, ap size c.row_from-row.ensures, small c.before.before)

pub degrees_from-z-requires : goal.degrees_from-z-requires
degrees_from-z-requires c = row_small c

pub rounded_degrees-r-requires : goal.rounded_degrees-r-requires
rounded_degrees-r-requires c = record {
  places_bound = omega (
    arith,
    small (goal.at.rounded_degrees-r-requires c).Else-n-ne1,
    ap size c.degrees_from-z.ensures,
    degrees_small c.row_from-row.result.coefficients
        (row_small (goal.at.rounded_degrees-r-requires c).After-row_from-row),
  );
  d_nonzero = omega arith;
  d_bound = omega arith;
}

whole : (r : Row) → length (combine r power_table) ≡ 16
unfolding places
whole r = from_powers_length r

-- the answer that the limit gives
abbrev limited : C.Curve → CurveAnswer
limited h = curve_answer (at_place 0 (limited_curve h))

pub returns : goal.returns
returns c =
    let m = c.args.m in
    c.limited_curve.ensures
    ∙ ap (λ h. curve_answer (at_place 0 (limited_curve (view_curve h)))) c.rounded_degrees-r.ensures
    ∙ ap (λ z. limited (rounded 16384 (16384 * m.radius) z)) c.degrees_from-z.ensures
    ∙ ap limited
    (rounded_padded (combine c.row_from-row.result.coefficients power_table) (whole _) 16384 (16384 * m.radius))
    ∙ ap (λ q. limited (rounded 16384 (16384 * m.radius) (combine q power_table))) c.row_from-row.ensures
    ∙ ap (λ n. limited (rounded 16384 (16384 * n) (combine (row_of (view m).terms) power_table)))
    (sym (radius_view m))
    ∙ ap (λ n. limited (rounded n (n * (view m).radius) (combine (row_of (view m).terms) power_table)))
    scale_is
    ∙ one_variable (view m) (is_sound (goal.at.returns c).Else-not-sound) (one (goal.at.returns c).Else-n-ne1)
