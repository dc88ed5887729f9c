-- `to_powers` tests what it is handed, builds the curve, makes the call and stores its answer.
use mathlib.Core.Path.{◌≡◌, sym, ◌∙◌, ap}
use lib.ListN.{length}
use Rattle.model_slices.specs.HandedModels.{model_room}
use Rattle.c_calls.specs.CallCodes.{called}
use Rattle.c_curves.specs.HandedCurves.{to_powers_fits}
use Rattle.c_curves.specs.HandedCurvesLaws.{fits_to_powers, fits_powers_room}
use Rattle.c_curve_calls.proofs.to_powers.Goals as goal
use Rattle.c_curve_calls.proofs.to_powers.Goals.{After-to_powers_fits}

-- the test is of the lengths
module _ (c : After-to_powers_fits) where
  tested : c.to_powers_fits.result
      ≡ to_powers_fits (length c.args.coefficients.now)
      (model_room (length c.args.keys.now) (length c.args.outcoefficients.now)
      (length c.args.numbers.now))
  tested = c.to_powers_fits.ensures ∙ ap (to_powers_fits _) c.model_room-room.ensures

pub returns-then-not-to_powers_fits : goal.returns-then-not-to_powers_fits
unfolding called
returns-then-not-to_powers_fits c =
    let t = (goal.at.returns-then-not-to_powers_fits c).After-to_powers_fits in
    rw (sym (tested t) ∙ c.if-not-to_powers_fits.true)

pub handed_curve-f-requires : goal.handed_curve-f-requires
handed_curve-f-requires c =
    let t = (goal.at.handed_curve-f-requires c).After-to_powers_fits in
    fits_to_powers _ _ _ _ (sym (tested t) ∙ c.if-not-to_powers_fits.false)

pub store_answer-requires : goal.store_answer-requires
store_answer-requires c =
    let t = (goal.at.store_answer-requires c).After-to_powers_fits in
    fits_powers_room _ _ _ _ (sym (tested t) ∙ c.if-not-to_powers_fits.false)

pub returns : goal.returns
unfolding called
returns c =
    rw (
      c.store_answer.ensures,
      c.to_powers-a.ensures,
      c.handed_curve-f.ensures,
      sym (tested (goal.at.returns c).After-to_powers_fits) ∙ c.if-not-to_powers_fits.false,
    )
