-- `curve` tests what it is handed, builds both curves, makes the call and stores its answer.
use mathlib.Core.Path.{◌≡◌, sym, ◌∙◌, ap}
use lib.ListN.{length}
use Rattle.c_curves.specs.HandedCurves.{curve_room, curve_fits, called_curve}
use Rattle.c_curves.specs.HandedCurvesLaws.{fits_first, fits_second, fits_curve_room}
use Rattle.c_curve_calls.proofs.curve.Goals as goal
use Rattle.c_curve_calls.proofs.curve.Goals.{After-curve_fits}

-- the test is of the lengths
module _ (c : After-curve_fits) where
  tested : c.curve_fits.result
      ≡ curve_fits c.args.code (length c.args.coefficients1.now)
      (length c.args.coefficients2.now)
      (curve_room (length c.args.coefficients.now) (length c.args.numbers.now))
  tested = c.curve_fits.ensures ∙ ap (curve_fits _ _ _) c.curve_room-room.ensures

pub returns-then-not-curve_fits : goal.returns-then-not-curve_fits
unfolding called_curve
returns-then-not-curve_fits c =
    let t = (goal.at.returns-then-not-curve_fits c).After-curve_fits in
    rw (sym (tested t) ∙ c.if-not-curve_fits.true)

pub handed_curve-f-requires : goal.handed_curve-f-requires
handed_curve-f-requires c =
    let t = (goal.at.handed_curve-f-requires c).After-curve_fits in
    fits_first _ _ _ _ _ (sym (tested t) ∙ c.if-not-curve_fits.false)

pub handed_curve-g-requires : goal.handed_curve-g-requires
handed_curve-g-requires c =
    let t = (goal.at.handed_curve-g-requires c).After-curve_fits in
    fits_second _ _ _ _ _ (sym (tested t) ∙ c.if-not-curve_fits.false)

pub store_curve-requires : goal.store_curve-requires
store_curve-requires c =
    let t = (goal.at.store_curve-requires c).After-curve_fits in
    fits_curve_room _ _ _ _ _ (sym (tested t) ∙ c.if-not-curve_fits.false)

pub returns : goal.returns
unfolding called_curve
returns c =
    rw (
      c.store_curve.ensures,
      c.curve_call-a.ensures,
      c.handed_curve-g.ensures,
      c.handed_curve-f.ensures,
      sym (tested (goal.at.returns c).After-curve_fits) ∙ c.if-not-curve_fits.false,
    )
