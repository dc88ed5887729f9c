-- `from_powers` tests what it is handed, builds the model, makes the call and stores its answer.
use mathlib.Core.Path.{◌≡◌, sym, ◌∙◌, ap}
use lib.ListN.{length}
use Rattle.c_curves.specs.HandedCurves.{curve_room, from_powers_fits, called_curve}
use Rattle.c_curves.specs.HandedCurvesLaws.{fits_from_powers}
use Rattle.c_curve_calls.proofs.from_powers.Goals as goal
use Rattle.c_curve_calls.proofs.from_powers.Goals.{After-from_powers_fits}

-- the test is of the lengths
module _ (c : After-from_powers_fits) where
  tested : c.from_powers_fits.result
      ≡ from_powers_fits c.args.count (length c.args.keys.now)
      (length c.args.coefficients.now)
      (curve_room (length c.args.outcoefficients.now) (length c.args.outnumbers.now))
  tested = c.from_powers_fits.ensures ∙ ap (from_powers_fits _ _ _) c.curve_room-room.ensures

pub returns-then-not-from_powers_fits : goal.returns-then-not-from_powers_fits
unfolding called_curve
returns-then-not-from_powers_fits c =
    let t = (goal.at.returns-then-not-from_powers_fits c).After-from_powers_fits in
    rw (sym (tested t) ∙ c.if-not-from_powers_fits.true)

pub store_curve-requires : goal.store_curve-requires
store_curve-requires c =
    let t = (goal.at.store_curve-requires c).After-from_powers_fits in
    fits_from_powers _ _ _ _ _ (sym (tested t) ∙ c.if-not-from_powers_fits.false)

pub returns : goal.returns
unfolding called_curve
returns c =
    rw (
      c.store_curve.ensures,
      c.from_powers-a.ensures,
      c.taken-f.ensures,
      sym (tested (goal.at.returns c).After-from_powers_fits) ∙ c.if-not-from_powers_fits.false,
    )
