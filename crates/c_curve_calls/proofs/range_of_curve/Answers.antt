-- `range_of_curve` tests what it is handed, builds the curve, makes the call and stores both ends.
use mathlib.Core.Path.{sym, ◌∙◌}
use Rattle.c_curves.specs.HandedCurves.{called_range}
use Rattle.c_curves.specs.HandedCurvesLaws.{fits_range, fits_two_ends}
use Rattle.c_curve_calls.proofs.range_of_curve.Goals as goal

pub returns-then-not-range_fits : goal.returns-then-not-range_fits
unfolding called_range
returns-then-not-range_fits c = rw (sym c.range_fits.ensures ∙ c.if-not-range_fits.true)

pub handed_curve-f-requires : goal.handed_curve-f-requires
handed_curve-f-requires c = fits_range _ _ (sym c.range_fits.ensures ∙ c.if-not-range_fits.false)

pub store_bounds-requires : goal.store_bounds-requires
store_bounds-requires c =
    fits_two_ends _ _ (sym c.range_fits.ensures ∙ c.if-not-range_fits.false)

pub returns : goal.returns
unfolding called_range
returns c =
    rw (
      c.store_bounds.ensures,
      c.range-b.ensures,
      c.handed_curve-f.ensures,
      sym c.range_fits.ensures ∙ c.if-not-range_fits.false,
    )
