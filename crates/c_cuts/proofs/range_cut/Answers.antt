-- `range_cut` tests what it is handed, makes the call and stores its answer.
use mathlib.Core.Path.{sym, ◌∙◌}
use Rattle.c_cuts.specs.CutCalls.{called_cut}
use Rattle.c_cuts.specs.CutCallsLaws.{fits_cut}
use Rattle.c_cuts.proofs.range_cut.Goals as goal

pub returns-then-not-cut_fits : goal.returns-then-not-cut_fits
unfolding called_cut
returns-then-not-cut_fits c = rw (sym c.cut_fits.ensures ∙ c.if-not-cut_fits.true)

pub store_cut-requires : goal.store_cut-requires
store_cut-requires c = fits_cut _ _ _ _ _ (sym c.cut_fits.ensures ∙ c.if-not-cut_fits.false)

pub returns : goal.returns
unfolding called_cut
returns c =
    rw (c.store_cut.ensures, c.handed_cut-b.ensures, sym c.cut_fits.ensures ∙ c.if-not-cut_fits.false)
