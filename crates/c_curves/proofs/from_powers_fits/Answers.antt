-- `from_powers_fits` tests the model's slices, then the room.
use mathlib.Core.Path.{sym, ◌∙◌}
use Rattle.c_curves.specs.HandedCurves.{from_powers_fits}
use Rattle.c_curves.proofs.from_powers_fits.Goals as goal

pub returns-then-borrowed : goal.returns-then-borrowed
unfolding from_powers_fits
returns-then-borrowed c = rw (sym c.borrowed.ensures ∙ c.if-borrowed.true)

pub returns-else-borrowed : goal.returns-else-borrowed
unfolding from_powers_fits
returns-else-borrowed c = rw (sym c.borrowed.ensures ∙ c.if-borrowed.false, c.if-borrowed.false)
