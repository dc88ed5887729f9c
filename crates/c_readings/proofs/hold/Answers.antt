-- `hold` tests what it is handed, holds the row against the model and stores what is found.
use mathlib.Core.Path.{sym, ◌∙◌}
use Rattle.c_readings.specs.HandedReadings.{called_readings}
use Rattle.c_readings.specs.HandedReadingsLaws.{fits_numbers}
use Rattle.c_readings.proofs.hold.Goals as goal

pub returns-then-not-readings_fit : goal.returns-then-not-readings_fit
unfolding called_readings
returns-then-not-readings_fit c = rw (sym c.readings_fit.ensures ∙ c.if-not-readings_fit.true)

pub store_finding-requires : goal.store_finding-requires
store_finding-requires c =
    fits_numbers _ _ _ _ _ _ _ (sym c.readings_fit.ensures ∙ c.if-not-readings_fit.false)

pub returns : goal.returns
unfolding called_readings
returns c =
    rw (
      c.store_finding.ensures,
      c.handed_readings-f.ensures,
      sym c.readings_fit.ensures ∙ c.if-not-readings_fit.false,
    )
