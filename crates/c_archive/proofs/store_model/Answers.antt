-- `store_model` tests what it is handed and stores the model.
use mathlib.Core.Path.{sym, ◌∙◌}
use Rattle.c_archive.specs.ArchiveCalls.{called_store}
use Rattle.c_archive.specs.ArchiveCallsLaws.{fits_numbers}
use Rattle.c_archive.proofs.store_model.Goals as goal

pub returns-then-not-store_fits : goal.returns-then-not-store_fits
unfolding called_store
returns-then-not-store_fits c = rw (sym c.store_fits.ensures ∙ c.if-not-store_fits.true)

pub store-requires : goal.store-requires
store-requires c = fits_numbers _ _ _ _ (sym c.store_fits.ensures ∙ c.if-not-store_fits.false)

pub returns : goal.returns
unfolding called_store
returns c = rw (c.store.ensures, sym c.store_fits.ensures ∙ c.if-not-store_fits.false)
