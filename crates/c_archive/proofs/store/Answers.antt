-- `store` builds the model, stores it and its numbers.
use mathlib.Core.Path.{◌∙◌, ap}
use Rattle.c_archive.specs.ArchiveCalls.{StoredNumbers, numbers_state, beside, stored_call}
use Rattle.c_archive.proofs.store.Goals as goal

pub returns : goal.returns
unfolding numbers_state beside stored_call
returns c =
    ap (λ (z : StoredNumbers). beside z c.store-w.new.buffer) c.store_stored.ensures
    ∙ rw (c.store-w.ensures.answers, c.store-w.ensures.leaves, c.handed-m.ensures)
