-- `store_stored` stores two numbers.
use Rattle.c_archive.specs.ArchiveCalls.{stored_length}
use Rattle.model_slices.specs.HandedModelsLaws.{over_two}
use Rattle.c_archive.proofs.store_stored.Goals as goal

pub returns : goal.returns
unfolding stored_length
returns c =
    rw (c.verdict_number.ensures, c.verdict_place.ensures, over_two c.args.numbers.now _ _ c.requires)
