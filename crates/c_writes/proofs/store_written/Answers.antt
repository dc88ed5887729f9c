-- `store_written` stores two numbers.
use borrow.Author.Rules.{rules}
use Rattle.c_writes.specs.WriteCalls.{stored_written}
use Rattle.model_slices.specs.HandedModelsLaws.{over_two}
use Rattle.c_writes.proofs.store_written.Goals as goal

pub returns : goal.returns
unfolding stored_written
returns c =
    rw (c.verdict_number.ensures, c.verdict_place.ensures, over_two c.args.numbers.now _ _ c.requires)
