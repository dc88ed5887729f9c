-- `store_numbers` stores four numbers.
use native.Mathlib.Omega.{arith}
use lib.ListN.{length-set}
use Rattle.model_slices.specs.HandedModels.{stored_numbers}
use Rattle.model_slices.specs.HandedModelsLaws.{over_four}
use Rattle.model_slices.proofs.store_numbers.Goals as goal

pub bounds-numbers-1 : goal.bounds-numbers-1
bounds-numbers-1 c = simp length-set (omega arith)

pub bounds-numbers-2 : goal.bounds-numbers-2
bounds-numbers-2 c = simp length-set (omega arith)

pub returns : goal.returns
unfolding stored_numbers
returns c = over_four _ _ _ _ _ c.requires
