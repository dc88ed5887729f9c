-- `copy_keys` stores one place after the other, as far as the count goes.
use mathlib.Core.Path.{◌≡◌, refl, ◌∙◌}
use Prim.Native.Nat.{◌≤◌, ◌-◌}
use native.Mathlib.Omega.{arith}
use borrow.Author.Rules.{rules}
use lib.ListN.{length, take, length-set}
use Rattle.model_slices.specs.HandedModels.{over}
use Rattle.model_slices.specs.HandedModelsLaws.{stored_more}
use Rattle.model_slices.proofs.copy_keys.Given as goal

abbrev pub invariant-loop-i : goal.invariant-loop-i
invariant-loop-i l =
    (l.i ≤ l.count) × (length l.out ≡ length l.initial.out) × (l.out ≡ over (take l.i l.keys) l.initial.out)
