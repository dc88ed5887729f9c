-- `copy` copies byte by byte.
use mathlib.Core.Path.{◌≡◌, refl, ◌∙◌}
use Prim.Native.Nat.{◌≤◌, ◌-◌, min}
use native.Mathlib.Omega.{arith}
use borrow.Author.Rules.{rules}
use lib.ListN.{length, take, length-set}
use Rattle.model_slices.specs.HandedModels.{over}
use Rattle.c_sheets.specs.SheetCallsLaws.{copied_more, copied_end}
use Rattle.c_sheets.proofs.copy.Given as goal

abbrev pub invariant-loop-i : goal.invariant-loop-i
invariant-loop-i l =
    (l.i ≤ l.places) × (length l.out ≡ length l.initial.out) × (l.out ≡ over (take l.i l.bytes) l.initial.out)
