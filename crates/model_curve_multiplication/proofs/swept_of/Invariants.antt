-- `swept_of` adds up the sizes above degree 15, from the last one down.
use mathlib.Core.Path.{◌≡◌, sym, ◌∙◌, ap}
use Prim.Native.Nat.{◌+◌, ◌-◌}
use native.Mathlib.Omega.{arith}
use borrow.Author.Rules.{rules}
use lib.IntN.{nat_abs, pos}
use lib.ListN.{length, get_or, drop}
use mir.Facts.{to_z-of_z}
use mir.Syntax.{w64}
use mir.Val.{to_z, of_z}
use Rattle.model_curve_multiplication.specs.RoundLaws.{Sweeping, sweeping_first, sweeping_iteration}
use Rattle.model_curve_multiplication.specs.RoundLaws.{sweeping_room}
use Rattle.model_curve_multiplication.specs.RoundLaws.{sweeping_end}
use Rattle.model_curve_multiplication.proofs.swept_of.Given as goal

abbrev pub invariant-loop-i : goal.invariant-loop-i
invariant-loop-i l = Sweeping l.z.places l.total l.i
