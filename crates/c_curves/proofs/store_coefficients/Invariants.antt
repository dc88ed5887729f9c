-- `store_coefficients` stores one coefficient after the other.
use mathlib.Core.Path.{◌≡◌, refl, ◌∙◌}
use Prim.Native.Nat.{◌≤◌, ◌-◌}
use native.Mathlib.Omega.{arith}
use borrow.Author.Rules.{rules}
use lib.IntN.{ℤ, pos}
use lib.ListN.{length, take, get_or, length-set}
use lib.Seq.{take_all}
use mir.Facts.{to_z-of_z}
use mir.Syntax.{w64}
use mir.Val.{to_z, of_z}
use Rattle.chebyshev.specs.PowerRows.{places}
use Rattle.model_slices.specs.HandedModels.{over}
use Rattle.c_curves.specs.HandedCurvesLaws.{coefficient_more}
use Rattle.c_curves.proofs.store_coefficients.Given as goal

abbrev pub invariant-loop-i : goal.invariant-loop-i
invariant-loop-i l =
    (l.i ≤ 16) × (length l.coefficients ≡ length l.initial.coefficients)
    × (l.coefficients ≡ over (take l.i l.c.coefficients) l.initial.coefficients)
