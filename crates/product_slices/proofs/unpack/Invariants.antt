-- `unpack` puts one wide key after the other into the array.
use mathlib.Core.Path.{◌≡◌, refl, ◌∙◌, ap}
use Prim.Native.Nat.{◌-◌, ◌≤◌}
use native.Mathlib.Omega.{arith}
use borrow.Author.Rules.{rules}
use lib.IntN.{pos, nat_abs}
use lib.ListN.{length, get_or, length-set}
use mir.Facts.{to_z-of_z}
use mir.Syntax.{w64}
use mir.Val.{to_z, of_z}
use Rattle.calculus_laws.specs.MonomialKeyLaws.{word_key}
use Rattle.model_slices.specs.HandedModels.{handed}
use Rattle.product_slices.specs.HandedTerms.{Handed}
use Rattle.product_slices.specs.HandedTermsLaws.{Unpacking, handed_first, handed_iteration, handed_room}
use Rattle.product_slices.specs.HandedTermsLaws.{handed_end}
use Rattle.product_slices.proofs.unpack.Given as goal

abbrev pub invariant-loop-i : goal.invariant-loop-i
invariant-loop-i l =
    (l.i ≤ l.count) × (length l.wide ≡ length l.initial.wide)
    × ((w : Handed l.count l.keys l.coefficients)
    → Unpacking (handed w.vars l.count w.radius l.keys l.coefficients) l.coefficients l.wide l.total l.i)
