-- `cut` keeps the ends that cover the pieces so far, and begins with those of the first piece.
use mathlib.Core.Path.{◌≡◌, refl, sym, ◌∙◌, ap, ap₂, subst₂}
use Prim.Native.Nat.{ℕ, ◌+◌, ◌-◌, ◌^◌, ◌≤◌, ◌<◌}
use native.Mathlib.Omega.{arith}
use native.Mathlib.Nat as NatL
use borrow.Author.Rules.{rules}
use lib.ListN.{length}
use mir.Facts.{to_z-of_z}
use mir.Syntax.{w64}
use mir.Val.{to_z, of_z}
use Rattle.fixed.specs.MachineLaws.{answered}
use Rattle.std.specs.Prelude.{Ok}
use Rattle.model_types.specs.ModelStruct.{view}
use Rattle.model_types.specs.ResultLaws.{sound_order}
use Rattle.product_room.specs.ProductTermsLaws.{free_room}
use Rattle.cuts.specs.Cuts.{smaller, larger, most_depth}
use Rattle.model_cut_pieces.specs.PieceStructLaws.{few_pieces}
use Rattle.model_cuts.specs.CoveredLaws.{Covered, first_refused, first_accepted, iteration_refused}
use Rattle.model_cuts.specs.CoveredLaws.{iteration_accepted}
use Rattle.model_cuts.specs.CoveredLaws.{covered_end}
use Rattle.model_cuts.proofs.cut.Given as goal

abbrev pub invariant-loop-j : goal.invariant-loop-j
invariant-loop-j l =
    Covered l.d l.i l.k (view l.f) l.j l.low l.high
    × (length l.slots ≡ length l.initial.slots) × (length l.keys ≡ length l.initial.keys)
    × (length l.sums ≡ length l.initial.sums)
