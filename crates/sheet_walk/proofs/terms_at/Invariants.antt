-- `terms_at` reads term after term into two slices.
use mathlib.Core.Path.{◌≡◌}
use Prim.Native.Nat.{◌+◌, ◌*◌, ◌-◌, ◌≤◌, ◌<◌}
use native.Mathlib.Omega.{arith}
use borrow.Author.Rules.{rules}
use lib.ListN.{length}
use mir.Facts.{to_z-of_z}
use mir.Syntax.{w64}
use mir.Val.{Fits, to_z, of_z}
use Rattle.format.specs.Format.{term_length}
use Rattle.sheet_walk.specs.TermWalkLaws.{TermsSoFar, terms_first, terms_iteration, terms_end, one_inside}
use Rattle.sheet_walk.proofs.terms_at.Given as goal

abbrev pub invariant-loop-i : goal.invariant-loop-i
invariant-loop-i l =
    TermsSoFar l.s l.n l.from l.count l.initial.keys l.initial.coefficients l.keys l.coefficients l.place l.i
