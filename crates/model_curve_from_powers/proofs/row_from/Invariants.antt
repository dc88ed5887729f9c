-- `row_from` adds each term at its power, from the last one down.
use mathlib.Core.Path.{◌≡◌, sym, ◌∙◌, ap, ap₂}
use Prim.Native.Nat.{ℕ, ◌+◌, ◌-◌, ◌/◌, ◌^◌, ◌≤◌, ◌<◌}
use native.Mathlib.Omega.{arith}
use borrow.Author.Rules.{rules}
use lib.IntN.{ℤ, nat_abs, pos, ◌+ℤ◌}
use lib.ListN.{length, get_or}
use mir.Facts.{to_z-of_z}
use mir.Syntax.{w64}
use mir.Val.{to_z, of_z}
use Rattle.polynomial.specs.Polynomial.{exponent}
use Rattle.fixed.specs.MachineLaws.{answered}
use Rattle.calculus.specs.Key.{monomial_of}
use Rattle.calculus.specs.Model.{most_terms, most_degree}
use Rattle.model_types.specs.declared.Term.{Term}
use Rattle.model_types.specs.ModelStruct.{zero_term, listed}
use Rattle.model_types.specs.ModelStructLaws.{Limits, limits}
use Rattle.model_types.specs.PairedLaws.{length_paired, key_at, coefficient_at}
use Rattle.model_curve_from_powers.specs.RowLoopLaws.{Rowed, rowed_first, rowed_iteration, rowed_end, rowed_room}
use Rattle.model_curve_from_powers.proofs.row_from.Given as goal

abbrev pub invariant-loop-i : goal.invariant-loop-i
invariant-loop-i l = Rowed l.m l.out l.i
