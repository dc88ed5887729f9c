-- `store_ends` stores four ends, the quotient and the remainder.
use mathlib.Core.Path.{◌≡◌}
use Prim.Native.Nat.{◌≤◌}
use native.Mathlib.Omega.{arith}
use lib.ListN.{length, length-set}
use mir.Facts.{to_z-of_z}
use mir.Syntax.{w64}
use mir.Val.{to_z, of_z}
use borrow.Author.Rules.{rules}
use Rattle.fixed.specs.MachineLaws.{answered}
use Rattle.c_runs.specs.SheetCalls.{six_ends}
use Rattle.model_slices.specs.HandedModelsLaws.{over_six}
use Rattle.c_runs.proofs.store_ends.Goals as goal
use Rattle.c_runs.proofs.store_ends.Goals.{After-signed-remainder, After-struct_told-1, After-struct_told-3-1, After-struct_told-5-1}

-- the ends that are stored are those of the structs
low_back : (c : After-struct_told-1) → to_z w64 (of_z w64 c.args.range.low) ≡ c.args.range.low
low_back c = to_z-of_z {w = w64} (record { sfits = c.struct_told-1.given.0.1 })

high_back : (c : After-struct_told-1)
    → to_z w64 (of_z w64 c.args.range.high) ≡ c.args.range.high
high_back c = to_z-of_z {w = w64} (record { sfits = c.struct_told-1.given.1.0.1 })

least_back : (c : After-struct_told-3-1)
    → to_z w64 (of_z w64 c.args.integral.low)
    ≡ c.args.integral.low
least_back c = to_z-of_z {w = w64} (record { sfits = c.struct_told-3-1.given.0.1 })

most_back : (c : After-struct_told-3-1)
    → to_z w64 (of_z w64 c.args.integral.high)
    ≡ c.args.integral.high
most_back c = to_z-of_z {w = w64} (record { sfits = c.struct_told-3-1.given.1.0.1 })

quotient_back : (c : After-struct_told-5-1)
    → to_z w64 (of_z w64 c.args.exact.quotient)
    ≡ c.args.exact.quotient
quotient_back c = to_z-of_z {w = w64} (record { sfits = c.struct_told-5-1.given.0.1 })

-- room for all
long : (c : After-signed-remainder) → 6 ≤ length c.args.ends.now
long c = c.requires.0

pub bounds-ends-1 : goal.bounds-ends-1
bounds-ends-1 c = simp length-set (omega (arith, long c))

pub bounds-ends-2 : goal.bounds-ends-2
bounds-ends-2 c = simp length-set (omega (arith, long c))

pub bounds-ends-3 : goal.bounds-ends-3
bounds-ends-3 c = simp length-set (omega (arith, long c))

pub bounds-ends-4 : goal.bounds-ends-4
bounds-ends-4 c = simp length-set (omega (arith, long c))

pub bounds-ends-5 : goal.bounds-ends-5
bounds-ends-5 c = simp length-set (omega (arith, long c))

pub shape_of-ends : goal.shape_of-ends
shape_of-ends c = search rules depth 8

pub returns : goal.returns
unfolding six_ends
returns c =
    rw (
      low_back (goal.at.returns c).After-struct_told-1,
      high_back (goal.at.returns c).After-struct_told-1,
      least_back (goal.at.returns c).After-struct_told-3-1,
      most_back (goal.at.returns c).After-struct_told-3-1,
      quotient_back (goal.at.returns c).After-struct_told-5-1,
      answered c.signed-remainder.type_inv c.signed-remainder.ensures,
    )
    (over_six c.args.ends.now _ _ _ _ _ _ c.requires.0)
