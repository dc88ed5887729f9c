-- `store_ends` stores two ends, the quotient and the remainder.
use mathlib.Core.Path.{◌≡◌}
use native.Mathlib.Omega.{arith}
use lib.ListN.{length-set}
use mir.Facts.{to_z-of_z}
use mir.Syntax.{w64}
use mir.Val.{to_z, of_z}
use Rattle.fixed.specs.MachineLaws.{answered}
use Rattle.c_calls.specs.CallCodes.{stored_integral}
use Rattle.model_slices.specs.HandedModelsLaws.{over_four}
use Rattle.c_calls.proofs.store_ends.Goals as goal
use Rattle.c_calls.proofs.store_ends.Goals.{After-struct_told-1}

-- the ends that are stored are those of the struct
low_back : (c : After-struct_told-1) → to_z w64 (of_z w64 c.args.b.low) ≡ c.args.b.low
low_back c = to_z-of_z {w = w64} (record { sfits = c.struct_told-1.given.0.1 })

high_back : (c : After-struct_told-1) → to_z w64 (of_z w64 c.args.b.high) ≡ c.args.b.high
high_back c = to_z-of_z {w = w64} (record { sfits = c.struct_told-1.given.1.0.1 })

quotient_back : (c : After-struct_told-1)
    → to_z w64 (of_z w64 c.args.b.quotient) ≡ c.args.b.quotient
quotient_back c = to_z-of_z {w = w64} (record { sfits = c.struct_told-1.given.1.1.0.1 })

pub bounds-ends-1 : goal.bounds-ends-1
bounds-ends-1 c = simp length-set (omega (arith, c.requires.0))

pub bounds-ends-2 : goal.bounds-ends-2
bounds-ends-2 c = simp length-set (omega (arith, c.requires.0))

pub returns : goal.returns
unfolding stored_integral
returns c =
    rw (
      c.verdict_number.ensures,
      low_back (goal.at.returns c).After-struct_told-1,
      high_back (goal.at.returns c).After-struct_told-1,
      quotient_back (goal.at.returns c).After-struct_told-1,
      answered c.signed-remainder.type_inv c.signed-remainder.ensures,
      over_four c.args.ends.now _ _ _ _ c.requires.0,
    )
