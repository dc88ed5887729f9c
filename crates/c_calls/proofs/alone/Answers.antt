-- `alone` copies the ends and the verdict.
use mathlib.Core.Path.{◌≡◌}
use mir.Facts.{to_z-of_z}
use mir.Syntax.{w64}
use mir.Val.{to_z, of_z}
use Rattle.c_calls.specs.CallCodes.{ends_alone}
use Rattle.c_calls.proofs.alone.Goals as goal
use Rattle.c_calls.proofs.alone.Goals.{After-struct_told-1}

-- the ends are those of the struct
low_back : (c : After-struct_told-1) → to_z w64 (of_z w64 c.args.b.low) ≡ c.args.b.low
low_back c = to_z-of_z {w = w64} (record { sfits = c.struct_told-1.given.0.1 })

high_back : (c : After-struct_told-1) → to_z w64 (of_z w64 c.args.b.high) ≡ c.args.b.high
high_back c = to_z-of_z {w = w64} (record { sfits = c.struct_told-1.given.1.0.1 })

pub returns : goal.returns
unfolding ends_alone
returns c = rw (low_back (goal.at.returns c).After-struct_told-1, high_back (goal.at.returns c).After-struct_told-1)
