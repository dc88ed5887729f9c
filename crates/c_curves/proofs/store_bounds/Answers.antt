-- `store_bounds` stores two ends.
use mathlib.Core.Path.{◌≡◌}
use mir.Facts.{to_z-of_z}
use mir.Syntax.{w64}
use mir.Val.{to_z, of_z}
use borrow.Author.Rules.{rules}
use Rattle.model_slices.specs.HandedModelsLaws.{over_two}
use Rattle.c_curves.specs.HandedCurves.{stored_bounds}
use Rattle.c_curves.proofs.store_bounds.Goals as goal
use Rattle.c_curves.proofs.store_bounds.Goals.{After-struct_told-1}

-- the ends that are stored are those of the struct
low_back : (c : After-struct_told-1) → to_z w64 (of_z w64 c.args.b.low) ≡ c.args.b.low
low_back c = to_z-of_z {w = w64} (record { sfits = c.struct_told-1.given.0.1 })

high_back : (c : After-struct_told-1) → to_z w64 (of_z w64 c.args.b.high) ≡ c.args.b.high
high_back c = to_z-of_z {w = w64} (record { sfits = c.struct_told-1.given.1.0.1 })

pub returns : goal.returns
unfolding stored_bounds
returns c =
    rw (
      c.verdict_number.ensures,
      low_back (goal.at.returns c).After-struct_told-1,
      high_back (goal.at.returns c).After-struct_told-1,
      over_two c.args.ends.now _ _ c.requires,
    )
