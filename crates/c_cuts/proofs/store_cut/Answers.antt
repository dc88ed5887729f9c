-- `store_cut` stores two ends and a place.
use mathlib.Core.Path.{◌≡◌}
use mir.Facts.{to_z-of_z}
use mir.Syntax.{w64}
use mir.Val.{to_z, of_z}
use Rattle.model_slices.specs.HandedModelsLaws.{over_two}
use Rattle.c_cuts.specs.CutCalls.{stored_cut}
use Rattle.c_cuts.specs.CutCallsLaws.{over_one}
use Rattle.c_cuts.proofs.store_cut.Goals as goal
use Rattle.c_cuts.proofs.store_cut.Goals.{After-struct_told-1}

-- the ends that are stored are those of the struct
low_back : (c : After-struct_told-1) → to_z w64 (of_z w64 c.args.b.low) ≡ c.args.b.low
low_back c = to_z-of_z {w = w64} (record { sfits = c.struct_told-1.given.0.1 })

high_back : (c : After-struct_told-1) → to_z w64 (of_z w64 c.args.b.high) ≡ c.args.b.high
high_back c = to_z-of_z {w = w64} (record { sfits = c.struct_told-1.given.1.0.1 })

pub returns : goal.returns
unfolding stored_cut
returns c =
    rw (
      c.verdict_number.ensures,
      c.verdict_place.ensures,
      low_back (goal.at.returns c).After-struct_told-1,
      high_back (goal.at.returns c).After-struct_told-1,
      over_two c.args.ends.now _ _ c.requires.0,
      over_one c.args.numbers.now _ c.requires.1,
    )
