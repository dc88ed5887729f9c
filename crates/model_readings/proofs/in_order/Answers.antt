use mathlib.Core.Path.{◌≡◌, sym, ◌∙◌, ap, ap₂}
use mathlib.Core.Bool.{Bool}
use borrow.Author.Rules.{rules}
use lib.Signed.{le_z}
use mir.Facts.{to_z-of_z}
use mir.Syntax.{w64}
use mir.Val.{to_z, of_z}
use Rattle.readings.specs.Readings.{in_order}
use Rattle.model_types.specs.ModelStruct.{cause}
use Rattle.model_readings.specs.ReadingStruct.{view_reading}
use Rattle.model_readings.specs.FindingLaws.{order_holds, order_fails}
use Rattle.model_readings.proofs.in_order.Goals as goal
use Rattle.model_readings.proofs.in_order.Goals.{After-struct_told-1, After-struct_told-2-1}

low_back : (c : After-struct_told-1) → let z = c.args.r.low in to_z w64 (of_z w64 z) ≡ z
low_back c = to_z-of_z {w = w64} (record { sfits = c.struct_told-1.given.1.0.1 })

high_back : (c : After-struct_told-1) → let z = c.args.r.high in to_z w64 (of_z w64 z) ≡ z
high_back c = to_z-of_z {w = w64} (record { sfits = c.struct_told-1.given.1.1.0.1 })

-- the test, read back
tested : (c : After-struct_told-2-1) → let r = c.args.r in
    le_z (to_z w64 (of_z w64 r.low)) (to_z w64 (of_z w64 r.high)) ≡ in_order (view_reading r)
unfolding in_order
tested c = ap₂ le_z (low_back (record { before = c.before; type_inv = record { r = c.struct_told-1.given } }))
    (high_back (record { before = c.before; type_inv = record { r = c.struct_told-1.given } }))

pub returns-then-low-high : goal.returns-then-low-high
returns-then-low-high c = c.nothing.ensures ∙ order_holds _ _
    (sym (tested (goal.at.returns-then-low-high c).After-struct_told-2-1) ∙ c.if-low-high.true)

pub returns : goal.returns
unfolding cause
returns c = c.refused_at.ensures ∙ order_fails _ _ (sym (tested (goal.at.returns c).After-struct_told-2-1)
    ∙ c.if-low-high.false)
