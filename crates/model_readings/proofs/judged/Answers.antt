use mathlib.Core.Path.{◌≡◌, sym, ◌∙◌, ap, ap₂}
use borrow.Author.Rules.{rules}
use lib.Signed.{lt_z}
use mir.Facts.{to_z-of_z}
use mir.Syntax.{w64}
use mir.Val.{to_z, of_z}
use Rattle.std.specs.Prelude.{Ok}
use Rattle.model_types.specs.ModelStruct.{refused_at}
use Rattle.model_readings.specs.JudgedLaws.{above_band, below_band, in_common, not_evaluated}
use Rattle.model_readings.proofs.judged.Goals as goal
use Rattle.model_readings.proofs.judged.Goals.{After-struct_told-in-Ok-3-1}

-- the numbers, read back, and the verdict
module _ (c : After-struct_told-in-Ok-3-1) where
  low_back : let z = c.args.r.low in to_z w64 (of_z w64 z) ≡ z
  low_back = to_z-of_z {w = w64} (record { sfits = c.struct_told-1.given.1.0.1 })

  high_back : let z = c.args.r.high in to_z w64 (of_z w64 z) ≡ z
  high_back = to_z-of_z {w = w64} (record { sfits = c.struct_told-1.given.1.1.0.1 })

  from_back : let z = c.args.b.low in to_z w64 (of_z w64 z) ≡ z
  from_back = to_z-of_z {w = w64} (record { sfits = c.struct_told-in-Ok-2-1.given.0.1 })

  to_back : let z = c.args.b.high in to_z w64 (of_z w64 z) ≡ z
  to_back = to_z-of_z {w = w64} (record { sfits = c.struct_told-in-Ok-2-1.given.1.0.1 })

  accepted : c.args.b.verdict ≡ Ok tt
  accepted = c.in-Ok.is

  first_test : lt_z (to_z w64 (of_z w64 c.args.r.high)) (to_z w64 (of_z w64 c.args.b.low)) ≡ lt_z
      c.args.r.high c.args.b.low
  first_test = ap₂ lt_z high_back from_back

  second_test : lt_z (to_z w64 (of_z w64 c.args.b.high)) (to_z w64 (of_z w64 c.args.r.low)) ≡ lt_z
      c.args.b.high c.args.r.low
  second_test = ap₂ lt_z to_back low_back

pub returns-then-high-from : goal.returns-then-high-from
returns-then-high-from c e h =
    c.contradicted_at.ensures ∙ above_band _ _ e _ h
    (accepted (goal.at.returns-then-high-from c).After-struct_told-in-Ok-3-1)
    (sym (first_test (goal.at.returns-then-high-from c).After-struct_told-in-Ok-3-1) ∙ c.if-high-from.true)

pub returns-then-to-low : goal.returns-then-to-low
returns-then-to-low c e h =
    c.contradicted_at-then-to-low.ensures ∙ below_band _ _ e _ h
    (accepted (goal.at.returns-then-to-low c).After-struct_told-in-Ok-3-1)
    (sym (first_test (goal.at.returns-then-to-low c).After-struct_told-in-Ok-3-1) ∙ c.if-high-from.false)
    (sym (second_test (goal.at.returns-then-to-low c).After-struct_told-in-Ok-3-1) ∙ c.if-to-low.true)

pub returns-else-to-low : goal.returns-else-to-low
returns-else-to-low c e h =
    c.nothing.ensures ∙ in_common _ _ e _ h (accepted (goal.at.returns-else-to-low c).After-struct_told-in-Ok-3-1)
    (sym (first_test (goal.at.returns-else-to-low c).After-struct_told-in-Ok-3-1) ∙ c.if-high-from.false)
    (sym (second_test (goal.at.returns-else-to-low c).After-struct_told-in-Ok-3-1) ∙ c.if-to-low.false)

pub returns-in-Err : goal.returns-in-Err
returns-in-Err c e h =
    c.refused_at.ensures ∙ not_evaluated _ _ e _ h _ _ c.in-Err.is
