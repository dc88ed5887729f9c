-- `records_tested` answers by what the walks over models and steps find.
use mathlib.Core.Path.{sym, ◌∙◌}
use mathlib.Core.List.{List}
use Prim.Native.Nat.{ℕ, ◌+◌, ◌*◌, ◌≤◌}
use native.Mathlib.Omega.{arith}
use borrow.Author.Rules.{rules}
use lib.ListN.{length}
use lib.Seq.{length-take-le}
use Rattle.calculus.specs.Refusal.{bad_model, bad_step}
use Rattle.model_types.specs.ModelStruct.{refusal}
use Rattle.format.specs.HeldBookLaws.{InLimits, in_limits}
use Rattle.sheet_book.specs.TestedLaws.{verdict_done, verdict_stopped}
use Rattle.sheet_decode.specs.declared.Trailer.{Trailer}
use Rattle.sheet_tests.specs.RecordTestLaws.{trailer_limits, model_fault, bytes_left, step_fault, whole_sheet}
use Rattle.sheet_tests.proofs.records_tested.Goals as goal
use Rattle.sheet_tests.proofs.records_tested.Goals.{Start}

-- ---- what is known at the start
module _ (c : Start) where
  abbrev sheet : List ℕ
  sheet = c.args.sheet.now

  abbrev trailer : Trailer
  trailer = c.args.t

  limits : InLimits trailer.n trailer.d trailer.models trailer.steps
  limits = in_limits trailer.n trailer.d trailer.models trailer.steps
      (trailer_limits trailer c.requires.t)

  steps_fit : trailer.offset + 8 * trailer.steps ≤ length sheet
  steps_fit = omega (arith, c.requires.trailer_length_value)

pub slice_bounds-walk_models-end : goal.slice_bounds-walk_models-end
slice_bounds-walk_models-end c =
    sym (length-take-le _ _ (omega (arith, c.requires.trailer_length_value)))

pub walk_models-w-requires : goal.walk_models-w-requires
walk_models-w-requires c =
    let l = limits (goal.at.walk_models-w-requires c).Start in
    (l.n_low, l.n_high)

pub returns-then-place-count : goal.returns-then-place-count
unfolding refusal
returns-then-place-count c =
    let p = c.requires in
    sym (verdict_stopped _ bad_model _ (model_fault _ _ p.t p.trailer_length_value _ c.walk_models-w.ensures
    c.if-place-count.true))

pub returns-then-w-offset : goal.returns-then-w-offset
unfolding refusal
returns-then-w-offset c =
    let p = c.requires in
    sym (verdict_stopped _ bad_model _
    (bytes_left _ _ p.t p.trailer_length_value _ c.walk_models-w.ensures c.if-place-count.false c.if-w-offset.true))

pub walk_steps-fault-requires : goal.walk_steps-fault-requires
walk_steps-fault-requires c = steps_fit (goal.at.walk_steps-fault-requires c).Start

pub returns-then-fault-total : goal.returns-then-fault-total
unfolding refusal
returns-then-fault-total c =
    let p = c.requires in
    sym (verdict_stopped _ bad_step _
    (step_fault _ _ p.t p.trailer_length_value _ c.walk_models-w.ensures c.if-place-count.false c.if-w-offset.false _
    c.walk_steps-fault.ensures c.if-fault-total.true))

pub returns : goal.returns
returns c =
    let p = c.requires in
    sym (verdict_done _ _
    (whole_sheet _ _ p.t p.trailer_length_value _ c.walk_models-w.ensures c.if-place-count.false c.if-w-offset.false _
    c.walk_steps-fault.ensures c.if-fault-total.false))
