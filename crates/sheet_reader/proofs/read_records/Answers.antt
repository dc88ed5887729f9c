-- `read_records` answers by what the walks over models and steps find.
use mathlib.Core.Path.{sym, ◌∙◌, ap}
use mathlib.Core.List.{List}
use Prim.Native.Nat.{ℕ, ◌+◌, ◌*◌, ◌≤◌}
use native.Mathlib.Omega.{arith}
use borrow.Author.Rules.{rules}
use lib.ListN.{length}
use lib.Seq.{length-take-le}
use Rattle.calculus.specs.Book.{most_models, most_steps}
use Rattle.model_types.specs.ModelStruct.{cause}
use Rattle.format.specs.HeldBookLaws.{InLimits, in_limits}
use Rattle.sheet_book.specs.BookStruct.{read_answer}
use Rattle.sheet_decode.specs.declared.Trailer.{Trailer}
use Rattle.sheet_tests.specs.RecordTestLaws.{trailer_limits, model_fault, bytes_left, step_fault}
use Rattle.sheet_reader.specs.ReadLaws.{models_far, steps_far, whole_answer}
use Rattle.sheet_reader.proofs.read_records.Goals as goal
use Rattle.sheet_reader.proofs.read_records.Goals.{Start}

-- ---- what is known at the start
module _ (c : Start) where
  abbrev sheet : List ℕ
  sheet = c.args.sheet.now

  abbrev trailer : Trailer
  trailer = c.args.t

  limits : InLimits trailer.n trailer.d trailer.models trailer.steps
  limits = in_limits trailer.n trailer.d trailer.models trailer.steps
      (trailer_limits trailer c.requires.t)

  steps_fit : trailer.offset + 8 * trailer.steps ≤ length sheet
  steps_fit = omega (arith, c.requires.trailer_length_value)

pub slice_bounds-read_models-end : goal.slice_bounds-read_models-end
slice_bounds-read_models-end c =
    sym (length-take-le _ _ (omega (arith, c.requires.trailer_length_value)))

pub read_models-w-requires : goal.read_models-w-requires
unfolding most_models
read_models-w-requires c =
    let l = limits (goal.at.read_models-w-requires c).Start in
    (l.n_low, l.n_high, l.models)

pub returns-then-place-count : goal.returns-then-place-count
unfolding cause
returns-then-place-count c =
    let p = c.requires in
    c.refuse.ensures
    ∙ ap read_answer (sym (model_fault _ _ p.t p.trailer_length_value _ (models_far _ _ _ _ _ c.read_models-w.ensures)
    c.if-place-count.true))

pub returns-then-w-offset : goal.returns-then-w-offset
unfolding cause
returns-then-w-offset c =
    let p = c.requires in
    c.refuse-then-w-offset.ensures
    ∙ ap read_answer
    (sym (bytes_left _ _ p.t p.trailer_length_value _ (models_far _ _ _ _ _ c.read_models-w.ensures)
    c.if-place-count.false
    c.if-w-offset.true))

pub read_steps-v-requires : goal.read_steps-v-requires
unfolding most_steps
read_steps-v-requires c =
    ((limits (goal.at.read_steps-v-requires c).Start).steps_high, steps_fit (goal.at.read_steps-v-requires c).Start)

pub returns-then-fault-total : goal.returns-then-fault-total
unfolding cause
returns-then-fault-total c =
    let p = c.requires in
    c.refuse-then-fault-total.ensures
    ∙ ap read_answer
    (sym (step_fault _ _ p.t p.trailer_length_value _ (models_far _ _ _ _ _ c.read_models-w.ensures)
    c.if-place-count.false
    c.if-w-offset.false _ (steps_far _ _ _ _ _ c.read_steps-v.ensures) c.if-fault-total.true))

pub returns : goal.returns
returns c =
    let p = c.requires in
    whole_answer _ _ p.t p.trailer_length_value _ c.read_models-w.ensures c.if-place-count.false c.if-w-offset.false _
    c.read_steps-v.ensures c.if-fault-total.false
