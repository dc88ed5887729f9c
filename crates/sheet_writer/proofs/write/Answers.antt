-- `write` tests first; then models, steps and the trailer make the sheet, and what stands after it stays.
use mathlib.Core.Path.{◌≡◌, sym, ◌∙◌, ap}
use Prim.Native.Nat.{◌+◌, ◌*◌, ◌≤◌}
use native.Mathlib.Omega.{arith}
use borrow.Author.Rules.{rules}
use lib.ListN.{length}
use Rattle.format.specs.Format.{step_length, trailer_length, models_bytes, sheet_bytes}
use Rattle.format.specs.HeldBook.{HeldPasses}
use Rattle.format.proofs.ReadBackLaws.{sheet_length, models_short}
use Rattle.sheet_book.specs.declared.Book.{Book}
use Rattle.sheet_book.specs.BookStruct.{held_book}
use Rattle.sheet_book.specs.FailingLaws.{count_steps}
use Rattle.sheet_book.specs.TestedLaws.{verdict_accepted}
use Rattle.sheet_encode.specs.SectionFittingLaws.{book_limits}
use Rattle.sheet_writer.specs.WriteLaws.{book_refused, too_short, long_enough}
use Rattle.sheet_writer.proofs.write.Goals as goal
use Rattle.sheet_writer.proofs.write.Goals.{After-struct_known-1, Else-buffer-size, In-Ok}

-- ---- the book is refused
pub returns-in_default : goal.returns-in_default
returns-in_default c =
    let a = c.args in
    let o =
    book_refused a.book a.buffer.now _ _ c.tested-v.result c.tested-v.ensures c.in_default.is in
    record {
      answers = o.answers;
      leaves = o.leaves;
    }

-- ---- it is accepted
module _ (c : In-Ok) where
  abbrev held : Book
  held = c.args.book

  passes : HeldPasses (held_book held)
  passes = verdict_accepted held (sym c.tested-v.ensures ∙ c.in-Ok.is)

pub models_size-offset-requires : goal.models_size-offset-requires
models_size-offset-requires c = passes c

-- the places of the steps and of the trailer
module _ (c : After-struct_known-1) where
  offset_is : c.models_size-offset.result ≡ length
      (models_bytes (held_book (held (goal.at.overflow_mul-end c).In-Ok)))
  offset_is = c.models_size-offset.ensures

  small : ((held (goal.at.overflow_mul-end c).In-Ok).step_count ≤ 64) × (c.models_size-offset.result ≤ 8272)
  small = (
    (book_limits (held (goal.at.overflow_mul-end c).In-Ok)
        (passes (goal.at.overflow_mul-end c).In-Ok)).steps_high,
    omega (
      arith,
      offset_is,
      models_short (held_book (held (goal.at.overflow_mul-end c).In-Ok))
          (passes (goal.at.overflow_mul-end c).In-Ok),
    ),
  )

  size_is : c.models_size-offset.result + step_length * (held (goal.at.overflow_mul-end c).In-Ok).step_count
      + trailer_length
      ≡ length (sheet_bytes (held_book (held (goal.at.overflow_mul-end c).In-Ok)))
  size_is = omega (
    arith,
    offset_is,
    count_steps (held (goal.at.overflow_mul-end c).In-Ok),
    sheet_length (held_book (held (goal.at.overflow_mul-end c).In-Ok))
        (passes (goal.at.overflow_mul-end c).In-Ok),
  )

pub overflow_mul-end : goal.overflow_mul-end
overflow_mul-end c = omega (arith, small c)

pub overflow_add-end : goal.overflow_add-end
overflow_add-end c = omega (arith, small c)

pub overflow_add-size : goal.overflow_add-size
overflow_add-size c = omega (arith, small c)

-- ---- the buffer is too short
pub returns-then-buffer-size : goal.returns-then-buffer-size
returns-then-buffer-size c =
    let a = c.args in
    let o =
    too_short (held_book a.book) a.buffer.now (passes (goal.at.returns-then-buffer-size c).In-Ok)
    (omega (arith, size_is (goal.at.returns-then-buffer-size c).After-struct_known-1, c.if-buffer-size.true)) in
    record {
      answers = o.answers;
      leaves = o.leaves;
    }

-- ---- it is long enough
module _ (c : Else-buffer-size) where
  abbrev book : Book
  book = held (record { before = c.before.before.before.before; type_inv = record { buffer = c.slice_known-1.given } })

  room : c.models_size-offset.result + step_length * book.step_count + trailer_length
      ≤ length c.args.buffer.now
  room = c.if-buffer-size.false

pub put_models-requires : goal.put_models-requires
put_models-requires c =
    record {
      held_passes = passes (goal.at.put_models-requires c).In-Ok;
      b_in_bounds = omega (
        arith,
        offset_is (goal.at.put_models-requires c).After-struct_known-1,
        room (goal.at.put_models-requires c).Else-buffer-size,
      );
    }

pub put_steps-requires : goal.put_steps-requires
put_steps-requires c =
    record {
      held_passes = passes (goal.at.put_steps-requires c).In-Ok;
      step_count_in_bounds = omega (
        arith,
        room (goal.at.put_steps-requires c).Else-buffer-size,
        c.put_models.auto.buffer,
      );
    }

pub put_trailer-requires : goal.put_trailer-requires
put_trailer-requires c =
    record {
      held_passes = passes (goal.at.put_trailer-requires c).In-Ok;
      offset_value = offset_is (goal.at.put_trailer-requires c).After-struct_known-1;
      trailer_length_in_bounds = omega (
        arith,
        room (goal.at.put_trailer-requires c).Else-buffer-size,
        c.put_models.auto.buffer,
        c.put_steps.auto.buffer,
      );
    }

pub returns : goal.returns
returns c =
    let a = c.args in
    let o = long_enough (held_book a.book) a.buffer.now (passes (goal.at.returns c).In-Ok) _ _ _ _ _
    (offset_is (goal.at.returns c).After-struct_known-1)
    (ap (λ k. c.models_size-offset.result + step_length * k) (sym (count_steps a.book)))
    (room (goal.at.returns c).Else-buffer-size)
    c.put_models.ensures c.put_steps.ensures c.put_trailer.ensures in
    record {
      answers = o.answers;
      leaves = o.leaves;
    }
