-- `put_trailer` puts the fields one after the other.
use mathlib.Core.Path.{◌≡◌, sym, ◌∙◌}
use native.Mathlib.Omega.{arith}
use lib.ListN.{length, length-set}
use Rattle.format.proofs.ReadBackLaws.{models_short}
use Rattle.sheet_book.specs.BookStruct.{held_book}
use Rattle.sheet_book.specs.FailingLaws.{count_models, count_steps}
use Rattle.sheet_encode.specs.TrailerStoreLaws.{trailer_stores}
use Rattle.sheet_encode.specs.SectionFittingLaws.{book_limits}
use Rattle.sheet_encode.proofs.put_trailer.Goals as goal
use Rattle.sheet_encode.proofs.put_trailer.Goals.{After-slice_known-2-1}

-- the buffer keeps its length
kept : (c : After-slice_known-2-1)
    → length c.put_u16.new.buffer
    ≡ length c.args.buffer.now
kept c = c.put_u16.auto.buffer ∙ simp length-set

pub bounds-buffer-at-2 : goal.bounds-buffer-at-2
bounds-buffer-at-2 c = simp length-set (omega arith)

pub overflow_cast-buffer : goal.overflow_cast-buffer
overflow_cast-buffer c =
    omega (arith, (book_limits c.args.b c.requires.held_passes).models)

pub bounds-buffer-at-3 : goal.bounds-buffer-at-3
bounds-buffer-at-3 c = simp length-set (omega arith)

pub overflow_cast-buffer-2 : goal.overflow_cast-buffer-2
overflow_cast-buffer-2 c =
    omega (arith, (book_limits c.args.b c.requires.held_passes).steps_high)

pub bounds-buffer-at-4 : goal.bounds-buffer-at-4
bounds-buffer-at-4 c = simp length-set (omega arith)

pub overflow_cast-offset : goal.overflow_cast-offset
overflow_cast-offset c =
    omega (arith, c.requires.offset_value, models_short (held_book c.args.b) c.requires.held_passes)

pub put_u16-requires : goal.put_u16-requires
put_u16-requires c = simp length-set (omega arith)

pub bounds-buffer-at-5 : goal.bounds-buffer-at-5
bounds-buffer-at-5 c = omega (arith, kept c)

pub bounds-buffer-at-6 : goal.bounds-buffer-at-6
bounds-buffer-at-6 c = simp length-set (omega (arith, kept c))

pub shape_of-buffer : goal.shape_of-buffer
shape_of-buffer c = simp length-set (kept c)

pub returns : goal.returns
unfolding held_book
returns c =
    let b = c.args.b in
    rw (c.put_u16.ensures, c.mark_of-mark.ensures)
    (trailer_stores c.args.buffer.now c.args.at (held_book b) b.model_count b.step_count
    c.args.offset (sym (count_models b)) (sym (count_steps b)) c.requires.offset_value)
