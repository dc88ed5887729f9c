-- `zero_book` keeps what walks over no records read: zeros.
use mathlib.Core.Path.{◌∙◌, ap}
use borrow.Author.Rules.{rules}
use Rattle.calculus.specs.Key.{key_width}
use Rattle.format.specs.HeldBook.{zero_book}
use Rattle.sheet_book.specs.BookStruct.{stored_book}
use Rattle.sheet_read_walk.specs.KeptLaws.{no_models_read, no_steps_read}
use Rattle.sheet_reader.proofs.zero_book.Goals as goal

pub read_models-w-requires : goal.read_models-w-requires
unfolding key_width
read_models-w-requires c = search rules

pub returns : goal.returns
unfolding stored_book zero_book
returns c =
    rw (
      ap (λ x. x.models) c.read_models-w.ensures ∙ no_models_read 1 0 _,
      ap (λ x. x.steps) c.read_steps-v.ensures ∙ no_steps_read 1 0 _,
    )
