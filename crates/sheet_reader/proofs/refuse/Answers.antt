-- `refuse` answers the book of zeros beside the refusal.
use borrow.Author.Rules.{rules}
use Rattle.model_types.specs.ModelStructLaws.{refusal_cause}
use Rattle.sheet_book.specs.BookStruct.{read_answer}
use Rattle.sheet_reader.proofs.refuse.Goals as goal

pub returns : goal.returns
unfolding read_answer
returns c = rw (refusal_cause c.args.refusal, c.zero_book-book.ensures)
