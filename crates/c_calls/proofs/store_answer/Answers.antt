-- `store_answer` stores the terms and the numbers.
use Rattle.c_calls.specs.CallCodes.{stored_answer}
use Rattle.c_calls.proofs.store_answer.Goals as goal

pub store_terms-requires : goal.store_terms-requires
store_terms-requires c = (c.requires.0, c.requires.1)

pub store_numbers-requires : goal.store_numbers-requires
store_numbers-requires c = c.requires.2

pub returns : goal.returns
unfolding stored_answer
returns c =
    rw (
      c.verdict_number.ensures,
      c.store_terms.ensures.0,
      c.store_terms.ensures.1,
      c.store_numbers.ensures,
      c.verdict_place.ensures,
    )
