-- `kept_count` answers 0 beside a refusal.
use borrow.Author.Rules.{rules}
use Rattle.product_answer.specs.KeptProduct.{kept_count}
use Rattle.product_slices.proofs.kept_count.Goals as goal

pub returns-in_default : goal.returns-in_default
unfolding kept_count
returns-in_default c = rw c.in_default.is

pub returns : goal.returns
unfolding kept_count
returns c = rw c.in-Ok.is
