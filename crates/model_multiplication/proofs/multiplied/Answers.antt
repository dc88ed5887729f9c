-- `multiplied` hands on the answer without the shares.
use borrow.Author.Rules.{rules}
use Rattle.model_types.specs.SharesStructLaws.{accounted_answer}
use Rattle.model_multiplication.proofs.multiplied.Goals as goal

pub returns : goal.returns
returns c =
    accounted_answer _ _ c.multiplied_accounted-product.ensures
