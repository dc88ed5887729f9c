-- `substituted` hands on the answer without the shares.
use borrow.Author.Rules.{rules}
use Rattle.model_types.specs.SharesStructLaws.{accounted_answer}
use Rattle.model_substitution.proofs.substituted.Goals as goal

pub returns : goal.returns
returns c =
    accounted_answer _ _ c.substituted_accounted-all.ensures
