-- `packed_kept` puts the shares beside the answer.
use mathlib.Core.Path.{ap}
use Rattle.product_answer.specs.KeptProduct.{kept_accounted}
use Rattle.product_answer.proofs.packed_kept.Goals as goal

pub returns : goal.returns
unfolding kept_accounted
returns c =
    ap (λ a. record { answer = a; shares = c.args.k.shares })
    c.packed_answer-answer.ensures
