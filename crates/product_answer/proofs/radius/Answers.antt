-- `radius` sums E and rounds it up.
use Rattle.product_answer.proofs.radius.Goals as goal

pub returns : goal.returns
returns c = c.round_up.ensures
