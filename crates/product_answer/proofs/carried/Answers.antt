-- `carried` is a sum of three products, of which each is at most the whole.
use mathlib.Core.Path.{refl}
use Rattle.product_answer.proofs.carried.Goals as goal

pub returns : goal.returns
returns c = refl
