-- `stays` compares the degree with the order.
use mathlib.Core.Path.{ap}
use lib.Dec.{ltb}
use Rattle.model_antiderivative.specs.Antiderivatives.{key_stays}
use Rattle.model_antiderivative.proofs.stays.Goals as goal

pub returns : goal.returns
unfolding key_stays
returns c = ap (λ z. ltb z c.args.d) c.degree.ensures
