-- `one_if_any` tells 0 from the others.
use native.Mathlib.Omega.{arith}
use Rattle.model_integral.specs.IntegralPartsLaws.{none_above, some_above}
use Rattle.model_integral.proofs.one_if_any.Goals as goal

pub returns-then-remainder-eq0 : goal.returns-then-remainder-eq0
returns-then-remainder-eq0 c = rw c.if-remainder-eq0.true none_above

pub returns-else-remainder-eq0 : goal.returns-else-remainder-eq0
returns-else-remainder-eq0 c = some_above c.args.remainder (λ e. omega (arith, c.if-remainder-eq0.false, e))
