-- `within_span` is the test against the span limit.
use mathlib.Core.Path.{refl}
use Rattle.numbers.specs.Fixed.{span_limit}
use Rattle.fixed.proofs.within_span.Goals as goal

pub returns : goal.returns
unfolding span_limit
returns c = refl
