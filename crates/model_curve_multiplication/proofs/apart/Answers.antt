-- `apart` is how far the two are apart, whichever is larger.
use Rattle.chebyshev.specs.Recurrence.{apart}
use Rattle.model_curve_multiplication.proofs.apart.Goals as goal

pub returns : goal.returns
unfolding apart
returns c = c.abs_diff.ensures
