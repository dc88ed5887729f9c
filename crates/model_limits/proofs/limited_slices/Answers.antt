-- `limited_slices` answers by the span.
use mathlib.Core.Path.{refl, sym, ◌∙◌}
use Rattle.model_limits.specs.LeftLaws.{left_within, left_over}
use Rattle.model_limits.proofs.limited_slices.Goals as goal

pub returns-then-within : goal.returns-then-within
returns-then-within c = λ n ks r p. left_within n _ _ ks _ p (sym (c.within.ensures n ks r) ∙ c.if-within.true)

pub returns : goal.returns
returns c = λ n ks r p. left_over n _ _ ks _ p (sym (c.within.ensures n ks r) ∙ c.if-within.false) refl
