-- `following` tests what is found, then goes on by one iteration.
use mathlib.Core.Path.{sym, ◌∙◌}
use borrow.Author.Rules.{rules}
use borrow.Author.Tests.{not-true, not-false}
use Rattle.model_readings.specs.RowPassLaws.{next_none, next_one, next_last}
use Rattle.model_readings.proofs.following.Goals as goal

pub returns-then-not-undecided : goal.returns-then-not-undecided
returns-then-not-undecided c = next_none _ _ _ (sym c.undecided.ensures ∙ c.if-not-undecided.true)

pub returns-then-k-end : goal.returns-then-k-end
returns-then-k-end c =
    next_one _ _ _ (sym c.undecided.ensures ∙ c.if-not-undecided.false) c.if-k-end.true

pub returns : goal.returns
returns c =
    next_last _ _ _ (sym c.undecided.ensures ∙ c.if-not-undecided.false) c.if-k-end.false
