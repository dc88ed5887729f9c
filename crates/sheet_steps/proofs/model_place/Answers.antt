-- `model_place` keeps a number within the places of a book's models.
use native.Mathlib.Omega.{arith}
use borrow.Author.Rules.{rules}
use Rattle.calculus.specs.Book.{most_models}
use Rattle.sheet_steps.proofs.model_place.Goals as goal

pub returns-then-place-lt-MOST_MODELS : goal.returns-then-place-lt-MOST_MODELS
unfolding most_models
returns-then-place-lt-MOST_MODELS c = omega (arith, c.if-place-lt-MOST_MODELS.true)

pub returns-else-place-lt-MOST_MODELS : goal.returns-else-place-lt-MOST_MODELS
unfolding most_models
returns-else-place-lt-MOST_MODELS c = omega (arith, c.if-place-lt-MOST_MODELS.false)
