-- `borrowed` compares each length with the places that are named.
use mathlib.Core.Path.{sym}
use borrow.Author.Tests.{le-leb, lt-leb}
use Rattle.calculus.specs.Model.{most_terms}
use Rattle.model_slices.specs.HandedModels.{borrowed}
use Rattle.model_slices.proofs.borrowed.Goals as goal

pub returns-then-named-keys : goal.returns-then-named-keys
unfolding borrowed most_terms
returns-then-named-keys c = rw (sym c.least-named.ensures, le-leb _ _ c.if-named-keys.true)

pub returns-else-named-keys : goal.returns-else-named-keys
unfolding borrowed most_terms
returns-else-named-keys c = rw (sym c.least-named.ensures, lt-leb _ _ c.if-named-keys.false)
