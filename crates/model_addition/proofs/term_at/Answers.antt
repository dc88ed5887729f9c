-- `term_at` reads a term where there is one.
use native.Mathlib.Omega.{arith}
use borrow.Author.Rules.{rules}
use Rattle.model_addition.proofs.term_at.Goals as goal

pub returns : goal.returns
returns c h = absurd (omega (arith, c.if-i-c.false))
