-- `round_up` is E / U rounded up.
use native.Mathlib.Omega.{arith}
use borrow.Author.Rules.{rules}
use Rattle.numbers.specs.Division.{divided_up}
use Rattle.numbers.specs.Fixed.{U, round_up}
use Rattle.fixed.proofs.round_up.Goals as goal

pub returns-then-e-eq0 : goal.returns-then-e-eq0
unfolding U round_up divided_up
returns-then-e-eq0 c = omega arith

pub returns-else-e-eq0 : goal.returns-else-e-eq0
unfolding U round_up divided_up
returns-else-e-eq0 c = omega arith
