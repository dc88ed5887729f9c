-- `capped_sum` is the capped sum: what would exceed the limit is never added.
use native.Mathlib.Omega.{arith}
use borrow.Author.Rules.{rules}
use Rattle.numbers.specs.Fixed.{span_limit, capped}
use Rattle.fixed.proofs.capped_sum.Goals as goal

pub returns-then-s-gt-SPAN_LIMIT : goal.returns-then-s-gt-SPAN_LIMIT
unfolding span_limit capped
returns-then-s-gt-SPAN_LIMIT c = omega arith

pub returns-then-s-x : goal.returns-then-s-x
unfolding span_limit capped
returns-then-s-x c = omega arith

pub returns : goal.returns
unfolding span_limit capped
returns c = omega arith
