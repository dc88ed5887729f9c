-- `divided_up` is a / d rounded up: the quotient, or one more where a remainder is left.
use Prim.Native.Nat.{◌<◌, ◌%◌}
use native.Mathlib.Omega.{arith}
use borrow.Author.Rules.{rules}
use Rattle.numbers.proofs.DivisionLaws.{divided_up_exact, divided_up_inexact, inexact_below}
use Rattle.fixed.proofs.divided_up.Goals as goal
use Rattle.fixed.proofs.divided_up.Goals.{Else-a-d-eq0}

-- a remainder is left
left : (c : Else-a-d-eq0) → 0 < c.before.args.a % c.before.args.d
left c = omega (arith, c.if-a-d-eq0.false)

pub overflow_add-result : goal.overflow_add-result
overflow_add-result c = omega (arith, c.before.ranges, inexact_below _ _ c.before.requires (left c))

pub returns-then-a-d-eq0 : goal.returns-then-a-d-eq0
returns-then-a-d-eq0 c = divided_up_exact _ _ c.before.requires (omega (arith, c.if-a-d-eq0.true))

pub returns-else-a-d-eq0 : goal.returns-else-a-d-eq0
returns-else-a-d-eq0 c = divided_up_inexact _ _ c.before.requires (left c)
