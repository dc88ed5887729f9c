-- `other_call` goes through the codes.
use native.Mathlib.Omega.{arith}
use borrow.Author.Tests.{eq-eqb, ne_eqb}
use mathlib.Core.Path.{◌≡◌}
use mir.Facts.{to_z-of_z}
use mir.Syntax.{w64}
use mir.Val.{to_z, of_z}
use Rattle.model.specs.OperationLaws.{vars_view}
use Rattle.c_calls.specs.CallKinds.{other_call}
use Rattle.c_calls.proofs.other_call.Goals as goal
use Rattle.c_calls.proofs.other_call.Goals.{Start}

read_back : (c : Start) → to_z w64 (of_z w64 c.args.value) ≡ c.args.value
read_back c = to_z-of_z c.ranges.value

pub returns-in-1 : goal.returns-in-1
unfolding other_call
returns-in-1 c =
    rw (
      c.constant.ensures,
      read_back (goal.at.returns-in-1 c).Start,
      c.requires,
      vars_view _,
      eq-eqb _ 1 c.in-1.is,
    )

pub returns-in-2 : goal.returns-in-2
unfolding other_call
returns-in-2 c =
    let code = c.args.code in
    rw (
      c.variable.ensures,
      c.requires,
      vars_view _,
      ne_eqb code 1 (λ e. omega (arith, e, c.in-2.is)),
      eq-eqb code 2 c.in-2.is,
    )

pub returns-in_default : goal.returns-in_default
unfolding other_call
returns-in_default c =
    let code = c.args.code in
    rw (
      c.substitute.ensures,
      ne_eqb code 1 (λ e. omega (arith, e)),
      ne_eqb code 2 (λ e. omega (arith, e)),
    )
