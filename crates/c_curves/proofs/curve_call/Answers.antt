-- `curve_call` goes through the codes.
use native.Mathlib.Omega.{arith}
use borrow.Author.Tests.{ne_eqb}
use Rattle.std.proofs.Common.{◌≢◌}
use Rattle.c_curves.specs.HandedCurves.{curve_call}
use Rattle.c_curves.proofs.curve_call.Goals as goal

pub returns-in-3 : goal.returns-in-3
unfolding curve_call
returns-in-3 c = rw (c.negate.ensures, c.in-3.is)

pub returns-in-4 : goal.returns-in-4
unfolding curve_call
returns-in-4 c = rw (c.add.ensures, c.in-4.is)

pub returns-in-5 : goal.returns-in-5
unfolding curve_call
returns-in-5 c = rw (c.subtract.ensures, c.in-5.is)

pub returns-in_default : goal.returns-in_default
unfolding curve_call
returns-in_default c =
    let a : c.args.code ≢ 3 = omega arith in
    let b : c.args.code ≢ 4 = omega arith in
    let d : c.args.code ≢ 5 = omega arith in
    rw (c.multiply.ensures, ne_eqb _ 3 a, ne_eqb _ 4 b, ne_eqb _ 5 d)
