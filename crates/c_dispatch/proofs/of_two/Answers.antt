-- `of_two` goes through the codes.
use native.Mathlib.Omega.{arith}
use Rattle.c_dispatch.specs.StoredCallLaws.{stored_called, called_same, two_add, two_subtract, two_multiply}
use Rattle.c_dispatch.proofs.of_two.Goals as goal

pub returns-in-4 : goal.returns-in-4
returns-in-4 c =
    stored_called (two_add _ _ _ _ c.in-4.is) c.add.ensures

pub returns-in-5 : goal.returns-in-5
returns-in-5 c =
    stored_called (two_subtract _ _ _ _ c.in-5.is) c.subtract.ensures

pub returns-in_default : goal.returns-in_default
returns-in_default c =
    called_same _ _ _ (two_multiply c.args.code _ _ _ (λ e. omega (arith, e)) (λ e. omega (arith, e)))
    c.multiply.ensures
