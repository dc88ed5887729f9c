-- `of_one` goes through the codes.
use native.Mathlib.Omega.{arith}
use mir.Facts.{to_z-of_z}
use Rattle.c_dispatch.specs.StoredCallLaws.{stored_called, one_negate, one_sweep, one_antiderivative}
use Rattle.c_dispatch.proofs.of_one.Goals as goal

pub returns-in-3 : goal.returns-in-3
returns-in-3 c =
    stored_called (one_negate _ _ _ _ _ c.in-3.is) c.negate.ensures

pub returns-in-8 : goal.returns-in-8
returns-in-8 c =
    stored_called (one_sweep _ _ _ _ _ c.in-8.is (to_z-of_z c.ranges.value)) c.sweep.ensures

pub returns-in_default : goal.returns-in_default
returns-in_default c =
    stored_called (one_antiderivative c.args.code _ _ _ _ (λ e. omega (arith, e)) (λ e. omega (arith, e)))
    c.antiderivative.ensures
