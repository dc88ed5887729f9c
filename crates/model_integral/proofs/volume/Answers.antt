-- `volume` is 2^n.
use mathlib.Core.Path.{◌∙◌, ap}
use Prim.Native.Nat.{◌^◌, ◌%◌}
use native.Mathlib.Nat as NatL
use native.Mathlib.Omega.{arith}
use lib.Pow.{pow-lt}
use Rattle.calculus.specs.Key.{key_width}
use Rattle.model_integral.proofs.volume.Goals as goal

pub overflow_shl-result : goal.overflow_shl-result
unfolding key_width
overflow_shl-result c = omega (arith, c.requires.1)

pub returns : goal.returns
unfolding key_width
returns c = ap (λ x. x % 2 ^ 64) (NatL.one-mul (2 ^ c.args.n))
    ∙ NatL.mod-eq_of_lt (pow-lt {i = c.args.n} {j = 64} (omega (arith, c.requires.1)))
