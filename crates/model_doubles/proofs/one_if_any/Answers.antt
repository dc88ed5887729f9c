-- `one_if_any` is the test that the number is not 0, as a number.
use mathlib.Core.Path.{◌≡◌, refl}
use mathlib.Core.Bool.{Bool, true, false, not}
use lib.Dec.{eqb}
use mir.Val.{bool_byte}
use Prim.Native.Nat.{ℕ}
use Rattle.calculus.specs.Operations.{one_if_any}
use Rattle.model_doubles.proofs.one_if_any.Goals as goal

by_test : (b : Bool) → bool_byte (not b) ≡ elim b as (λ b. ℕ) [ true ↦ 0 | false ↦ 1 ]
by_test true = refl
by_test false = refl

pub returns : goal.returns
unfolding one_if_any
returns c = by_test (eqb c.args.rest 0)
