-- `within` sums the span as far as the cap.
use mathlib.Core.List.{List}
use Prim.Native.Nat.{ℕ}
use Rattle.model_slices.specs.HeldModels.{held, Room}
use Rattle.model_limits.specs.LimitLaws.{Summed}
use Rattle.model_limits.proofs.within.Given as goal

abbrev pub invariant-loop-j : goal.invariant-loop-j
invariant-loop-j l =
    (n : ℕ) (ks : List ℕ) → Room ks l.coefficients → Summed (held n l.count l.radius ks l.coefficients) l.span l.j
