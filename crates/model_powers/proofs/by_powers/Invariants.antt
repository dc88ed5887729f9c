-- `by_powers` links each term to the next one of its power, from the last term down.
use Prim.Native.Nat.{◌<◌}
use Rattle.model_slices.specs.HeldModels.{held}
use Rattle.model_powers.specs.Powers.{KeysOf, exponents}
use Rattle.model_powers.specs.PowersLaws.{Largest}
use Rattle.model_powers.specs.PowerChainLaws.{Chaining}
use Rattle.model_powers.proofs.by_powers.Given as goal

abbrev pub invariant-loop-j : goal.invariant-loop-j
invariant-loop-j l =
    Chaining l.i l.count l.keys l.first l.next l.j × ((w : KeysOf l.i l.count l.keys)
    → Largest l.i (held w.vars l.count w.radius l.keys w.coefficients) l.largest l.j) × (l.largest < exponents)
