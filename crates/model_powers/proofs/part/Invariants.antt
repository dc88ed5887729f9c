-- `part` walks along the chain of the k-th power, and stores its terms in their order, without the variable.
use mathlib.Core.Path.{◌≡◌}
use Prim.Native.Nat.{◌-◌, ◌≤◌, ◌<◌}
use lib.ListN.{get_or}
use Rattle.model_keys.specs.Keys.{key_exponent}
use Rattle.model_types.specs.ModelStruct.{pad}
use Rattle.model_slices.specs.HandedModels.{terms_of}
use Rattle.model_slices.specs.HeldModels.{held, Room}
use Rattle.model_powers.specs.Powers.{PartOf}
use Rattle.model_powers.specs.PowersLaws.{Taken}
use Rattle.model_powers.proofs.part.Given as goal

-- the terms before the place are stored, and at the place is one of the power
abbrev pub invariant-loop-j : goal.invariant-loop-j
invariant-loop-j l =
    Room l.stored l.out × ((w : PartOf l.i l.total l.keys l.coefficients)
    → Taken l.i (held w.vars l.total w.radius l.keys l.coefficients) l.k (pad (terms_of l.count l.stored l.out)) l.count
    l.j)
    × (l.j ≤ l.total) × (l.j < l.total → key_exponent l.i (get_or l.keys l.j 0) ≡ l.k)

abbrev pub decreases-loop-j : goal.decreases-loop-j
decreases-loop-j l = l.total - l.j
