-- `times_unit` multiplies by U.
use mathlib.Core.Path.{◌≡◌, ◌∙◌, ap}
use Prim.Native.Nat.{◌*◌}
use borrow.Author.Rules.{rules}
use lib.IntN.{nat_abs}
use Rattle.numbers.specs.Fixed.{U}
use Rattle.fixed.specs.MachineLaws.{answered}
use Rattle.model_types.proofs.times_unit.Goals as goal
use Rattle.model_types.proofs.times_unit.Goals.{After-magnitude-unit}

unit_is : (c : After-magnitude-unit) → c.magnitude-unit.result ≡ U
unit_is c = c.magnitude-unit.ensures ∙ ap nat_abs (answered c.unit.type_inv c.unit.ensures)

pub overflow_mul-result : goal.overflow_mul-result
overflow_mul-result c = rw (unit_is c) (record { fits = c.requires })

pub returns : goal.returns
returns c = ap (λ u. u * c.args.e) (unit_is c)
