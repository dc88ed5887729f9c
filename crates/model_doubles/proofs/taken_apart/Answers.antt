-- `taken_apart` tests for a NaN, then takes the bits apart.
use mathlib.Core.Path.{sym, subst}
use mathlib.Core.Bool.{Bool, not}
use lib.Dec.{T}
use borrow.Author.Rules.{rules}
use Rattle.model_doubles.specs.DoublePartsLaws.{no_nan, worth_of_nan, worth_of_bits}
use Rattle.model_doubles.specs.DoubleParts.{Worth}
use Rattle.model_doubles.proofs.taken_apart.Goals as goal

pub returns-then-x : goal.returns-then-x
returns-then-x c = worth_of_nan c.args.x c.if-x.true

pub float_to_bits-x : goal.float_to_bits-x
float_to_bits-x c = subst (λ (b : Bool). T (not b)) (sym (no_nan c.args.x c.if-x.false)) tt

pub returns : goal.returns
returns c =
    subst (Worth c.args.x) (sym c.parts_of_bits.ensures)
    (worth_of_bits c.args.x (subst T (sym c.well_formed.0.1) tt))
