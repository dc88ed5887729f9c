-- The single calls that answer with a model: those of two models, those of one, and the others.
use Rattle.std.specs.Prelude.{Bool, ◌&&◌, ◌||◌, cond, ℕ, eqb, leb, ℤ}
use Rattle.calculus.specs.Model.{Model}
use Rattle.calculus.specs.Refusal.{Result}
use Rattle.calculus.specs.Calls.{call_constant, call_variable, call_negate, call_add, call_subtract, call_multiply}
use Rattle.calculus.specs.Calls.{call_substitute, call_sweep, call_antiderivative}

-- whether a code names add, subtract or multiply
unfoldable pub of_two : (code : ℕ) → Bool
of_two code = leb 4 code && leb code 6

-- whether it names negate, sweep or antiderivative
unfoldable pub of_one : (code : ℕ) → Bool
of_one code = eqb code 3 || (eqb code 8 || eqb code 10)

-- that of the three, multiply for any code that the others do not have
unfoldable pub two_call : (code d : ℕ) (f g : Model) → Result Model
two_call code d f g =
    cond (eqb code 4) (call_add f g)
    (cond (eqb code 5) (call_subtract f g) (call_multiply d f g))

-- and of these, antiderivative
unfoldable pub one_call : (code d i : ℕ) (v : ℤ) (f : Model) → Result Model
one_call code d i v f =
    cond (eqb code 3) (call_negate f)
    (cond (eqb code 8) (call_sweep v f) (call_antiderivative d i f))

-- the others, substitute for any code that constant and variable do not have
unfoldable pub other_call : (code d i : ℕ) (v : ℤ) (f g : Model) → Result Model
other_call code d i v f g =
    cond (eqb code 1) (call_constant f.vars v)
    (cond (eqb code 2) (call_variable f.vars i) (call_substitute d i f g))
