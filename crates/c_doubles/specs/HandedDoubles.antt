-- A curve in doubles that is handed over as four numbers.
use Rattle.std.specs.Prelude.{Float}
use Rattle.calculus.specs.Model as C
use Rattle.calculus.specs.Refusal.{Result}
use Rattle.doubles.specs.Doubles.{call_doubles}

-- the call with them
unfoldable pub handed_doubles : (c0 c1 c2 radius : Float) → Result C.Model
handed_doubles a b c e = call_doubles (record { c0 = a; c1 = b; c2 = c; radius = e })
