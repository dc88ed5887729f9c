-- Tests that pass: conjunctions taken apart and put together, two tests that pass together.
use Rattle.std.specs.Prelude.{Bool, true, false, ◌&&◌, T}
-- tests that pass together are one
pub use Rattle.algebra.specs.BooleanLaws.{same_tests}

pub and_left : (a b : Bool) → T (a && b) → T a
and_left true b h = tt
and_left false b h = h

pub and_right : (a b : Bool) → T (a && b) → T b
and_right true b h = h
and_right false b h = absurd h

pub both : (a b : Bool) → T a → T b → T (a && b)
both true b h k = k
both false b h k = h
