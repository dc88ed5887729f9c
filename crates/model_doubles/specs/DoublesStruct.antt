-- The struct of four doubles as a curve, and a term after those of a model.
use Rattle.std.specs.Prelude.{[], ◌∷◌, ◌++◌, ℕ, ℤ}
use Rattle.calculus.specs.Key.{monomial_of}
use Rattle.calculus.specs.Terms.{term, drop_zeros}
use Rattle.calculus.specs.Model as C
use Rattle.doubles.specs.Doubles.{Delivery}
use Rattle.model_types.specs.declared.Doubles.{Doubles}

-- the curve that a struct holds
abbrev pub delivered : Doubles → Delivery
delivered d = record { c0 = d.c0; c1 = d.c1; c2 = d.c2; radius = d.radius }

-- one more term after the others, unless its coefficient is 0
unfoldable pub with_term : (key : ℕ) → ℤ → C.Model → C.Model
with_term z c m = record {
  vars = m.vars;
  radius = m.radius;
  terms = m.terms ++ drop_zeros (term c (monomial_of m.vars z) ∷ []);
}
