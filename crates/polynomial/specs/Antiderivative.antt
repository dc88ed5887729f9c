-- Polynomials over a field. In one variable: their value, and the antiderivative that is 0 at 0. In any number of
-- variables: the antiderivative in one of them that is 0 wherever that variable is 0, and the derivative.
use Rattle.std.specs.Prelude.{List, [], ◌∷◌, ℕ, suc}
use Rattle.algebra.specs.Ring.{nat, pow}
use Rattle.algebra.specs.Field.{Field}
use Rattle.polynomial.specs.Polynomial as P
use Rattle.polynomial.specs.Polynomial.{Polynomial, raise, lower}

-- a coefficient times a power of the variable
pub record PowerTerm (A : Type 0) : Type 0 where
  pub coefficient : A
  pub exponent : ℕ

module _ (F : Field) where
  open F use {ordered as O, reciprocal}
  open O use {ring as R}
  open R use {Carrier, 0#, ◌+◌, ◌*◌}

  infixl 60 ◌+◌
  infixl 70 ◌*◌
  -- any list of them
  abbrev pub Univariate : Type 0
  Univariate = List (PowerTerm Carrier)

  -- the value at x
  unfoldable pub value : Univariate → Carrier → Carrier
  value [] x = 0#
  value (t ∷ p) x = t.coefficient * pow R x t.exponent + value p x

  -- the value at x of the antiderivative: x^(k + 1) / (k + 1) for x^k
  unfoldable pub antiderivative : Univariate → Carrier → Carrier
  antiderivative [] x = 0#
  antiderivative (t ∷ p) x =
      t.coefficient * (pow R x (suc t.exponent) * reciprocal (suc t.exponent)) + antiderivative p x

  -- ---- in any number of variables
  -- the antiderivative in variable v, counted from 0: x_v^(k + 1) / (k + 1) for x_v^k
  unfoldable pub antiderivative_in : ℕ → Polynomial R → Polynomial R
  antiderivative_in v [] = []
  antiderivative_in v (t ∷ p) = record {
    coefficient = t.coefficient * reciprocal (suc (P.exponent v t.exponents));
    exponents = raise v t.exponents;
  } ∷ antiderivative_in v p

  -- the derivative in variable v, counted from 0: k x_v^(k − 1) for x_v^k
  unfoldable pub derivative_in : ℕ → Polynomial R → Polynomial R
  derivative_in v [] = []
  derivative_in v (t ∷ p) = record {
    coefficient = t.coefficient * nat R (P.exponent v t.exponents);
    exponents = lower v t.exponents;
  } ∷ derivative_in v p
