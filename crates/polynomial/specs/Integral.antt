-- The integral of a polynomial over the box [-1, 1]^n, term by term.
use Rattle.std.specs.Prelude.{Bool, true, false, not, List, [], ◌∷◌, ℕ, zero, suc, ◌^◌}
use Prim.Native.Nat as N
use Rattle.algebra.specs.Ring.{nat}
use Rattle.algebra.specs.Field.{Field}
use Rattle.polynomial.specs.Polynomial.{Polynomial}

-- an even number
unfoldable pub even : ℕ → Bool
even zero = true
even (suc n) = not (even n)

-- the exponent of the first variable
unfoldable pub first : List ℕ → ℕ
first [] = 0
first (e ∷ es) = e

-- the exponents of the others
unfoldable pub rest : List ℕ → List ℕ
rest [] = []
rest (e ∷ es) = es

-- the exponents of the n variables are all even
unfoldable pub all_even : ℕ → List ℕ → Bool
all_even zero es = true
all_even (suc n) es = elim (even (first es)) [ true ↦ all_even n (rest es) | false ↦ false ]

-- the product of (exponent + 1) over the n variables
unfoldable pub divisor : ℕ → List ℕ → ℕ
divisor zero es = 1
divisor (suc n) es = N.◌*◌ (suc (first es)) (divisor n (rest es))

module _ (F : Field) where
  open F use {ordered as O, reciprocal}
  open O use {ring as R}
  open R use {Carrier, 0#, ◌+◌, ◌*◌}

  infixl 60 ◌+◌
  infixl 70 ◌*◌
  -- of one monomial: 0 if an exponent is odd, otherwise 2^n divided by the product of (exponent + 1)
  unfoldable pub moment : ℕ → List ℕ → Carrier
  moment n es = elim (all_even n es) [ true ↦ nat R (2 ^ n) * reciprocal (divisor n es) | false ↦ 0# ]

  -- the sum over the terms
  unfoldable pub integral : ℕ → Polynomial R → Carrier
  integral n [] = 0#
  integral n (t ∷ p) = t.coefficient * moment n t.exponents + integral n p
