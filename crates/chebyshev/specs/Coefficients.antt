-- Rows of integer coefficients, that of degree 0 first: sums, multiples, products by Chebyshev's rule, values.
use Rattle.std.specs.Prelude.{List, [], ◌∷◌, ℕ, zero, suc, ℤ, pos, ◌+ℤ◌, ◌*ℤ◌, nat_abs}
use Prim.Native.Nat as N
use Rattle.algebra.specs.Ring.{Ring}
use Rattle.chebyshev.specs.RingIntegers.{int}
use Rattle.chebyshev.specs.Recurrence.{apart}

-- a row of coefficients
abbrev pub Row : Type 0
Row = List ℤ

-- coefficients of one degree added; where one row ends the other goes on
unfoldable pub sum : Row → Row → Row
sum [] l = l
sum (a ∷ k) [] = a ∷ k
sum (a ∷ k) (b ∷ l) = (a +ℤ b) ∷ sum k l

-- each times c
unfoldable pub scale : ℤ → Row → Row
scale c [] = []
scale c (a ∷ l) = (c *ℤ a) ∷ scale c l

-- the sum of all |c|
unfoldable pub size : Row → ℕ
size [] = 0
size (a ∷ l) = N.◌+◌ (nat_abs a) (size l)

-- z added at degree k; a row that ends before it is filled up with zeros
unfoldable pub add_at : (k : ℕ) (z : ℤ) → Row → Row
add_at zero z [] = z ∷ []
add_at zero z (a ∷ l) = (z +ℤ a) ∷ l
add_at (suc k) z [] = pos 0 ∷ add_at k z []
add_at (suc k) z (a ∷ l) = a ∷ add_at k z l

-- ---- products by T_i × T_j = (T_(i+j) + T_|i-j|) / 2, doubled
-- those of a at degree i with a row whose degrees go from j on, collected into z
unfoldable pub products_of : (i : ℕ) (a : ℤ) (j : ℕ) → Row → (z : Row) → Row
products_of i a j [] z = z
products_of i a j (b ∷ g) z =
    add_at (N.◌+◌ i j) (a *ℤ b) (add_at (apart i j) (a *ℤ b) (products_of i a (suc j) g z))

-- those of a row whose degrees go from i on with a whole one, collected into z
unfoldable pub products_from : (i : ℕ) → Row → Row → (z : Row) → Row
products_from i [] g z = z
products_from i (a ∷ f) g z = products_of i a 0 g (products_from (suc i) f g z)

-- ---- values
module _ (R : Ring) where
  open R use {Carrier, 0#, ◌+◌, ◌*◌}

  infixl 60 ◌+◌
  infixl 70 ◌*◌
  -- the sum of all c w_k, degrees from k on; w_k is the value of x^k or of T_k
  unfoldable pub value : (w : ℕ → Carrier) (k : ℕ) → Row → Carrier
  value w k [] = 0#
  value w k (a ∷ l) = int R a * w k + value w (suc k) l
