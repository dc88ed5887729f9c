-- The Chebyshev polynomials in powers, by the recurrence.
use Rattle.std.specs.Prelude.{List, [], ◌∷◌, map, ℕ, zero, suc, pos, neg_ℤ, replicate}
use Rattle.chebyshev.specs.Coefficients.{Row, sum, scale}

-- a row has sixteen coefficients, for the degrees 0 to 15
unfoldable pub places : ℕ
places = 16

-- sixteen zeros
unfoldable pub zeros : Row
zeros = replicate places (pos 0)

-- T_k in powers: T_0 is 1, T_1 is x, and T_(k+2) is 2 x T_(k+1) - T_k
unfoldable pub powers_of : ℕ → Row
powers_of zero = pos 1 ∷ []
powers_of (suc zero) = pos 0 ∷ pos 1 ∷ []
powers_of (suc (suc k)) = sum (scale (pos 2) (pos 0 ∷ powers_of (suc k))) (map neg_ℤ (powers_of k))

-- those of n polynomials from T_k on, filled up with zeros
unfoldable pub rows_from : (k n : ℕ) → List Row
rows_from k zero = []
rows_from k (suc n) = sum (powers_of k) zeros ∷ rows_from (suc k) n

-- the sum of each coefficient times its row
unfoldable pub combine : Row → List Row → Row
combine [] rows = zeros
combine (c ∷ cs) [] = zeros
combine (c ∷ cs) (r ∷ rows) = sum (scale c r) (combine cs rows)
