-- Tables whose rows fit: sixteen rows of sixteen, each with sizes that sum to at most 2^19.
use Rattle.std.specs.Prelude.{Bool, true, ◌&&◌, List, [], ◌∷◌, ◌^◌, eqb, leb, length}
use Rattle.chebyshev.specs.Coefficients.{Row, size}

-- rows of sixteen, each of small size
unfoldable pub each_small : List Row → Bool
each_small [] = true
each_small (r ∷ rows) = eqb (length r) 16 && leb (size r) (2 ^ 19) && each_small rows

-- sixteen of them
unfoldable pub rows_small : List Row → Bool
rows_small rows = eqb (length rows) 16 && each_small rows
