-- The tables are what they say: each by one computed fact.
use Rattle.std.specs.Prelude.{◌≡◌, refl, ℤ, pos, replicate, drop}
use Rattle.std.proofs.Common.{sym, ◌∙◌, subst, arith}
use Rattle.std.proofs.Math.Path.{ap, ap₂}
use mathlib.Core.List.{List, [], ◌∷◌, map}
use Prim.Native.Nat.{ℕ, zero, suc}
use Rattle.std.proofs.Math.ListN.{length, get_or}
use Rattle.algebra.specs.Ring.{Ring, nat, pow}
use Rattle.algebra.specs.RingLaws.{one-*}
use Rattle.chebyshev.specs.RingIntegersLaws.{int_pos}
use Rattle.chebyshev.specs.Recurrence.{chebyshev}
use Rattle.chebyshev.specs.Coefficients.{Row, sum, scale, add_at, value}
use Rattle.chebyshev.specs.PowerRows.{places, zeros, powers_of, rows_from, combine}
use Rattle.chebyshev.specs.Tables.{chebyshev_table, power_scale, power_table}
use Rattle.chebyshev.proofs.CoefficientsLaws.{value_added}
use Rattle.chebyshev.proofs.RowLengthLaws.{power_table_lengths}
use Rattle.chebyshev.proofs.PowerRowsLaws.{Worth, none, more, zeros_value, combine_value, rows_worth}

-- the rows of the first table are those of the recurrence
pub chebyshev_table_rows : chebyshev_table ≡ rows_from 0 places
unfolding chebyshev_table rows_from places zeros powers_of sum scale
chebyshev_table_rows = refl

-- s at degree k of its row, n rows from degree k on
unfoldable pub scaled_powers : (s : ℤ) (k n : ℕ) → List Row
scaled_powers s k zero = []
scaled_powers s k (suc n) = add_at k s zeros ∷ scaled_powers s (suc k) n

-- the two tables undo each other: row k of the second, turned into powers by the first, is 2^14 x^k
pub tables_undo : map (λ r. combine r chebyshev_table) power_table ≡ scaled_powers (pos power_scale) 0 places
unfolding chebyshev_table power_table scaled_powers combine places zeros power_scale sum scale add_at
tables_undo = refl

-- both have sixteen rows
pub chebyshev_table_length : length chebyshev_table ≡ places
unfolding chebyshev_table places
chebyshev_table_length = refl

pub power_table_length : length power_table ≡ places
unfolding power_table places
power_table_length = refl

module _ (R : Ring) (x : R.Carrier) where
  open R use {Carrier, 1#, ◌+◌, ◌*◌, +-zero}

  infixl 60 ◌+◌
  infixl 70 ◌*◌
  -- row k of the first is T_k
  pub chebyshev_table_worth : Worth R (pow R x) (chebyshev R x) 1# 0 chebyshev_table
  chebyshev_table_worth =
      subst (Worth R (pow R x) (chebyshev R x) 1# 0) (sym chebyshev_table_rows) (rows_worth R x 0 places)

  -- sixteen coefficients of Chebyshev polynomials, turned into powers
  pub into_powers : (cs : Row) → length cs ≡ places
      → value R (pow R x) 0 (combine cs chebyshev_table) ≡ value R (chebyshev R x) 0 cs
  into_powers cs h = combine_value R (pow R x) (chebyshev R x) 1# 0 cs chebyshev_table chebyshev_table_worth
      (omega (arith, chebyshev_table_length)) ∙ one-* R _

  -- rows that the first table turns into multiples of powers
  rows_undone : (k n : ℕ) (l : List Row)
      → map (λ r. combine r chebyshev_table) l ≡ scaled_powers (pos power_scale) k n → map length l ≡ replicate n places
      → Worth R (chebyshev R x) (pow R x) (nat R power_scale) k l
  unfolding scaled_powers
  rows_undone k n [] e h = none
  rows_undone k zero (r ∷ l) e h = absurd (let q : suc (length (map length l)) ≡ 0 = ap length h in omega arith)
  rows_undone k (suc n) (r ∷ l) e h = more
      (sym (into_powers r (ap (λ l. get_or l 0 0) h))
      ∙ ap (λ l. value R (pow R x) 0 (get_or l 0 [])) e
      ∙ value_added R (pow R x) k (pos power_scale) zeros
      ∙ ap₂ (λ c v. c * pow R x k + v) (int_pos R power_scale) (zeros_value R (pow R x))
      ∙ +-zero _)
      (rows_undone (suc k) n l (ap (drop 1) e) (ap (drop 1) h))

  -- row k of the second is 2^14 x^k
  pub power_table_worth : Worth R (chebyshev R x) (pow R x) (nat R power_scale) 0 power_table
  power_table_worth = rows_undone 0 places power_table tables_undo power_table_lengths

  -- sixteen coefficients of powers, turned into Chebyshev polynomials
  pub from_powers_scaled : (cs : Row) → length cs ≡ places
      → value R (chebyshev R x) 0 (combine cs power_table) ≡ nat R power_scale * value R (pow R x) 0 cs
  from_powers_scaled cs h = combine_value R (chebyshev R x) (pow R x) (nat R power_scale) 0 cs power_table
      power_table_worth (omega (arith, power_table_length))
