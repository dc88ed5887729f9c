-- The lengths of rows: sixteen stay sixteen.
use Rattle.std.specs.Prelude.{◌≡◌, refl, List, [], ◌∷◌, map, ℕ, zero, suc, ◌+◌, ◌≤◌, ◌<◌, ℤ, ◌*ℤ◌, length, replicate, get_or, drop}
use Rattle.std.proofs.Common.{sym, ◌∙◌, ap, arith}
use Rattle.chebyshev.specs.Recurrence.{apart}
use Rattle.chebyshev.specs.Coefficients.{Row, sum, scale, add_at, products_of, products_from}
use Rattle.chebyshev.specs.PowerRows.{places, zeros, combine}
use Rattle.chebyshev.specs.Tables.{chebyshev_table, power_table}

pub sum_length : (p q : Row) → length p ≡ length q → length (sum p q) ≡ length q
unfolding sum
sum_length [] q h = refl
sum_length (a ∷ p) [] h = h
sum_length (a ∷ p) (b ∷ q) h = ap suc (sum_length p q (omega arith))

pub scale_length : (c : ℤ) (p : Row) → length (scale c p) ≡ length p
unfolding scale
scale_length c [] = refl
scale_length c (a ∷ p) = ap suc (scale_length c p)

pub add_at_length : (k : ℕ) (z : ℤ) (p : Row) → k < length p → length (add_at k z p) ≡ length p
unfolding add_at
add_at_length zero z [] l = absurd (omega arith)
add_at_length zero z (a ∷ p) l = refl
add_at_length (suc k) z [] l = absurd (omega arith)
add_at_length (suc k) z (a ∷ p) l = ap suc (add_at_length k z p (omega arith))

-- no row becomes shorter by an addition,
add_at_longer : (k : ℕ) (z : ℤ) (p : Row) → length p ≤ length (add_at k z p)
unfolding add_at
add_at_longer zero z [] = omega arith
add_at_longer zero z (a ∷ p) = omega arith
add_at_longer (suc k) z [] = omega arith
add_at_longer (suc k) z (a ∷ p) = let h = add_at_longer k z p in omega arith

products_of_longer : (i : ℕ) (a : ℤ) (j : ℕ) (g z : Row) → length z ≤ length (products_of i a j g z)
unfolding products_of
products_of_longer i a j [] z = omega arith
products_of_longer i a j (b ∷ g) z =
    let h = products_of_longer i a (suc j) g z in
    let k = add_at_longer (apart i j) (a *ℤ b) (products_of i a (suc j) g z) in
    omega (arith, add_at_longer (i + j) (a *ℤ b) (add_at (apart i j) (a *ℤ b) (products_of i a (suc j) g z)))

-- nor by collected products
pub products_longer : (i : ℕ) (f g z : Row) → length z ≤ length (products_from i f g z)
unfolding products_from
products_longer i [] g z = omega arith
products_longer i (a ∷ f) g z =
    let h = products_longer (suc i) f g z in
    omega (arith, products_of_longer i a 0 g (products_from (suc i) f g z))

pub zeros_length : length zeros ≡ places
unfolding zeros places
zeros_length = refl

-- rows of sixteen make a row of sixteen
combine_length : (n : ℕ) (cs : Row) (rows : List Row) → map length rows ≡ replicate n places
    → length (combine cs rows) ≡ places
unfolding combine
combine_length n [] rows h = zeros_length
combine_length n (c ∷ cs) [] h = zeros_length
combine_length zero (c ∷ cs) (r ∷ rows) h =
    absurd (let q : suc (length (map length rows)) ≡ 0 = ap length h in omega arith)
combine_length (suc n) (c ∷ cs) (r ∷ rows) h =
    let rest = combine_length n cs rows (ap (drop 1) h) in
    sum_length (scale c r) (combine cs rows) (scale_length c r ∙ ap (λ l. get_or l 0 0) h ∙ sym rest) ∙ rest

-- both tables have sixteen rows of sixteen
pub chebyshev_table_lengths : map length chebyshev_table ≡ replicate places places
unfolding chebyshev_table places
chebyshev_table_lengths = refl

pub power_table_lengths : map length power_table ≡ replicate places places
unfolding power_table places
power_table_lengths = refl

pub into_powers_length : (cs : Row) → length (combine cs chebyshev_table) ≡ places
into_powers_length cs = combine_length places cs chebyshev_table chebyshev_table_lengths

pub from_powers_length : (cs : Row) → length (combine cs power_table) ≡ places
from_powers_length cs = combine_length places cs power_table power_table_lengths
