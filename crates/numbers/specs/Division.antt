-- Integers divided by a natural number from 1, rounded down, up and to the nearest; naturals rounded up.
use Rattle.std.specs.Prelude.{Bool, true, false, ℕ, ◌+◌, ◌-◌, ◌*◌, ◌/◌, ◌%◌, eqb, ltb, ℤ, pos, negsuc, neg_ℤ, nat_abs, ◌+ℤ◌, ◌-ℤ◌, ◌*ℤ◌}

-- rounded down; negsuc a is -(a + 1)
unfoldable pub floor : ℤ → ℕ → ℤ
floor (pos a) d = pos (a / d)
floor (negsuc a) d = negsuc (a / d)

-- rounded up
unfoldable pub ceiling : ℤ → ℕ → ℤ
ceiling z d = neg_ℤ (floor (neg_ℤ z) d)

-- what z is above its floor: 0 to d − 1
unfoldable pub remainder : ℤ → ℕ → ℕ
remainder z d = nat_abs (z -ℤ floor z d *ℤ pos d)

-- a natural divided, rounded up
unfoldable pub divided_up : ℕ → ℕ → ℕ
divided_up a d = (a + (d - 1)) / d

-- an even number
unfoldable pub is_even : ℤ → Bool
is_even c = eqb (nat_abs c % 2) 0

-- of c and the number after it the even one
unfoldable pub even_of_two : ℤ → ℤ
even_of_two c = elim (is_even c) [ true ↦ c | false ↦ c +ℤ pos 1 ]

-- rounded to the nearest: down from below half of d, up from above it, and halfway to the even one of the two
unfoldable pub nearest : ℤ → ℕ → ℤ
nearest z d = elim (ltb (2 * remainder z d) d) [
  | true ↦ floor z d
  | false ↦ elim (ltb d (2 * remainder z d)) [ true ↦ floor z d +ℤ pos 1 | false ↦ even_of_two (floor z d) ]
]
