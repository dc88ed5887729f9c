-- The tests of an evaluation's coordinates, one at a time.
use Rattle.std.specs.Prelude.{◌≡◌, true, false, List, ◌∷◌, ℕ, ◌+◌, ◌≤◌, ◌<◌, leb, ℤ, pos, nat_abs, length, take, drop, get_or}
use Rattle.std.proofs.Common.{add-one, arith, drop_of_length-le, get_or-take}
use Rattle.std.proofs.Math.Seq.{drop-cons, length-take-le}
use Rattle.numbers.specs.Fixed.{U}
use Rattle.calculus.specs.Terms.{is_nonzero}
use Rattle.calculus.specs.Tests.{all_zero, all_in_unit}

-- ---- coordinates that must be 0, from place i on
module _ (xs : List ℤ) (i : ℕ) where
  pub zero_next : i < length xs → is_nonzero (get_or xs i (pos 0)) ≡ false
      → all_zero (drop i xs) ≡ all_zero (drop (i + 1) xs)
  unfolding all_zero
  zero_next h e = rw (add-one, drop-cons xs i (pos 0) h, e)

  pub zero_fails : i < length xs → is_nonzero (get_or xs i (pos 0)) ≡ true → all_zero (drop i xs) ≡ false
  unfolding all_zero
  zero_fails h e = rw (drop-cons xs i (pos 0) h, e)

  pub zero_end : length xs ≤ i → all_zero (drop i xs) ≡ true
  unfolding all_zero
  zero_end h = rw (drop_of_length-le xs {i = i} h)

-- ---- coordinates that must lie from -U to U, from place i to the n-th
module _ (xs : List ℤ) (n i : ℕ) (l : n ≤ length xs) where
  next : i < n → drop i (take n xs) ≡ get_or xs i (pos 0) ∷ drop (i + 1) (take n xs)
  next h =
      rw (add-one, drop-cons (take n xs) i (pos 0) (omega (arith, length-take-le n xs l)), get_or-take n xs i (pos 0) h)

  pub unit_next : i < n → leb (nat_abs (get_or xs i (pos 0))) U ≡ true
      → all_in_unit (drop i (take n xs)) ≡ all_in_unit (drop (i + 1) (take n xs))
  unfolding all_in_unit
  unit_next h e = rw (next h, e)

  pub unit_fails : i < n → leb (nat_abs (get_or xs i (pos 0))) U ≡ false → all_in_unit (drop i (take n xs)) ≡ false
  unfolding all_in_unit
  unit_fails h e = rw (next h, e)

  pub unit_end : n ≤ i → all_in_unit (drop i (take n xs)) ≡ true
  unfolding all_in_unit
  unit_end h = rw (drop_of_length-le (take n xs) {i = i} (omega (arith, length-take-le n xs l)))
