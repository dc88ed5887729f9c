-- What a term counts in a range, by its key.
use Rattle.std.specs.Prelude.{not, ◌&&◌, ℕ, eqb, ℤ, pos, nat_abs}
use Rattle.std.specs.Int.Signed.{le_z}
use Rattle.calculus_laws.specs.SumLaws.{ℕ_addition, if_ℤ, if_so}
use Rattle.model_keys.specs.Keys.{key_even}

-- in the constant part: c at key 0
unfoldable pub key_steady : ℕ → ℤ → ℤ
key_steady z c = if_ℤ (eqb z 0) c

-- below it, where all exponents are even: |c|, but nothing where c is not below 0
unfoldable pub even_fall : ℤ → ℕ
even_fall c = if_so ℕ_addition (not (le_z (pos 0) c)) (nat_abs c)

-- above it: |c|, but nothing where c is not above 0
unfoldable pub even_rise : ℤ → ℕ
even_rise c = if_so ℕ_addition (not (le_z c (pos 0))) (nat_abs c)

-- below it, of any key but 0: |c|, but nothing where all exponents are even and c is not below 0
unfoldable pub key_fall : ℕ → ℤ → ℕ
key_fall z c = if_so ℕ_addition (not (eqb z 0) && not (key_even z && le_z (pos 0) c)) (nat_abs c)

-- above it: |c|, but nothing where all exponents are even and c is not above 0
unfoldable pub key_rise : ℕ → ℤ → ℕ
key_rise z c = if_so ℕ_addition (not (eqb z 0) && not (key_even z && le_z c (pos 0))) (nat_abs c)
