-- Test 6 field by field: a limit for each field, by the code; a field that the code does not name is below 1.
use Rattle.std.specs.Prelude.{Bool, cond, ◌&&◌, ◌||◌, ℕ, eqb, leb, ltb, ℤ, nat_abs}
use Rattle.std.specs.Int.Signed.{non_neg}
use Rattle.calculus.specs.Tests.{constant_sound, variable_sound, threshold_sound}
use Rattle.calculus.specs.Book.{last_code}
use Rattle.format.specs.HeldBook.{HeldStep}

-- a: a model number (0), an earlier step (3 to 10), or 0
unfoldable pub limit_a : (models i code : ℕ) → ℕ
limit_a m i code = cond (eqb code 0) m (cond (leb 3 code) i 1)

-- b: an earlier step (4 to 7 and 9), or 0
unfoldable pub limit_b : (i code : ℕ) → ℕ
limit_b i code = cond ((leb 4 code && leb code 7) || eqb code 9) i 1

-- the codes that name a variable by v
unfoldable pub names_variable : (code : ℕ) → Bool
names_variable code = eqb code 2 || eqb code 7 || eqb code 10

-- v: a variable (2, 7 and 10), an earlier step (9), or 0
unfoldable pub v_sound : (n i code v : ℕ) → Bool
v_sound n i code v = cond (names_variable code) (variable_sound n v) (cond (eqb code 9) (ltb v i) (eqb v 0))

-- an integer that is the number of a step before step i
unfoldable pub earlier : (i : ℕ) → ℤ → Bool
earlier i z = non_neg z && ltb (nat_abs z) i

-- value: a constant (1), a threshold (8), an earlier step (9), or 0
unfoldable pub value_sound : (i code : ℕ) → ℤ → Bool
value_sound i code z =
    cond (eqb code 1) (constant_sound z)
    (cond (eqb code 8) (threshold_sound z) (cond (eqb code 9) (earlier i z) (eqb (nat_abs z) 0)))

-- all fields of step i
unfoldable pub fields_sound : (n models i : ℕ) → HeldStep → Bool
fields_sound n m i s =
    leb s.code last_code
    && ltb s.a (limit_a m i s.code)
    && ltb s.b (limit_b i s.code)
    && v_sound n i s.code s.v
    && value_sound i s.code s.value
