-- The row that flat slices hold, place by place, and what a call that fits has room for.
use Rattle.std.specs.Prelude.{◌≡◌, true, ◌&&◌, List, [], ◌∷◌, map, T, leb, ℤ, length, get_or, set}
use Rattle.std.proofs.Math.Path.{refl, ap}
use Rattle.std.proofs.Common.{sym, ◌∙◌, subst, leb→le}
use Prim.Native.Nat.{ℕ, zero, suc, ◌+◌, ◌*◌, ◌/◌, ◌%◌, ◌≤◌, ◌<◌}
use Rattle.std.proofs.Math.Nat.{mod-le}
use native.Mathlib.Omega.{arith}
use Rattle.calculus_laws.specs.TestLaws.{and_right}
use Rattle.readings.specs.Readings.{call_readings}
use Rattle.model_types.specs.declared.Reading.{Reading}
use Rattle.model_types.specs.declared.Model.{Model}
use Rattle.model_types.specs.declared.Finding.{Finding}
use Rattle.model_types.specs.ModelStruct.{view}
use Rattle.model_readings.specs.ReadingStruct.{view_reading, finding}
use Rattle.model_readings.specs.RowIterations.{no_reading, iteration_of, begun_of, iteration_count, pass}
use Rattle.model_readings.specs.RowIterationLaws.{pass_call}
use Rattle.model_slices.specs.HandedModels.{borrowed, over}
use Rattle.c_readings.specs.HandedReadings.{numbers_end, reading_of, readings_from, row_of, readings_fit}

module _ (ps ls hs : List ℤ) where
  from_length : (i n : ℕ) → length (readings_from ps ls hs i n) ≡ n
  unfolding readings_from
  from_length i zero = refl
  from_length i (suc n) = ap suc (from_length (suc i) n)

  from_at : (i n j : ℕ) → j < n → get_or (readings_from ps ls hs i n) j no_reading ≡ reading_of ps ls hs (i + j)
  unfolding readings_from
  from_at i zero j h = absurd (omega arith)
  from_at i (suc n) zero h = let z : i ≡ i + 0 = omega arith in ap (reading_of ps ls hs) z
  from_at i (suc n) (suc j) h =
      let z : suc i + j ≡ i + suc j = omega arith in
      from_at (suc i) n j (omega arith) ∙ ap (reading_of ps ls hs) z

  pub row_length : length (row_of ps ls hs) ≡ length ls
  unfolding row_of
  row_length = from_length 0 (length ls)

  pub row_at : (j : ℕ) → j < length ls → get_or (row_of ps ls hs) j no_reading ≡ reading_of ps ls hs j
  unfolding row_of
  row_at j h = let z : 0 + j ≡ j = omega arith in from_at 0 (length ls) j h ∙ ap (reading_of ps ls hs) z

pub fits_numbers : (c k z p l h n : ℕ) → readings_fit c k z p l h n ≡ true → 3 ≤ n
unfolding readings_fit
fits_numbers c k z p l h n e =
    leb→le 3 n (and_right (borrowed c k z && leb l (p / 8) && leb l h) (leb 3 n) (subst T (sym e) tt))

-- three stores
pub over_three : {A : Type 0} (l : List A) (a b c : A) → 3 ≤ length l
    → set (set (set l 0 a) 1 b) 2 c ≡ over (a ∷ b ∷ c ∷ []) l
unfolding over
over_three [] a b c h = absurd (omega arith)
over_three (x ∷ []) a b c h = absurd (omega arith)
over_three (x ∷ y ∷ []) a b c h = absurd (omega arith)
over_three (x ∷ y ∷ z ∷ l) a b c h = refl

-- an iteration is at a reading below 1,024
pub below_all : (n k : ℕ) → k < n % 257 * 4 → k % n < numbers_end
below_all n k h = let m : k % n ≤ k = mod-le k n in omega arith

-- an iteration with the reading that the slices hold is that of the row
pub iteration_at : (m : Model) (s : Finding) (k : ℕ) (ps ls hs : List ℤ) {s' : Finding} {r : Reading}
    → s' ≡ iteration_of m s k (length ls) r → r ≡ reading_of ps ls hs (k % length ls) → k % length ls < length ls
    → s' ≡ iteration_of m s k (length (row_of ps ls hs))
    (get_or (row_of ps ls hs) (k % length (row_of ps ls hs)) no_reading)
iteration_at m s k ps ls hs e f h =
    e ∙ ap (iteration_of m s k (length ls)) (f ∙ sym (row_at ps ls hs (k % length ls) h))
    ∙ ap (λ n. iteration_of m s k n (get_or (row_of ps ls hs) (k % n) no_reading)) (sym (row_length ps ls hs))

-- all iterations are the call
pub row_call : (m : Model) (ps ls hs : List ℤ)
    → pass m (row_of ps ls hs) (length ls % 257 * 4) 0 (begun_of m (length ls))
    ≡ finding (call_readings (view m) (map view_reading (row_of ps ls hs)))
unfolding iteration_count
row_call m ps ls hs =
    ap (λ n. pass m (row_of ps ls hs) (n % 257 * 4) 0 (begun_of m n)) (sym (row_length ps ls hs))
    ∙ pass_call m (row_of ps ls hs)
