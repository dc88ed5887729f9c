-- Laws of rows in a flat slice.
use Rattle.std.specs.Prelude.{◌≡◌, refl, List, [], ◌∷◌, ◌++◌, ℕ, zero, suc, ◌+◌, ◌*◌, ◌-◌, ◌<◌, length, get_or, set, replicate}
use Rattle.std.proofs.Common.{◌∙◌, ap, append-nil, add-one, length-append}
use Rattle.std.proofs.Math.Decide.{ℕ_discrete}
use native.Mathlib.Omega.{arith}
use Rattle.std.proofs.Math.ListN.{length-set, get_or-append}
use Rattle.std.proofs.Math.Seq.{get_or-set_same, get_or-set_other}
use Rattle.std.proofs.lemmas.List.{get_or_at}
use Rattle.model_types.specs.declared.Shares.{Shares}
use Rattle.model_types.specs.Arrays.{padded}
use Rattle.model_types.specs.ArrayLaws.{padded_more}
use Rattle.sheet_results.specs.Results.{row_at, with_row, first_rows}

pub length_row : (s : Shares) (i : ℕ) (l : List ℕ) → length (with_row s i l) ≡ length l
unfolding with_row
length_row s i l = simp length-set

-- one of the four
module _ (s : Shares) (i : ℕ) (l : List ℕ) where
  -- after one store, two and three
  abbrev once : List ℕ
  once = set l (4 * i) s.carried

  abbrev twice : List ℕ
  twice = set once (4 * i + 1) s.rounding

  abbrev thrice : List ℕ
  thrice = set twice (4 * i + 2) s.swept

  -- another place
  number_other : (j : ℕ) → (j ≡ 4 * i → ⊥) → (j ≡ 4 * i + 1 → ⊥) → (j ≡ 4 * i + 2 → ⊥) → (j ≡ 4 * i + 3 → ⊥)
      → get_or (with_row s i l) j 0 ≡ get_or l j 0
  unfolding with_row
  number_other j a b c d =
      get_or-set_other thrice (4 * i + 3) j s.slack 0 d
      ∙ get_or-set_other twice (4 * i + 2) j s.swept 0 c
      ∙ get_or-set_other once (4 * i + 1) j s.rounding 0 b
      ∙ get_or-set_other l (4 * i) j s.carried 0 a

  -- another row stays
  pub row_other : (j : ℕ) → (j ≡ i → ⊥) → row_at (with_row s i l) j ≡ row_at l j
  unfolding row_at
  row_other j o = λ t. record {
    carried = number_other (4 * j) (λ e. o (omega (arith, e))) (λ e. omega (arith, e)) (λ e. omega (arith, e))
        (λ e. omega (arith, e)) t;
    rounding = number_other (4 * j + 1) (λ e. omega (arith, e)) (λ e. o (omega (arith, e))) (λ e. omega (arith, e))
        (λ e. omega (arith, e)) t;
    swept = number_other (4 * j + 2) (λ e. omega (arith, e)) (λ e. omega (arith, e)) (λ e. o (omega (arith, e)))
        (λ e. omega (arith, e)) t;
    slack = number_other (4 * j + 3) (λ e. omega (arith, e)) (λ e. omega (arith, e)) (λ e. omega (arith, e))
        (λ e. o (omega (arith, e))) t;
  }

  -- the row that is put stands there
  module _ (h : 4 * i + 3 < length l) where
    here_0 : get_or (with_row s i l) (4 * i) 0 ≡ s.carried
    unfolding with_row
    here_0 = get_or-set_other thrice (4 * i + 3) (4 * i) s.slack 0 (λ e. omega (arith, e))
        ∙ get_or-set_other twice (4 * i + 2) (4 * i) s.swept 0 (λ e. omega (arith, e))
        ∙ get_or-set_other once (4 * i + 1) (4 * i) s.rounding 0 (λ e. omega (arith, e))
        ∙ get_or-set_same l (4 * i) s.carried 0 (omega arith)

    here_1 : get_or (with_row s i l) (4 * i + 1) 0 ≡ s.rounding
    unfolding with_row
    here_1 = get_or-set_other thrice (4 * i + 3) (4 * i + 1) s.slack 0 (λ e. omega (arith, e))
        ∙ get_or-set_other twice (4 * i + 2) (4 * i + 1) s.swept 0 (λ e. omega (arith, e))
        ∙ get_or-set_same once (4 * i + 1) s.rounding 0
        (omega (arith, length-set l (4 * i) s.carried))

    here_2 : get_or (with_row s i l) (4 * i + 2) 0 ≡ s.swept
    unfolding with_row
    here_2 = get_or-set_other thrice (4 * i + 3) (4 * i + 2) s.slack 0 (λ e. omega (arith, e))
        ∙ get_or-set_same twice (4 * i + 2) s.swept 0
        (omega (arith, length-set once (4 * i + 1) s.rounding, length-set l (4 * i) s.carried))

    here_3 : get_or (with_row s i l) (4 * i + 3) 0 ≡ s.slack
    unfolding with_row
    here_3 = get_or-set_same thrice (4 * i + 3) s.slack 0
        (omega (
          arith,
          h,
          length-set twice (4 * i + 2) s.swept,
          length-set once (4 * i + 1) s.rounding,
          length-set l (4 * i) s.carried,
        ))

    pub row_here : row_at (with_row s i l) i ≡ s
    unfolding row_at
    row_here = λ t. record { carried = here_0 t; rounding = here_1 t; swept = here_2 t; slack = here_3 t }

-- ---- all rows
pub length_rows : (l : List ℕ) (n : ℕ) → length (first_rows l n) ≡ n
unfolding first_rows
length_rows l zero = refl
length_rows l (suc n) = length-append (first_rows l n) (row_at l n ∷ []) ∙ omega (arith, length_rows l n)

-- an iteration of the loop that builds them
pub rows_more : (zeros : Shares) (l : List ℕ) (i : ℕ) → i < 64
    → set (padded zeros 64 (first_rows l i)) i (row_at l i) ≡ padded zeros 64 (first_rows l (i + 1))
unfolding first_rows
rows_more zeros l i h = padded_more zeros 64 (first_rows l i) i (row_at l i) (length_rows l i) h ∙ rw (add-one i)

-- place by place
pub rows_at : (l : List ℕ) (n j : ℕ) (x : Shares) → j < n → get_or (first_rows l n) j x ≡ row_at l j
unfolding first_rows
rows_at l zero j x h = absurd (omega arith)
rows_at l (suc n) j x h = elim (ℕ_discrete n j) [
  | yes e ↦ get_or_at (first_rows l n) (row_at l n) [] x j (length_rows l n ∙ e) ∙ ap (row_at l) e
  | no o ↦
      get_or-append (first_rows l n) (row_at l n ∷ []) x j (omega (arith, length_rows l n))
      ∙ rows_at l n j x (omega arith)
]

-- the end of it: no zeros are left
pub rows_end : (zeros : Shares) (l : List ℕ) → padded zeros 64 (first_rows l 64) ≡ first_rows l 64
unfolding padded
rows_end zeros l =
    let z : 64 - length (first_rows l 64) ≡ 0 = omega (arith, length_rows l 64) in
    ap (λ n. first_rows l 64 ++ replicate n zeros) z ∙ append-nil (first_rows l 64)
