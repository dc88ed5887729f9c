-- A book's models, the results of its steps and their rows, in flat slices: what stands at a place, and what the slices
-- hold once a model is put there.
use Rattle.std.specs.Prelude.{List, [], ◌∷◌, ◌++◌, ℕ, zero, suc, ◌+◌, ◌*◌, ◌≤◌, ℤ, length, take, drop, get_or, set}
use Rattle.calculus.specs.Model.{most_terms}
use Rattle.model_types.specs.declared.Model.{Model}
use Rattle.model_types.specs.declared.Shares.{Shares}
use Rattle.model_types.specs.declared.Accounted.{Accounted}
use Rattle.model_types.specs.ModelStruct.{Verdict}
use Rattle.std.specs.Prelude.{Ok, Err}
use Rattle.model_types.specs.ModelStruct.{refused_at}
use Rattle.model_slices.specs.HandedModels.{handed, over}

-- ---- models and results
-- keys and coefficients, as many of each for a place as a model has at the most, and a count and a radius for each
pub record Results : Type 0 where
  pub keys : List ℕ
  pub coefficients : List ℤ
  pub counts : List ℕ
  pub radii : List ℕ

-- four slices
abbrev pub results : List ℕ → List ℤ → (counts radii : List ℕ) → Results
results ks zs cs rs = record { keys = ks; coefficients = zs; counts = cs; radii = rs }

-- so many places, and no count above a model's most terms
pub record Roomy (places : ℕ) (m : Results) : Type 0 where
  pub keys_long : most_terms * places ≤ length m.keys
  pub coefficients_long : most_terms * places ≤ length m.coefficients
  pub counts_long : places ≤ length m.counts
  pub radii_long : places ≤ length m.radii
  pub few : (j : ℕ) → get_or m.counts j 0 ≤ most_terms

-- the struct at place j, in n variables
unfoldable pub held_result : (n : ℕ) → Results → (j : ℕ) → Model
held_result n m j =
    handed n (get_or m.counts j 0) (get_or m.radii j 0) (drop (most_terms * j) m.keys)
    (drop (most_terms * j) m.coefficients)

-- a list with others in the place of its own from a place on
unfoldable pub spliced : {A : Type 0} → (at : ℕ) → (new old : List A) → List A
spliced at new old = take at old ++ over new (drop at old)

-- with a struct put at place i: only the terms that its count names
unfoldable pub with_result : Model → (i : ℕ) → Results → Results
with_result k i m = record {
  keys = spliced (most_terms * i) (take k.count k.keys) m.keys;
  coefficients = spliced (most_terms * i) (take k.count k.coefficients) m.coefficients;
  counts = set m.counts i k.count;
  radii = set m.radii i k.radius;
}

-- ---- rows
-- the numbers of the rows of all steps, four for each
abbrev pub most_row_numbers : ℕ
most_row_numbers = 256

-- the row at place j: four numbers of a flat slice
unfoldable pub row_at : List ℕ → (j : ℕ) → Shares
row_at l j = record {
  carried = get_or l (4 * j) 0;
  rounding = get_or l (4 * j + 1) 0;
  swept = get_or l (4 * j + 2) 0;
  slack = get_or l (4 * j + 3) 0;
}

-- with a row put at place i
unfoldable pub with_row : Shares → (i : ℕ) → List ℕ → List ℕ
with_row s i l =
    set (set (set (set l (4 * i) s.carried) (4 * i + 1) s.rounding) (4 * i + 2) s.swept) (4 * i + 3)
    s.slack

-- the first n rows
unfoldable pub first_rows : List ℕ → (n : ℕ) → List Shares
first_rows l zero = []
first_rows l (suc n) = first_rows l n ++ (row_at l n ∷ [])

-- ---- an answer put down unless it is refused
-- one of two by a verdict
unfoldable pub unless : {A : Type 0} → Verdict → (put kept : A) → A
unless (Ok u) put kept = put
unless (Err r) put kept = kept

-- its model
unfoldable pub settled_results : Accounted → (i : ℕ) → Results → Results
settled_results c i m = unless c.answer.verdict (with_result c.answer.model i m) m

-- and its shares
unfoldable pub settled_rows : Accounted → (i : ℕ) → List ℕ → List ℕ
settled_rows c i l = unless c.answer.verdict (with_row c.shares i l) l
