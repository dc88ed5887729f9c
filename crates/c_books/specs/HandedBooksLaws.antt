-- One more step or model that is handed over, and as many as every slice has.
use Rattle.std.specs.Prelude.{◌≡◌, refl, [], ◌∷◌, ℕ, zero, suc, ◌+◌, ◌*◌, ◌≤◌, ◌<◌, length, set}
use Rattle.std.proofs.Common.{◌∙◌, add-one, arith, length-append}
use Rattle.calculus.specs.Model.{most_terms}
use Rattle.calculus.specs.Book.{most_models, most_steps}
use Rattle.model_types.specs.Arrays.{padded}
use Rattle.model_types.specs.ArrayLaws.{padded_more}
use Rattle.c_books.specs.HandedBooks.{table, step_places, model_places}

length_table : {A : Type 0} (f : ℕ → A) (n : ℕ) → length (table f n) ≡ n
unfolding table
length_table f zero = refl
length_table f (suc n) = length-append (table f n) (f n ∷ []) ∙ omega (arith, length_table f n)

-- an iteration of a loop that fills an array
pub table_more : {A : Type 0} (zeros : A) (size : ℕ) (f : ℕ → A) (i : ℕ) → i < size
    → set (padded zeros size (table f i)) i (f i) ≡ padded zeros size (table f (i + 1))
unfolding table
table_more zeros size f i h = padded_more zeros size (table f i) i (f i) (length_table f i) h ∙ rw (add-one i)

-- ---- as many places as every slice has
pub record StepsBorrowed (places fields values : ℕ) : Type 0 where
  pub few : places ≤ 64
  pub fields_long : 4 * places ≤ fields
  pub values_long : places ≤ values

pub steps_borrowed : (places fields values : ℕ) → places ≡ step_places fields values
    → StepsBorrowed places fields values
unfolding step_places most_steps
steps_borrowed p f v e = record { few = omega arith; fields_long = omega arith; values_long = omega arith }

pub record ModelsBorrowed (places ns counts radii keys coefficients : ℕ) : Type 0 where
  pub few : places ≤ 16
  pub ns_long : places ≤ ns
  pub counts_long : places ≤ counts
  pub radii_long : places ≤ radii
  pub keys_long : 64 * places ≤ keys
  pub coefficients_long : 64 * places ≤ coefficients

pub models_borrowed : (places ns counts radii keys coefficients : ℕ)
    → places ≡ model_places ns counts radii keys coefficients
    → ModelsBorrowed places ns counts radii keys coefficients
unfolding model_places most_terms most_models
models_borrowed p ns cs rs ks zs e = record {
  few = omega arith;
  ns_long = omega arith;
  counts_long = omega arith;
  radii_long = omega arith;
  keys_long = omega arith;
  coefficients_long = omega arith;
}

pub models_borrowed_at : (k ns counts radii keys coefficients : ℕ) → k < model_places ns counts radii keys coefficients
    → ModelsBorrowed (suc k) ns counts radii keys coefficients
unfolding model_places most_terms most_models
models_borrowed_at k ns cs rs ks zs e = record {
  few = omega arith;
  ns_long = omega arith;
  counts_long = omega arith;
  radii_long = omega arith;
  keys_long = omega arith;
  coefficients_long = omega arith;
}
