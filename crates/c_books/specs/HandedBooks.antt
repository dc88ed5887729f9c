-- Books as numbers and slices: the models and steps that are handed over.
use Rattle.std.specs.Prelude.{List, [], ◌∷◌, ◌++◌, ℕ, zero, suc, ◌+◌, ◌*◌, ◌/◌, min, ℤ, pos, length, take, drop, get_or}
use Rattle.calculus.specs.Model.{most_terms}
use Rattle.calculus.specs.Book.{most_models, most_steps}
use Rattle.model_types.specs.declared.Model.{Model}
use Rattle.model_types.specs.Arrays.{padded}
use Rattle.sheet_book.specs.declared.Step.{Step}
use Rattle.sheet_book.specs.declared.Book.{Book}
use Rattle.sheet_book.specs.BookStruct.{no_model, no_step}
use Rattle.model_slices.specs.HandedModels.{handed}

-- the values of a function at 0 up to n - 1
unfoldable pub table : {A : Type 0} → (ℕ → A) → (n : ℕ) → List A
table f zero = []
table f (suc n) = table f n ++ (f n ∷ [])

-- ---- steps
-- the bytes of a step beside its value: code, a, b, v
abbrev pub step_fields : ℕ
step_fields = 4

-- the step at place i: these bytes and a value
unfoldable pub step_at : List ℕ → List ℤ → (i : ℕ) → Step
step_at fs vs i = record {
  code = get_or fs (step_fields * i) 0;
  a = get_or fs (step_fields * i + 1) 0;
  b = get_or fs (step_fields * i + 2) 0;
  v = get_or fs (step_fields * i + 3) 0;
  value = get_or vs i (pos 0);
}

-- how many steps slices of these lengths hold, 64 at most
unfoldable pub step_places : (fields values : ℕ) → ℕ
step_places fields values = min most_steps (min (fields / step_fields) values)

-- these, and zeros after them
unfoldable pub handed_steps : List ℕ → List ℤ → List Step
handed_steps fs vs = padded no_step most_steps (table (step_at fs vs) (step_places (length fs) (length vs)))

-- ---- models
-- those of model k in a slice of keys or coefficients: 64 for each model
unfoldable pub entries_of : {A : Type 0} → (k : ℕ) → List A → List A
entries_of k l = take most_terms (drop (most_terms * k) l)

-- the model at place k: an entry of each of three slices, and its 64 of the others
unfoldable pub model_at : (ns counts radii keys : List ℕ) → List ℤ → (k : ℕ) → Model
model_at ns cs rs ks zs k =
    handed (get_or ns k 0) (get_or cs k 0) (get_or rs k 0) (entries_of k ks) (entries_of k zs)

-- how many models slices of these lengths hold, 16 at most
unfoldable pub model_places : (ns counts radii keys coefficients : ℕ) → ℕ
model_places ns counts radii keys coefficients =
    min most_models (min (min ns (min counts radii)) (min (keys / most_terms) (coefficients / most_terms)))

-- these, and zeros after them
unfoldable pub handed_models : (ns counts radii keys : List ℕ) → List ℤ → List Model
handed_models ns cs rs ks zs = padded no_model most_models (table (model_at ns cs rs ks zs)
    (model_places (length ns) (length cs) (length rs) (length ks) (length zs)))

-- ---- books
-- the struct that is handed over
unfoldable pub handed_book : (n d model_count count_of_steps : ℕ) → List Model → List Step → Book
handed_book n d mc sc ms ss =
    record { n = n; d = d; model_count = mc; step_count = sc; models = ms; steps = ss }
