-- Walking forward through a sheet: the models and the steps, up to the first fault.
use Rattle.std.specs.Prelude.{Bool, true, false, ◌&&◌, cond, ◌≡◌, List, [], ◌∷◌, ◌++◌, map, ℕ, zero, suc, ◌-◌, leb, ℤ, length, drop, Option, Some, None}
use Rattle.calculus.specs.Model.{sound}
use Rattle.model_slices.specs.HandedModels.{over}
use Rattle.format.specs.HeldBook.{HeldTerm, HeldModel, view_model}
use Rattle.format.specs.Format.{read_model, model_length, read_steps}
use Rattle.format.specs.Fields.{fields_sound}
use Rattle.sheet_book.specs.Failing.{first_failing}
use Rattle.sheet_walk.specs.declared.ModelsWalked.{ModelsWalked}

-- ---- one model
-- the keys of terms
abbrev pub held_keys : List HeldTerm → List ℕ
held_keys = map (λ t. t.key)

-- and their coefficients
abbrev pub held_coefficients : List HeldTerm → List ℤ
held_coefficients = map (λ t. t.coefficient)

-- the record at the head fits, and its model keeps the rules
unfoldable pub record_sound : (n d : ℕ) → List ℕ → Bool
record_sound n d s = leb (model_length n s) (length s) && sound d (view_model (read_model n s))

-- the bytes that it takes, or none where it does not pass
unfoldable pub record_taken : (n d : ℕ) → List ℕ → Option ℕ
record_taken n d s = cond (record_sound n d s) (Some (model_length n s)) None

-- what is read of it: the bytes that it takes, and if it passes its terms in two slices, over what these held
pub record RecordRead (n d : ℕ) (s : List ℕ) (ks ks₂ : List ℕ) (cs cs₂ : List ℤ) (taken : Option ℕ) : Type 0 where
  pub taken_is : taken ≡ record_taken n d s
  pub keys_are : record_sound n d s ≡ true → ks₂ ≡ over (held_keys (read_model n s).terms) ks
  pub coefficients_are : record_sound n d s ≡ true → cs₂ ≡ over (held_coefficients (read_model n s).terms) cs

-- ---- models
-- those read, and the bytes that are left
pub record Walk : Type 0 where
  pub passed : List HeldModel
  pub left : List ℕ

-- c more models after those read before, up to the first fault
unfoldable pub walk : (n d : ℕ) (before : List HeldModel) (c : ℕ) → List ℕ → Walk
walk n d before zero s = record { passed = before; left = s }
walk n d before (suc c) s = elim (record_sound n d s) [
  | true ↦ walk n d (before ++ (read_model n s ∷ [])) c (drop (model_length n s) s)
  | false ↦ record { passed = before; left = s }
]

-- how far a walk over s goes
unfoldable pub models_walked : (n d c : ℕ) → List ℕ → ModelsWalked
models_walked n d c s =
    let w : Walk = walk n d [] c s in
    record { place = length w.passed; end = length s - length w.left }

-- ---- steps
-- the number of the first of c steps that is faulty, or that of all
unfoldable pub steps_walked : (n models c : ℕ) → List ℕ → ℕ
steps_walked n m c s = first_failing 0 (fields_sound n m) (read_steps c s)
