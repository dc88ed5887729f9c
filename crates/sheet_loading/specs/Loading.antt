-- What is loaded of a sheet: its models in flat slices, and its steps.
use Rattle.std.specs.Prelude.{◌≡◌, cond, List, [], map, ℕ, ◌<◌, leb, length, get_or}
use Rattle.calculus.specs.Model.{zero_model}
use Rattle.calculus.specs.Refusal.{Result, done}
use Rattle.model_types.specs.ModelStruct.{Verdict}
use Rattle.std.specs.Prelude.{Ok, Err}
use Rattle.model_types.specs.ModelStruct.{refused_at}
use Rattle.model_types.specs.declared.Refusal.TheVariants.{BadModel, BadStep}
use Rattle.model_types.specs.ModelStruct.{view, verdict}
use Rattle.format.specs.HeldBook.{HeldModel, HeldBook, view_model}
use Rattle.sheet_read_walk.specs.sheet_walk.declared.ModelsWalked.{ModelsWalked}
use Rattle.sheet_read_walk.specs.sheet_walk.Walk.{walk, models_walked}
use Rattle.sheet_results.specs.Results.{Results, Roomy, held_result}
use Rattle.sheet_run_laws.specs.Run as R
use Rattle.sheet_run_laws.specs.Run.{SameSteps}
use Rattle.sheet_loading.specs.declared.Loaded.{Loaded}

-- ---- models
-- models of n variables stand at the first places
pub record Standing (n : ℕ) (l : List HeldModel) (m : Results) : Type 0 where
  pub each : (a : ℕ) → a < length l → view (held_result n m a) ≡ get_or (map view_model l) a (zero_model n)

-- places that hold others keep their room
abbrev pub KeepsRoom : (before after : Results) → Type 0
KeepsRoom m₀ m = (places : ℕ) → Roomy places m₀ → Roomy places m

-- c models loaded: how far the walk over them goes; and if it passes them all, they stand at their places
pub record ModelsLoaded (n d c : ℕ) (s : List ℕ) (w : ModelsWalked) (m₀ m : Results) : Type 0 where
  pub walked : w ≡ models_walked n d c s
  pub standing : length (walk n d [] c s).passed ≡ c → Standing n (walk n d [] c s).passed m
  pub room : length (walk n d [] c s).passed ≡ c → KeepsRoom m₀ m

-- ---- tests 5 and 6
-- the verdict by how far the walks went: a faulty model, bytes left before the first step, a faulty step
unfoldable pub fault_of : (place count end offset fault total : ℕ) → Verdict
fault_of place count end offset fault total =
    cond (leb count place)
    (cond (leb offset end) (cond (leb total fault) (Ok tt) (Err (refused_at BadStep fault)))
    (Err (refused_at BadModel count)))
    (Err (refused_at BadModel place))

-- the records of a sheet loaded, by how many steps it has and what reading it answers: its verdict; and of a book that
-- is read the steps, and its models at their places
pub record RecordsLoaded (total : ℕ) (a : Result HeldBook) (r : Loaded) (m₀ m : Results) : Type 0 where
  pub verdict_is : r.verdict ≡ verdict a
  pub count : r.list.count ≡ total
  pub same : (h : HeldBook) → a ≡ done h → SameSteps h r.list
  pub models_are : (h : HeldBook) → a ≡ done h → R.Loaded h m
  pub room : (h : HeldBook) → a ≡ done h → KeepsRoom m₀ m
