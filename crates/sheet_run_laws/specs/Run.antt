-- What is known in the middle of a run, what a step asks and what it leads to, where a run may stop, and the scratch
-- memory for products.
use Rattle.std.specs.Prelude.{◌≡◌, List, [], ◌++◌, map, ℕ, ◌+◌, ◌*◌, ◌<◌, ◌≤◌, ℤ, nat_abs, length, drop, get_or}
use Rattle.calculus.specs.Model as C
use Rattle.calculus.specs.Model.{most_terms, zero_model}
use Rattle.calculus.specs.Refusal as R
use Rattle.calculus.specs.Refusal.{stopped, at_place}
use Rattle.calculus.specs.Operations.{quotient}
use Rattle.calculus_laws.specs.SoundLaws.{Sound}
use Rattle.calculus_laws.specs.EachLaws.{All}
use Rattle.calculus.specs.Book.{most_models, most_steps, model_of, run_steps}
use Rattle.calculus.specs.Shares as S
use Rattle.calculus.specs.Shares.{no_shares, run_shares, rows_sound}
use Rattle.model_types.specs.declared.Refusal.{Refusal}
use Rattle.model_types.specs.ModelStruct.{Verdict}
use Rattle.std.specs.Prelude.{Ok, Err}
use Rattle.model_types.specs.ModelStruct.{refused_at}
use Rattle.model_types.specs.Arrays.{first_places}
use Rattle.model_types.specs.ModelStruct.{view, cause}
use Rattle.model_types.specs.SharesStruct.{stored_shares}
use Rattle.sheet_steps.specs.model.OperationContracts.{Proposal, quotient_products}
use Rattle.format.specs.HeldBook.{HeldStep, HeldBook, view_book, HeldPasses}
use Rattle.sheet_book.specs.BookStruct.{no_step, held_step}
use Rattle.sheet_results.specs.Results.{Results, Roomy, held_result, row_at, most_row_numbers}
use Rattle.sheet_run_laws.specs.declared.StepList.{StepList}
use Rattle.sheet_run_laws.specs.declared.Stop.{Stop}
use Rattle.sheet_run_laws.specs.LastResult.{last_result}
-- the codes of steps that a run tells apart
pub use Rattle.sheet_steps.specs.Steps.{input_code, multiply_code, substitute_code, quotient_code}
-- the scratch memory for so many products, and how many the full table has room for
pub use Rattle.sheet_steps.specs.model.OperationContracts.{ScratchRoom, most_entries}

-- ---- a book whose models stand in flat slices
-- the steps that a list of steps holds: places beyond the count are not looked at
unfoldable pub listed_steps : StepList → List HeldStep
listed_steps l = map held_step (first_places no_step l.count l.steps)

-- a list of steps has the steps of a book, and its variables and order
pub record SameSteps (h : HeldBook) (l : StepList) : Type 0 where
  pub vars : h.n ≡ l.n
  pub order : h.d ≡ l.d
  pub steps : h.steps ≡ listed_steps l

-- model a of a book stands at place a
pub record Loaded (h : HeldBook) (m : Results) : Type 0 where
  pub each : (a : ℕ) → a < length h.models → view (held_result h.n m a) ≡ model_of (view_book h) a

-- a book that passes its tests has these steps, its models stand in the slices, and there is a place for each
-- result
pub record Prepared (l : StepList) (m : Results) : Type 0 where
  pub held : HeldBook
  pub passes : HeldPasses held
  pub same : SameSteps held l
  pub room : Roomy (most_models + l.count) m
  pub loaded : Loaded held m

-- ---- in the middle of a run
-- the rows of a flat slice, one for each step, are these, with zeros after them
pub record RowsStored (rows : List S.Shares) (flat : List ℕ) : Type 0 where
  pub room : length flat ≡ most_row_numbers
  pub each : (j : ℕ) → j < most_steps → row_at flat j ≡ stored_shares (get_or rows j no_shares)

module _ (h : HeldBook) where
  -- sound, of the book's variables and order
  abbrev pub Good : C.Model → Type 0
  Good = Sound h.n h.d

  -- the book's models stand in flat slices, and after them the results of the first i steps; so do their rows; and the
  -- steps that are left lead to the answer and to the rows after these
  pub record Running (i : ℕ) (m : Results) (flat : List ℕ) : Type 0 where
    pub models : List C.Model
    pub count : length models ≡ i
    pub good : All Good models
    pub room : Roomy (most_models + length h.steps) m
    pub loaded : Loaded h m
    pub stored : (j : ℕ) → j < i → view (held_result h.n m (most_models + j)) ≡ get_or models j (zero_model h.n)
    pub rest : run_steps (view_book h) models (drop i (view_book h).steps)
        ≡ run_steps (view_book h) [] (view_book h).steps
    pub rows : List S.Shares
    pub rows_count : length rows ≡ i
    pub rows_stored : RowsStored rows flat
    pub rows_rest : rows ++ run_shares (view_book h) models (drop i (view_book h).steps) ≡ rows_sound (view_book h)

  -- the run leads to this result, and its rows are there
  pub record Ended (r : R.Result C.Model) (flat : List ℕ) : Type 0 where
    pub is : r ≡ last_result (view_book h)
    pub rows : List S.Shares
    pub rows_few : length rows ≤ most_steps
    pub rows_stored : RowsStored rows flat
    pub rows_all : rows ≡ rows_sound (view_book h)

  -- s is step i
  pub record StepAtIndex (i : ℕ) (s : HeldStep) : Type 0 where
    pub within : i < length h.steps
    pub is_step : get_or h.steps i s ≡ s

  -- after step i: it was accepted, and the run goes on, or it was refused, and with it the run
  pub record Iterated (i : ℕ) (v : Verdict) (m : Results) (flat : List ℕ) : Type 0 where
    pub going : v ≡ Ok tt → Running (i + 1) m flat
    pub ended : (x : Refusal) (y : ℕ) → v ≡ Err (refused_at x y) → Ended (stopped (cause x) i) flat

-- ---- one step
-- step i of a book in n variables of order d that passes its tests, after the results of the steps before it
pub record Iteration (n d i : ℕ) (s : HeldStep) (m : Results) (flat : List ℕ) : Type 0 where
  pub held : HeldBook
  pub passes : HeldPasses held
  pub vars : held.n ≡ n
  pub order : held.d ≡ d
  pub at : StepAtIndex held i s
  pub so_far : Running held i m flat

-- which is an input, whatever the order is
pub record InputStep (n i : ℕ) (s : HeldStep) (m : Results) (flat : List ℕ) : Type 0 where
  pub order : ℕ
  pub iteration : Iteration n order i s m flat
  pub code : s.code ≡ input_code

-- four models in flat slices that are the operands of a quotient
pub record Proposed (n d a b v w : ℕ) (m : Results) : Type 0 where
  pub first : Roomy (a + 1) m
  pub second : Roomy (b + 1) m
  pub third : Roomy (v + 1) m
  pub fourth : Roomy (w + 1) m
  pub proposal : Proposal d (held_result n m a) (held_result n m b) (held_result n m v) (held_result n m w)

-- their quotient
unfoldable pub quotient_at : (n d a b v w : ℕ) → Results → R.Result C.Model
quotient_at n d a b v w m = at_place 0 (quotient d (view (held_result n m a)) (view (held_result n m b))
    (view (held_result n m v))
    (view (held_result n m w)))

-- ---- scratch memory
-- how many terms the result of step j has
abbrev pub terms_at : (counts : List ℕ) → (j : ℕ) → ℕ
terms_at counts j = get_or counts (most_models + j) 0

-- the products that a quotient step asks room for
abbrev pub products_at : (counts : List ℕ) → HeldStep → ℕ
products_at counts s =
    quotient_products (terms_at counts s.b) (terms_at counts s.v) (terms_at counts (nat_abs s.value))

-- what a step asks of it: a substitution multiplies the result that b names by models of at most 64 terms
pub record Served (s : HeldStep) (counts : List ℕ) (slots keys : List ℕ) (sums : List ℤ) : Type 0 where
  pub product : s.code ≡ multiply_code
      → ScratchRoom (terms_at counts s.a * terms_at counts s.b) slots keys sums
  pub substitution : s.code ≡ substitute_code → ScratchRoom (most_terms * terms_at counts s.b) slots keys sums
  pub quotient : s.code ≡ quotient_code → ScratchRoom (products_at counts s) slots keys sums

-- the results that a step names have their counts, and none is above a model's most terms
pub record Counted (s : HeldStep) (counts : List ℕ) : Type 0 where
  pub first : s.code ≡ multiply_code → most_models + s.a < length counts
  pub second : s.code ≡ multiply_code → most_models + s.b < length counts
  pub inner : s.code ≡ substitute_code → most_models + s.b < length counts
  pub divisor : s.code ≡ quotient_code → most_models + s.b < length counts
  pub proposed : s.code ≡ quotient_code → most_models + s.v < length counts
  pub inverse : s.code ≡ quotient_code → most_models + nat_abs s.value < length counts
  pub few : (j : ℕ) → get_or counts j 0 ≤ most_terms

-- a step that asks no more than there is room for
pub record Fit (s : HeldStep) (room : ℕ) (counts : List ℕ) : Type 0 where
  pub product : s.code ≡ multiply_code → terms_at counts s.a * terms_at counts s.b ≤ room
  pub substitution : s.code ≡ substitute_code → most_terms * terms_at counts s.b ≤ room
  pub quotient : s.code ≡ quotient_code → products_at counts s ≤ room

-- ---- a part of a run
-- the first steps of a book that passes its tests are done
pub record Begun (h : HeldBook) (l : StepList) (i : ℕ) (m : Results) (flat : List ℕ) : Type 0 where
  pub passes : HeldPasses h
  pub same : SameSteps h l
  pub so_far : Running h i m flat
  pub within : i ≤ l.count

-- those of some book
pub record Part (l : StepList) (i : ℕ) (m : Results) (flat : List ℕ) : Type 0 where
  pub held : HeldBook
  pub begun : Begun held l i m flat

-- where it stopped: at a refusal, at the end, or, with less room, at a step that asks more than there is
pub record Stopped (h : HeldBook) (l : StepList) (room : ℕ) (t : Stop) (m : Results) (flat : List ℕ) : Type 0 where
  pub ended : (x : Refusal) (y : ℕ) → t.verdict ≡ Err (refused_at x y) → Ended h (stopped (cause x) t.at) flat
  pub going : t.verdict ≡ Ok tt → Begun h l t.at m flat
  pub whole : most_entries ≤ room → t.verdict ≡ Ok tt → t.at ≡ l.count
