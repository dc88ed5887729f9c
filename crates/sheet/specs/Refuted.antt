-- Wrong programs that the contract of `run` rules out: those that document 01 lists, each as a kind, and of each kind
-- programs that are always so and one that can be run. RefutedLaws proves that no program of a kind meets the contract.
use Rattle.std.specs.Prelude.{◌≡◌, ◌≢◌, Bool, true, ◌&&◌, List, [], ◌∷◌, ◌++◌, ℕ, ◌+◌, ◌-◌, ◌<◌, ◌≤◌, T, ltb, length}
use Rattle.std.proofs.Math.Option.{some}
use Rattle.std.proofs.Math.ListN.{get_elem?}
use Rattle.numbers.specs.Fixed.{span_limit}
use Rattle.calculus.specs.Terms.{size}
use Rattle.calculus.specs.Model as C
use Rattle.calculus.specs.Model.{zero_model}
use Rattle.calculus.specs.Refusal.{Refusal, bad_length, too_many_terms, Answer, accepted, Result, done, stopped}
use Rattle.calculus.specs.Refusal.{at_place, ◌followed_by◌}
use Rattle.calculus.specs.Book as B
use Rattle.calculus.specs.Book.{Step, input, constant, variable, negate, add, subtract, multiply, substitute, sweep}
use Rattle.calculus.specs.Book.{operands, Book, model_of, result_of, run_step, run_steps, last, summary}
use Rattle.calculus.specs.Book.{returned_summary}
use Rattle.std.specs.Prelude.{Ok}
use Rattle.model_types.specs.ModelStruct.{view, verdict_number, verdict_place}
use Rattle.format.specs.HeldBook.{HeldBook, view_book}
use Rattle.format.specs.Format.{read, run_sheet}
use Rattle.sheet_book.specs.declared.Summary.{Summary}
use Rattle.sheet_book.specs.SummaryStruct.{run_answer}
use Rattle.sheet.specs.Sheet.{Exact, Encloses}

-- ---- programs and the clauses of the contract
-- what a program answers to each sheet
abbrev pub Program : Type 0
Program = List ℕ → Summary

-- each is below 256
unfoldable pub are_bytes : List ℕ → Bool
are_bytes [] = true
are_bytes (b ∷ l) = ltb b 256 && are_bytes l

-- the clause `exact`
abbrev pub ExactProgram : Program → Type 0
ExactProgram W = (sheet : List ℕ) → T (are_bytes sheet) → Exact sheet (W sheet)

-- the clause `encloses`
abbrev pub Enclosing : Program → Type 0
Enclosing W = (sheet : List ℕ) → T (are_bytes sheet) → Encloses sheet (W sheet)

-- the model that a program answers; places beyond its count are not looked at
abbrev pub model_by : Program → List ℕ → C.Model
model_by W sheet = view (W sheet).model

-- ---- sheets
-- one that the run accepts, with the book that it reads as and the result
pub record AcceptedSheet : Type 0 where
  pub sheet : List ℕ
  pub bytes : T (are_bytes sheet)
  pub held : HeldBook
  pub is_read : read sheet ≡ done held
  pub result : B.Summary
  pub is_run : run_sheet sheet ≡ done result

-- its book
abbrev pub book_of : AcceptedSheet → Book
book_of at = view_book at.held

-- those of the last step; test 3 keeps the default out of reach
unfoldable pub last_operands : Book → List ℕ
last_operands book = operands (last (input 0) book.steps)

-- ---- the kinds: at one sheet at least, a program
-- answers another radius than the run's
pub record AnswersOtherRadius (W : Program) : Type 0 where
  pub at : AcceptedSheet
  pub other : (model_by W at.sheet).radius ≢ at.result.model.radius

-- hands an operand of the last step through, whose result is another
pub record HandsOperandThrough (W : Program) : Type 0 where
  pub at : AcceptedSheet
  pub results : List C.Model
  pub ran : run_steps (book_of at) [] (book_of at).steps ≡ done results
  pub place : ℕ
  pub operand : ℕ
  pub is_operand : get_elem? (last_operands (book_of at)) place ≡ some operand
  pub answers : model_by W at.sheet ≡ result_of (book_of at) results operand
  pub other : result_of (book_of at) results operand ≢ at.result.model

-- answers the zero model, in some number of variables, and the result is not the zero model
pub record AnswersZero (W : Program) : Type 0 where
  pub at : AcceptedSheet
  pub answers : model_by W at.sheet ≡ zero_model (model_by W at.sheet).vars
  pub other : at.result.model ≢ zero_model at.result.model.vars

-- answers one of the sheet's models, and the result is another
pub record AnswersInput (W : Program) : Type 0 where
  pub at : AcceptedSheet
  pub number : ℕ
  pub is_number : number < length (book_of at).models
  pub answers : model_by W at.sheet ≡ model_of (book_of at) number
  pub other : model_of (book_of at) number ≢ at.result.model

-- says 8 where the run does not
pub record SaysEight (W : Program) : Type 0 where
  pub sheet : List ℕ
  pub bytes : T (are_bytes sheet)
  pub says : verdict_number (W sheet).verdict ≡ 8
  pub other : (returned_summary (run_sheet sheet)).number ≢ 8

-- names another step than the one that the run stops at
pub record NamesOtherStep (W : Program) : Type 0 where
  pub sheet : List ℕ
  pub bytes : T (are_bytes sheet)
  pub cause : Refusal
  pub step : ℕ
  pub stops : run_sheet sheet ≡ stopped cause step
  pub other : verdict_place (W sheet).verdict ≢ step

-- refuses a sheet that the run accepts
pub record RefusesAccepted (W : Program) : Type 0 where
  pub at : AcceptedSheet
  pub refuses : (W at.sheet).verdict ≢ (Ok tt)

-- ---- programs that are always so, whatever their verdict and their ends are: each is of its kind
-- widens the radius, so that the terms of the result have the largest span with it, or a larger one
abbrev pub Widens : Program → Type 0
Widens W = (at : AcceptedSheet) → span_limit ≤ size at.result.model.terms + (model_by W at.sheet).radius

-- runs the first step and passes operands through afterwards; so where a second step, the last, names the first alone,
-- the answer is the result of the first
abbrev pub PassesOperands : Program → Type 0
PassesOperands W = (at : AcceptedSheet) (s t : Step) (m : C.Model) → (book_of at).steps ≡ s ∷ t ∷ []
    → operands t ≡ 0 ∷ [] → run_step (book_of at) (result_of (book_of at) []) s ≡ accepted m
    → model_by W at.sheet ≡ m

-- gives the zero model, in some number of variables
abbrev pub GivesZero : Program → Type 0
GivesZero W = (at : AcceptedSheet) → model_by W at.sheet ≡ zero_model (model_by W at.sheet).vars

-- hands back its input: at least the model of a sheet that has one model
abbrev pub HandsBack : Program → Type 0
HandsBack W = (at : AcceptedSheet) (m : C.Model) → (book_of at).models ≡ m ∷ [] → model_by W at.sheet ≡ m

-- says 8 of what the run accepts, however few terms its results have
abbrev pub SaysEightUncounted : Program → Type 0
SaysEightUncounted W = (at : AcceptedSheet) → verdict_number (W at.sheet).verdict ≡ 8

-- names the same step, whichever the run stops at
abbrev pub NamesAlways : ℕ → Program → Type 0
NamesAlways k W = (sheet : List ℕ) (q : Refusal) (i : ℕ) → run_sheet sheet ≡ stopped q i
    → verdict_place (W sheet).verdict ≡ k

-- refuses every sheet
abbrev pub RefusesAll : Program → Type 0
RefusesAll W = (sheet : List ℕ) → (W sheet).verdict ≢ (Ok tt)

-- ---- one of each that can be run
-- a model of the largest span
unfoldable pub widest : C.Model → C.Model
widest m = record { vars = m.vars; radius = span_limit - size m.terms; terms = m.terms }

-- the run, its result widened: the band is true
unfoldable pub widening : Program
widening sheet = run_answer (run_sheet sheet followed_by (λ s. done (summary (widest s.model))))

-- a step that names no step is run, any other gives the result of the first that it names
unfoldable pub pass_step : Book → (r : ℕ → C.Model) → Step → Answer C.Model
pass_step book r s = elim (operands s) [ [] ↦ run_step book r s | a ∷ l ↦ accepted (r a) ]

-- steps in order, after the results so far
unfoldable pub pass_steps : Book → List C.Model → List Step → Result (List C.Model)
pass_steps book results [] = done results
pass_steps book results (s ∷ l) =
    at_place (length results) (pass_step book (result_of book results) s)
    followed_by (λ m. pass_steps book (results ++ (m ∷ [])) l)

-- the first step run, the others in that way
unfoldable pub pass_after_first : Book → List Step → Result (List C.Model)
pass_after_first book [] = done []
pass_after_first book (s ∷ l) =
    at_place 0 (run_step book (result_of book []) s) followed_by (λ m. pass_steps book (m ∷ []) l)

-- the last of what was passed on
unfoldable pub passing : Program
passing sheet = run_answer (read sheet followed_by (λ h. pass_after_first (view_book h) (view_book h).steps
    followed_by (λ results. done (summary (last (zero_model (view_book h).vars) results)))))

-- the zero model where the run has a result
unfoldable pub giving_zero : Program
giving_zero sheet = run_answer (run_sheet sheet followed_by (λ s. done (summary (zero_model s.model.vars))))

-- the first model
unfoldable pub handing_back : Program
handing_back sheet = run_answer (read sheet followed_by (λ h. done (summary (model_of (view_book h) 0))))

-- 8 where the run has a result
unfoldable pub saying_eight : Program
saying_eight sheet = run_answer (run_sheet sheet followed_by (λ s. stopped too_many_terms 0))

-- a refusal at step 0
unfoldable pub at_step_0 : Result B.Summary → Result B.Summary
at_step_0 (done s) = done s
at_step_0 (stopped q i) = stopped q 0

-- the run, every refusal at step 0
unfoldable pub naming_step_0 : Program
naming_step_0 sheet = run_answer (at_step_0 (run_sheet sheet))

-- a refusal of every sheet
unfoldable pub refusing : Program
refusing sheet = run_answer (stopped bad_length 0)
