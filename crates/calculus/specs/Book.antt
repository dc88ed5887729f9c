-- A book of models and steps, its tests 3, 5 and 6, and its run.
use Rattle.std.specs.Prelude.{Bool, ◌&&◌, List, [], ◌∷◌, ◌++◌, ℕ, eqb, leb, ltb, ℤ, nat_abs, length, get_or}
use Rattle.calculus.specs.Model.{Model, zero_model, between, sound}
use Rattle.calculus.specs.Refusal.{bad_limits, bad_model, bad_step, Answer, accepted, Result, done, at_place}
use Rattle.calculus.specs.Refusal.{require_at, require_each, ◌followed_by◌, Returned, returned}
use Rattle.calculus.specs.Operations as Op
use Rattle.calculus.specs.Operations.{Ends, zero_ends, Mixed, zero_mixed, range, integral, exact_part}
use Rattle.calculus.specs.Tests.{vars_sound, order_sound, constant_sound, variable_sound, threshold_sound}

-- operands a, b, h and w are steps, but a of an input is a model; v is a variable
pub data Step : Type 0 where
  input : (a : ℕ) → Step
  constant : (value : ℤ) → Step
  variable : (v : ℕ) → Step
  negate : (a : ℕ) → Step
  add subtract multiply : (a b : ℕ) → Step
  substitute : (a b v : ℕ) → Step
  sweep : (a : ℕ) (value : ℤ) → Step
  quotient : (a b h w : ℕ) → Step
  antiderivative : (a v : ℕ) → Step

-- their codes: 0 to 10, in this order
abbrev pub last_code : ℕ
last_code = 10

-- the earlier steps that a step names, in order
unfoldable pub operands : Step → List ℕ
operands (input a) = []
operands (constant value) = []
operands (variable v) = []
operands (negate a) = a ∷ []
operands (add a b) = a ∷ b ∷ []
operands (subtract a b) = a ∷ b ∷ []
operands (multiply a b) = a ∷ b ∷ []
operands (substitute a b v) = a ∷ b ∷ []
operands (sweep a value) = a ∷ []
operands (quotient a b h w) = a ∷ b ∷ h ∷ w ∷ []
operands (antiderivative a v) = a ∷ []

-- a book (document 01's term): n, the order d, the models and the steps
pub record Book : Type 0 where
  pub vars : ℕ
  pub order : ℕ
  pub models : List Model
  pub steps : List Step

-- ---- the tests, over the whole book before any step runs
-- 0 to 16 models
unfoldable pub most_models : ℕ
most_models = 16

-- 1 to 64 steps
unfoldable pub most_steps : ℕ
most_steps = 64

-- test 3
unfoldable pub limits_sound : Book → Bool
limits_sound book =
    vars_sound book.vars
    && order_sound book.order
    && leb (length book.models) most_models
    && between 1 most_steps (length book.steps)

-- test 5: the rules of a model, with the book's n and order
unfoldable pub model_sound : Book → Model → Bool
model_sound book m = eqb m.vars book.vars && sound book.order m

-- test 6: the form of step i, whose operands are earlier steps
unfoldable pub step_sound : Book → (i : ℕ) → Step → Bool
step_sound book i (input a) = ltb a (length book.models)
step_sound book i (constant value) = constant_sound value
step_sound book i (variable v) = variable_sound book.vars v
step_sound book i (negate a) = ltb a i
step_sound book i (add a b) = ltb a i && ltb b i
step_sound book i (subtract a b) = ltb a i && ltb b i
step_sound book i (multiply a b) = ltb a i && ltb b i
step_sound book i (substitute a b v) = ltb a i && ltb b i && variable_sound book.vars v
step_sound book i (sweep a value) = ltb a i && threshold_sound value
step_sound book i (quotient a b h w) = ltb a i && ltb b i && ltb h i && ltb w i
step_sound book i (antiderivative a v) = ltb a i && variable_sound book.vars v

-- the tests in order, then what is asked for
unfoldable pub tested : {A : Type 0} → Book → Result A → Result A
tested book r =
    require_at 0 (limits_sound book) bad_limits
    (require_each 0 (λ i. model_sound book) book.models bad_model
    (require_each 0 (step_sound book) book.steps bad_step r))

-- ---- the run
-- model a; test 6 keeps the default out of reach
unfoldable pub model_of : Book → (a : ℕ) → Model
model_of book a = get_or book.models a (zero_model book.vars)

-- the result of step a, from the results so far; test 6 keeps the default out of reach
unfoldable pub result_of : Book → List Model → (a : ℕ) → Model
result_of book results a = get_or results a (zero_model book.vars)

-- a step, where r a is the result of step a
unfoldable pub run_step : Book → (r : ℕ → Model) → Step → Answer Model
run_step book r (input a) = accepted (model_of book a)
run_step book r (constant value) = accepted (Op.constant book.vars value)
run_step book r (variable v) = accepted (Op.variable book.vars v)
run_step book r (negate a) = accepted (Op.negate (r a))
run_step book r (add a b) = Op.add (r a) (r b)
run_step book r (subtract a b) = Op.subtract (r a) (r b)
run_step book r (multiply a b) = Op.multiply book.order (r a) (r b)
run_step book r (substitute a b v) = Op.substitute book.order v (r a) (r b)
run_step book r (sweep a value) = accepted (Op.sweep (nat_abs value) (r a))
run_step book r (quotient a b h w) = Op.quotient book.order (r a) (r b) (r h) (r w)
run_step book r (antiderivative a v) = accepted (Op.antiderivative book.order v (r a))

-- steps in order, each after the results so far; a refusal ends the run with the number of its step
unfoldable pub run_steps : Book → List Model → List Step → Result (List Model)
run_steps book results [] = done results
run_steps book results (s ∷ l) =
    at_place (length results) (run_step book (result_of book results) s)
    followed_by (λ m. run_steps book (results ++ (m ∷ [])) l)

-- the last of a list
unfoldable pub last : {A : Type 0} → A → List A → A
last a [] = a
last a (c ∷ l) = last c l

-- the last step's result, its range, its integral, and its polynomial part's integral with its remainder
pub record Summary : Type 0 where
  pub model : Model
  pub range : Ends
  pub integral : Ends
  pub exact : Mixed

-- of a model
unfoldable pub summary : Model → Summary
summary m = record { model = m; range = range m; integral = integral m; exact = exact_part m }

-- the run of a book that passes the tests
unfoldable pub run_sound : Book → Result Summary
run_sound book =
    run_steps book [] book.steps
    followed_by (λ results. done (summary (last (zero_model book.vars) results)))

-- the run of any book
unfoldable pub run : Book → Result Summary
run book = tested book (run_sound book)

-- what a run hands back: with a refusal the zero model with n = 1, ends 0, q and r 0
unfoldable pub returned_summary : Result Summary → Returned Summary
returned_summary =
    returned (record { model = zero_model 1; range = zero_ends; integral = zero_ends; exact = zero_mixed })
