-- The codes of steps; what one step gives, the shares of it, and what it asks.
use Rattle.std.specs.Prelude.{◌≡◌, Bool, true, ◌&&◌, [], ◌∷◌, ℕ, ◌≤◌, T, leb, get_or}
use Rattle.std.proofs.Math.Option.{Option, some, none}
use Rattle.std.proofs.Math.ListN.{get_elem?}
use Rattle.calculus.specs.Key.{key_width}
use Rattle.calculus.specs.Model as C
use Rattle.calculus.specs.Model.{most_degree, sound}
use Rattle.calculus.specs.Refusal as R
use Rattle.calculus.specs.Refusal.{accepted}
use Rattle.calculus.specs.Tests.{vars_sound, variable_sound}
use Rattle.calculus.specs.Book.{last_code, Book, run_step}
use Rattle.calculus.specs.Shares.{Shares, all_carried, step_shares}
use Rattle.model_types.specs.declared.Model.{Model}
use Rattle.model_types.specs.ModelStruct.{view}
use Rattle.model.specs.OperationContracts.{Operands}
use Rattle.format.specs.HeldBook.{HeldStep, Form, forms}
use Rattle.format.specs.Fields.{names_variable}

-- ---- the codes of steps
-- an input
abbrev pub input_code : ℕ
input_code = 0

-- a constant
abbrev pub constant_code : ℕ
constant_code = 1

-- a variable
abbrev pub variable_code : ℕ
variable_code = 2

-- a negation
abbrev pub negate_code : ℕ
negate_code = 3

-- a sum
abbrev pub add_code : ℕ
add_code = 4

-- a difference
abbrev pub subtract_code : ℕ
subtract_code = 5

-- a product
abbrev pub multiply_code : ℕ
multiply_code = 6

-- a substitution
abbrev pub substitute_code : ℕ
substitute_code = 7

-- a sweep
abbrev pub sweep_code : ℕ
sweep_code = 8

-- a quotient
abbrev pub quotient_code : ℕ
quotient_code = 9

-- an antiderivative
abbrev pub antiderivative_code : ℕ
antiderivative_code = 10

-- ---- what it gives
-- a book in n variables of order d with the one model m
unfoldable pub one_model : (n d : ℕ) → C.Model → Book
one_model n d m = record { vars = n; order = d; models = m ∷ []; steps = [] }

-- two results
unfoldable pub two_results : (f g : C.Model) → (a : ℕ) → C.Model
two_results f g a = get_or (f ∷ g ∷ []) a f

-- a step with the same code, of which a is the first model or result, and b the second result
unfoldable pub renumbered : HeldStep → HeldStep
renumbered s = record { code = s.code; a = 0; b = 1; v = s.v; value = s.value }

-- what a form of it gives; there is none above the last code
unfoldable pub form_answer : Book → (r : ℕ → C.Model) → Option Form → R.Answer C.Model
form_answer book r (some x) = run_step book r x.step
form_answer book r none = accepted (r 0)

-- what code c gives, where field a names the model m or the result f, and b the result g
unfoldable pub code_answer : (n d : ℕ) → HeldStep → (m f g : C.Model) → (c : ℕ) → R.Answer C.Model
code_answer n d s m f g c =
    form_answer (one_model n d m) (two_results f g) (get_elem? (forms (renumbered s)) c)

-- and the step's own
unfoldable pub step_answer : (n d : ℕ) → HeldStep → (m f g : C.Model) → R.Answer C.Model
step_answer n d s m f g = code_answer n d s m f g s.code

-- ---- the shares of it (request 6)
-- of what a form of it gives
unfoldable pub form_shares : Book → (r : ℕ → C.Model) → Option Form → (k : C.Model) → Shares
form_shares book r (some x) = step_shares book r x.step
form_shares book r none = all_carried

-- of what code c gives, where field a names the model m or the result f, and b the result g
unfoldable pub code_shares : (n d : ℕ) → HeldStep → (m f g : C.Model) → (c : ℕ) → (k : C.Model) → Shares
code_shares n d s m f g c =
    form_shares (one_model n d m) (two_results f g) (get_elem? (forms (renumbered s)) c)

-- and of the step's own
unfoldable pub step_row : (n d : ℕ) → HeldStep → (m f g : C.Model) → (k : C.Model) → Shares
step_row n d s m f g = code_shares n d s m f g s.code

-- ---- what it asks
-- whether a code names a second result, of those that name at most two
unfoldable pub names_second : (code : ℕ) → Bool
names_second c = leb add_code c && leb c substitute_code

-- any step but an input, a product and a quotient: two results, whether it names them or not, that are sound in n
-- variables for order d; v is a variable where the code names one
pub record StepReady (n d : ℕ) (s : HeldStep) (f g : Model) : Type 0 where
  pub vars : vars_sound n ≡ true
  pub order : d ≤ most_degree
  pub code : s.code ≤ last_code
  pub no_input : s.code ≡ input_code → ⊥
  pub no_product : s.code ≡ multiply_code → ⊥
  pub no_quotient : s.code ≡ quotient_code → ⊥
  pub variable : T (names_variable s.code) → T (variable_sound n s.v)
  pub first : T (sound d (view f))
  pub first_vars : f.n ≡ n
  pub second : T (sound d (view g))
  pub second_vars : g.n ≡ n

-- one whose result is all carried: no substitution, no sweep and no antiderivative either; a variable among n, if it is
-- one, and two sound results
pub record DirectReady (n : ℕ) (s : HeldStep) (f g : Model) : Type 0 where
  pub width : n ≤ key_width
  pub code : s.code ≤ last_code
  pub no_input : s.code ≡ input_code → ⊥
  pub no_product : s.code ≡ multiply_code → ⊥
  pub no_substitution : s.code ≡ substitute_code → ⊥
  pub no_sweep : s.code ≡ sweep_code → ⊥
  pub no_quotient : s.code ≡ quotient_code → ⊥
  pub no_antiderivative : s.code ≡ antiderivative_code → ⊥
  pub variable : s.code ≡ variable_code → (1 ≤ s.v) × (s.v ≤ n)
  pub operands : Operands f g
