-- A book as a sheet or memory holds it, before anything is known of it: what it stands for, and its tests 3, 5 and 6.
use Rattle.std.specs.Prelude.{Bool, true, false, List, [], ◌∷◌, map, ℕ, ◌+◌, T, eqb, ℤ, nat_abs, length, replicate}
use Rattle.std.proofs.Math.Option.{Option, some, none}
use Rattle.std.proofs.Math.ListN.{get_elem?}
use Rattle.algebra.specs.Integer.{minus}
use Rattle.polynomial.specs.Polynomial.{Term}
use Rattle.calculus.specs.Key.{monomial_of}
use Rattle.calculus.specs.Model.{Model, zero_model}
use Rattle.calculus.specs.Refusal.{bad_limits, bad_model, bad_step, Result, require_at, require_each}
use Rattle.calculus.specs.Refusal.{all_from}
use Rattle.calculus.specs.Book.{Step, input, constant, variable, negate, add, subtract, multiply, substitute, sweep}
use Rattle.calculus.specs.Book.{quotient, antiderivative, Book, limits_sound, model_sound, step_sound}

-- a term: its key and its coefficient
pub record HeldTerm : Type 0 where
  pub key : ℕ
  pub coefficient : ℤ

-- a model: n, the radius and the terms
pub record HeldModel : Type 0 where
  pub n : ℕ
  pub radius : ℕ
  pub terms : List HeldTerm

-- a step: its code and its fields
pub record HeldStep : Type 0 where
  pub code : ℕ
  pub a : ℕ
  pub b : ℕ
  pub v : ℕ
  pub value : ℤ

-- a book: n, the order d, the models and the steps, nothing beyond a count
pub record HeldBook : Type 0 where
  pub n : ℕ
  pub d : ℕ
  pub models : List HeldModel
  pub steps : List HeldStep

-- the book of zeros
unfoldable pub zero_book : HeldBook
zero_book = record { n = 0; d = 0; models = []; steps = [] }

-- ---- models
-- a term of n variables; a key with an exponent above n gives a monomial that breaks the rules
unfoldable pub view_held_term : (n : ℕ) → HeldTerm → Term ℤ
view_held_term n t = record { coefficient = t.coefficient; exponents = monomial_of n t.key }

-- a model
unfoldable pub view_model : HeldModel → Model
view_model m = record { vars = m.n; radius = m.radius; terms = map (view_held_term m.n) m.terms }

-- ---- steps
-- what a code makes of the fields: the sum of those that it does not name, which must be 0, and the step
pub record Form : Type 0 where
  pub unnamed : ℕ
  pub step : Step

-- a form
abbrev pub form : ℕ → Step → Form
form unnamed step = record { unnamed = unnamed; step = step }

-- those of the codes 0 to 10, in order; a value below 0 names no step
unfoldable pub forms : HeldStep → List Form
forms s =
    form (s.b + s.v + nat_abs s.value) (input s.a)
    ∷ form (s.a + s.b + s.v) (constant s.value)
    ∷ form (s.a + s.b + nat_abs s.value) (variable s.v)
    ∷ form (s.b + s.v + nat_abs s.value) (negate s.a)
    ∷ form (s.v + nat_abs s.value) (add s.a s.b)
    ∷ form (s.v + nat_abs s.value) (subtract s.a s.b)
    ∷ form (s.v + nat_abs s.value) (multiply s.a s.b)
    ∷ form (nat_abs s.value) (substitute s.a s.b s.v)
    ∷ form (s.b + s.v) (sweep s.a s.value)
    ∷ form (minus s.value) (quotient s.a s.b s.v (nat_abs s.value))
    ∷ form (s.b + nat_abs s.value) (antiderivative s.a s.v)
    ∷ []

-- the step of a form whose other fields are 0
unfoldable pub step_of : Option Form → Option Step
step_of none = none
step_of (some f) = elim (eqb f.unnamed 0) [ true ↦ some f.step | false ↦ none ]

-- a step; none with another code, or where a field that is not named is not 0
unfoldable pub view_step : HeldStep → Option Step
view_step s = step_of (get_elem? (forms s) s.code)

-- the steps that there are: all of them in a book that passes the tests
unfoldable pub view_steps : List HeldStep → List Step
view_steps [] = []
view_steps (s ∷ l) = elim (view_step s) [ some t ↦ t ∷ view_steps l | none ↦ view_steps l ]

-- ---- a book
-- the book that it stands for
unfoldable pub view_book : HeldBook → Book
view_book h =
    record { vars = h.n; order = h.d; models = map view_model h.models; steps = view_steps h.steps }

-- the tests ask only for n, d and the two counts of a book: one that has them
unfoldable pub outline : (n d models steps : ℕ) → Book
outline n d m k =
    record { vars = n; order = d; models = replicate m (zero_model n); steps = replicate k (input 0) }

-- that of a held book
unfoldable pub outline_of : HeldBook → Book
outline_of h = outline h.n h.d (length h.models) (length h.steps)

-- test 5: the rules of a model
unfoldable pub held_model_sound : Book → HeldModel → Bool
held_model_sound book m = model_sound book (view_model m)

-- test 6: the form of step i
unfoldable pub held_step_sound : Book → (i : ℕ) → HeldStep → Bool
held_step_sound book i s = elim (view_step s) [ some t ↦ step_sound book i t | none ↦ false ]

-- the tests in order, then what is asked for
unfoldable pub held_tested : {A : Type 0} → HeldBook → Result A → Result A
held_tested h r =
    require_at 0 (limits_sound (outline_of h)) bad_limits
    (require_each 0 (λ i. held_model_sound (outline_of h)) h.models bad_model
    (require_each 0 (held_step_sound (outline_of h)) h.steps bad_step r))

-- a held book that passes them
pub record HeldPasses (h : HeldBook) : Type 0 where
  pub limits : T (limits_sound (outline_of h))
  pub models : T (all_from 0 (λ i. held_model_sound (outline_of h)) h.models)
  pub steps : T (all_from 0 (held_step_sound (outline_of h)) h.steps)
