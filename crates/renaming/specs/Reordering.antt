-- A reordering of the variables, and what it makes of a monomial, a model, a step, a book, a sheet and an answer
-- (request 8): all that has to be believed of the renaming.
use Rattle.std.specs.Prelude.{◌≡◌, Bool, cond, ◌||◌, List, [], ◌∷◌, map, ℕ, zero, suc, ◌<◌, eqb, ℤ, pos, get_or}
use Rattle.algebra.proofs.Rational.{whole}
use Rattle.polynomial.specs.Polynomial.{Term, exponent}
use Rattle.calculus.specs.Monomial.{index_of}
use Rattle.calculus.specs.Key.{key_width, key}
use Rattle.calculus.specs.Terms.{Terms, map_monomials, collect}
use Rattle.calculus.specs.Model.{Model, Point}
use Rattle.calculus.specs.Refusal.{Result, done, stopped}
use Rattle.calculus.specs.Book.{Step, input, constant, variable, negate, add, subtract, multiply, substitute, sweep}
use Rattle.calculus.specs.Book.{quotient, antiderivative, Book, Summary}
use Rattle.format.specs.HeldBook.{HeldTerm, HeldModel, HeldStep, HeldBook, view_held_term}

-- the place that each of n variables goes to, and the one that comes to each place; variables are counted from 0 here
pub record Reordering (n : ℕ) : Type 0 where
  pub to : ℕ → ℕ
  pub from : ℕ → ℕ
  pub to_inside : (i : ℕ) → i < n → to i < n
  pub from_inside : (i : ℕ) → i < n → from i < n
  pub from_to : (i : ℕ) → i < n → from (to i) ≡ i
  pub to_from : (i : ℕ) → i < n → to (from i) ≡ i

-- each back to where it was
unfoldable pub inverse : {n : ℕ} → Reordering n → Reordering n
inverse ρ = record {
  to = ρ.from;
  from = ρ.to;
  to_inside = ρ.from_inside;
  from_inside = ρ.to_inside;
  from_to = ρ.to_from;
  to_from = ρ.from_to;
}

-- f 0, .., f (n - 1)
unfoldable pub tabulate : {A : Type 0} → (n : ℕ) → (ℕ → A) → List A
tabulate zero f = []
tabulate (suc n) f = f 0 ∷ tabulate n (λ i. f (suc i))

module _ {n : ℕ} (ρ : Reordering n) where
  -- a monomial: each exponent at its variable's new place
  unfoldable pub rename : List ℕ → List ℕ
  rename k = tabulate n (λ j. exponent (ρ.from j) k)

  -- a point: each coordinate at its variable's new place; a point of n coordinates keeps the default out of reach
  unfoldable pub rename_point : Point → Point
  rename_point x = tabulate n (λ j. get_or x (ρ.from j) (whole (pos 0)))

  -- a variable's new number; numbers are from 1
  unfoldable pub rename_variable : ℕ → ℕ
  rename_variable v = suc (ρ.to (index_of v))

  -- terms: their monomials renamed, and put back in order
  unfoldable pub rename_terms : Terms → Terms
  rename_terms p = collect (map_monomials rename p)

  -- a model
  unfoldable pub rename_model : Model → Model
  rename_model m = record { vars = m.vars; radius = m.radius; terms = rename_terms m.terms }

  -- a step: the variable that it names; a quotient names steps only
  unfoldable pub rename_step : Step → Step
  rename_step (input a) = input a
  rename_step (constant value) = constant value
  rename_step (variable v) = variable (rename_variable v)
  rename_step (negate a) = negate a
  rename_step (add a b) = add a b
  rename_step (subtract a b) = subtract a b
  rename_step (multiply a b) = multiply a b
  rename_step (substitute a b v) = substitute a b (rename_variable v)
  rename_step (sweep a value) = sweep a value
  rename_step (quotient a b h w) = quotient a b h w
  rename_step (antiderivative a v) = antiderivative a (rename_variable v)

  -- a book, throughout
  unfoldable pub rename_book : Book → Book
  rename_book b = record {
    vars = b.vars;
    order = b.order;
    models = map rename_model b.models;
    steps = map rename_step b.steps;
  }

  -- ---- the answer
  -- a summary: the range, the integral, q and r stay
  unfoldable pub rename_summary : Summary → Summary
  rename_summary s = record {
    model = rename_model s.model;
    range = s.range;
    integral = s.integral;
    exact = s.exact;
  }

  -- of a run: a refusal and its step stay
  unfoldable pub rename_result : Result Summary → Result Summary
  rename_result (done s) = done (rename_summary s)
  rename_result (stopped r i) = stopped r i

-- ---- the book of a sheet
-- a term by its key
unfoldable pub held_term : Term ℤ → HeldTerm
held_term t = record { key = key key_width t.exponents; coefficient = t.coefficient }

-- the field v is a variable in steps of the codes 2, 7 and 10; in one of code 9 it is a step's number
unfoldable pub names_variable : (code : ℕ) → Bool
names_variable code = eqb code 2 || eqb code 7 || eqb code 10

module _ {n : ℕ} (ρ : Reordering n) where
  -- a model: its terms renamed, in the order of their new keys
  unfoldable pub rename_held_model : HeldModel → HeldModel
  rename_held_model m = record {
    n = m.n;
    radius = m.radius;
    terms = map held_term (rename_terms ρ (map (view_held_term m.n) m.terms));
  }

  -- the field v
  unfoldable pub rename_field : (code v : ℕ) → ℕ
  rename_field code v = cond (names_variable code) (rename_variable ρ v) v

  -- a step
  unfoldable pub rename_held_step : HeldStep → HeldStep
  rename_held_step s = record {
    code = s.code;
    a = s.a;
    b = s.b;
    v = rename_field s.code s.v;
    value = s.value;
  }

  -- the book, throughout; its sheet is `sheet_bytes` of it
  unfoldable pub rename_held : HeldBook → HeldBook
  rename_held h = record {
    n = h.n;
    d = h.d;
    models = map rename_held_model h.models;
    steps = map rename_held_step h.steps;
  }
