-- Where the radius of each step came from (request 6): four whole numbers whose sum is the radius times U.
use Rattle.std.specs.Prelude.{List, [], ◌∷◌, ◌++◌, ℕ, zero, suc, ◌+◌, ◌-◌, ◌*◌, nat_abs, length, replicate}
use Rattle.numbers.specs.Fixed.{U}
use Rattle.calculus.specs.Terms.{size, select}
use Rattle.calculus.specs.Model.{Model}
use Rattle.calculus.specs.Refusal.{Answer, accepted, refused, ◌then◌, Result, done, returned}
use Rattle.calculus.specs.Operations as Op
use Rattle.calculus.specs.Operations.{products, part, is_small, largest_exponent, growth_rounding, growth_swept}
use Rattle.calculus.specs.Book.{Step, input, constant, variable, negate, add, subtract, multiply, substitute}
use Rattle.calculus.specs.Book.{sweep, quotient, antiderivative, Book, most_steps, tested, result_of, run_step}

-- the four numbers of a step
pub record Shares : Type 0 where
  pub carried : ℕ
  pub rounding : ℕ
  pub swept : ℕ
  pub slack : ℕ

-- zeros
unfoldable pub no_shares : Shares
no_shares = record { carried = 0; rounding = 0; swept = 0; slack = 0 }

-- their sum
unfoldable pub shares_sum : Shares → ℕ
shares_sum s = s.carried + s.rounding + s.swept + s.slack

-- ---- of a step that is accepted
-- a product: carried is A × e2 + B × e1 + e1 × e2, rounding and swept are the two other shares of E, slack is what
-- rounding up added
unfoldable pub product_shares : (d : ℕ) (f g : Model) → Shares
product_shares d f g = record {
  carried = Op.carried f g;
  rounding = Op.rounding d (products f g);
  swept = Op.swept d (products f g);
  slack = Op.slack d f g;
}

-- what an accepted answer leads to; zeros with a refusal
unfoldable pub shares_of : {A : Type 0} → Answer A → (A → Shares) → Shares
shares_of (accepted a) f = f a
shares_of (refused r) f = no_shares

-- the last product of Horner's rule, whose products so far ended with that of the shares s
unfoldable pub horner_shares : (d i : ℕ) (f g : Model) (k : ℕ) → Model → Shares → Shares
horner_shares d i f g zero h s = s
horner_shares d i f g (suc k) h s =
    shares_of (Op.multiply d h g then (λ p. Op.add p (part i k f)))
    (λ q. horner_shares d i f g k q (product_shares d h g))

-- U × e more under carried
unfoldable pub carrying : (e : ℕ) → Shares → Shares
carrying e s = record { carried = s.carried + U * e; rounding = s.rounding; swept = s.swept; slack = s.slack }

-- a substitution: its last product, zeros if it made none, plus U × the radius of f as carried
unfoldable pub substitute_shares : (d i : ℕ) (f g : Model) → Shares
substitute_shares d i f g =
    let K = largest_exponent i f.terms in
    carrying f.radius (horner_shares d i f g K (part i K f) no_shares)

-- U × what a step adds to its operand's radius, under rounding or swept; the old radius is carried
unfoldable pub grown : (e rounding swept : ℕ) → Shares
grown e rounding swept = record { carried = U * e; rounding = U * rounding; swept = U * swept; slack = 0 }

-- a sweep: U × each dropped |c| under swept
unfoldable pub sweep_shares : (t : ℕ) → Model → Shares
sweep_shares t f = grown f.radius 0 (size (select (is_small t) f.terms))

-- running litres: U × their growth under rounding or swept
unfoldable pub antiderivative_shares : (d i : ℕ) → Model → Shares
antiderivative_shares d i f = grown f.radius (growth_rounding d i f) (growth_swept d i f)

-- any other step is all carried
unfoldable pub all_carried : Model → Shares
all_carried m = grown m.radius 0 0

-- a step with the result m, where r a is the result of step a
unfoldable pub step_shares : Book → (r : ℕ → Model) → Step → (m : Model) → Shares
step_shares book r (input a) m = all_carried m
step_shares book r (constant value) m = all_carried m
step_shares book r (variable v) m = all_carried m
step_shares book r (negate a) m = all_carried m
step_shares book r (add a b) m = all_carried m
step_shares book r (subtract a b) m = all_carried m
step_shares book r (multiply a b) m = product_shares book.order (r a) (r b)
step_shares book r (substitute a b v) m = substitute_shares book.order v (r a) (r b)
step_shares book r (sweep a value) m = sweep_shares (nat_abs value) (r a)
step_shares book r (quotient a b h w) m = all_carried m
step_shares book r (antiderivative a v) m = antiderivative_shares book.order v (r a)

-- ---- of a run
-- what follows an accepted answer; nothing with a refusal
unfoldable pub rows_of : {A B : Type 0} → Answer A → (A → List B) → List B
rows_of (accepted a) f = f a
rows_of (refused r) f = []

-- the rows of the steps, each after the results so far; a refused step has none, nor have those after it
unfoldable pub run_shares : Book → List Model → List Step → List Shares
run_shares book results [] = []
run_shares book results (s ∷ l) =
    rows_of (run_step book (result_of book results) s)
    (λ m. step_shares book (result_of book results) s m ∷ run_shares book (results ++ (m ∷ [])) l)

-- 64 rows: zeros after those that there are
unfoldable pub all_rows : List Shares → List Shares
all_rows l = l ++ replicate (most_steps - length l) no_shares

-- of a book that passes the tests
unfoldable pub rows_sound : Book → List Shares
rows_sound book = run_shares book [] book.steps

-- what is reported: with a refusal by a test zeros for all steps
unfoldable pub reported : Result (List Shares) → List Shares
reported r = all_rows (returned [] r).value

-- of any book
unfoldable pub shares_rows : Book → List Shares
shares_rows book = reported (tested book (done (rows_sound book)))
