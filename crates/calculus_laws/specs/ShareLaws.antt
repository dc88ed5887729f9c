-- The four shares of every accepted step sum to U times its radius; which row is which step's.
use Rattle.std.proofs.Math.Path.{◌≡◌, refl, sym, ap}
use Rattle.std.proofs.Common.{◌∙◌, length-append}
use mathlib.Core.List.{List, [], ◌∷◌, ◌++◌, append_assoc, append-nil}
use Prim.Native.Nat.{ℕ, zero, suc, ◌+◌, ◌-◌, ◌*◌, ◌<◌, ◌≤◌}
use native.Mathlib.Omega.{arith}
use Rattle.std.specs.Prelude.{nat_abs}
use Rattle.std.proofs.Math.ListN.{length, get_or, take, get_or-eq_default}
use Rattle.std.proofs.lemmas.List.{length-replicate}
use Rattle.numbers.specs.Fixed.{U, round_up}
use Rattle.numbers.proofs.FixedLaws.{round_up_ok}
use Rattle.calculus.specs.Terms.{size, select}
use Rattle.calculus.specs.Model.{Model, zero_model}
use Rattle.calculus.specs.Refusal.{Refusal, leaves_box, Answer, accepted, refused, ◌then◌, done, stopped}
use Rattle.calculus.specs.Refusal.{at_place, returned, ◌followed_by◌}
use Rattle.calculus.specs.Operations as Op
use Rattle.calculus.specs.Operations.{error, part, horner, widen, largest_exponent, range_in_box}
use Rattle.calculus.specs.Operations.{is_small, growth_rounding, growth_swept}
use Rattle.calculus.specs.Book.{Step, input, constant, variable, negate, add, subtract, multiply, substitute}
use Rattle.calculus.specs.Book.{sweep, quotient, antiderivative, Book, most_steps, tested, result_of}
use Rattle.calculus.specs.Book.{run_step, run_steps}
use Rattle.calculus_laws.specs.FilledLaws.{filled_after}
use Rattle.calculus_laws.specs.RefusalLaws.{IfAccepted, holds, vacuous, require_accepted, then_accepted}
use Rattle.calculus_laws.specs.EnclosureLaws.{limited_accepted}
use Rattle.calculus_laws.specs.BookLaws.{Passes, tested_passes, next_number}
use Rattle.calculus.specs.Shares.{Shares, no_shares, shares_sum, product_shares, shares_of, horner_shares}
use Rattle.calculus.specs.Shares.{carrying, substitute_shares, grown, sweep_shares, antiderivative_shares}
use Rattle.calculus.specs.Shares.{all_carried, step_shares, rows_of, run_shares, all_rows, rows_sound, reported}
use Rattle.calculus.specs.Shares.{shares_rows}

-- ---- the sum, step by step
-- U × the radius of m
abbrev pub Accounts : Shares → Model → Type 0
Accounts s m = shares_sum s ≡ U * m.radius

grown_sum : (e a b : ℕ) → shares_sum (grown e a b) ≡ U * (e + a + b)
unfolding shares_sum grown
grown_sum e a b = omega arith

product_sum : (d : ℕ) (f g : Model) → shares_sum (product_shares d f g) ≡ U * round_up (error d f g)
unfolding shares_sum product_shares Op.slack error
product_sum d f g = let h = round_up_ok (error d f g) in omega arith

product_accounts : (d : ℕ) (f g : Model) → IfAccepted (Accounts (product_shares d f g)) (Op.multiply d f g)
unfolding Op.multiply
product_accounts d f g = limited_accepted {P = Accounts (product_shares d f g)} _ (product_sum d f g)

-- a part has radius 0, so that its sum with a product keeps the product's
added_accounts : (s : Shares) (p : Model) (i k : ℕ) (f : Model) → Accounts s p
    → IfAccepted (Accounts s) (Op.add p (part i k f))
unfolding Op.add part
added_accounts s p i k f h = limited_accepted {P = Accounts s} _ (h ∙ ap (λ e. U * e) (omega arith))

-- what an answer leads to, if it is accepted
led : {A : Type 0} {P : A → Type 0} {a : Answer A} (f : A → Shares) {g : A → Answer Model}
    → IfAccepted P a → ((x : A) → P x → IfAccepted (Accounts (f x)) (g x))
    → IfAccepted (Accounts (shares_of a f)) (a then g)
unfolding shares_of ◌then◌
led f (holds {a = x} h) k = k x h
led f vacuous k = vacuous

module _ (d i : ℕ) (f g : Model) where
  horner_accounts : (k : ℕ) (h : Model) (s : Shares) → Accounts s h
      → IfAccepted (Accounts (horner_shares d i f g k h s)) (horner d i f g k h)
  unfolding horner_shares horner
  horner_accounts zero h s l = holds l
  horner_accounts (suc k) h s l = led (λ q. horner_shares d i f g k q (product_shares d h g))
      (then_accepted (product_accounts d h g) (λ p. added_accounts (product_shares d h g) p i k f))
      (λ q. horner_accounts k q (product_shares d h g))

  widened_accounts : (s : Shares) (h : Model) → Accounts s h
      → IfAccepted (Accounts (carrying f.radius s)) (widen f.radius h)
  unfolding widen carrying shares_sum
  widened_accounts s h l = limited_accepted {P = Accounts (carrying f.radius s)} _ total
    where
      total : shares_sum (carrying f.radius s) ≡ U * (h.radius + f.radius)
      total = omega (arith, l)

  substitute_accounts : IfAccepted (Accounts (substitute_shares d i f g)) (Op.substitute d i f g)
  unfolding substitute_shares Op.substitute no_shares shares_sum part
  substitute_accounts = require_accepted (range_in_box g) leaves_box _
      (λ t. then_accepted (horner_accounts K (part i K f) no_shares first) (widened_accounts _))
    where
      K : ℕ
      K = largest_exponent i f.terms

      first : Accounts no_shares (part i K f)
      first = omega arith

sweep_accounts : (t : ℕ) (f : Model) → Accounts (sweep_shares t f) (Op.sweep t f)
unfolding sweep_shares Op.sweep
sweep_accounts t f = grown_sum f.radius 0 (size (select (is_small t) f.terms)) ∙ ap (λ e. U * e) (omega arith)

antiderivative_accounts : (d i : ℕ) (f : Model) → Accounts (antiderivative_shares d i f) (Op.antiderivative d i f)
unfolding antiderivative_shares Op.antiderivative
antiderivative_accounts d i f = grown_sum f.radius (growth_rounding d i f) (growth_swept d i f)

carried_accounts : (m : Model) → Accounts (all_carried m) m
unfolding all_carried
carried_accounts m = grown_sum m.radius 0 0 ∙ ap (λ e. U * e) (omega arith)

each_accounts : (a : Answer Model) → IfAccepted (λ m. Accounts (all_carried m) m) a
each_accounts (accepted m) = holds (carried_accounts m)
each_accounts (refused r) = vacuous

-- THEOREM: the shares of an accepted step sum to U × the radius of its result
pub step_accounts : (book : Book) (r : ℕ → Model) (s : Step)
    → IfAccepted (λ m. Accounts (step_shares book r s m) m) (run_step book r s)
unfolding step_shares run_step
step_accounts book r (input a) = each_accounts _
step_accounts book r (constant value) = each_accounts _
step_accounts book r (variable v) = each_accounts _
step_accounts book r (negate a) = each_accounts _
step_accounts book r (add a b) = each_accounts _
step_accounts book r (subtract a b) = each_accounts _
step_accounts book r (multiply a b) = product_accounts book.order (r a) (r b)
step_accounts book r (substitute a b v) = substitute_accounts book.order v (r a) (r b)
step_accounts book r (sweep a value) = holds (sweep_accounts (nat_abs value) (r a))
step_accounts book r (quotient a b h w) = each_accounts _
step_accounts book r (antiderivative a v) = holds (antiderivative_accounts book.order v (r a))

-- ---- which row is which step's
-- the results of the steps before the first that is refused
unfoldable pub results_from : Book → List Model → List Step → List Model
results_from book results [] = []
results_from book results (s ∷ l) =
    rows_of (run_step book (result_of book results) s) (λ m. m ∷ results_from book (results ++ (m ∷ [])) l)

-- of a whole book
unfoldable pub results_before : Book → List Model
results_before book = results_from book [] book.steps

module _ (book : Book) where
  -- what none has
  abbrev none : Model
  none = zero_model book.vars

  counted : (results : List Model) (l : List Step)
      → length (run_shares book results l) ≡ length (results_from book results l)
  unfolding run_shares results_from rows_of
  counted results [] = refl
  counted results (s ∷ l) = go (λ m. counted (results ++ (m ∷ [])) l) (run_step book (result_of book results) s)
    where
      go : ((m : Model) → length (run_shares book (results ++ (m ∷ [])) l)
          ≡ length (results_from book (results ++ (m ∷ [])) l))
          → (a : Answer Model)
          → length (rows_of a (λ m. step_shares book (result_of book results) s m
          ∷ run_shares book (results ++ (m ∷ [])) l))
          ≡ length (rows_of a (λ m. m ∷ results_from book (results ++ (m ∷ [])) l))
      go k (accepted m) = ap suc (k m)
      go k (refused r) = refl

  -- the row of a step is made of the results before it, and of its own
  row_at : (results : List Model) (l : List Step) (i : ℕ) → i < length (results_from book results l)
      → get_or (run_shares book results l) i no_shares
      ≡ step_shares book (result_of book (results ++ take i (results_from book results l))) (get_or l i (input 0))
      (get_or (results_from book results l) i none)
  unfolding run_shares results_from rows_of
  row_at results [] i h = absurd (omega arith)
  row_at results (s ∷ l) i h =
      go (λ m. row_at (results ++ (m ∷ [])) l) (run_step book (result_of book results) s) i h
    where
      go : ((m : Model) (i : ℕ) → i < length (results_from book (results ++ (m ∷ [])) l)
          → get_or (run_shares book (results ++ (m ∷ [])) l) i no_shares
          ≡ step_shares book (result_of book ((results ++ (m ∷ []))
          ++ take i (results_from book (results ++ (m ∷ [])) l))) (get_or l i (input 0))
          (get_or (results_from book (results ++ (m ∷ [])) l) i none))
          → (a : Answer Model) (i : ℕ) → i < length (rows_of a (λ m. m ∷ results_from book (results ++ (m ∷ [])) l))
          → get_or (rows_of a (λ m. step_shares book (result_of book results) s m
          ∷ run_shares book (results ++ (m ∷ [])) l)) i no_shares
          ≡ step_shares book (result_of book (results
          ++ take i (rows_of a (λ m. m ∷ results_from book (results ++ (m ∷ [])) l)))) (get_or (s ∷ l) i (input 0))
          (get_or (rows_of a (λ m. m ∷ results_from book (results ++ (m ∷ [])) l)) i none)
      go k (accepted m) zero h = ap (λ r. step_shares book (result_of book r) s m) (sym (append-nil results))
      go k (accepted m) (suc i) h = k m i (omega arith)
          ∙ ap (λ r. step_shares book (result_of book r) (get_or l i (input 0))
          (get_or (results_from book (results ++ (m ∷ [])) l) i none)) (append_assoc results (m ∷ []) _)
      go k (refused r) i h = absurd (omega arith)

  -- and its sum is U × the radius of its own
  sum_at : (results : List Model) (l : List Step) (i : ℕ) → i < length (results_from book results l)
      → Accounts (get_or (run_shares book results l) i no_shares) (get_or (results_from book results l) i none)
  unfolding run_shares results_from rows_of
  sum_at results [] i h = absurd (omega arith)
  sum_at results (s ∷ l) i h =
      go (λ m. sum_at (results ++ (m ∷ [])) l) (step_accounts book (result_of book results) s) i h
    where
      go : {a : Answer Model} → ((m : Model) (i : ℕ) → i < length (results_from book (results ++ (m ∷ [])) l)
          → Accounts (get_or (run_shares book (results ++ (m ∷ [])) l) i no_shares)
          (get_or (results_from book (results ++ (m ∷ [])) l) i none))
          → IfAccepted (λ m. Accounts (step_shares book (result_of book results) s m) m) a
          → (i : ℕ) → i < length (rows_of a (λ m. m ∷ results_from book (results ++ (m ∷ [])) l))
          → Accounts (get_or (rows_of a (λ m. step_shares book (result_of book results) s m
          ∷ run_shares book (results ++ (m ∷ [])) l)) i no_shares)
          (get_or (rows_of a (λ m. m ∷ results_from book (results ++ (m ∷ [])) l)) i none)
      go k (holds {a = m} e) zero h = e
      go k (holds {a = m} e) (suc i) h = k m i (omega arith)
      go k vacuous i h = absurd (omega arith)

  -- a run that is done has all its results, and one that is stopped those before the refused step
  done_from : (results : List Model) (l : List Step) (all : List Model) → run_steps book results l ≡ done all
      → results ++ results_from book results l ≡ all
  unfolding run_steps results_from at_place ◌followed_by◌ rows_of
  done_from results [] all h = append-nil results ∙ cc
  done_from results (s ∷ l) all h =
      go (λ m. done_from (results ++ (m ∷ [])) l all) (run_step book (result_of book results) s) h
    where
      go : ((m : Model) → run_steps book (results ++ (m ∷ [])) l ≡ done all
          → (results ++ (m ∷ [])) ++ results_from book (results ++ (m ∷ [])) l ≡ all)
          → (a : Answer Model)
          → (at_place (length results) a followed_by (λ m. run_steps book (results ++ (m ∷ [])) l)) ≡ done all
          → results ++ rows_of a (λ m. m ∷ results_from book (results ++ (m ∷ [])) l) ≡ all
      go k (accepted m) e = sym (append_assoc results (m ∷ []) _) ∙ k m e
      go k (refused r) e = let z : ◌≡◌ {A = ℕ} 0 1 = cc in absurd (omega arith)

  stopped_from : (results : List Model) (l : List Step) (r : Refusal) (i : ℕ) → run_steps book results l ≡ stopped r i
      → length results + length (results_from book results l) ≡ i
  unfolding run_steps results_from at_place ◌followed_by◌ rows_of
  stopped_from results [] r i h = let z : ◌≡◌ {A = ℕ} 0 1 = cc in absurd (omega arith)
  stopped_from results (s ∷ l) r i h =
      go (λ m. stopped_from (results ++ (m ∷ [])) l r i) (run_step book (result_of book results) s) h
    where
      go : ((m : Model) → run_steps book (results ++ (m ∷ [])) l ≡ stopped r i
          → length (results ++ (m ∷ [])) + length (results_from book (results ++ (m ∷ [])) l) ≡ i)
          → (a : Answer Model)
          → (at_place (length results) a followed_by (λ m. run_steps book (results ++ (m ∷ [])) l)) ≡ stopped r i
          → length results + length (rows_of a (λ m. m ∷ results_from book (results ++ (m ∷ [])) l)) ≡ i
      go k (accepted m) e = omega (arith, next_number results m, k m e)
      go k (refused q) e = let z : length results ≡ i = cc in omega arith

  pub all_done : (all : List Model) → run_steps book [] book.steps ≡ done all → results_before book ≡ all
  unfolding results_before
  all_done all h = done_from [] book.steps all h

  pub before_stopped : (r : Refusal) (i : ℕ) → run_steps book [] book.steps ≡ stopped r i
      → length (results_before book) ≡ i
  unfolding results_before
  before_stopped r i h = omega (arith, stopped_from [] book.steps r i h)

-- ---- among the 64 rows
rows_kept : (l : List Shares) (i : ℕ) → get_or (all_rows l) i no_shares ≡ get_or l i no_shares
unfolding all_rows
rows_kept l i = filled_after no_shares l (most_steps - length l) i

rows_after : (l : List Shares) (i : ℕ) → length l ≤ i → get_or (all_rows l) i no_shares ≡ no_shares
rows_after l i h = rows_kept l i ∙ get_or-eq_default l no_shares {n = i} h

module _ (book : Book) (p : Passes book) where
  rows_are : shares_rows book ≡ all_rows (rows_sound book)
  unfolding shares_rows reported returned
  rows_are = ap reported (tested_passes book (done (rows_sound book)) p)

  -- THEOREM: row i is that of the run's i-th result,
  pub row_is : (i : ℕ) → i < length (results_before book)
      → get_or (shares_rows book) i no_shares
      ≡ step_shares book (result_of book (take i (results_before book))) (get_or book.steps i (input 0))
      (get_or (results_before book) i (zero_model book.vars))
  unfolding results_before rows_sound
  row_is i h = ap (λ l. get_or l i no_shares) rows_are
      ∙ rows_kept (run_shares book [] book.steps) i
      ∙ row_at book [] book.steps i h

  -- whose radius times U is its sum;
  pub row_accounts : (i : ℕ) → i < length (results_before book)
      → Accounts (get_or (shares_rows book) i no_shares) (get_or (results_before book) i (zero_model book.vars))
  unfolding results_before rows_sound
  row_accounts i h = ap shares_sum (ap (λ l. get_or l i no_shares) rows_are
      ∙ rows_kept (run_shares book [] book.steps) i)
      ∙ sum_at book [] book.steps i h

  -- from a refused step on, and beyond the steps, rows are zeros
  pub row_none : (i : ℕ) → length (results_before book) ≤ i → get_or (shares_rows book) i no_shares ≡ no_shares
  unfolding results_before rows_sound
  row_none i h = ap (λ l. get_or l i no_shares) rows_are
      ∙ rows_after (run_shares book [] book.steps) i (omega (arith, counted book [] book.steps))

-- and all of a book that a test refuses
pub no_rows : (book : Book) (r : Refusal) (i : ℕ) → tested book (done (rows_sound book)) ≡ stopped r i
    → (j : ℕ) → get_or (shares_rows book) j no_shares ≡ no_shares
unfolding shares_rows reported returned
no_rows book r i e j = ap (λ t. get_or (reported t) j no_shares) e ∙ rows_after [] j (omega arith)

-- ---- how many rows there are
few_shares : (book : Book) (results : List Model) (l : List Step) → length (run_shares book results l) ≤ length l
unfolding run_shares rows_of
few_shares book results [] = omega arith
few_shares book results (s ∷ l) =
    go (λ m. few_shares book (results ++ (m ∷ [])) l) (run_step book (result_of book results) s)
  where
    go : ((m : Model) → length (run_shares book (results ++ (m ∷ [])) l) ≤ length l)
        → (a : Answer Model)
        → length (rows_of a (λ m. step_shares book (result_of book results) s m
        ∷ run_shares book (results ++ (m ∷ [])) l)) ≤ suc (length l)
    go k (accepted m) = let h = k m in omega arith
    go k (refused r) = omega arith

-- 64, where there are no more than that before zeros are put after them
pub length_rows : (l : List Shares) → length l ≤ most_steps → length (all_rows l) ≡ most_steps
unfolding all_rows
length_rows l h = simp (length-append, length-replicate) (omega arith)

-- no more than the steps
pub few_rows : (book : Book) → length (rows_sound book) ≤ length book.steps
unfolding rows_sound
few_rows book = few_shares book [] book.steps
