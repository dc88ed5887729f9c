-- Mirrored steps: where one result is another's negation, multiplying it and then negating answers what multiplying the
-- other answers, a model or a refusal.
use Rattle.std.specs.Prelude.{◌≡◌, List, [], ◌∷◌, ◌++◌, ℕ, length, get_or}
use Rattle.std.proofs.Math.Path.{refl, ap}
use Rattle.std.proofs.Common.{sym, ◌∙◌, arith}
use Rattle.calculus.specs.Model.{Model, zero_model}
use Rattle.calculus.specs.Refusal.{Answer, accepted, refused, Result, done, at_place, ◌then◌, ◌followed_by◌}
use Rattle.calculus.specs.Operations as Op
use Rattle.calculus.specs.Book.{Step, negate, multiply, Book, result_of, run_step, run_steps, last, Summary}
use Rattle.calculus.specs.Book.{summary, run_sound}
use Rattle.calculus_laws.specs.MirrorLaws.{mirrored, mirrored_twice, mirrored_first, mirrored_second}

-- ---- one step, where r a is the result of step a and that of step a is the negation of that of step c
module _ (book : Book) (r : ℕ → Model) (a c : ℕ) (turned : r a ≡ Op.negate (r c)) where
  -- as the first factor; b may be a itself, and then it stays as it is
  pub step_first : (b : ℕ) → mirrored (run_step book r (multiply a b)) ≡ run_step book r (multiply c b)
  unfolding run_step
  step_first b = ap (λ f. mirrored (Op.multiply book.order f (r b))) turned
      ∙ ap mirrored (mirrored_first book.order (r c) (r b)) ∙ mirrored_twice _

  -- as the second
  pub step_second : (b : ℕ) → mirrored (run_step book r (multiply b a)) ≡ run_step book r (multiply b c)
  unfolding run_step
  step_second b = ap (λ g. mirrored (Op.multiply book.order (r b) g)) turned
      ∙ ap mirrored (mirrored_second book.order (r b) (r c)) ∙ mirrored_twice _

-- ---- steps that follow each other in a run
-- what a run ends with that has these results and takes these steps
unfoldable pub ends_with : Book → List Model → List Step → Result Summary
ends_with book results l =
    run_steps book results l followed_by (λ all. done (summary (last (zero_model book.vars) all)))

-- the run of a book is that from no results on
pub run_ends : (book : Book) → run_sound book ≡ ends_with book [] book.steps
unfolding run_sound ends_with
run_ends book = refl

-- after steps that were done it goes on from their results
pub ends_after : (book : Book) (before all : List Model) (k l : List Step) → run_steps book before k ≡ done all
    → ends_with book before (k ++ l) ≡ ends_with book all l
unfolding run_steps ends_with at_place ◌followed_by◌
ends_after book before all [] l e = ap (λ results. ends_with book results l) cc
ends_after book before all (s ∷ k) l e =
    go (run_step book (result_of book before) s) e (λ m. ends_after book (before ++ (m ∷ [])) all k l)
  where
    go : (x : Answer Model)
        → (at_place (length before) x followed_by (λ m. run_steps book (before ++ (m ∷ [])) k)) ≡ done all
        → ((m : Model) → run_steps book (before ++ (m ∷ [])) k ≡ done all
        → ends_with book (before ++ (m ∷ [])) (k ++ l) ≡ ends_with book all l)
        → ((at_place (length before) x followed_by (λ m. run_steps book (before ++ (m ∷ [])) (k ++ l)))
        followed_by (λ all. done (summary (last (zero_model book.vars) all))))
        ≡ ends_with book all l
    go (accepted m) h ih = ih m h
    go (refused w) h ih = let z : ◌≡◌ {A = ℕ} 0 1 = cc in absurd (omega arith)

last_snoc : (m n : Model) (l : List Model) → last m (l ++ (n ∷ [])) ≡ n
unfolding last
last_snoc m n [] = refl
last_snoc m n (k ∷ l) = last_snoc k n l

result_snoc : (book : Book) (l : List Model) (m : Model) → result_of book (l ++ (m ∷ [])) (length l) ≡ m
unfolding result_of
result_snoc book l m = go l
  where
    go : (l : List Model) → get_or (l ++ (m ∷ [])) (length l) (zero_model book.vars) ≡ m
    go [] = refl
    go (k ∷ l) = go l

-- the last answer's summary, at the place that comes after the results
abbrev last_answer : List Model → Answer Model → Result Summary
last_answer results x = at_place (length results) x followed_by (λ m. done (summary m))

-- one step
one_step : (book : Book) (results : List Model) (s : Step)
    → ends_with book results (s ∷ []) ≡ last_answer results (run_step book (result_of book results) s)
unfolding ends_with run_steps
one_step book results s = go (run_step book (result_of book results) s)
  where
    go : (x : Answer Model)
        → ((at_place (length results) x followed_by (λ m. done (results ++ (m ∷ []))))
        followed_by (λ all. done (summary (last (zero_model book.vars) all))))
        ≡ last_answer results x
    go (accepted m) = unfold at_place ◌followed_by◌ in ap (λ n. done (summary n)) (last_snoc _ m results)
    go (refused w) = unfold at_place ◌followed_by◌ in refl

-- a step, and then the negation of its result
and_negated : (book : Book) (results : List Model) (s : Step)
    → ends_with book results (s ∷ negate (length results) ∷ [])
    ≡ last_answer results (mirrored (run_step book (result_of book results) s))
unfolding ends_with run_steps
and_negated book results s = go (run_step book (result_of book results) s)
  where
    go : (x : Answer Model)
        → ((at_place (length results) x
        followed_by (λ m. run_steps book (results ++ (m ∷ [])) (negate (length results) ∷ [])))
        followed_by (λ all. done (summary (last (zero_model book.vars) all))))
        ≡ last_answer results (mirrored x)
    go (accepted m) = unfold at_place ◌followed_by◌ mirrored ◌then◌ run_step in
        (one_step book (results ++ (m ∷ [])) (negate (length results))
        ∙ ap (λ n. done (summary (Op.negate n))) (result_snoc book results m))
    go (refused w) = unfold at_place ◌followed_by◌ mirrored ◌then◌ in refl

-- in every run where the result of step a is the negation of that of step c
module _ (book : Book) (results : List Model) (a c : ℕ)
    (turned : result_of book results a ≡ Op.negate (result_of book results c)) (b : ℕ) where
  pub run_first : ends_with book results (multiply a b ∷ negate (length results) ∷ [])
      ≡ ends_with book results (multiply c b ∷ [])
  run_first = and_negated book results (multiply a b)
      ∙ ap (last_answer results) (step_first book (result_of book results) a c turned b)
      ∙ sym (one_step book results (multiply c b))

  pub run_second : ends_with book results (multiply b a ∷ negate (length results) ∷ [])
      ≡ ends_with book results (multiply b c ∷ [])
  run_second = and_negated book results (multiply b a)
      ∙ ap (last_answer results) (step_second book (result_of book results) a c turned b)
      ∙ sym (one_step book results (multiply b c))
