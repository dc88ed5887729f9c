-- The rows of a run: whose results they are, how many there are, and what the last one and a refused run's ones say.
use Rattle.std.proofs.Math.Path.{◌≡◌, ap}
use Rattle.std.specs.Prelude.{refl, ◌&&◌, T, leb, get_or}
use Rattle.std.proofs.Common.{sym, ◌∙◌, subst}
use mathlib.Core.List.{List, [], ◌∷◌, ◌++◌, append_assoc, append-nil}
use Prim.Native.Nat.{ℕ, zero, suc, ◌+◌, ◌-◌, ◌<◌, ◌≤◌}
use native.Mathlib.Omega.{arith}
use Rattle.std.proofs.Math.ListN.{length, take}
use Rattle.calculus.specs.Model.{Model, zero_model, between}
use Rattle.calculus.specs.Refusal.{Refusal, Answer, accepted, refused, Result, done, stopped, at_place}
use Rattle.calculus.specs.Refusal.{returned, ◌followed_by◌}
use Rattle.calculus.specs.Book.{Step, Book, most_models, most_steps, limits_sound, tested, result_of, run_step}
use Rattle.calculus.specs.Book.{run_steps, last, Summary, summary, run, run_sound}
use Rattle.calculus.specs.Tests.{vars_sound, order_sound}
use Rattle.calculus_laws.specs.TestLaws.{and_right}
use Rattle.calculus_laws.specs.BookLaws.{Passes, Done, tested_done, run_done, run_passes, between_low}
use Rattle.calculus_laws.specs.BookLaws.{between_high, Ran, sound_ran, next_number}
use Rattle.calculus.specs.Shares.{Shares, rows_of, no_shares, rows_sound, reported, shares_rows}
use Rattle.calculus_laws.specs.ShareLaws.{Accounts, results_from, results_before, all_done, before_stopped}
use Rattle.calculus_laws.specs.ShareLaws.{row_accounts, row_none, length_rows, few_rows}

-- ---- what the tests and the run say of the steps
step_count : (book : Book) → Passes book → T (between 1 most_steps (length book.steps))
unfolding limits_sound
step_count book p = and_right
    (vars_sound book.vars && order_sound book.order && leb (length book.models) most_models) _ p.limits

some_step : (book : Book) → Passes book → 1 ≤ length book.steps
some_step book p = between_low 1 most_steps (length book.steps) (step_count book p)

few_steps : (book : Book) → Passes book → length book.steps ≤ most_steps
few_steps book p = between_high 1 most_steps (length book.steps) (step_count book p)

done_same : {A : Type 0} {a b : A} → ◌≡◌ {A = Result A} (done a) (done b) → a ≡ b
done_same h = cc

-- the last of a list is the one at its length less 1
last_after : {A : Type 0} (d a : A) (l : List A) → get_or (a ∷ l) (length l) d ≡ last a l
unfolding last
last_after d a [] = refl
last_after d a (c ∷ l) = last_after d c l

last_at : {A : Type 0} (d : A) (l : List A) → 1 ≤ length l → get_or l (length l - 1) d ≡ last d l
unfolding last
last_at d [] h = absurd (omega arith)
last_at d (a ∷ l) h =
    let e : suc (length l) - 1 ≡ length l = omega arith in ap (λ i. get_or (a ∷ l) i d) e ∙ last_after d a l

steps_stopped : (book : Book) (r : Refusal) (i : ℕ) → run_sound book ≡ stopped r i
    → run_steps book [] book.steps ≡ stopped r i
unfolding run_sound ◌followed_by◌
steps_stopped book r i h = go (run_steps book [] book.steps) h
  where
    go : (t : Result (List Model))
        → (t followed_by (λ results. done (summary (last (zero_model book.vars) results)))) ≡ stopped r i
        → t ≡ stopped r i
    go (done l) e = let z : ◌≡◌ {A = ℕ} 0 1 = cc in absurd (omega arith)
    go (stopped q j) e = cc

-- ---- the rows
module _ (book : Book) where
  run_from : (results : List Model) (l : List Step) (i : ℕ) → i ≤ length (results_from book results l)
      → run_steps book results (take i l) ≡ done (results ++ take i (results_from book results l))
  unfolding run_steps results_from at_place ◌followed_by◌ rows_of
  run_from results l zero h = ap done (sym (append-nil results))
  run_from results [] (suc i) h = absurd (omega arith)
  run_from results (s ∷ l) (suc i) h =
      go (λ m. run_from (results ++ (m ∷ [])) l i) (run_step book (result_of book results) s) h
    where
      go : ((m : Model) → i ≤ length (results_from book (results ++ (m ∷ [])) l)
          → run_steps book (results ++ (m ∷ [])) (take i l)
          ≡ done ((results ++ (m ∷ [])) ++ take i (results_from book (results ++ (m ∷ [])) l)))
          → (a : Answer Model)
          → suc i ≤ length (rows_of a (λ m. m ∷ results_from book (results ++ (m ∷ [])) l))
          → (at_place (length results) a followed_by (λ m. run_steps book (results ++ (m ∷ [])) (take i l)))
          ≡ done (results ++ take (suc i) (rows_of a (λ m. m ∷ results_from book (results ++ (m ∷ [])) l)))
      go k (accepted m) h = k m (omega arith) ∙ ap done (append_assoc results (m ∷ []) _)
      go k (refused r) h = absurd (omega arith)

  -- THEOREM: the results before a refused step are those that the run of the steps up to there gives
  pub before_run : (i : ℕ) → i ≤ length (results_before book)
      → run_steps book [] (take i book.steps) ≡ done (take i (results_before book))
  unfolding results_before
  before_run i h = run_from [] book.steps i h

  -- a run that is done has a result for each step
  done_length : (results : List Model) (l : List Step) (all : List Model) → run_steps book results l ≡ done all
      → length all ≡ length results + length l
  unfolding run_steps at_place ◌followed_by◌
  done_length results [] all h = let e : results ≡ all = cc in ap length (sym e) ∙ omega arith
  done_length results (s ∷ l) all h =
      go (λ m. done_length (results ++ (m ∷ [])) l all) (run_step book (result_of book results) s) h
    where
      go : ((m : Model) → run_steps book (results ++ (m ∷ [])) l ≡ done all
          → length all ≡ length (results ++ (m ∷ [])) + length l)
          → (a : Answer Model)
          → (at_place (length results) a followed_by (λ m. run_steps book (results ++ (m ∷ [])) l)) ≡ done all
          → length all ≡ length results + suc (length l)
      go k (accepted m) e = omega (arith, next_number results m, k m e)
      go k (refused r) e = let z : ◌≡◌ {A = ℕ} 0 1 = cc in absurd (omega arith)

  -- THEOREM: the row of the last step of an accepted book sums to U × the radius of the answer
  pub last_accounts : (s : Summary) → run book ≡ done s
      → Accounts (get_or (shares_rows book) (length book.steps - 1) no_shares) s.model
  last_accounts s h = subst (Accounts (get_or (shares_rows book) (length book.steps - 1) no_shares))
      (ap (λ l. get_or l (length book.steps - 1) (zero_model book.vars)) all ∙ at_last ∙ model_is)
      (row_accounts book p (length book.steps - 1) inside)
    where
      p : Passes book
      p = (run_done book s h).passes

      r : Ran book s
      r = sound_ran book s (run_done book s h).result

      all : results_before book ≡ r.results
      all = all_done book r.results r.ran

      many : length r.results ≡ length book.steps
      many = omega (arith, done_length [] book.steps r.results r.ran)

      inside : length book.steps - 1 < length (results_before book)
      inside = omega (arith, ap length all, many, some_step book p)

      at_last : get_or r.results (length book.steps - 1) (zero_model book.vars)
          ≡ last (zero_model book.vars) r.results
      at_last = ap (λ n. get_or r.results (n - 1) (zero_model book.vars)) (sym many)
          ∙ last_at (zero_model book.vars) r.results (omega (arith, many, some_step book p))

      model_is : last (zero_model book.vars) r.results ≡ s.model
      model_is = unfold summary in ap (λ (t : Summary). t.model) r.is_summary

  -- THEOREM: a book that passes the tests and whose run is refused at step i reports zeros from that row on
  pub refused_rows : Passes book → (r : Refusal) (i : ℕ) → run book ≡ stopped r i
      → (j : ℕ) → i ≤ j → get_or (shares_rows book) j no_shares ≡ no_shares
  refused_rows p r i h j l = row_none book p j (omega (arith, before_stopped book r i stop))
    where
      stop : run_steps book [] book.steps ≡ stopped r i
      stop = steps_stopped book r i (sym (run_passes book p) ∙ h)

-- THEOREM: there are 64 rows, whatever the book
pub rows_count : (book : Book) → length (shares_rows book) ≡ most_steps
unfolding shares_rows
rows_count book = go (tested book (done (rows_sound book))) refl
  where
    go : (t : Result (List Shares)) → tested book (done (rows_sound book)) ≡ t → length (reported t) ≡ most_steps
    go (done l) e = unfold reported returned in length_rows l (few (tested_done book (done (rows_sound book)) l e))
      where
        few : Done book (done (rows_sound book)) l → length l ≤ most_steps
        few d = let k : rows_sound book ≡ l = done_same d.result in
            omega (arith, ap length k, few_rows book, few_steps book d.passes)
    go (stopped r i) e = unfold reported returned in length_rows [] (omega arith)
