-- From the exact answer of a run to what it encloses, and from the answers of the tests to that of a run.
use Rattle.std.proofs.Math.Path.{◌≡◌, refl, sym, ap, ap₂, subst}
use Rattle.std.proofs.Common.{◌∙◌, arith}
use Rattle.std.specs.Prelude.{List, [], ℕ, ◌≤◌, eqb, replicate}
use Rattle.std.proofs.Math.Dec.{T}
use Rattle.calculus.specs.Model as C
use Rattle.calculus.specs.Model.{most_degree, sound, zero_model}
use Rattle.calculus.specs.Refusal.{Result, done, stopped, returned, ◌followed_by◌}
use Rattle.calculus_laws.specs.TestLaws.{and_right}
use Rattle.calculus.specs.Book as B
use Rattle.calculus.specs.Book.{most_steps, run_steps, last, summary, model_sound, run_sound}
use Rattle.calculus.specs.Shares.{Shares, no_shares, all_rows, rows_sound, reported}
use Rattle.calculus_laws.specs.BookSoundLaws.{result_sound}
use Rattle.claim.specs.Claim.{Claim}
use Rattle.claim.proofs.ClaimProof.{claim_sound}
use Rattle.model_types.specs.declared.Model.{Model}
use Rattle.model_types.specs.declared.Refusal.{Refusal}
use Rattle.std.specs.Prelude.{Ok, Err}
use Rattle.model_types.specs.ModelStruct.{refused_at}
use Rattle.model_types.specs.declared.Answer.{Answer}
use Rattle.model_types.specs.ModelStruct.{view, pack, answer}
use Rattle.model_types.specs.SharesStruct.{stored_shares}
use Rattle.model_types.specs.ModelStructLaws.{view_pack_sound, refusal_cause}
use Rattle.format.specs.HeldBook.{HeldBook, view_book, HeldPasses}
use Rattle.format.specs.HeldBookLaws.{HeldDone, held_tested_done, view_passes}
use Rattle.format.specs.Format.{read, run_sheet, sheet_rows}
use Rattle.format.proofs.WriteBackLaws.{Came, came, read_passes}
use Rattle.format.specs.SheetClaim.{SheetClaim}
use Rattle.format.proofs.SheetClaimProof.{sheet_claim}
use Rattle.sheet_book.specs.declared.Book.{Book}
use Rattle.sheet_book.specs.BookStruct.{held_book, book_verdict}
use Rattle.sheet_book.specs.TestedLaws.{verdict_hands_on, verdict_refused}
use Rattle.sheet_book.specs.declared.Summary.{Summary}
use Rattle.sheet_book.specs.declared.Report.{Report}
use Rattle.sheet_book.specs.ReportStruct.{report}
use Rattle.sheet_book.specs.SummaryStruct.{refused_summary, run_answer, summary_of}
use Rattle.sheet_book.specs.SummaryStructLaws.{summary_back}
use Rattle.sheet.specs.ReadRun.{run_read, report_read, RunOf}
use Rattle.sheet_run_bytes.specs.RunBytes.{ran_read, ran_sheet}
use Rattle.sheet.specs.Sheet.{run_held, rows_held, Encloses, EnclosesBook}
use Rattle.sheet_summary.specs.model.OperationLaws.{sound_order}
use Rattle.sheet_run_bytes.specs.sheet_running.declared.Ran.{Ran}
use Rattle.sheet_run_bytes.specs.sheet_run_laws.LastResult.{last_result}
use Rattle.sheet_run_bytes.specs.sheet_running.Running.{ran}
use Rattle.sheet_run_bytes.specs.sheet_run_laws.RunLaws.{in_limits_of}

-- ---- the result of a held book that passes is sound
module _ (h : HeldBook) (p : HeldPasses h) (s : B.Summary) (e : run_sound (view_book h) ≡ done s) where
  order : h.d ≤ most_degree
  unfolding most_degree
  order = (in_limits_of p).d_high

  passed : T (sound h.d s.model)
  unfolding model_sound view_book
  passed = and_right (eqb s.model.vars h.n) _ (result_sound (view_book h) (view_passes h p) s e)

  model_back : view (pack s.model) ≡ s.model
  model_back = view_pack_sound h.d s.model order passed

  result_back : summary_of (run_answer (done s)) ≡ s
  result_back = summary_back s model_back

-- ---- the steps lead to a result and to the rows
module _ (h : HeldBook) {r : Ran} (e : r ≡ ran (view_book h)) where
  pub ran_answer : r.answer ≡ answer (last_result (view_book h))
  unfolding ran
  ran_answer = ap (λ r. r.answer) e

  -- beside what is answered
  pub with_rows : {s t : Summary} → s ≡ t
      → record { summary = s; shares = r.shares } ≡ report t (all_rows (rows_sound (view_book h)))
  unfolding ran report
  with_rows q = ap₂ (λ s l. record { summary = s; shares = l }) q (ap (λ r. r.shares) e)

-- and zeros beside a refusal by a test
pub zero_rows : {s t : Summary} → s ≡ t
    → record { summary = s; shares = replicate 64 (record { carried = 0; rounding = 0; swept = 0; slack = 0 }) }
    ≡ report t (all_rows [])
unfolding report all_rows most_steps stored_shares no_shares
zero_rows q = ap (λ s. report s (all_rows [])) q

-- ---- and the result to the answer
-- what is summarized: a sound model, and its summary is the answer of the run
pub record Summed (h : HeldBook) (m : Model) : Type 0 where
  pub is_sound : T (sound most_degree (view m))
  pub is_packed : pack (view m) ≡ m
  pub answers_run : run_answer (done (summary (view m))) ≡ run_answer (run_sound (view_book h))

-- the run goes on with the last result
run_from_last : (b : B.Book) → run_sound b ≡ (last_result b followed_by (λ m. done (summary m)))
unfolding run_sound last_result ◌followed_by◌
run_from_last b = go (run_steps b [] b.steps)
  where
    go : (a : Result (List C.Model))
        → (a followed_by (λ l. done (summary (last (zero_model b.vars) l))))
        ≡ ((a followed_by (λ l. done (last (zero_model b.vars) l))) followed_by (λ m. done (summary m)))
    go (done l) = refl
    go (stopped x i) = refl

module _ (h : HeldBook) {r : Answer} (e : r ≡ answer (last_result (view_book h))) where
  -- the run, where this is the last result
  from : (a : Result C.Model) → last_result (view_book h) ≡ a
      → run_sound (view_book h) ≡ (a followed_by (λ m. done (summary m)))
  from a q = run_from_last (view_book h) ∙ ap (λ a. a followed_by (λ m. done (summary m))) q

  pub summed : HeldPasses h → r.verdict ≡ Ok tt → Summed h r.model
  unfolding answer ◌followed_by◌ summary
  summed p v = go (last_result (view_book h)) refl e
    where
      go : (a : Result C.Model) → last_result (view_book h) ≡ a → r ≡ answer a → Summed h r.model
      go (done m) q k =
          let ran = from (done m) q in
          let packed : r.model ≡ pack m = ap (λ r. r.model) k in
          let back : view r.model ≡ m = ap view packed ∙ model_back h p (summary m) ran in
          record {
            is_sound = subst (λ m. T (sound most_degree m)) (sym back)
                (sound_order h.d m (order h p (summary m) ran) (passed h p (summary m) ran));
            is_packed = ap pack back ∙ sym packed;
            answers_run = ap (λ m. run_answer (done (summary m))) back ∙ sym (ap run_answer ran);
          }
      go (stopped x i) q k = let z : ◌≡◌ {A = ℕ} 0 1 = cc in absurd (omega arith)

  pub step_stopped : {x : Refusal} {y : ℕ} → r.verdict ≡ Err (refused_at x y)
      → refused_summary r.verdict ≡ run_answer (run_sound (view_book h))
  unfolding answer run_answer ◌followed_by◌
  step_stopped v = go (last_result (view_book h)) refl e
    where
      go : (a : Result C.Model) → last_result (view_book h) ≡ a → r ≡ answer a
          → refused_summary r.verdict ≡ run_answer (run_sound (view_book h))
      go (done m) q k = let z : ◌≡◌ {A = ℕ} 0 1 = cc in absurd (omega arith)
      go (stopped x i) q k = ap (λ r. refused_summary r.verdict) k ∙ sym (ap run_answer (from (stopped x i) q))

-- ---- the same of what was read, which a test may have refused
module _ {r : Ran} (t : RunOf r) where
  abbrev o : Result HeldBook
  o = t.read

  read_answered : r.answer ≡ answer (o followed_by (λ h. last_result (view_book h)))
  unfolding ran_read
  read_answered = ap (λ r. r.answer) t.is

  -- a model is summarized,
  pub record SummedRead (m : Model) : Type 0 where
    pub is_sound : T (sound most_degree (view m))
    pub is_packed : pack (view m) ≡ m
    pub answers_run : run_answer (done (summary (view m))) ≡ run_answer (run_read o)

  pub summed_read : r.answer.verdict ≡ Ok tt → SummedRead r.answer.model
  unfolding run_read ◌followed_by◌ answer
  summed_read v = go o refl read_answered
    where
      go : (a : Result HeldBook) → o ≡ a → r.answer ≡ answer (a followed_by (λ h. last_result (view_book h)))
          → SummedRead r.answer.model
      go (done h) p q =
          let s = summed h q (t.passes h p) v in
          record {
            is_sound = s.is_sound;
            is_packed = s.is_packed;
            answers_run = s.answers_run
                ∙ ap (λ a. run_answer (a followed_by (λ h. run_sound (view_book h)))) (sym p);
          }
      go (stopped x i) p q = let z : ◌≡◌ {A = ℕ} 0 1 = cc in absurd (omega arith)

  -- or a refusal handed on,
  pub stopped_read : {x : Refusal} {y : ℕ} → r.answer.verdict ≡ Err (refused_at x y)
      → refused_summary r.answer.verdict ≡ run_answer (run_read o)
  unfolding run_read ◌followed_by◌ answer run_answer
  stopped_read v = go o refl read_answered
    where
      go : (a : Result HeldBook) → o ≡ a → r.answer ≡ answer (a followed_by (λ h. last_result (view_book h)))
          → refused_summary r.answer.verdict ≡ run_answer (run_read o)
      go (done h) p q = step_stopped h q v
          ∙ ap (λ a. run_answer (a followed_by (λ h. run_sound (view_book h)))) (sym p)
      go (stopped x i) p q = ap (λ (r : Answer). refused_summary r.verdict) q
          ∙ ap (λ a. run_answer (a followed_by (λ h. run_sound (view_book h)))) (sym p)

  -- beside the rows
  pub rows_read : {s : Summary} → s ≡ run_answer (run_read o)
      → record { summary = s; shares = r.shares } ≡ report_read o
  unfolding ran_read report report_read
  rows_read q = ap₂ (λ s l. record { summary = s; shares = l }) q (ap (λ r. r.shares) t.is)

-- a book that passes the tests
pub book_run : {h : HeldBook} {r : Ran} → HeldPasses h → r ≡ ran (view_book h) → RunOf r
unfolding ran ran_read ◌followed_by◌ reported returned
book_run {h = h} p e = record { read = done h; is = e; passes = λ k q. subst HeldPasses (done_same q) p }
  where
    done_same : {k : HeldBook} → done h ≡ done k → h ≡ k
    done_same q = cc

pub book_report : {h : HeldBook} {r : Ran} (p : HeldPasses h) (e : r ≡ ran (view_book h)) {x : Report}
    → ((t : RunOf r) → x ≡ report_read t.read)
    → x ≡ report (run_answer (run_sound (view_book h))) (all_rows (rows_sound (view_book h)))
unfolding book_run report_read run_read ◌followed_by◌ reported returned
book_report p e f = f (book_run p e)

-- a sheet
pub sheet_run : (sheet : List ℕ) {r : Ran} → r ≡ ran_sheet sheet → RunOf r
unfolding ran_sheet
sheet_run sheet e = record { read = read sheet; is = e; passes = read_passes sheet }

pub sheet_report : (sheet : List ℕ) {r : Ran} (e : r ≡ ran_sheet sheet) {x : Report}
    → ((t : RunOf r) → x ≡ report_read t.read) → x ≡ report (run_answer (run_sheet sheet)) (sheet_rows sheet)
unfolding sheet_run report_read run_read run_sheet sheet_rows
sheet_report sheet e f = f (sheet_run sheet e)

-- ---- what is answered exactly is enclosed
-- it holds the result of the run
pub exact_result : (sheet : List ℕ) (r : Summary) (s : B.Summary) → r ≡ run_answer (run_sheet sheet)
    → run_sheet sheet ≡ done s → summary_of r ≡ s
unfolding run_sheet
exact_result sheet r s e d = ap summary_of (e ∙ ap run_answer d)
    ∙ result_back c.value (read_passes sheet c.value c.first) s c.then
  where
    c : Came (read sheet) (λ b. run_sound (view_book b)) s
    c = came (read sheet) (λ b. run_sound (view_book b)) s d

-- the answer of a reported run
pub reported_answer : {r : Report} (s : Summary) (l : List Shares) → r ≡ report s l → r.summary ≡ s
unfolding report
reported_answer s l e = ap (λ r. r.summary) e

-- THEOREM: of a sheet
pub exact_encloses : (sheet : List ℕ) (r : Summary) → r ≡ run_answer (run_sheet sheet) → Encloses sheet r
unfolding Encloses
exact_encloses sheet r e s d = subst (SheetClaim sheet) (sym (exact_result sheet r s e d)) (sheet_claim sheet s d)

-- THEOREM: of a book
pub exact_encloses_book : (h : HeldBook) (r : Summary) → r ≡ run_answer (run_held h) → EnclosesBook h r
unfolding EnclosesBook run_held
exact_encloses_book h r e s d = subst (Claim (view_book h)) (sym (ap summary_of (e ∙ ap run_answer d)
    ∙ result_back h c.passes s c.result))
    (claim_sound (view_book h) s (view_passes h c.passes) c.result)
  where
    c : HeldDone h (run_sound (view_book h)) s
    c = held_tested_done h (run_sound (view_book h)) s d

-- ---- a book that is tested
pub tested_accepted : (b : Book) → book_verdict b ≡ Ok tt
    → run_sound (view_book (held_book b)) ≡ run_held (held_book b)
unfolding run_held
tested_accepted b e = sym (verdict_hands_on b e (run_sound (view_book (held_book b))))

pub tested_rows : (b : Book) → book_verdict b ≡ Ok tt
    → all_rows (rows_sound (view_book (held_book b))) ≡ rows_held (held_book b)
unfolding rows_held reported returned
tested_rows b e = sym (ap reported (verdict_hands_on b e (done (rows_sound (view_book (held_book b))))))

pub tested_refused : (b : Book) (x : Refusal) (y : ℕ) → book_verdict b ≡ Err (refused_at x y)
    → report (refused_summary (Err (refused_at x y))) (all_rows [])
    ≡ report (run_answer (run_held (held_book b))) (rows_held (held_book b))
unfolding run_held run_answer rows_held reported returned
tested_refused b x y e = ap₂ report
    (ap (λ q. refused_summary (Err (refused_at q y))) (sym (refusal_cause x))
    ∙ sym (ap run_answer (verdict_refused b x y e (run_sound (view_book (held_book b))))))
    (sym (ap reported (verdict_refused b x y e (done (rows_sound (view_book (held_book b)))))))
