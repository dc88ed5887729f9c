-- What any program that meets the contract of a run answers to a sheet, or to a book in memory, and to the same with
-- its variables reordered (request 8).
use Rattle.std.specs.Prelude.{◌≡◌, refl, List, map, ℕ}
use Rattle.std.proofs.Math.Path.{sym, ap}
use Rattle.std.proofs.Common.{◌∙◌, ap₂, arith}
use Rattle.calculus.specs.Refusal.{Result, done, stopped, ◌followed_by◌}
use Rattle.calculus.specs.Book as B
use Rattle.calculus.specs.Shares.{reported, rows_sound}
use Rattle.model_types.specs.declared.Refusal.{Refusal}
use Rattle.std.specs.Prelude.{Ok, Err}
use Rattle.model_types.specs.ModelStruct.{refused_at}
use Rattle.model_types.specs.SharesStruct.{stored_shares}
use Rattle.format.specs.HeldBook.{HeldBook, view_book, HeldPasses}
use Rattle.format.specs.HeldBookLaws.{held_tested_passes}
use Rattle.format.specs.Format.{read, sheet_bytes, run_sheet, sheet_rows}
use Rattle.format.proofs.ReadBackLaws.{read_back}
use Rattle.renaming.specs.Reordering.{Reordering, rename_summary, rename_result, rename_held}
use Rattle.renaming.proofs.RenamedHeldLaws.{held_renamed_passes}
use Rattle.renaming.proofs.RenamedSheetLaws.{run_read, renamed_sheet, renamed_sheet_rows}
use Rattle.sheet_book.specs.declared.Summary.{Summary}
use Rattle.sheet_book.specs.declared.Report.{Report}
use Rattle.sheet_book.specs.SummaryStruct.{refused_summary, run_answer, summary_of}
use Rattle.sheet_book.specs.ReportStruct.{report}
use Rattle.sheet.specs.Sheet.{run_held, rows_held, Exact, ExactBook, Reports, ReportsBook}
use Rattle.sheet.specs.SheetLaws.{exact_result}

-- s is the answer r with its variables reordered
pub record RenamedAnswer {n : ℕ} (ρ : Reordering n) (r s : Summary) : Type 0 where
  -- with the same verdict
  pub same_verdict : s.verdict ≡ r.verdict
  -- accepted, it holds the renamed model, and all else as it was
  pub accepted : r.verdict ≡ Ok tt → summary_of s ≡ rename_summary ρ (summary_of r)
  -- refused, it is the same answer
  pub refused : (x : Refusal) (y : ℕ) → r.verdict ≡ Err (refused_at x y) → s ≡ r

-- and so with its rows, which are the same
pub record RenamedReport {n : ℕ} (ρ : Reordering n) (r s : Report) : Type 0 where
  pub summaries : RenamedAnswer ρ r.summary s.summary
  pub same_shares : s.shares ≡ r.shares

-- from the result of the run
of_run : {n : ℕ} (ρ : Reordering n) (r s : Summary) (a : Result B.Summary)
    → r ≡ run_answer a → s ≡ run_answer (rename_result ρ a)
    → ((x : B.Summary) → a ≡ done x → summary_of r ≡ x)
    → ((x : B.Summary) → rename_result ρ a ≡ done x → summary_of s ≡ x)
    → RenamedAnswer ρ r s
unfolding run_answer refused_summary rename_result
of_run ρ r s (done x) e q f g = record {
  same_verdict = ap (λ t. t.verdict) q ∙ sym (ap (λ t. t.verdict) e);
  accepted = λ v. g (rename_summary ρ x) refl ∙ ap (rename_summary ρ) (sym (f x refl));
  refused = λ c y v. let z : ◌≡◌ {A = ℕ} 0 1 = cc in absurd (omega arith);
}
of_run ρ r s (stopped c i) e q f g = record {
  same_verdict = ap (λ t. t.verdict) (q ∙ sym e);
  accepted = λ v. let z : ◌≡◌ {A = ℕ} 0 1 = cc in absurd (omega arith);
  refused = λ x y v. q ∙ sym e;
}

-- THEOREM: the answers to a sheet that the reader accepts, and to the renamed sheet
pub renamed_answers : (sheet : List ℕ) (h : HeldBook) → read sheet ≡ done h → (ρ : Reordering h.n)
    → (r s : Summary) → Exact sheet r → Exact (sheet_bytes (rename_held ρ h)) s → RenamedAnswer ρ r s
renamed_answers sheet h e ρ r s er es = of_run ρ r s (run_sheet sheet) er (es ∙ ap run_answer renamed)
    (λ x q. exact_result sheet r x er q) (λ x q. exact_result (sheet_bytes (rename_held ρ h)) s x es (renamed ∙ q))
  where
    renamed : run_sheet (sheet_bytes (rename_held ρ h)) ≡ rename_result ρ (run_sheet sheet)
    renamed = renamed_sheet sheet h e ρ

-- THEOREM: the reports of both
pub renamed_reports : (sheet : List ℕ) (h : HeldBook) → read sheet ≡ done h → (ρ : Reordering h.n)
    → (r s : Report) → Reports sheet r → Reports (sheet_bytes (rename_held ρ h)) s → RenamedReport ρ r s
renamed_reports sheet h e ρ r s er es = record {
  summaries = renamed_answers sheet h e ρ r.summary s.summary
      (unfold report in ap (λ t. t.summary) er) (unfold report in ap (λ t. t.summary) es);
  same_shares = unfold report in (ap (λ t. t.shares) es ∙ ap (map stored_shares) (renamed_sheet_rows sheet h e ρ)
      ∙ sym (ap (λ t. t.shares) er));
}

-- a book in memory that passes the tests is run as its sheet is
run_held_sheet : (h : HeldBook) → HeldPasses h → run_held h ≡ run_sheet (sheet_bytes h)
unfolding run_held
run_held_sheet h p = held_tested_passes h _ p ∙ sym (run_read (sheet_bytes h) h (read_back h p))

-- THEOREM: the answers to such a book, and to the renamed book
pub renamed_book_answers : (h : HeldBook) → HeldPasses h → (ρ : Reordering h.n)
    → (r s : Summary) → ExactBook h r → ExactBook (rename_held ρ h) s → RenamedAnswer ρ r s
renamed_book_answers h p ρ r s er es = renamed_answers (sheet_bytes h) h (read_back h p) ρ r s
    (er ∙ ap run_answer (run_held_sheet h p))
    (es ∙ ap run_answer (run_held_sheet (rename_held ρ h) (held_renamed_passes h p ρ)))

-- and reports the rows of its sheet
rows_held_sheet : (h : HeldBook) → HeldPasses h → rows_held h ≡ sheet_rows (sheet_bytes h)
unfolding rows_held sheet_rows ◌followed_by◌
rows_held_sheet h p = ap reported (held_tested_passes h _ p)
    ∙ sym (ap (λ r. reported (r followed_by (λ h. done (rows_sound (view_book h))))) (read_back h p))

-- THEOREM: the reports of both
pub renamed_book_reports : (h : HeldBook) → HeldPasses h → (ρ : Reordering h.n)
    → (r s : Report) → ReportsBook h r → ReportsBook (rename_held ρ h) s → RenamedReport ρ r s
renamed_book_reports h p ρ r s er es = renamed_reports (sheet_bytes h) h (read_back h p) ρ r s
    (er ∙ as_sheet h p)
    (es ∙ as_sheet (rename_held ρ h) (held_renamed_passes h p ρ))
  where
    as_sheet : (h : HeldBook) → HeldPasses h
        → report (run_answer (run_held h)) (rows_held h)
        ≡ report (run_answer (run_sheet (sheet_bytes h))) (sheet_rows (sheet_bytes h))
    as_sheet h p = ap₂ report (ap run_answer (run_held_sheet h p)) (rows_held_sheet h p)
