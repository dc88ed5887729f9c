-- From the answer of a run to the text: what an accepted answer holds, and what a refused one says.
use Rattle.std.specs.Prelude.{◌≡◌, refl, List, ℕ, T}
use Rattle.std.proofs.Common.{sym, ◌∙◌, ap, ap₂, subst, arith}
use Rattle.calculus.specs.Model.{most_degree, sound}
use Rattle.calculus.specs.Refusal.{number, Result, done, stopped}
use Rattle.calculus.specs.Book as B
use Rattle.model_types.specs.declared.Refusal.{Refusal}
use Rattle.std.specs.Prelude.{Ok, Err}
use Rattle.model_types.specs.declared.Refused.{Refused}
use Rattle.model_types.specs.ModelStruct.{refused_at}
use Rattle.model_types.specs.ModelStruct.{view, pack, refusal, cause}
use Rattle.model_types.specs.ModelStructLaws.{view_pack_sound, cause_refusal}
use Rattle.format.specs.Format.{run_sheet}
use Rattle.format.specs.Lines.{refusal_line, lines, printed}
use Rattle.sheet_book.specs.declared.Summary.{Summary}
use Rattle.sheet_book.specs.SummaryStruct.{refused_summary, run_answer, summary_of}
use Rattle.sheet_book.specs.SummaryStructLaws.{summary_back}
use Rattle.text_lines.specs.LineLaws.{refused_line}
use Rattle.text.specs.PrintedRunLaws.{printed_run, accepted_run}

-- an accepted answer: a sound model, and its lines are the text
pub record Accepts (s : List ℕ) (a : Summary) : Type 0 where
  pub model : T (sound most_degree (view a.model))
  pub text : lines (done (summary_of a)) ≡ printed s

-- the struct holds what was packed
packed_back : (r : B.Summary) → T (sound most_degree r.model) → view (pack r.model) ≡ r.model
packed_back r h = view_pack_sound most_degree r.model (omega arith) h

accepts_of : (s : List ℕ) (x : Result B.Summary) (a : Summary) → run_sheet s ≡ x → a ≡ run_answer x
    → a.verdict ≡ Ok tt → Accepts s a
unfolding run_answer refused_summary
accepts_of s (done r) a h e v =
    let g = accepted_run s r h in
    record {
      model = subst (λ m. T (sound most_degree m))
          (sym (ap (λ (t : Summary). view t.model) e ∙ packed_back r g.model)) g.model;
      text = ap (λ t. lines (done t)) (ap summary_of e ∙ summary_back r (packed_back r g.model)) ∙ ap lines (sym h)
          ∙ sym (printed_run s);
    }
accepts_of s (stopped q i) a h e v = let z : ◌≡◌ {A = ℕ} 0 1 = cc in absurd (omega arith)

refuses_of : (s : List ℕ) (x : Result B.Summary) (a : Summary) (f : Refusal) (i : ℕ) → run_sheet s ≡ x
    → a ≡ run_answer x → a.verdict ≡ Err (refused_at f i) → refusal_line (number (cause f)) i ≡ printed s
unfolding run_answer refused_summary
refuses_of s (done r) a f i h e v = let z : ◌≡◌ {A = ℕ} 0 1 = cc in absurd (omega arith)
refuses_of s (stopped q j) a f i h e v =
    let both : refused_at (refusal q) j ≡ refused_at f i = cc in
    let same : refusal q ≡ f = ap (λ (p : Refused). p.0) both in
    let place : j ≡ i = ap (λ (p : Refused). p.1) both in
    ap₂ (λ n p. refusal_line n p) (ap number (ap cause (sym same) ∙ cause_refusal q)) (sym place)
    ∙ sym (refused_line q j) ∙ ap lines (sym h) ∙ sym (printed_run s)

module _ (s : List ℕ) (a : Summary) (e : a ≡ run_answer (run_sheet s)) where
  pub accepts : a.verdict ≡ Ok tt → Accepts s a
  accepts v = accepts_of s (run_sheet s) a refl e v

  -- a refused answer: its line is the text
  pub refuses : (f : Refusal) (i : ℕ) → a.verdict ≡ Err (refused_at f i) → refusal_line (number (cause f)) i ≡ printed s
  refuses f i v = refuses_of s (run_sheet s) a f i refl e v
