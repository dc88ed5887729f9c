-- Laws of a run's answer: it holds what was packed, and what document 01 names for a refusal.
use Rattle.std.specs.Prelude.{◌≡◌, refl, ℕ}
use Rattle.std.proofs.Common.{ap}
use Rattle.calculus.specs.Model.{zero_model}
use Rattle.calculus.specs.Operations.{zero_ends, zero_mixed}
use Rattle.calculus.specs.Refusal as R
use Rattle.calculus.specs.Refusal.{Result, done, stopped, number, returned}
use Rattle.calculus.specs.Book as B
use Rattle.calculus.specs.Book.{returned_summary}
use Rattle.model_types.specs.Arrays.{first_places, padded}
use Rattle.model_types.specs.ModelStruct.{view, pack, verdict_number, verdict_place}
use Rattle.model_types.specs.ModelStructLaws.{cause_refusal}
use Rattle.sheet_book.specs.SummaryStruct.{stored_ends, stored_exact, ends_of, exact_of}
use Rattle.sheet_book.specs.SummaryStruct.{refused_summary, run_answer, summary_of}

-- the struct holds what was packed, if that was sound
pub summary_back : (s : B.Summary) → view (pack s.model) ≡ s.model → summary_of (run_answer (done s)) ≡ s
unfolding summary_of run_answer stored_ends stored_exact ends_of exact_of
summary_back s e = ap (λ m. record { model = m; range = s.range; integral = s.integral; exact = s.exact }) e

-- ---- document 01's number and place of an answer are those that a run hands back
pub answer_number : (a : Result B.Summary) → verdict_number (run_answer a).verdict ≡ (returned_summary a).number
unfolding run_answer refused_summary verdict_number returned_summary returned
answer_number (done s) = refl
answer_number (stopped r i) = ap number (cause_refusal r)

pub answer_place : (a : Result B.Summary) → verdict_place (run_answer a).verdict ≡ (returned_summary a).place
unfolding run_answer refused_summary verdict_place returned_summary returned
answer_place (done s) = refl
answer_place (stopped r i) = refl

-- a refused run answers what document 01 names for it: the zero model in one variable, ends 0, q and r 0
pub refused_value : (q : R.Refusal) (i : ℕ)
    → summary_of (run_answer (stopped q i)) ≡ (returned_summary (stopped q i)).value
unfolding run_answer refused_summary summary_of ends_of exact_of returned_summary returned view pack first_places
    padded zero_model zero_ends zero_mixed
refused_value q i = refl
