-- `print` puts the lines of what the run answers: of an accepted sheet all, of a refused one its one line.
use mathlib.Core.Path.{◌≡◌, ap, ◌∙◌}
use native.Mathlib.Omega.{arith}
use borrow.Author.Rules.{rules}
use Rattle.calculus.specs.Refusal.{number}
use Rattle.format.specs.Lines.{refusal_line, printed}
use Rattle.text_decimal.specs.Put.{Room}
use Rattle.text_decimal.specs.PutLaws.{put_as}
use Rattle.text.specs.Text.{most_text}
use Rattle.text.specs.TextLaws.{put_laid}
use Rattle.text.specs.PrintedLaws.{Accepts, accepts, refuses}
use Rattle.text.specs.LengthLaws.{text_length}
use Rattle.text.proofs.print.Goals as goal
use Rattle.text.proofs.print.Goals.{After-number, In_default, Start}

-- a whole text has room
text_room : (c : Start) → Room 0 (printed c.args.sheet.now)
unfolding most_text
text_room c = record { fits = omega (arith, text_length c.args.sheet.now) }

accepted_at : (c : In_default)
    → Accepts c.args.sheet.now c.run-summary.result
accepted_at c = accepts _ _ c.run-summary.ensures.exact c.in_default.is

refused_at : (c : After-number)
    → refusal_line c.number.result c.in-Err.field-0.1
    ≡ printed c.args.sheet.now
refused_at c =
    ap (λ n. refusal_line n c.in-Err.field-0.1) c.number.ensures
    ∙ refuses _ c.run-summary.result c.run-summary.ensures.exact c.in-Err.field-0.0 _ c.in-Err.is

pub put_summary-requires : goal.put_summary-requires
put_summary-requires c =
    let a = accepted_at (goal.at.put_summary-requires c).In_default in
    (a.model, rw a.text (text_room (goal.at.put_summary-requires c).Start))

pub returns-in_default : goal.returns-in_default
returns-in_default c =
    put_laid (put_as (accepted_at (goal.at.returns-in_default c).In_default).text c.put_summary.ensures)

pub put_refusal-requires : goal.put_refusal-requires
put_refusal-requires c =
    rw (refused_at c) (text_room (goal.at.put_refusal-requires c).Start)

pub returns : goal.returns
returns c =
    put_laid (put_as (refused_at (goal.at.returns c).After-number) c.put_refusal.ensures)
