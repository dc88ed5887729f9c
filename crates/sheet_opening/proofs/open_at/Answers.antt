-- `open_at` makes the tests, and begins at 0 or at the end.
use mathlib.Core.Path.{sym, ◌∙◌, ap}
use lib.ListN.{length}
use Rattle.sheet_opening.specs.OpeningLaws.{read_verdict, start_accepted, start_refused}
use borrow.Author.Rules.{rules}
use Rattle.sheet_opening.proofs.open_at.Goals as goal

pub returns-in-Ok : goal.returns-in-Ok
returns-in-Ok c =
    let s = c.args.sheet.now in
    let e = c.tested-verdict.ensures ∙ read_verdict s in
    let v = c.in-Ok.is in
    ap (λ v. record { at = 0; verdict = v }) v ∙ start_accepted s (sym e ∙ v)

pub returns-in-Err : goal.returns-in-Err
returns-in-Err c =
    let s = c.args.sheet.now in
    let e = c.tested-verdict.ensures ∙ read_verdict s in
    let v = c.in-Err.is in
    ap (λ v. record { at = length s; verdict = v }) v ∙ start_refused s _ _ (sym e ∙ v)
