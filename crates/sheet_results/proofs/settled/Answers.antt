-- `settled` puts an answer that is accepted.
use mathlib.Core.Path.{◌≡◌, refl, sym, ◌∙◌}
use Prim.Native.Nat.{◌+◌}
use Rattle.calculus.specs.Book.{most_models, most_steps}
use Rattle.std.specs.Prelude.{Ok}
use Rattle.sheet_results.specs.Results.{Results, results}
use Rattle.sheet_results.specs.ResultsLaws.{settled_put, settled_row, settled_kept, settled_row_kept}
use borrow.Author.Rules.{rules}
use Rattle.sheet_results.proofs.settled.Goals as goal
use Rattle.sheet_results.proofs.settled.Goals.{Start}

pub overflow_add-place : goal.overflow_add-place
unfolding most_steps
overflow_add-place c = search rules

pub put_model-requires : goal.put_model-requires
unfolding most_models
put_model-requires c = c.requires.roomy

pub put_row-requires : goal.put_row-requires
put_row-requires c = record {
  i_lt_most_steps = c.requires.i_lt_most_steps;
  rows_len = c.requires.rows_len;
}

-- what the slices hold before
abbrev memory : Start → Results
memory s =
    results s.args.keys.now s.args.coefficients.now s.args.counts.now s.args.radii.now

pub returns-in_default : goal.returns-in_default
returns-in_default c =
    let a = c.args in
    let e = c.in_default.is in (
      refl,
      sym (settled_kept a.c (most_models + a.i) (memory (goal.at.returns-in_default c).Start) a.rows.now e),
      sym (settled_row_kept a.c a.i (memory (goal.at.returns-in_default c).Start) a.rows.now e),
    )

pub returns : goal.returns
unfolding most_models
returns c =
    let a = c.args in
    let e : a.c.answer.verdict ≡ Ok tt = c.in-Ok.is in (
      refl,
      c.put_model.ensures.radii_after ∙
          sym (settled_put a.c (16 + a.i) (memory (goal.at.returns c).Start) a.rows.now e),
      c.put_row.ensures ∙ sym (settled_row a.c a.i (memory (goal.at.returns c).Start) a.rows.now e),
    )
