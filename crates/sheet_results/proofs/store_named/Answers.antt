-- `store_named` copies the terms that the count names, of 64.
use mathlib.Core.Path.{◌≡◌, ◌∙◌, ap}
use borrow.Author.Rules.{rules}
use lib.ListN.{length}
use Rattle.calculus.specs.Model.{most_terms}
use Rattle.model_slices.specs.HandedModels.{over}
use Rattle.sheet_results.specs.ResultsLaws.{take_least}
use Rattle.sheet_results.proofs.store_named.Goals as goal
use Rattle.sheet_results.proofs.store_named.Goals.{Start}

keys_whole : (c : Start) → length c.args.m.keys ≡ 64
keys_whole c = search rules

coefficients_whole : (c : Start) → length c.args.m.coefficients ≡ 64
coefficients_whole c = search rules

pub copy_keys-requires : goal.copy_keys-requires
unfolding most_terms
copy_keys-requires c = search rules

pub copy_coefficients-requires : goal.copy_coefficients-requires
unfolding most_terms
copy_coefficients-requires c = search rules

pub returns : goal.returns
returns c =
    let n = c.least-count in
    let m = c.args.m in (
      c.copy_keys.ensures
          ∙ ap (λ l. over l c.args.keys.now) (take_least m.count _ m.keys n.ensures
          (keys_whole (goal.at.returns c).Start)),
      c.copy_coefficients.ensures
          ∙ ap (λ l. over l c.args.coefficients.now)
          (take_least m.count _ m.coefficients n.ensures (coefficients_whole (goal.at.returns c).Start)),
    )
