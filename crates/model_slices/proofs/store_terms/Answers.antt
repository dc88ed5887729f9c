-- `store_terms` copies all places of both arrays.
use mathlib.Core.Path.{◌≡◌, ◌∙◌, ap}
use native.Mathlib.Omega.{arith}
use borrow.Author.Rules.{rules}
use lib.ListN.{length}
use lib.Seq.{take_all}
use Rattle.calculus.specs.Model.{most_terms}
use Rattle.model_slices.specs.HandedModels.{over, stored_keys, stored_coefficients}
use Rattle.model_slices.proofs.store_terms.Goals as goal
use Rattle.model_slices.proofs.store_terms.Goals.{Start}

keys_whole : (c : Start) → length c.args.m.keys ≡ 64
keys_whole c = search rules

coefficients_whole : (c : Start) → length c.args.m.coefficients ≡ 64
coefficients_whole c = search rules

pub copy_keys-requires : goal.copy_keys-requires
unfolding most_terms
copy_keys-requires c =
    (omega (arith, keys_whole (goal.at.copy_keys-requires c).Start), c.requires.0)

pub copy_coefficients-requires : goal.copy_coefficients-requires
unfolding most_terms
copy_coefficients-requires c =
    (omega (arith, coefficients_whole (goal.at.copy_coefficients-requires c).Start), c.requires.1)

pub returns : goal.returns
unfolding stored_keys stored_coefficients
returns c =
    let m = c.args.m in (
      c.copy_keys.ensures
          ∙ ap (λ l. over l c.args.keys.now) (take_all 64 m.keys (omega (arith, keys_whole (goal.at.returns c).Start))),
      c.copy_coefficients.ensures
          ∙ ap (λ l. over l c.args.coefficients.now)
          (take_all 64 m.coefficients (omega (arith, coefficients_whole (goal.at.returns c).Start))),
    )
