-- `cleared` copies the terms over zeros: what stands beyond the count is not copied.
use mathlib.Core.Path.{◌≡◌, sym, ◌∙◌, ap}
use Prim.Native.Nat.{◌≤◌}
use native.Mathlib.Omega.{arith}
use borrow.Author.Rules.{rules}
use lib.ListN.{length}
use Rattle.calculus.specs.Model.{most_terms}
use Rattle.model_types.specs.ModelStruct.{listed, pad}
use Rattle.model_types.specs.ModelStructLaws.{limits, pack_view}
use Rattle.model_types.specs.PairedLaws.{listed_same, listed_struct, length_paired}
use Rattle.model_slices.specs.HandedModelsLaws.{terms_paired, filled_listed}
use Rattle.sheet_step_answers.proofs.cleared.Goals as goal
use Rattle.sheet_step_answers.proofs.cleared.Goals.{Start}

module _ (c : Start) where
  keys_whole : length c.args.m.keys ≡ 64
  keys_whole = search rules

  coefficients_whole : length c.args.m.coefficients ≡ 64
  coefficients_whole = search rules

  whole : length (listed c.args.m) ≡ 64
  whole = length_paired _ _ (keys_whole ∙ sym coefficients_whole) ∙ keys_whole

  few : c.args.m.count ≤ 64
  unfolding most_terms
  few = (limits _ _ c.requires).few

pub copy_keys-requires : goal.copy_keys-requires
copy_keys-requires c = (
  omega (arith, few (goal.at.copy_keys-requires c).Start, keys_whole (goal.at.copy_keys-requires c).Start),
  few (goal.at.copy_keys-requires c).Start,
)

pub copy_coefficients-requires : goal.copy_coefficients-requires
copy_coefficients-requires c = (
  omega (
    arith,
    few (goal.at.copy_coefficients-requires c).Start,
    coefficients_whole (goal.at.copy_coefficients-requires c).Start,
  ),
  few (goal.at.copy_coefficients-requires c).Start,
)

pub returns : goal.returns
unfolding most_terms
returns c =
    let m = c.args.m in
    let k = c.copy_keys.ensures in
    let z = c.copy_coefficients.ensures in
    rw (k, z)
    (listed_struct (listed_same
    (filled_listed m.count m.keys m.coefficients (omega (
      arith,
      few (goal.at.returns c).Start,
      keys_whole (goal.at.returns c).Start,
    ))
    (omega (arith, few (goal.at.returns c).Start, coefficients_whole (goal.at.returns c).Start)))
    (ap pad (terms_paired m.count m.keys m.coefficients))) _ _ _)
    ∙ sym (pack_view _ m (omega arith) c.requires (omega (
      arith,
      few (goal.at.returns c).Start,
      whole (goal.at.returns c).Start,
    )))
