-- `sound` lends the struct's arrays, which handed over are the struct again.
use mathlib.Core.Path.{◌≡◌, ◌∙◌, ap}
use borrow.Author.Rules.{rules}
use lib.ListN.{length}
use Rattle.calculus.specs.Model.{most_terms, sound}
use Rattle.model_types.specs.ModelStruct.{view}
use Rattle.model_soundness.specs.SliceSoundLaws.{borrowed_own, handed_own}
use Rattle.model_soundness.proofs.sound.Goals as goal
use Rattle.model_soundness.proofs.sound.Goals.{Start}

module _ (c : Start) where
  keys_whole : length c.args.m.keys ≡ most_terms
  unfolding most_terms
  keys_whole = search rules

  coefficients_whole : length c.args.m.coefficients ≡ most_terms
  unfolding most_terms
  coefficients_whole = search rules

pub sound_slices-requires : goal.sound_slices-requires
sound_slices-requires c =
    borrowed_own _ _ _ (keys_whole (goal.at.sound_slices-requires c).Start)
    (coefficients_whole (goal.at.sound_slices-requires c).Start)

pub returns : goal.returns
returns c =
    c.sound_slices.ensures
    ∙ ap (λ m. sound c.args.d (view m))
    (handed_own c.args.m (keys_whole (goal.at.returns c).Start) (coefficients_whole (goal.at.returns c).Start))
