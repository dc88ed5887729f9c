-- `model_sound` compares n, then lends the model's arrays to the test of the rules.
use mathlib.Core.Path.{◌≡◌, ◌∙◌, ap}
use native.Mathlib.Omega.{arith}
use borrow.Author.Rules.{rules}
use borrow.Author.Tests.{eq-eqb, ne_eqb}
use lib.ListN.{length}
use Rattle.calculus.specs.Model.{most_terms, sound}
use Rattle.model_types.specs.ModelStruct.{view}
use Rattle.model.specs.OperationLaws.{borrowed_own, handed_own}
use Rattle.sheet_book_tests.proofs.model_sound.Goals as goal
use Rattle.sheet_book_tests.proofs.model_sound.Goals.{Start}

module _ (c : Start) where
  keys_whole : length c.args.m.keys ≡ most_terms
  unfolding most_terms
  keys_whole = search rules

  coefficients_whole : length c.args.m.coefficients ≡ most_terms
  unfolding most_terms
  coefficients_whole = search rules

pub returns-then-m-n : goal.returns-then-m-n
returns-then-m-n c =
    let given = c.args in
    rw (ne_eqb given.m.n given.n (λ e. omega (arith, c.if-m-n.true)))

pub sound_slices-requires : goal.sound_slices-requires
sound_slices-requires c =
    borrowed_own _ _ _ (keys_whole (goal.at.sound_slices-requires c).Start)
    (coefficients_whole (goal.at.sound_slices-requires c).Start)

pub returns : goal.returns
returns c =
    rw (eq-eqb c.args.m.n c.args.n c.if-m-n.false)
    (c.sound_slices.ensures
    ∙ ap (λ m. sound c.args.d (view m))
    (handed_own c.args.m (keys_whole (goal.at.returns c).Start) (coefficients_whole (goal.at.returns c).Start)))
