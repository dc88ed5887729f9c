-- `two_models` makes the tests of the first model, of the second, and of their variables.
use mathlib.Core.Path.{◌≡◌, sym, ◌∙◌}
use mathlib.Core.Bool.{true}
use borrow.Author.Rules.{rules}
use borrow.Author.Tests.{not-true, not-false}
use Rattle.calculus.specs.Model.{Model, sound}
use Rattle.calculus.specs.Refusal.{require_at}
use Rattle.calculus.specs.Calls.{require_two}
use Rattle.model_types.specs.ModelStruct.{view, refusal, verdict}
use Rattle.model_slices.specs.HandedModels.{handed}
use Rattle.model_call_tests.specs.Admission.{two_models}
use Rattle.model_slice_tests.specs.SliceTestLaws.{slices_same, slices_other}
use Rattle.model_slice_tests.proofs.two_models.Goals as goal
use Rattle.model_slice_tests.proofs.two_models.Goals.{Else-not-sound_slices, Else-not-sound_slices-2, Start}

-- the arguments, and what holds after each test
module _ (s : Start) where
  abbrev first : Model
  first = view (handed s.args.n1 s.args.count1 s.args.radius1 s.args.keys1.now
      s.args.coefficients1.now)

  abbrev second : Model
  second = view (handed s.args.n2 s.args.count2 s.args.radius2 s.args.keys2.now
      s.args.coefficients2.now)

first_holds : (c : Else-not-sound_slices) → sound c.args.d (first c.before.before.before.before.before) ≡ true
first_holds c = sym c.sound_slices.ensures ∙ c.if-not-sound_slices.false

second_holds : (c : Else-not-sound_slices-2)
    → sound c.args.d (second c.before.before.before.before.before.before.before) ≡ true
second_holds c = sym c.sound_slices-2.ensures ∙ c.if-not-sound_slices-2.false

pub returns-then-not-sound_slices : goal.returns-then-not-sound_slices
unfolding require_at require_two two_models refusal verdict
returns-then-not-sound_slices c = rw (sym c.sound_slices.ensures ∙ c.if-not-sound_slices.true)

pub returns-then-not-sound_slices-2 : goal.returns-then-not-sound_slices-2
unfolding require_at require_two two_models refusal verdict
returns-then-not-sound_slices-2 c = rw (
  first_holds (goal.at.returns-then-not-sound_slices-2 c).Else-not-sound_slices,
  sym c.sound_slices-2.ensures ∙ c.if-not-sound_slices-2.true,
)

pub returns-then-n1-n2 : goal.returns-then-n1-n2
unfolding require_at require_two two_models refusal verdict
returns-then-n1-n2 c =
    let a = c.args in
    rw (
      first_holds (goal.at.returns-then-n1-n2 c).Else-not-sound_slices,
      second_holds (goal.at.returns-then-n1-n2 c).Else-not-sound_slices-2,
      slices_other a.n1 a.count1 a.radius1 a.n2 a.count2 a.radius2 a.keys1.now a.keys2.now
          a.coefficients1.now a.coefficients2.now c.if-n1-n2.true,
    )

pub returns : goal.returns
unfolding require_at require_two two_models verdict
returns c =
    let a = c.args in
    rw (
      first_holds (goal.at.returns c).Else-not-sound_slices,
      second_holds (goal.at.returns c).Else-not-sound_slices-2,
      slices_same a.n1 a.count1 a.radius1 a.n2 a.count2 a.radius2 a.keys1.now a.keys2.now
          a.coefficients1.now a.coefficients2.now c.if-n1-n2.false,
    )
