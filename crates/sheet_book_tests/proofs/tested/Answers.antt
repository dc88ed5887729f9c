-- `tested` makes tests 3, 5 and 6 in order: the first number that fails one decides the verdict.
use mathlib.Core.Path.{◌≡◌, sym, ◌∙◌, ap, subst}
use mathlib.Core.Bool.{true}
use Prim.Native.Nat.{◌≤◌, ◌<◌}
use borrow.Author.Rules.{rules}
use borrow.Author.Tests.{not-true, not-false}
use lib.Dec.{T}
use Rattle.calculus.specs.Book.{most_models, most_steps, limits_sound}
use Rattle.model_types.specs.declared.Refusal.TheVariants.{BadModel, BadStep}
use Rattle.std.specs.Prelude.{Err}
use Rattle.model_types.specs.ModelStruct.{refused_at}
use Rattle.format.specs.HeldBook.{outline}
use Rattle.format.specs.HeldBookLaws.{InLimits, in_limits}
use Rattle.sheet_book.specs.declared.Book.{Book}
use Rattle.sheet_book_tests.specs.Unsound.{first_unsound_model}
use Rattle.sheet_book_tests.specs.VerdictLaws.{limits_verdict, model_verdict, step_verdict, accepted_verdict}
use Rattle.sheet_book_tests.proofs.tested.Goals as goal
use Rattle.sheet_book_tests.proofs.tested.Goals.{Else-model-models, Else-not-limits_sound}

-- ---- test 3 has passed
module _ (c : Else-not-limits_sound) where
  abbrev book : Book
  book = c.args.b

  within : limits_sound (outline book.n book.d book.model_count book.step_count) ≡ true
  within = sym c.limits_sound.ensures ∙ c.if-not-limits_sound.false

  in_range : InLimits book.n book.d book.model_count book.step_count
  in_range = in_limits _ _ _ _ (subst T (sym within) tt)

-- ---- and test 5
models_pass : (c : Else-model-models) → (book c.before.before).model_count ≤ first_unsound_model (book c.before.before)
models_pass c =
    subst (λ i. (book c.before.before).model_count ≤ i) c.first_unsound_model-model.ensures c.if-model-models.false

pub returns-then-not-limits_sound : goal.returns-then-not-limits_sound
returns-then-not-limits_sound c = limits_verdict _ (sym c.limits_sound.ensures ∙ c.if-not-limits_sound.true)

pub first_unsound_model-model-requires : goal.first_unsound_model-model-requires
unfolding most_models
first_unsound_model-model-requires c = (in_range c).models

pub returns-then-model-models : goal.returns-then-model-models
returns-then-model-models c =
    let e = c.first_unsound_model-model.ensures in
    ap (λ i. Err (refused_at BadModel i)) e
    ∙ model_verdict _ (within (goal.at.returns-then-model-models c).Else-not-limits_sound)
    (subst (λ i. i < (book (goal.at.returns-then-model-models c).Else-not-limits_sound).model_count) e
    c.if-model-models.true)

pub first_unsound_step-step-requires : goal.first_unsound_step-step-requires
unfolding most_steps
first_unsound_step-step-requires c = (in_range (goal.at.first_unsound_step-step-requires
    c).Else-not-limits_sound).steps_high

pub returns-then-step-steps : goal.returns-then-step-steps
returns-then-step-steps c =
    let e = c.first_unsound_step-step.ensures in
    ap (λ i. Err (refused_at BadStep i)) e
    ∙ step_verdict _ (within (goal.at.returns-then-step-steps c).Else-not-limits_sound)
    (models_pass (goal.at.returns-then-step-steps c).Else-model-models)
    (subst (λ i. i < (book (goal.at.returns-then-step-steps c).Else-not-limits_sound).step_count) e
    c.if-step-steps.true)

pub returns : goal.returns
returns c =
    accepted_verdict _ (within (goal.at.returns c).Else-not-limits_sound)
    (models_pass (goal.at.returns c).Else-model-models)
    (subst (λ i. (book (goal.at.returns c).Else-not-limits_sound).step_count ≤ i) c.first_unsound_step-step.ensures
    c.if-step-steps.false)
