-- `first_unsound_model` walks forward, model after model, and stops at the first fault.
use mathlib.Core.Path.{◌≡◌, refl, sym, ◌∙◌}
use Prim.Native.Nat.{◌-◌, ◌≤◌, ◌<◌}
use native.Mathlib.Omega.{arith}
use borrow.Author.Rules.{rules}
use borrow.Author.Tests.{not-true, not-false}
use lib.ListN.{length, length-map}
use Rattle.calculus.specs.Book.{most_models}
use Rattle.sheet_book.specs.FailingLaws.{walked_first}
use Rattle.sheet_book_tests.specs.WalkLaws.{ModelsWalked, models_unsound, models_iteration, models_end}
use Rattle.sheet_book_tests.proofs.first_unsound_model.Goals as goal
use Rattle.sheet_book_tests.proofs.first_unsound_model.Goals.{In-models, Start}

-- ---- what is known of the book
whole : (c : Start) → length c.args.b.models ≡ 16
whole c = c.well_formed.0.1.1.1.1.1.1.0.1.0.1

long : (c : Start) → c.args.b.model_count ≤ length c.args.b.models
unfolding most_models
long c = omega (arith, whole c, c.requires)

-- in the loop the number is that of a place
inside : (c : In-models) → c.models.k < 16
unfolding most_models
inside c = omega (arith, c.models-test.true, c.requires)

pub models-init : goal.models-init
models-init c = record { walked = walked_first _ _; placed = refl }

pub offset_bounds-b-k : goal.offset_bounds-b-k
offset_bounds-b-k c = omega (arith, inside c)

pub bounds-b-k : goal.bounds-b-k
bounds-b-k c = inside c

pub models-preserved : goal.models-preserved
models-preserved c = record {
  walked = models_iteration c.args.b c.models.k (long (goal.at.models-preserved c).Start) c.models.invariant.walked
      c.models-test.true _ (sym c.model_sound.ensures ∙ c.if-not-model_sound.false);
  placed = c.models.invariant.placed;
}

pub returns-after-models : goal.returns-after-models
returns-after-models c =
    let h = c.models.invariant in
    let e : c.models.place ≡ c.models.k = omega (arith, h.placed, c.models-test.false, c.models.auto.k-end) in
    e ∙ models_end _ _ (long (goal.at.returns-after-models c).Start) h.walked c.models-test.false

pub returns-then-not-model_sound : goal.returns-then-not-model_sound
returns-then-not-model_sound c =
    models_unsound c.args.b c.models.k (long (goal.at.returns-then-not-model_sound c).Start) c.models.invariant.walked
    c.models-test.true _ (sym c.model_sound.ensures ∙ c.if-not-model_sound.true)
