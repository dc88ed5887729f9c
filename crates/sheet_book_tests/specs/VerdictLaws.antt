-- The verdict of a book by the first of its tests that fails.
use Rattle.std.specs.Prelude.{◌≡◌, Bool, ◌≤◌, ◌<◌}
use Rattle.std.proofs.Math.Path.{sym, ap}
use Rattle.std.proofs.Common.{◌∙◌, arith}
use Rattle.std.proofs.Math.Bool.{true, false}
use Rattle.calculus.specs.Refusal.{Result, done, require_at, require_each, bad_limits, bad_model, bad_step}
use Rattle.calculus.specs.Book.{limits_sound}
use Rattle.model_types.specs.declared.Refusal.TheVariants.{BadLimits, BadModel, BadStep}
use Rattle.std.specs.Prelude.{Ok, Err}
use Rattle.model_types.specs.ModelStruct.{refused_at}
use Rattle.model_types.specs.ModelStruct.{refusal}
use Rattle.format.specs.HeldBook.{HeldBook, outline, outline_of, held_model_sound, held_step_sound, held_tested}
use Rattle.sheet_book.specs.declared.Book.{Book}
use Rattle.sheet_book.specs.BookStruct.{held_book, book_verdict}
use Rattle.sheet_book.specs.TestedLaws.{verdict_done, verdict_stopped}
use Rattle.sheet_book_tests.specs.Unsound.{first_unsound_model, first_unsound_step}
use Rattle.sheet_book.specs.FailingLaws.{failing_stops, failing_none, count_models, count_steps, limits_test}

module _ (b : Book) where
  -- test 3
  abbrev limits : Bool
  limits = limits_sound (outline b.n b.d b.model_count b.step_count)

  -- test 6; tests 5 and 6
  abbrev from_6 : Result HeldBook
  from_6 = require_each 0 (held_step_sound (outline_of (held_book b))) (held_book b).steps bad_step
      (done (held_book b))

  abbrev from_5 : Result HeldBook
  from_5 = require_each 0 (λ i. held_model_sound (outline_of (held_book b))) (held_book b).models bad_model from_6

  by_limits : (t : Bool) → limits ≡ t
      → held_tested (held_book b) (done (held_book b)) ≡ require_at 0 t bad_limits from_5
  unfolding held_tested
  by_limits t e = ap (λ t. require_at 0 t bad_limits from_5) (limits_test b ∙ e)

  -- test 3 fails
  pub limits_verdict : limits ≡ false → Err (refused_at BadLimits 0) ≡ book_verdict b
  unfolding book_verdict refusal require_at
  limits_verdict e = sym (verdict_stopped _ bad_limits 0 (by_limits false e))

  module _ (in_limits : limits ≡ true) where
    passed_3 : held_tested (held_book b) (done (held_book b)) ≡ from_5
    unfolding require_at
    passed_3 = by_limits true in_limits

    -- a model fails test 5
    pub model_verdict : first_unsound_model b < b.model_count
        → Err (refused_at BadModel (first_unsound_model b)) ≡ book_verdict b
    unfolding book_verdict refusal first_unsound_model
    model_verdict h = sym (verdict_stopped _ bad_model _ (passed_3
        ∙ failing_stops _ bad_model from_6 0 (held_book b).models (let c = count_models b in omega arith)))

    module _ (models_pass : b.model_count ≤ first_unsound_model b) where
      passed_5 : held_tested (held_book b) (done (held_book b)) ≡ from_6
      unfolding first_unsound_model
      passed_5 = passed_3
          ∙ failing_none _ bad_model from_6 0 (held_book b).models (let c = count_models b in omega arith)

      -- a step fails test 6
      pub step_verdict : first_unsound_step b < b.step_count
          → Err (refused_at BadStep (first_unsound_step b)) ≡ book_verdict b
      unfolding book_verdict refusal first_unsound_step
      step_verdict h = sym (verdict_stopped _ bad_step _ (passed_5
          ∙ failing_stops _ bad_step _ 0 (held_book b).steps (let c = count_steps b in omega arith)))

      -- none fails
      pub accepted_verdict : b.step_count ≤ first_unsound_step b → (Ok tt) ≡ book_verdict b
      unfolding book_verdict first_unsound_step
      accepted_verdict h = sym (verdict_done _ (held_book b) (passed_5
          ∙ failing_none _ bad_step _ 0 (held_book b).steps (let c = count_steps b in omega arith)))
