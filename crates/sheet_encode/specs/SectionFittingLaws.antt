-- The numbers of a book that passes the tests fit their places in a sheet.
use Rattle.std.specs.Prelude.{◌≡◌, List, [], ◌∷◌, map, ℕ, zero, suc, ◌+◌, ◌^◌, ◌<◌, ◌≤◌, T, length}
use Rattle.std.proofs.Math.Path.{refl, ap, subst}
use Rattle.std.proofs.Common.{arith}
use Rattle.std.proofs.Math.IntN.{nat_abs}
use Rattle.std.proofs.Math.ListN.{get_or}
use Rattle.numbers.proofs.FixedLaws.{span_four_bytes}
use Rattle.calculus.specs.Terms.{sum_over, size}
use Rattle.calculus.specs.Model.{most_terms}
use Rattle.calculus.specs.Book as C
use Rattle.calculus_laws.specs.BookLaws.{all_from_at}
use Rattle.model_types.specs.declared.Model.{Model}
use Rattle.format.specs.Bytes.{join}
use Rattle.format.specs.HeldBook.{HeldTerm, HeldModel, view_held_term, outline_of}
use Rattle.format.specs.HeldBook.{held_model_sound, held_step_sound, HeldPasses}
use Rattle.format.specs.Format.{model_bytes, models_bytes}
use Rattle.format.specs.HeldBookLaws.{InLimits}
use Rattle.format.proofs.SmallLaws.{ModelFacts, model_facts, StepFacts, step_facts}
use Rattle.format.proofs.ReadBackLaws.{limits, outline_small}
use Rattle.sheet_book.specs.declared.Step.{Step}
use Rattle.sheet_book.specs.declared.Book.{Book}
use Rattle.sheet_book.specs.BookStruct.{no_model, no_step, held_model, held_step, held_book}
use Rattle.sheet_book.specs.FailingLaws.{held_at, count_models, count_steps}
use Rattle.sheet_encode.specs.Fitting.{ModelFits}

-- ---- models
within_size : (n : ℕ) (ts : List HeldTerm) (i : ℕ) (x : HeldTerm) → i < length ts
    → nat_abs (get_or ts i x).coefficient ≤ size (map (view_held_term n) ts)
unfolding size sum_over view_held_term
within_size n [] i x h = absurd (omega arith)
within_size n (t ∷ ts) zero x h = omega arith
within_size n (t ∷ ts) (suc i) x h = omega (arith, within_size n ts i x (omega arith))

pub model_fits : (b : C.Book) (m : HeldModel) → T (held_model_sound b m) → ModelFits m
unfolding most_terms
model_fits b m h = record {
  count = f.count;
  radius = omega (arith, f.small_span, span_four_bytes);
  coefficients = λ i x k. omega (arith, within_size b.vars m.terms i x k, f.small_span, span_four_bytes);
}
  where
    f : ModelFacts b.vars b.order m
    f = model_facts b m h

-- ---- a book
module _ (b : Book) where
  pub models_joined : join (map model_bytes (held_book b).models) ≡ models_bytes (held_book b)
  unfolding models_bytes
  models_joined = refl

  -- the entry of an array
  pub model_at : (k : ℕ) (x : Model) → k < b.model_count → b.model_count ≤ length b.models
      → get_or (held_book b).models k (held_model x) ≡ held_model (get_or b.models k x)
  unfolding held_book
  model_at k x h l = held_at no_model held_model b.model_count b.models l k x h

  pub step_at : (k : ℕ) (x : Step) → k < b.step_count → b.step_count ≤ length b.steps
      → get_or (held_book b).steps k (held_step x) ≡ held_step (get_or b.steps k x)
  unfolding held_book
  step_at k x h l = held_at no_step held_step b.step_count b.steps l k x h

  module _ (p : HeldPasses (held_book b)) where
    pub book_limits : InLimits b.n b.d b.model_count b.step_count
    unfolding held_book
    book_limits = subst (λ m. InLimits b.n b.d m b.step_count) (count_models b)
        (subst (λ k. InLimits b.n b.d (length (held_book b).models) k) (count_steps b)
        (limits (held_book b) p))

    pub model_at_fits : (k : ℕ) (x : Model) → k < b.model_count → b.model_count ≤ length b.models
        → ModelFits (held_model (get_or b.models k x))
    model_at_fits k x h l = subst ModelFits (model_at k x h l)
        (model_fits (outline_of (held_book b)) _
        (all_from_at 0 (λ i. held_model_sound (outline_of (held_book b))) (held_book b).models (held_model x)
        p.models k (omega (arith, count_models b))))

    pub step_at_fits : (k : ℕ) (x : Step) → k < b.step_count → b.step_count ≤ length b.steps
        → nat_abs (get_or b.steps k x).value < 2 ^ 31
    unfolding held_step
    step_at_fits k x h l = omega (arith, ap (λ s. nat_abs s.value) at, f.value)
      where
        at : get_or (held_book b).steps k (held_step x) ≡ held_step (get_or b.steps k x)
        at = step_at k x h l

        f : StepFacts (get_or (held_book b).steps k (held_step x))
        f = step_facts (outline_of (held_book b)) (0 + k) _ (omega (arith, book_limits.steps_high))
            (outline_small (held_book b) p).0 (outline_small (held_book b) p).1
            (all_from_at 0 (held_step_sound (outline_of (held_book b))) (held_book b).steps (held_step x) p.steps k
            (omega (arith, count_steps b)))
