-- `walk_models` tests model after model, and stops at the first fault.
use mathlib.Core.Path.{◌≡◌, refl, sym, ◌∙◌, ap}
use mathlib.Core.List.{[], ◌∷◌, ◌++◌}
use Prim.Native.Nat.{◌+◌, ◌-◌}
use native.Mathlib.Omega.{arith}
use borrow.Author.Rules.{rules}
use lib.ListN.{length, drop}
use mir.Syntax.{w64}
use mir.Val.{Fits}
use Rattle.calculus.specs.Model.{most_terms}
use Rattle.format.specs.Format.{read_model}
use Rattle.sheet_walk.specs.ModelWalkLaws.{ModelsPassed, models_answer, models_first, models_iteration}
use Rattle.sheet_walk.specs.ModelWalkLaws.{ModelsSoFar, models_fault, models_end}
use Rattle.sheet_walk.proofs.walk_models.Goals as goal
use Rattle.sheet_walk.proofs.walk_models.Goals.{In-Some}

-- ---- an iteration
module _ (c : In-Some) where
  abbrev so_far : ModelsPassed c.args.s.now c.args.n c.args.d c.args.count
      c.models.keys c.models.coefficients c.models.at c.models.k
  so_far = c.models.invariant.passed

  short : Fits w64 (length c.args.s.now)
  short = omega arith

  next : ModelsSoFar c.args.s.now c.args.n c.args.d c.args.count
      (so_far.before ++ (read_model c.args.n (drop c.models.at c.args.s.now) ∷ []))
      (c.models.at + c.in-Some.taken) (c.models.k + 1)
  next = models_iteration _ _ _ _ _ _ _ so_far.so_far c.models-test.true _ c.in-Some.ensures.taken_is

pub models-init : goal.models-init
unfolding most_terms
models-init c = record {
  passed = record {
    before = [];
    so_far = models_first _ _ _ _;
    keys_long = refl;
    coefficients_long = refl;
  };
  placed = refl;
}

pub slice_bounds-record_at-end : goal.slice_bounds-record_at-end
unfolding most_terms
slice_bounds-record_at-end c = sym c.models.invariant.passed.keys_long

pub slice_bounds-record_at-end-in-models : goal.slice_bounds-record_at-end-in-models
unfolding most_terms
slice_bounds-record_at-end-in-models c = sym c.models.invariant.passed.coefficients_long

pub record_at-requires : goal.record_at-requires
record_at-requires c =
    let h = c.models.invariant.passed in
    record {
      at_in_bounds = h.so_far.within;
      most_terms_in_bounds = (omega (arith, h.keys_long), omega (arith, h.coefficients_long));
    }

pub overflow_add-at : goal.overflow_add-at
overflow_add-at c =
    omega (
      arith,
      (next (goal.at.overflow_add-at c).In-Some).within,
      short (goal.at.overflow_add-at c).In-Some,
    )

pub models-preserved : goal.models-preserved
models-preserved c =
    record {
      passed = record {
        before = _;
        so_far = next (goal.at.models-preserved c).In-Some;
        keys_long = c.record_at.auto.keys ∙ (so_far (goal.at.models-preserved c).In-Some).keys_long;
        coefficients_long = c.record_at.auto.coefficients
            ∙ (so_far (goal.at.models-preserved c).In-Some).coefficients_long;
      };
      placed = c.models.invariant.placed;
    }

pub returns-after-models : goal.returns-after-models
returns-after-models c =
    let h = c.models.invariant.passed in
    let e : c.models.place ≡ c.models.k =
    omega (arith, c.models.invariant.placed, c.models-test.false, c.models.auto.k-end) in
    ap (λ k. record { place = k; end = c.models.at }) e
    ∙ models_answer h (models_end _ _ _ _ _ _ _ h.so_far c.models-test.false)

pub returns-in_default : goal.returns-in_default
returns-in_default c =
    let h = c.models.invariant.passed in
    models_answer h (models_fault _ _ _ _ _ _ _ h.so_far c.in_default.ensures.taken_is)
