-- `read_models` reads and tests model after model, and stops at the first fault.
use mathlib.Core.Path.{◌≡◌, refl, ◌∙◌, ap}
use mathlib.Core.List.{[], ◌∷◌, ◌++◌}
use Prim.Native.Nat.{◌+◌, ◌-◌, ◌≤◌}
use native.Mathlib.Omega.{arith}
use borrow.Author.Rules.{rules}
use lib.ListN.{length, drop}
use mir.Syntax.{w64}
use mir.Val.{Fits}
use Rattle.calculus.specs.Model.{most_terms}
use Rattle.calculus.specs.Book.{most_models}
use Rattle.format.specs.Format.{read_model}
use Rattle.sheet_walk.specs.ModelWalkLaws.{ModelsSoFar, models_iteration, models_fault, models_end, head_inside}
use Rattle.sheet_walk.specs.ModelWalkLaws.{struct_read}
use Rattle.sheet_read_walk.specs.KeptLaws.{ModelsKept, models_none, models_more, models_answer}
use Rattle.sheet_read_walk.proofs.read_models.Goals as goal
use Rattle.sheet_read_walk.proofs.read_models.Goals.{In-Some}

-- ---- an iteration
module _ (c : In-Some) where
  abbrev so_far : ModelsKept c.args.s.now c.args.n c.args.d c.args.count
      c.models.models c.models.at c.models.k
  so_far = c.models.invariant.kept

  short : Fits w64 (length c.args.s.now)
  short = omega arith

  head : c.models.at + 5 ≤ length c.args.s.now
  head = head_inside _ _ _ _ c.in-Some.ensures so_far.so_far.within

  next : ModelsSoFar c.args.s.now c.args.n c.args.d c.args.count
      (so_far.before ++ (read_model c.args.n (drop c.models.at c.args.s.now) ∷ []))
      (c.models.at + c.in-Some.taken) (c.models.k + 1)
  next = models_iteration _ _ _ _ _ _ _ so_far.so_far c.models-test.true _ c.in-Some.ensures.taken_is

pub models-init : goal.models-init
unfolding most_models
models-init c = record { kept = models_none _ _ _ _ _ c.without_terms-none.ensures; placed = refl }

pub slice_bounds-record_at-end : goal.slice_bounds-record_at-end
slice_bounds-record_at-end c = refl

pub slice_bounds-record_at-end-in-models : goal.slice_bounds-record_at-end-in-models
slice_bounds-record_at-end-in-models c = refl

pub record_at-requires : goal.record_at-requires
unfolding most_terms
record_at-requires c = record {
  at_in_bounds = c.models.invariant.kept.so_far.within;
  most_terms_in_bounds = (omega arith, omega arith);
}

pub overflow_add-at : goal.overflow_add-at
overflow_add-at c =
    omega (
      arith,
      head (goal.at.overflow_add-at c).In-Some,
      short (goal.at.overflow_add-at c).In-Some,
    )

pub byte_at-total-requires : goal.byte_at-total-requires
byte_at-total-requires c = omega (
  arith,
  head (goal.at.byte_at-total-requires c).In-Some,
)

pub u32_at-radius-requires : goal.u32_at-radius-requires
u32_at-radius-requires c =
    omega (arith, head (goal.at.u32_at-radius-requires c).In-Some)

pub offset_bounds-models-k : goal.offset_bounds-models-k
unfolding most_models
offset_bounds-models-k c = search rules

pub bounds-models-k : goal.bounds-models-k
unfolding most_models
bounds-models-k c = search rules

pub overflow_add-at-in-models : goal.overflow_add-at-in-models
overflow_add-at-in-models c =
    omega (
      arith,
      (next (goal.at.overflow_add-at-in-models c).In-Some).within,
      short (goal.at.overflow_add-at-in-models c).In-Some,
    )

pub models-preserved : goal.models-preserved
unfolding most_terms
models-preserved c = record {
  kept = models_more _ _ _ _ _ _ _ (so_far (goal.at.models-preserved c).In-Some) c.models-test.true c.requires.2 _
      (next (goal.at.models-preserved c).In-Some) _
      (struct_read _ _ c.models.at c.args.s.now c.in-Some.ensures refl refl _ _ c.byte_at-total.ensures
      c.u32_at-radius.ensures);
  placed = c.models.invariant.placed;
}

pub returns-after-models : goal.returns-after-models
returns-after-models c =
    let h = c.models.invariant.kept in
    let e : c.models.place ≡ c.models.k =
    omega (arith, c.models.invariant.placed, c.models-test.false, c.models.auto.k-end) in
    ap (λ k. record { place = k; end = c.models.at; models = c.models.models }) e
    ∙ models_answer _ _ _ _ _ _ _ h (models_end _ _ _ _ _ _ _ h.so_far c.models-test.false)

pub returns-in_default : goal.returns-in_default
returns-in_default c =
    let h = c.models.invariant.kept in
    models_answer _ _ _ _ _ _ _ h (models_fault _ _ _ _ _ _ _ h.so_far c.in_default.ensures.taken_is)
