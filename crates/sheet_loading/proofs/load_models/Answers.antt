-- `load_models` reads model after model to its place, and stops at the first fault.
use mathlib.Core.Path.{◌≡◌, refl, sym, ◌∙◌, subst}
use mathlib.Core.List.{List}
use Prim.Native.Nat.{ℕ, ◌+◌, ◌*◌, ◌-◌, ◌≤◌, ◌<◌}
use native.Mathlib.Omega.{arith}
use borrow.Author.Rules.{rules}
use lib.ListN.{length, drop, take, length-take, length-drop, length-set}
use mir.Syntax.{w64}
use mir.Val.{Fits}
use Rattle.calculus.specs.Model.{most_terms}
use Rattle.sheet_read_walk.specs.sheet_walk.ModelWalkLaws.{models_iteration, models_fault, models_end, head_inside}
use Rattle.sheet_results.specs.Results.{Results, results}
use Rattle.sheet_loading.specs.Loading.{ModelsLoaded}
use Rattle.sheet_loading.specs.LoadLaws.{Loading, load_first, load_iteration, load_end, load_fault}
use Rattle.sheet_loading.specs.LoadLaws.{keys_inside, coefficients_inside, count_inside, radius_inside}
use Rattle.sheet_loading.proofs.load_models.Goals as goal
use Rattle.sheet_loading.proofs.load_models.Goals.{In-Some, In-models}

-- ---- what is known in the loop,
module _ (c : In-models) where
  abbrev sheet : List ℕ
  sheet = c.args.s.now

  abbrev before : Results
  before = results c.args.keys.now c.args.coefficients.now c.args.counts.now
      c.args.radii.now

  abbrev memory : Results
  memory = results c.models.keys c.models.coefficients c.models.counts c.models.radii

  abbrev so_far : Loading sheet c.args.n c.args.d c.args.count before memory
      c.models.at c.models.k
  so_far = c.models.invariant.loading

  inside : c.models.k < c.args.count
  inside = c.models-test.true

  keys_room : 64 * c.models.k + 64 ≤ length c.models.keys
  unfolding most_terms
  keys_room = keys_inside so_far c.requires inside

  coefficients_room : 64 * c.models.k + 64 ≤ length c.models.coefficients
  unfolding most_terms
  coefficients_room = coefficients_inside so_far c.requires inside

  count_room : c.models.k < length c.models.counts
  count_room = count_inside so_far c.requires inside

  radius_room : c.models.k < length c.models.radii
  radius_room = radius_inside so_far c.requires inside

  short : Fits w64 (length sheet)
  short = omega arith

-- and of a record that passes
module _ (e : In-Some) where
  head : e.models.at + 5 ≤ length (sheet (goal.at.overflow_add-at e).In-models)
  head = head_inside _ _ e.models.at (sheet (goal.at.overflow_add-at e).In-models) e.in-Some.ensures
      (so_far (goal.at.overflow_add-at e).In-models).so_far.within

pub models-init : goal.models-init
models-init c = record { loading = load_first _ _ _ _ _; placed = refl }

pub overflow_mul-from : goal.overflow_mul-from
overflow_mul-from c = omega (arith, keys_room c)

pub offset_bounds-keys-from : goal.offset_bounds-keys-from
offset_bounds-keys-from c = let h = keys_room c in search rules

pub slice_bounds-record_at-count : goal.slice_bounds-record_at-count
slice_bounds-record_at-count c = let h = keys_room c in search rules

pub slice_bounds-record_at-start : goal.slice_bounds-record_at-start
slice_bounds-record_at-start c = let h = keys_room c in search rules

pub offset_bounds-coefficients-from : goal.offset_bounds-coefficients-from
offset_bounds-coefficients-from c = let h = coefficients_room (goal.at.offset_bounds-coefficients-from c).In-models
    in search rules

pub slice_bounds-record_at-count-in-models : goal.slice_bounds-record_at-count-in-models
slice_bounds-record_at-count-in-models c = let h = coefficients_room
    (goal.at.slice_bounds-record_at-count-in-models c).In-models in search rules

pub slice_bounds-record_at-start-in-models : goal.slice_bounds-record_at-start-in-models
slice_bounds-record_at-start-in-models c = let h = coefficients_room
    (goal.at.slice_bounds-record_at-start-in-models c).In-models in search rules

pub record_at-requires : goal.record_at-requires
unfolding most_terms
record_at-requires c =
    let k = c.models.keys in
    let z = c.models.coefficients in
    let i = 64 * c.models.k in record {
      at_in_bounds = (so_far (goal.at.record_at-requires c).In-models).so_far.within;
      most_terms_in_bounds = (
        omega (
          arith,
          keys_room (goal.at.record_at-requires c).In-models,
          length-take (length k - i) (drop i k),
          length-drop i k,
        ),
        omega (
          arith,
          coefficients_room (goal.at.record_at-requires c).In-models,
          length-take (length z - i) (drop i z),
          length-drop i z,
        ),
      );
    }

pub overflow_add-at : goal.overflow_add-at
overflow_add-at c = omega (arith, head c, short (goal.at.overflow_add-at c).In-models)

pub byte_at-total-requires : goal.byte_at-total-requires
byte_at-total-requires c = omega (arith, head c)

pub u32_at-radius-requires : goal.u32_at-radius-requires
u32_at-radius-requires c = omega (arith, head (goal.at.u32_at-radius-requires c).In-Some)

pub offset_bounds-counts-k : goal.offset_bounds-counts-k
offset_bounds-counts-k c = let h = count_room (goal.at.offset_bounds-counts-k c).In-models in search rules

pub bounds-counts-k : goal.bounds-counts-k
bounds-counts-k c = let h = count_room (goal.at.bounds-counts-k c).In-models in search rules

pub offset_bounds-radii-k : goal.offset_bounds-radii-k
offset_bounds-radii-k c = let h = radius_room (goal.at.offset_bounds-radii-k c).In-models in search rules

pub bounds-radii-k : goal.bounds-radii-k
bounds-radii-k c = let h = radius_room (goal.at.bounds-radii-k c).In-models in search rules

pub overflow_add-at-in-models : goal.overflow_add-at-in-models
overflow_add-at-in-models c =
    omega (
      arith,
      (models_iteration _ _ _ _ _ _ _ (so_far (goal.at.overflow_add-at-in-models c).In-models).so_far
          (inside (goal.at.overflow_add-at-in-models c).In-models) _ c.in-Some.ensures.taken_is).within,
      short (goal.at.overflow_add-at-in-models c).In-models,
    )

pub models-preserved : goal.models-preserved
unfolding most_terms
models-preserved c = record {
  loading = load_iteration (so_far (goal.at.models-preserved c).In-models) c.requires
      (inside (goal.at.models-preserved c).In-models) c.in-Some.ensures _ _
      c.byte_at-total.ensures c.u32_at-radius.ensures;
  placed = c.models.invariant.placed;
}

pub shape_of-keys-after-models : goal.shape_of-keys-after-models
shape_of-keys-after-models c = c.models.invariant.loading.keys_long

pub shape_of-coefficients-after-models : goal.shape_of-coefficients-after-models
shape_of-coefficients-after-models c = c.models.invariant.loading.coefficients_long

pub shape_of-counts-after-models : goal.shape_of-counts-after-models
shape_of-counts-after-models c = c.models.invariant.loading.counts_long

pub shape_of-radii-after-models : goal.shape_of-radii-after-models
shape_of-radii-after-models c = c.models.invariant.loading.radii_long

pub returns-after-models : goal.returns-after-models
returns-after-models c =
    let h = c.models.invariant.loading in
    let e : c.models.k ≡ c.models.place =
    omega (arith, c.models.invariant.placed, c.models-test.false, c.models.auto.k-end) in
    subst (λ k. ModelsLoaded c.args.n c.args.d c.args.count c.args.s.now (record { place = k; end = c.models.at })
    (results c.args.keys.now c.args.coefficients.now c.args.counts.now c.args.radii.now)
    (results c.models.keys c.models.coefficients c.models.counts c.models.radii)) e
    (load_end h c.requires (models_end _ _ _ _ _ _ _ h.so_far c.models-test.false))

pub shape_of-keys-in_default : goal.shape_of-keys-in_default
shape_of-keys-in_default c =
    c.keys-1.given.1 ∙ (so_far (goal.at.shape_of-keys-in_default c).In-models).keys_long

pub shape_of-coefficients-in_default : goal.shape_of-coefficients-in_default
shape_of-coefficients-in_default c =
    c.coefficients-1.given.1 ∙ (so_far (goal.at.shape_of-coefficients-in_default c).In-models).coefficients_long

pub shape_of-counts-in_default : goal.shape_of-counts-in_default
shape_of-counts-in_default c = (so_far (goal.at.shape_of-counts-in_default c).In-models).counts_long

pub shape_of-radii-in_default : goal.shape_of-radii-in_default
shape_of-radii-in_default c = (so_far (goal.at.shape_of-radii-in_default c).In-models).radii_long

pub returns-in_default : goal.returns-in_default
returns-in_default c =
    let h = so_far (goal.at.returns-in_default c).In-models in
    load_fault h c.requires (models_fault _ _ _ _ _ _ _ h.so_far c.in_default.ensures.taken_is)
    (inside (goal.at.returns-in_default c).In-models) _
