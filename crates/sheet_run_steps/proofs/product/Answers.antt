-- `product` hands over the parts of the slices that two results begin.
use mathlib.Core.Path.{◌≡◌, sym, ◌∙◌, ap₂, subst}
use native.Mathlib.Omega.{arith}
use Prim.Native.Nat.{◌+◌, ◌*◌, ◌≤◌}
use lib.ListN.{length}
use Rattle.calculus.specs.Model.{most_terms}
use Rattle.calculus.specs.Operations.{multiply}
use Rattle.calculus.specs.Shares.{product_shares}
use Rattle.model_types.specs.ModelStruct.{view}
use Rattle.model_types.specs.SharesStruct.{accounted}
use Rattle.sheet_run_inputs.specs.model.OperationContracts.{Factors}
use Rattle.sheet_results.specs.Results.{Results, results}
use Rattle.sheet_run_inputs.specs.sheet_run_laws.RunIterationLaws.{result_part, factors_part, part_holds}
use borrow.Author.Rules.{rules}
use Rattle.sheet_run_steps.proofs.product.Goals as goal
use Rattle.sheet_run_steps.proofs.product.Goals.{Start}

-- the places of both factors
module _ (s : Start) where
  keys_1 : 64 * (s.args.a + 1) ≤ length s.args.keys.now
  unfolding most_terms
  keys_1 = s.requires.roomy.0.keys_long

  keys_2 : 64 * (s.args.b + 1) ≤ length s.args.keys.now
  unfolding most_terms
  keys_2 = s.requires.roomy.1.keys_long

  coefficients_1 : 64 * (s.args.a + 1) ≤ length s.args.coefficients.now
  unfolding most_terms
  coefficients_1 = s.requires.roomy.0.coefficients_long

  coefficients_2 : 64 * (s.args.b + 1) ≤ length s.args.coefficients.now
  unfolding most_terms
  coefficients_2 = s.requires.roomy.1.coefficients_long

  counts_1 : s.args.a + 1 ≤ length s.args.counts.now
  counts_1 = s.requires.roomy.0.counts_long

  counts_2 : s.args.b + 1 ≤ length s.args.counts.now
  counts_2 = s.requires.roomy.1.counts_long

  radii_1 : s.args.a + 1 ≤ length s.args.radii.now
  radii_1 = s.requires.roomy.0.radii_long

  radii_2 : s.args.b + 1 ≤ length s.args.radii.now
  radii_2 = s.requires.roomy.1.radii_long

pub overflow_mul-from1 : goal.overflow_mul-from1
overflow_mul-from1 c = omega (arith, keys_1 (goal.at.overflow_mul-from1 c).Start)

pub overflow_mul-from2 : goal.overflow_mul-from2
overflow_mul-from2 c = omega (arith, keys_2 (goal.at.overflow_mul-from2 c).Start)

pub offset_bounds-counts-a : goal.offset_bounds-counts-a
offset_bounds-counts-a c = let h = counts_1 (goal.at.offset_bounds-counts-a c).Start in search rules

pub bounds-counts-a : goal.bounds-counts-a
bounds-counts-a c = let h = counts_1 (goal.at.bounds-counts-a c).Start in search rules

pub offset_bounds-counts-b : goal.offset_bounds-counts-b
offset_bounds-counts-b c = let h = counts_2 (goal.at.offset_bounds-counts-b c).Start in search rules

pub bounds-counts-b : goal.bounds-counts-b
bounds-counts-b c = let h = counts_2 (goal.at.bounds-counts-b c).Start in search
    rules

pub offset_bounds-radii-a : goal.offset_bounds-radii-a
offset_bounds-radii-a c = let h = radii_1 (goal.at.offset_bounds-radii-a c).Start in search rules

pub bounds-radii-a : goal.bounds-radii-a
bounds-radii-a c = let h = radii_1 (goal.at.bounds-radii-a c).Start in
    search rules

pub offset_bounds-radii-b : goal.offset_bounds-radii-b
offset_bounds-radii-b c = let h = radii_2 (goal.at.offset_bounds-radii-b c).Start in search rules

pub bounds-radii-b : goal.bounds-radii-b
bounds-radii-b c = let h = radii_2 (goal.at.bounds-radii-b c).Start in search rules

pub offset_bounds-keys-from1 : goal.offset_bounds-keys-from1
offset_bounds-keys-from1 c = let h = keys_1 (goal.at.offset_bounds-keys-from1 c).Start in search rules

pub slice_bounds-multiplied_slices_accounted-count : goal.slice_bounds-multiplied_slices_accounted-count
slice_bounds-multiplied_slices_accounted-count c = let h = keys_1
    (goal.at.slice_bounds-multiplied_slices_accounted-count c).Start in search rules

pub slice_bounds-multiplied_slices_accounted-start : goal.slice_bounds-multiplied_slices_accounted-start
slice_bounds-multiplied_slices_accounted-start c = let h = keys_1
    (goal.at.slice_bounds-multiplied_slices_accounted-start c).Start in search rules

pub offset_bounds-coefficients-from1 : goal.offset_bounds-coefficients-from1
offset_bounds-coefficients-from1 c = let h = coefficients_1 (goal.at.offset_bounds-coefficients-from1 c).Start in search
    rules

pub slice_bounds-multiplied_slices_accounted-count-2 : goal.slice_bounds-multiplied_slices_accounted-count-2
slice_bounds-multiplied_slices_accounted-count-2 c = let h = coefficients_1
    (goal.at.slice_bounds-multiplied_slices_accounted-count-2 c).Start in search rules

pub slice_bounds-multiplied_slices_accounted-start-2 : goal.slice_bounds-multiplied_slices_accounted-start-2
slice_bounds-multiplied_slices_accounted-start-2 c = let h = coefficients_1
    (goal.at.slice_bounds-multiplied_slices_accounted-start-2 c).Start in search rules

pub offset_bounds-keys-from2 : goal.offset_bounds-keys-from2
offset_bounds-keys-from2 c = let h = keys_2 (goal.at.offset_bounds-keys-from2 c).Start in search rules

pub slice_bounds-multiplied_slices_accounted-count-3 : goal.slice_bounds-multiplied_slices_accounted-count-3
slice_bounds-multiplied_slices_accounted-count-3 c = let h = keys_2
    (goal.at.slice_bounds-multiplied_slices_accounted-count-3 c).Start in search rules

pub slice_bounds-multiplied_slices_accounted-start-3 : goal.slice_bounds-multiplied_slices_accounted-start-3
slice_bounds-multiplied_slices_accounted-start-3 c = let h = keys_2
    (goal.at.slice_bounds-multiplied_slices_accounted-start-3 c).Start in search rules

pub offset_bounds-coefficients-from2 : goal.offset_bounds-coefficients-from2
offset_bounds-coefficients-from2 c = let h = coefficients_2 (goal.at.offset_bounds-coefficients-from2 c).Start in search
    rules

pub slice_bounds-multiplied_slices_accounted-count-4 : goal.slice_bounds-multiplied_slices_accounted-count-4
slice_bounds-multiplied_slices_accounted-count-4 c = let h = coefficients_2
    (goal.at.slice_bounds-multiplied_slices_accounted-count-4 c).Start in search rules

pub slice_bounds-multiplied_slices_accounted-start-4 : goal.slice_bounds-multiplied_slices_accounted-start-4
slice_bounds-multiplied_slices_accounted-start-4 c = let h = coefficients_2
    (goal.at.slice_bounds-multiplied_slices_accounted-start-4 c).Start in search rules

-- what the slices hold
abbrev memory : Start → Results
memory s = results s.args.keys.now s.args.coefficients.now s.args.counts.now s.args.radii.now

pub multiplied_slices_accounted-requires : goal.multiplied_slices_accounted-requires
unfolding most_terms
multiplied_slices_accounted-requires c =
    let r = c.requires.roomy in record {
      factors = factors_part c.args.n (memory (goal.at.multiplied_slices_accounted-requires c).Start) c.args.a c.args.b
          c.requires.factors;
      count1_in_bounds = part_holds c.args.a r.0;
      count2_in_bounds = part_holds c.args.b r.1;
      scratch_room = c.requires.scratch_room;
    }

pub returns : goal.returns
unfolding most_terms
returns c =
    c.multiplied_slices_accounted.ensures
    ∙ ap₂ (λ x y. accounted (multiply c.args.d (view x) (view y)) (λ k. product_shares c.args.d (view x)
    (view y)))
    (result_part c.args.n (memory (goal.at.returns c).Start) c.args.a)
    (result_part c.args.n (memory (goal.at.returns c).Start) c.args.b)
