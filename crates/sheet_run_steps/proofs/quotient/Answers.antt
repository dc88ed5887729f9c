-- `quotient` hands over the parts of the slices that the results begin.
use mathlib.Core.Path.{◌≡◌, ap}
use native.Mathlib.Omega.{arith}
use Prim.Native.Nat.{◌+◌, ◌*◌, ◌-◌, ◌≤◌}
use lib.ListN.{length, get_or, take, drop}
use Rattle.calculus.specs.Model.{most_terms}
use Rattle.model_types.specs.declared.Model.{Model}
use Rattle.model_types.specs.ModelStruct.{view}
use Rattle.model_slices.specs.HandedModels.{handed}
use Rattle.sheet_results.specs.Results.{Results, results}
use Rattle.sheet_run_inputs.specs.sheet_run_laws.RunIterationLaws.{result_part, part_holds, parts_proposal}
use Rattle.sheet_run_inputs.specs.sheet_run_laws.RunIterationLaws.{parts_quotient}
use borrow.Author.Rules.{rules}
use mir.Syntax.{w64}
use mir.Val.{Fits}
use Rattle.sheet_run_steps.proofs.quotient.Goals as goal
use Rattle.sheet_run_steps.proofs.quotient.Goals.{After-shared_slice_known-3-1, Start}

-- the places of the operands
module _ (s : Start) where
  keys_f : 64 * (s.args.a + 1) ≤ length s.args.keys.now
  unfolding most_terms
  keys_f = s.requires.proposed.first.keys_long

  coefficients_f : 64 * (s.args.a + 1) ≤ length s.args.coefficients.now
  unfolding most_terms
  coefficients_f = s.requires.proposed.first.coefficients_long

  counts_f : s.args.a + 1 ≤ length s.args.counts.now
  counts_f = s.requires.proposed.first.counts_long

  keys_g : 64 * (s.args.b + 1) ≤ length s.args.keys.now
  unfolding most_terms
  keys_g = s.requires.proposed.second.keys_long

  coefficients_g : 64 * (s.args.b + 1) ≤ length s.args.coefficients.now
  unfolding most_terms
  coefficients_g = s.requires.proposed.second.coefficients_long

  counts_g : s.args.b + 1 ≤ length s.args.counts.now
  counts_g = s.requires.proposed.second.counts_long

  keys_h : 64 * (s.args.v + 1) ≤ length s.args.keys.now
  unfolding most_terms
  keys_h = s.requires.proposed.third.keys_long

  coefficients_h : 64 * (s.args.v + 1) ≤ length s.args.coefficients.now
  unfolding most_terms
  coefficients_h = s.requires.proposed.third.coefficients_long

  counts_h : s.args.v + 1 ≤ length s.args.counts.now
  counts_h = s.requires.proposed.third.counts_long

  keys_w : 64 * (s.args.last + 1) ≤ length s.args.keys.now
  unfolding most_terms
  keys_w = s.requires.proposed.fourth.keys_long

  coefficients_w : 64 * (s.args.last + 1) ≤ length s.args.coefficients.now
  unfolding most_terms
  coefficients_w = s.requires.proposed.fourth.coefficients_long

  counts_w : s.args.last + 1 ≤ length s.args.counts.now
  counts_w = s.requires.proposed.fourth.counts_long

  radii_f : s.args.a + 1 ≤ length s.args.radii.now
  radii_f = s.requires.proposed.first.radii_long

  radii_g : s.args.b + 1 ≤ length s.args.radii.now
  radii_g = s.requires.proposed.second.radii_long

  -- the results, and the first of them where it stands
  abbrev stand : Results
  stand = results s.args.keys.now s.args.coefficients.now s.args.counts.now s.args.radii.now

  abbrev dividend : Model
  dividend = handed s.args.n (get_or s.args.counts.now s.args.a 0) (get_or s.args.radii.now s.args.a 0)
      (take (length s.args.keys.now - 64 * s.args.a) (drop (64 * s.args.a) s.args.keys.now))
      (take (length s.args.coefficients.now - 64 * s.args.a) (drop (64 * s.args.a) s.args.coefficients.now))

-- the places before each operand take less than a word's bytes
bytes_keys_f : (c : After-shared_slice_known-3-1) → Fits w64 (64 * c.args.a * 4)
bytes_keys_f c = let h = keys_f c.before.before.before.before.before.before in search rules

bytes_coefficients_f : (c : After-shared_slice_known-3-1) → Fits w64 (64 * c.args.a * 8)
bytes_coefficients_f c = let h = coefficients_f c.before.before.before.before.before.before in search rules

bytes_keys_g : (c : After-shared_slice_known-3-1) → Fits w64 (64 * c.args.b * 4)
bytes_keys_g c = let h = keys_g c.before.before.before.before.before.before in search rules

bytes_coefficients_g : (c : After-shared_slice_known-3-1) → Fits w64 (64 * c.args.b * 8)
bytes_coefficients_g c = let h = coefficients_g c.before.before.before.before.before.before in search rules

bytes_keys_h : (c : After-shared_slice_known-3-1) → Fits w64 (64 * c.args.v * 4)
bytes_keys_h c = let h = keys_h c.before.before.before.before.before.before in search rules

bytes_coefficients_h : (c : After-shared_slice_known-3-1) → Fits w64 (64 * c.args.v * 8)
bytes_coefficients_h c = let h = coefficients_h c.before.before.before.before.before.before in search rules

bytes_keys_w : (c : After-shared_slice_known-3-1) → Fits w64 (64 * c.args.last * 4)
bytes_keys_w c = let h = keys_w c.before.before.before.before.before.before in search rules

bytes_coefficients_w : (c : After-shared_slice_known-3-1) → Fits w64 (64 * c.args.last * 8)
bytes_coefficients_w c = let h = coefficients_w c.before.before.before.before.before.before in search rules

pub overflow_mul-fromf : goal.overflow_mul-fromf
overflow_mul-fromf c = omega (arith, keys_f (goal.at.overflow_mul-fromf c).Start)

pub overflow_mul-fromg : goal.overflow_mul-fromg
overflow_mul-fromg c = omega (arith, keys_g (goal.at.overflow_mul-fromg c).Start)

pub overflow_mul-fromh : goal.overflow_mul-fromh
overflow_mul-fromh c = omega (arith, keys_h (goal.at.overflow_mul-fromh c).Start)

pub overflow_mul-fromw : goal.overflow_mul-fromw
overflow_mul-fromw c = omega (arith, keys_w (goal.at.overflow_mul-fromw c).Start)

pub offset_bounds-counts-a : goal.offset_bounds-counts-a
offset_bounds-counts-a c = let h = counts_f (goal.at.offset_bounds-counts-a c).Start in search rules

pub bounds-counts-a : goal.bounds-counts-a
bounds-counts-a c = let h = counts_f (goal.at.bounds-counts-a c).Start in search rules

pub offset_bounds-counts-b : goal.offset_bounds-counts-b
offset_bounds-counts-b c = let h = counts_g (goal.at.offset_bounds-counts-b c).Start in search rules

pub bounds-counts-b : goal.bounds-counts-b
bounds-counts-b c = let h = counts_g (goal.at.bounds-counts-b c).Start in search rules

pub offset_bounds-counts-v : goal.offset_bounds-counts-v
offset_bounds-counts-v c = let h = counts_h (goal.at.offset_bounds-counts-v c).Start in search rules

pub bounds-counts-v : goal.bounds-counts-v
bounds-counts-v c = let h = counts_h (goal.at.bounds-counts-v c).Start in search rules

pub offset_bounds-counts-last : goal.offset_bounds-counts-last
offset_bounds-counts-last c = let h = counts_w (goal.at.offset_bounds-counts-last c).Start in search rules

pub bounds-counts-last : goal.bounds-counts-last
bounds-counts-last c = let h = counts_w (goal.at.bounds-counts-last c).Start in search rules

pub offset_bounds-radii-a : goal.offset_bounds-radii-a
offset_bounds-radii-a c = let h = radii_f (goal.at.offset_bounds-radii-a c).Start in search rules

pub bounds-radii-a : goal.bounds-radii-a
bounds-radii-a c = let h = radii_f (goal.at.bounds-radii-a c).Start in search rules

pub offset_bounds-radii-b : goal.offset_bounds-radii-b
offset_bounds-radii-b c = let h = radii_g (goal.at.offset_bounds-radii-b c).Start in search rules

pub bounds-radii-b : goal.bounds-radii-b
bounds-radii-b c = let h = radii_g (goal.at.bounds-radii-b c).Start in search rules

pub offset_bounds-keys-fromf : goal.offset_bounds-keys-fromf
offset_bounds-keys-fromf c = bytes_keys_f (goal.at.offset_bounds-keys-fromf c).After-shared_slice_known-3-1

pub slice_bounds-divided_slices-count : goal.slice_bounds-divided_slices-count
slice_bounds-divided_slices-count c = let h = keys_f (goal.at.slice_bounds-divided_slices-count c).Start in search rules

pub slice_bounds-divided_slices-start : goal.slice_bounds-divided_slices-start
slice_bounds-divided_slices-start c = let h = keys_f (goal.at.slice_bounds-divided_slices-start c).Start in search rules

pub offset_bounds-coefficients-fromf : goal.offset_bounds-coefficients-fromf
offset_bounds-coefficients-fromf c = bytes_coefficients_f
    (goal.at.offset_bounds-coefficients-fromf c).After-shared_slice_known-3-1

pub slice_bounds-divided_slices-count-2 : goal.slice_bounds-divided_slices-count-2
slice_bounds-divided_slices-count-2 c = let h = coefficients_f (goal.at.slice_bounds-divided_slices-count-2 c).Start
    in search rules

pub slice_bounds-divided_slices-start-2 : goal.slice_bounds-divided_slices-start-2
slice_bounds-divided_slices-start-2 c = let h = coefficients_f (goal.at.slice_bounds-divided_slices-start-2 c).Start
    in search rules

pub offset_bounds-keys-fromg : goal.offset_bounds-keys-fromg
offset_bounds-keys-fromg c = bytes_keys_g (goal.at.offset_bounds-keys-fromg c).After-shared_slice_known-3-1

pub slice_bounds-divided_slices-count-3 : goal.slice_bounds-divided_slices-count-3
slice_bounds-divided_slices-count-3 c = let h = keys_g (goal.at.slice_bounds-divided_slices-count-3 c).Start in search
    rules

pub slice_bounds-divided_slices-start-3 : goal.slice_bounds-divided_slices-start-3
slice_bounds-divided_slices-start-3 c = let h = keys_g (goal.at.slice_bounds-divided_slices-start-3 c).Start in search
    rules

pub offset_bounds-coefficients-fromg : goal.offset_bounds-coefficients-fromg
offset_bounds-coefficients-fromg c = bytes_coefficients_g
    (goal.at.offset_bounds-coefficients-fromg c).After-shared_slice_known-3-1

pub slice_bounds-divided_slices-count-4 : goal.slice_bounds-divided_slices-count-4
slice_bounds-divided_slices-count-4 c = let h = coefficients_g (goal.at.slice_bounds-divided_slices-count-4 c).Start
    in search rules

pub slice_bounds-divided_slices-start-4 : goal.slice_bounds-divided_slices-start-4
slice_bounds-divided_slices-start-4 c = let h = coefficients_g (goal.at.slice_bounds-divided_slices-start-4 c).Start
    in search rules

pub offset_bounds-keys-fromh : goal.offset_bounds-keys-fromh
offset_bounds-keys-fromh c = bytes_keys_h (goal.at.offset_bounds-keys-fromh c).After-shared_slice_known-3-1

pub slice_bounds-divided_slices-count-5 : goal.slice_bounds-divided_slices-count-5
slice_bounds-divided_slices-count-5 c = let h = keys_h (goal.at.slice_bounds-divided_slices-count-5 c).Start in search
    rules

pub slice_bounds-divided_slices-start-5 : goal.slice_bounds-divided_slices-start-5
slice_bounds-divided_slices-start-5 c = let h = keys_h (goal.at.slice_bounds-divided_slices-start-5 c).Start in search
    rules

pub offset_bounds-coefficients-fromh : goal.offset_bounds-coefficients-fromh
offset_bounds-coefficients-fromh c = bytes_coefficients_h
    (goal.at.offset_bounds-coefficients-fromh c).After-shared_slice_known-3-1

pub slice_bounds-divided_slices-count-6 : goal.slice_bounds-divided_slices-count-6
slice_bounds-divided_slices-count-6 c = let h = coefficients_h (goal.at.slice_bounds-divided_slices-count-6 c).Start
    in search rules

pub slice_bounds-divided_slices-start-6 : goal.slice_bounds-divided_slices-start-6
slice_bounds-divided_slices-start-6 c = let h = coefficients_h (goal.at.slice_bounds-divided_slices-start-6 c).Start
    in search rules

pub offset_bounds-keys-fromw : goal.offset_bounds-keys-fromw
offset_bounds-keys-fromw c = bytes_keys_w (goal.at.offset_bounds-keys-fromw c).After-shared_slice_known-3-1

pub slice_bounds-divided_slices-count-7 : goal.slice_bounds-divided_slices-count-7
slice_bounds-divided_slices-count-7 c = let h = keys_w (goal.at.slice_bounds-divided_slices-count-7 c).Start in search
    rules

pub slice_bounds-divided_slices-start-7 : goal.slice_bounds-divided_slices-start-7
slice_bounds-divided_slices-start-7 c = let h = keys_w (goal.at.slice_bounds-divided_slices-start-7 c).Start in search
    rules

pub offset_bounds-coefficients-fromw : goal.offset_bounds-coefficients-fromw
offset_bounds-coefficients-fromw c = bytes_coefficients_w
    (goal.at.offset_bounds-coefficients-fromw c).After-shared_slice_known-3-1

pub slice_bounds-divided_slices-count-8 : goal.slice_bounds-divided_slices-count-8
slice_bounds-divided_slices-count-8 c = let h = coefficients_w (goal.at.slice_bounds-divided_slices-count-8 c).Start
    in search rules

pub slice_bounds-divided_slices-start-8 : goal.slice_bounds-divided_slices-start-8
slice_bounds-divided_slices-start-8 c = let h = coefficients_w (goal.at.slice_bounds-divided_slices-start-8 c).Start
    in search rules

pub divided_slices-requires : goal.divided_slices-requires
unfolding most_terms handed
divided_slices-requires c =
    let p = c.requires.proposed in record {
      proposal = parts_proposal p (dividend (goal.at.divided_slices-requires c).Start)
          (ap view (result_part c.args.n (stand (goal.at.divided_slices-requires c).Start) c.args.a));
      countf_in_bounds = part_holds c.args.a p.first;
      countg_in_bounds = part_holds c.args.b p.second;
      counth_in_bounds = part_holds c.args.v p.third;
      countw_in_bounds = part_holds c.args.last p.fourth;
      scratch_room = c.requires.scratch_room;
    }

pub returns : goal.returns
unfolding most_terms handed
returns c =
    parts_quotient c.requires.proposed (dividend (goal.at.returns c).Start)
    (ap view (result_part c.args.n (stand (goal.at.returns c).Start) c.args.a))
    c.divided_slices.ensures
