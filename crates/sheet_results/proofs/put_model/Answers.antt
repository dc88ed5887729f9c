-- `put_model` stores the terms into two parts, and two numbers.
use mathlib.Core.Path.{◌≡◌}
use native.Mathlib.Omega.{arith}
use Prim.Native.Nat.{◌+◌, ◌-◌, ◌*◌, ◌≤◌}
use lib.ListN.{length, take, drop, set, length-take, length-drop}
use Rattle.calculus.specs.Model.{most_terms}
use Rattle.sheet_results.specs.Results.{with_result}
use Rattle.sheet_results.specs.ResultsLaws.{spliced_part}
use borrow.Author.Rules.{rules}
use Rattle.sheet_results.proofs.put_model.Goals as goal
use Rattle.sheet_results.proofs.put_model.Goals.{Start}

-- the places of the model that is put
module _ (s : Start) where
  keys_there : 64 * (s.args.i + 1) ≤ length s.args.keys.now
  unfolding most_terms
  keys_there = s.requires.keys_long

  coefficients_there : 64 * (s.args.i + 1) ≤ length s.args.coefficients.now
  unfolding most_terms
  coefficients_there = s.requires.coefficients_long

  counts_there : s.args.i + 1 ≤ length s.args.counts.now
  counts_there = s.requires.counts_long

  radii_there : s.args.i + 1 ≤ length s.args.radii.now
  radii_there = s.requires.radii_long

  -- its own arrays
  keys_whole : length s.args.m.keys ≡ 64
  keys_whole = search rules

  coefficients_whole : length s.args.m.coefficients ≡ 64
  coefficients_whole = search rules

pub overflow_mul-from : goal.overflow_mul-from
overflow_mul-from c = omega (arith, keys_there (goal.at.overflow_mul-from c).Start)

pub offset_bounds-keys-from : goal.offset_bounds-keys-from
offset_bounds-keys-from c = let h = keys_there (goal.at.offset_bounds-keys-from c).Start in search rules

pub slice_bounds-store_named-count : goal.slice_bounds-store_named-count
slice_bounds-store_named-count c = let h = keys_there (goal.at.slice_bounds-store_named-count c).Start in search rules

pub slice_bounds-store_named-start : goal.slice_bounds-store_named-start
slice_bounds-store_named-start c = let h = keys_there (goal.at.slice_bounds-store_named-start c).Start in search rules

pub offset_bounds-coefficients-from : goal.offset_bounds-coefficients-from
offset_bounds-coefficients-from c = let h = coefficients_there (goal.at.offset_bounds-coefficients-from c).Start
    in search rules

pub slice_bounds-store_named-count-2 : goal.slice_bounds-store_named-count-2
slice_bounds-store_named-count-2 c = let h = coefficients_there (goal.at.slice_bounds-store_named-count-2 c).Start
    in search rules

pub slice_bounds-store_named-start-2 : goal.slice_bounds-store_named-start-2
slice_bounds-store_named-start-2 c = let h = coefficients_there (goal.at.slice_bounds-store_named-start-2 c).Start
    in search rules

pub store_named-requires : goal.store_named-requires
unfolding most_terms
store_named-requires c =
    let k = c.args.keys.now in
    let z = c.args.coefficients.now in
    let i = c.args.i in (
      omega (
        arith,
        keys_there (goal.at.store_named-requires c).Start,
        length-take (length k - 64 * i) (drop (64 * i) k),
        length-drop (64 * i) k,
      ),
      omega (
        arith,
        coefficients_there (goal.at.store_named-requires c).Start,
        length-take (length z - 64 * i) (drop (64 * i) z),
        length-drop (64 * i) z,
      ),
    )

pub offset_bounds-counts-i : goal.offset_bounds-counts-i
offset_bounds-counts-i c = let h = counts_there (goal.at.offset_bounds-counts-i c).Start in
    search rules

pub bounds-counts-i : goal.bounds-counts-i
bounds-counts-i c =
    let h = counts_there (goal.at.bounds-counts-i c).Start in
    search rules

pub offset_bounds-radii-i : goal.offset_bounds-radii-i
offset_bounds-radii-i c = let h = radii_there (goal.at.offset_bounds-radii-i c).Start in
    search rules

pub bounds-radii-i : goal.bounds-radii-i
bounds-radii-i c =
    let h = radii_there (goal.at.bounds-radii-i c).Start in
    search rules

pub returns : goal.returns
unfolding with_result most_terms
returns c =
    let w = c.store_named.ensures in
    let i = c.args.i in
    let m = c.args.m in
    let k = spliced_part (64 * i) (take m.count m.keys) c.args.keys.now
    (omega (arith, keys_there (goal.at.returns c).Start)) w.0 in
    let z = spliced_part (64 * i) (take m.count m.coefficients) c.args.coefficients.now
    (omega (arith, coefficients_there (goal.at.returns c).Start)) w.1 in record {
      radii_after = λ t. record {
        keys = k t;
        coefficients = z t;
        counts = set c.args.counts.now i m.count;
        radii = set c.args.radii.now i m.radius;
      };
      whole = (keys_whole (goal.at.returns c).Start, coefficients_whole (goal.at.returns c).Start);
    }
