-- `result` copies the terms that its count names, from the parts of both slices that begin at its place.
use mathlib.Core.Path.{refl, ◌∙◌, ap}
use native.Mathlib.Omega.{arith}
use borrow.Author.Rules.{rules}
use Prim.Native.Nat.{◌+◌, ◌-◌, ◌*◌, ◌≤◌}
use lib.ListN.{length, drop, get_or, length-take, length-drop}
use Rattle.calculus.specs.Model.{most_terms}
use Rattle.model_types.specs.ModelStruct.{view}
use Rattle.model_types.specs.PairedLaws.{listed_struct}
use Rattle.model_slices.specs.HandedModelsLaws.{filled_listed}
use Rattle.sheet_results.specs.ResultsLaws.{part_all, taken_end}
use Rattle.sheet_results.proofs.result.Goals as goal
use Rattle.sheet_results.proofs.result.Goals.{Start}

-- the places of the model that is taken out
module _ (s : Start) where
  keys_there : 64 * (s.args.j + 1) ≤ length s.args.keys.now
  unfolding most_terms
  keys_there = s.requires.keys_long

  coefficients_there : 64 * (s.args.j + 1) ≤ length s.args.coefficients.now
  unfolding most_terms
  coefficients_there = s.requires.coefficients_long

  few : get_or s.args.counts.now s.args.j 0 ≤ 64
  unfolding most_terms
  few = s.requires.few s.args.j

pub overflow_mul-from : goal.overflow_mul-from
overflow_mul-from c = omega (arith, keys_there (goal.at.overflow_mul-from c).Start)

pub offset_bounds-keys-from : goal.offset_bounds-keys-from
offset_bounds-keys-from c = let h = keys_there (goal.at.offset_bounds-keys-from c).Start in search rules

pub slice_bounds-copy_keys-count : goal.slice_bounds-copy_keys-count
slice_bounds-copy_keys-count c = let h = keys_there (goal.at.slice_bounds-copy_keys-count c).Start in search rules

pub slice_bounds-copy_keys-start : goal.slice_bounds-copy_keys-start
slice_bounds-copy_keys-start c = let h = keys_there (goal.at.slice_bounds-copy_keys-start c).Start in search rules

pub slice_bounds-copy_keys-end : goal.slice_bounds-copy_keys-end
slice_bounds-copy_keys-end c = let h = keys_there (goal.at.slice_bounds-copy_keys-end c).Start in search rules

pub copy_keys-requires : goal.copy_keys-requires
copy_keys-requires c =
    let l = c.args.keys.now in
    let j = c.args.j in (
      omega (
        arith,
        few (goal.at.copy_keys-requires c).Start,
        keys_there (goal.at.copy_keys-requires c).Start,
        length-take (length l - 64 * j) (drop (64 * j) l),
        length-drop (64 * j) l,
      ),
      few (goal.at.copy_keys-requires c).Start,
    )

pub offset_bounds-coefficients-from : goal.offset_bounds-coefficients-from
offset_bounds-coefficients-from c = let h = coefficients_there (goal.at.offset_bounds-coefficients-from c).Start
    in search rules

pub slice_bounds-copy_coefficients-count : goal.slice_bounds-copy_coefficients-count
slice_bounds-copy_coefficients-count c = let h = coefficients_there
    (goal.at.slice_bounds-copy_coefficients-count c).Start in search rules

pub slice_bounds-copy_coefficients-start : goal.slice_bounds-copy_coefficients-start
slice_bounds-copy_coefficients-start c = let h = coefficients_there
    (goal.at.slice_bounds-copy_coefficients-start c).Start in search rules

pub slice_bounds-copy_coefficients-end : goal.slice_bounds-copy_coefficients-end
slice_bounds-copy_coefficients-end c = let h = coefficients_there (goal.at.slice_bounds-copy_coefficients-end c).Start
    in search rules

pub copy_coefficients-requires : goal.copy_coefficients-requires
copy_coefficients-requires c =
    let l = c.args.coefficients.now in
    let j = c.args.j in (
      omega (
        arith,
        few (goal.at.copy_coefficients-requires c).Start,
        coefficients_there (goal.at.copy_coefficients-requires c).Start,
        length-take (length l - 64 * j) (drop (64 * j) l),
        length-drop (64 * j) l,
      ),
      few (goal.at.copy_coefficients-requires c).Start,
    )

pub returns : goal.returns
unfolding most_terms
returns c =
    let a = c.args in
    rw (
      c.copy_keys.ensures,
      c.copy_coefficients.ensures,
      part_all (64 * a.j) a.keys.now,
      part_all (64 * a.j) a.coefficients.now,
    )
    (ap view (listed_struct (filled_listed (get_or a.counts.now a.j 0) (drop (64 * a.j) a.keys.now)
    (drop (64 * a.j) a.coefficients.now)
    (omega (
      arith,
      few (goal.at.returns c).Start,
      keys_there (goal.at.returns c).Start,
      length-drop (64 * a.j) a.keys.now,
    ))
    (omega (
      arith,
      few (goal.at.returns c).Start,
      coefficients_there (goal.at.returns c).Start,
      length-drop (64 * a.j) a.coefficients.now,
    )))
    _ _ _)
    ∙ taken_end c.requires (omega arith) a.n _ refl)
