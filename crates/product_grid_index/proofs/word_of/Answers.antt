-- `word_of` puts the degree after the place, without overflow.
use mathlib.Core.Path.{refl}
use Prim.Native.Nat.{◌<◌, ◌≤◌, ◌^◌}
use native.Mathlib.Omega.{arith}
use Rattle.product_grid_index.specs.Grid.{word_by}
use Rattle.product_grid_index.specs.GridLaws.{place_fits}
use Rattle.product_grid_index.specs.DegreeLaws.{degree_byte}
use Rattle.product_grid_index.proofs.word_of.Goals as goal
use Rattle.product_grid_index.proofs.word_of.Goals.{After-wide_degree-degree, Start}

-- how large the parts are
module _ (c : After-wide_degree-degree) where
  abbrev s : Start
  s = c.before.before

  small : c.place_of-place.result ≤ 2 ^ 34
  small =
      rw c.place_of-place.ensures
      (place_fits s.args.second s.args.third s.args.fourth s.args.key (omega arith) s.requires)

  low : c.wide_degree-degree.result < 2 ^ 8
  low = rw c.wide_degree-degree.ensures (degree_byte s.args.key)

pub overflow_mul-result : goal.overflow_mul-result
overflow_mul-result c = record { fits = omega (arith, small c) }

pub overflow_add-result : goal.overflow_add-result
overflow_add-result c = record { fits = omega (arith, small c, low c) }

pub returns : goal.returns
unfolding word_by
returns c = rw (c.place_of-place.ensures, c.wide_degree-degree.ensures) refl
