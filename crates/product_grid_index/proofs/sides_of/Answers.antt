-- `sides_of` computes the grid, without overflow.
use mathlib.Core.Path.{refl}
use native.Mathlib.Omega.{arith}
use Rattle.product_grid_index.specs.Grid.{sides_for}
use Rattle.product_grid_index.specs.GridLaws.{plane_fits, cube_fits, size_fits, others_fit}
use Rattle.product_grid_index.proofs.sides_of.Goals as goal

pub overflow_mul-plane : goal.overflow_mul-plane
overflow_mul-plane c =
    record { fits = omega (arith, plane_fits c.args.e c.args.h c.requires.low c.requires.low_2) }

pub overflow_mul-cube : goal.overflow_mul-cube
overflow_mul-cube c =
    record { fits = omega (arith, cube_fits c.args.e c.args.h c.requires.low c.requires.low_2) }

pub overflow_mul-result : goal.overflow_mul-result
overflow_mul-result c =
    record { fits = omega (arith, size_fits c.args.e c.args.h c.requires.low c.requires.low_2) }

pub overflow_add-result : goal.overflow_add-result
overflow_add-result c =
    record {
      fits = omega (
        arith,
        size_fits c.args.e c.args.h c.requires.low c.requires.low_2,
        others_fit c.args.e c.args.h c.requires.low c.requires.low_2,
      );
    }

pub returns : goal.returns
unfolding sides_for
returns c = refl
