-- `place_of` computes the place, without overflow.
use mathlib.Core.Path.{refl}
use native.Mathlib.Omega.{arith}
use Rattle.product_grid_index.specs.Grid.{place_by}
use Rattle.product_grid_index.specs.GridLaws.{Placing, placing}
use Rattle.product_grid_index.specs.DigitLaws.{first_digit}
use Rattle.product_grid_index.proofs.place_of.Goals as goal
use Rattle.product_grid_index.proofs.place_of.Goals.{After-exponent-d, Start}

-- how large the parts are
module _ (c : After-exponent-d) where
  abbrev s : Start
  s = c.before.before.before.before

  small : Placing c.exponent-a.result c.exponent-b.result
      c.exponent-c.result c.exponent-d.result s.args.second s.args.third s.args.fourth
  small =
      placing _ _ _ _ _ _ _ (rw c.exponent-a.ensures (omega arith))
      (rw c.exponent-b.ensures (omega arith)) (rw c.exponent-c.ensures (omega arith))
      (rw c.exponent-d.ensures (omega arith)) s.requires

pub overflow_mul-line : goal.overflow_mul-line
overflow_mul-line c = record { fits = omega (arith, (small c).line) }

pub overflow_add-line : goal.overflow_add-line
overflow_add-line c = record { fits = omega (arith, (small c).line) }

pub overflow_mul-plane : goal.overflow_mul-plane
overflow_mul-plane c = record { fits = omega (arith, (small c).plane) }

pub overflow_add-plane : goal.overflow_add-plane
overflow_add-plane c = record { fits = omega (arith, (small c).plane) }

pub overflow_mul-result : goal.overflow_mul-result
overflow_mul-result c = record { fits = omega (arith, (small c).whole) }

pub overflow_add-result : goal.overflow_add-result
overflow_add-result c = record { fits = omega (arith, (small c).whole) }

pub returns : goal.returns
unfolding place_by
returns c =
    rw (
      c.exponent-a.ensures,
      first_digit c.args.key c.ranges.key.fits,
      c.exponent-b.ensures,
      c.exponent-c.ensures,
      c.exponent-d.ensures,
    )
    refl
