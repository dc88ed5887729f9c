-- `raised` takes the larger of each.
use Rattle.std.proofs.Common.{refl}
use Rattle.product_grid_index.specs.Grid.{raised_by}
use Rattle.product_grid_index.specs.DigitLaws.{first_digit}
use Rattle.product_grid_index.proofs.raised.Goals as goal

pub returns : goal.returns
unfolding raised_by
returns c =
    rw (
      c.max.ensures,
      c.exponent.ensures,
      first_digit c.args.key c.ranges.key.fits,
      c.max-2.ensures,
      c.exponent-2.ensures,
      c.max-3.ensures,
      c.exponent-3.ensures,
      c.max-4.ensures,
      c.exponent-4.ensures,
      c.others_of.ensures,
    )
    refl
