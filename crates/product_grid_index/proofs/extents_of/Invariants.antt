-- `extents_of` raises the extents by one key after the other.
use mathlib.Core.Path.{◌≡◌}
use Rattle.product_grid_index.specs.Grid.{extents}
use Rattle.product_grid_index.proofs.extents_of.Given as goal

abbrev pub invariant-loop-key : goal.invariant-loop-key
invariant-loop-key l = l.e ≡ extents l.key-index l.keys
