-- `degree_of` takes the larger of the largest so far and one more key's.
use Rattle.product_grid_index.specs.Degrees.{TopDegree}
use Rattle.product_grid_index.proofs.degree_of.Given as goal

abbrev pub invariant-loop-key : goal.invariant-loop-key
invariant-loop-key l = TopDegree l.keys l.key-index l.most
