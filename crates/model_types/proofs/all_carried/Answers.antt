-- `all_carried` puts U times the radius under carried.
use native.Mathlib.Omega.{arith}
use Rattle.model_types.specs.SharesStructLaws.{accounted_carried}
use Rattle.model_types.proofs.all_carried.Goals as goal

pub grown-shares-requires : goal.grown-shares-requires
grown-shares-requires c = omega (arith, c.requires)

pub returns : goal.returns
returns c o e = accounted_carried o e c.grown-shares.ensures
