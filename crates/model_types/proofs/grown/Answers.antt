-- `grown` multiplies three numbers by U.
use mathlib.Core.Path.{ap₂, ◌∙◌, ap}
use native.Mathlib.Omega.{arith}
use Rattle.calculus.specs.Shares.{grown}
use Rattle.model_types.specs.SharesStruct.{stored_shares}
use Rattle.model_types.specs.SharesStructLaws.{times_fits}
use Rattle.model_types.proofs.grown.Goals as goal

pub times_unit-requires : goal.times_unit-requires
times_unit-requires c = times_fits _ (omega (arith, c.requires))

pub times_unit-requires-2 : goal.times_unit-requires-2
times_unit-requires-2 c = times_fits _ (omega (arith, c.requires))

pub times_unit-requires-3 : goal.times_unit-requires-3
times_unit-requires-3 c = times_fits _ (omega (arith, c.requires))

pub returns : goal.returns
unfolding stored_shares grown
returns c = rw (c.times_unit.ensures, c.times_unit-2.ensures, c.times_unit-3.ensures)
