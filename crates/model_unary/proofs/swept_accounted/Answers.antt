-- `swept_accounted` reports the old radius as carried, and what it grew by as swept.
use mathlib.Core.Path.{◌∙◌, ap}
use native.Mathlib.Omega.{arith}
use Rattle.model_types.specs.SharesStruct.{stored_shares}
use Rattle.model_types.specs.SharesStructLaws.{accounted_accepted}
use Rattle.model_unary.specs.SweepShareLaws.{radius_grows, growth_fits, growth_shares}
use Rattle.model_unary.proofs.swept_accounted.Goals as goal

pub overflow_sub-dropped : goal.overflow_sub-dropped
overflow_sub-dropped c = omega (arith, radius_grows _ _ c.swept-model.ensures)

pub grown-shares-requires : goal.grown-shares-requires
grown-shares-requires c = growth_fits _ _ c.swept-model.ensures c.requires

pub returns : goal.returns
returns c =
    accounted_accepted _ _ c.swept-model.ensures
    (c.grown-shares.ensures ∙ ap stored_shares (growth_shares _ _ c.swept-model.ensures))
