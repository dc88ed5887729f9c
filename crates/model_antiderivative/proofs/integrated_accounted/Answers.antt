-- `integrated_accounted` parts what the radius grew by: so much is by rounding, and the rest was swept.
use mathlib.Core.Path.{◌∙◌, ap}
use native.Mathlib.Omega.{arith}
use Rattle.model_types.specs.SharesStruct.{stored_shares}
use Rattle.model_types.specs.SharesStructLaws.{accounted_accepted}
use Rattle.model_antiderivative.specs.GrowthShareLaws.{radius_grows, growth_covers, growth_fits, growth_shares}
use Rattle.model_antiderivative.proofs.integrated_accounted.Goals as goal

pub overflow_sub-grown : goal.overflow_sub-grown
overflow_sub-grown c =
    omega (arith, radius_grows c.requires c.integrated-model.ensures c.rounded-rounding.ensures)

pub overflow_sub-swept : goal.overflow_sub-swept
overflow_sub-swept c =
    omega (arith, growth_covers c.requires c.integrated-model.ensures c.rounded-rounding.ensures)

pub grown-shares-requires : goal.grown-shares-requires
grown-shares-requires c =
    growth_fits c.requires c.integrated-model.ensures c.rounded-rounding.ensures

pub returns : goal.returns
returns c =
    accounted_accepted _ _ c.integrated-model.ensures
    (c.grown-shares.ensures ∙ ap stored_shares (growth_shares c.requires c.integrated-model.ensures
    c.rounded-rounding.ensures))
