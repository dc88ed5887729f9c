-- `carrying` adds U times a number to one share.
use mathlib.Core.Path.{◌≡◌, ap₂}
use Prim.Native.Nat.{ℕ, ◌+◌, ◌^◌, ◌<◌}
use native.Mathlib.Nat as NatL
use native.Mathlib.Omega.{arith}
use Rattle.numbers.proofs.FixedLaws.{U_within, span_square_fits}
use Rattle.calculus.specs.Shares.{carrying}
use Rattle.model_types.specs.declared.Shares.{Shares}
use Rattle.model_types.specs.SharesStruct.{stored_shares}
use Rattle.model_types.specs.SharesStructLaws.{times_fits}
use Rattle.model_widening.proofs.carrying.Goals as goal
use Rattle.model_widening.proofs.carrying.Goals.{After-times_unit}

pub times_unit-requires : goal.times_unit-requires
times_unit-requires c = times_fits _ c.requires.e_le_span_limit

-- the sum fits
below : (c : After-times_unit) → c.args.s.carried + c.times_unit.result < 2 ^ 64
below c =
    omega (
      arith,
      c.times_unit.ensures,
      c.requires.carried_bound,
      NatL.mul-le-mul U_within c.requires.e_le_span_limit,
      span_square_fits,
    )

pub overflow_add-carried : goal.overflow_add-carried
overflow_add-carried c = record { fits = below (goal.at.overflow_add-carried c).After-times_unit }

-- the shares with so much more under carried
abbrev more : Shares → ℕ → Shares
more s u = record { carried = s.carried + u; rounding = s.rounding; swept = s.swept; slack = s.slack }

pub returns : goal.returns
unfolding stored_shares carrying
returns c t e = ap₂ more e c.times_unit.ensures
