-- `shares` is what is summed, and the rest of U times the radius.
use mathlib.Core.Path.{◌≡◌, ◌∙◌, ap}
use Prim.Native.Nat.{ℕ, ◌+◌, ◌-◌, ◌*◌}
use native.Mathlib.Omega.{arith}
use Rattle.numbers.specs.Fixed.{U, round_up}
use Rattle.numbers.proofs.FixedLaws.{round_up_ok}
use Rattle.model_types.specs.declared.Shares.{Shares}
use Rattle.model_types.specs.SharesStruct.{stored_shares}
use Rattle.product_answer.specs.ErrorShares.{error_shares}
use Rattle.product_answer.specs.ErrorLaws.{radius_fits}
use Rattle.product_answer.proofs.shares.Goals as goal
use Rattle.product_answer.proofs.shares.Goals.{After-times_unit-paid, Start}

-- E
abbrev error : Start → ℕ
error c = c.args.carried + c.args.rounding + c.args.swept

pub times_unit-paid-requires : goal.times_unit-paid-requires
times_unit-paid-requires c = rw c.radius.ensures (radius_fits _ c.requires)

-- U times the radius
paid : (c : After-times_unit-paid) → c.times_unit-paid.result ≡ U * round_up (error c.before.before)
paid c = c.times_unit-paid.ensures ∙ ap (λ e. U * e) c.radius.ensures

pub overflow_sub-slack : goal.overflow_sub-slack
overflow_sub-slack c = omega (arith, paid c, round_up_ok (error (goal.at.overflow_sub-slack c).Start))

-- the shares where so much is paid
abbrev parts : Start → ℕ → Shares
parts c p = record {
  carried = c.args.carried;
  rounding = c.args.rounding;
  swept = c.args.swept;
  slack = p - error c;
}

pub returns : goal.returns
unfolding stored_shares error_shares
returns c = ap (parts (goal.at.returns c).Start) (paid c)
