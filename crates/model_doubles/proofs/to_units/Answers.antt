-- `to_units` divides the digits and says whether anything is left.
use mathlib.Core.Path.{◌≡◌, sym, ◌∙◌, ap, ap₂, subst}
use Prim.Native.Nat.{◌<◌, ◌%◌}
use native.Mathlib.Omega.{arith}
use borrow.Author.Rules.{rules}
use mir.Syntax.{w64}
use mir.Val.{to_z, of_z}
use Rattle.numbers.specs.Division.{nearest}
use Rattle.fixed.specs.MachineLaws.{answered}
use Rattle.calculus.specs.Operations.{one_if_any}
use Rattle.doubles.specs.Doubles.{signed}
use Rattle.doubles.specs.ExactFractionLaws.{signed_size}
use Rattle.model_doubles.specs.DoubleParts.{divisor}
use Rattle.model_doubles.specs.ScaledPartsLaws.{divisor_pos}
use Rattle.model_doubles.proofs.to_units.Goals as goal
use Rattle.model_doubles.proofs.to_units.Goals.{After-divisor-d, After-with_sign-z}

above_zero : (c : After-divisor-d) → 0 < c.divisor-d.result
above_zero c = subst (λ d. 0 < d) (sym c.divisor-d.ensures) (divisor_pos _)

back : (c : After-with_sign-z) → let p = c.args.p in
    to_z w64 (of_z w64 c.with_sign-z.result) ≡ signed p.negative p.digits
back c = answered c.with_sign-z.type_inv c.with_sign-z.ensures

pub nearest_divided-coefficient-requires : goal.nearest_divided-coefficient-requires
nearest_divided-coefficient-requires c =
    let p = c.args.p in
    record {
      z_bound = rw (back c) (omega (arith, signed_size p.negative p.digits, c.requires));
      d_nonzero = above_zero (goal.at.nearest_divided-coefficient-requires c).After-divisor-d;
    }

pub nonzero_rem-p : goal.nonzero_rem-p
nonzero_rem-p c = above_zero (goal.at.nonzero_rem-p c).After-divisor-d

pub returns : goal.returns
returns c =
    let p = c.args.p in
    ap₂ (λ z i. record { coefficient = z; inexact = i })
    (answered c.nearest_divided-coefficient.type_inv c.nearest_divided-coefficient.ensures
    ∙ ap₂ nearest (back (goal.at.returns c).After-with_sign-z) c.divisor-d.ensures)
    (c.one_if_any-inexact.ensures ∙ ap (λ d. one_if_any (p.digits % d)) c.divisor-d.ensures)
