use mathlib.Core.Path.{◌≡◌, ◌∙◌, ap, ap₂}
use Prim.Native.Nat.{ℕ, ◌/◌, ◌^◌, ◌≤◌}
use native.Mathlib.Omega.{arith}
use native.Mathlib.Nat as NatL
use borrow.Author.Rules.{rules}
use lib.IntN.{nat_abs}
use Rattle.fixed.specs.MachineLaws.{answered}
use Rattle.cuts.specs.Cuts.{half_width}
use Rattle.model_cut_pieces.proofs.half_width.Goals as goal

pub nonzero_div-result : goal.nonzero_div-result
nonzero_div-result c =
    let some = NatL.one-le-pow c.args.k 2 (omega arith) in
    omega (arith, c.pieces-count.ensures, some)

pub returns : goal.returns
unfolding half_width
returns c =
    let u = c.unit-unit in
    ap₂ ◌/◌ (c.magnitude-size.ensures ∙ ap nat_abs (answered u.type_inv u.ensures)) c.pieces-count.ensures
