-- `nearest_divided` is the rounding: the sign turns with the argument.
use mathlib.Core.Path.{◌≡◌, ap, sym, ◌∙◌}
use Prim.Native.Nat.{◌<◌, ◌^◌}
use native.Mathlib.Omega.{arith}
use borrow.Author.Rules.{rules}
use lib.IntN.{pos, neg_ℤ, nat_abs, neg_ℤ-neg_ℤ}
use mir.Facts.{to_z-of_z}
use mir.Syntax.{w64}
use mir.Val.{to_z, of_z}
use Rattle.numbers.specs.Division.{nearest}
use Rattle.numbers.proofs.NearestLaws.{nearest_neg, nearest_le_abs}
use Rattle.fixed.specs.MachineLaws.{answered, negative, not_negative}
use Rattle.fixed.proofs.nearest_divided.Goals as goal
use Rattle.fixed.proofs.nearest_divided.Goals.{After-magnitude, After-nearest_quotient, After-signed-c}

-- the size that is divided
size : (c : After-magnitude) → c.magnitude.result ≡ nat_abs c.before.args.z
size c = c.magnitude.ensures ∙ ap nat_abs (to_z-of_z c.before.ranges.z)

-- what comes of it: the rounding of the size, no larger than the size
module _ (c : After-nearest_quotient) where
  quotient : pos c.nearest_quotient.result
      ≡ nearest (pos (nat_abs c.before.before.args.z)) c.before.before.args.d
  quotient = c.nearest_quotient.ensures ∙ ap (λ n. nearest (pos n) c.before.before.args.d) (size c.before)

  small : c.nearest_quotient.result < 2 ^ 63
  small = omega (
    arith,
    ap nat_abs quotient,
    c.before.before.requires,
    nearest_le_abs (pos (nat_abs c.before.before.args.z)) c.before.before.args.d c.before.before.requires.d_nonzero,
  )

-- read back
module _ (c : After-signed-c) where
  back : to_z w64 (of_z w64 c.signed-c.result)
      ≡ nearest (pos (nat_abs c.before.before.before.args.z)) c.before.before.before.args.d
  back = answered c.signed-c.type_inv c.signed-c.ensures ∙ quotient c.before

pub nearest_quotient-requires : goal.nearest_quotient-requires
nearest_quotient-requires c = record {
  n_bound = omega (arith, size c, c.before.requires);
  d_nonzero = c.before.requires.d_nonzero;
}

pub signed-c-requires : goal.signed-c-requires
signed-c-requires c = small c

pub negated-requires : goal.negated-requires
negated-requires c =
    rw (answered c.before.signed-c.type_inv c.before.signed-c.ensures) (small c.before.before)

pub returns-then-z-lt0 : goal.returns-then-z-lt0
returns-then-z-lt0 c =
    let s = c.before.before.before.before.before in
    let e = negative s.ranges.z c.before.if-z-lt0.true in
    let turned : pos (nat_abs s.args.z) ≡ neg_ℤ s.args.z = ap (λ z. pos (nat_abs z)) e ∙ sym (ap neg_ℤ e) in
    answered c.negated.type_inv c.negated.ensures
    ∙ ap neg_ℤ (back c.before.before ∙ ap (λ z. nearest z s.args.d) turned
    ∙ nearest_neg s.args.z s.args.d s.requires.d_nonzero)
    ∙ neg_ℤ-neg_ℤ _

pub returns-else-z-lt0 : goal.returns-else-z-lt0
returns-else-z-lt0 c =
    let s = c.before.before.before.before in
    let e = not_negative s.ranges.z c.if-z-lt0.false in
    back c.before ∙ ap (λ z. nearest z s.args.d) (ap (λ z. pos (nat_abs z)) e ∙ sym e)
