-- `floor_divided` is the floor: of −(n + 1) it is −(n / d + 1).
use mathlib.Core.Path.{◌≡◌, sym, ap, ◌∙◌}
use Prim.Native.Nat.{◌+◌, ◌-◌, ◌/◌}
use native.Mathlib.Nat.{div-le_self}
use native.Mathlib.Omega.{arith}
use borrow.Author.Rules.{rules}
use lib.IntN.{pos, negsuc, nat_abs, ◌-ℤ◌}
use lib.Signed.{mag}
use mir.Facts.{to_z-of_z}
use Rattle.numbers.specs.Division.{floor}
use Rattle.fixed.specs.MachineLaws.{answered, complement_pos, negative, not_negative}
use Rattle.fixed.proofs.floor_divided.Goals as goal
use Rattle.fixed.proofs.floor_divided.Goals.{Else-z-lt0, Then-z-lt0}

-- of z = −(n + 1) the size is n + 1,
below : (c : Then-z-lt0) → c.before.magnitude-size.result ≡ mag c.before.before.args.z + 1
below c =
    let f = c.before.before.ranges.z in
    omega (arith, c.before.magnitude-size.ensures, ap nat_abs (to_z-of_z f ∙ negative f c.if-z-lt0.true))

-- and of z = n it is n
above : (c : Else-z-lt0) → c.before.magnitude-size.result ≡ mag c.before.before.args.z
above c =
    let f = c.before.before.ranges.z in
    c.before.magnitude-size.ensures ∙ ap nat_abs (to_z-of_z f ∙ not_negative f c.if-z-lt0.false)

pub overflow_sub-size : goal.overflow_sub-size
overflow_sub-size c = omega (arith, below c)

pub signed-requires : goal.signed-requires
signed-requires c =
    let s = c.before.before in
    omega (arith, below c, s.ranges, div-le_self (c.before.magnitude-size.result - 1) s.args.d)

pub signed-requires-else-z-lt0 : goal.signed-requires-else-z-lt0
signed-requires-else-z-lt0 c =
    let s = c.before.before in
    omega (arith, above c, s.ranges, div-le_self c.before.magnitude-size.result s.args.d)

pub returns-then-z-lt0 : goal.returns-then-z-lt0
unfolding floor
returns-then-z-lt0 c =
    let b = c.before.before in
    let s = b.before.before in
    let e : b.before.magnitude-size.result - 1 ≡ mag s.args.z = omega (arith, below b) in
    answered c.complement.type_inv c.complement.ensures
    ∙ ap (λ z. negsuc 0 -ℤ z) (answered c.before.signed.type_inv c.before.signed.ensures)
    ∙ complement_pos _
    ∙ ap (λ n. negsuc (n / s.args.d)) e
    ∙ sym (ap (λ z. floor z s.args.d) (negative s.ranges.z b.if-z-lt0.true))

pub returns-else-z-lt0 : goal.returns-else-z-lt0
unfolding floor
returns-else-z-lt0 c =
    let b = c.before in
    let s = b.before.before in
    answered c.signed-else-z-lt0.type_inv c.signed-else-z-lt0.ensures
    ∙ ap (λ n. pos (n / s.args.d)) (above b)
    ∙ sym (ap (λ z. floor z s.args.d) (not_negative s.ranges.z b.if-z-lt0.false))
