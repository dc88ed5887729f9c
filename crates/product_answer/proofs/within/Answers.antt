-- `within` sums the span as far as the cap.
use mathlib.Core.Path.{◌≡◌, ◌∙◌, ap}
use Prim.Native.Nat.{◌+◌, ◌<◌}
use native.Mathlib.Omega.{arith}
use lib.IntN.{pos, nat_abs}
use lib.ListN.{get_or, take}
use mir.Facts.{to_z-of_z}
use mir.Syntax.{w64}
use mir.Val.{to_z, of_z}
use Rattle.std.proofs.lemmas.List.{get_or-take, length-take-le}
use Rattle.numbers.specs.Fixed.{capped}
use Rattle.product_answer.specs.KeptProductLaws.{spanned_first, spanned_iteration, spanned_end}
use Rattle.product_answer.proofs.within.Goals as goal

pub loop-c-init : goal.loop-c-init
loop-c-init c keys h = spanned_first keys _ _

pub loop-c-preserved : goal.loop-c-preserved
loop-c-preserved c =
    let cs = c.args.coefficients.now in
    let i = c.loop-c.c-index in
    let z = get_or (take c.args.count cs) i (pos 0) in
    let read_back : to_z w64 (of_z w64 z) ≡ z = to_z-of_z {w = w64} (record { sfits = c.magnitude-arg-1.given }) in
    let inside : i < c.args.count = omega (arith, length-take-le c.args.count cs c.requires) in
    λ keys h. spanned_iteration keys _ _ _ _ _ (omega arith) (omega (arith, c.requires)) (c.loop-c.invariant keys h)
    (c.capped_sum-span.ensures
    ∙ ap (λ x. capped (c.loop-c.span + x))
    (c.magnitude.ensures ∙ ap nat_abs (read_back ∙ get_or-take c.args.count cs i (pos 0) inside)))

pub returns : goal.returns
returns c keys h =
    let long = length-take-le c.args.count c.args.coefficients.now c.requires in
    c.within_span.ensures ∙ spanned_end keys _ _ _ _ _ (omega (arith, long)) (c.loop-c.invariant keys h)
