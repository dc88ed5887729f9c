-- `size_at` counts a model's terms, or answers the length of a step.
use mathlib.Core.Path.{◌≡◌, sym, ◌∙◌, ap, subst}
use Prim.Native.Nat.{◌+◌, ◌*◌, ◌≤◌, ◌<◌}
use native.Mathlib.Nat as NatL
use native.Mathlib.Omega.{arith}
use Rattle.format.specs.Bytes.{byte}
use Rattle.format.specs.Format.{term_length}
use Rattle.format.proofs.KeyBytesLaws.{term_most}
use Rattle.sheet_record_places.specs.Places.{vars_of}
use Rattle.sheet_record_places.specs.PlacesLaws.{size_model, size_step}
use borrow.Author.Rules.{rules}
use Rattle.sheet_record_places.proofs.size_at.Goals as goal
use Rattle.sheet_record_places.proofs.size_at.Goals.{After-shared_slice_known-then-at-first-1}

count_small : (c : After-shared_slice_known-then-at-first-1) → byte (c.args.at + 4) c.args.s.now < 256
count_small c = (c.shared_slice_known-then-at-first-1.given (c.args.at + 4)).fits

sized : (c : After-shared_slice_known-then-at-first-1)
    → c.term_bytes-size.result ≡ term_length (vars_of c.args.s.now)
sized c = c.term_bytes-size.ensures ∙ ap term_length c.vars_of.ensures

product : (c : After-shared_slice_known-then-at-first-1)
    → c.term_bytes-size.result * byte (c.args.at + 4) c.args.s.now ≤ 8 * 255
product c =
    let few : byte (c.args.at + 4) c.args.s.now ≤ 255 = omega (arith, count_small c) in
    NatL.mul-le-mul (subst (λ k. k ≤ 8) (sym (sized c)) (term_most _)) few

pub overflow_cast-count : goal.overflow_cast-count
overflow_cast-count c = omega (arith, count_small c)

pub overflow_mul-result : goal.overflow_mul-result
overflow_mul-result c = omega (arith, product c)

pub overflow_add-result : goal.overflow_add-result
overflow_add-result c = omega (arith, product c)

pub returns-then-at-first : goal.returns-then-at-first
returns-then-at-first c =
    let a = c.args in
    let e = c.first_step-first.ensures in
    ap (λ k. 5 + k * byte (a.at + 4) a.s.now) (sized c)
    ∙ sym (size_model a.s.now a.at (omega (arith, e, c.if-at-first.true)))

pub returns : goal.returns
returns c =
    let a = c.args in
    let e = c.first_step-first.ensures in
    sym (size_step a.s.now a.at (omega arith))
