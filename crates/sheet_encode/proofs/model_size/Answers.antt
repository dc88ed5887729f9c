-- `model_size` is the length of the record.
use mathlib.Core.Path.{sym, ◌∙◌, ap, subst}
use Prim.Native.Nat.{◌+◌, ◌*◌, ◌≤◌}
use native.Mathlib.Nat as NatL
use native.Mathlib.Omega.{arith}
use Rattle.calculus.specs.Model.{most_terms}
use Rattle.format.proofs.KeyBytesLaws.{term_most}
use Rattle.sheet_encode.specs.FittingLaws.{count_terms, length_record}
use Rattle.sheet_encode.proofs.model_size.Goals as goal
use Rattle.sheet_encode.proofs.model_size.Goals.{After-term_bytes}

product : (c : After-term_bytes) → c.term_bytes.result * c.args.m.count ≤ 8 * 64
unfolding most_terms
product c = let few : c.args.m.count ≤ 64 = omega (arith, c.requires.count, count_terms c.args.m) in
    NatL.mul-le-mul (subst (λ k. k ≤ 8) (sym c.term_bytes.ensures) (term_most _)) few

pub overflow_mul-result : goal.overflow_mul-result
overflow_mul-result c = omega (arith, product (goal.at.overflow_mul-result c).After-term_bytes)

pub overflow_add-result : goal.overflow_add-result
overflow_add-result c = omega (arith, product (goal.at.overflow_add-result c).After-term_bytes)

pub returns : goal.returns
returns c = ap (λ k. 5 + k * c.args.m.count) c.term_bytes.ensures ∙ sym (length_record c.args.m)
