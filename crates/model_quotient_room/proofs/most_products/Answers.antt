-- `most_products` takes the larger of two numbers.
use Prim.Native.Nat.{◌*◌, ◌≤◌, ◌<◌}
use native.Mathlib.Nat as NatL
use native.Mathlib.Omega.{arith}
use Rattle.calculus.specs.Model.{most_terms}
use Rattle.model_quotient_room.specs.QuotientTableLaws.{products_form, products_pairs}
use Rattle.model_quotient_room.proofs.most_products.Goals as goal

pub overflow_mul-pairs : goal.overflow_mul-pairs
unfolding most_terms
overflow_mul-pairs c = omega (arith, NatL.mul-le-mul c.requires.0 c.requires.1)

pub overflow_mul-form : goal.overflow_mul-form
unfolding most_terms
overflow_mul-form c = omega (arith, c.requires.2)

pub returns-then-pairs-form : goal.returns-then-pairs-form
returns-then-pairs-form c =
    let s = c.args in
    products_form s.g s.h s.w (omega (arith, c.if-pairs-form.true))

pub returns : goal.returns
returns c =
    let s = c.args in
    products_pairs s.g s.h s.w (omega (arith, c.if-pairs-form.false))
