-- `quotient_fits` compares both numbers of products.
use mathlib.Core.Path.{◌≡◌, sym, ◌∙◌}
use borrow.Author.Tests.{le-leb, lt-leb}
use borrow.Author.Rules.{rules}
use Prim.Native.Nat.{ℕ, ◌*◌, ◌≤◌, max}
use native.Mathlib.Decide.{dec_le}
use native.Mathlib.Omega.{arith}
use native.Mathlib.Nat as NatL
use lib.Dec.{leb}
use Rattle.std.proofs.lemmas.Bool.Decides.{nat_tests}
use Rattle.calculus.specs.Model.{most_terms}
use Rattle.sheet_run_laws.specs.model.OperationContracts.{quotient_products}
use Rattle.sheet_run_room.proofs.quotient_fits.Goals as goal

-- the larger of two, of which the first is within a bound
larger_within : (a b r : ℕ) → a ≤ r → leb (max a b) r ≡ leb b r
larger_within a b r h = elim (dec_le b r) [
  | yes k ↦ le-leb (max a b) r (omega arith) ∙ sym (le-leb b r k)
  | no k ↦ lt-leb (max a b) r (omega arith) ∙ sym (lt-leb b r (omega arith))
]

pub overflow_mul-products : goal.overflow_mul-products
unfolding most_terms
overflow_mul-products c =
    let p : c.args.g * c.args.h ≤ 64 * 64 = NatL.mul-le-mul c.requires.0 c.requires.1 in
    search rules

pub overflow_mul-others : goal.overflow_mul-others
unfolding most_terms
overflow_mul-others c =
    let p = c.requires.2 in
    search rules

pub returns-then-products-room : goal.returns-then-products-room
unfolding quotient_products most_terms
returns-then-products-room c =
    let s = c.args in
    sym (larger_within (s.g * s.h) (64 * s.w) s.room (omega (arith, c.if-products-room.true)))

pub returns-else-products-room : goal.returns-else-products-room
unfolding quotient_products most_terms
returns-else-products-room c = grind (arith, nat_tests)
