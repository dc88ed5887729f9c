-- `with_sign` turns the sign of what is negative.
use mathlib.Core.Path.{◌≡◌, sym, ◌∙◌, ap}
use mathlib.Core.Bool.{Bool, true, false}
use Prim.Native.Nat.{ℕ}
use native.Mathlib.Omega.{arith}
use borrow.Author.Rules.{rules}
use lib.IntN.{pos, neg_ℤ}
use mir.Syntax.{w64}
use mir.Val.{to_z, of_z}
use Rattle.fixed.specs.MachineLaws.{answered}
use Rattle.doubles.specs.Doubles.{signed}
use Rattle.model_doubles.proofs.with_sign.Goals as goal
use Rattle.model_doubles.proofs.with_sign.Goals.{After-signed-z}

signed_by : (s : Bool) (n : ℕ) → s ≡ true → neg_ℤ (pos n) ≡ signed s n
unfolding signed
signed_by s n e = ap (λ s. signed s n) (sym e)

unsigned_by : (s : Bool) (n : ℕ) → s ≡ false → pos n ≡ signed s n
unfolding signed
unsigned_by s n e = ap (λ s. signed s n) (sym e)

back : (c : After-signed-z) → to_z w64 (of_z w64 c.signed-z.result) ≡ pos c.args.digits
back c = answered c.signed-z.type_inv c.signed-z.ensures

pub negated-requires : goal.negated-requires
negated-requires c = rw (back (goal.at.negated-requires c).After-signed-z) (omega (arith, c.requires))

pub returns-then-negative : goal.returns-then-negative
returns-then-negative c = answered c.negated.type_inv c.negated.ensures
    ∙ ap neg_ℤ (back (goal.at.returns-then-negative c).After-signed-z)
    ∙ signed_by _ _ c.if-negative.true

pub returns : goal.returns
returns c = back (goal.at.returns c).After-signed-z ∙ unsigned_by _ _ c.if-negative.false
