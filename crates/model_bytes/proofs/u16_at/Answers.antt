-- `u16_at` is the number of two bytes.
use native.Mathlib.Omega.{arith}
use Rattle.model_bytes.specs.WordsAtLaws.{u16_here}
use borrow.Author.Rules.{rules}
use Rattle.model_bytes.proofs.u16_at.Goals as goal

pub returns : goal.returns
returns c =
    let a = c.args in
    omega (arith, u16_here a.at a.s.now)
