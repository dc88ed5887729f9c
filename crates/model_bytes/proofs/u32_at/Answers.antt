-- `u32_at` is the number of four bytes.
use native.Mathlib.Omega.{arith}
use Rattle.model_bytes.specs.WordsAtLaws.{u32_here}
use borrow.Author.Rules.{rules}
use Rattle.model_bytes.proofs.u32_at.Goals as goal

pub returns : goal.returns
returns c =
    let a = c.args in
    omega (arith, u32_here a.at a.s.now)
