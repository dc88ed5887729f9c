-- `refused` refuses with the cause and the place of a verdict.
use mathlib.Core.Path.{◌≡◌}
use Prim.Native.Nat.{ℕ}
use native.Mathlib.Omega.{arith}
use borrow.Author.Rules.{rules}
use Rattle.model_quotient.specs.QuotientFormLaws.{no_refusal, same_refusal}
use Rattle.model_quotient.proofs.refused.Goals as goal

pub returns-in-Ok : goal.returns-in-Ok
returns-in-Ok c = no_refusal c.in-Ok.is

pub returns-in-Err : goal.returns-in-Err
returns-in-Err c = same_refusal c.in-Err.is c.refuse-in-Err.ensures
