-- `unless_refused` hands back the shares, or zeros.
use mathlib.Core.Path.{refl, ap, sym}
use borrow.Author.Rules.{rules}
use Rattle.calculus.specs.Shares.{no_shares}
use Rattle.model_types.specs.SharesStruct.{stored_shares, unless_refused}
use Rattle.model_types.proofs.unless_refused.Goals as goal

pub returns-in_default : goal.returns-in_default
unfolding unless_refused stored_shares no_shares
returns-in_default c = rw c.in_default.is

pub returns : goal.returns
unfolding unless_refused
returns c = rw c.in-Ok.is
