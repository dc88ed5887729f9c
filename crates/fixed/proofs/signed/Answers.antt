-- `signed` keeps the number.
use borrow.Author.Rules.{rules}
use mir.Facts.{to_z_pos}
use mir.Syntax.{w64}
use Rattle.fixed.proofs.signed.Goals as goal

pub returns : goal.returns
returns c = to_z_pos w64 c.requires
