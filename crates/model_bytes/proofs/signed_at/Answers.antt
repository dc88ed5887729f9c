-- `signed_at` is the integer of four bytes.
use mathlib.Core.Path.{◌∙◌, ap}
use Rattle.fixed.specs.MachineLaws.{answered}
use Rattle.format.specs.Bytes.{signed}
use borrow.Author.Rules.{rules}
use Rattle.model_bytes.proofs.signed_at.Goals as goal

pub returns : goal.returns
returns c = answered c.signed_of.type_inv (c.signed_of.ensures ∙ ap signed c.u32_at.ensures)
