-- `evaluated` puts a quotient and a remainder of 0 beside the ends.
use mathlib.Core.Path.{◌∙◌, ap}
use Rattle.c_calls.specs.CallCodes.{ends_alone}
use Rattle.c_calls.specs.CallCodesLaws.{alone_answer}
use Rattle.c_calls.proofs.evaluated.Goals as goal

pub returns : goal.returns
returns c = c.alone.ensures ∙ ap ends_alone c.evaluate.ensures ∙ alone_answer _
