-- `handed_quotient` builds the four models and makes the call.
use Rattle.c_quotients.specs.HandedQuotients.{handed_quotient}
use Rattle.c_quotients.proofs.handed_quotient.Goals as goal

pub returns : goal.returns
unfolding handed_quotient
returns c =
    rw (
      c.quotient.ensures,
      c.model_at-w.ensures,
      c.model_at-h.ensures,
      c.model_at-g.ensures,
      c.model_at-f.ensures,
    )
