-- `vars_of` reads the trailer.
use mathlib.Core.Path.{ap}
use borrow.Author.Rules.{rules}
use Rattle.format.specs.Format.{trailer_of}
use Rattle.sheet_decode.specs.declared.Trailer.{Trailer}
use Rattle.sheet_decode.specs.Trailer.{stored_trailer}
use Rattle.sheet_record_places.specs.Places.{vars_of}
use Rattle.sheet_record_places.proofs.vars_of.Goals as goal

pub returns : goal.returns
unfolding vars_of trailer_of stored_trailer
returns c = ap (λ (t : Trailer). t.n) c.trailer_at-t.ensures
