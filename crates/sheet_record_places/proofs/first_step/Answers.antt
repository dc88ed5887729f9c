-- `first_step` reads the trailer.
use mathlib.Core.Path.{ap}
use borrow.Author.Rules.{rules}
use Rattle.format.specs.Format.{trailer_of}
use Rattle.sheet_decode.specs.declared.Trailer.{Trailer}
use Rattle.sheet_decode.specs.Trailer.{stored_trailer}
use Rattle.sheet_record_places.specs.Places.{first_step}
use Rattle.sheet_record_places.proofs.first_step.Goals as goal

pub returns : goal.returns
unfolding first_step trailer_of stored_trailer
returns c = ap (λ (t : Trailer). t.offset) c.trailer_at-t.ensures
