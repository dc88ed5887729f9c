-- The struct of what a sheet's trailer says, and what a struct says.
use Rattle.format.specs.Format as F
use Rattle.sheet_decode.specs.declared.Trailer.{Trailer}

-- the struct of what a trailer says
unfoldable pub stored_trailer : F.Trailer → Trailer
stored_trailer t = record {
  n = t.n;
  d = t.d;
  models = t.models;
  steps = t.steps;
  offset = t.offset;
  marked = t.marked;
  mark = t.mark;
}

-- and back
unfoldable pub held_trailer : Trailer → F.Trailer
held_trailer t = record {
  n = t.n;
  d = t.d;
  models = t.models;
  steps = t.steps;
  offset = t.offset;
  marked = t.marked;
  mark = t.mark;
}
