-- The tests of a sheet that its length and its trailer decide.
use Rattle.std.specs.Prelude.{List, ℕ, ◌+◌, ◌*◌, eqb, length}
use Rattle.calculus.specs.Model.{between}
use Rattle.calculus.specs.Refusal.{Result, done, require_at, bad_length, bad_mark, bad_limits, bad_offset}
use Rattle.format.specs.Format.{step_length, trailer_length, Trailer, trailer_sound, trailer_of, read_trailer, shortest}
use Rattle.format.specs.Format.{longest}

-- tests 1 to 4 in order, and what the trailer says
unfoldable pub headed : List ℕ → Result Trailer
headed s =
    let t : Trailer = read_trailer (trailer_of s) in
    require_at 0 (between shortest longest (length s)) bad_length
    (require_at 0 t.marked bad_mark
    (require_at 0 (trailer_sound t) bad_limits
    (require_at 0 (eqb (t.offset + step_length * t.steps + trailer_length) (length s)) bad_offset (done t))))
