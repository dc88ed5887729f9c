-- `trailer_sound` is test 3.
use mathlib.Core.Path.{◌≡◌, sym, ◌∙◌, ap, ap₂}
use mathlib.Core.Bool.{Bool, false, ◌&&◌}
use lib.Dec.{eqb}
use Rattle.format.specs.Format.{trailer_sound}
use Rattle.sheet_decode.specs.Trailer.{held_trailer}
use Rattle.sheet_tests.proofs.trailer_sound.Goals as goal

pub returns-then-limits_sound : goal.returns-then-limits_sound
unfolding trailer_sound held_trailer
returns-then-limits_sound c =
    ap₂ ◌&&◌ (sym (sym c.limits_sound.ensures ∙ c.if-limits_sound.true)) (ap (eqb _) c.mark_of.ensures)

refused : (a b : Bool) → a ≡ false → false ≡ (a && b)
refused a b e = ap (λ x. x && b) (sym e)

pub returns-else-limits_sound : goal.returns-else-limits_sound
unfolding trailer_sound held_trailer
returns-else-limits_sound c =
    c.if-limits_sound.false ∙ refused _ _ (sym c.limits_sound.ensures ∙ c.if-limits_sound.false)
