use mathlib.Core.Path.{◌≡◌, sym, ◌∙◌}
use borrow.Author.Tests.{le-leb, lt-leb, not-true, not-false}
use borrow.Author.Rules.{rules}
use Rattle.calculus.specs.Refusal.{require_at}
use Rattle.calculus.specs.Model.{most_degree}
use Rattle.model_types.specs.ModelStruct.{cause}
use Rattle.model_readings.specs.RowIterations.{begun_of}
use Rattle.model_readings.proofs.begun.Goals as goal

pub returns-then-n-gt-MOST_READINGS : goal.returns-then-n-gt-MOST_READINGS
unfolding begun_of require_at cause
returns-then-n-gt-MOST_READINGS c = c.refused_at.ensures ∙ rw (lt-leb _ _ c.if-n-gt-MOST_READINGS.true)

pub returns-then-not-sound : goal.returns-then-not-sound
unfolding begun_of require_at cause most_degree
returns-then-not-sound c =
    c.refused_at-then-not-sound.ensures
    ∙ rw (le-leb _ _ c.if-n-gt-MOST_READINGS.false, sym c.sound.ensures ∙ c.if-not-sound.true)

pub returns : goal.returns
unfolding begun_of require_at most_degree
returns c =
    c.nothing.ensures
    ∙ rw (le-leb _ _ c.if-n-gt-MOST_READINGS.false, sym c.sound.ensures ∙ c.if-not-sound.false)
