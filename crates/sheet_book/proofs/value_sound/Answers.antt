-- `value_sound` is the test by the code.
use mathlib.Core.Path.{◌≡◌, ◌∙◌, ap}
use Rattle.std.proofs.Common.{arith}
use Rattle.std.proofs.lemmas.Bool.Decides.{nat_tests}
use lib.Dec.{eqb}
use lib.IntN.{nat_abs}
use mir.Facts.{to_z-of_z}
use mir.Syntax.{w64}
use mir.Val.{to_z, of_z}
use Rattle.calculus.specs.Tests.{constant_sound, threshold_sound}
use Rattle.format.specs.Fields.{earlier, value_sound}
use Rattle.sheet_book.proofs.value_sound.Goals as goal
use Rattle.sheet_book.proofs.value_sound.Goals.{Start}

read_back : (c : Start) → to_z w64 (of_z w64 c.args.value) ≡ c.args.value
read_back c = to_z-of_z c.ranges.value

pub returns-in-1 : goal.returns-in-1
unfolding value_sound constant_sound
returns-in-1 c =
    c.constant_within_limits.ensures ∙ ap constant_sound (read_back (goal.at.returns-in-1 c).Start) ∙ rw c.in-1.is

pub returns-in-8 : goal.returns-in-8
unfolding value_sound threshold_sound
returns-in-8 c =
    c.threshold_within_limits.ensures ∙ ap threshold_sound (read_back (goal.at.returns-in-8 c).Start) ∙ rw c.in-8.is

pub returns-in-9 : goal.returns-in-9
unfolding value_sound
returns-in-9 c = c.earlier.ensures ∙ ap (earlier _) (read_back (goal.at.returns-in-9 c).Start) ∙ rw c.in-9.is

pub returns-in_default : goal.returns-in_default
unfolding value_sound
returns-in_default c =
    let e : c.magnitude.result ≡ nat_abs c.args.value =
    c.magnitude.ensures ∙ ap nat_abs (read_back (goal.at.returns-in_default c).Start) in
    grind (arith, nat_tests, ap (λ x. eqb x 0) e)
