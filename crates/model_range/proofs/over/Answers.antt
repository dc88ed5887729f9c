-- `over` is the size of a coefficient above 0, and 0 of any other.
use mathlib.Core.Path.{◌≡◌, refl, sym, ◌∙◌, ap}
use lib.IntN.{pos, nat_abs}
use lib.Signed.{le_z}
use mir.Facts.{to_z-of_z}
use mir.Syntax.{w64}
use mir.Val.{to_z, of_z}
use Rattle.calculus_laws.specs.SumLaws.{if_so}
use Rattle.model_range.specs.KeyRange.{even_rise}
use Rattle.model_range.proofs.over.Goals as goal
use Rattle.model_range.proofs.over.Goals.{Start}

read_back : (s : Start) → to_z w64 (of_z w64 s.args.coefficient) ≡ s.args.coefficient
read_back s = to_z-of_z s.ranges.coefficient

pub returns-then-coefficient-le0 : goal.returns-then-coefficient-le0
unfolding even_rise if_so
returns-then-coefficient-le0 c = rw (sym (ap (λ z. le_z z (pos 0))
    (read_back (goal.at.returns-then-coefficient-le0 c).Start)) ∙ c.if-coefficient-le0.true) refl

pub returns-else-coefficient-le0 : goal.returns-else-coefficient-le0
unfolding even_rise if_so
returns-else-coefficient-le0 c =
    rw (sym (ap (λ z. le_z z (pos 0)) (read_back (goal.at.returns-else-coefficient-le0 c).Start))
    ∙ c.if-coefficient-le0.false)
    (c.magnitude.ensures ∙ ap nat_abs (read_back (goal.at.returns-else-coefficient-le0 c).Start))
