-- `rise` is 0 at key 0; where all exponents are even it goes by the sign; otherwise it is the size.
use mathlib.Core.Path.{◌≡◌, refl, sym, ◌∙◌, ap}
use borrow.Author.Tests.{eq-eqb, ne_eqb}
use lib.IntN.{nat_abs}
use mir.Facts.{to_z-of_z}
use mir.Syntax.{w64}
use mir.Val.{to_z, of_z}
use Rattle.calculus_laws.specs.SumLaws.{if_so}
use Rattle.model_range.specs.KeyRange.{even_rise, key_rise}
use Rattle.model_range.proofs.rise.Goals as goal
use Rattle.model_range.proofs.rise.Goals.{Start}

read_back : (s : Start) → to_z w64 (of_z w64 s.args.coefficient) ≡ s.args.coefficient
read_back s = to_z-of_z s.ranges.coefficient

pub returns-then-key-eq0 : goal.returns-then-key-eq0
unfolding key_rise if_so
returns-then-key-eq0 c = rw (eq-eqb c.args.key 0 c.if-key-eq0.true) refl

pub returns-then-all_even : goal.returns-then-all_even
unfolding key_rise even_rise
returns-then-all_even c =
    rw (
      ne_eqb c.args.key 0 c.if-key-eq0.false,
      sym c.all_even.ensures ∙ c.if-all_even.true,
    )
    (c.over.ensures ∙ ap even_rise (read_back (goal.at.returns-then-all_even c).Start))

pub returns-else-all_even : goal.returns-else-all_even
unfolding key_rise if_so
returns-else-all_even c =
    rw (
      ne_eqb c.args.key 0 c.if-key-eq0.false,
      sym c.all_even.ensures ∙ c.if-all_even.false,
    )
    (c.magnitude.ensures ∙ ap nat_abs (read_back (goal.at.returns-else-all_even c).Start))
