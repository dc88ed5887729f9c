-- `growth_by_rounding` is what a term that stays adds to the radius.
use mathlib.Core.Path.{sym, ◌∙◌, ap}
use mir.Facts.{to_z-of_z}
use Rattle.calculus_laws.specs.SumLaws.{if_so}
use Rattle.model_antiderivative.specs.Antiderivatives.{key_rounding, key_growth}
use Rattle.model_antiderivative.specs.PassLaws.{growth_stays}
use Rattle.model_antiderivative.proofs.growth_by_rounding.Goals as goal

pub returns-then-not-stays : goal.returns-then-not-stays
unfolding key_rounding if_so
returns-then-not-stays c = rw (sym c.stays.ensures ∙ c.if-not-stays.true)

pub returns : goal.returns
returns c =
    c.growth.ensures ∙ ap (key_growth _ _ _) (to_z-of_z c.ranges.coefficient)
    ∙ growth_stays _ _ _ _ (sym c.stays.ensures ∙ c.if-not-stays.false)
