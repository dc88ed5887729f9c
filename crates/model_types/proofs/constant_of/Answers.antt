-- `constant_of` is the model of a constant.
use mathlib.Core.Path.{sym, ◌∙◌, ap}
use borrow.Author.Rules.{rules}
use mir.Facts.{to_z-of_z}
use Rattle.model_types.specs.ModelStruct.{pack, one_term}
use Rattle.model_types.specs.ModelStructLaws.{constant_zero, constant_one_term}
use Rattle.model_types.specs.ZeroTestLaws.{zero_bits, nonzero_bits}
use Rattle.model_types.proofs.constant_of.Goals as goal

pub returns-then-value-eq0 : goal.returns-then-value-eq0
returns-then-value-eq0 c =
    let s = c.before.before in
    c.without_terms.ensures ∙ ap pack (sym (constant_zero _ _ (zero_bits s.ranges.value c.if-value-eq0.true)))

pub returns-else-value-eq0 : goal.returns-else-value-eq0
returns-else-value-eq0 c =
    let s = c.before.before in
    c.of_one_term.ensures
    ∙ ap pack (ap (one_term _ 0) (to_z-of_z s.ranges.value)
    ∙ sym (constant_one_term _ _ s.requires (nonzero_bits _ c.if-value-eq0.false)))
