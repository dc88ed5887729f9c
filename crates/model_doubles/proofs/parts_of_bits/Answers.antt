-- `parts_of_bits` goes by the exponent's field.
use borrow.Author.Tests.{eq-eqb, ne_eqb}
use borrow.Author.Rules.{rules}
use Rattle.model_doubles.proofs.parts_of_bits.Goals as goal

pub returns-then-field-eq-ALL_ONES : goal.returns-then-field-eq-ALL_ONES
returns-then-field-eq-ALL_ONES c = rw (eq-eqb _ _ c.if-field-eq-ALL_ONES.true)

pub returns-then-field-eq0 : goal.returns-then-field-eq0
returns-then-field-eq0 c = rw c.if-field-eq0.true

pub returns : goal.returns
returns c = rw (ne_eqb _ _ c.if-field-eq-ALL_ONES.false, ne_eqb _ _ c.if-field-eq0.false)
