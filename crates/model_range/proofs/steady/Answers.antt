-- `steady` is the coefficient at key 0.
use mathlib.Core.Path.{refl}
use borrow.Author.Tests.{eq-eqb, ne_eqb}
use mir.Facts.{to_z-of_z}
use Rattle.calculus_laws.specs.SumLaws.{if_so}
use Rattle.model_range.specs.KeyRange.{key_steady}
use Rattle.model_range.proofs.steady.Goals as goal

pub returns-then-key-eq0 : goal.returns-then-key-eq0
unfolding key_steady if_so
returns-then-key-eq0 c = rw (eq-eqb c.args.key 0 c.if-key-eq0.true) (to_z-of_z c.ranges.coefficient)

pub returns-else-key-eq0 : goal.returns-else-key-eq0
unfolding key_steady if_so
returns-else-key-eq0 c = rw (ne_eqb c.args.key 0 c.if-key-eq0.false) refl
