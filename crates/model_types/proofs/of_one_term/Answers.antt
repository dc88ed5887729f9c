-- `of_one_term` packs one term.
use native.Mathlib.Omega.{arith}
use borrow.Author.Rules.{rules}
use mir.Facts.{to_z-of_z}
use Rattle.calculus.specs.Model.{most_terms}
use Rattle.model_types.specs.Arrays.{padded}
use Rattle.model_types.specs.ModelStruct.{one_term, pack, pack_term}
use Rattle.calculus_laws.specs.MonomialKeyLaws.{word_key, key_monomial}
use Rattle.model_types.proofs.of_one_term.Goals as goal

pub returns : goal.returns
unfolding most_terms one_term pack pack_term padded
returns c = rw (
  key_monomial c.args.n c.args.key c.requires (word_key _ (omega arith)),
  to_z-of_z c.ranges.coefficient,
)
