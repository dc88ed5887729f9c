-- The most products that the forms of a proposal can have, as the larger of two numbers.
use Rattle.std.specs.Prelude.{◌≡◌, ℕ, ◌*◌, ◌≤◌, ◌<◌}
use Rattle.std.proofs.Common.{arith}
use Rattle.calculus.specs.Model.{most_terms}
use Rattle.model_types.specs.declared.Model.{Model}
use Rattle.model_types.specs.ModelStructLaws.{limits}
use Rattle.product_hash_table.specs.Table.{most_entries}
use Rattle.model_quotient.specs.model_proposal.Proposal.{Proposal, quotient_products}
use Rattle.model_quotient.specs.model_proposal.SliceFormLaws.{products_most}

-- those of a form
pub products_form : (g h w : ℕ) → g * h ≤ 64 * w → 64 * w ≡ quotient_products g h w
unfolding quotient_products most_terms
products_form g h w l = omega arith

-- or the pairs of terms of g and h
pub products_pairs : (g h w : ℕ) → 64 * w < g * h → g * h ≡ quotient_products g h w
unfolding quotient_products most_terms
products_pairs g h w l = omega arith

-- of sound models
module _ {d : ℕ} {f g h w : Model} (s : Proposal d f g h w) where
  pub counts_few : (g.count ≤ most_terms) × (h.count ≤ most_terms) × (w.count ≤ most_terms)
  counts_few = ((limits d g s.divisor).few, (limits d h s.proposed).few, (limits d w s.inverse).few)

  -- the full table has room for them
  pub products_any : quotient_products g.count h.count w.count ≤ most_entries
  products_any = products_most g.count h.count w.count counts_few.0 counts_few.1 counts_few.2
