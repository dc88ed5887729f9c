-- What the operations ask of operands that are known to be sound and of a scratch table: handed on from the crates that
-- make them.
pub use Rattle.model_addition.specs.Addition.{Operands}
pub use Rattle.model_antiderivative.specs.Antiderivatives.{Integrand}
pub use Rattle.model_quotient_room.specs.model_multiplication.Factors.{Factors}
pub use Rattle.model_substitution.specs.Substitute.{Substitution}
pub use Rattle.model_quotient_room.specs.model_proposal.Proposal.{Proposal}
-- the products that a quotient asks room for, which a caller counts
unfoldable pub use Rattle.model_quotient_room.specs.model_proposal.Proposal.{quotient_products}
-- the products that the full table has room for
pub use Rattle.product_hash_table.specs.Table.{most_entries}
pub use Rattle.product_calls.specs.SliceContracts.{ScratchRoom, KeptRoom, KeptReady}
-- the answer of a product in arrays is one that callers look into
unfoldable pub use Rattle.product_calls.specs.SliceContracts.{kept_model, kept_accounted}
