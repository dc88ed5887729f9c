-- The scratch memory for any product has room for a substitution.
use Rattle.std.specs.Prelude.{ℕ, ◌*◌, List, ℤ}
use Rattle.std.proofs.Common.{arith}
use Rattle.calculus.specs.Model.{most_terms}
use Rattle.model_types.specs.declared.Model.{Model}
use Rattle.model_types.specs.ModelStructLaws.{limits}
use Rattle.product_hash_collect.specs.CollectorContracts.{ScratchTable}
use Rattle.product_room.specs.ProductTerms.{ScratchRoom}
use Rattle.product_room.specs.ProductTermsLaws.{scratch_room}
use Rattle.model_substitution.specs.Substitute.{Substitution}

module _ {slots keys : List ℕ} {sums : List ℤ} where
  pub substitution_room : {d i : ℕ} {f g : Model} → Substitution d i f g → ScratchTable slots keys sums
      → ScratchRoom (most_terms * g.count) slots keys sums
  unfolding most_terms
  substitution_room s t = let few = (limits _ _ s.inner).few in scratch_room t (omega (arith, few))
