-- The scratch memory for any product has room for that of two factors.
use Rattle.std.specs.Prelude.{ℕ, ◌*◌, List, ℤ}
use Rattle.std.proofs.Math.Nat as NatL
use Rattle.calculus.specs.Model.{most_terms}
use Rattle.model_types.specs.declared.Model.{Model}
use Rattle.model_types.specs.ModelStructLaws.{limits}
use Rattle.product_hash_collect.specs.CollectorContracts.{ScratchTable}
use Rattle.product_slices.specs.product_room.ProductTerms.{ScratchRoom}
use Rattle.product_slices.specs.product_room.ProductTermsLaws.{scratch_room}
use Rattle.product_answer.specs.ProductFactors.{Factors}

pub factors_room : {d : ℕ} {f g : Model} {slots keys : List ℕ} {sums : List ℤ} → Factors d f g
    → ScratchTable slots keys sums → ScratchRoom (f.count * g.count) slots keys sums
unfolding most_terms
factors_room h t = scratch_room t (NatL.mul-le-mul (limits _ _ h.first).few (limits _ _ h.second).few)
