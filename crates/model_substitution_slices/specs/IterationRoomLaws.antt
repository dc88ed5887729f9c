-- The scratch memory for a substitution has room for each iteration of Horner's rule, where g is multiplied by a model
-- of at most 64 terms.
use Rattle.std.specs.Prelude.{ℕ, ◌*◌, List, ℤ}
use Rattle.std.proofs.Math.Nat as NatL
use Rattle.std.proofs.Common.{arith}
use Rattle.calculus.specs.Model.{most_terms}
use Rattle.model_types.specs.declared.Model.{Model}
use Rattle.model_types.specs.ModelStructLaws.{limits}
use Rattle.product_room.specs.ProductTerms.{ScratchRoom}
use Rattle.product_room.specs.ProductTermsLaws.{fewer_room}
use Rattle.model_widening.specs.model_horner_iteration.HornerIteration.{Iteration}

pub iteration_room : {slots keys : List ℕ} {sums : List ℤ} {d : ℕ} {h g q : Model} → Iteration d h g q
    → ScratchRoom (most_terms * g.count) slots keys sums → ScratchRoom (h.count * g.count) slots keys sums
iteration_room s t = fewer_room t (NatL.mul-le-mul (limits _ _ s.factors.first).few (omega arith))
