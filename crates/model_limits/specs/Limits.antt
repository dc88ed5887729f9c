-- What is asked of a model whose limits are tested, and what is left of one in slices.
use Rattle.std.specs.Prelude.{◌≡◌, List, ℕ, ◌≤◌, ℤ}
use Rattle.calculus.specs.Model.{most_terms}
use Rattle.model_slices.specs.model_types.declared.Model.{Model}
use Rattle.model_slices.specs.model_types.declared.Answer.{Answer}
use Rattle.std.specs.Prelude.{Ok}
use Rattle.model_slices.specs.model_types.ModelStruct.{view, pack}
use Rattle.model_slices.specs.HeldModels.{held}
use Rattle.model_limits.specs.declared.Left.{Left}

-- a struct as packing leaves it: at most 64 terms, zeros beyond the count
pub record Packed (m : Model) : Type 0 where
  pub few : m.count ≤ most_terms
  pub packed : pack (view m) ≡ m

-- an answer of which the terms lie in slices: its verdict, and unless it is refused its model
pub record LeftIn (n : ℕ) (r : Left) (ks : List ℕ) (cs : List ℤ) (a : Answer) : Type 0 where
  pub verdict : r.verdict ≡ a.verdict
  pub model : r.verdict ≡ Ok tt → held n r.count r.radius ks cs ≡ a.model
