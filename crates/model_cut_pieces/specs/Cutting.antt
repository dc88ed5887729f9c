-- What cutting a variable asks for.
use Rattle.std.specs.Prelude.{ℕ, ◌≤◌, T}
use Rattle.calculus.specs.Model.{most_degree, sound}
use Rattle.model_types.specs.declared.Model.{Model}
use Rattle.model_types.specs.ModelStruct.{view}
use Rattle.cuts.specs.Cuts.{most_depth}

-- a sound model of degrees up to an order, one of its variables, and a depth
pub record Cutting (d i k : ℕ) (f : Model) : Type 0 where
  pub order : d ≤ most_degree
  pub positive : 1 ≤ d
  pub model : T (sound d (view f))
  pub first : 1 ≤ i
  pub last : i ≤ f.n
  pub depth : k ≤ most_depth

-- the products of 64 terms with the two of a piece
abbrev pub piece_products : ℕ
piece_products = 128
