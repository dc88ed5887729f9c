-- The scratch memory for a product of two lists of terms.
use Rattle.std.specs.Prelude.{List, ℕ, ◌*◌, ◌<◌, ℤ, length}
use Rattle.calculus.specs.Model.{most_terms}
use Rattle.product_hash_table.specs.Table.{slots_each}

-- the scratch memory for so many products: a table, whatever is in it
pub record ScratchRoom (products : ℕ) (slots keys : List ℕ) (sums : List ℤ) : Type 0 where
  pub slots_room : slots_each * products < length slots
  pub keys_room : products < length keys
  pub sums_room : products < length sums

-- places for one term more than a model has
pub record KeptRoom (kept : List ℕ) (coefficients : List ℤ) : Type 0 where
  pub kept_room : most_terms < length kept
  pub coefficients_room : most_terms < length coefficients
