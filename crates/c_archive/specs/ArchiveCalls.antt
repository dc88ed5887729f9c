-- Models stored in the archive from numbers and slices, and restored: whether a call fits, and what its slices hold at
-- the end.
use Rattle.std.specs.Prelude.{Bool, true, false, ◌&&◌, List, [], ◌∷◌, ℕ, leb}
use Rattle.calculus.specs.Model.{Model}
use Rattle.calculus.specs.Refusal.{Result}
use Rattle.model_types.specs.ModelStruct.{verdict_number, verdict_place}
use Rattle.model_slices.specs.HandedModels.{borrowed, misused, over}
use Rattle.archive.specs.Archive.{store, stored, restored}
use Rattle.model_archive.specs.declared.Stored.{Stored}
use Rattle.model_archive.specs.StoredStruct.{store_answer}

-- whether the slices have every term that the count names, and room for the numbers
unfoldable pub store_fits : (count keys coefficients numbers : ℕ) → Bool
store_fits count keys coefficients numbers = borrowed count keys coefficients && leb 2 numbers

-- the number that a call returns, and its numbers
pub record StoredNumbers : Type 0 where
  pub number : ℕ
  pub numbers : List ℕ

-- these, put together
unfoldable pub numbers_state : (number : ℕ) → List ℕ → StoredNumbers
numbers_state number ns = record { number = number; numbers = ns }

-- the refusal's place and the length, over what the slice holds
unfoldable pub stored_length : Stored → List ℕ → StoredNumbers
stored_length w ns = numbers_state (verdict_number w.verdict)
    (over (verdict_place w.verdict ∷ w.length ∷ []) ns)

-- the number that a call returns, the buffer and the numbers
pub record StoreCall : Type 0 where
  pub number : ℕ
  pub buffer : List ℕ
  pub numbers : List ℕ

-- these, put together
unfoldable pub store_state : (number : ℕ) (buffer numbers : List ℕ) → StoreCall
store_state number b ns = record { number = number; buffer = b; numbers = ns }

-- an answer beside a buffer
unfoldable pub beside : StoredNumbers → (buffer : List ℕ) → StoreCall
beside w b = store_state w.number b w.numbers

-- a model stored into a buffer
unfoldable pub stored_call : Model → (buffer numbers : List ℕ) → StoreCall
stored_call m b ns = beside (stored_length (store_answer (store m b)) ns) (stored m b).value.buffer

-- a call that fits is answered, any other returns 255 and changes nothing
unfoldable pub called_store : (fits : Bool) → Model → (buffer numbers : List ℕ) → StoreCall
called_store true m b ns = stored_call m b ns
called_store false m b ns = store_state misused b ns

-- the model restored from the first terms
unfoldable pub restored_call : (bytes : List ℕ) (terms : ℕ) → Result Model
restored_call s j = restored s j
