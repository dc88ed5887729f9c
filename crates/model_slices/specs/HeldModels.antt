-- Models that lie in slices of 64 places. After the terms that a count names any numbers may stand.
use Rattle.std.specs.Prelude.{◌≡◌, List, ℕ, ℤ, length}
use Rattle.model_types.specs.declared.Model.{Model}
use Rattle.model_types.specs.ModelStruct.{pad, of_terms}
use Rattle.model_types.specs.PairedLaws.{Listed}
use Rattle.model_slices.specs.HandedModels.{terms_of}

-- the struct of a model that lies in slices: the terms that its count names, and zeros after them
unfoldable pub held : (n count radius : ℕ) → List ℕ → List ℤ → Model
held n count radius ks cs = of_terms n count radius (pad (terms_of count ks cs))

-- the places of each slice: as many as a model has terms at most
abbrev pub model_places : ℕ
model_places = 64

-- all of them are there
pub record Room (ks : List ℕ) (cs : List ℤ) : Type 0 where
  pub keys : length ks ≡ model_places
  pub coefficients : length cs ≡ model_places

-- zeros do stand after the terms that the count names: the arrays of a struct
abbrev pub Clear : (count : ℕ) → List ℕ → List ℤ → Type 0
Clear count ks cs = Listed ks cs (pad (terms_of count ks cs))
