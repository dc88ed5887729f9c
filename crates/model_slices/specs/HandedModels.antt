-- Models as numbers and slices: what is handed over, and what the slices hold once a model is stored.
use Rattle.std.specs.Prelude.{Bool, ◌&&◌, List, [], ◌∷◌, ◌++◌, ℕ, zero, suc, min, leb, ℤ, length, drop}
use Rattle.calculus.specs.Model.{most_terms}
use Rattle.model_types.specs.declared.Term.{Term}
use Rattle.model_types.specs.declared.Model.{Model}
use Rattle.model_types.specs.ModelStruct.{pad, of_terms}

-- ---- what is handed over
-- the first n terms of two slices, as far as both go
unfoldable pub terms_of : (n : ℕ) → List ℕ → List ℤ → List Term
terms_of zero ks cs = []
terms_of (suc n) [] cs = []
terms_of (suc n) (k ∷ ks) [] = []
terms_of (suc n) (k ∷ ks) (c ∷ cs) = record { key = k; coefficient = c } ∷ terms_of n ks cs

-- the struct of a model: its places are the first 64 of the slices, and zeros where these end before
unfoldable pub handed : (n count radius : ℕ) → List ℕ → List ℤ → Model
handed n count radius ks cs = of_terms n count radius (pad (terms_of most_terms ks cs))

-- whether slices of these lengths have every place that a count names
unfoldable pub borrowed : (count keys coefficients : ℕ) → Bool
borrowed count keys coefficients = leb (min count most_terms) keys && leb (min count most_terms) coefficients

-- the number that a call returns where a slice is too short or a code unknown
abbrev pub misused : ℕ
misused = 255

-- ---- what the slices hold at the end
-- the first places of a slice hold these, the others what they held
unfoldable pub over : {A : Type 0} → List A → List A → List A
over new old = new ++ drop (length new) old

-- the keys of all places
unfoldable pub stored_keys : Model → List ℕ → List ℕ
stored_keys m = over m.keys

-- the coefficients of all places
unfoldable pub stored_coefficients : Model → List ℤ → List ℤ
stored_coefficients m = over m.coefficients

-- how many numbers go with a model that is answered
abbrev pub answer_numbers : ℕ
answer_numbers = 4

-- how many ends go with a run that is answered: of the range, of the integral, q and r
abbrev pub run_ends : ℕ
run_ends = 6

-- a refusal's place, n, the count, the radius
unfoldable pub stored_numbers : (place : ℕ) → Model → List ℕ → List ℕ
stored_numbers place m = over (place ∷ m.n ∷ m.count ∷ m.radius ∷ [])

-- whether slices of these lengths have room for an answer
unfoldable pub model_room : (keys coefficients numbers : ℕ) → Bool
model_room keys coefficients numbers = leb most_terms keys && leb most_terms coefficients && leb answer_numbers numbers
