-- Lists of natural numbers: equality and the lexicographic order, as tests.
use Rattle.std.specs.Prelude.{Bool, true, false, List, [], ◌∷◌, ℕ, eqb, ltb}

-- equality
abbrev pub same : List ℕ → List ℕ → Bool
same [] [] = true
same [] (w ∷ l) = false
same (v ∷ k) [] = false
same (v ∷ k) (w ∷ l) = elim (eqb v w) [ true ↦ same k l | false ↦ false ]

-- the first difference decides; a list comes before those that go on from it
abbrev pub less : List ℕ → List ℕ → Bool
less [] [] = false
less [] (w ∷ l) = true
less (v ∷ k) [] = false
less (v ∷ k) (w ∷ l) = elim (eqb v w) [ true ↦ less k l | false ↦ ltb v w ]
