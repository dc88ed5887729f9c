-- Terms held by two arrays, of keys and of coefficients, and a term added to the one of its monomial.
use Rattle.std.specs.Prelude.{true, false, List, [], ◌∷◌, ℕ, zero, suc, ℤ, pos, ◌+ℤ◌}
use Rattle.polynomial.specs.Polynomial.{Term}
use Rattle.calculus.specs.Monomial.{same}
use Rattle.calculus.specs.Terms.{Terms, term}

-- a coefficient at a key: a term in one variable
abbrev pub at_key : ℕ → ℤ → Term ℤ
at_key key z = term z (key ∷ [])

-- what stands at no place
abbrev pub none : Term ℤ
none = at_key 0 (pos 0)

-- what the first n places of an array of keys and of one of coefficients hold
unfoldable pub terms : ℕ → List ℕ → List ℤ → Terms
terms zero keys sums = []
terms (suc n) [] sums = []
terms (suc n) (k ∷ keys) [] = []
terms (suc n) (k ∷ keys) (z ∷ sums) = at_key k z ∷ terms n keys sums

-- t added to the term of its monomial, or put after the others where that is new
unfoldable pub accumulated : Term ℤ → Terms → Terms
accumulated t [] = t ∷ []
accumulated t (s ∷ p) = elim (same t.exponents s.exponents) [
  | true ↦ term (t.coefficient +ℤ s.coefficient) s.exponents ∷ p
  | false ↦ s ∷ accumulated t p
]

-- the places of keys and of sums in scratch memory: entries from place 1 on, or a grid
abbrev pub scratch_places : ℕ
scratch_places = 6561
