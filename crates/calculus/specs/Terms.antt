-- Lists of terms with integer coefficients: tests, sums, and the form in which each monomial stands once.
use Rattle.std.specs.Prelude.{Bool, true, false, not, ◌&&◌, List, [], ◌∷◌, map, ℕ, ◌+◌, eqb, ℤ, pos, ◌+ℤ◌, nat_abs}
use Rattle.polynomial.specs.Polynomial.{Term}
use Rattle.calculus.specs.Monomial.{same, less}

-- terms, in any order
abbrev pub Terms : Type 0
Terms = List (Term ℤ)

-- the coefficient c at the monomial k
abbrev pub term : ℤ → List ℕ → Term ℤ
term c k = record { coefficient = c; exponents = k }

-- ---- tests and sums over terms, given by functions of monomial and coefficient
-- every term passes
unfoldable pub every : (List ℕ → ℤ → Bool) → Terms → Bool
every f [] = true
every f (t ∷ p) = f t.exponents t.coefficient && every f p

-- the terms that pass
unfoldable pub select : (List ℕ → ℤ → Bool) → Terms → Terms
select f [] = []
select f (t ∷ p) = elim (f t.exponents t.coefficient) [ true ↦ t ∷ select f p | false ↦ select f p ]

-- the sum of g over all terms, by any addition
unfoldable pub sum_over : {A : Type 0} → (A → A → A) → A → (List ℕ → ℤ → A) → Terms → A
sum_over plus nothing g [] = nothing
sum_over plus nothing g (t ∷ p) = plus (g t.exponents t.coefficient) (sum_over plus nothing g p)

-- the sum of natural numbers
abbrev pub sum_ℕ : (List ℕ → ℤ → ℕ) → Terms → ℕ
sum_ℕ = sum_over ◌+◌ 0

-- the sum of integers
abbrev pub sum_ℤ : (List ℕ → ℤ → ℤ) → Terms → ℤ
sum_ℤ = sum_over ◌+ℤ◌ (pos 0)

-- the sum of all |c|
unfoldable pub size : Terms → ℕ
size = sum_ℕ (λ k c. nat_abs c)

-- ---- other coefficients or other monomials
-- every coefficient put through f
unfoldable pub map_coefficients : (ℤ → ℤ) → Terms → Terms
map_coefficients f = map (λ t. term (f t.coefficient) t.exponents)

-- every coefficient put through f, which is given its monomial too
unfoldable pub map_terms : (List ℕ → ℤ → ℤ) → Terms → Terms
map_terms f = map (λ t. term (f t.exponents t.coefficient) t.exponents)

-- every monomial put through f
unfoldable pub map_monomials : (List ℕ → List ℕ) → Terms → Terms
map_monomials f = map (λ t. term t.coefficient (f t.exponents))

-- ---- monomials strictly rising, no coefficient 0
-- the monomials rise strictly, from above k
unfoldable pub rising_from : List ℕ → Terms → Bool
rising_from k [] = true
rising_from k (t ∷ p) = less k t.exponents && rising_from t.exponents p

-- the monomials rise strictly
unfoldable pub rising : Terms → Bool
rising [] = true
rising (t ∷ p) = rising_from t.exponents p

-- c is not 0
unfoldable pub is_nonzero : ℤ → Bool
is_nonzero c = not (eqb (nat_abs c) 0)

-- no coefficient is 0
unfoldable pub nonzero : Terms → Bool
nonzero = every (λ k c. is_nonzero c)

-- zeros dropped
unfoldable pub drop_zeros : Terms → Terms
drop_zeros = select (λ k c. is_nonzero c)

-- a term put in its place, or added to that of its monomial
unfoldable pub insert : Term ℤ → Terms → Terms
insert t [] = t ∷ []
insert t (s ∷ p) = elim (same t.exponents s.exponents) [
  | true ↦ term (t.coefficient +ℤ s.coefficient) s.exponents ∷ p
  | false ↦ elim (less t.exponents s.exponents) [ true ↦ t ∷ (s ∷ p) | false ↦ s ∷ insert t p ]
]

-- the terms in order, those of one monomial added up
unfoldable pub collect : Terms → Terms
collect [] = []
collect (t ∷ p) = insert t (collect p)

-- ---- monomials that do not stand, and that stand once
-- no term has the monomial k
unfoldable pub absent : List ℕ → Terms → Bool
absent k = every (λ j c. not (same k j))

-- each monomial stands once
unfoldable pub distinct : Terms → Bool
distinct [] = true
distinct (t ∷ p) = absent t.exponents p && distinct p
