-- Polynomials in any number of variables over a ring: lists of terms, their value at a point and their operations.
use Rattle.std.specs.Prelude.{List, [], ◌∷◌, ◌++◌, ℕ, zero, suc}
use Prim.Native.Nat as N
use Rattle.algebra.specs.Ring.{Ring, pow}

-- a coefficient and an exponent for each variable, in order; an exponent that is not there is 0
pub record Term (A : Type 0) : Type 0 where
  pub coefficient : A
  pub exponents : List ℕ

-- the exponents of a product
unfoldable pub add_exponents : List ℕ → List ℕ → List ℕ
add_exponents [] l = l
add_exponents (a ∷ k) [] = a ∷ k
add_exponents (a ∷ k) (b ∷ l) = N.◌+◌ a b ∷ add_exponents k l

-- the exponent of variable v; variables are counted from 0 here
unfoldable pub exponent : ℕ → List ℕ → ℕ
exponent v [] = 0
exponent zero (e ∷ es) = e
exponent (suc v) (e ∷ es) = exponent v es

-- the exponents with that of variable v, counted from 0, made 0
unfoldable pub without : ℕ → List ℕ → List ℕ
without v [] = []
without zero (e ∷ es) = 0 ∷ es
without (suc v) (e ∷ es) = e ∷ without v es

-- the exponents with that of variable v, counted from 0, one higher; one that is not there was 0
unfoldable pub raise : ℕ → List ℕ → List ℕ
raise zero [] = 1 ∷ []
raise zero (e ∷ es) = suc e ∷ es
raise (suc v) [] = 0 ∷ raise v []
raise (suc v) (e ∷ es) = e ∷ raise v es

-- the exponents with that of variable v, counted from 0, one lower; 0 stays
unfoldable pub lower : ℕ → List ℕ → List ℕ
lower v [] = []
lower zero (e ∷ es) = N.pred e ∷ es
lower (suc v) (e ∷ es) = e ∷ lower v es

-- the list with another element at place v, counted from 0: the point with another coordinate
unfoldable pub replace {ℓ} : {A : Type ℓ} → ℕ → A → List A → List A
replace v y [] = []
replace zero y (x ∷ xs) = y ∷ xs
replace (suc v) y (x ∷ xs) = x ∷ replace v y xs

module _ (R : Ring) where
  open R use {Carrier, 0#, 1#, ◌+◌, ◌*◌, neg}

  infixl 60 ◌+◌
  infixl 70 ◌*◌
  -- any list of terms
  abbrev pub Polynomial : Type 0
  Polynomial = List (Term Carrier)

  -- the product of the coordinates' powers
  unfoldable pub monomial : List ℕ → List Carrier → Carrier
  monomial [] xs = 1#
  monomial (e ∷ es) [] = 1#
  monomial (e ∷ es) (x ∷ xs) = pow R x e * monomial es xs

  -- the value at a point
  unfoldable pub eval : Polynomial → List Carrier → Carrier
  eval [] xs = 0#
  eval (t ∷ p) xs = t.coefficient * monomial t.exponents xs + eval p xs

  -- one term of degree 0
  unfoldable pub constant : Carrier → Polynomial
  constant c = record { coefficient = c; exponents = [] } ∷ []

  -- all terms of both
  abbrev pub sum : Polynomial → Polynomial → Polynomial
  sum p q = p ++ q

  -- every coefficient times c
  unfoldable pub scale : Carrier → Polynomial → Polynomial
  scale c [] = []
  scale c (t ∷ p) = record { coefficient = c * t.coefficient; exponents = t.exponents } ∷ scale c p

  -- every coefficient times -1
  abbrev pub negation : Polynomial → Polynomial
  negation p = scale (neg 1#) p

  -- a term times a polynomial
  unfoldable pub times : Term Carrier → Polynomial → Polynomial
  times t [] = []
  times t (s ∷ q) = record {
    coefficient = t.coefficient * s.coefficient;
    exponents = add_exponents t.exponents s.exponents;
  } ∷ times t q

  -- all products of a term from each side
  unfoldable pub product : Polynomial → Polynomial → Polynomial
  product [] q = []
  product (t ∷ p) q = sum (times t q) (product p q)

  -- p multiplied n times
  unfoldable pub power : Polynomial → ℕ → Polynomial
  power p zero = constant 1#
  power p (suc n) = product p (power p n)

  -- a term with q in the place of variable v, counted from 0
  unfoldable pub substitute_term : ℕ → Polynomial → Term Carrier → Polynomial
  substitute_term v q t = times (record { coefficient = t.coefficient; exponents = without v t.exponents })
      (power q (exponent v t.exponents))

  -- a polynomial with q in the place of variable v, counted from 0
  unfoldable pub substitute : ℕ → Polynomial → Polynomial → Polynomial
  substitute v q [] = []
  substitute v q (t ∷ p) = sum (substitute_term v q t) (substitute v q p)
