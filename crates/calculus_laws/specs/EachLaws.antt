-- Two lists related element by element, and one list of which each element has a property.
use Rattle.std.specs.Prelude.{◌≡◌, refl, List, [], ◌∷◌, ◌++◌, ℕ, zero, suc, length, get_or}
use Rattle.std.proofs.Common.{ap}
use Rattle.calculus.specs.Book.{last}

-- as long as each other, and R of each pair
pub data Each {A B : Type 0} (R : A → B → Type 0) : List A → List B → Type 0 where
  nil : Each R [] []
  cons : {a : A} {b : B} {l : List A} {k : List B} → R a b → Each R l k → Each R (a ∷ l) (b ∷ k)

module _ {A B : Type 0} (R : A → B → Type 0) where
  pub each_length : {l : List A} {k : List B} → Each R l k → length l ≡ length k
  each_length nil = refl
  each_length (cons h e) = ap suc (each_length e)

  -- one more at the end
  pub each_snoc : {l : List A} {k : List B} {a : A} {b : B} → Each R l k → R a b
      → Each R (l ++ (a ∷ [])) (k ++ (b ∷ []))
  each_snoc nil r = cons r nil
  each_snoc (cons h e) r = cons h (each_snoc e r)

  pub each_at : {l : List A} {k : List B} (a : A) (b : B) → R a b → Each R l k → (i : ℕ)
      → R (get_or l i a) (get_or k i b)
  each_at a b r nil i = r
  each_at a b r (cons h e) zero = h
  each_at a b r (cons h e) (suc i) = each_at a b r e i

  pub each_last : {l : List A} {k : List B} (a : A) (b : B) → R a b → Each R l k → R (last a l) (last b k)
  unfolding last
  each_last a b r nil = r
  each_last a b r (cons {a = c} {b = d} h e) = each_last c d h e

-- P of each element: a list related to itself
abbrev pub All : {A : Type 0} → (A → Type 0) → List A → Type 0
All P l = Each (λ a b. P b) l l
