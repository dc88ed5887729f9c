-- Monomials by their exponents: two with the same exponents are one, and what each operation on monomials does to them.
use Rattle.std.specs.Prelude.{◌≡◌, refl, List, [], ◌∷◌, ℕ, zero, suc, ◌+◌, ◌<◌, length, get_or}
use Rattle.std.proofs.Common.{ap, ap₂, arith}
use Rattle.polynomial.specs.Polynomial.{add_exponents, exponent, without, replace}
use Rattle.renaming.specs.Reordering.{tabulate}

-- two lists of n exponents that are equal place by place
pub same_exponents : (n : ℕ) (k l : List ℕ) → length k ≡ n → length l ≡ n
    → ((i : ℕ) → i < n → exponent i k ≡ exponent i l) → k ≡ l
unfolding exponent
same_exponents zero [] [] h g e = refl
same_exponents zero [] (b ∷ l) h g e = absurd (omega arith)
same_exponents zero (a ∷ k) l h g e = absurd (omega arith)
same_exponents (suc n) [] l h g e = absurd (omega arith)
same_exponents (suc n) (a ∷ k) [] h g e = absurd (omega arith)
same_exponents (suc n) (a ∷ k) (b ∷ l) h g e =
    ap₂ ◌∷◌ (e 0 (omega arith)) (same_exponents n k l (omega arith) (omega arith) (λ i m. e (suc i) (omega arith)))

-- ---- a list by its elements
pub length_tabulate : {A : Type 0} (n : ℕ) (f : ℕ → A) → length (tabulate n f) ≡ n
unfolding tabulate
length_tabulate zero f = refl
length_tabulate (suc n) f = ap suc (length_tabulate n (λ i. f (suc i)))

pub exponent_tabulate : (n : ℕ) (f : ℕ → ℕ) (i : ℕ) → i < n → exponent i (tabulate n f) ≡ f i
unfolding tabulate exponent
exponent_tabulate zero f i h = absurd (omega arith)
exponent_tabulate (suc n) f zero h = refl
exponent_tabulate (suc n) f (suc i) h = exponent_tabulate n (λ i. f (suc i)) i (omega arith)

pub element_tabulate : {A : Type 0} (n : ℕ) (f : ℕ → A) (d : A) (i : ℕ) → i < n → get_or (tabulate n f) i d ≡ f i
unfolding tabulate
element_tabulate zero f d i h = absurd (omega arith)
element_tabulate (suc n) f d zero h = refl
element_tabulate (suc n) f d (suc i) h = element_tabulate n (λ i. f (suc i)) d i (omega arith)

-- ---- the operations
pub exponent_add : (i : ℕ) (k l : List ℕ) → exponent i (add_exponents k l) ≡ exponent i k + exponent i l
unfolding exponent add_exponents
exponent_add i [] l = omega arith
exponent_add zero (a ∷ k) [] = omega arith
exponent_add (suc i) (a ∷ k) [] = omega arith
exponent_add zero (a ∷ k) (b ∷ l) = refl
exponent_add (suc i) (a ∷ k) (b ∷ l) = exponent_add i k l

pub exponent_without_here : (i : ℕ) (k : List ℕ) → exponent i (without i k) ≡ 0
unfolding exponent without
exponent_without_here i [] = refl
exponent_without_here zero (a ∷ k) = refl
exponent_without_here (suc i) (a ∷ k) = exponent_without_here i k

pub exponent_without_there : (i j : ℕ) (k : List ℕ) → (i ≡ j → ⊥) → exponent j (without i k) ≡ exponent j k
unfolding exponent without
exponent_without_there i j [] h = refl
exponent_without_there zero zero (a ∷ k) h = absurd (h refl)
exponent_without_there zero (suc j) (a ∷ k) h = refl
exponent_without_there (suc i) zero (a ∷ k) h = refl
exponent_without_there (suc i) (suc j) (a ∷ k) h = exponent_without_there i j k (λ e. h (ap suc e))

pub exponent_replace_here : (i e : ℕ) (k : List ℕ) → i < length k → exponent i (replace i e k) ≡ e
unfolding exponent replace
exponent_replace_here i e [] h = absurd (omega arith)
exponent_replace_here zero e (a ∷ k) h = refl
exponent_replace_here (suc i) e (a ∷ k) h = exponent_replace_here i e k (omega arith)

pub exponent_replace_there : (i j e : ℕ) (k : List ℕ) → (i ≡ j → ⊥) → exponent j (replace i e k) ≡ exponent j k
unfolding exponent replace
exponent_replace_there i j e [] h = refl
exponent_replace_there zero zero e (a ∷ k) h = absurd (h refl)
exponent_replace_there zero (suc j) e (a ∷ k) h = refl
exponent_replace_there (suc i) zero e (a ∷ k) h = refl
exponent_replace_there (suc i) (suc j) e (a ∷ k) h = exponent_replace_there i j e k (λ e. h (ap suc e))
