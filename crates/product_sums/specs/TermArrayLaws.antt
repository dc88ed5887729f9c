-- The terms that two arrays hold, and what stores do to them.
use Rattle.std.specs.Prelude.{◌≡◌, refl, List, [], ◌∷◌, ◌++◌, ℕ, zero, suc, ◌<◌, ◌≤◌, ℤ, pos, length, get_or, drop, set}
use Rattle.std.proofs.Common.{ap, arith, drop_of_length-le, drop-cons}
use Rattle.calculus.specs.Terms.{Terms}
use Rattle.product_sums.specs.TermArrays.{at_key, none, terms}

pub terms_length : (n : ℕ) (keys : List ℕ) (sums : List ℤ) → n ≤ length keys → n ≤ length sums
    → length (terms n keys sums) ≡ n
unfolding terms
terms_length zero keys sums h l = refl
terms_length (suc n) [] sums h l = absurd (omega arith)
terms_length (suc n) (k ∷ keys) [] h l = absurd (omega arith)
terms_length (suc n) (k ∷ keys) (z ∷ sums) h l = ap suc (terms_length n keys sums (omega arith) (omega arith))

pub terms_at : (n : ℕ) (keys : List ℕ) (sums : List ℤ) (i : ℕ) → i < n → n ≤ length keys → n ≤ length sums
    → get_or (terms n keys sums) i none ≡ at_key (get_or keys i 0) (get_or sums i (pos 0))
unfolding terms
terms_at zero keys sums i p h l = absurd (omega arith)
terms_at (suc n) [] sums i p h l = absurd (omega arith)
terms_at (suc n) (k ∷ keys) [] i p h l = absurd (omega arith)
terms_at (suc n) (k ∷ keys) (z ∷ sums) zero p h l = refl
terms_at (suc n) (k ∷ keys) (z ∷ sums) (suc i) p h l = terms_at n keys sums i (omega arith) (omega arith) (omega arith)

-- a store among them, after them, and one that makes them one more
pub terms_set : (n : ℕ) (keys : List ℕ) (sums : List ℤ) (i k : ℕ) (z : ℤ) → i < n → n ≤ length keys → n ≤ length sums
    → terms n (set keys i k) (set sums i z) ≡ set (terms n keys sums) i (at_key k z)
unfolding terms
terms_set zero keys sums i k z p h l = absurd (omega arith)
terms_set (suc n) [] sums i k z p h l = absurd (omega arith)
terms_set (suc n) (x ∷ keys) [] i k z p h l = absurd (omega arith)
terms_set (suc n) (x ∷ keys) (y ∷ sums) zero k z p h l = refl
terms_set (suc n) (x ∷ keys) (y ∷ sums) (suc i) k z p h l =
    ap (λ (r : Terms). at_key x y ∷ r) (terms_set n keys sums i k z (omega arith) (omega arith) (omega arith))

pub terms_after : (n : ℕ) (keys : List ℕ) (sums : List ℤ) (z : ℤ) → terms n keys (set sums n z) ≡ terms n keys sums
unfolding terms
terms_after zero keys sums z = refl
terms_after (suc n) [] sums z = refl
terms_after (suc n) (x ∷ keys) [] z = refl
terms_after (suc n) (x ∷ keys) (y ∷ sums) z = ap (λ (r : Terms). at_key x y ∷ r) (terms_after n keys sums z)

pub terms_push : (n : ℕ) (keys : List ℕ) (sums : List ℤ) (k : ℕ) (z : ℤ) → n < length keys → n < length sums
    → terms (suc n) (set keys n k) (set sums n z) ≡ terms n keys sums ++ (at_key k z ∷ [])
unfolding terms
terms_push n [] sums k z h l = absurd (omega arith)
terms_push n (x ∷ keys) [] k z h l = absurd (omega arith)
terms_push zero (x ∷ keys) (y ∷ sums) k z h l = refl
terms_push (suc n) (x ∷ keys) (y ∷ sums) k z h l =
    ap (λ (r : Terms). at_key x y ∷ r) (terms_push n keys sums k z (omega arith) (omega arith))

-- the terms from place i on, one by one
pub terms_from : (n : ℕ) (keys : List ℕ) (sums : List ℤ) (i : ℕ) → i < n → n ≤ length keys → n ≤ length sums
    → drop i (terms n keys sums) ≡ at_key (get_or keys i 0) (get_or sums i (pos 0)) ∷ drop (suc i) (terms n keys sums)
terms_from n keys sums i p h l =
    let e = terms_length n keys sums h l in
    rw (drop-cons (terms n keys sums) i none (omega arith), terms_at n keys sums i p h l)

pub terms_end : (n : ℕ) (keys : List ℕ) (sums : List ℤ) (i : ℕ) → n ≤ i → n ≤ length keys → n ≤ length sums
    → drop i (terms n keys sums) ≡ []
terms_end n keys sums i p h l =
    let e = terms_length n keys sums h l in
    drop_of_length-le (terms n keys sums) {i = i} (omega arith)
