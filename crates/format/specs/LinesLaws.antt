-- Decimal digits: one digit, or those of the tenth part and one more.
use Rattle.std.specs.Prelude.{◌≡◌, refl, Bool, true, false, List, [], ◌∷◌, ◌++◌, ℕ, zero, suc, ◌+◌, ◌/◌, ◌%◌, ◌≤◌, ◌<◌, ltb}
use Rattle.std.proofs.Common.{ap, arith, lt-ltb, le-ltb, ltb-false}
use Rattle.format.specs.Lines.{digits, decimal}

-- any number of places above the number itself is enough
enough : (j k x : ℕ) → x < j → x < k → digits j x ≡ digits k x
unfolding digits
enough zero k x h l = absurd (omega arith)
enough (suc j) zero x h l = absurd (omega arith)
enough (suc j) (suc k) x h l =
    go (ltb x 10) refl (λ m. enough j k (x / 10) (omega arith) (omega arith))
  where
    longer : (t : Bool) → List ℕ → List ℕ
    longer t l = elim t as (λ t. List ℕ) [ true ↦ (48 + x) ∷ [] | false ↦ l ++ ((48 + x % 10) ∷ []) ]

    go : (t : Bool) → ltb x 10 ≡ t → (10 ≤ x → digits j (x / 10) ≡ digits k (x / 10))
        → longer t (digits j (x / 10)) ≡ longer t (digits k (x / 10))
    go true e r = refl
    go false e r = ap (longer false) (r (ltb-false x 10 e))

pub decimal_digit : (x : ℕ) → x < 10 → decimal x ≡ (48 + x) ∷ []
unfolding decimal digits
decimal_digit x h = rw (lt-ltb x 10 h, digits)

pub decimal_more : (x : ℕ) → 10 ≤ x → decimal x ≡ decimal (x / 10) ++ ((48 + x % 10) ∷ [])
unfolding decimal digits
decimal_more x h = rw (le-ltb x 10 h, digits)
    (ap (λ l. l ++ ((48 + x % 10) ∷ [])) (enough x (suc (x / 10)) (x / 10) (omega arith) (omega arith)))
