-- Lengths, degrees, order and values of monomials.
use Rattle.std.specs.Prelude.{◌≡◌, List, [], ◌∷◌, ◌⊎◌, ℕ, zero, suc, ◌<◌, ◌≤◌, T, length, get_or}
use Rattle.std.proofs.Math.Path.{refl}
use Rattle.std.proofs.Common.{◌∙◌, ap, ap₂, inl, inr, arith}
use Rattle.std.proofs.lemmas.List.{length-replicate}
use Rattle.algebra.specs.LexicographicLaws.{less_cons, cons_less}
use Rattle.algebra.specs.Ring.{pow}
use Rattle.algebra.specs.RingLaws.{one-*}
use Rattle.algebra.proofs.Rational.{◌*ℚ◌}
use Rattle.algebra.proofs.RationalRing.{ℚR}
use Rattle.polynomial.specs.Polynomial.{add_exponents, exponent, without, raise, replace, monomial}
use Rattle.calculus.specs.Monomial.{less, degree, zeros, index_of, single}
use Rattle.calculus.specs.Model.{Point}
use Rattle.calculus.specs.Functions.{coordinate}
open ℚR use {0#, 1#, *-one}

-- places in a list are one less than the numbers of the variables
pub index_suc : (v : ℕ) → 1 ≤ v → suc (index_of v) ≡ v
unfolding index_of
index_suc zero h = absurd (omega arith)
index_suc (suc v) h = refl

-- ---- lengths
pub length_zeros : (n : ℕ) → length (zeros n) ≡ n
unfolding zeros
length_zeros n = length-replicate n 0

pub length_replace {ℓ} : {A : Type ℓ} (i : ℕ) (y : A) (l : List A) → length (replace i y l) ≡ length l
unfolding replace
length_replace i y [] = refl
length_replace zero y (e ∷ l) = refl
length_replace (suc i) y (e ∷ l) = ap suc (length_replace i y l)

pub length_single : (n v : ℕ) → length (single n v) ≡ n
unfolding single
length_single n v = length_replace (index_of v) 1 (zeros n) ∙ length_zeros n

pub length_plus : (k l : List ℕ) → length k ≡ length l → length (add_exponents k l) ≡ length l
unfolding add_exponents
length_plus [] l h = refl
length_plus (a ∷ k) [] h = absurd (omega arith)
length_plus (a ∷ k) (b ∷ l) h = ap suc (length_plus k l (omega arith))

pub length_without : (i : ℕ) (k : List ℕ) → length (without i k) ≡ length k
unfolding without
length_without i [] = refl
length_without zero (e ∷ k) = refl
length_without (suc i) (e ∷ k) = ap suc (length_without i k)

pub length_raise : (i : ℕ) (k : List ℕ) → i < length k → length (raise i k) ≡ length k
unfolding raise
length_raise i [] h = absurd (omega arith)
length_raise zero (e ∷ k) h = refl
length_raise (suc i) (e ∷ k) h = ap suc (length_raise i k (omega arith))

-- one exponent higher is another exponent
pub raise_replace : (i : ℕ) (k : List ℕ) → i < length k → raise i k ≡ replace i (suc (exponent i k)) k
unfolding raise replace exponent
raise_replace i [] h = absurd (omega arith)
raise_replace zero (e ∷ k) h = refl
raise_replace (suc i) (e ∷ k) h = ap (λ l. e ∷ l) (raise_replace i k (omega arith))

-- ---- degrees
pub degree_zeros : (n : ℕ) → degree (zeros n) ≡ 0
unfolding zeros degree
degree_zeros zero = refl
degree_zeros (suc n) = let h = degree_zeros n in omega arith

degree_one : (i n : ℕ) → degree (replace i 1 (zeros n)) ≤ 1
unfolding replace zeros degree
degree_one i zero = omega arith
degree_one zero (suc n) = let h : degree (zeros n) ≡ 0 = degree_zeros n in omega arith
degree_one (suc i) (suc n) = let h = degree_one i n in omega arith

pub degree_single : (n v : ℕ) → degree (single n v) ≤ 1
unfolding single
degree_single n v = degree_one (index_of v) n

pub degree_without : (i : ℕ) (k : List ℕ) → degree (without i k) ≤ degree k
unfolding without degree
degree_without i [] = omega arith
degree_without zero (e ∷ k) = omega arith
degree_without (suc i) (e ∷ k) = let h = degree_without i k in omega arith

-- no exponent is more
pub exponent_degree : (i : ℕ) (k : List ℕ) → exponent i k ≤ degree k
unfolding exponent degree
exponent_degree i [] = omega arith
exponent_degree zero (e ∷ k) = omega arith
exponent_degree (suc i) (e ∷ k) = let h = exponent_degree i k in omega arith

pub degree_raise : (i : ℕ) (k : List ℕ) → degree (raise i k) ≡ suc (degree k)
unfolding raise degree
degree_raise zero [] = refl
degree_raise zero (e ∷ k) = omega arith
degree_raise (suc i) [] = let h = degree_raise i [] in omega arith
degree_raise (suc i) (e ∷ k) = let h = degree_raise i k in omega arith

-- ---- order
-- monomials with one exponent of variable i are ordered as they are without it
pub less_without : (i : ℕ) (k l : List ℕ) → exponent i k ≡ exponent i l → T (less k l)
    → T (less (without i k) (without i l))
unfolding without exponent
less_without i [] [] e h = absurd h
less_without zero [] (y ∷ l) e h = tt
less_without (suc i) [] (y ∷ l) e h = tt
less_without i (x ∷ k) [] e h = absurd h
less_without zero (x ∷ k) (y ∷ l) e h = cons_less 0 0 k l (go (less_cons x y k l h))
  where
    go : (x < y) ⊎ ((x ≡ y) × T (less k l)) → (0 < 0) ⊎ ((◌≡◌ {A = ℕ} 0 0) × T (less k l))
    go (inl g) = absurd (omega arith)
    go (inr g) = inr (refl, g.1)
less_without (suc i) (x ∷ k) (y ∷ l) e h = cons_less x y (without i k) (without i l)
    (go (less_cons x y k l h) (less_without i k l e))
  where
    go : (x < y) ⊎ ((x ≡ y) × T (less k l)) → (T (less k l) → T (less (without i k) (without i l)))
        → (x < y) ⊎ ((x ≡ y) × T (less (without i k) (without i l)))
    go (inl g) f = inl g
    go (inr g) f = inr (g.0, f g.1)

-- monomials that all have the variable keep their order when its exponents rise together
pub less_raise : (i : ℕ) (k l : List ℕ) → i < length k → i < length l → T (less k l) → T (less (raise i k) (raise i l))
unfolding raise
less_raise i [] l a b h = absurd (omega arith)
less_raise i (x ∷ k) [] a b h = absurd (omega arith)
less_raise zero (x ∷ k) (y ∷ l) a b h = cons_less (suc x) (suc y) k l (go (less_cons x y k l h))
  where
    go : (x < y) ⊎ ((x ≡ y) × T (less k l)) → (suc x < suc y) ⊎ ((suc x ≡ suc y) × T (less k l))
    go (inl g) = inl (omega arith)
    go (inr g) = inr (ap suc g.0, g.1)
less_raise (suc i) (x ∷ k) (y ∷ l) a b h = cons_less x y (raise i k) (raise i l)
    (go (less_cons x y k l h) (less_raise i k l (omega arith) (omega arith)))
  where
    go : (x < y) ⊎ ((x ≡ y) × T (less k l)) → (T (less k l) → T (less (raise i k) (raise i l)))
        → (x < y) ⊎ ((x ≡ y) × T (less (raise i k) (raise i l)))
    go (inl g) f = inl g
    go (inr g) f = inr (g.0, f g.1)

-- ---- values
pub monomial_constant : (k : List ℕ) (x : Point) → degree k ≡ 0 → monomial ℚR k x ≡ 1#
unfolding degree monomial
monomial_constant [] x h = refl
monomial_constant (e ∷ k) [] h = refl
monomial_constant (e ∷ k) (y ∷ x) h =
    ap₂ ◌*ℚ◌ (ap (pow ℚR y) (let g : e ≡ 0 = omega arith in g) ∙ pow_zero) (monomial_constant k x (omega arith))
    ∙ *-one 1#
  where
    pow_zero : pow ℚR y 0 ≡ 1#
    pow_zero = unfold pow in refl

monomial_one : (i n : ℕ) (x : Point) → i < n → i < length x → monomial ℚR (replace i 1 (zeros n)) x ≡ get_or x i 0#
unfolding replace zeros monomial pow
monomial_one i zero x h l = absurd (omega arith)
monomial_one i (suc n) [] h l = absurd (omega arith)
monomial_one zero (suc n) (y ∷ x) h l = ap₂ ◌*ℚ◌ (*-one y) (monomial_constant (zeros n) x (degree_zeros n)) ∙ *-one y
monomial_one (suc i) (suc n) (y ∷ x) h l = one-* ℚR _ ∙ monomial_one i n x (omega arith) (omega arith)

-- the monomial of a variable is its coordinate
pub monomial_single : (n v : ℕ) (x : Point) → index_of v < n → index_of v < length x → monomial ℚR (single n v) x
    ≡ coordinate v x
unfolding single coordinate
monomial_single n v x h l = monomial_one (index_of v) n x h l
