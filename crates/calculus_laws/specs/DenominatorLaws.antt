-- The common denominator of request 7 serves every even monomial of degree at most 15 in up to four variables.
use Rattle.std.specs.Prelude.{◌≡◌, refl, Bool, true, false, not, ◌&&◌, List, [], ◌∷◌, ℕ, zero, suc, ◌+◌, ◌-◌, ◌*◌, ◌/◌, ◌%◌, ◌≤◌, ◌<◌, T, eqb, leb}
use Rattle.std.proofs.Common.{sym, ◌∙◌, ap, subst, arith, eqb→eq, leb→le}
use Rattle.std.proofs.Math.Bool.{not-not}
use Rattle.std.proofs.Math.Nat as NatL
use Rattle.std.proofs.Math.Dec.{nleb→lt}
use Rattle.polynomial.specs.Integral.{even, first, rest, all_even, divisor}
use Rattle.calculus.specs.Monomial.{degree}
use Rattle.calculus.specs.Model.{most_degree}
use Rattle.calculus.specs.Operations.{common_denominator, exact_vars}
use Rattle.calculus_laws.specs.TestLaws.{and_left, and_right}

-- d times every product of (2 h + 1) over n numbers h of at most left in sum divides it; the first h is at most top
unfoldable pub divides_all : (n left top d : ℕ) → Bool
divides_all zero left top d = eqb (common_denominator % d) 0
divides_all (suc n) left zero d = divides_all n left left d
divides_all (suc n) left (suc h) d =
    divides_all n (left - suc h) (left - suc h) (d * (2 * suc h + 1)) && divides_all (suc n) left h d

-- THE FACT: over the 330 even monomials of degree at most 15 in four variables
pub serves_four : T (divides_all 4 7 7 1)
unfolding divides_all common_denominator
serves_four = tt

-- ---- from the table to each monomial
-- one value of the first h
chosen : (n left top d h : ℕ) → T (divides_all (suc n) left top d) → h ≤ top
    → T (divides_all n (left - h) (left - h) (d * (2 * h + 1)))
unfolding divides_all
chosen n left zero d h t l =
    let e : h ≡ 0 = omega arith in
    subst (λ h. T (divides_all n (left - h) (left - h) (d * (2 * h + 1)))) (sym e) (none t)
  where
    none : T (divides_all n left left d) → T (divides_all n (left - 0) (left - 0) (d * (2 * 0 + 1)))
    none t =
        let a : left ≡ left - 0 = omega arith in
        let b : d ≡ d * (2 * 0 + 1) = omega arith in
        subst (λ d. T (divides_all n (left - 0) (left - 0) d)) b (subst (λ k. T (divides_all n k k d)) a t)
chosen n left (suc top) d h t l =
    go (leb h top) (leb→le h top) (nleb→lt h top) (chosen n left top d h (and_right (first_of t) _ t))
  where
    first_of : T (divides_all (suc n) left (suc top) d) → Bool
    first_of t = divides_all n (left - suc top) (left - suc top) (d * (2 * suc top + 1))

    go : (b : Bool) → (T b → h ≤ top) → (T (not b) → top < h)
        → (h ≤ top → T (divides_all n (left - h) (left - h) (d * (2 * h + 1))))
        → T (divides_all n (left - h) (left - h) (d * (2 * h + 1)))
    go true f g k = k (f tt)
    go false f g k =
        let q = g tt in
        let e : suc top ≡ h = omega arith in
        subst (λ h. T (divides_all n (left - h) (left - h) (d * (2 * h + 1)))) e (and_left (first_of t) _ t)

half_even : (e : ℕ) → T (even e) → e ≡ 2 * (e / 2)
unfolding even
half_even zero t = refl
half_even (suc zero) t = absurd t
half_even (suc (suc e)) t = let h = half_even e (subst T (not-not (even e)) t) in omega arith

-- the first exponent is even, and so are the others
even_first : (n : ℕ) (es : List ℕ) → T (all_even (suc n) es) → T (even (first es))
unfolding all_even
even_first n es t = go (even (first es)) t
  where
    go : (b : Bool) → T (elim b as (λ b. Bool) [ true ↦ all_even n (rest es) | false ↦ false ]) → T b
    go true t = tt
    go false t = t

even_rest : (n : ℕ) (es : List ℕ) → T (all_even (suc n) es) → T (all_even n (rest es))
unfolding all_even
even_rest n es t = go (even (first es)) t
  where
    go : (b : Bool) → T (elim b as (λ b. Bool) [ true ↦ all_even n (rest es) | false ↦ false ])
        → T (all_even n (rest es))
    go true t = t
    go false t = absurd t

degree_parts : (es : List ℕ) → degree es ≡ first es + degree (rest es)
unfolding degree first rest
degree_parts [] = refl
degree_parts (e ∷ es) = refl

divides_each : (n left d : ℕ) (es : List ℕ) → T (divides_all n left left d) → T (all_even n es)
    → degree es ≤ 2 * left + 1 → common_denominator % (d * divisor n es) ≡ 0
unfolding divides_all divisor
divides_each zero left d es t v l =
    let e : d ≡ d * 1 = omega arith in
    ap (λ d. common_denominator % d) (sym e) ∙ eqb→eq (common_denominator % d) 0 t
divides_each (suc n) left d es t v l =
    let h = first es / 2 in
    let e = half_even (first es) (even_first n es v) in
    let p = degree_parts es in
    let s : suc (first es) ≡ 2 * h + 1 = omega arith in
    ap (λ k. common_denominator % k)
    (ap (λ k. d * (k * divisor n (rest es))) s ∙ sym (NatL.mul_assoc d (2 * h + 1) (divisor n (rest es))))
    ∙ divides_each n (left - h) (d * (2 * h + 1)) (rest es) (chosen n left left d h t (omega arith)) (even_rest n es v)
    (omega arith)

-- ---- any number of variables up to four
-- with the first exponent 0, one variable fewer
fewer : (n : ℕ) → T (divides_all (suc n) 7 7 1) → T (divides_all n 7 7 1)
fewer n t = chosen n 7 7 1 0 t (omega arith)

serves : (n : ℕ) → n ≤ 4 → T (divides_all n 7 7 1)
serves zero h = fewer 0 (fewer 1 (fewer 2 (fewer 3 serves_four)))
serves (suc zero) h = fewer 1 (fewer 2 (fewer 3 serves_four))
serves (suc (suc zero)) h = fewer 2 (fewer 3 serves_four)
serves (suc (suc (suc zero))) h = fewer 3 serves_four
serves (suc (suc (suc (suc zero)))) h = serves_four
serves (suc (suc (suc (suc (suc n))))) h = absurd (omega arith)

-- THEOREM: it is a multiple of the product of (exponent + 1) over the variables
pub denominator_serves : (n : ℕ) (k : List ℕ) → n ≤ exact_vars → degree k ≤ most_degree → T (all_even n k)
    → divisor n k * (common_denominator / divisor n k) ≡ common_denominator
unfolding most_degree
denominator_serves n k h l v =
    let e : common_denominator % (1 * divisor n k) ≡ 0 = divides_each n 7 1 k (serves n h) v l in
    let o : 1 * divisor n k ≡ divisor n k = omega arith in
    omega (arith, NatL.div-add-mod common_denominator (divisor n k), ap (λ d. common_denominator % d) (sym o) ∙ e)
