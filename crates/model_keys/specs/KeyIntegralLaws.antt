-- Which keys have even exponents only, and by what an integral divides: digit by digit, by the word, and by monomials.
use Rattle.std.specs.Prelude.{◌≡◌, refl, Bool, true, false, ◌&&◌, List, [], ◌∷◌, ◌++◌, ℕ, zero, suc, ◌+◌, ◌-◌, ◌*◌, ◌/◌, ◌%◌, ◌^◌, ◌≤◌, ◌<◌, T, eqb, length}
use Rattle.std.proofs.Common.{sym, ◌∙◌, ap, ap₂, subst, add-one, arith, ne_eqb, lit<, pow_pos, pow-add}
use Rattle.std.proofs.Math.Bool.{not-not}
use Rattle.std.proofs.Math.Nat as NatL
use Rattle.std.specs.Int.Bits.{bit_and, and_zero_r}
use Rattle.std.proofs.lemmas.Nat.{and_block, and_mask}
use Rattle.std.proofs.Math.Dec.{eqb-suc-zero}
use Rattle.polynomial.specs.Integral.{even, first, rest, all_even, divisor}
use Rattle.calculus.specs.Monomial.{zeros}
use Rattle.calculus.specs.Key.{decode, key_width, key_exponents, key_fits, monomial_of}
use Rattle.calculus_laws.specs.MonomialKeyLaws.{key_all, monomial_digits, monomial_length}
use Rattle.model_keys.specs.Keys.{key_even, key_divisor}
use Rattle.model_keys.specs.KeyShiftLaws.{digit_bits}

-- ---- digit by digit
-- even: no remainder by 2
even_mod : (n : ℕ) → even n ≡ eqb (n % 2) 0
unfolding even
even_mod zero = refl
even_mod (suc zero) = refl
even_mod (suc (suc n)) =
    let e : n % 2 ≡ suc (suc n) % 2 = omega arith in not-not (even n) ∙ even_mod n ∙ ap (λ i. eqb i 0) e

-- ---- as one test of the word: the lowest bits of all digits
-- the bit of the first digit, and those of the others
first_bit : (k z s : ℕ) → s < 2 ^ k → bit_and z (1 * 2 ^ k + s) ≡ z / 2 ^ k % 2 * 2 ^ k + bit_and (z % 2 ^ k) s
first_bit k z s h = ap (λ y. bit_and y (1 * 2 ^ k + s)) (sym (NatL.div-add-mod' z (2 ^ k)))
    ∙ and_block k (z / 2 ^ k) 1 (z % 2 ^ k) s (NatL.mod-lt z (pow_pos k)) h
    ∙ ap (λ d. d * 2 ^ k + bit_and (z % 2 ^ k) s) (and_mask (z / 2 ^ k) 1)

-- a 1 for each of w digits
unfoldable pub ones : (w : ℕ) → ℕ
ones zero = 0
ones (suc w) = 1 * 2 ^ (4 * w) + ones w

ones_lt : (w : ℕ) → ones w < 2 ^ (4 * w)
unfolding ones
ones_lt zero = omega arith
ones_lt (suc w) = subst (λ i. 1 * 2 ^ (4 * w) + ones w < 2 ^ i) (sym (NatL.mul-suc 4 w))
    (rw (pow-add 2 (4 * w) 4) (omega (arith, ones_lt w)))

-- together they are 0 only where each is
none_of_two : (a b p : ℕ) → 1 ≤ p → eqb (a * p + b) 0 ≡ eqb a 0 && eqb b 0
none_of_two zero b p h = ap (λ x. eqb x 0) (let e : zero * p + b ≡ b = omega arith in e)
none_of_two (suc a) b p h = rw (eqb-suc-zero a) (ne_eqb (suc a * p + b) 0
    (λ e. let l : 1 * p ≤ suc a * p = NatL.mul-le-mul_right p (omega arith) in omega (arith, h, e, l)))

and_as_elim : (a b : Bool) → (a && b) ≡ elim a as (λ x. Bool) [ true ↦ b | false ↦ false ]
and_as_elim true b = refl
and_as_elim false b = refl

digits_even : (w z : ℕ) → eqb (bit_and z (ones w)) 0 ≡ all_even w (decode 16 w w z)
unfolding ones all_even first rest decode
digits_even zero z = ap (λ x. eqb x 0) (and_zero_r z)
digits_even (suc w) z =
    ap (λ x. eqb x 0) (first_bit (4 * w) z (ones w) (ones_lt w))
    ∙ none_of_two (z / 2 ^ (4 * w) % 2) (bit_and (z % 2 ^ (4 * w)) (ones w)) (2 ^ (4 * w)) (pow_pos (4 * w))
    ∙ ap₂ ◌&&◌ (sym (even_mod (z / 2 ^ (4 * w)))) (digits_even w (z % 2 ^ (4 * w)))
    ∙ ap (λ p. even (z / p) && all_even w (decode 16 w w (z % p))) (sym (digit_bits w))
    ∙ and_as_elim (even (z / 16 ^ w)) (all_even w (decode 16 w w (z % 16 ^ w)))

pub word_even : (z : ℕ) → eqb (bit_and z 0x11111111) 0 ≡ key_even z
unfolding ones key_width
word_even z = digits_even 8 z

-- ---- by monomials
-- zeros are even and add no factor
all_even_zeros : (j : ℕ) → all_even j (zeros j) ≡ true
unfolding all_even first rest even zeros
all_even_zeros zero = refl
all_even_zeros (suc j) = all_even_zeros j

all_even_++ : (k : List ℕ) (j : ℕ) → all_even (length k + j) (k ++ zeros j) ≡ all_even (length k) k
unfolding all_even first rest
all_even_++ [] j = ap (λ i. all_even i (zeros j)) (NatL.zero-add j) ∙ all_even_zeros j
all_even_++ (e ∷ k) j = ap (λ i. all_even i (e ∷ (k ++ zeros j))) (NatL.suc-add (length k) j)
    ∙ ap (λ b. elim (even e) as (λ b. Bool) [ true ↦ b | false ↦ false ]) (all_even_++ k j)

divisor_zeros : (j : ℕ) → divisor j (zeros j) ≡ 1
unfolding divisor first rest zeros
divisor_zeros zero = refl
divisor_zeros (suc j) = let h : divisor j (zeros j) ≡ 1 = divisor_zeros j in omega arith

divisor-++ : (k : List ℕ) (j : ℕ) → divisor (length k + j) (k ++ zeros j) ≡ divisor (length k) k
unfolding divisor first rest
divisor-++ [] j = ap (λ i. divisor i (zeros j)) (NatL.zero-add j) ∙ divisor_zeros j
divisor-++ (e ∷ k) j = ap (λ i. divisor i (e ∷ (k ++ zeros j))) (NatL.suc-add (length k) j)
    ∙ ap (λ d. suc e * d) (divisor-++ k j)

-- the key of a monomial in n variables
module _ (n z : ℕ) (l : n ≤ key_width) (f : T (key_fits key_width n z)) where
  digits : key_exponents key_width key_width z ≡ monomial_of n z ++ zeros (key_width - n)
  digits = key_all n z l f ∙ ap (λ k. k ++ zeros (key_width - n)) (sym (monomial_digits n z f))

  places : key_width ≡ length (monomial_of n z) + (key_width - n)
  places = omega (arith, monomial_length n z l f)

  pub even_exponents : all_even (length (monomial_of n z)) (monomial_of n z) ≡ key_even z
  even_exponents = sym (ap₂ all_even places digits ∙ all_even_++ (monomial_of n z) (key_width - n))

  pub even_monomial : all_even n (monomial_of n z) ≡ key_even z
  even_monomial = ap (λ i. all_even i (monomial_of n z)) (sym (monomial_length n z l f)) ∙ even_exponents

  pub divisor_monomial : divisor n (monomial_of n z) ≡ key_divisor z
  divisor_monomial = ap (λ i. divisor i (monomial_of n z)) (sym (monomial_length n z l f))
      ∙ sym (ap₂ divisor places digits ∙ divisor-++ (monomial_of n z) (key_width - n))
