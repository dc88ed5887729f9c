-- One exponent of a key: it does not depend on the number of variables, can be taken out of the key, and raised.
use Rattle.std.specs.Prelude.{◌≡◌, T, length, get_or}
use Rattle.std.proofs.Math.Path.{refl, ap, ap₂}
use Rattle.std.proofs.Common.{sym, ◌∙◌, lit<}
use mathlib.Core.List.{List, [], ◌∷◌}
use Prim.Native.Nat.{ℕ, zero, suc, ◌+◌, ◌-◌, ◌*◌, ◌/◌, ◌%◌, ◌^◌, ◌≤◌, ◌<◌}
use native.Mathlib.Omega.{arith}
use Rattle.polynomial.specs.Polynomial.{exponent, without, replace}
use Rattle.calculus.specs.Monomial.{index_of}
use Rattle.calculus_laws.specs.MonomialLaws.{index_suc}
use Rattle.calculus.specs.Key.{encode, decode, key_width, key, key_fits, monomial_of}
use Rattle.calculus_laws.specs.MonomialKeyLaws.{encode_raised, key_monomial, monomial_digits, monomial_length}
use Rattle.calculus_laws.specs.MonomialKeyLaws.{fits_below, decode_zero, exponent_zeros, by_fits}
use Rattle.model_keys.specs.Keys.{Slot, key_exponent, key_without, Raisable, key_raised}

-- ---- digits to any base
module _ (base : ℕ) where
  -- a digit does not depend on how many are read
  exponent_decode : (w n j z : ℕ) → j < n → n ≤ w → exponent j (decode base w n z) ≡ exponent j (decode base w w z)
  unfolding exponent decode
  exponent_decode w zero j z h l = absurd (omega arith)
  exponent_decode zero (suc n) j z h l = absurd (omega arith)
  exponent_decode (suc w) (suc n) zero z h l = refl
  exponent_decode (suc w) (suc n) (suc j) z h l = exponent_decode w n j (z % base ^ w) (omega arith) (omega arith)

  -- what an exponent contributes
  encode_without : (w j : ℕ) (k : List ℕ) → j < length k → length k ≤ w
      → encode base w (without j k) + exponent j k * base ^ (w - suc j) ≡ encode base w k
  unfolding encode exponent without
  encode_without w j [] h l = absurd (omega arith)
  encode_without zero j (e ∷ k) h l = absurd (omega arith)
  encode_without (suc w) zero (e ∷ k) h l = let i : suc w - 1 ≡ w = omega arith in rw i (omega arith)
  encode_without (suc w) (suc j) (e ∷ k) h l =
      let i : suc w - suc (suc j) ≡ w - suc j = omega arith in
      rw i (omega (arith, encode_without w j k (omega arith) (omega arith)))

-- ---- the key of a monomial in n variables
module _ (n i z : ℕ) (l : n ≤ key_width) (first : 1 ≤ i) (last : i ≤ n) (f : T (key_fits key_width n z)) where
  -- its exponents are those of the key
  pub monomial_exponent : exponent (index_of i) (monomial_of n z) ≡ key_exponent i z
  unfolding key_exponent
  monomial_exponent = ap (exponent (index_of i)) (monomial_digits n z f)
      ∙ exponent_decode 16 key_width n (index_of i) z (omega (arith, index_suc i first)) l

  -- and without one of them its key is the key without it
  pub monomial_without : key key_width (without (index_of i) (monomial_of n z)) ≡ key_without i z
  unfolding key_without
  monomial_without =
      let s : key_width - suc (index_of i) ≡ key_width - i = omega (arith, index_suc i first) in
      omega (
        arith,
        rw s at (encode_without 16 key_width (index_of i) (monomial_of n z)
            (omega (arith, index_suc i first, monomial_length n z l f)) (omega (arith, monomial_length n z l f))),
        key_monomial n z l (fits_below n z f),
        ap (λ e. e * 16 ^ (key_width - i)) monomial_exponent,
      )

  -- with one of them one higher its key is the key raised
  pub monomial_raised :
      key key_width (replace (index_of i) (suc (exponent (index_of i) (monomial_of n z))) (monomial_of n z))
      ≡ key_raised i z
  unfolding key_raised
  monomial_raised =
      let s : key_width - suc (index_of i) ≡ key_width - i = omega (arith, index_suc i first) in
      encode_raised 16 key_width (index_of i) (monomial_of n z)
      (omega (arith, index_suc i first, monomial_length n z l f)) (omega (arith, monomial_length n z l f))
      ∙ ap₂ (λ y j. y + 16 ^ j) (key_monomial n z l (fits_below n z f)) s

-- ---- as the places of a list: that of variable i + 1 is place i
exponent_place : (j : ℕ) (k : List ℕ) → exponent j k ≡ get_or k j 0
unfolding exponent
exponent_place j [] = refl
exponent_place zero (e ∷ k) = refl
exponent_place (suc j) (e ∷ k) = exponent_place j k

pub monomial_place : (n i z : ℕ) → n ≤ key_width → i < n → T (key_fits key_width n z)
    → key_exponent (i + 1) z ≡ get_or (monomial_of n z) i 0
monomial_place n i z l h f =
    let e : index_of (i + 1) ≡ i = omega (arith, index_suc (i + 1) (omega arith)) in
    sym (monomial_exponent n (i + 1) z l (omega arith) (omega arith) f)
    ∙ ap (λ j. exponent j (monomial_of n z)) e
    ∙ exponent_place i (monomial_of n z)

-- ---- the key 0
pub zero_raisable : (i : ℕ) → Slot i → Raisable i 0
zero_raisable i h = record { slot = h; room = omega (arith, zero_exponent) }
  where
    zero_exponent : key_exponent i 0 ≡ 0
    zero_exponent = unfold key_exponent in
        ap (exponent (index_of i)) (decode_zero 16 (lit< tt) key_width) ∙ exponent_zeros key_width (index_of i)

-- ---- powers of variable 1
pub power_word : (k : ℕ) → k * 268435456 ≡ key key_width (k ∷ [])
unfolding encode key_width
power_word k = omega arith

pub first_exponent : (z n : ℕ) → 1 ≤ n → exponent 0 (monomial_of n z) ≡ z / 268435456
unfolding exponent decode key_width
first_exponent z zero h = absurd (omega arith)
first_exponent z (suc n) h = by_fits (λ k. exponent 0 k ≡ z / 268435456) (suc n) z (λ f. refl) (λ f. refl)
