-- The monomial that a key stands for: its degree, its key, and the order of two.
use Rattle.std.specs.Prelude.{◌≡◌, Bool, true, false, not, ◌&&◌, T, ltb, leb, eqb, length}
use Rattle.std.proofs.Math.Path.{refl, sym, ap, ap₂}
use Rattle.std.proofs.Common.{◌∙◌, subst, arith, ltb→lt, lt→ltb, lit<, eqb→eq, leb→le, T_not}
use mathlib.Core.List.{List, [], ◌∷◌, ◌++◌}
use Prim.Native.Nat.{ℕ, zero, suc, ◌+◌, ◌-◌, ◌*◌, ◌/◌, ◌%◌, ◌^◌, ◌≤◌, ◌<◌, ◌∣◌}
use Rattle.std.proofs.Math.Nat as NatL
use Rattle.std.proofs.Math.Dec.{eqb_refl}
use Rattle.polynomial.specs.Polynomial.{exponent, replace}
use Rattle.calculus.specs.Monomial.{degree, zeros, index_of, single, same, less}
use Rattle.calculus_laws.specs.MonomialLaws.{length_zeros, length_single, degree_zeros, degree_single}
use Rattle.calculus.specs.Operations.{is_constant}
use Rattle.calculus.specs.Key.{encode, decode, fits_digits, key_width, key_limit, key, key_exponents, key_fits}
use Rattle.calculus.specs.Key.{short_width, short_key, monomial_of, key_degree, Below}
use Rattle.calculus_laws.specs.KeyLaws.{below_degree, encode_less, encode_same, encode_fits}
use Rattle.calculus_laws.specs.KeyLaws.{decode_encode, encode_decode, decode_length, decode_below}
use Rattle.calculus.specs.Model.{fits}
use Rattle.calculus_laws.specs.TestLaws.{and_left, and_right, both, same_tests}

-- ---- digits to any base
module _ (base : ℕ) (positive : 0 < base) where
  power_divides : (i j : ℕ) → base ^ i ∣ base ^ (j + i)
  power_divides i zero = rw NatL.zero-add (NatL.dvd_refl (base ^ i))
  power_divides i (suc j) =
      rw (NatL.suc-add, NatL.pow-suc) (NatL.dvd-mul_right_of_dvd (base ^ i) (power_divides i j) base)

  -- powers of fewer digits divide those of more
  less_power_divides : (w n : ℕ) → n ≤ w → base ^ (w - n) ∣ base ^ w
  less_power_divides w n l = subst (λ i. base ^ (w - n) ∣ base ^ i) (omega arith) (power_divides (w - n) n)

  -- the digits of 0
  pub decode_zero : (w : ℕ) → decode base w w 0 ≡ zeros w
  unfolding decode zeros
  decode_zero zero = refl
  decode_zero (suc w) =
      ap₂ ◌∷◌ (NatL.zero-div (base ^ w)) (ap (decode base w w) (NatL.zero-mod (base ^ w)) ∙ decode_zero w)

  -- all digits, where those after the n-th are 0
  decode_all : (w n z : ℕ) → n ≤ w → z < base ^ w → z % base ^ (w - n) ≡ 0
      → decode base w w z ≡ decode base w n z ++ zeros (w - n)
  unfolding decode
  decode_all w zero z l b h =
      let e : z ≡ 0 = sym (NatL.mod-eq_of_lt b) ∙ ap (λ i. z % base ^ i) (omega arith) ∙ h in
      ap (decode base w w) e ∙ decode_zero w ∙ ap zeros (omega arith)
  decode_all zero (suc n) z l b h = absurd (omega arith)
  decode_all (suc w) (suc n) z l b h = ap (λ k. z / base ^ w ∷ k)
      (decode_all w n (z % base ^ w) (omega arith) (NatL.mod-lt z (NatL.one-le-pow w base positive))
      (NatL.mod-mod_of_dvd (base ^ (w - n)) z (less_power_divides w n (omega arith))
      ∙ ap (λ i. z % base ^ i) (omega arith) ∙ h)
      ∙ ap (λ i. decode base w n (z % base ^ w) ++ zeros i) (omega arith))

-- ---- keys, in n variables
positive : 0 < 16
positive = lit< tt

-- the two cases of the monomial
pub by_fits : (P : List ℕ → Type 0) (n z : ℕ)
    → (T (key_fits key_width n z) → P (key_exponents key_width n z))
    → (T (not (key_fits key_width n z)) → P (key_exponents key_width key_width z)) → P (monomial_of n z)
unfolding monomial_of
by_fits P n z = go (key_fits key_width n z)
  where
    go : (b : Bool) → (T b → P (key_exponents key_width n z)) → (T (not b) → P (key_exponents key_width key_width z))
        → P (elim b as (λ b. List ℕ)
        [ true ↦ key_exponents key_width n z | false ↦ key_exponents key_width key_width z ])
    go true f g = f tt
    go false f g = g tt

-- a number of 32 bits is a key, and a key has 32 bits
pub word_key : (z : ℕ) → z < 2 ^ 32 → z < key_limit
unfolding key_width key_limit
word_key z h = h

pub key_word : (z : ℕ) → z < key_limit → z < 2 ^ 32
unfolding key_width key_limit
key_word z h = h

-- a key fits as many variables as it has digits
fits_all : (z : ℕ) → z < key_limit → T (key_fits key_width key_width z)
unfolding key_limit key_width fits_digits
fits_all z h = both (ltb z key_limit) _ (lt→ltb z key_limit h) (rw (NatL.mod-one z) tt)

-- what fits is a key
pub fits_below : (n z : ℕ) → T (key_fits key_width n z) → z < key_limit
unfolding key_limit fits_digits
fits_below n z h = ltb→lt z key_limit (and_left (ltb z key_limit) _ h)

-- the key of so few variables is that of a short one
pub fits_short : (n z : ℕ) → n ≤ short_width → T (key_fits key_width n z) → z % short_key ≡ 0
unfolding fits_digits key_width
fits_short n z l f =
    sym (NatL.mod-mod_of_dvd short_key z
    (subst (λ i. 16 ^ 4 ∣ 16 ^ i) (omega arith) (power_divides 16 positive 4 (short_width - n))))
    ∙ ap (λ y. y % short_key) (eqb→eq (z % 16 ^ (8 - n)) 0 (and_right (ltb z (16 ^ 8)) _ f))

-- the key of the monomial of a key
pub key_monomial : (n z : ℕ) → n ≤ key_width → z < key_limit → key key_width (monomial_of n z) ≡ z
key_monomial n z l h = by_fits (λ k. key key_width k ≡ z) n z
    (λ f. encode_decode 16 positive key_width n z l f)
    (λ f. encode_decode 16 positive key_width key_width z (omega arith) (fits_all z h))

-- the monomial of the key of a monomial in n variables
pub monomial_key : (k : List ℕ) → length k ≤ key_width → Below 16 k → monomial_of (length k) (key key_width k) ≡ k
monomial_key k l b = by_fits (λ j. j ≡ k) (length k) (key key_width k)
    (λ f. decode_encode 16 positive key_width k b l)
    (λ f. absurd (T_not (key_fits key_width (length k) (key key_width k)) f (encode_fits 16 positive key_width k b l)))

-- ---- the rules on monomials, by their keys
-- all exponents of a key that fits: those of the n variables, and zeros
pub key_all : (n z : ℕ) → n ≤ key_width → T (key_fits key_width n z)
    → key_exponents key_width key_width z ≡ key_exponents key_width n z ++ zeros (key_width - n)
unfolding fits_digits
key_all n z l f = decode_all 16 positive key_width n z l
    (ltb→lt z (16 ^ key_width) (and_left (ltb z (16 ^ key_width)) _ f))
    (eqb→eq (z % 16 ^ (key_width - n)) 0 (and_right (ltb z (16 ^ key_width)) _ f))

degree-++ : (k l : List ℕ) → degree (k ++ l) ≡ degree k + degree l
unfolding degree
degree-++ [] l = omega arith
degree-++ (e ∷ k) l = omega (arith, degree-++ k l)

-- the degree of a monomial whose key fits is that of the key
degree_monomial : (n z : ℕ) → n ≤ key_width → T (key_fits key_width n z)
    → degree (key_exponents key_width n z) ≡ key_degree z
unfolding key_degree
degree_monomial n z l f = omega (
  arith,
  ap degree (key_all n z l f),
  degree-++ (key_exponents key_width n z) (zeros (key_width - n)),
  degree_zeros (key_width - n),
)

length_monomial : (n z : ℕ) → n ≤ key_width → length (key_exponents key_width n z) ≡ n
length_monomial n z l = decode_length 16 positive key_width n z l

-- the monomial is that of the n digits,
pub monomial_digits : (n z : ℕ) → T (key_fits key_width n z) → monomial_of n z ≡ key_exponents key_width n z
monomial_digits n z t = by_fits (λ k. k ≡ key_exponents key_width n z) n z (λ f. refl)
    (λ f. absurd (T_not (key_fits key_width n z) f t))

-- n exponents below 16
pub monomial_length : (n z : ℕ) → n ≤ key_width → T (key_fits key_width n z) → length (monomial_of n z) ≡ n
monomial_length n z l t = ap length (monomial_digits n z t) ∙ length_monomial n z l

-- of the key's degree
pub monomial_degree : (n z : ℕ) → n ≤ key_width → T (key_fits key_width n z) → degree (monomial_of n z) ≡ key_degree z
monomial_degree n z l t = ap degree (monomial_digits n z t) ∙ degree_monomial n z l t

pub monomial_below : (n z : ℕ) → z < key_limit → Below 16 (monomial_of n z)
unfolding key_limit
monomial_below n z h = by_fits (Below 16) n z
    (λ f. decode_below 16 positive key_width n z h) (λ f. decode_below 16 positive key_width key_width z h)

-- at least one of them
pub above_empty : (n z : ℕ) → 1 ≤ n → less [] (monomial_of n z) ≡ true
unfolding key_width decode
above_empty zero z h = absurd (omega arith)
above_empty (suc n) z h = by_fits (λ k. less [] k ≡ true) (suc n) z (λ f. refl) (λ f. refl)

-- one with all digits fits 4 variables only
all_digits : (n d z : ℕ) → T (fits n d (key_exponents key_width key_width z))
    → (key_width ≡ n) × (degree (key_exponents key_width key_width z) ≤ d)
unfolding fits
all_digits n d z t = (
  sym (length_monomial key_width z (omega arith)) ∙ eqb→eq _ n (and_left (eqb (length digits) n) _ t),
  leb→le _ d (and_right (eqb (length digits) n) _ t),
)
  where
    digits : List ℕ
    digits = key_exponents key_width key_width z

pub fits_monomial : (n d z : ℕ) → n ≤ key_width → z < key_limit
    → fits n d (monomial_of n z) ≡ (key_fits key_width n z && leb (key_degree z) d)
unfolding fits
fits_monomial n d z l h = same_tests (fits n d (monomial_of n z)) _
    (by_fits (λ k. T (fits n d k) → T (key_fits key_width n z && leb (key_degree z) d)) n z
    (λ f t. both (key_fits key_width n z) _ f
    (subst (λ i. T (leb i d)) (degree_monomial n z l f) (and_right (eqb (length (key_exponents key_width n z)) n) _ t)))
    (λ f t. absurd (T_not (key_fits key_width n z) f
    (subst (λ i. T (key_fits key_width i z)) (all_digits n d z t).0 (fits_all z h)))))
    (λ t. by_fits (λ k. T (fits n d k)) n z
    (λ f. both (eqb (length (key_exponents key_width n z)) n) _
    (subst (λ i. T (eqb i n)) (sym (length_monomial n z l)) (eqb_refl n))
    (subst (λ i. T (leb i d)) (sym (degree_monomial n z l f)) (and_right (key_fits key_width n z) _ t)))
    (λ f. absurd (T_not (key_fits key_width n z) f (and_left (key_fits key_width n z) _ t))))

-- the first digit is at most the sum of all
first_digit : (w n z : ℕ) → z / 16 ^ w ≤ degree (decode 16 (suc w) (suc n) z)
unfolding decode degree
first_digit w n z = omega arith

-- and where one of degree at most 15 fits, so does its key
pub fits_key : (n d z : ℕ) → n ≤ key_width → d < 16 → T (fits n d (monomial_of n z)) → T (key_fits key_width n z)
fits_key n d z l s = by_fits (λ k. T (fits n d k) → T (key_fits key_width n z)) n z (λ f t. f)
    (λ f t. subst (λ i. T (key_fits key_width i z)) (all_digits n d z t).0
    (fits_all z (small (all_digits n d z t).1)))
  where
    small : degree (key_exponents key_width key_width z) ≤ d → z < key_limit
    small h = unfold key_limit key_width in
        let q : z / 16 ^ 7 < 16 = omega (arith, s, h, first_digit 7 7 z) in (NatL.div-lt_iff_lt-mul (lit< tt)).0 q

module _ (n y z : ℕ) (l : n ≤ key_width) (f : T (key_fits key_width n y)) (g : T (key_fits key_width n z)) where
  pub less_monomials : less (monomial_of n y) (monomial_of n z) ≡ ltb y z
  less_monomials = sym (encode_less 16 positive key_width (monomial_of n y) (monomial_of n z)
      (monomial_below n y (fits_below n y f)) (monomial_below n z (fits_below n z g))
      (monomial_length n y l f ∙ sym (monomial_length n z l g)) (omega (arith, monomial_length n y l f)))
      ∙ ap₂ ltb (key_monomial n y l (fits_below n y f)) (key_monomial n z l (fits_below n z g))

  pub same_monomials : same (monomial_of n y) (monomial_of n z) ≡ eqb y z
  same_monomials = sym (encode_same 16 positive key_width (monomial_of n y) (monomial_of n z)
      (monomial_below n y (fits_below n y f)) (monomial_below n z (fits_below n z g))
      (monomial_length n y l f ∙ sym (monomial_length n z l g)) (omega (arith, monomial_length n y l f)))
      ∙ ap₂ eqb (key_monomial n y l (fits_below n y f)) (key_monomial n z l (fits_below n z g))

-- ---- the monomials of a constant and of a variable
pub encode_constant : (base w : ℕ) (k : List ℕ) → degree k ≡ 0 → encode base w k ≡ 0
unfolding encode degree
encode_constant base w [] h = refl
encode_constant base zero (e ∷ k) h = refl
encode_constant base (suc w) (e ∷ k) h =
    let p : e * base ^ w ≡ 0 * base ^ w = ap (λ i. i * base ^ w) (omega arith) in
    let r = encode_constant base w k (omega arith) in omega arith

-- one more of an exponent counts as much wherever the others stand
pub encode_raised : (base w i : ℕ) (k : List ℕ) → i < length k → length k ≤ w
    → encode base w (replace i (suc (exponent i k)) k) ≡ encode base w k + base ^ (w - suc i)
unfolding encode replace exponent
encode_raised base w i [] h l = absurd (omega arith)
encode_raised base zero i (e ∷ k) h l = absurd (omega arith)
encode_raised base (suc w) zero (e ∷ k) h l =
    let p : base ^ (suc w - suc 0) ≡ base ^ w = ap (λ j. base ^ j) (omega arith) in omega arith
encode_raised base (suc w) (suc i) (e ∷ k) h l =
    let r = encode_raised base w i k (omega arith) (omega arith) in
    let p : base ^ (suc w - suc (suc i)) ≡ base ^ (w - suc i) = ap (λ j. base ^ j) (omega arith) in omega arith

pub exponent_zeros : (n i : ℕ) → exponent i (zeros n) ≡ 0
unfolding exponent zeros
exponent_zeros zero i = refl
exponent_zeros (suc n) zero = refl
exponent_zeros (suc n) (suc i) = exponent_zeros n i

encode_single : (base w n i : ℕ) → i < n → n ≤ w → encode base w (replace i 1 (zeros n)) ≡ base ^ (w - suc i)
encode_single base w n i h l = ap (λ e. encode base w (replace i (suc e) (zeros n))) (sym (exponent_zeros n i))
    ∙ encode_raised base w i (zeros n) (omega (arith, length_zeros n)) (omega (arith, length_zeros n))
    ∙ ap (λ z. z + base ^ (w - suc i)) (encode_constant base w (zeros n) (degree_zeros n))
    ∙ NatL.zero-add (base ^ (w - suc i))

pub monomial_zero : (n : ℕ) → n ≤ key_width → monomial_of n 0 ≡ zeros n
monomial_zero n l =
    ap₂ monomial_of (sym (length_zeros n)) (sym (encode_constant 16 key_width (zeros n) (degree_zeros n)))
    ∙ monomial_key (zeros n) (omega (arith, length_zeros n)) (below_degree 16 (zeros n) (omega (arith, degree_zeros n)))

pub monomial_variable : (n i : ℕ) → 1 ≤ i → i ≤ n → n ≤ key_width → monomial_of n (16 ^ (key_width - i)) ≡ single n i
unfolding single index_of
monomial_variable n zero s h l = absurd (omega arith)
monomial_variable n (suc i) s h l =
    ap₂ monomial_of (sym (length_single n (suc i))) (sym (encode_single 16 key_width n i (omega arith) l))
    ∙ monomial_key (single n (suc i)) (omega (arith, length_single n (suc i)))
    (below_degree 16 (single n (suc i)) (omega (arith, degree_single n (suc i))))

-- the constant one has the key 0
pub constant_monomial : (n z : ℕ) → n ≤ key_width → z < key_limit → is_constant (monomial_of n z) ≡ eqb z 0
unfolding is_constant
constant_monomial n z l h = same_tests (eqb (degree (monomial_of n z)) 0) (eqb z 0)
    (λ t. subst (λ y. T (eqb y 0))
    (sym (encode_constant 16 key_width (monomial_of n z) (eqb→eq _ 0 t)) ∙ key_monomial n z l h) tt)
    (λ t. subst (λ y. T (eqb (degree (monomial_of n y)) 0)) (sym (eqb→eq z 0 t))
    (rw (monomial_zero n l, degree_zeros n) tt))
