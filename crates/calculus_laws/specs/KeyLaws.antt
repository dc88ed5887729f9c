-- Encodings to any base and of any width: what they are for exponents below the base.
use Rattle.std.specs.Prelude.{◌≡◌, Bool, true, false, not, ◌⊎◌, ltb, eqb}
use Rattle.std.proofs.Math.Path.{refl, ap, ap₂}
use Rattle.std.proofs.Common.{sym, ◌∙◌, inl, inr, ltb→lt, lt→ltb}
use mathlib.Core.List.{List, [], ◌∷◌}
use Prim.Native.Nat.{ℕ, zero, suc, ◌+◌, ◌-◌, ◌*◌, ◌/◌, ◌%◌, ◌^◌, ◌<◌, ◌≤◌}
use native.Mathlib.Omega.{arith}
use Rattle.std.proofs.Math.Nat as NatL
use Rattle.std.proofs.Math.Dec.{T, eqb→eq, eqb_refl}
use Rattle.std.proofs.Math.ListN.{length}
use Rattle.algebra.specs.Lexicographic.{same, less}
use Rattle.algebra.specs.LexicographicLaws.{same_ok, same_refl, less_cons, less_total}
use Rattle.polynomial.specs.Polynomial.{add_exponents}
use Rattle.calculus.specs.Monomial.{degree}
use Rattle.calculus.specs.Key.{encode, decode, fits_digits, Below}
use Rattle.calculus_laws.specs.TestLaws.{and_left, and_right, both, same_tests}

-- so it is where the total degree is
pub below_degree : (base : ℕ) (k : List ℕ) → degree k < base → Below base k
unfolding degree
below_degree base [] h = tt
below_degree base (e ∷ k) h = (omega arith, below_degree base k (omega arith))

-- ---- the encoding of a sum is the sum of the encodings: nothing is carried between digits, also past the base
pub encode_plus : (base w : ℕ) (k l : List ℕ) → encode base w (add_exponents k l) ≡ encode base w k + encode base w l
unfolding encode add_exponents
encode_plus base w [] l = omega arith
encode_plus base w (x ∷ k) [] = omega arith
encode_plus base zero (x ∷ k) (y ∷ l) = refl
encode_plus base (suc w) (x ∷ k) (y ∷ l) = let h = encode_plus base w k l in omega arith

-- ---- the degree, where it is below the base less 1, is what a number leaves modulo that
-- (b + 1)^w is 1 + b × rest
rest : ℕ → ℕ → ℕ
rest b zero = 0
rest b (suc w) = rest b w * suc b + 1

power_rest : (b w : ℕ) → suc b ^ w ≡ 1 + b * rest b w
unfolding rest
power_rest b zero = rw NatL.pow-zero (omega arith)
power_rest b (suc w) = rw NatL.pow-suc (let h = power_rest b w in
    let g : suc b ^ w * suc b ≡ (1 + b * rest b w) * suc b = ap (λ z. z * suc b) h in omega arith)

-- a number is the sum of its digits and b × excess
excess : ℕ → ℕ → List ℕ → ℕ
excess b w [] = 0
excess b zero (e ∷ k) = 0
excess b (suc w) (e ∷ k) = e * rest b w + excess b w k

encode_excess : (b w : ℕ) (k : List ℕ) → length k ≤ w → encode (suc b) w k ≡ degree k + b * excess b w k
unfolding encode degree excess
encode_excess b w [] l = omega arith
encode_excess b zero (e ∷ k) l = absurd (omega arith)
encode_excess b (suc w) (e ∷ k) l = let h = encode_excess b w k (omega arith) in
    let g : e * suc b ^ w ≡ e * (1 + b * rest b w) = ap (λ z. e * z) (power_rest b w) in omega arith

pub degree_encode : (b w : ℕ) (k : List ℕ) → length k ≤ w → degree k < b → encode (suc b) w k % b ≡ degree k
degree_encode b w k l d = ap (λ z. z % b) (encode_excess b w k l)
    ∙ NatL.add-mul-mod_self_left (degree k) b (excess b w k) ∙ NatL.mod-eq_of_lt d

module _ (base : ℕ) (positive : 0 < base) where
  power_pos : (w : ℕ) → 0 < base ^ w
  power_pos w = NatL.one-le-pow w base positive

  -- ---- order
  -- a number of w digits
  pub encode_lt : (w : ℕ) (k : List ℕ) → Below base k → length k ≤ w → encode base w k < base ^ w
  unfolding encode
  encode_lt w [] b l = power_pos w
  encode_lt zero (e ∷ k) b l = absurd (omega arith)
  encode_lt (suc w) (e ∷ k) b l = rw NatL.pow-succ' (let h = encode_lt w k b.1 (omega arith) in
      let g : suc e * base ^ w ≤ base * base ^ w = NatL.mul-le-mul_right (base ^ w) b.0 in omega arith)

  -- numbers rise with the monomials,
  pub encode_mono : (w : ℕ) (k l : List ℕ) → Below base k → Below base l → length k ≡ length l → length k ≤ w
      → T (less k l) → encode base w k < encode base w l
  unfolding encode
  encode_mono w [] [] b c q m h = absurd h
  encode_mono w [] (y ∷ l) b c q m h = absurd (omega arith)
  encode_mono w (x ∷ k) [] b c q m h = absurd h
  encode_mono zero (x ∷ k) (y ∷ l) b c q m h = absurd (omega arith)
  encode_mono (suc w) (x ∷ k) (y ∷ l) b c q m h =
      go (less_cons x y k l h) (encode_mono w k l b.1 c.1 (omega arith) (omega arith))
    where
      go : (x < y) ⊎ ((x ≡ y) × T (less k l)) → (T (less k l) → encode base w k < encode base w l)
          → x * base ^ w + encode base w k < y * base ^ w + encode base w l
      go (inl g) f = let r = encode_lt w k b.1 (omega arith) in
          let m : suc x * base ^ w ≤ y * base ^ w = NatL.mul-le-mul_right (base ^ w) g in omega arith
      go (inr g) f = let r = f g.1 in
          let m : x * base ^ w ≡ y * base ^ w = ap (λ z. z * base ^ w) g.0 in omega arith

  module _ (w : ℕ) (k l : List ℕ) (b : Below base k) (c : Below base l) (q : length k ≡ length l)
      (m : length k ≤ w) where
    -- tell them apart,
    pub encode_injective : encode base w k ≡ encode base w l → k ≡ l
    encode_injective h = go (same k l) (less k l) (same_ok k l) (encode_mono w k l b c q m)
        (λ s t. encode_mono w l k c b (sym q) (omega arith) (less_total k l s t))
      where
        go : (s t : Bool) → (T s → k ≡ l) → (T t → encode base w k < encode base w l)
            → (T (not s) → T (not t) → encode base w l < encode base w k) → k ≡ l
        go true t f g i = f tt
        go false true f g i = absurd (let r = g tt in omega arith)
        go false false f g i = absurd (let r = i tt tt in omega arith)

    less_of_encode : encode base w k < encode base w l → T (less k l)
    less_of_encode h = go (same k l) (less k l) (same_ok k l) (λ t. t)
        (λ s t. encode_mono w l k c b (sym q) (omega arith) (less_total k l s t))
      where
        go : (s t : Bool) → (T s → k ≡ l) → (T t → T (less k l))
            → (T (not s) → T (not t) → encode base w l < encode base w k) → T (less k l)
        go true t f g i = absurd (let r : encode base w k ≡ encode base w l = ap (encode base w) (f tt) in omega arith)
        go false true f g i = g tt
        go false false f g i = absurd (let r = i tt tt in omega arith)

    -- and are compared as they are
    pub encode_less : ltb (encode base w k) (encode base w l) ≡ less k l
    encode_less = same_tests _ _ (λ t. less_of_encode (ltb→lt _ _ t)) (λ t. lt→ltb _ _ (encode_mono w k l b c q m t))

    pub encode_same : eqb (encode base w k) (encode base w l) ≡ same k l
    encode_same = same_tests _ _ (λ t. rw (encode_injective (eqb→eq _ _ t)) (same_refl l))
        (λ t. rw (same_ok k l t) (eqb_refl (encode base w l)))

  -- ---- there and back
  pub decode_encode : (w : ℕ) (k : List ℕ) → Below base k → length k ≤ w
      → decode base w (length k) (encode base w k) ≡ k
  unfolding decode encode
  decode_encode w [] b l = refl
  decode_encode zero (e ∷ k) b l = absurd (omega arith)
  decode_encode (suc w) (e ∷ k) b l =
      ap₂ ◌∷◌ quotient (ap (decode base w (length k)) remainder ∙ decode_encode w k b.1 (omega arith))
    where
      z : ℕ
      z = e * base ^ w + encode base w k

      quotient : z / base ^ w ≡ e
      quotient = NatL.div-eq_of_lt-le (base ^ w) (omega arith)
          (let r = encode_lt w k b.1 (omega arith) in omega arith)

      remainder : z % base ^ w ≡ encode base w k
      remainder = let g = NatL.div-add-mod' z (base ^ w) in
          let q : z / base ^ w * base ^ w ≡ e * base ^ w = ap (λ a. a * base ^ w) quotient in omega arith

  -- base ^ w is a multiple of base ^ (w - n)
  power_split : (w n : ℕ) → n ≤ w → base ^ w ≡ base ^ (w - n) * base ^ n
  power_split w zero l = rw (NatL.pow-zero, NatL.sub-zero) (omega arith)
  power_split zero (suc n) l = absurd (omega arith)
  power_split (suc w) (suc n) l = NatL.pow-suc base w ∙ ap (λ z. z * base) (power_split w n (omega arith))
      ∙ NatL.mul_assoc _ _ _ ∙ ap (λ z. base ^ (w - n) * z) (sym (NatL.pow-suc base n))
      ∙ ap (λ i. base ^ i * base ^ suc n) (omega arith)

  mod_power : (w n z : ℕ) → n ≤ w → z % base ^ w % base ^ (w - n) ≡ z % base ^ (w - n)
  mod_power w n z l = NatL.mod-mod_of_dvd (base ^ (w - n)) z (rw (power_split w n l) (NatL.dvd-mul_right _ _))

  encode_decode_rest : (w n z : ℕ) → n ≤ w → z < base ^ w → encode base w (decode base w n z) + z % base ^ (w - n) ≡ z
  unfolding decode encode
  encode_decode_rest w zero z l h = ap (λ i. 0 + z % base ^ i) (omega arith) ∙ ap (λ a. 0 + a) (NatL.mod-eq_of_lt h)
      ∙ omega arith
  encode_decode_rest zero (suc n) z l h = absurd (omega arith)
  encode_decode_rest (suc w) (suc n) z l h =
      let r = encode_decode_rest w n (z % base ^ w) (omega arith) (NatL.mod-lt z (power_pos w)) in
      let m = mod_power w n z (omega arith) in
      let g = NatL.div-add-mod' z (base ^ w) in
      let s : z % base ^ (suc w - suc n) ≡ z % base ^ (w - n) = ap (λ i. z % base ^ i) (omega arith) in omega arith

  -- what an encoding gives fits,
  encode_multiple : (w : ℕ) (k : List ℕ) → length k ≤ w → encode base w k % base ^ (w - length k) ≡ 0
  unfolding encode
  encode_multiple w [] l = NatL.zero-mod (base ^ (w - 0))
  encode_multiple zero (e ∷ k) l = absurd (omega arith)
  encode_multiple (suc w) (e ∷ k) l = ap (λ i. (e * base ^ w + encode base w k) % base ^ i) (omega arith)
      ∙ ap (λ z. (z + encode base w k) % d) first
      ∙ NatL.mul-add-mod_self_right (e * base ^ length k) d (encode base w k)
      ∙ encode_multiple w k (omega arith)
    where
      d : ℕ
      d = base ^ (w - length k)

      first : e * base ^ w ≡ e * base ^ length k * d
      first = let h = power_split w (length k) (omega arith) in
          let g : e * base ^ w ≡ e * (d * base ^ length k) = ap (λ z. e * z) h in omega arith

  pub encode_fits : (w : ℕ) (k : List ℕ) → Below base k → length k ≤ w
      → T (fits_digits base w (length k) (encode base w k))
  unfolding fits_digits
  encode_fits w k b l = both (ltb (encode base w k) (base ^ w)) _ (lt→ltb _ _ (encode_lt w k b l))
      (rw (encode_multiple w k l) tt)

  -- and what fits is what its digits encode
  pub encode_decode : (w n z : ℕ) → n ≤ w → T (fits_digits base w n z) → encode base w (decode base w n z) ≡ z
  unfolding fits_digits
  encode_decode w n z l h =
      let r = encode_decode_rest w n z l (ltb→lt z (base ^ w) (and_left (ltb z (base ^ w)) _ h)) in
      let e = eqb→eq (z % base ^ (w - n)) 0 (and_right (ltb z (base ^ w)) _ h) in omega arith

  -- a decoded list has n digits below the base
  pub decode_length : (w n z : ℕ) → n ≤ w → length (decode base w n z) ≡ n
  unfolding decode
  decode_length w zero z l = refl
  decode_length zero (suc n) z l = absurd (omega arith)
  decode_length (suc w) (suc n) z l = ap suc (decode_length w n _ (omega arith))

  pub decode_below : (w n z : ℕ) → z < base ^ w → Below base (decode base w n z)
  unfolding decode
  decode_below w zero z h = tt
  decode_below zero (suc n) z h = tt
  decode_below (suc w) (suc n) z h = (first, decode_below w n _ (NatL.mod-lt z (power_pos w)))
    where
      first : z / base ^ w < base
      first = (NatL.div-lt_iff_lt-mul (power_pos w)).1 (rw (← NatL.pow-succ') h)
