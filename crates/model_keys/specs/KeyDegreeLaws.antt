-- The degree of a key by its word: two exponents in each byte, and four bytes.
use Rattle.std.specs.Prelude.{◌≡◌, refl, List, [], ◌∷◌, T, ltb, length}
use Rattle.std.proofs.Common.{sym, ◌∙◌, lt→ltb, lit<, pow-add}
use Rattle.std.proofs.Math.Path.{ap, ap₂}
use Prim.Native.Nat.{ℕ, zero, suc, ◌+◌, ◌*◌, ◌/◌, ◌%◌, ◌^◌, ◌≤◌, ◌<◌}
use native.Mathlib.Omega.{arith}
use Rattle.std.proofs.Math.Nat as NatL
use Rattle.std.specs.Int.Bits.{bit_and, and_zero_r}
use Rattle.std.proofs.lemmas.Nat.{and_block, and_mask}
use Rattle.calculus.specs.Monomial.{degree}
use Rattle.calculus.specs.Key.{encode, decode, fits_digits, key_width, key_limit, key_degree, Below}
use Rattle.calculus_laws.specs.KeyLaws.{encode_lt, encode_decode, decode_length, decode_below}
use Rattle.calculus_laws.specs.TestLaws.{both}

-- ---- digits add up to no more than the largest for each
pub degree_below : (b : ℕ) (k : List ℕ) → Below (suc b) k → degree k ≤ b * length k
unfolding degree
degree_below b [] h = omega arith
degree_below b (e ∷ k) h = let r = degree_below b k h.1 in let l = h.0 in omega arith

-- ---- two digits a byte
-- the sums of two neighbours
pairs : List ℕ → List ℕ
pairs [] = []
pairs (e ∷ []) = e ∷ []
pairs (e ∷ f ∷ k) = (e + f) ∷ pairs k

pairs_degree : (k : List ℕ) → degree (pairs k) ≡ degree k
unfolding pairs degree
pairs_degree [] = refl
pairs_degree (e ∷ []) = refl
pairs_degree (e ∷ f ∷ k) = let r = pairs_degree k in omega arith

pairs_length : (w : ℕ) (k : List ℕ) → length k ≡ 2 * w → length (pairs k) ≤ w
unfolding pairs
pairs_length w [] l = omega arith
pairs_length w (e ∷ []) l = omega arith
pairs_length zero (e ∷ f ∷ k) l = absurd (omega arith)
pairs_length (suc w) (e ∷ f ∷ k) l = let r = pairs_length w k (omega arith) in omega arith

-- w times the same byte
unfoldable pub bytes : (b w : ℕ) → ℕ
bytes b zero = 0
bytes b (suc w) = b * 256 ^ w + bytes b w

bytes_lt : (b w : ℕ) → b < 256 → bytes b w < 256 ^ w
unfolding bytes
bytes_lt b zero h = rw NatL.pow-zero (omega arith)
bytes_lt b (suc w) h = rw NatL.pow-succ' (let r = bytes_lt b w h in
    let g : suc b * 256 ^ w ≤ 256 * 256 ^ w = NatL.mul-le-mul_right (256 ^ w) h in omega arith)

byte_power : (w : ℕ) → 2 ^ (8 * w) ≡ 256 ^ w
byte_power zero = refl
byte_power (suc w) = ap (λ i. 2 ^ i) (NatL.mul-suc 8 w) ∙ pow-add 2 (8 * w) 8 ∙ ap (λ x. x * 256) (byte_power w)
    ∙ sym (NatL.pow-suc 256 w)

digit_power : (w : ℕ) → 16 ^ (2 * w) ≡ 256 ^ w
digit_power zero = refl
digit_power (suc w) = ap (λ i. 16 ^ i) (NatL.mul-suc 2 w) ∙ pow-add 16 (2 * w) 2 ∙ ap (λ x. x * 256) (digit_power w)
    ∙ sym (NatL.pow-suc 256 w)

-- the first byte of a word under a mask, and the others
first_byte : (w a b r s : ℕ) → r < 256 ^ w → s < 256 ^ w
    → bit_and (a * 256 ^ w + r) (b * 256 ^ w + s) ≡ bit_and a b * 256 ^ w + bit_and r s
first_byte w = rw (← byte_power w) (and_block (8 * w))

-- the lower digit of a byte, and the higher
lower_digit : (e f : ℕ) → f < 16 → bit_and (e * 16 + f) 15 ≡ f
lower_digit e f h = and_mask (e * 16 + f) 4 ∙ omega arith

higher_digit : (e f : ℕ) → e < 16 → f < 16 → bit_and (e * 16 + f) 240 ≡ e * 16
higher_digit e f h g = and_block 4 e 15 f 0 g (lit< tt)
    ∙ omega (arith, and_mask e 4, and_zero_r f, NatL.mod-eq_of_lt h)

-- ---- by the word: the higher digits of all bytes are added to the lower ones, and the bytes by one multiplication
unfoldable pub digit_pairs : (w z : ℕ) → ℕ
digit_pairs w z = bit_and z (bytes 15 w) + bit_and z (bytes 240 w) / 16

-- one byte more
module _ (w e f r : ℕ) (he : e < 16) (hf : f < 16) (hr : r < 256 ^ w) where
  abbrev word : ℕ
  word = (e * 16 + f) * 256 ^ w + r

  lower : bit_and word (bytes 15 (suc w)) ≡ f * 256 ^ w + bit_and r (bytes 15 w)
  unfolding bytes
  lower = first_byte w (e * 16 + f) 15 r (bytes 15 w) hr (bytes_lt 15 w (lit< tt))
      ∙ ap (λ d. d * 256 ^ w + bit_and r (bytes 15 w)) (lower_digit e f hf)

  higher : bit_and word (bytes 240 (suc w)) ≡ e * 16 * 256 ^ w + bit_and r (bytes 240 w)
  unfolding bytes
  higher = first_byte w (e * 16 + f) 240 r (bytes 240 w) hr (bytes_lt 240 w (lit< tt))
      ∙ ap (λ d. d * 256 ^ w + bit_and r (bytes 240 w)) (higher_digit e f he hf)

  next_byte : digit_pairs (suc w) word ≡ (e + f) * 256 ^ w + digit_pairs w r
  unfolding digit_pairs
  next_byte = ap₂ (λ x y. x + y / 16) lower higher
      ∙ sums (256 ^ w) (bit_and r (bytes 15 w)) (bit_and r (bytes 240 w))
    where
      sums : (p x y : ℕ) → f * p + x + (e * 16 * p + y) / 16 ≡ (e + f) * p + (x + y / 16)
      sums p x y = omega arith

-- the word of digits
module _ (w : ℕ) where
  two_digits : (e f : ℕ) (k : List ℕ) → encode 16 (2 * suc w) (e ∷ f ∷ k)
      ≡ (e * 16 + f) * 256 ^ w + encode 16 (2 * w) k
  unfolding encode
  two_digits e f k =
      let more : 2 * suc w ≡ suc (suc (2 * w)) = omega arith in
      ap (λ i. encode 16 i (e ∷ f ∷ k)) more
      ∙ ap (λ x. e * x + (f * 16 ^ (2 * w) + encode 16 (2 * w) k)) (NatL.pow-suc 16 (2 * w))
      ∙ ap (λ x. e * (x * 16) + (f * x + encode 16 (2 * w) k)) (digit_power w) ∙ omega arith

  digits_lt : (k : List ℕ) → Below 16 k → length k ≡ 2 * w → encode 16 (2 * w) k < 256 ^ w
  digits_lt k b l = rw (← digit_power w) (encode_lt 16 (lit< tt) (2 * w) k b (omega arith))

digit_pairs_encode : (w : ℕ) (k : List ℕ) → Below 16 k → length k ≡ 2 * w
    → digit_pairs w (encode 16 (2 * w) k) ≡ encode 256 w (pairs k)
unfolding encode pairs
digit_pairs_encode zero [] b l = unfold digit_pairs bytes in ap₂ (λ x y. x + y / 16) (and_zero_r 0) (and_zero_r 0)
digit_pairs_encode (suc w) [] b l = absurd (omega arith)
digit_pairs_encode w (e ∷ []) b l = absurd (omega arith)
digit_pairs_encode zero (e ∷ f ∷ k) b l = absurd (omega arith)
digit_pairs_encode (suc w) (e ∷ f ∷ k) b l =
    let long : length k ≡ 2 * w = omega arith in
    ap (digit_pairs (suc w)) (two_digits w e f k)
    ∙ next_byte w e f (encode 16 (2 * w) k) b.0 b.1.0 (digits_lt w k b.1.1 long)
    ∙ ap (λ x. (e + f) * 256 ^ w + x) (digit_pairs_encode w k b.1.1 long)

-- times the word with 1 in each byte, the first of four bytes is the sum of all
unfoldable pub byte_sum : ℕ → ℕ
byte_sum x = x * 0x01010101 / 16777216 % 256

-- what stands below the first byte is too small to carry, and what stands above it is cut off
cut_out : (low s high : ℕ) → low < 16777216 → s < 256 → (low + 16777216 * (s + 256 * high)) / 16777216 % 256 ≡ s
cut_out low s high l h =
    let q : (low + 16777216 * (s + 256 * high)) / 16777216 ≡ s + 256 * high = omega arith in
    ap (λ x. x % 256) q ∙ omega arith

four_summed : (a b c d : ℕ) → a + b + c + d < 256
    → byte_sum (a * 16777216 + (b * 65536 + (c * 256 + d))) ≡ a + b + c + d
unfolding byte_sum
four_summed a b c d h =
    let low = d + (c + d) * 256 + (b + c + d) * 65536 in
    let high = a + b + c + (a + b) * 256 + a * 65536 in
    let e : (a * 16777216 + (b * 65536 + (c * 256 + d))) * 16843009
    ≡ low + 16777216 * (a + b + c + d + 256 * high) = omega arith in
    ap (λ x. x / 16777216 % 256) e ∙ cut_out low (a + b + c + d) high (omega arith) h

bytes_summed : (l : List ℕ) → length l ≤ 4 → degree l < 256 → byte_sum (encode 256 4 l) ≡ degree l
unfolding encode degree
bytes_summed [] h s = four_summed 0 0 0 0 (lit< tt)
bytes_summed (a ∷ []) h s = ap byte_sum (omega arith) ∙ four_summed a 0 0 0 (omega arith) ∙ omega arith
bytes_summed (a ∷ b ∷ []) h s = ap byte_sum (omega arith) ∙ four_summed a b 0 0 (omega arith) ∙ omega arith
bytes_summed (a ∷ b ∷ c ∷ []) h s = ap byte_sum (omega arith) ∙ four_summed a b c 0 (omega arith) ∙ omega arith
bytes_summed (a ∷ b ∷ c ∷ d ∷ []) h s = ap byte_sum (omega arith) ∙ four_summed a b c d (omega arith) ∙ omega arith
bytes_summed (a ∷ b ∷ c ∷ d ∷ e ∷ l) h s = absurd (omega arith)

-- the degree of every word of four bytes: their digits add up to less than 256
pub word_degree : (z : ℕ) → z < 16 ^ 8 → byte_sum (digit_pairs 4 z) ≡ degree (decode 16 8 8 z)
word_degree z h =
    let long = decode_length 16 (lit< tt) 8 8 z (omega arith) in
    let small = decode_below 16 (lit< tt) 8 8 z h in
    ap (λ y. byte_sum (digit_pairs 4 y)) (sym whole)
    ∙ ap byte_sum (digit_pairs_encode 4 k small long)
    ∙ bytes_summed (pairs k) (pairs_length 4 k long)
    (omega (arith, pairs_degree k, degree_below 15 k small, long))
    ∙ pairs_degree k
  where
    k : List ℕ
    k = decode 16 8 8 z

    whole : encode 16 8 k ≡ z
    whole = encode_decode 16 (lit< tt) 8 8 z (omega arith) fitting
      where
        fitting : T (fits_digits 16 8 8 z)
        fitting = unfold fits_digits in
            both (ltb z (16 ^ 8)) _ (lt→ltb z (16 ^ 8) h) (rw (NatL.sub_self 8, NatL.mod-one z) tt)

-- of every key, by the masks of its four bytes
pub key_word_degree : (z : ℕ) → z < key_limit
    → (bit_and z 0x0F0F0F0F + bit_and z 0xF0F0F0F0 / 16) * 0x01010101 / 16777216 % 256 ≡ key_degree z
unfolding byte_sum digit_pairs bytes key_limit key_width key_degree
key_word_degree z = word_degree z

-- ---- facts
-- the largest key of 32 bits with eight exponents
largest_degree : key_degree 0xFFFFFFFF ≡ 120
unfolding key_degree key_width decode degree
largest_degree = refl

largest_eight : byte_sum (digit_pairs 4 0xFFFFFFFF) ≡ 120
unfolding byte_sum digit_pairs bytes
largest_eight = refl
