-- Numbers in bytes: reading and writing undo each other.
use Rattle.std.specs.Prelude.{◌≡◌, refl, Bool, true, false, List, [], ◌∷◌, ◌++◌, ℕ, zero, suc, ◌+◌, ◌*◌, ◌-◌, ◌/◌, ◌%◌, ◌^◌, ◌≤◌, ◌<◌, ltb, ℤ, pos, negsuc, nat_abs, length, drop, take}
use Rattle.std.proofs.Common.{ap, sym, ◌∙◌, append_assoc, arith, lt-ltb, le-ltb, drop-cons, drop-drop, get_or-drop}
use Rattle.std.proofs.Math.Nat as NatL
use Rattle.format.specs.Bytes.{byte, AllBytes, join, u16, u32, u16_bytes, u32_bytes, signed, bits}

-- ---- parts of bytes are bytes
pub bytes_drop : (k : ℕ) (s : List ℕ) → AllBytes s → AllBytes (drop k s)
bytes_drop k s h = record { below = λ i. rw get_or-drop (h.below (k + i)) }

pub bytes_take : (k : ℕ) (s : List ℕ) → AllBytes s → AllBytes (take k s)
bytes_take k s h = record { below = λ i. go k s i (h.below i) }
  where
    go : (k : ℕ) (s : List ℕ) (i : ℕ) → byte i s < 256 → byte i (take k s) < 256
    go zero s i g = omega arith
    go (suc k) [] i g = g
    go (suc k) (x ∷ s) zero g = g
    go (suc k) (x ∷ s) (suc i) g = go k s i g

-- ---- joined lists
pub join-++ : (l m : List (List ℕ)) → join (l ++ m) ≡ join l ++ join m
unfolding join
join-++ [] m = refl
join-++ (s ∷ l) m = ap (λ r. s ++ r) (join-++ l m) ∙ sym (append_assoc s (join l) (join m))

-- ---- records of k bytes: one, and then c of them
pub drop_more : (k c : ℕ) (s : List ℕ) → drop (k * c) (drop k s) ≡ drop (k * suc c) s
drop_more k c s =
    drop-drop (k * c) k s ∙ ap (λ i. drop i s) (NatL.add_comm k (k * c) ∙ sym (NatL.mul-suc k c))

-- ---- what is written is read
-- one digit taken off and put on again
step_up : (x y : ℕ) → x / 256 ≡ y → x % 256 + 256 * y ≡ x
step_up x y e = omega arith

pub read_u16 : (x : ℕ) (r : List ℕ) → x < 2 ^ 16 → u16 (u16_bytes x ++ r) ≡ x
unfolding u16 u16_bytes
read_u16 x r h = omega arith

pub read_u32 : (x : ℕ) (r : List ℕ) → x < 2 ^ 32 → u32 (u32_bytes x ++ r) ≡ x
unfolding u32 u32_bytes
read_u32 x r h =
    let small : x / 256 / 256 / 256 < 256 = omega arith in
    let e : x / 256 / 256 / 256 % 256 ≡ x / 256 / 256 / 256 = omega arith in
    rw (
      e,
      step_up (x / 256 / 256) (x / 256 / 256 / 256) refl,
      step_up (x / 256) (x / 256 / 256) refl,
      step_up x (x / 256) refl,
    )

pub signed_bits : (z : ℤ) → nat_abs z < 2 ^ 31 → signed (bits z) ≡ z
unfolding signed bits
signed_bits (pos n) h = rw (lt-ltb n (2 ^ 31) h, signed)
signed_bits (negsuc n) h =
    rw (le-ltb (2 ^ 32 - suc n) (2 ^ 31) (omega arith), signed) (ap negsuc (omega arith))

pub bits_below : (z : ℤ) → nat_abs z < 2 ^ 31 → bits z < 2 ^ 32
unfolding bits
bits_below (pos n) h = omega arith
bits_below (negsuc n) h = omega arith

-- ---- what is read is written
pub u32_below : (s : List ℕ) → AllBytes s → u32 s < 2 ^ 32
unfolding u32
u32_below s h = omega (arith, h.below 0, h.below 1, h.below 2, h.below 3)

pub bits_signed : (u : ℕ) → u < 2 ^ 32 → bits (signed u) ≡ u
unfolding signed bits
bits_signed u h = go (ltb u (2 ^ 31))
  where
    go : (t : Bool) → bits (elim t as (λ t. ℤ) [ true ↦ pos u | false ↦ negsuc (2 ^ 32 - suc u) ]) ≡ u
    go true = refl
    go false = omega arith

two : (s : List ℕ) → 2 ≤ length s → s ≡ byte 0 s ∷ byte 1 s ∷ drop 2 s
two s h = drop-cons s 0 0 (omega arith) ∙ ap (λ (l : List ℕ). byte 0 s ∷ l) (drop-cons s 1 0 (omega arith))

pub four : (s : List ℕ) → 4 ≤ length s → s ≡ byte 0 s ∷ byte 1 s ∷ byte 2 s ∷ byte 3 s ∷ drop 4 s
four s h = two s (omega arith)
    ∙ ap (λ (l : List ℕ). byte 0 s ∷ byte 1 s ∷ l)
    (drop-cons s 2 0 (omega arith) ∙ ap (λ (l : List ℕ). byte 2 s ∷ l) (drop-cons s 3 0 (omega arith)))

low : (x y : ℕ) → x < 256 → (x + 256 * y) % 256 ≡ x
low x y h = omega arith

high : (x y : ℕ) → x < 256 → (x + 256 * y) / 256 ≡ y
high x y h = omega arith

small : (x : ℕ) → x < 256 → x % 256 ≡ x
small x h = omega arith

pub write_u16 : (s : List ℕ) → AllBytes s → 2 ≤ length s → u16_bytes (u16 s) ++ drop 2 s ≡ s
unfolding u16 u16_bytes
write_u16 s h l = digits _ _ (drop 2 s) (h.below 0) (h.below 1) ∙ sym (two s l)
  where
    digits : (x y : ℕ) (r : List ℕ) → x < 256 → y < 256
        → (x + 256 * y) % 256 ∷ (x + 256 * y) / 256 % 256 ∷ r ≡ x ∷ y ∷ r
    digits x y r hx hy = simp (low, high, small)

pub write_u32 : (s : List ℕ) → AllBytes s → 4 ≤ length s → u32_bytes (u32 s) ++ drop 4 s ≡ s
unfolding u32
write_u32 s h l =
    digits _ _ _ _ (drop 4 s) (h.below 0) (h.below 1) (h.below 2) (h.below 3) ∙ sym (four s l)
  where
    digits : (x y z w : ℕ) (r : List ℕ) → x < 256 → y < 256 → z < 256 → w < 256
        → u32_bytes (x + 256 * (y + 256 * (z + 256 * w))) ++ r ≡ x ∷ y ∷ z ∷ w ∷ r
    digits x y z w r hx hy hz hw = unfold u32_bytes in simp (low, high, small)
