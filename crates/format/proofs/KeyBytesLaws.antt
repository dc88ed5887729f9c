-- Keys in bytes: short ones take two, long ones four; reading and writing undo each other.
use Rattle.std.specs.Prelude.{◌≡◌, refl, Bool, true, false, cond, List, ◌++◌, ℕ, ◌+◌, ◌*◌, ◌/◌, ◌%◌, ◌^◌, ◌≤◌, ◌<◌, T, length, drop}
use Rattle.std.proofs.Common.{sym, ◌∙◌, ap, ap₂, arith, le-leb, drop_at}
use Rattle.std.proofs.lemmas.Bool.{lt-leb}
use Rattle.calculus.specs.Key.{short_width, short_key}
use Rattle.format.specs.Bytes.{AllBytes, u16, u32, u16_bytes, u32_bytes, signed}
use Rattle.format.specs.Format.{short_keys, key_length, term_length, read_key, read_term, key_bytes}
use Rattle.format.specs.Format.{short_mark, long_mark, mark_of}
use Rattle.format.specs.BytesLaws.{read_u16, read_u32, write_u16, write_u32}

-- ---- lengths
pub key_least : (n : ℕ) → 2 ≤ key_length n
unfolding key_length
key_least n = go (short_keys n)
  where
    go : (b : Bool) → 2 ≤ cond b 2 4
    go true = omega arith
    go false = omega arith

pub key_most : (n : ℕ) → key_length n ≤ short_width
unfolding key_length
key_most n = go (short_keys n)
  where
    go : (b : Bool) → cond b 2 4 ≤ 4
    go true = omega arith
    go false = omega arith

pub term_parts : (n : ℕ) → term_length n ≡ key_length n + 4
unfolding term_length
term_parts n = refl

pub term_least : (n : ℕ) → 6 ≤ term_length n
term_least n = omega (arith, term_parts n, key_least n)

pub term_most : (n : ℕ) → term_length n ≤ 8
term_most n = omega (arith, term_parts n, key_most n)

pub length_key : (n k : ℕ) → length (key_bytes n k) ≡ key_length n
unfolding key_bytes key_length u16_bytes u32_bytes
length_key n k = go (short_keys n)
  where
    go : (b : Bool) → length (cond b (u16_bytes (k / short_key)) (u32_bytes k)) ≡ cond b 2 4
    go true = refl
    go false = refl

-- ---- what is written is read
pub key_back : (n k : ℕ) (r : List ℕ) → k < 2 ^ 32 → (T (short_keys n) → k % short_key ≡ 0)
    → read_key n (key_bytes n k ++ r) ≡ k
unfolding read_key key_bytes
key_back n k r h z = go (short_keys n) z
  where
    go : (b : Bool) → (T b → k % short_key ≡ 0)
        → cond b (u16 (cond b (u16_bytes (k / short_key)) (u32_bytes k) ++ r) * short_key)
        (u32 (cond b (u16_bytes (k / short_key)) (u32_bytes k) ++ r)) ≡ k
    go true z = ap (λ x. x * short_key) (read_u16 (k / short_key) r (omega arith)) ∙ omega (arith, z tt)
    go false z = read_u32 k r h

pub key_rest : (n k : ℕ) (r : List ℕ) → drop (key_length n) (key_bytes n k ++ r) ≡ r
key_rest n k r = drop_at (key_bytes n k) r (key_length n) (length_key n k)

-- ---- what is read is written
pub key_forth : (n : ℕ) (s : List ℕ) → AllBytes s → key_length n ≤ length s
    → key_bytes n (read_key n s) ++ drop (key_length n) s ≡ s
unfolding read_key key_bytes key_length
key_forth n s h = go (short_keys n)
  where
    go : (b : Bool) → cond b 2 4 ≤ length s
        → cond b (u16_bytes (cond b (u16 s * short_key) (u32 s) / short_key))
        (u32_bytes (cond b (u16 s * short_key) (u32 s)))
        ++ drop (cond b 2 4) s ≡ s
    go true l = ap (λ x. u16_bytes x ++ drop 2 s) (let e : u16 s * short_key / short_key ≡ u16 s = omega arith in e)
        ∙ write_u16 s h l
    go false l = write_u32 s h l

-- ---- by the number of variables
short_true : (n : ℕ) → n ≤ short_width → short_keys n ≡ true
unfolding short_keys
short_true n h = le-leb n short_width h

short_false : (n : ℕ) → short_width < n → short_keys n ≡ false
unfolding short_keys
short_false n h = lt-leb n short_width h

pub key_length_short : (n : ℕ) → n ≤ short_width → key_length n ≡ 2
unfolding key_length
key_length_short n h = ap (λ b. cond b 2 4) (short_true n h)

pub key_length_long : (n : ℕ) → short_width < n → key_length n ≡ 4
unfolding key_length
key_length_long n h = ap (λ b. cond b 2 4) (short_false n h)

pub term_length_short : (n : ℕ) → n ≤ short_width → term_length n ≡ 6
term_length_short n h = term_parts n ∙ ap (λ k. k + 4) (key_length_short n h)

pub term_length_long : (n : ℕ) → short_width < n → term_length n ≡ 8
term_length_long n h = term_parts n ∙ ap (λ k. k + 4) (key_length_long n h)

pub mark_short : (n : ℕ) → n ≤ short_width → mark_of n ≡ short_mark
unfolding mark_of
mark_short n h = ap (λ b. cond b short_mark long_mark) (short_true n h)

pub mark_long : (n : ℕ) → short_width < n → mark_of n ≡ long_mark
unfolding mark_of
mark_long n h = ap (λ b. cond b short_mark long_mark) (short_false n h)

pub read_term_short : (n : ℕ) (s : List ℕ) → n ≤ short_width
    → read_term n s ≡ record { key = u16 s * short_key; coefficient = signed (u32 (drop 2 s)) }
unfolding read_term read_key
read_term_short n s h = ap₂ (λ k l. record { key = k; coefficient = signed (u32 (drop l s)) })
    (ap (λ b. cond b (u16 s * short_key) (u32 s)) (short_true n h)) (key_length_short n h)

pub read_term_long : (n : ℕ) (s : List ℕ) → short_width < n
    → read_term n s ≡ record { key = u32 s; coefficient = signed (u32 (drop 4 s)) }
unfolding read_term read_key
read_term_long n s h = ap₂ (λ k l. record { key = k; coefficient = signed (u32 (drop l s)) })
    (ap (λ b. cond b (u16 s * short_key) (u32 s)) (short_false n h)) (key_length_long n h)

pub key_bytes_short : (n k : ℕ) → n ≤ short_width → u16_bytes (k / short_key) ≡ key_bytes n k
unfolding key_bytes
key_bytes_short n k h = ap (λ b. cond b (u16_bytes (k / short_key)) (u32_bytes k)) (sym (short_true n h))

pub key_bytes_long : (n k : ℕ) → short_width < n → u32_bytes k ≡ key_bytes n k
unfolding key_bytes
key_bytes_long n k h = ap (λ b. cond b (u16_bytes (k / short_key)) (u32_bytes k)) (sym (short_false n h))
