-- Numbers in bytes, little-endian.
use Rattle.std.specs.Prelude.{true, false, List, [], ◌∷◌, ◌++◌, ℕ, suc, ◌+◌, ◌-◌, ◌*◌, ◌/◌, ◌%◌, ◌^◌, ◌<◌, ltb, ℤ, pos, negsuc, get_or}

-- byte i
abbrev pub byte : (i : ℕ) → List ℕ → ℕ
byte i s = get_or s i 0

-- every entry is a byte
pub record AllBytes (s : List ℕ) : Type 0 where
  pub below : (i : ℕ) → byte i s < 256

-- lists one after another
unfoldable pub join : List (List ℕ) → List ℕ
join [] = []
join (s ∷ l) = s ++ join l

-- ---- 2 and 4 bytes without a sign
-- the number at the head
unfoldable pub u16 : List ℕ → ℕ
u16 s = byte 0 s + 256 * byte 1 s

-- the number at the head
unfoldable pub u32 : List ℕ → ℕ
u32 s = byte 0 s + 256 * (byte 1 s + 256 * (byte 2 s + 256 * byte 3 s))

-- the bytes of a number
unfoldable pub u16_bytes : ℕ → List ℕ
u16_bytes x = x % 256 ∷ x / 256 % 256 ∷ []

-- the bytes of a number
unfoldable pub u32_bytes : ℕ → List ℕ
u32_bytes x = x % 256 ∷ x / 256 % 256 ∷ x / 256 / 256 % 256 ∷ x / 256 / 256 / 256 % 256 ∷ []

-- ---- 4 bytes, two's complement
-- the integer of 32 bits
unfoldable pub signed : ℕ → ℤ
signed u = elim (ltb u (2 ^ 31)) [ true ↦ pos u | false ↦ negsuc (2 ^ 32 - suc u) ]

-- the 32 bits of an integer
unfoldable pub bits : ℤ → ℕ
bits (pos n) = n
bits (negsuc n) = 2 ^ 32 - suc n
