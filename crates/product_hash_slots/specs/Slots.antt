-- An index of slots: where the search for a key begins, how it goes on, and what it comes to.
use Rattle.std.specs.Prelude.{◌≡◌, List, ℕ, zero, suc, ◌+◌, ◌*◌, ◌/◌, ◌%◌, ◌^◌, ◌<◌, ◌≤◌, length, get_or}

-- ---- keys
-- the exponents of variables 1 to 4, which with what the lower bits make are the first bits of a key's way
abbrev pub upper : ℕ → ℕ
upper key = key / 2 ^ 36

-- the other exponents and the degree, which follow
abbrev pub lower : ℕ → ℕ
lower key = key % 2 ^ 36

-- a key that these tell, with room for a 1 above them: its exponents are below 64
pub record Told (key : ℕ) : Type 0 where
  pub small : key < 2 ^ 64
  pub room : lower key < 2 ^ 35

-- ---- where a search begins
-- the most slots that a search can begin at
abbrev pub home_slots : ℕ
home_slots = 16384

-- what the lower half of a key is multiplied by
abbrev pub low_factor : ℕ
low_factor = 3247425551

-- the upper half added, modulo 2^32
abbrev pub joined : (key : ℕ) → ℕ
joined key = (key % 2 ^ 32 * low_factor + key / 2 ^ 32) % 2 ^ 32

-- what that is multiplied by where the lower half holds nothing but the degree, its last byte
abbrev pub high_factor : ℕ
high_factor = 1555934479

-- and what it is multiplied by otherwise
abbrev pub factor : (key : ℕ) → ℕ
factor key = key % 2 ^ 32 / 2 ^ 8 * 2 + high_factor

-- the product, modulo 2^32
abbrev pub mixed : (key : ℕ) → ℕ
mixed key = joined key * factor key % 2 ^ 32

-- where the search for a key begins, of so many slots
unfoldable pub home_slot : (homes key : ℕ) → ℕ
home_slot homes key = mixed key * homes / 2 ^ 32

-- ---- how it goes on
-- the two slots below entry x
abbrev pub slot_below : (homes x b : ℕ) → ℕ
slot_below homes x b = homes + 2 * x + b

-- what the lower bits are multiplied by, to count in the first steps
abbrev pub way_factor : ℕ
way_factor = 0x9E3779B

-- the first 28 bits: the upper ones, moved on by what the lower ones make
abbrev pub first_bits : ℕ → ℕ
first_bits key = (upper key + lower key * way_factor / 2 ^ 36) % 2 ^ 28

-- the lower ones above them, and a 1 above all
abbrev pub path : ℕ → ℕ
path key = first_bits key + lower key * 2 ^ 28 + 2 ^ 63

-- the slot that the search for a key comes to after t entries: below each, bit t says which of the two
unfoldable pub walked : (homes : ℕ) (slots : List ℕ) (key t : ℕ) → ℕ
walked homes slots key zero = home_slot homes key
walked homes slots key (suc t) =
    slot_below homes (get_or slots (walked homes slots key t) 0) (path key / 2 ^ t % 2)

-- none of the first t of them leads to the key
abbrev pub Passed : (homes : ℕ) (slots keys : List ℕ) (key t : ℕ) → Type 0
Passed homes slots keys key t =
    (s : ℕ) → s < t → get_or keys (get_or slots (walked homes slots key s) 0) 0 ≡ key → ⊥

-- a search passes at most 63 entries; an empty slot leads to place 0, where the key is put before
pub record Searchable (homes : ℕ) (slots keys : List ℕ) (key : ℕ) : Type 0 where
  pub some : 0 < homes
  pub not_many : homes ≤ home_slots
  pub homes_in : homes ≤ length slots
  pub below_in : (s : ℕ) → slot_below homes (get_or slots s 0) 1 < length slots
  pub inside : (s : ℕ) → get_or slots s 0 < length keys
  pub first : get_or keys 0 0 ≡ key
  pub told : Told key
  pub ends : (t : ℕ) → Passed homes slots keys key (suc t) → t < 63

-- the home slot leads to entry x, which has another key
pub record Missed (homes : ℕ) (slots keys : List ℕ) (key x : ℕ) : Type 0 where
  pub is : x ≡ get_or slots (home_slot homes key) 0
  pub other : get_or keys x 0 ≡ key → ⊥

-- the first slot on the key's way that leads to the key
pub record Found (homes : ℕ) (slots keys : List ℕ) (key h : ℕ) : Type 0 where
  pub steps : ℕ
  pub at : h ≡ walked homes slots key steps
  pub inside : h < length slots
  pub others : Passed homes slots keys key steps
  pub there : get_or keys (get_or slots h 0) 0 ≡ key
