-- Sums by key: a list of entries in order of first occurrence, and an index of slots that leads to each by its key.
use Rattle.std.specs.Prelude.{◌≡◌, List, ℕ, ◌+◌, ◌*◌, ◌^◌, ◌<◌, ◌≤◌, T, ℤ, nat_abs, length, get_or, drop}
use Rattle.polynomial.specs.Polynomial.{Term}
use Rattle.calculus.specs.Terms.{Terms, size}
use Rattle.calculus.specs.Terms.{distinct}
use Rattle.product_sums.specs.TermArrays.{terms, accumulated}
use Rattle.product_hash_slots.specs.Slots.{Told, home_slots, walked}

-- ---- entries
-- the n entries of a table: from place 1 on, since place 0 serves the search
unfoldable pub entries : ℕ → List ℕ → List ℤ → Terms
entries n keys sums = terms n (drop 1 keys) (drop 1 sums)

-- ---- slots
-- the most entries that a table can have
abbrev pub most_entries : ℕ
most_entries = 4096

-- how many slots a search can begin at, for each entry that there can be
abbrev pub homes_each : ℕ
homes_each = 4

-- how many slots there are for each: two more, where a search that passes its entry goes on
abbrev pub slots_each : ℕ
slots_each = homes_each + 2

-- the search for a key comes to entry i, past full slots only
pub record Reached (homes : ℕ) (slots : List ℕ) (key i : ℕ) : Type 0 where
  pub steps : ℕ
  pub holds : get_or slots (walked homes slots key steps) 0 ≡ i
  pub full : (s : ℕ) → s < steps → 0 < get_or slots (walked homes slots key s) 0

-- the slots lead to the n entries, each on its key's way and from one slot only; no key stands twice, each is told by
-- its bits; and the slots below entries that are not there yet are empty
pub record Table (homes : ℕ) (slots keys : List ℕ) (sums : List ℤ) (n : ℕ) : Type 0 where
  pub keys_long : n < length keys
  pub sums_long : n < length sums
  pub low : (s : ℕ) → get_or slots s 0 ≤ n
  pub rest : (s : ℕ) → homes + 2 * (n + 1) ≤ s → get_or slots s 0 ≡ 0
  pub once : (s t : ℕ) → 0 < get_or slots s 0 → get_or slots s 0 ≡ get_or slots t 0 → s ≡ t
  pub reach : (i : ℕ) → 0 < i → i ≤ n → Reached homes slots (get_or keys i 0) i
  pub told : (i : ℕ) → 0 < i → i ≤ n → Told (get_or keys i 0)
  pub distinct_keys : T (distinct (entries n keys sums))

-- ---- one more term
-- there is room for one more entry, its key is told by its bits, and its sum fits
pub record Room (homes : ℕ) (slots keys : List ℕ) (sums : List ℤ) (n key : ℕ) (z : ℤ) : Type 0 where
  pub table : Table homes slots keys sums n
  pub some : 0 < homes
  pub not_many : homes ≤ home_slots
  pub slots_room : homes + 2 * (n + 1) ≤ length slots
  pub keys_room : n + 1 < length keys
  pub sums_room : n + 1 < length sums
  pub few : n + 1 < 2 ^ 16
  pub new_told : Told key
  pub small : nat_abs z + size (entries n keys sums) < 2 ^ 63

-- the table holds those entries and t
pub record Added (homes : ℕ) (old : Terms) (n : ℕ) (t : Term ℤ) (slots keys : List ℕ) (sums : List ℤ) (count : ℕ)
    : Type 0 where
  pub table : Table homes slots keys sums count
  pub few : count ≤ n + 1
  pub sum : entries count keys sums ≡ accumulated t old

-- the entry that a slot's number x leads to: x, or the next where the slot is empty
pub record Placed (x next place : ℕ) : Type 0 where
  pub new : x ≡ 0 → place ≡ next
  pub known : 0 < x → place ≡ x

-- how many entries there are then
pub record Counted (x n count : ℕ) : Type 0 where
  pub new : x ≡ 0 → count ≡ n + 1
  pub known : 0 < x → count ≡ n
