-- What the functions of this crate ask, and what they promise.
use Rattle.std.specs.Prelude.{◌≡◌, List, ℕ, ◌+◌, ◌*◌, ◌^◌, ◌<◌, ◌≤◌, T, ℤ, nat_abs, length, get_or}
use Rattle.calculus.specs.Terms.{Terms, every, size, rising}
use Rattle.calculus.specs.Model.{Model, most_terms, most_degree, fits}
use Rattle.model_keys.specs.Keys.{wide_width}
use Rattle.product_hash_slots.specs.Slots.{Told, home_slots}
use Rattle.product_sums.specs.TermArrays.{terms, scratch_places}
use Rattle.product_hash_table.specs.Table.{entries, most_entries, slots_each, Table}
use Rattle.product_sums.specs.Wide.{wide_terms}
use Rattle.product_sums.specs.ProductSums.{accumulated_all}

-- ---- sums by key
-- a table with room for the products of one term with count others
pub record RowReady (homes : ℕ) (slots keys : List ℕ) (sums : List ℤ) (n key : ℕ) (c : ℤ)
    (kb : List ℕ) (cb : List ℤ) (count : ℕ) : Type 0 where
  pub table : Table homes slots keys sums n
  pub homes_enough : count ≤ homes
  pub homes_few : homes ≤ home_slots
  pub slots_room : homes + 2 * (n + count) ≤ length slots
  pub keys_room : n + count < length keys
  pub sums_room : n + count < length sums
  pub few : n + count ≤ most_entries
  pub keys_long : count ≤ length kb
  pub coefficients_long : count ≤ length cb
  pub keys_told : (j : ℕ) → j < count → Told (key + get_or kb j 0)
  pub small : nat_abs c * size (terms count kb cb) + size (entries n keys sums) < 2 ^ 63

-- an empty table with room for the products of na terms with nb others
pub record CollectReady (homes : ℕ) (slots keys : List ℕ) (sums : List ℤ) (ka : List ℕ) (ca : List ℤ) (na : ℕ)
    (kb : List ℕ) (cb : List ℤ) (nb : ℕ) : Type 0 where
  pub empty : (s : ℕ) → get_or slots s 0 ≡ 0
  pub homes_enough : na * nb ≤ homes
  pub homes_few : homes ≤ home_slots
  pub slots_room : homes + 2 * (na * nb) ≤ length slots
  pub keys_room : na * nb < length keys
  pub sums_room : na * nb < length sums
  pub first_few : na ≤ most_terms
  pub second_few : nb ≤ most_terms
  pub first_keys : na ≤ length ka
  pub first_coefficients : na ≤ length ca
  pub second_keys : nb ≤ length kb
  pub second_coefficients : nb ≤ length cb
  pub keys_told : (i j : ℕ) → i < na → j < nb → Told (get_or ka i 0 + get_or kb j 0)
  pub small : size (terms na ka ca) * size (terms nb kb cb) < 2 ^ 63

-- a table of at most so many entries: the old ones and the terms q
pub record Collected (homes : ℕ) (old : Terms) (most : ℕ) (q : Terms) (slots keys : List ℕ) (sums : List ℤ) (n : ℕ)
    : Type 0 where
  pub table : Table homes slots keys sums n
  pub few : n ≤ most
  pub sum : entries n keys sums ≡ accumulated_all old q

-- ---- the product
-- two models in at most eight variables, held by the wide keys of their terms, whose products fit when summed
pub record HeldFactors (ka : List ℕ) (ca : List ℤ) (na : ℕ) (kb : List ℕ) (cb : List ℤ) (nb : ℕ) : Type 0 where
  pub vars : ℕ
  pub first : Model
  pub second : Model
  pub vars_few : vars ≤ wide_width
  pub first_fits : T (every (λ k c. fits vars most_degree k) first.terms)
  pub second_fits : T (every (λ k c. fits vars most_degree k) second.terms)
  pub first_rising : T (rising first.terms)
  pub second_rising : T (rising second.terms)
  pub first_held : terms na ka ca ≡ wide_terms first.terms
  pub second_held : terms nb kb cb ≡ wide_terms second.terms
  pub first_few : na ≤ most_terms
  pub second_few : nb ≤ most_terms
  pub first_keys : na ≤ length ka
  pub first_coefficients : na ≤ length ca
  pub second_keys : nb ≤ length kb
  pub second_coefficients : nb ≤ length cb
  pub small : size first.terms * size second.terms < 2 ^ 63

-- an empty table with room for so many products or more
pub record EmptyTable (products room : ℕ) (slots keys : List ℕ) (sums : List ℤ) : Type 0 where
  pub enough : products ≤ room
  pub few : room ≤ most_entries
  pub empty : (s : ℕ) → get_or slots s 0 ≡ 0
  pub slots_room : slots_each * room < length slots
  pub keys_room : room < length keys
  pub sums_room : room < length sums

-- the scratch memory for any product: a table, whatever is in it; its sums serve as a grid's too
pub record ScratchTable (slots keys : List ℕ) (sums : List ℤ) : Type 0 where
  pub slots_room : home_slots + 2 * most_entries < length slots
  pub keys_room : most_entries < length keys
  pub sums_room : scratch_places ≤ length sums
