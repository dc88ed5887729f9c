-- What the steps of a product of two lists of terms ask: of a table, of a grid, and of room of its own.
use Rattle.std.specs.Prelude.{◌≡◌, ℕ, ◌+◌, ◌*◌, ◌≤◌, ◌<◌, List, [], ℤ, pos, length, get_or, replicate}
use Rattle.std.proofs.Common.{sym, subst, ap, arith}
use Rattle.std.proofs.Math.Nat as NatL
use Rattle.std.proofs.lemmas.List.{length-replicate}
use Rattle.calculus.specs.Terms.{Terms, size}
use Rattle.calculus.specs.Model.{most_terms, most_degree}
use Rattle.product_hash_table.specs.Table.{entries, most_entries, slots_each}
use Rattle.product_sums.specs.TermArrays.{terms, scratch_places}
use Rattle.calculus_laws.specs.FilledLaws.{filled_at}
use Rattle.product_sums.specs.declared.Gathered.{Gathered}
use Rattle.product_sums.specs.Kept.{Gathering}
use Rattle.product_sums.specs.ProductSums.{accumulated_all}
use Rattle.product_hash_collect.specs.CollectorContracts.{Collected, HeldFactors, EmptyTable, ScratchTable}
use Rattle.product_hash_collect.specs.FactorArrayLaws.{monomial_at, first_key, first_monomial, second_key}
use Rattle.product_hash_collect.specs.FactorArrayLaws.{second_monomial}
use Rattle.product_hash_collect.specs.FactorArrayLaws.{factors_size, factors_keys, first_keys_rise, second_keys_rise}
use Rattle.product_grid.specs.product_rising.Rising.{Room, OneReady}
use Rattle.product_grid_index.specs.declared.Extents.{Extents}
use Rattle.product_grid_index.specs.declared.Sides.{Sides}
use Rattle.product_grid_index.specs.Grid.{Low, extents, sides_for, place, Gridded}
use Rattle.product_grid_index.specs.DigitLaws.{Digits, Parts, wide_parts, parts_low, parts_digits}
use Rattle.product_grid_index.specs.GridLaws.{sides_narrow, extents_low, extents_within}
use Rattle.product_grid_index.specs.GridPlaceLaws.{place_plus, product_gridded}
use Rattle.product_grid_index.specs.GridDigitLaws.{sides_whole, sides_others}
use Rattle.product_grid.specs.GridContracts.{GridReady}
use Rattle.product_room.specs.ProductTerms.{ScratchRoom, KeptRoom}

-- ---- what is collected in a table is gathered
pub collected_gathering : {homes most n d : ℕ} {q : Terms} {slots keys : List ℕ} {sums : List ℤ}
    {kept : List ℕ} {coefficients : List ℤ} {r : Gathered}
    → Collected homes [] most q slots keys sums n → Gathering d (entries n keys sums) kept coefficients r
    → Gathering d (accumulated_all [] q) kept coefficients r
collected_gathering c g = rw c.sum at g

-- ---- a table of zeros
pub zeros_empty : (products room : ℕ) → products ≤ room → room ≤ most_entries
    → EmptyTable products room (replicate (slots_each * room + 1) 0) (replicate (room + 1) 0)
    (replicate (room + 1) (pos 0))
zeros_empty products room e l = record {
  enough = e;
  few = l;
  empty = filled_at 0 (slots_each * room + 1);
  slots_room = rw length-replicate (omega arith);
  keys_room = rw length-replicate (omega arith);
  sums_room = rw length-replicate (omega arith);
}

-- ---- scratch memory
module _ {slots keys : List ℕ} {sums : List ℤ} where
  -- for any product, serves for so many products of two terms
  pub scratch_room : {products : ℕ} → ScratchTable slots keys sums → products ≤ most_entries
      → ScratchRoom products slots keys sums
  scratch_room t l = record {
    slots_room = omega (arith, l, t.slots_room);
    keys_room = omega (arith, l, t.keys_room);
    sums_room = omega (arith, l, t.sums_room);
  }

  module _ {products : ℕ} (t : ScratchRoom products slots keys sums) where
    -- for so many products, serves for fewer
    pub fewer_room : {fewer : ℕ} → fewer ≤ products → ScratchRoom fewer slots keys sums
    fewer_room l = record {
      slots_room = omega (arith, l, t.slots_room);
      keys_room = omega (arith, l, t.keys_room);
      sums_room = omega (arith, l, t.sums_room);
    }

    -- and still does when it comes back: its content is free, and each slice keeps its length
    pub free_room : {slots' keys' : List ℕ} {sums' : List ℤ} → length slots' ≡ length slots
        → length keys' ≡ length keys → length sums' ≡ length sums → ScratchRoom products slots' keys' sums'
    free_room a b c = record {
      slots_room = omega (arith, a, t.slots_room);
      keys_room = omega (arith, b, t.keys_room);
      sums_room = omega (arith, c, t.sums_room);
    }

-- ---- places for what is kept
pub none_kept : {kept : List ℕ} {coefficients : List ℤ} → KeptRoom kept coefficients → Room 0 kept coefficients
none_kept r = record {
  taken = omega arith;
  kept_room = r.kept_room;
  coefficients_room = r.coefficients_room;
}

-- ---- two lists of terms
module _ {ka : List ℕ} {ca : List ℤ} {na : ℕ} {kb : List ℕ} {cb : List ℤ} {nb : ℕ}
    (h : HeldFactors ka ca na kb cb nb) where
  pub products_few : na * nb ≤ most_entries
  unfolding most_terms
  products_few = NatL.mul-le-mul h.first_few h.second_few

  -- ---- where one of them is a single term
  pub first_one : na ≡ 1 → OneReady ka ca kb cb nb
  first_one e = record {
    first_key = omega (arith, h.first_keys);
    first_coefficient = omega (arith, h.first_coefficients);
    few = h.second_few;
    keys_long = h.second_keys;
    coefficients_long = h.second_coefficients;
    keys_fit = λ j l. omega (arith, (factors_keys h 0 j (omega arith) l).small);
    keys_rise = second_keys_rise h;
    small = rw e at (factors_size h);
  }

  pub second_one : nb ≡ 1 → OneReady kb cb ka ca na
  second_one e = record {
    first_key = omega (arith, h.second_keys);
    first_coefficient = omega (arith, h.second_coefficients);
    few = h.first_few;
    keys_long = h.first_keys;
    coefficients_long = h.first_coefficients;
    keys_fit = λ i l. omega (arith, (factors_keys h i 0 l (omega arith)).small);
    keys_rise = first_keys_rise h;
    small =
        let s = rw e at (factors_size h) in
        rw (NatL.mul_comm (size (terms 1 kb cb)) (size (terms na ka ca))) s;
  }

  first_parts : (i : ℕ) → i < na → Parts 15 (get_or ka i 0)
  unfolding most_degree
  first_parts i l =
      rw (first_key h i l)
      (wide_parts h.vars 15 h.vars_few (omega arith) (monomial_at h.first.terms i) (first_monomial h i l))

  second_parts : (i : ℕ) → i < nb → Parts 15 (get_or kb i 0)
  unfolding most_degree
  second_parts i l =
      rw (second_key h i l)
      (wide_parts h.vars 15 h.vars_few (omega arith) (monomial_at h.second.terms i) (second_monomial h i l))

  -- ---- the grid for them
  pub first_low : Low (extents na ka)
  first_low = extents_low na ka (λ i l. parts_low (first_parts i l) (omega arith) (omega arith))

  pub second_low : Low (extents nb kb)
  second_low = extents_low nb kb (λ i l. parts_low (second_parts i l) (omega arith) (omega arith))

  -- where it is not too large
  module _ (s : Sides) (w : s ≡ sides_for (extents na ka) (extents nb kb)) (few : s.size ≤ scratch_places) where
    no_others : ((extents na ka).others ≡ 0) × ((extents nb kb).others ≡ 0)
    no_others = sides_others (extents na ka) (extents nb kb) (omega (arith, few, ap (λ (t : Sides). t.size) w))

    first_digits : (i : ℕ) → i < na → Digits 15 (get_or ka i 0)
    first_digits i l = parts_digits (first_parts i l) (omega arith)
        (omega (arith, no_others.0, (extents_within na ka i l).others))

    second_digits : (i : ℕ) → i < nb → Digits 15 (get_or kb i 0)
    second_digits i l = parts_digits (second_parts i l) (omega arith)
        (omega (arith, no_others.1, (extents_within nb kb i l).others))

    gridded : (i j : ℕ) → i < na → j < nb → Gridded s (get_or ka i 0 + get_or kb j 0)
    gridded i j l m =
        rw w
        (product_gridded (extents na ka) (extents nb kb) first_low second_low (get_or ka i 0) (get_or kb j 0)
        (first_digits i l) (second_digits j m) (extents_within na ka i l) (extents_within nb kb j m))

    places : (i j : ℕ) → i < na → j < nb
        → place s (get_or ka i 0) + place s (get_or kb j 0) ≡ place s (get_or ka i 0 + get_or kb j 0)
    places i j l m =
        place_plus (extents na ka) (extents nb kb) first_low second_low (get_or ka i 0) (get_or kb j 0)
        (first_digits i l) (second_digits j m) (extents_within na ka i l) (extents_within nb kb j m)
        s.second s.third s.fourth

    pub grid_ready : {sums : List ℤ} {kept : List ℕ} {coefficients : List ℤ}
        → s.size ≤ length sums → KeptRoom kept coefficients
        → GridReady s ka ca na kb cb nb sums kept coefficients
    grid_ready ls r = record {
      whole = rw w (sides_whole (extents na ka) (extents nb kb));
      narrow = rw w (sides_narrow (extents na ka) (extents nb kb) first_low second_low);
      first_few = h.first_few;
      second_few = h.second_few;
      first_keys = h.first_keys;
      first_coefficients = h.first_coefficients;
      second_keys = h.second_keys;
      second_coefficients = h.second_coefficients;
      first_digits = first_digits;
      second_digits = second_digits;
      gridded = gridded;
      places = places;
      small = factors_size h;
      few_places = few;
      sums_room = ls;
      kept_room = r.kept_room;
      coefficients_room = r.coefficients_room;
    }
