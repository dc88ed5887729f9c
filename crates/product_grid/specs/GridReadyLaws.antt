-- What the steps of a product in a grid ask, and what they come to.
use Rattle.std.specs.Prelude.{◌≡◌, List, [], ℕ, ◌+◌, ◌^◌, ◌<◌, ◌≤◌, ℤ, pos, length, get_or, replicate}
use Rattle.std.proofs.Common.{◌∙◌, ap₂, arith}
use Rattle.std.proofs.lemmas.List.{length-replicate}
use Rattle.algebra.specs.IntegerRing.{ℤR}
use Rattle.polynomial.specs.Polynomial.{product}
use Rattle.calculus.specs.Terms.{Terms, size}
use Rattle.product_sums.specs.TermArrays.{terms, scratch_places}
use Rattle.calculus_laws.specs.FilledLaws.{filled_at}
use Rattle.product_sums.specs.declared.Gathered.{Gathered}
use Rattle.product_sums.specs.ProductSums.{ProductGathered}
use Rattle.product_sums.specs.ProductsLaws.{size_product}
use Rattle.product_grid_index.specs.declared.Sides.{Sides}
use Rattle.product_grid_index.specs.Grid.{word}
use Rattle.product_grid_index.specs.Degrees.{TopDegree}
use Rattle.product_grid_index.specs.DigitLaws.{digits_sum}
use Rattle.product_grid_index.specs.DegreeLaws.{degree_most, degree_plus, word_plus}
use Rattle.product_grid_fill.specs.Filling.{AllFit, SummedUp}
use Rattle.product_grid_scan.specs.product_rising.Rising.{Scanned}
use Rattle.product_grid_scan.specs.GridTerms.{ScanReady, grid_terms}
use Rattle.product_grid.specs.GridContracts.{GridReady, Zeros}
use Rattle.product_grid_scan.specs.product_rising.SameSumsLaws.{scanned_gathering}
use Rattle.product_grid.specs.GridWalkLaws.{Keyed}
use Rattle.product_grid.specs.GridSumsLaws.{Reached, keyed_products, sums_rising, first_distinct, same_sums}
use Rattle.product_grid.specs.GridSumsLaws.{sums_small}

-- an array of zeros
pub fresh_zeros : (n size : ℕ) → Zeros size (replicate n (pos 0))
fresh_zeros n size i h = filled_at (pos 0) n i

-- an array of zeros for degrees
pub fresh_short : (n : ℕ) (i : ℕ) → get_or {A = ℕ} (replicate n 0) i 0 < 2 ^ 8
fresh_short n i = rw (filled_at {A = ℕ} 0 n i) (omega arith)

module _ {s : Sides} {ka : List ℕ} {ca : List ℤ} {na : ℕ} {kb : List ℕ} {cb : List ℤ} {nb : ℕ} {sums : List ℤ}
    {kept : List ℕ} {coefficients : List ℤ} (q : GridReady s ka ca na kb cb nb sums kept coefficients) where
  abbrev p : Terms
  p = product ℤR (terms na ka ca) (terms nb kb cb)

  pub small : size (product ℤR (terms na ka ca) (terms nb kb cb)) < 2 ^ 63
  small = omega (arith, size_product (terms na ka ca) (terms nb kb cb), q.small)

  -- other sums at as many places
  pub ready_again : (others : List ℤ) → length others ≡ length sums
      → GridReady s ka ca na kb cb nb others kept coefficients
  ready_again others long = record {
    whole = q.whole;
    narrow = q.narrow;
    first_few = q.first_few;
    second_few = q.second_few;
    first_keys = q.first_keys;
    first_coefficients = q.first_coefficients;
    second_keys = q.second_keys;
    second_coefficients = q.second_coefficients;
    first_digits = q.first_digits;
    second_digits = q.second_digits;
    gridded = q.gridded;
    places = q.places;
    small = q.small;
    few_places = q.few_places;
    sums_room = omega (arith, q.sums_room, long);
    kept_room = q.kept_room;
    coefficients_room = q.coefficients_room;
  }

  -- to fill the grid
  unfoldable pub all_fit : Zeros s.size sums → (ia ib : List ℕ) → na ≤ length ia → nb ≤ length ib
      → ((i : ℕ) → i < na → get_or ia i 0 ≡ word s (get_or ka i 0))
      → ((j : ℕ) → j < nb → get_or ib j 0 ≡ word s (get_or kb j 0))
      → AllFit sums (replicate scratch_places 0) ca ia na cb ib nb
  all_fit z ia ib la lb pa pb = record {
    sides = s;
    ka = ka;
    kb = kb;
    zeros = z;
    short = fresh_short scratch_places;
    few_places = omega (arith, q.few_places);
    sums_room = q.sums_room;
    degrees_room = rw length-replicate q.few_places;
    first_keys = q.first_keys;
    first_coefficients = q.first_coefficients;
    first_words = la;
    second_keys = q.second_keys;
    second_coefficients = q.second_coefficients;
    second_words = lb;
    gridded = q.gridded;
    words = λ i j h l.
        ap₂ ◌+◌ (pa i h) (pb j l)
        ∙ word_plus s.second s.third s.fourth (q.first_digits i h) (q.second_digits j l) (q.places i j h l);
    small = small;
  }

  -- no degree is above the sum of the two largest
  module _ {a b : ℕ} (ta : TopDegree ka na a) (tb : TopDegree kb nb b) where
    pub most_low : a + b < 127
    most_low =
        omega (
          arith,
          ta.least 60 (λ i h. degree_most (q.first_digits i h)),
          tb.least 60 (λ j h. degree_most (q.second_digits j h)),
        )

    reached : Keyed (λ x z. Reached s (a + b) x) p
    reached =
        keyed_products (λ x z. Reached s (a + b) x) na nb ka ca kb cb
        (λ i j z h l.
        let x = q.first_digits i h in
        let y = q.second_digits j l in
        record {
          gridded = q.gridded i j h l;
          digits = digits_sum x y;
          low = omega (arith, degree_plus x y, ta.each i h, tb.each j l);
        })

    -- once it is filled
    module _ (filled : List ℤ) (degrees : List ℕ) (f : SummedUp s p filled degrees)
        (long : length filled ≡ length sums) (wide : length degrees ≡ scratch_places) where
      pub scan_ready : ScanReady filled degrees s.first s.second s.third s.fourth (a + b)
      scan_ready = record {
        places = omega (arith, q.whole, q.sums_room, long);
        marks = omega (arith, q.whole, q.few_places, wide);
        short_second = omega (arith, q.narrow.short_second);
        short_third = omega (arith, q.narrow.short_third);
        low = most_low;
        small = omega (arith, sums_small s p filled degrees f q.whole (a + b) most_low reached, small);
      }

      pub scanned : (d : ℕ) {kept_after : List ℕ} {coefficients_after : List ℤ} {r : Gathered}
          → Scanned d (grid_terms filled degrees s.first s.second s.third s.fourth (a + b))
          kept_after coefficients_after r
          → ProductGathered d na ka ca nb kb cb
          kept_after coefficients_after r
      scanned d w =
          scanned_gathering d _ _ (sums_rising s p filled degrees f q.whole (a + b) most_low reached)
          (first_distinct s p filled degrees f q.whole (a + b) most_low reached)
          (same_sums s p filled degrees f q.whole (a + b) most_low reached) w
