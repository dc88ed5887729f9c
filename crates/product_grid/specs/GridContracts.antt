-- What a product in a grid asks.
use Rattle.std.specs.Prelude.{◌≡◌, List, ℕ, ◌+◌, ◌*◌, ◌^◌, ◌<◌, ◌≤◌, ℤ, pos, length, get_or}
use Rattle.calculus.specs.Terms.{size}
use Rattle.calculus.specs.Model.{most_terms}
use Rattle.product_sums.specs.TermArrays.{terms, scratch_places}
use Rattle.product_grid_index.specs.declared.Sides.{Sides}
use Rattle.product_grid_index.specs.Grid.{Narrow, place, Gridded}
use Rattle.product_grid_index.specs.DigitLaws.{Digits}

-- a grid with places for the products of na terms with nb others, and places for one more than the most terms
pub record GridReady (s : Sides) (ka : List ℕ) (ca : List ℤ) (na : ℕ) (kb : List ℕ) (cb : List ℤ) (nb : ℕ)
    (sums : List ℤ) (kept : List ℕ) (coefficients : List ℤ) : Type 0 where
  pub whole : s.first * s.second * s.third * s.fourth ≤ s.size
  pub narrow : Narrow s.second s.third s.fourth
  pub first_few : na ≤ most_terms
  pub second_few : nb ≤ most_terms
  pub first_keys : na ≤ length ka
  pub first_coefficients : na ≤ length ca
  pub second_keys : nb ≤ length kb
  pub second_coefficients : nb ≤ length cb
  pub first_digits : (i : ℕ) → i < na → Digits 15 (get_or ka i 0)
  pub second_digits : (j : ℕ) → j < nb → Digits 15 (get_or kb j 0)
  pub gridded : (i j : ℕ) → i < na → j < nb → Gridded s (get_or ka i 0 + get_or kb j 0)
  pub places : (i j : ℕ) → i < na → j < nb
      → place s (get_or ka i 0) + place s (get_or kb j 0) ≡ place s (get_or ka i 0 + get_or kb j 0)
  pub small : size (terms na ka ca) * size (terms nb kb cb) < 2 ^ 63
  pub few_places : s.size ≤ scratch_places
  pub sums_room : s.size ≤ length sums
  pub kept_room : most_terms < length kept
  pub coefficients_room : most_terms < length coefficients

-- sums that are all 0
abbrev pub Zeros : (size : ℕ) (sums : List ℤ) → Type 0
Zeros size sums = (i : ℕ) → i < size → get_or sums i (pos 0) ≡ pos 0
