-- What an order keeps of sums by wide key, and what is answered.
use Rattle.std.specs.Prelude.{◌≡◌, true, false, not, List, [], ℕ, ◌+◌, ◌≤◌, leb, ℤ, length}
use Rattle.numbers.specs.Fixed.{round, residual}
use Rattle.calculus.specs.Terms.{Terms, select, sum_ℕ, size, map_coefficients, drop_zeros}
use Rattle.calculus.specs.Model.{most_terms}
use Rattle.product_sums.specs.TermArrays.{terms}
use Rattle.product_sums.specs.Insertion.{sorted_into}
use Rattle.product_sums.specs.declared.Gathered.{Gathered}
use Rattle.product_sums.specs.Wide.{degree_byte}

-- ---- what order d keeps of sums by wide key, whose last byte is the degree
-- of degree at most d
unfoldable pub wide_within_order : (d : ℕ) → Terms → Terms
wide_within_order d = select (λ k z. leb (degree_byte k) d)

-- of degree above d
unfoldable pub wide_above_order : (d : ℕ) → Terms → Terms
wide_above_order d = select (λ k z. not (leb (degree_byte k) d))

-- rounded, without zeros
unfoldable pub wide_kept : (d : ℕ) → Terms → Terms
wide_kept d zs = drop_zeros (map_coefficients round (wide_within_order d zs))

-- what rounding leaves
unfoldable pub wide_rounding : (d : ℕ) → Terms → ℕ
wide_rounding d zs = sum_ℕ (λ k z. residual z) (wide_within_order d zs)

-- what is swept
unfoldable pub wide_swept : (d : ℕ) → Terms → ℕ
wide_swept d zs = size (wide_above_order d zs)

-- ---- what is answered
-- the number of terms and the shares, or one more than the most terms and no shares
unfoldable pub counted : (count rounding swept : ℕ) → Gathered
counted count rounding swept = elim (leb count most_terms) [
  | true ↦ record { count = count; rounding = rounding; swept = swept }
  | false ↦ record { count = most_terms + 1; rounding = 0; swept = 0 }
]

-- the sums zs are gathered
pub record Gathering (d : ℕ) (zs : Terms) (kept : List ℕ) (coefficients : List ℤ) (r : Gathered) : Type 0 where
  pub answered : r ≡ counted (length (wide_kept d zs)) (wide_rounding d zs) (wide_swept d zs)
  pub terms : length (wide_kept d zs) ≤ most_terms
      → terms r.count kept coefficients ≡ sorted_into [] (wide_kept d zs)
