-- What an order keeps of sums whose keys rise, each put after the others: what is asked, and what is promised.
use Rattle.std.specs.Prelude.{◌≡◌, List, [], ◌++◌, ℕ, zero, suc, ◌+◌, ◌*◌, ◌^◌, ◌<◌, ◌≤◌, T, ℤ, length, get_or}
use Rattle.calculus.specs.Terms.{Terms, size, rising}
use Rattle.calculus.specs.Model.{most_terms}
use Rattle.product_sums.specs.TermArrays.{terms}
use Rattle.product_sums.specs.declared.Gathered.{Gathered}
use Rattle.product_sums.specs.Kept.{wide_kept, wide_rounding, wide_swept, counted}

-- the first n parts, one after the other
unfoldable pub in_turn : (part : ℕ → Terms) (n : ℕ) → Terms
in_turn part zero = []
in_turn part (suc n) = in_turn part n ++ part n

-- ---- what is asked
-- places for one more than the most terms, of which n are taken
pub record Room (n : ℕ) (kept : List ℕ) (coefficients : List ℤ) : Type 0 where
  pub taken : n ≤ most_terms + 1
  pub kept_room : most_terms < length kept
  pub coefficients_room : most_terms < length coefficients

-- one term, and others whose keys rise; the sum of all products fits
pub record OneReady (ka : List ℕ) (ca : List ℤ) (kb : List ℕ) (cb : List ℤ) (nb : ℕ) : Type 0 where
  pub first_key : 1 ≤ length ka
  pub first_coefficient : 1 ≤ length ca
  pub few : nb ≤ most_terms
  pub keys_long : nb ≤ length kb
  pub coefficients_long : nb ≤ length cb
  pub keys_fit : (j : ℕ) → j < nb → get_or ka 0 0 + get_or kb j 0 < 2 ^ 64
  pub keys_rise : T (rising (terms nb kb cb))
  pub small : size (terms 1 ka ca) * size (terms nb kb cb) < 2 ^ 63

-- ---- what is promised
-- what is kept of q stands after the n that were kept, unless there are too many
pub record Part (d : ℕ) (q : Terms) (n : ℕ) (kept_before : List ℕ) (coefficients_before : List ℤ)
    (kept : List ℕ) (coefficients : List ℤ) (r : Gathered) : Type 0 where
  pub from : n ≤ r.count
  pub most : r.count ≤ most_terms + 1
  pub few : r.count ≤ most_terms → r.count ≡ n + length (wide_kept d q)
  pub many : most_terms < r.count → most_terms < n + length (wide_kept d q)
  pub following : r.count ≤ most_terms
      → terms r.count kept coefficients ≡ terms n kept_before coefficients_before ++ wide_kept d q
  pub rounding : r.rounding ≡ wide_rounding d q
  pub swept : r.swept ≡ wide_swept d q

-- what is kept of the sums zs stands in their order
pub record Scanned (d : ℕ) (zs : Terms) (kept : List ℕ) (coefficients : List ℤ) (r : Gathered) : Type 0 where
  pub answered : r ≡ counted (length (wide_kept d zs)) (wide_rounding d zs) (wide_swept d zs)
  pub terms : length (wide_kept d zs) ≤ most_terms → terms r.count kept coefficients ≡ wide_kept d zs
