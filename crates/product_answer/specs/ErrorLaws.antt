-- The error E of a product of models within the span limit fits 64 bits.
use Rattle.std.specs.Prelude.{◌≡◌, [], ◌∷◌, ℕ, ◌+◌, ◌*◌, ◌^◌, ◌≤◌, ◌<◌, leb, ℤ, nat_abs}
use Rattle.std.proofs.Math.Path.{refl}
use Rattle.std.proofs.Math.Nat as NatL
use native.Mathlib.Omega.{arith}
use Rattle.algebra.specs.Integer.{natAbs_add}
use Rattle.algebra.specs.IntegerRing.{ℤR}
use Rattle.polynomial.specs.Polynomial.{Term, product}
use Rattle.numbers.specs.Fixed.{U, span_limit, residual, round_up}
use Rattle.numbers.proofs.FixedLaws.{U_within, span_fits, span_square_fits, residual_le_abs, round_up_least}
use Rattle.calculus.specs.Monomial.{degree}
use Rattle.calculus.specs.Terms.{Terms, sum_over, sum_ℕ, size, insert, collect}
use Rattle.calculus.specs.Model.{Model, span}
use Rattle.calculus.specs.Operations.{products, within_order, above_order, carried, rounding, swept, error, slack}
use Rattle.calculus.specs.Shares.{product_shares}
use Rattle.calculus_laws.specs.TermsLaws.{by_insert}
use Rattle.calculus_laws.specs.SumLaws.{ℕ_addition, sum_split}
use Rattle.product_sums.specs.ProductsLaws.{size_product}
use Rattle.product_answer.specs.ErrorShares.{error_shares}

-- ---- collecting makes no sum of |c| larger
size_insert : (t : Term ℤ) (p : Terms) → size (insert t p) ≤ nat_abs t.coefficient + size p
unfolding size sum_over
size_insert t [] = unfold insert in omega arith
size_insert t (s ∷ p) = go (size_insert t p)
  where
    go : size (insert t p) ≤ nat_abs t.coefficient + size p
        → size (insert t (s ∷ p)) ≤ nat_abs t.coefficient + (nat_abs s.coefficient + size p)
    go h = by_insert (λ q. size q ≤ nat_abs t.coefficient + (nat_abs s.coefficient + size p)) t s p
        (λ e. omega (arith, natAbs_add t.coefficient s.coefficient)) (λ l. omega arith) (λ l. omega arith)

size_collect : (p : Terms) → size (collect p) ≤ size p
unfolding size sum_over collect
size_collect [] = omega arith
size_collect (t ∷ p) = omega (arith, size_insert t (collect p), size_collect p)

-- ---- what rounding leaves and what is swept
rounded_le : (p : Terms) → sum_ℕ (λ k z. residual z) p ≤ size p
unfolding size sum_over
rounded_le [] = omega arith
rounded_le (t ∷ p) = omega (arith, residual_le_abs t.coefficient, rounded_le p)

lost_le : (d : ℕ) (zs : Terms) → rounding d zs + swept d zs ≤ size zs
unfolding rounding swept size within_order above_order
lost_le d zs =
    let low = within_order d zs in
    omega (arith, rounded_le low, sum_split ℕ_addition (λ k z. nat_abs z) (λ k z. leb (degree k) d) zs)

-- ---- all shares
module _ (d : ℕ) (f g : Model) where
  lost_products : rounding d (products f g) + swept d (products f g) ≤ size f.terms * size g.terms
  unfolding products
  lost_products =
      let q = product ℤR f.terms g.terms in
      omega (arith, lost_le d (collect q), size_collect q, size_product f.terms g.terms)

  error_le : error d f g ≤ span f * span g
  unfolding error carried span
  error_le = omega (arith, lost_products)

  pub error_fits : span f ≤ span_limit → span g ≤ span_limit → error d f g < 2 ^ 63
  error_fits h k = omega (arith, error_le, NatL.mul-le-mul h k, span_square_fits)

  -- a product's shares are those of its error
  pub shares_are : error_shares (carried f g) (rounding d (products f g)) (swept d (products f g))
      ≡ product_shares d f g
  unfolding error_shares product_shares slack error
  shares_are = refl

-- ---- U × the radius fits
pub radius_fits : (E : ℕ) → E < 2 ^ 63 → U * round_up E < 2 ^ 64
radius_fits E h = omega (arith, round_up_least E, U_within, span_fits)
