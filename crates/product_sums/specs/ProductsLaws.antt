-- All products of two lists of terms: their size.
use Rattle.std.specs.Prelude.{◌≡◌, refl, [], ◌∷◌, ◌++◌, ◌+◌, ◌*◌, ℤ, nat_abs}
use Rattle.std.proofs.Common.{mul-add, add-mul}
use native.Mathlib.Omega.{arith}
use Rattle.algebra.specs.Integer.{nat_abs_mul}
use Rattle.algebra.specs.IntegerRing.{ℤR}
use Rattle.polynomial.specs.Polynomial.{Term, times, product}
use Rattle.calculus.specs.Terms.{Terms, sum_over, size}
use Rattle.calculus_laws.specs.SumLaws.{ℕ_addition, sum-++}

pub size_append : (p q : Terms) → size (p ++ q) ≡ size p + size q
unfolding size
size_append p q = sum-++ ℕ_addition (λ k c. nat_abs c) p q

pub size_nil : size [] ≡ 0
unfolding size sum_over
size_nil = refl

pub size_cons : (t : Term ℤ) (p : Terms) → size (t ∷ p) ≡ nat_abs t.coefficient + size p
unfolding size sum_over
size_cons t p = refl

pub size_times : (t : Term ℤ) (q : Terms) → size (times ℤR t q) ≡ nat_abs t.coefficient * size q
unfolding size sum_over times
size_times t [] = omega arith
size_times t (s ∷ q) = rw (mul-add, nat_abs_mul, size_times t q)

pub size_product : (p q : Terms) → size (product ℤR p q) ≡ size p * size q
unfolding product
size_product [] q = unfold size sum_over in omega arith
size_product (t ∷ p) q = rw (size_append, size_times, size_product p q, size_cons, add-mul)
