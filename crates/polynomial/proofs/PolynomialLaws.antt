-- What the operations on polynomials do to the value.
use Rattle.std.specs.Prelude.{◌≡◌, length}
use Rattle.std.proofs.Math.Path.{refl, sym, ap, ap₂}
use Rattle.std.proofs.Common.{◌∙◌, arith}
use mathlib.Core.List.{List, [], ◌∷◌}
use Prim.Native.Nat.{ℕ, zero, suc, ◌<◌}
use Rattle.algebra.specs.Ring.{Ring, pow}
use Rattle.algebra.specs.RingLaws.{zero-+, one-*, zero-*, *-zero, pow-add}
use Rattle.algebra.specs.RingSolver.{𝟎, 𝟏, ◌⊞◌, ◌⊠◌, ⊝◌, ring}
use Rattle.polynomial.specs.Polynomial.{Term, add_exponents, exponent, without, replace, Polynomial, monomial}
use Rattle.polynomial.specs.Polynomial.{eval, constant, sum, scale, negation, times, product, power}
use Rattle.polynomial.specs.Polynomial.{substitute_term, substitute}

module _ (R : Ring) where
  open R use {Carrier, 1#, ◌+◌, ◌*◌, neg, +_assoc, *-assoc, *-one, dist}

  infixl 60 ◌+◌
  infixl 70 ◌*◌
  pub monomial_add : (k l : List ℕ) (xs : List Carrier)
      → monomial R (add_exponents k l) xs ≡ monomial R k xs * monomial R l xs
  unfolding add_exponents monomial
  monomial_add [] l xs = sym (one-* R _)
  monomial_add (a ∷ k) [] xs = sym (*-one _)
  monomial_add (a ∷ k) (b ∷ l) [] = sym (*-one _)
  monomial_add (a ∷ k) (b ∷ l) (x ∷ xs) = ap₂ ◌*◌ (pow-add R x a b) (monomial_add k l xs)
      ∙ ring 4 R (λ a b c d. a ⊠ b ⊠ (c ⊠ d)) (λ a b c d. a ⊠ c ⊠ (b ⊠ d)) refl _ _ _ _

  pub eval_constant : (c : Carrier) (xs : List Carrier) → eval R (constant R c) xs ≡ c
  unfolding constant eval monomial
  eval_constant c xs = ring 1 R (λ c. c ⊠ 𝟏 ⊞ 𝟎) (λ c. c) refl c

  pub eval_sum : (p q : Polynomial R) (xs : List Carrier) → eval R (sum R p q) xs ≡ eval R p xs + eval R q xs
  unfolding eval
  eval_sum [] q xs = sym (zero-+ R _)
  eval_sum (t ∷ p) q xs =
      ap (λ z. t.coefficient * monomial R t.exponents xs + z) (eval_sum p q xs) ∙ sym (+_assoc _ _ _)

  pub eval_scale : (c : Carrier) (p : Polynomial R) (xs : List Carrier) → eval R (scale R c p) xs ≡ c * eval R p xs
  unfolding scale eval
  eval_scale c [] xs = sym (*-zero R c)
  eval_scale c (t ∷ p) xs = ap (λ z. c * t.coefficient * monomial R t.exponents xs + z) (eval_scale c p xs)
      ∙ ring 4 R (λ c a m v. c ⊠ a ⊠ m ⊞ c ⊠ v) (λ c a m v. c ⊠ (a ⊠ m ⊞ v)) refl _ _ _ _

  pub eval_negation : (p : Polynomial R) (xs : List Carrier) → eval R (negation R p) xs ≡ neg (eval R p xs)
  eval_negation p xs = eval_scale (neg 1#) p xs ∙ ring 1 R (λ x. ⊝ 𝟏 ⊠ x) (λ x. ⊝ x) refl (eval R p xs)

  pub eval_times : (t : Term Carrier) (q : Polynomial R) (xs : List Carrier)
      → eval R (times R t q) xs ≡ t.coefficient * monomial R t.exponents xs * eval R q xs
  unfolding times eval
  eval_times t [] xs = sym (*-zero R _)
  eval_times t (s ∷ q) xs = ap₂ ◌+◌
      (ap (λ z. t.coefficient * s.coefficient * z) (monomial_add t.exponents s.exponents xs))
      (eval_times t q xs)
      ∙ ring 5 R (λ a b c d v. a ⊠ b ⊠ (c ⊠ d) ⊞ a ⊠ c ⊠ v) (λ a b c d v. a ⊠ c ⊠ (b ⊠ d ⊞ v)) refl _ _ _ _ _

  pub eval_product : (p q : Polynomial R) (xs : List Carrier)
      → eval R (product R p q) xs ≡ eval R p xs * eval R q xs
  unfolding product eval
  eval_product [] q xs = sym (zero-* R _)
  eval_product (t ∷ p) q xs = eval_sum (times R t q) (product R p q) xs
      ∙ ap₂ ◌+◌ (eval_times t q xs) (eval_product p q xs) ∙ sym (dist _ _ _)

  pub eval_power : (p : Polynomial R) (n : ℕ) (xs : List Carrier) → eval R (power R p n) xs ≡ pow R (eval R p xs) n
  unfolding power pow
  eval_power p zero xs = eval_constant 1# xs
  eval_power p (suc n) xs = eval_product p (power R p n) xs ∙ ap (λ z. eval R p xs * z) (eval_power p n xs)

  pub monomial_replace : (es : List ℕ) (v : ℕ) (y : Carrier) (xs : List Carrier) → v < length xs
      → monomial R es (replace v y xs) ≡ monomial R (without v es) xs * pow R y (exponent v es)
  unfolding monomial replace without exponent pow
  monomial_replace [] v y xs l = sym (*-one 1#)
  monomial_replace (e ∷ es) v y [] l = absurd (omega arith)
  monomial_replace (e ∷ es) zero y (x ∷ xs) l = ring 2 R (λ p m. p ⊠ m) (λ p m. 𝟏 ⊠ m ⊠ p) refl _ _
  monomial_replace (e ∷ es) (suc v) y (x ∷ xs) l =
      ap (λ z. pow R x e * z) (monomial_replace es v y xs (omega arith)) ∙ sym (*-assoc _ _ _)

  eval_substitute_term : (v : ℕ) (q : Polynomial R) (t : Term Carrier) (xs : List Carrier) → v < length xs
      → eval R (substitute_term R v q t) xs ≡ t.coefficient * monomial R t.exponents (replace v (eval R q xs) xs)
  unfolding substitute_term
  eval_substitute_term v q t xs l = eval_times _ (power R q (exponent v t.exponents)) xs
      ∙ ap (λ z. t.coefficient * monomial R (without v t.exponents) xs * z)
      (eval_power q (exponent v t.exponents) xs)
      ∙ *-assoc _ _ _
      ∙ ap (λ z. t.coefficient * z) (sym (monomial_replace t.exponents v (eval R q xs) xs l))

  -- the value of the substituted polynomial is the value at the changed point
  pub eval_substitute : (v : ℕ) (q p : Polynomial R) (xs : List Carrier) → v < length xs
      → eval R (substitute R v q p) xs ≡ eval R p (replace v (eval R q xs) xs)
  unfolding substitute eval
  eval_substitute v q [] xs l = refl
  eval_substitute v q (t ∷ p) xs l = eval_sum (substitute_term R v q t) (substitute R v q p) xs
      ∙ ap₂ ◌+◌ (eval_substitute_term v q t xs l) (eval_substitute v q p xs l)
