-- Points of the box: their length, another coordinate, and monomials at them.
use Rattle.std.specs.Prelude.{◌≡◌, refl, Bool, length}
use Rattle.std.proofs.Common.{ap}
use Rattle.std.proofs.Math.Path.{subst}
use Rattle.std.proofs.Math.Bool.{true, false, not-not}
use mathlib.Core.List.{List, [], ◌∷◌}
use Prim.Native.Nat.{ℕ, zero, suc}
use Rattle.std.proofs.Math.Dec.{T}
use Rattle.algebra.specs.Ring.{pow}
use Rattle.algebra.specs.RingLaws.{pow_one}
use Rattle.algebra.specs.Ordered.{Ordered, abs}
use Rattle.algebra.specs.OrderedLaws.{≤-reflexive, abs_pos, abs_prod, one_nonneg, square_nonneg, pow_le}
use Rattle.polynomial.specs.Polynomial.{replace, monomial}
use Rattle.polynomial.specs.Box.{Box, none, more}
use Rattle.polynomial.specs.Integral.{even, first, rest, all_even}

module _ (O : Ordered) where
  open O use {ring as R, ◌≤◌, ≤_trans, ≤-mul}
  open R use {Carrier, 0#, 1#, ◌*◌, *-assoc, *-one}

  infixl 70 ◌*◌
  infix 50 ◌≤◌
  pub box_length : {n : ℕ} {xs : List Carrier} → Box O n xs → length xs ≡ n
  box_length none = refl
  box_length (more h b) = ap suc (box_length b)

  pub box_replace : (v : ℕ) (y : Carrier) → abs O y ≤ 1# → {n : ℕ} {xs : List Carrier} → Box O n xs
      → Box O n (replace v y xs)
  unfolding replace
  box_replace v y hy none = none
  box_replace zero y hy (more h b) = more hy b
  box_replace (suc v) y hy (more h b) = more h (box_replace v y hy b)

  pub monomial_le : (es : List ℕ) {n : ℕ} {xs : List Carrier} → Box O n xs → abs O (monomial R es xs) ≤ 1#
  unfolding monomial
  monomial_le [] b = ≤-reflexive O (abs_pos O (one_nonneg O))
  monomial_le (e ∷ es) none = ≤-reflexive O (abs_pos O (one_nonneg O))
  monomial_le (e ∷ es) (more h b) =
      ≤_trans (abs_prod O _ _ (≤_trans (pow_le O _ h e) (≤-reflexive O (pow_one R e))) (monomial_le es b))
      (≤-reflexive O (*-one 1#))

  -- ---- even exponents: not negative, at any point
  pow_even : (x : Carrier) (n : ℕ) → T (even n) → 0# ≤ pow R x n
  unfolding pow even
  pow_even x zero h = one_nonneg O
  pow_even x (suc zero) h = absurd h
  pow_even x (suc (suc n)) h =
      subst (λ y. 0# ≤ y) (*-assoc x x (pow R x n))
      (≤-mul (square_nonneg O x) (pow_even x n (subst T (not-not (even n)) h)))

  all_even_parts : (e : ℕ) (es : List ℕ) → T (all_even (length (e ∷ es)) (e ∷ es))
      → T (even e) × T (all_even (length es) es)
  unfolding all_even first rest
  all_even_parts e es = go (even e)
    where
      go : (b : Bool) → T (elim b as (λ b. Bool) [ true ↦ all_even (length es) es | false ↦ false ])
          → T b × T (all_even (length es) es)
      go true h = (tt, h)
      go false h = absurd h

  pub monomial_even : (es : List ℕ) (xs : List Carrier) → T (all_even (length es) es) → 0# ≤ monomial R es xs
  unfolding monomial
  monomial_even [] xs h = one_nonneg O
  monomial_even (e ∷ es) [] h = one_nonneg O
  monomial_even (e ∷ es) (x ∷ xs) h =
      ≤-mul (pow_even x e (all_even_parts e es h).0) (monomial_even es xs (all_even_parts e es h).1)
