-- Laws of reciprocals.
use Rattle.std.specs.Prelude.{◌≡◌, refl, ℕ, ◌≤◌}
use Rattle.std.proofs.Common.{sym, ◌∙◌, ap, ap₂, arith}
use Prim.Native.Nat as N
use Rattle.std.proofs.Math.Nat as NatL
use Rattle.algebra.specs.Ring.{nat}
use Rattle.algebra.specs.RingLaws.{one-*, nat_one, nat_mul}
use Rattle.algebra.specs.RingSolver.{◌⊠◌, ring}
use Rattle.algebra.specs.OrderedLaws.{≤-reflexive, square_nonneg, nat_nonneg}
use Rattle.algebra.specs.Field.{Field}

module _ (F : Field) where
  open F use {ordered as O, reciprocal, nat_reciprocal}
  open O use {ring as R, ≤_trans, ≤-mul}
  open R use {Carrier, 0#, 1#, ◌*◌, *-one}

  infixl 70 ◌*◌
  -- a number has one reciprocal
  reciprocal_unique : (n : ℕ) (x : Carrier) → 1 ≤ n → nat R n * x ≡ 1# → reciprocal n ≡ x
  reciprocal_unique n x l h = sym (*-one _) ∙ ap (λ z. reciprocal n * z) (sym h)
      ∙ ring 3 R (λ n r x. r ⊠ (n ⊠ x)) (λ n r x. (n ⊠ r) ⊠ x) refl (nat R n) (reciprocal n) x
      ∙ ap (λ z. z * x) (nat_reciprocal n l) ∙ one-* R x

  pub reciprocal_one : reciprocal 1 ≡ 1#
  reciprocal_one = reciprocal_unique 1 1# (omega arith) (*-one _ ∙ nat_one R)

  pub reciprocal_mul : (m n : ℕ) → 1 ≤ m → 1 ≤ n → reciprocal (N.◌*◌ m n) ≡ reciprocal m * reciprocal n
  reciprocal_mul m n h k = reciprocal_unique (N.◌*◌ m n) _ (NatL.mul-pos h k)
      (ap (λ z. z * (reciprocal m * reciprocal n)) (nat_mul R m n)
      ∙ ring 4 R (λ a b c d. a ⊠ b ⊠ (c ⊠ d)) (λ a b c d. (a ⊠ c) ⊠ (b ⊠ d)) refl _ _ _ _
      ∙ ap₂ ◌*◌ (nat_reciprocal m h) (nat_reciprocal n k) ∙ *-one 1#)

  pub reciprocal_nonneg : (n : ℕ) → 1 ≤ n → O.◌≤◌ 0# (reciprocal n)
  reciprocal_nonneg n l = ≤_trans (≤-mul (nat_nonneg O n) (square_nonneg O (reciprocal n)))
      (≤-reflexive O (ring 2 R (λ n r. n ⊠ (r ⊠ r)) (λ n r. r ⊠ (n ⊠ r)) refl (nat R n) (reciprocal n)
      ∙ ap (λ z. reciprocal n * z) (nat_reciprocal n l) ∙ *-one _))
