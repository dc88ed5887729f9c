-- Laws of rings, of the numbers in them and of powers.
use Rattle.std.specs.Prelude.{◌≡◌}
use Rattle.std.proofs.Math.Path.{refl, sym}
use Rattle.std.proofs.Common.{◌∙◌, ap, ap₂}
use Prim.Native.Nat.{ℕ, zero, suc}
use Prim.Native.Nat as N
use Rattle.std.proofs.Math.Nat as NatL
use Rattle.algebra.specs.Ring.{Ring, nat, pow}

module _ (R : Ring) where
  open R use {Carrier, 0#, 1#, ◌+◌, ◌*◌, neg, +_assoc, +_comm, +-zero, +-neg, *-assoc, *-comm, *-one, dist}

  infixl 60 ◌+◌
  infixl 70 ◌*◌
  -- ---- from the axioms
  pub +-lcomm : (a b c : Carrier) → a + (b + c) ≡ b + (a + c)
  +-lcomm a b c = sym (+_assoc a b c) ∙ ap (λ x. x + c) (+_comm a b) ∙ +_assoc b a c

  pub *-lcomm : (a b c : Carrier) → a * (b * c) ≡ b * (a * c)
  *-lcomm a b c = sym (*-assoc a b c) ∙ ap (λ x. x * c) (*-comm a b) ∙ *-assoc b a c

  pub zero-+ : (a : Carrier) → 0# + a ≡ a
  zero-+ a = +_comm 0# a ∙ +-zero a

  pub distl : (a b c : Carrier) → a * (b + c) ≡ a * b + a * c
  distl a b c = *-comm a (b + c) ∙ dist b c a ∙ ap₂ ◌+◌ (*-comm b a) (*-comm c a)

  pub +-cancel : (a b c : Carrier) → a + c ≡ b + c → a ≡ b
  +-cancel a b c e = sym (back a) ∙ ap (λ x. x + neg c) e ∙ back b
    where
      back : (x : Carrier) → (x + c) + neg c ≡ x
      back x = +_assoc x c (neg c) ∙ ap (λ y. x + y) (+-neg c) ∙ +-zero x

  pub zero-* : (a : Carrier) → 0# * a ≡ 0#
  zero-* a = +-cancel (0# * a) 0# (0# * a) (sym (dist 0# 0# a) ∙ ap (λ x. x * a) (+-zero 0#) ∙ sym (zero-+ (0# * a)))

  pub *-zero : (a : Carrier) → a * 0# ≡ 0#
  *-zero a = *-comm a 0# ∙ zero-* a

  pub one-* : (a : Carrier) → 1# * a ≡ a
  one-* a = *-comm 1# a ∙ *-one a

  -- ---- differences: x is p − n where x + n is p
  pub difference_add : (x y n m p q : Carrier) → x + n ≡ p → y + m ≡ q → (x + y) + (n + m) ≡ p + q
  difference_add x y n m p q h k = rw (← h, ← k) (simp (+_assoc, +-lcomm))

  pub difference_mul : (x y n m p q : Carrier) → x + n ≡ p → y + m ≡ q → x * y + (p * m + n * q) ≡ p * q + n * m
  difference_mul x y n m p q h k = rw (← h, ← k) (simp (dist, distl, +_assoc, +-lcomm))

  pub difference_neg : (x n p : Carrier) → x + n ≡ p → neg x + p ≡ n
  difference_neg x n p h =
      rw (← h) (sym (+_assoc (neg x) x n) ∙ ap (λ y. y + n) (+_comm (neg x) x ∙ +-neg x) ∙ zero-+ n)

  -- ---- natural numbers
  pub nat_zero : nat R 0 ≡ 0#
  unfolding nat
  nat_zero = refl

  pub nat_suc : (n : ℕ) → nat R (suc n) ≡ 1# + nat R n
  unfolding nat
  nat_suc n = refl

  pub nat_one : nat R 1 ≡ 1#
  nat_one = nat_suc 0 ∙ ap (λ x. 1# + x) nat_zero ∙ +-zero 1#

  pub nat_add : (m n : ℕ) → nat R (N.◌+◌ m n) ≡ nat R m + nat R n
  unfolding nat
  nat_add zero n = rw NatL.zero-add (sym (zero-+ (nat R n)))
  nat_add (suc m) n = rw NatL.suc-add (ap (λ x. 1# + x) (nat_add m n) ∙ sym (+_assoc 1# (nat R m) (nat R n)))

  pub nat_mul : (m n : ℕ) → nat R (N.◌*◌ m n) ≡ nat R m * nat R n
  unfolding nat
  nat_mul zero n = rw NatL.zero-mul (sym (zero-* (nat R n)))
  nat_mul (suc m) n = rw (NatL.suc-mul, nat_add) (simp (nat_mul m n, dist, one-*, +_comm))

  -- ---- powers
  pub pow-add : (x : Carrier) (m n : ℕ) → pow R x (N.◌+◌ m n) ≡ pow R x m * pow R x n
  unfolding pow
  pow-add x zero n = rw NatL.zero-add (sym (one-* _))
  pow-add x (suc m) n = rw NatL.suc-add (ap (λ y. x * y) (pow-add x m n) ∙ sym (*-assoc _ _ _))

  pub pow_one : (n : ℕ) → pow R 1# n ≡ 1#
  unfolding pow
  pow_one zero = refl
  pow_one (suc n) = one-* _ ∙ pow_one n
