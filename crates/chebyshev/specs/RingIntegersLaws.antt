-- The integers in a ring add, multiply and turn their sign there; in an ordered ring they have their size, and in ℚ
-- they are the whole numbers.
use Rattle.std.specs.Prelude.{◌≡◌, ℕ, suc, ℤ, pos, negsuc, neg_ℤ, ◌+ℤ◌, ◌*ℤ◌, nat_abs}
use Rattle.std.proofs.Math.Path.{refl, sym, ap}
use Rattle.std.proofs.Common.{◌∙◌}
use Rattle.algebra.specs.Integer.{Is, is+, is-, is, is_add, is_mul, is_neg}
use Rattle.algebra.specs.Ring.{Ring, nat}
use Rattle.algebra.specs.RingLaws.{+-cancel, difference_add, difference_mul, difference_neg, nat_add, nat_mul}
use Rattle.algebra.specs.Ordered.{Ordered, abs}
use Rattle.algebra.specs.OrderedLaws.{abs_is, abs_is⁻, nat_nonneg}
use Rattle.algebra.proofs.Rational.{negℚ, whole}
use Rattle.algebra.proofs.RationalRing.{ℚR}
use Rattle.algebra.proofs.RationalLaws.{nat_whole, whole_neg}
use Rattle.chebyshev.specs.RingIntegers.{int}

module _ (R : Ring) where
  open R use {Carrier, ◌+◌, ◌*◌, neg}

  infixl 60 ◌+◌
  infixl 70 ◌*◌
  -- x is p − n where x + n is p
  difference_unique : (x y n p : Carrier) → x + n ≡ p → y + n ≡ p → x ≡ y
  difference_unique x y n p h k = +-cancel R x y n (h ∙ sym k)

  pub int_pos : (n : ℕ) → int R (pos n) ≡ nat R n
  unfolding int
  int_pos n = refl

  int_is : {z : ℤ} {a b : ℕ} → Is z a b → int R z + nat R b ≡ nat R a
  unfolding int
  int_is (is+ {n = n} {b = b} h) = sym (nat_add R n b) ∙ ap (nat R) h
  int_is (is- {n = n} {a = a} h) = difference_neg R _ _ _ (sym (nat_add R (suc n) a) ∙ ap (nat R) h)

  pub int-+ : (x y : ℤ) → int R (x +ℤ y) ≡ int R x + int R y
  int-+ x y = difference_unique _ _ _ _ (simp (nat_add R) at (int_is (is_add (is x) (is y))))
      (difference_add R _ _ _ _ _ _ (int_is (is x)) (int_is (is y)))

  pub int-* : (x y : ℤ) → int R (x *ℤ y) ≡ int R x * int R y
  int-* x y = difference_unique _ _ _ _ (simp (nat_add R, nat_mul R) at (int_is (is_mul (is x) (is y))))
      (difference_mul R _ _ _ _ _ _ (int_is (is x)) (int_is (is y)))

  pub int_neg : (x : ℤ) → int R (neg_ℤ x) ≡ neg (int R x)
  int_neg x = difference_unique _ _ _ _ (int_is (is_neg (is x))) (difference_neg R _ _ _ (int_is (is x)))

module _ (O : Ordered) where
  open O use {ring as R}

  pub int_abs : (z : ℤ) → abs O (int R z) ≡ nat R (nat_abs z)
  unfolding int
  int_abs (pos n) = abs_is O (nat_nonneg O n) refl
  int_abs (negsuc n) = abs_is⁻ O (nat_nonneg O (suc n)) refl

pub int_whole : (z : ℤ) → int ℚR z ≡ whole z
unfolding int
int_whole (pos n) = nat_whole n
int_whole (negsuc n) = ap negℚ (nat_whole (suc n)) ∙ sym (whole_neg (pos (suc n)))
