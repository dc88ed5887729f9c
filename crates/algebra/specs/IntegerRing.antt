-- The integers as an ordered ring.
use Rattle.std.specs.Prelude.{◌≡◌, ◌⊎◌, ℕ, suc, ◌+◌, ◌*◌, ◌≤◌, ℤ, pos, negsuc, neg_ℤ, ◌+ℤ◌, ◌*ℤ◌, ◌≤ℤ◌}
use Rattle.std.proofs.Common.{subst, inl, inr, arith, leb→le, le→leb}
use Rattle.std.proofs.Math.Nat as NatL
use Rattle.std.proofs.Math.Decide.{dec_le}
use Rattle.std.specs.Int.Signed.{le_z_yes}
use Rattle.algebra.specs.Integer.{Is, is+, is-, is, is_eq, is_add, is_mul, is_neg, is_nat, plus, minus}
use Rattle.algebra.specs.Ring.{Ring}
use Rattle.algebra.specs.Ordered.{Ordered}

-- the integers as a ring
abbrev pub ℤR : Ring
ℤR = record {
  Carrier = ℤ;
  0# = pos 0;
  1# = pos 1;
  ◌+◌ = ◌+ℤ◌;
  ◌*◌ = ◌*ℤ◌;
  neg = neg_ℤ;
  +_assoc = λ a b c. is_eq (is_add (is_add (is a) (is b)) (is c)) (is_add (is a) (is_add (is b) (is c))) (omega arith);
  +_comm = λ a b. is_eq (is_add (is a) (is b)) (is_add (is b) (is a)) (omega arith);
  +-zero = λ a. is_eq (is_add (is a) (is_nat 0)) (is a) (omega arith);
  +-neg = λ a. is_eq (is_add (is a) (is_neg (is a))) (is_nat 0) (omega arith);
  *-assoc = λ a b c. is_eq (is_mul (is_mul (is a) (is b)) (is c)) (is_mul (is a) (is_mul (is b) (is c))) (omega arith);
  *-comm = λ a b. is_eq (is_mul (is a) (is b)) (is_mul (is b) (is a)) (omega arith);
  *-one = λ a. is_eq (is_mul (is a) (is_nat 1)) (is a) (omega arith);
  dist = λ a b c. is_eq (is_mul (is_add (is a) (is b)) (is c)) (is_add (is_mul (is a) (is c)) (is_mul (is b) (is c)))
      (omega arith);
}

-- ---- the order, said of naturals
pub le_of : {x y : ℤ} {a b c d : ℕ} → Is x a b → Is y c d → x ≤ℤ y → a + d ≤ c + b
le_of (is+ {n = m} h) (is+ {n = n} k) l = let e : m ≤ n = leb→le m n l.le in omega arith
le_of (is+ h) (is- k) l = absurd l.le
le_of (is- h) (is+ k) l = omega arith
le_of (is- {n = m} h) (is- {n = n} k) l = let e : n ≤ m = leb→le n m l.le in omega arith

pub of_le : {x y : ℤ} {a b c d : ℕ} → Is x a b → Is y c d → a + d ≤ c + b → x ≤ℤ y
of_le (is+ {n = m} h) (is+ {n = n} k) l = le_z_yes (le→leb m n (omega arith))
of_le (is+ h) (is- k) l = absurd (omega arith)
of_le (is- h) (is+ k) l = le_z_yes tt
of_le (is- {n = m} h) (is- {n = n} k) l = le_z_yes (le→leb n m (omega arith))

pub ≤ℤ_total : (x y : ℤ) → x ≤ℤ y ⊎ y ≤ℤ x
≤ℤ_total x y = go (dec_le (plus x + minus y) (plus y + minus x))
  where
    go : Dec (plus x + minus y ≤ plus y + minus x) → x ≤ℤ y ⊎ y ≤ℤ x
    go (yes h) = inl (of_le (is x) (is y) h)
    go (no h) = inr (of_le (is y) (is x) (omega arith))

pub ≤ℤ_mul : {x y : ℤ} → pos 0 ≤ℤ x → pos 0 ≤ℤ y → pos 0 ≤ℤ (x *ℤ y)
≤ℤ_mul {x = pos m} {y = pos n} h k = le_z_yes (le→leb 0 (m * n) (omega arith))
≤ℤ_mul {x = pos m} {y = negsuc n} h k = absurd k.le
≤ℤ_mul {x = negsuc m} {y} h k = absurd h.le

-- the integers as an ordered ring
abbrev pub ℤO : Ordered
ℤO = record {
  ring = ℤR;
  ◌≤◌ = ◌≤ℤ◌;
  ≤-refl = λ a. of_le (is a) (is a) (omega arith);
  ≤_trans = λ {a} {b} {c} h k. of_le (is a) (is c) (omega (arith, le_of (is a) (is b) h, le_of (is b) (is c) k));
  ≤-antisym = λ {a} {b} h k. is_eq (is a) (is b) (omega (arith, le_of (is a) (is b) h, le_of (is b) (is a) k));
  ≤-total = ≤ℤ_total;
  ≤-add = λ {a} {b} c h. of_le (is_add (is a) (is c)) (is_add (is b) (is c)) (omega (arith, le_of (is a) (is b) h));
  ≤-mul = ≤ℤ_mul;
}

-- ---- equality, said of naturals
pub eq_of : {x y : ℤ} {a b c d : ℕ} → Is x a b → Is y c d → x ≡ y → a + d ≡ c + b
eq_of {x} {y} h k e = omega (
  arith,
  le_of h k (subst (λ z. x ≤ℤ z) e (ℤO.≤-refl x)),
  le_of k h (subst (λ z. z ≤ℤ x) e (ℤO.≤-refl x)),
)

-- ---- a positive factor is taken off
pub ≤ℤ_cancel : (x y : ℤ) (k : ℕ) → (x *ℤ pos (suc k)) ≤ℤ (y *ℤ pos (suc k)) → x ≤ℤ y
≤ℤ_cancel x y k h = of_le (is x) (is y) (cancel (plus x) (minus x) (plus y) (minus y)
    (le_of (is_mul (is x) (is_nat (suc k))) (is_mul (is y) (is_nat (suc k))) h))
  where
    cancel : (a b c d : ℕ) → a * suc k + b * 0 + (c * 0 + d * suc k) ≤ c * suc k + d * 0 + (a * 0 + b * suc k)
        → a + d ≤ c + b
    cancel a b c d h =
        NatL.le_of_mul-le-mul_right (let g : (a + d) * suc k ≤ (c + b) * suc k = omega arith in g) (omega arith)

pub ≡ℤ_cancel : (x y : ℤ) (k : ℕ) → x *ℤ pos (suc k) ≡ y *ℤ pos (suc k) → x ≡ y
≡ℤ_cancel x y k e = ℤO.≤-antisym
    (≤ℤ_cancel x y k (subst (λ z. (x *ℤ pos (suc k)) ≤ℤ z) e (ℤO.≤-refl _)))
    (≤ℤ_cancel y x k (subst (λ z. z ≤ℤ (x *ℤ pos (suc k))) e (ℤO.≤-refl _)))
