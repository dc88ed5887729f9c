-- The integers of lib.IntN as differences of naturals: ring and order laws.
use Rattle.std.specs.Prelude.{◌≡◌, refl, Bool, true, false, not, cond, ℕ, zero, suc, ◌+◌, ◌*◌, ◌-◌, ◌<◌, ◌≤◌, T, ltb, ℤ, pos, negsuc, neg_ℤ, ◌+ℤ◌, ◌-ℤ◌, ◌*ℤ◌, nat_abs}
use Rattle.std.proofs.Common.{ap, arith, ltb→lt, nltb→le}
use Rattle.std.proofs.Math.IntN.{sub_ℕ}

-- z is a − b, said of naturals alone
pub data Is : ℤ → ℕ → ℕ → Type 0 where
  is+ : {n a b : ℕ} → n + b ≡ a → Is (pos n) a b
  is- : {n a b : ℕ} → suc n + a ≡ b → Is (negsuc n) a b

mk+ : {n a b : ℕ} → n + b ≡ a → Is (pos n) a b
mk+ h = is+ h

mk- : {n a b : ℕ} → suc n + a ≡ b → Is (negsuc n) a b
mk- h = is- h

pub is_sub : (a b : ℕ) → Is (sub_ℕ a b) a b
is_sub a b = go (ltb a b) (ltb→lt a b) (nltb→le a b)
  where
    go : (c : Bool) → (T c → a < b) → (T (not c) → b ≤ a) → Is (cond c (negsuc (b - suc a)) (pos (a - b))) a b
    go true f g = let h : a < b = f tt in mk- (omega arith)
    go false f g = let h : b ≤ a = g tt in mk+ (omega arith)

pub is_eq : {x y : ℤ} {a b c d : ℕ} → Is x a b → Is y c d → a + d ≡ c + b → x ≡ y
is_eq (is+ h) (is+ k) e = ap pos (omega arith)
is_eq (is+ h) (is- k) e = absurd (omega arith)
is_eq (is- h) (is+ k) e = absurd (omega arith)
is_eq (is- h) (is- k) e = ap negsuc (omega arith)

-- any pair with the same difference will do
is_shift : {z : ℤ} {a b c d : ℕ} → Is z a b → a + d ≡ c + b → Is z c d
is_shift (is+ h) e = mk+ (omega arith)
is_shift (is- h) e = mk- (omega arith)

pub is_add : {x y : ℤ} {a b c d : ℕ} → Is x a b → Is y c d → Is (x +ℤ y) (a + c) (b + d)
is_add (is+ h) (is+ k) = mk+ (omega arith)
is_add (is+ {n = m} h) (is- {n = n} k) = is_shift (is_sub m (suc n)) (omega arith)
is_add (is- {n = m} h) (is+ {n = n} k) = is_shift (is_sub n (suc m)) (omega arith)
is_add (is- h) (is- k) = mk- (omega arith)

pub is_neg : {x : ℤ} {a b : ℕ} → Is x a b → Is (neg_ℤ x) b a
is_neg (is+ {n = zero} h) = mk+ (omega arith)
is_neg (is+ {n = suc n} h) = mk- (omega arith)
is_neg (is- h) = mk+ (omega arith)

pub is_nat : (n : ℕ) → Is (pos n) n 0
is_nat n = mk+ (omega arith)

pub is_mul : {x y : ℤ} {a b c d : ℕ} → Is x a b → Is y c d → Is (x *ℤ y) (a * c + b * d) (a * d + b * c)
is_mul (is+ h) (is+ k) = mk+ (rw (← h, ← k) (omega arith))
is_mul (is+ {n = m} h) (is- {n = n} k) = is_neg (mk+ {n = m * suc n} (rw (← h, ← k) (omega arith)))
is_mul (is- {n = m} h) (is+ {n = n} k) = is_neg (mk+ {n = suc m * n} (rw (← h, ← k) (omega arith)))
is_mul (is- h) (is- k) = mk+ (rw (← h, ← k) (omega arith))

-- every integer is one: plus z − minus z, of which one is 0
abbrev pub plus : ℤ → ℕ
plus (pos n) = n
plus (negsuc n) = 0

-- what is taken away
abbrev pub minus : ℤ → ℕ
minus (pos n) = 0
minus (negsuc n) = suc n

pub is : (z : ℤ) → Is z (plus z) (minus z)
is (pos n) = mk+ (omega arith)
is (negsuc n) = mk- (omega arith)

-- x − k y
pub is_sub_mul : {x y : ℤ} {a b c d : ℕ} → Is x a b → Is y c d → (k : ℕ) → Is (x -ℤ y *ℤ pos k) (a + d * k) (b + c * k)
is_sub_mul p q k = is_shift (is_add p (is_neg (is_mul q (is_nat k)))) (omega arith)

-- for omega, the parts of any sum or product: those of x + y are by is-parts (is-add (is x) (is y))
pub is_parts : {z : ℤ} {a b : ℕ} → Is z a b → plus z + b ≡ a + minus z
is_parts (is+ h) = omega arith
is_parts (is- h) = omega arith

-- ---- the absolute value
pub natAbs_parts : (z : ℤ) → nat_abs z ≡ plus z + minus z
natAbs_parts (pos n) = omega arith
natAbs_parts (negsuc n) = omega arith

-- |a − b| ≤ m where neither exceeds the other by more
pub natAbs_bound : {z : ℤ} {a b : ℕ} → Is z a b → (m : ℕ) → a ≤ b + m → b ≤ a + m → nat_abs z ≤ m
natAbs_bound (is+ h) m p q = omega arith
natAbs_bound (is- h) m p q = omega arith

-- and neither does by more than |a − b|
pub natAbs_apart : {z : ℤ} {a b : ℕ} → Is z a b → (a ≤ b + nat_abs z) × (b ≤ a + nat_abs z)
natAbs_apart (is+ h) = omega arith
natAbs_apart (is- h) = omega arith

pub natAbs_neg : (z : ℤ) → nat_abs (neg_ℤ z) ≡ nat_abs z
natAbs_neg (pos zero) = refl
natAbs_neg (pos (suc n)) = refl
natAbs_neg (negsuc n) = refl

pub natAbs_add : (x y : ℤ) → nat_abs (x +ℤ y) ≤ nat_abs x + nat_abs y
natAbs_add x y =
    let p = natAbs_parts x in
    let q = natAbs_parts y in
    natAbs_bound (is_add (is x) (is y)) (nat_abs x + nat_abs y) (omega arith) (omega arith)

pub nat_abs_mul : (x y : ℤ) → nat_abs (x *ℤ y) ≡ nat_abs x * nat_abs y
nat_abs_mul (pos a) (pos b) = refl
nat_abs_mul (pos a) (negsuc b) = natAbs_neg (pos (a * suc b))
nat_abs_mul (negsuc a) (pos b) = natAbs_neg (pos (suc a * b))
nat_abs_mul (negsuc a) (negsuc b) = refl
