-- A double may be rounded from any fraction that it is.
use Rattle.std.specs.Prelude.{◌≡◌, refl, Bool, true, false, ℕ, zero, suc, ◌*◌, ◌%◌, ◌<◌, Float, nat_abs, ◌*ℤ◌}
use Rattle.std.proofs.Math.Path.{sym, ap, ap₂}
use Rattle.std.proofs.Common.{◌∙◌, arith, ne_eqb}
use Rattle.std.proofs.Math.Nat as NatL
use Rattle.std.specs.Float.Ieee.{nan, up, down}
use Rattle.std.specs.Float.{inf, fin}
use Rattle.std.specs.Float.Ieee.Exact.{HasValue}
use Rattle.std.specs.Float.Ieee.Fits.{down_pos}
use Rattle.std.proofs.Math.IntN.{pos}
use Rattle.algebra.specs.Integer.{natAbs_neg}
use Rattle.algebra.specs.IntegerRing.{ℤR}
use Rattle.algebra.specs.RingSolver.{◌⊠◌, ⊝◌, ring}
use Rattle.numbers.specs.Division.{divided_up, nearest}
use Rattle.numbers.proofs.SameFractionLaws.{nearest_same, rest_same, up_same}
use Rattle.numbers.specs.Fixed.{U}
use Rattle.calculus.specs.Operations.{one_if_any}
use Rattle.doubles.specs.Doubles.{signed, numerator, denominator, units, coefficient, inexact, radius_up}

-- ---- 1 where anything is left
pub none_left : (r : ℕ) → r ≡ 0 → 0 ≡ one_if_any r
unfolding one_if_any
none_left r e = ap one_if_any (sym e)

pub some_left : (r : ℕ) → (r ≡ 0 → ⊥) → 1 ≡ one_if_any r
unfolding one_if_any
some_left r n = ap (λ b. elim b as (λ b. ℕ) [ true ↦ 0 | false ↦ 1 ]) (sym (ne_eqb r 0 n))

-- of equal fractions one is whole if the other is
one_if_same : (a b c d : ℕ) → 0 < b → 0 < d → a * d ≡ c * b → one_if_any (a % b) ≡ one_if_any (c % d)
one_if_same a b c d hb hd e = go (a % b) (c % d) (rest_same a b c d hb hd e)
  where
    above : (r : ℕ) → 0 < suc r
    above r = omega arith

    some : (r : ℕ) → 1 ≡ one_if_any (suc r)
    some r = some_left (suc r) (λ z. omega arith)

    go : (r s : ℕ) → r * d ≡ s * b → one_if_any r ≡ one_if_any s
    go zero zero h = refl
    go zero (suc s) h = absurd (omega (arith, NatL.mul-pos (above s) hb))
    go (suc r) zero h = absurd (omega (arith, NatL.mul-pos (above r) hd))
    go (suc r) (suc s) h = sym (some r) ∙ some s

-- ---- numbers with a sign
pub signed_times : (s : Bool) (a k : ℕ) → signed s a *ℤ pos k ≡ signed s (a * k)
unfolding signed
signed_times true a k = ring 2 ℤR (λ a k. ⊝ a ⊠ k) (λ a k. ⊝ (a ⊠ k)) refl (pos a) (pos k)
signed_times false a k = refl

pub signed_size : (s : Bool) (a : ℕ) → nat_abs (signed s a) ≡ a
unfolding signed
signed_size true a = natAbs_neg (pos a)
signed_size false a = refl

-- ---- a double that is w / l in size, and n / d what U times it is
module _ (w l n d : ℕ) (hl : 0 < l) (hd : 0 < d) (e : w * U * d ≡ n * l) where
  crossed : (a k : ℕ) → a * l ≡ w * k → a * U * d ≡ n * k
  crossed a k h = NatL.eq_of_mul-eq-mul_right l hl _ _
      (swap a U d l ∙ ap (λ i. i * U * d) h ∙ swap_2 w k U d ∙ ap (λ i. i * k) e ∙ NatL.mul_right_comm n l k)
    where
      swap : (a u d l : ℕ) → a * u * d * l ≡ a * l * u * d
      swap a u d l = simp (NatL.mul_assoc, NatL.mul_comm)

      swap_2 : (w k u d : ℕ) → w * k * u * d ≡ w * u * d * k
      swap_2 w k u d = simp (NatL.mul_assoc, NatL.mul_comm, NatL.mul_left_comm)

  -- what is made of the double is made of that fraction
  pub coefficient_is : (x : Float) (s : Bool) → HasValue x s w l → coefficient x ≡ nearest (signed s n) d
  unfolding coefficient units numerator denominator
  coefficient_is nan s h = absurd h
  coefficient_is (inf t) s h = absurd h
  coefficient_is (fin t m k) s h = nearest_same _ (signed s n) (down k) d (down_pos k) hd
      (ap (λ i. i *ℤ pos d) (signed_times t (m * up k) U) ∙ signed_times t (m * up k * U) d
      ∙ ap₂ signed h.0 (crossed (m * up k) (down k) h.1) ∙ sym (signed_times s n (down k)))

  units_size : (t : Bool) (a : ℕ) → nat_abs (signed t a *ℤ pos U) ≡ a * U
  units_size t a = ap nat_abs (signed_times t a U) ∙ signed_size t (a * U)

  pub inexact_is : (x : Float) (s : Bool) → HasValue x s w l → inexact x ≡ one_if_any (n % d)
  unfolding inexact units numerator denominator
  inexact_is nan s h = absurd h
  inexact_is (inf t) s h = absurd h
  inexact_is (fin t m k) s h = ap (λ i. one_if_any (i % down k)) (units_size t (m * up k))
      ∙ one_if_same (m * up k * U) (down k) n d (down_pos k) hd (crossed (m * up k) (down k) h.1)

  pub radius_is : (x : Float) (s : Bool) → HasValue x s w l → radius_up x ≡ divided_up n d
  unfolding radius_up units numerator denominator
  radius_is nan s h = absurd h
  radius_is (inf t) s h = absurd h
  radius_is (fin t m k) s h = ap (λ i. divided_up i (down k)) (units_size t (m * up k))
      ∙ up_same (m * up k * U) (down k) n d (down_pos k) hd (crossed (m * up k) (down k) h.1)
