-- The range lies inside the symmetric one: what stays in the box by that stays in it by the range.
use Rattle.std.specs.Prelude.{◌≡◌, Bool, true, false, not, ◌&&◌, List, ℕ, zero, suc, ◌+◌, ◌≤◌, max, T, ℤ, pos, negsuc, neg_ℤ, ◌+ℤ◌, ◌-ℤ◌, nat_abs, ◌≤ℤ◌}
use Rattle.std.proofs.Common.{ap, arith, le→leb}
use Rattle.std.specs.Int.Signed.{le_z, le_z_yes}
use Rattle.algebra.specs.Integer.{natAbs_add, natAbs_neg}
use Rattle.algebra.specs.IntegerRing.{ℤR, ℤO}
use Rattle.algebra.specs.OrderedLaws.{+-mono, neg_mono}
use Rattle.numbers.specs.Fixed.{U}
use Rattle.calculus.specs.Terms.{select, sum_ℕ, size}
use Rattle.calculus.specs.Model.{Model}
use Rattle.calculus.specs.Operations.{Ends, is_constant, constant_part, even_powers, can_fall, can_rise, below}
use Rattle.calculus.specs.Operations.{above, range, range_in_box}
use Rattle.calculus.specs.SymmetricRange.{variation, symmetric_range, symmetric_in_box}
use Rattle.calculus_laws.specs.TestLaws.{and_left, and_right, both}
use Rattle.calculus_laws.specs.SumLaws.{ℕ_addition, if_so, sum_select, sum_mono}
use Rattle.calculus_laws.specs.RangeLaws.{fall, rise, below_sum, above_sum}

-- ---- what can fall or rise is no more than all that varies
fewer : (a b : Bool) (n : ℕ) → if_so ℕ_addition (a && b) n ≤ if_so ℕ_addition a n
unfolding if_so
fewer true true n = omega arith
fewer true false n = omega arith
fewer false b n = omega arith

varies : List ℕ → ℤ → ℕ
varies k c = if_so ℕ_addition (not (is_constant k)) (nat_abs c)

varies_sum : (m : Model) → size (select (λ k c. not (is_constant k)) m.terms) ≡ sum_ℕ varies m.terms
unfolding size varies
varies_sum m = sum_select ℕ_addition (λ k c. nat_abs c) (λ k c. not (is_constant k)) m.terms

pub below_varies : (m : Model) → below m ≤ variation m
unfolding variation
below_varies m = omega (
  arith,
  below_sum m,
  varies_sum m,
  sum_mono fall varies (λ k c. unfold can_fall varies in
      fewer (not (is_constant k)) (not (even_powers k && le_z (pos 0) c)) (nat_abs c)) m.terms,
)

pub above_varies : (m : Model) → above m ≤ variation m
unfolding variation
above_varies m = omega (
  arith,
  above_sum m,
  varies_sum m,
  sum_mono rise varies (λ k c. unfold can_rise varies in
      fewer (not (is_constant k)) (not (even_powers k && le_z c (pos 0))) (nat_abs c)) m.terms,
)

-- ---- so the ends lie inside
-- from the low end to the high one, e is inside f
pub record Inside (e f : Ends) : Type 0 where
  pub low : f.low ≤ℤ e.low
  pub high : e.high ≤ℤ f.high

pub range_inside : (m : Model) → Inside (range m) (symmetric_range m)
unfolding range symmetric_range
range_inside m = record {
  low = +-mono ℤO (ℤO.≤-refl (constant_part m))
      (neg_mono ℤO {a = pos (below m)} {b = pos (variation m)}
      (le_z_yes (le→leb (below m) (variation m) (below_varies m))));
  high = +-mono ℤO (ℤO.≤-refl (constant_part m)) (le_z_yes (le→leb (above m) (variation m) (above_varies m)));
}

-- and no model that stayed in the box by the symmetric range leaves it by the range
pub in_box_kept : (m : Model) → T (symmetric_in_box m) → T (range_in_box m)
unfolding range_in_box symmetric_in_box
in_box_kept m h = both (le_z (neg_ℤ (pos U)) (range m).low) _
    (ℤO.≤_trans {a = neg_ℤ (pos U)} (le_z_yes (and_left (le_z (neg_ℤ (pos U)) (symmetric_range m).low) _ h))
    (range_inside m).low).le
    (ℤO.≤_trans {c = pos U} (range_inside m).high
    (le_z_yes (and_right (le_z (neg_ℤ (pos U)) (symmetric_range m).low) _ h))).le

-- ---- and no end is larger in size: the larger symmetric end has the size of the constant part and all that varies
larger_end : (c : ℤ) (v : ℕ) → max (nat_abs (c -ℤ pos v)) (nat_abs (c +ℤ pos v)) ≡ nat_abs c + v
larger_end (pos n) v = omega (arith, natAbs_add (pos n) (neg_ℤ (pos v)), natAbs_neg (pos v))
larger_end (negsuc n) zero =
    let e : nat_abs (negsuc n +ℤ pos 0) ≡ suc n = ap nat_abs (ℤR.+-zero (negsuc n)) in
    let l : nat_abs (negsuc n -ℤ pos 0) ≡ suc n = e in
    omega arith
larger_end (negsuc n) (suc v) = omega (arith, natAbs_add (negsuc n) (pos (suc v)))

within : (c : ℤ) (b v : ℕ) → b ≤ v → (nat_abs (c -ℤ pos b) ≤ nat_abs c + v) × (nat_abs (c +ℤ pos b) ≤ nat_abs c + v)
within c b v h = (
  omega (arith, natAbs_add c (neg_ℤ (pos b)), natAbs_neg (pos b)),
  omega (arith, natAbs_add c (pos b)),
)

pub sizes_inside : (m : Model) → max (nat_abs (range m).low) (nat_abs (range m).high)
    ≤ max (nat_abs (symmetric_range m).low) (nat_abs (symmetric_range m).high)
unfolding range symmetric_range
sizes_inside m = rw (larger_end (constant_part m) (variation m)) (omega (
  arith,
  (within (constant_part m) (below m) (variation m) (below_varies m)).0,
  (within (constant_part m) (above m) (variation m) (above_varies m)).1,
))
