-- The sizes of a row from a place on, and the ends of a curve's range.
use Rattle.std.specs.Prelude.{◌≡◌, refl, true, false, List, [], ◌∷◌, ℕ, zero, suc, ◌+◌, ◌-◌, ◌^◌, ◌≤◌, ◌<◌, T, ℤ, pos, nat_abs, length, drop, get_or}
use Rattle.std.proofs.Common.{sym, ◌∙◌, ap, arith}
use Rattle.numbers.specs.Fixed.{span_limit}
use Rattle.numbers.proofs.FixedLaws.{span_four_bytes}
use Rattle.calculus.specs.Refusal.{stopped, done, bad_model, require_at}
use Rattle.chebyshev.specs.Coefficients.{Row, size}
use Rattle.chebyshev.specs.Curve as C
use Rattle.chebyshev.specs.Curve.{sound, span}
use Rattle.chebyshev.specs.CurveOperations.{variation, constant_part, range}
use Rattle.chebyshev.proofs.CurveSoundLaws.{sound_span}
use Rattle.chebyshev.specs.CurveCalls.{call_range}
use Rattle.model_types.specs.ModelStruct.{bounds}

pub size_drop : (l : Row) (i : ℕ) → i < length l → size (drop i l) ≡ nat_abs (get_or l i (pos 0)) + size
    (drop (suc i) l)
unfolding size
size_drop [] i h = absurd (omega arith)
size_drop (a ∷ l) zero h = refl
size_drop (a ∷ l) (suc i) h = size_drop l i (omega arith)

pub size_none : (l : Row) → size (drop (length l) l) ≡ 0
unfolding size
size_none [] = refl
size_none (a ∷ l) = size_none l

pub drop_le : (l : Row) (i : ℕ) → size (drop i l) ≤ size l
unfolding size
drop_le [] zero = omega arith
drop_le [] (suc i) = omega arith
drop_le (a ∷ l) zero = omega arith
drop_le (a ∷ l) (suc i) = omega (arith, drop_le l i)

-- the sum over the places from i on
pub record Gathered (l : Row) (total i : ℕ) : Type 0 where
  pub within : i ≤ 16
  pub above : 1 ≤ i
  pub sum : total ≡ size (drop i l)

module _ (l : Row) (w : length l ≡ 16) where
  pub gathered_first : Gathered l 0 16
  gathered_first = record {
    within = omega arith;
    above = omega arith;
    sum = sym (size_none l) ∙ ap (λ n. size (drop n l)) w;
  }

  pub gathered_iteration : (total i x : ℕ) → Gathered l total i → 1 < i → x ≡ nat_abs (get_or l (i - 1) (pos 0))
      → Gathered l (total + x) (i - 1)
  gathered_iteration total i x h k e =
      let p : suc (i - 1) ≡ i = omega arith in
      record {
        within = omega (arith, h.within);
        above = omega arith;
        sum = omega (
          arith,
          h.sum,
          e,
          size_drop l (i - 1) (omega (arith, w, h.within)),
          ap (λ n. size (drop n l)) p,
        );
      }

  pub gathered_room : (total i x : ℕ) → Gathered l total i → 1 < i → x ≡ nat_abs (get_or l (i - 1) (pos 0))
      → total + x ≤ size l
  gathered_room total i x h k e =
      omega (arith, (gathered_iteration total i x h k e).sum, drop_le l (i - 1))

  pub gathered_end : (total i : ℕ) → Gathered l total i → i ≤ 1 → total ≡ size (drop 1 l)
  gathered_end total i h k =
      let p : i ≡ 1 = omega (arith, h.above) in h.sum ∙ ap (λ n. size (drop n l)) p

  pub all_parts : nat_abs (get_or l 0 (pos 0)) + size (drop 1 l) ≡ size l
  all_parts = sym (size_drop l 0 (omega (arith, w)))

-- a sound curve's numbers are small
pub sizes_small : (c : C.Curve) → T (sound c) → size c.coefficients + c.radius < 2 ^ 31
unfolding span
sizes_small c s = omega (arith, sound_span c s, span_four_bytes)

pub variation_small : (c : C.Curve) → T (sound c) → length c.coefficients ≡ 16
    → nat_abs (constant_part c) + variation c < 2 ^ 31
unfolding variation constant_part
variation_small c s w = omega (arith, sizes_small c s, all_parts c.coefficients w)

-- ---- the answers
pub range_unsound : (c : C.Curve) → sound c ≡ false → bounds (stopped bad_model 0) ≡ bounds (call_range c)
unfolding call_range require_at
range_unsound c t = rw t

pub range_sound : (c : C.Curve) → sound c ≡ true → bounds (done (range c)) ≡ bounds (call_range c)
unfolding call_range require_at
range_sound c t = rw t
