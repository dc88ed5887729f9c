-- Collected coefficients rounded: the loops, and the sizes.
use Rattle.std.specs.Prelude.{◌≡◌, refl, List, [], ◌∷◌, map, ℕ, zero, suc, ◌+◌, ◌*◌, ◌-◌, ◌^◌, ◌≤◌, ◌<◌, ℤ, pos, nat_abs, neg_ℤ, ◌+ℤ◌, ◌-ℤ◌, ◌*ℤ◌, length, take, drop, get_or, set, replicate}
use Rattle.std.proofs.Common.{sym, ◌∙◌, subst, add-one, length-take-le, get_or-take}
use Rattle.std.proofs.Math.Path.{ap, ap₂}
use native.Mathlib.Omega.{arith}
use Rattle.std.proofs.lemmas.List.{length-map}
use Rattle.algebra.specs.Integer.{natAbs_add, nat_abs_mul, natAbs_neg}
use Rattle.algebra.specs.IntegerRing.{ℤR}
use Rattle.algebra.specs.RingSolver.{◌⊟◌, ring}
use Rattle.numbers.specs.Division.{nearest, divided_up}
use Rattle.numbers.proofs.NearestLaws.{left_le_abs}
use Rattle.chebyshev.specs.Coefficients.{Row, size}
use Rattle.chebyshev.specs.PowerRows.{places}
use Rattle.chebyshev.specs.CurveOperations.{swept, residuals, rounded}
use Rattle.model_curve_addition.specs.CurveLoopLaws.{Copied, copied_first, copied_length, copied_iteration, copied_end}
use Rattle.model_curve_range.specs.CurveRangeLaws.{size_drop, size_none, drop_le}

-- ---- what is above degree 15
pub record Sweeping (l : Row) (total i : ℕ) : Type 0 where
  pub within : i ≤ 31
  pub above : 16 ≤ i
  pub sum : total ≡ size (drop i l)

module _ (l : Row) (w : length l ≡ 31) where
  pub sweeping_first : Sweeping l 0 31
  sweeping_first = record {
    within = omega arith;
    above = omega arith;
    sum = sym (size_none l) ∙ ap (λ n. size (drop n l)) w;
  }

  pub sweeping_iteration : (total i x : ℕ) → Sweeping l total i → 16 < i → x ≡ nat_abs (get_or l (i - 1) (pos 0))
      → Sweeping l (total + x) (i - 1)
  sweeping_iteration total i x h k e =
      let p : suc (i - 1) ≡ i = omega arith in
      record {
        within = omega (arith, h.within);
        above = omega arith;
        sum = omega (
          arith,
          h.sum,
          e,
          size_drop l (i - 1) (omega (arith, w, h.within)),
          ap (λ n. size (drop n l)) p,
        );
      }

  pub sweeping_room : (total i x : ℕ) → Sweeping l total i → 16 < i → x ≡ nat_abs (get_or l (i - 1) (pos 0))
      → total + x ≤ size l
  sweeping_room total i x h k e =
      omega (arith, (sweeping_iteration total i x h k e).sum, drop_le l (i - 1))

  pub sweeping_end : (total i : ℕ) → Sweeping l total i → i ≤ 16 → total ≡ swept l
  unfolding swept places
  sweeping_end total i h k =
      let p : i ≡ 16 = omega (arith, h.above) in h.sum ∙ ap (λ n. size (drop n l)) p

pub swept_le : (l : Row) → swept l ≤ size l
unfolding swept
swept_le l = drop_le l places

-- ---- what is left beside the nearest
abbrev left : (d : ℕ) → ℤ → ℤ
left d a = a -ℤ nearest a d *ℤ pos d

left_more : (d : ℕ) (l : Row) (i : ℕ) → i < length l
    → size (map (left d) (take (suc i) l)) ≡ size (map (left d) (take i l)) + nat_abs (left d (get_or l i (pos 0)))
unfolding size
left_more d [] i h = absurd (omega arith)
left_more d (a ∷ l) zero h = omega arith
left_more d (a ∷ l) (suc i) h = omega (arith, left_more d l i (omega arith))

left_le : (d : ℕ) → 0 < d → (l : Row) (i : ℕ) → size (map (left d) (take i l)) + size (drop i l) ≤ size l
unfolding size
left_le d p [] zero = omega arith
left_le d p [] (suc i) = omega arith
left_le d p (a ∷ l) zero = omega arith
left_le d p (a ∷ l) (suc i) = omega (arith, left_le d p l i, left_le_abs a d p)

mapped_at : (f : ℤ → ℤ) (l : Row) (i : ℕ) → i < length l → f (get_or l i (pos 0)) ≡ get_or (map f l) i (pos 0)
mapped_at f [] i h = absurd (omega arith)
mapped_at f (a ∷ l) zero h = refl
mapped_at f (a ∷ l) (suc i) h = mapped_at f l i (omega arith)

back_size : (z x : ℤ) → nat_abs x ≤ nat_abs z + nat_abs (z -ℤ x)
back_size z x = omega (
  arith,
  ap nat_abs (ring 2 ℤR (λ z x. x) (λ z x. z ⊟ (z ⊟ x)) refl z x),
  natAbs_add z (neg_ℤ (z -ℤ x)),
  natAbs_neg (z -ℤ x),
)

-- the nearest times d is at most twice the size
pub back_room : (c : ℤ) (d : ℕ) → 0 < d → nat_abs (nearest c d *ℤ pos d) ≤ 2 * nat_abs c
back_room c d p = omega (arith, back_size c (nearest c d *ℤ pos d), left_le_abs c d p)

pub back_product : (c : ℤ) (d : ℕ) → 0 < d → nat_abs (nearest c d) * nat_abs (pos d) ≤ 2 * nat_abs c
back_product c d p = omega (arith, back_room c d p, nat_abs_mul (nearest c d) (pos d))

shorter : (n i : ℕ) (l : Row) → i ≤ n → size (drop n l) ≤ size (drop i l)
shorter n zero l h = drop_le l n
shorter zero (suc i) l h = absurd (omega arith)
shorter (suc n) (suc i) [] h = omega arith
shorter (suc n) (suc i) (a ∷ l) h = shorter n i l (omega arith)

-- ---- the loop over what is kept
abbrev kept : (d : ℕ) → Row → Row
kept d l = map (λ a. nearest a d) (take 16 l)

pub record Rounding (l : Row) (d e : ℕ) (out : Row) (total i : ℕ) : Type 0 where
  pub copied : Copied (kept d l) out i
  pub sum : total ≡ e + swept l + size (map (left d) (take i l))

module _ (l : Row) (w : length l ≡ 31) (d e : ℕ) (p : 0 < d) where
  kept_length : length (kept d l) ≡ 16
  kept_length = length-map (take 16 l) (λ a. nearest a d) ∙ length-take-le 16 l (omega (arith, w))

  pub rounding_first : (t : ℕ) → t ≡ swept l → Rounding l d e (replicate 16 (pos 0)) (e + t) 0
  unfolding size
  rounding_first t q = record { copied = copied_first (kept d l) kept_length; sum = omega (arith, q) }

  module _ (out : Row) (total i : ℕ) (h : Rounding l d e out total i) where
    pub rounding_length : length out ≡ 16
    rounding_length = copied_length (kept d l) kept_length out i h.copied

    module _ (k : i < 16) where
      pub rounding_iteration : (q : ℤ) (x : ℕ) → q ≡ nearest (get_or l i (pos 0)) d
          → x ≡ nat_abs (left d (get_or l i (pos 0)))
          → Rounding l d e (set out i q) (total + x) (i + 1)
      rounding_iteration q x a b = record {
        copied = copied_iteration (kept d l) kept_length out i q h.copied k
            (a ∙ ap (λ z. nearest z d) (sym (get_or-take 16 l i (pos 0) k))
            ∙ mapped_at (λ a. nearest a d) (take 16 l) i (omega (arith, length-take-le 16 l (omega (arith, w)))));
        sum = omega (
          arith,
          h.sum,
          b,
          left_more d l i (omega (arith, w)),
          ap (λ n. size (map (left d) (take n l))) (add-one i),
        );
      }

  pub rounding_small : (out : Row) (total i : ℕ) → Rounding l d e out total i → total ≤ e + size l
  unfolding swept places
  rounding_small out total i h = omega (
    arith,
    h.sum,
    left_le d p l i,
    shorter 16 i l h.copied.within,
  )

  pub rounding_end : (out : Row) (total i : ℕ) → Rounding l d e out total i → 16 ≤ i
      → record { coefficients = out; radius = divided_up total d } ≡ rounded d e l
  unfolding rounded residuals places
  rounding_end out total i h k =
      let i_is : i ≡ 16 = omega (arith, h.copied.within) in
      let t : total ≡ e + residuals d l + swept l =
      omega (arith, h.sum, ap (λ n. size (map (left d) (take n l))) i_is) in
      ap₂ (λ o n. record { coefficients = o; radius = divided_up n d })
      (copied_end (kept d l) kept_length out i h.copied k) t
