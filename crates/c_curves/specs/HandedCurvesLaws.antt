-- One more coefficient read or stored, and what a call that fits has room for.
use Rattle.std.specs.Prelude.{◌≡◌, Bool, true, ◌&&◌, List, ◌++◌, ℕ, ◌+◌, ◌-◌, ◌≤◌, ◌<◌, ℤ, pos, length, take, get_or, set, replicate}
use Rattle.std.proofs.Common.{sym, ◌∙◌, ap, subst, append-nil, arith, length-take-le}
use Rattle.std.proofs.Math.Dec.{T, leb, leb→le}
use Rattle.calculus.specs.Model.{most_terms}
use Rattle.calculus_laws.specs.TestLaws.{and_left, and_right}
use Rattle.chebyshev.specs.PowerRows.{places}
use Rattle.model_types.specs.Arrays.{padded}
use Rattle.model_types.specs.ArrayLaws.{take_more, padded_more}
use Rattle.model_slices.specs.HandedModels.{borrowed, over, answer_numbers, model_room}
use Rattle.model_slices.specs.HandedModelsLaws.{over_more, room_parts}
use Rattle.c_curves.specs.HandedCurves.{curve_numbers, curve_room, curve_fits, range_fits, to_powers_fits}
use Rattle.c_curves.specs.HandedCurves.{from_powers_fits}

-- ---- the array that a slice is read into
pub read_more : (cs : List ℤ) (i : ℕ) → i < 16 → i < length cs
    → set (padded (pos 0) 16 (take i cs)) i (get_or cs i (pos 0)) ≡ padded (pos 0) 16 (take (i + 1) cs)
read_more cs i h l =
    padded_more (pos 0) 16 (take i cs) i _ (length-take-le i cs (omega arith)) h
    ∙ ap (padded (pos 0) 16) (sym (take_more cs i (pos 0) l))

pub read_end : (cs : List ℤ) (i : ℕ) → i ≡ 16 → 16 ≤ length cs → padded (pos 0) 16 (take i cs) ≡ take places cs
unfolding padded places
read_end cs i e h =
    ap (λ j. take j cs ++ replicate (16 - length (take j cs)) (pos 0)) e
    ∙ ap (λ n. take 16 cs ++ replicate n (pos 0)) (none (length (take 16 cs)) (length-take-le 16 cs h))
    ∙ append-nil (take 16 cs)
  where
    none : (n : ℕ) → n ≡ 16 → 16 - n ≡ 0
    none n e = omega arith

-- ---- the slice that a curve is stored into
pub coefficient_more : (l k : List ℤ) (i : ℕ) → i < length l → i < length k
    → set (over (take i l) k) i (get_or l i (pos 0)) ≡ over (take (i + 1) l) k
coefficient_more l k i h g =
    over_more (pos 0) (take i l) k i _ (length-take-le i l (omega arith)) g
    ∙ ap (λ r. over r k) (sym (take_more l i (pos 0) h))

-- ---- room
curve_parts : (c n : ℕ) → T (curve_room c n) → (places ≤ c) × (curve_numbers ≤ n)
unfolding curve_room
curve_parts c n r = (
  leb→le places c (and_left (leb places c) (leb curve_numbers n) r),
  leb→le curve_numbers n (and_right (leb places c) (leb curve_numbers n) r),
)

module _ (code c₁ c₂ c n : ℕ) (h : curve_fits code c₁ c₂ (curve_room c n) ≡ true) where
  pub fits_curve_room : (places ≤ c) × (curve_numbers ≤ n)
  unfolding curve_fits
  fits_curve_room =
      curve_parts c n
      (and_right (leb 3 code && leb code 6 && leb places c₁ && leb places c₂) (curve_room c n) (subst T (sym h) tt))

  both : T (leb 3 code && leb code 6 && leb places c₁ && leb places c₂)
  unfolding curve_fits
  both = and_left (leb 3 code && leb code 6 && leb places c₁ && leb places c₂) (curve_room c n) (subst T (sym h) tt)

  pub fits_second : places ≤ c₂
  fits_second = leb→le places c₂ (and_right (leb 3 code && leb code 6 && leb places c₁) (leb places c₂) both)

  pub fits_first : places ≤ c₁
  fits_first =
      leb→le places c₁
      (and_right (leb 3 code && leb code 6) (leb places c₁)
      (and_left (leb 3 code && leb code 6 && leb places c₁) (leb places c₂) both))

module _ (c e : ℕ) (h : range_fits c e ≡ true) where
  pub fits_range : places ≤ c
  unfolding range_fits
  fits_range = leb→le places c (and_left (leb places c) (leb 2 e) (subst T (sym h) tt))

  pub fits_two_ends : 2 ≤ e
  unfolding range_fits
  fits_two_ends = leb→le 2 e (and_right (leb places c) (leb 2 e) (subst T (sym h) tt))

module _ (c k z n : ℕ) (h : to_powers_fits c (model_room k z n) ≡ true) where
  pub fits_to_powers : places ≤ c
  unfolding to_powers_fits
  fits_to_powers = leb→le places c (and_left (leb places c) (model_room k z n) (subst T (sym h) tt))

  pub fits_powers_room : (most_terms ≤ k) × (most_terms ≤ z) × (answer_numbers ≤ n)
  unfolding to_powers_fits
  fits_powers_room = room_parts k z n (and_right (leb places c) (model_room k z n) (subst T (sym h) tt))

pub fits_from_powers : (count k z c n : ℕ) → from_powers_fits count k z (curve_room c n) ≡ true
    → (places ≤ c) × (curve_numbers ≤ n)
unfolding from_powers_fits
fits_from_powers count k z c n h =
    curve_parts c n (and_right (borrowed count k z) (curve_room c n) (subst T (sym h) tt))
