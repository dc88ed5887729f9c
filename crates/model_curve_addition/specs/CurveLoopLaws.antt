-- Loops over the sixteen coefficients: one iteration more, and the end.
use Rattle.std.specs.Prelude.{◌≡◌, ℕ, zero, suc, ◌+◌, ◌-◌, ◌^◌, ◌≤◌, ◌<◌, T, eqb, ℤ, pos, neg_ℤ, nat_abs, ◌+ℤ◌, take, get_or, set}
use Rattle.std.proofs.Math.Path.{refl, sym, ap}
use Rattle.std.proofs.Common.{◌∙◌, ap₂, add-one, leb→le, eq-eqb, length-take-le}
use mathlib.Core.List.{[], ◌∷◌, ◌++◌, map, append-nil}
use native.Mathlib.Omega.{arith}
use Rattle.std.proofs.Math.Dec.{leb}
use Rattle.std.proofs.Math.ListN.{length, replicate, get_or-map}
use Rattle.numbers.specs.Fixed.{span_limit, capped}
use Rattle.numbers.proofs.FixedLaws.{span_four_bytes, capped_more, capped_within}
use Rattle.calculus_laws.specs.TestLaws.{and_right}
use Rattle.chebyshev.specs.Coefficients.{Row, size, sum}
use Rattle.chebyshev.specs.PowerRows.{places}
use Rattle.chebyshev.specs.Curve.{span, sound}
use Rattle.model_types.specs.Arrays.{padded}
use Rattle.model_types.specs.ArrayLaws.{take_more, padded_more, length_padded}
use Rattle.model_types.specs.declared.Curve.{Curve}
use Rattle.model_types.specs.CurveStruct.{view_curve}

-- ---- the span
size_more : (l : Row) (i : ℕ) → i < length l → size (take (suc i) l) ≡ size (take i l) + nat_abs (get_or l i (pos 0))
unfolding size
size_more [] i h = absurd (omega arith)
size_more (a ∷ l) zero h = omega arith
size_more (a ∷ l) (suc i) h = let e = size_more l i (omega arith) in omega arith

size_whole : (l : Row) → size (take (length l) l) ≡ size l
unfolding size
size_whole [] = refl
size_whole (a ∷ l) = ap (λ s. nat_abs a + s) (size_whole l)

take_whole : (l : Row) → take (length l) l ≡ l
take_whole [] = refl
take_whole (a ∷ l) = ap (λ l. a ∷ l) (take_whole l)

-- known as far as the cap
pub record Summed (c : Curve) (total i : ℕ) : Type 0 where
  pub within : i ≤ 16
  pub sum : capped total ≡ capped (size (take i c.coefficients) + c.radius)

module _ (c : Curve) (w : length c.coefficients ≡ 16) where
  pub summed_first : Summed c c.radius 0
  unfolding size
  summed_first = record { within = omega arith; sum = ap capped (omega arith) }

  pub summed_iteration : (total i next : ℕ) → Summed c total i → i < 16
      → next ≡ capped (total + nat_abs (get_or c.coefficients i (pos 0))) → Summed c next (i + 1)
  summed_iteration total i next h l e = record {
    within = omega arith;
    sum = ap capped e ∙ capped_more total _ _ h.sum
        ∙ ap capped (omega (
          arith,
          ap (λ j. size (take j c.coefficients)) (add-one i),
          size_more c.coefficients i (omega arith),
        ));
  }

  pub summed_end : (total i : ℕ) → Summed c total i → 16 ≤ i → leb total span_limit ≡ sound (view_curve c)
  unfolding span sound places
  summed_end total i h l =
      let e : i ≡ length c.coefficients = omega (arith, h.within) in
      sym (capped_within total) ∙ ap (λ s. leb s span_limit) h.sum ∙ capped_within _
      ∙ ap (λ s. leb (s + c.radius) span_limit)
      (ap (λ i. size (take i c.coefficients)) e ∙ size_whole c.coefficients)
      ∙ sym (rw (eq-eqb (length c.coefficients) 16 w))

-- ---- a row put into an array, place by place
pub record Copied (l : Row) (out : Row) (i : ℕ) : Type 0 where
  pub within : i ≤ 16
  pub made : out ≡ padded (pos 0) 16 (take i l)

module _ (l : Row) (w : length l ≡ 16) where
  pub copied_first : Copied l (replicate 16 (pos 0)) 0
  unfolding padded
  copied_first = record { within = omega arith; made = refl }

  pub copied_length : (out : Row) (i : ℕ) → Copied l out i → length out ≡ 16
  copied_length out i h = ap length h.made ∙ length_padded (pos 0) 16 (take i l)
      (omega (arith, h.within, length-take-le i l (omega (arith, h.within))))

  pub copied_iteration : (out : Row) (i : ℕ) (z : ℤ) → Copied l out i → i < 16 → z ≡ get_or l i (pos 0)
      → Copied l (set out i z) (i + 1)
  copied_iteration out i z h k e = record {
    within = omega arith;
    made = ap₂ (λ o z. set o i z) h.made e
        ∙ padded_more (pos 0) 16 (take i l) i (get_or l i (pos 0)) (length-take-le i l (omega arith)) k
        ∙ ap (padded (pos 0) 16) (sym (take_more l i (pos 0) (omega arith)));
  }

  pub copied_end : (out : Row) (i : ℕ) → Copied l out i → 16 ≤ i → out ≡ l
  unfolding padded
  copied_end out i h k =
      let e : i ≡ length l = omega (arith, h.within) in
      h.made ∙ ap (λ j. padded (pos 0) 16 (take j l)) e ∙ ap (padded (pos 0) 16) (take_whole l)
      ∙ ap (λ n. l ++ replicate n (pos 0)) (none (length l) w) ∙ append-nil l
    where
      none : (n : ℕ) → n ≡ 16 → 16 - n ≡ 0
      none n e = omega arith

-- ---- what the operations put there
pub negated_at : (l : Row) (i : ℕ) → neg_ℤ (get_or l i (pos 0)) ≡ get_or (map neg_ℤ l) i (pos 0)
negated_at l i = sym (get_or-map neg_ℤ l i (pos 0))

pub added_at : (p q : Row) (i : ℕ) → length p ≡ length q
    → get_or p i (pos 0) +ℤ get_or q i (pos 0) ≡ get_or (sum p q) i (pos 0)
unfolding sum
added_at [] [] i e = refl
added_at [] (b ∷ q) i e = absurd (omega arith)
added_at (a ∷ p) [] i e = absurd (omega arith)
added_at (a ∷ p) (b ∷ q) zero e = refl
added_at (a ∷ p) (b ∷ q) (suc i) e = added_at p q i (omega arith)

-- ---- the sizes of sound coefficients
entry_le : (l : Row) (i : ℕ) → nat_abs (get_or l i (pos 0)) ≤ size l
unfolding size
entry_le [] i = omega arith
entry_le (a ∷ l) zero = omega arith
entry_le (a ∷ l) (suc i) = omega (arith, entry_le l i)

sound_span : (c : Curve) → T (sound (view_curve c)) → size c.coefficients + c.radius ≤ span_limit
unfolding sound span
sound_span c s = leb→le _ _ (and_right (eqb (length c.coefficients) places) _ s)

pub entry_small : (c : Curve) (i : ℕ) → T (sound (view_curve c)) → nat_abs (get_or c.coefficients i (pos 0)) < 2 ^ 31
entry_small c i s = omega (arith, entry_le c.coefficients i, sound_span c s, span_four_bytes)

pub radius_small : (c : Curve) → T (sound (view_curve c)) → c.radius < 2 ^ 31
radius_small c s = omega (arith, sound_span c s, span_four_bytes)
