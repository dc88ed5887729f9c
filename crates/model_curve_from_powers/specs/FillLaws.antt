-- The loop that fills the degrees.
use Rattle.std.specs.Prelude.{◌≡◌, [], ◌∷◌, ℕ, ◌+◌, ◌≤◌, ◌<◌, ℤ, pos, length, take, get_or, set, replicate}
use Rattle.std.proofs.Math.Path.{refl}
use Rattle.std.proofs.Common.{sym, ◌∙◌, ap, ap₂, arith, length-take-le}
use Rattle.chebyshev.specs.Coefficients.{Row}
use Rattle.model_types.specs.Arrays.{padded}
use Rattle.model_types.specs.ArrayLaws.{take_more, padded_more}

-- ---- sixteen coefficients put into thirty-one places
pub record Filled (l out : Row) (i : ℕ) : Type 0 where
  pub within : i ≤ 16
  pub made : out ≡ padded (pos 0) 31 (take i l)

take_whole : (l : Row) → take (length l) l ≡ l
take_whole [] = refl
take_whole (a ∷ l) = ap (λ l. a ∷ l) (take_whole l)

module _ (l : Row) (w : length l ≡ 16) where
  pub filled_first : Filled l (replicate 31 (pos 0)) 0
  unfolding padded
  filled_first = record { within = omega arith; made = refl }

  pub filled_iteration : (out : Row) (i : ℕ) (z : ℤ) → Filled l out i → i < 16 → z ≡ get_or l i (pos 0)
      → Filled l (set out i z) (i + 1)
  filled_iteration out i z h k e = record {
    within = omega arith;
    made = ap₂ (λ o z. set o i z) h.made e
        ∙ padded_more (pos 0) 31 (take i l) i (get_or l i (pos 0)) (length-take-le i l (omega arith)) (omega arith)
        ∙ ap (padded (pos 0) 31) (sym (take_more l i (pos 0) (omega arith)));
  }

  pub filled_end : (out : Row) (i : ℕ) → Filled l out i → 16 ≤ i → out ≡ padded (pos 0) 31 l
  filled_end out i h k =
      let e : i ≡ length l = omega (arith, h.within) in
      h.made ∙ ap (λ j. padded (pos 0) 31 (take j l)) e ∙ ap (padded (pos 0) 31) (take_whole l)
