-- Beside the theorems: a rule that treats variable 1 apart is told by a renaming, and what is not promised, since the
-- evaluation at a point treats the variables one after the other.
use Rattle.std.specs.Prelude.{◌≡◌, refl, Bool, not, ◌&&◌, List, [], ◌∷◌, map, ℕ, zero, suc, ◌+◌, ◌<◌, eqb, ℤ, pos, ◌+ℤ◌, ◌-ℤ◌, nat_abs, get_or}
use Rattle.std.proofs.Common.{sym, ◌∙◌, ap, arith, lit<}
use Rattle.std.specs.Int.Signed.{le_z}
use Rattle.polynomial.specs.Integral.{even, first}
use Rattle.numbers.specs.Fixed.{U}
use Rattle.calculus.specs.Monomial.{degree}
use Rattle.calculus.specs.Terms.{size, select}
use Rattle.calculus.specs.Model.{Model}
use Rattle.calculus.specs.Refusal.{accepted}
use Rattle.calculus.specs.Operations.{Ends, is_constant, constant_part, even_powers, can_fall, can_rise, below, above}
use Rattle.calculus.specs.Operations.{range, evaluate}
use Rattle.calculus.specs.Computing.{calls}
use Rattle.calculus_laws.specs.SoundLaws.{Canonical}
use Rattle.calculus.specs.Forms.{at_key, model, ends, minus, forms}
use Rattle.renaming.specs.Reordering.{Reordering, rename_model}
use Rattle.renaming.proofs.RenamedModelLaws.{canonical_in_order, range_renamed}
use Rattle.renaming.specs.Computing.{renames}
use Rattle.renaming.specs.Edges.{circle, renaming_forms}

-- ---- a range, by any rule for which monomials count as lying on one side
module _ (rule : List ℕ → Bool) where
  -- the terms that can lie below 0
  unfoldable pub falls : List ℕ → ℤ → Bool
  falls k c = not (is_constant k) && not (rule k && le_z (pos 0) c)

  -- and above 0
  unfoldable pub rises : List ℕ → ℤ → Bool
  rises k c = not (is_constant k) && not (rule k && le_z c (pos 0))

  -- the range
  unfoldable pub range_by : Model → Ends
  range_by m = record {
    low = constant_part m -ℤ pos (size (select falls m.terms) + m.radius);
    high = constant_part m +ℤ pos (size (select rises m.terms) + m.radius);
  }

-- the calculus' rule gives its range
pub by_even_powers : (m : Model) → range_by even_powers m ≡ range m
unfolding range_by falls rises range below above can_fall can_rise
by_even_powers m = refl

-- even powers of variable 1 alone: a range by them holds all values too
unfoldable pub first_even : List ℕ → Bool
first_even k = even (first k) && eqb (degree k) (first k)

-- the rule that the rows below are about
unfoldable pub rule : List ℕ → Bool
rule = even_powers

-- x², y² and z²
unfoldable pub squares : List Model
squares = map (λ k. model 3 0 (at_key 3 k (pos U) ∷ [])) (0x2000 ∷ 0x0200 ∷ 0x0020 ∷ [])

-- with the variables put around each keeps its low end,
pub renamed_squares_stand : map (λ m. (range_by rule (rename_model circle m)).low) squares
    ≡ map (λ m. (range_by rule m).low) squares
unfolding calls renames renaming_forms squares first_even rule range_by falls rises
renamed_squares_stand = refl

-- which is 0
pub squares_stand : map (λ m. (range_by rule m).low) squares ≡ pos 0 ∷ pos 0 ∷ pos 0 ∷ []
unfolding calls renaming_forms squares first_even rule range_by falls rises
squares_stand = refl

-- ---- what a renaming keeps
-- the ends by a rule, for every reordering and every canonical model
abbrev pub KeepsEnds : (Model → Ends) → Type 0
KeepsEnds rule = (n d : ℕ) (ρ : Reordering n) (m : Model) → Canonical n d m → rule (rename_model ρ m) ≡ rule m

-- the range is kept
pub range_keeps : KeepsEnds range
range_keeps n d ρ m c = range_renamed ρ m (canonical_in_order c)

-- x²
unfoldable square : Model
square = model 3 0 (at_key 3 0x2000 (pos U) ∷ [])

square_canonical : Canonical 3 2 square
unfolding calls forms square
square_canonical = record { vars = refl; fitting = tt; nonzero_terms = tt; rising_terms = tt }

here : range_by first_even square ≡ ends (pos 0) (pos U)
unfolding calls forms square range_by falls rises first_even
here = refl

there : range_by first_even (rename_model circle square) ≡ ends (minus U) (pos U)
unfolding calls renames renaming_forms square range_by falls rises first_even
there = refl

other_low : ends (minus U) (pos U) ≡ ends (pos 0) (pos U) → ⊥
unfolding calls forms
other_low e = let z : ◌≡◌ {A = ℕ} U 0 = ap (λ e. nat_abs e.low) e in omega (arith, z)

-- that of the rule which treats variable 1 apart is not: x² from 0 to 1 becomes y² from -1 to 1
pub apart_refuted : KeepsEnds (range_by first_even) → ⊥
apart_refuted h = other_low (sym there ∙ h 3 2 circle square square_canonical ∙ here)

-- ---- evaluation at a point
-- two variables exchanged
unfoldable pub other : ℕ → ℕ
other i = get_or (1 ∷ 0 ∷ []) i 0

-- a fact of 0 and 1
pub of_two : (P : ℕ → Type 0) → P 0 → P 1 → (i : ℕ) → i < 2 → P i
of_two P a b zero h = a
of_two P a b (suc zero) h = b
of_two P a b (suc (suc i)) h = absurd (omega arith)

-- the reordering
unfoldable pub exchange : Reordering 2
unfolding other
exchange = record {
  to = other;
  from = other;
  to_inside = of_two (λ i. other i < 2) (lit< tt) (lit< tt);
  from_inside = of_two (λ i. other i < 2) (lit< tt) (lit< tt);
  from_to = of_two (λ i. other (other i) ≡ i) refl refl;
  to_from = of_two (λ i. other (other i) ≡ i) refl refl;
}

-- x y, with a coefficient of one unit: renamed it is the same
unfoldable pub faint : Model
faint = model 2 0 (at_key 2 0x1100 (pos 1) ∷ [])

-- at (1/4, 3/4): y/4 rounds to 0 with the radius 1, and the value stays from -1 to 1
pub faint_here : evaluate (pos 262144 ∷ pos 786432 ∷ []) faint ≡ accepted (ends (minus 1) (pos 1))
unfolding calls forms faint
faint_here = refl

-- at (3/4, 1/4), the point with its coordinates exchanged: 3y/4 rounds to y with the radius 1, y/4 to 0 with another
pub faint_there : evaluate (pos 786432 ∷ pos 262144 ∷ []) (rename_model exchange faint)
    ≡ accepted (ends (minus 2) (pos 2))
unfolding calls renames forms faint exchange other
faint_there = refl
