-- The hull and the overlap of two pairs of ends.
use Rattle.std.specs.Prelude.{◌≡◌, Bool, true, false, not, T, ℤ, pos, ◌≤ℤ◌, ◌⊎◌}
use Rattle.std.proofs.Common.{ap, inl, inr}
use Rattle.std.specs.Int.Signed.{le_z, le_z_yes, ≤ℤ_refl}
use Rattle.algebra.proofs.Rational.{ℚ, ◌≤ℚ◌, ◌*ℚ◌, whole}
use Rattle.algebra.proofs.RationalLaws.{whole_≤}
use Rattle.algebra.specs.IntegerRing.{≤ℤ_total}
use Rattle.numbers.specs.Fixed.{U}
use Rattle.calculus.specs.Operations.{Ends}
use Rattle.calculus.specs.Functions.{Lies}
use Rattle.calculus_laws.specs.ChainLaws.{◌≤≤◌}
use Rattle.cuts.specs.Cuts.{smaller, larger, hull, overlap}
use Rattle.cuts.specs.Edges.{cuts}

-- a test that fails: the other way round
leZ_no : (a b : ℤ) → T (not (le_z a b)) → b ≤ℤ a
leZ_no a b h = go (≤ℤ_total a b)
  where
    clash : (t : Bool) → T t → T (not t) → ⊥
    clash true p q = q
    clash false p q = p

    go : a ≤ℤ b ⊎ b ≤ℤ a → b ≤ℤ a
    go (inl l) = absurd (clash (le_z a b) l.le h)
    go (inr l) = l

-- either of the two
by_smaller : (P : ℤ → Type 0) (a b : ℤ) → (a ≤ℤ b → P a) → (b ≤ℤ a → P b) → P (smaller a b)
unfolding smaller
by_smaller P a b f g = go (le_z a b) (λ t. le_z_yes t) (leZ_no a b)
  where
    go : (t : Bool) → (T t → a ≤ℤ b) → (T (not t) → b ≤ℤ a) → P (elim t as (λ t. ℤ) [ true ↦ a | false ↦ b ])
    go true p q = f (p tt)
    go false p q = g (q tt)

by_larger : (P : ℤ → Type 0) (a b : ℤ) → (a ≤ℤ b → P b) → (b ≤ℤ a → P a) → P (larger a b)
unfolding larger
by_larger P a b f g = go (le_z a b) (λ t. le_z_yes t) (leZ_no a b)
  where
    go : (t : Bool) → (T t → a ≤ℤ b) → (T (not t) → b ≤ℤ a) → P (elim t as (λ t. ℤ) [ true ↦ b | false ↦ a ])
    go true p q = f (p tt)
    go false p q = g (q tt)

pub smaller_left : (a b : ℤ) → smaller a b ≤ℤ a
smaller_left a b = by_smaller (λ s. s ≤ℤ a) a b (λ l. ≤ℤ_refl a) (λ l. l)

pub smaller_right : (a b : ℤ) → smaller a b ≤ℤ b
smaller_right a b = by_smaller (λ s. s ≤ℤ b) a b (λ l. l) (λ l. ≤ℤ_refl b)

pub larger_left : (a b : ℤ) → a ≤ℤ larger a b
larger_left a b = by_larger (λ s. a ≤ℤ s) a b (λ l. l) (λ l. ≤ℤ_refl a)

pub larger_right : (a b : ℤ) → b ≤ℤ larger a b
larger_right a b = by_larger (λ s. b ≤ℤ s) a b (λ l. ≤ℤ_refl b) (λ l. l)

-- what lies in one lies in the hull
pub hull_left : {y : ℚ} (e f : Ends) → Lies y e → Lies y (hull e f)
unfolding cuts
hull_left e f h = record {
  from = whole_≤ (smaller_left e.low f.low) ≤≤ h.from;
  to = h.to ≤≤ whole_≤ (larger_left e.high f.high);
}

pub hull_right : {y : ℚ} (e f : Ends) → Lies y f → Lies y (hull e f)
unfolding hull
hull_right e f h = record {
  from = whole_≤ (smaller_right e.low f.low) ≤≤ h.from;
  to = h.to ≤≤ whole_≤ (larger_right e.high f.high);
}

-- what lies in both lies in the overlap
pub overlap_both : {y : ℚ} (e f : Ends) → Lies y e → Lies y f → Lies y (overlap e f)
unfolding overlap
overlap_both {y} e f h g = record {
  from = by_larger (λ l. whole l ≤ℚ whole (pos U) *ℚ y) e.low f.low (λ l. g.from) (λ l. h.from);
  to = by_smaller (λ l. whole (pos U) *ℚ y ≤ℚ whole l) e.high f.high (λ l. h.to) (λ l. g.to);
}

-- by the test
pub smaller_yes : (a b : ℤ) → le_z a b ≡ true → smaller a b ≡ a
unfolding smaller
smaller_yes a b e = ap (λ t. elim t as (λ t. ℤ) [ true ↦ a | false ↦ b ]) e

pub smaller_no : (a b : ℤ) → le_z a b ≡ false → smaller a b ≡ b
unfolding smaller
smaller_no a b e = ap (λ t. elim t as (λ t. ℤ) [ true ↦ a | false ↦ b ]) e

pub larger_yes : (a b : ℤ) → le_z a b ≡ true → larger a b ≡ b
unfolding larger
larger_yes a b e = ap (λ t. elim t as (λ t. ℤ) [ true ↦ b | false ↦ a ]) e

pub larger_no : (a b : ℤ) → le_z a b ≡ false → larger a b ≡ a
unfolding larger
larger_no a b e = ap (λ t. elim t as (λ t. ℤ) [ true ↦ b | false ↦ a ]) e
