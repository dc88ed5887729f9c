-- Facts beside the claim of the cut range. What it asks for is there: functions within a model, points of the box, an
-- accepted call. And it refutes wrong answers: of 1 + x + x² each end that is narrower than what depth 1 answers, which
-- is attained, and of a radius alone each high end that leaves a unit of it out.
use Rattle.std.specs.Prelude.{◌≡◌, refl, [], ◌∷◌, ℕ, ◌+◌, ◌*◌, pos, ◌≤ℤ◌}
use Rattle.std.proofs.Common.{sym, ◌∙◌, ap, ap₂, arith}
use Rattle.algebra.specs.Ring.{pow}
use Rattle.algebra.specs.RingSolver.{𝟎, 𝟏, ◌⊞◌, ◌⊟◌, ◌⊠◌, ⊝◌, ring}
use Rattle.algebra.specs.Ordered.{abs}
use Rattle.algebra.specs.OrderedLaws.{abs_pos, abs_neg_eq, +-mono}
use Rattle.algebra.specs.FieldLaws.{reciprocal_nonneg}
use Rattle.algebra.proofs.Rational.{ℚ, ◌+ℚ◌, ◌*ℚ◌, negℚ, ◌≤ℚ◌, reciprocal}
use Rattle.algebra.proofs.RationalRing.{ℚR}
use Rattle.algebra.proofs.RationalOrder.{ℚO}
use Rattle.algebra.proofs.RationalField.{ℚF}
use Rattle.algebra.proofs.RationalLaws.{≤-whole, whole_reciprocal}
use Rattle.polynomial.specs.Polynomial.{monomial}
use Rattle.polynomial.specs.Box.{none, more}
use Rattle.numbers.specs.Fixed.{U}
use Rattle.numbers.specs.Computing.{numbers}
use Rattle.calculus.specs.Terms.{sum_over}
use Rattle.calculus.specs.Model.{◌/U, ◌-ℚ◌, Point, InBox, value, Within}
use Rattle.calculus.specs.Operations.{Ends}
use Rattle.calculus.specs.Forms.{forms, ends, minus}
use Rattle.calculus.specs.Computing.{models}
use Rattle.calculus_laws.specs.UnitLaws.{natural, natural-*, natural-+, abs_whole, U_times}
use Rattle.calculus_laws.specs.ValueLaws.{scaled_value, Near, U_value, near_at, scaled_nil}
use Rattle.calculus_laws.specs.ChainLaws.{◌≡≤◌, ◌≤≡◌, equal}
use Rattle.cuts.specs.CutClaim.{CutClaim}
use Rattle.cuts.specs.Edges.{cuts, bowl, band, all-pieces, other-models}
use Rattle.cuts.proofs.CutClaimProof.{cut_claim, value_within}
open ℚR use {*-one}

-- ---- 1 + x + x²
-- the claim of its answer at depth 1
pub bowl_claimed : CutClaim bowl (ends (pos 786432) (pos 3145728))
bowl_claimed = cut_claim 2 1 1 bowl _ all-pieces.1

-- -1/2 and 1
abbrev half : ℚ
half = reciprocal 2

abbrev lowest : Point
lowest = negℚ half ∷ []

abbrev highest : Point
highest = natural 1 ∷ []

twice : natural 2 *ℚ half ≡ natural 1
twice = whole_reciprocal 2 (omega arith)

half_small : abs ℚO (negℚ half) ≤ℚ natural 1
half_small = abs_neg_eq ℚO half ∙ abs_pos ℚO (reciprocal_nonneg ℚF 2 (omega arith))
    ∙ ring 1 ℚR (λ h. h) (λ h. h ⊞ 𝟎) refl half
    ≡≤ +-mono ℚO (ℚO.≤-refl half) (reciprocal_nonneg ℚF 2 (omega arith))
    ≤≡ ring 1 ℚR (λ h. h ⊞ h) (λ h. (𝟏 ⊞ 𝟏) ⊠ h) refl half
    ∙ ap (λ z. z *ℚ half) (sym (natural-+ 1 1)) ∙ twice

lowest_inside : InBox 1 lowest
lowest_inside = more half_small none

highest_inside : InBox 1 highest
highest_inside = more (equal (abs_whole (pos 1))) none

-- there its polynomial is 3/4 and 3
abbrev quarter : ℚ
quarter = natural 262144

four_quarters : natural U ≡ natural 2 *ℚ natural 2 *ℚ quarter
unfolding numbers
four_quarters = natural-* (2 * 2) 262144 ∙ ap (λ z. z *ℚ quarter) (natural-* 2 2)

three_times : (n : ℕ) → natural n +ℚ natural n +ℚ natural n ≡ natural (n + n + n)
three_times n = ap (λ z. z +ℚ natural n) (sym (natural-+ n n)) ∙ sym (natural-+ (n + n) n)

at_lowest : natural U *ℚ value bowl lowest ≡ natural 786432
unfolding scaled_value sum_over models forms bowl monomial pow numbers
at_lowest = U_value bowl lowest
    ∙ ring 2 ℚR (λ u h. u ⊠ (𝟏 ⊠ 𝟏) ⊞ (u ⊠ (⊝ h ⊠ 𝟏 ⊠ 𝟏) ⊞ (u ⊠ (⊝ h ⊠ (⊝ h ⊠ 𝟏) ⊠ 𝟏) ⊞ 𝟎)))
    (λ u h. u ⊟ u ⊠ h ⊞ u ⊠ h ⊠ h) refl (natural U) half
    ∙ ap (λ u. u -ℚ u *ℚ half +ℚ u *ℚ half *ℚ half) four_quarters
    ∙ ring 3 ℚR (λ t q h. t ⊠ t ⊠ q ⊟ t ⊠ t ⊠ q ⊠ h ⊞ t ⊠ t ⊠ q ⊠ h ⊠ h)
    (λ t q h. t ⊠ t ⊠ q ⊟ t ⊠ q ⊠ (t ⊠ h) ⊞ q ⊠ (t ⊠ h) ⊠ (t ⊠ h)) refl (natural 2) quarter half
    ∙ ap (λ z. natural 2 *ℚ natural 2 *ℚ quarter -ℚ natural 2 *ℚ quarter *ℚ z +ℚ quarter *ℚ z *ℚ z) twice
    ∙ ap (λ t. t *ℚ t *ℚ quarter -ℚ t *ℚ quarter *ℚ natural 1 +ℚ quarter *ℚ natural 1 *ℚ natural 1) (natural-+ 1 1)
    ∙ ring 1 ℚR (λ q. (𝟏 ⊞ 𝟏) ⊠ (𝟏 ⊞ 𝟏) ⊠ q ⊟ (𝟏 ⊞ 𝟏) ⊠ q ⊠ 𝟏 ⊞ q ⊠ 𝟏 ⊠ 𝟏) (λ q. q ⊞ q ⊞ q) refl quarter
    ∙ three_times 262144

at_highest : natural U *ℚ value bowl highest ≡ natural 3145728
unfolding scaled_value sum_over models forms bowl monomial pow numbers
at_highest = U_value bowl highest
    ∙ ring 1 ℚR (λ u. u ⊠ (𝟏 ⊠ 𝟏) ⊞ (u ⊠ (𝟏 ⊠ 𝟏 ⊠ 𝟏) ⊞ (u ⊠ (𝟏 ⊠ (𝟏 ⊠ 𝟏) ⊠ 𝟏) ⊞ 𝟎))) (λ u. u ⊞ u ⊞ u) refl (natural U)
    ∙ three_times U

-- so no answer that meets the claim is narrower than that of depth 1
pub bowl_narrowest : (e : Ends) → CutClaim bowl e → (e.low ≤ℤ pos 786432) × (pos 3145728 ≤ℤ e.high)
bowl_narrowest e c = (
  ≤-whole e.low (pos 786432)
      ((c.stays_inside (value bowl) (value_within bowl) lowest (unfold bowl forms in lowest_inside)).from
      ≤≡ at_lowest),
  ≤-whole (pos 3145728) e.high
      (sym at_highest
      ≡≤ (c.stays_inside (value bowl) (value_within bowl) highest (unfold bowl forms in highest_inside)).to),
)

-- one unit narrower at either end is refuted, and so is one unit wider than the undivided range, 0 to 3 U
pub low_refuted : CutClaim bowl (ends (pos 786433) (pos 3145728)) → ⊥
unfolding forms
low_refuted c = (bowl_narrowest _ c).0.le

pub high_refuted : CutClaim bowl (ends (pos 786432) (pos 3145727)) → ⊥
unfolding forms
high_refuted c = (bowl_narrowest _ c).1.le

pub wider_refuted : CutClaim bowl (ends (minus 1) (pos 3145728)) → ⊥
unfolding cuts bowl
wider_refuted c = c.low_inside.le

-- ---- no terms, radius 7
pub band_claimed : CutClaim band (ends (minus 7) (pos 7))
band_claimed = cut_claim 1 1 3 band _ other-models.0

-- 7/U everywhere, a function within it
top_within : Within (λ x. pos 7 /U) band
unfolding Within Near band forms
top_within x b = near_at band x (pos 7 /U)
    (ap₂ (λ u v. abs ℚO (u -ℚ v)) (U_times (pos 7)) (scaled_nil x)
    ∙ ap (abs ℚO) (ring 1 ℚR (λ z. z ⊟ 𝟎) (λ z. z) refl (natural 7))
    ≡≤ equal (abs_whole (pos 7)))

-- so no answer that meets the claim leaves a unit of it out, and that of the polynomial alone is refuted
pub band_reached : (e : Ends) → CutClaim band e → pos 7 ≤ℤ e.high
band_reached e c = ≤-whole (pos 7) e.high
    (sym (U_times (pos 7)) ≡≤ (c.stays_inside (λ x. pos 7 /U) top_within highest
    (unfold band forms in highest_inside)).to)

pub radius_refuted : CutClaim band (ends (pos 0) (pos 0)) → ⊥
unfolding forms
radius_refuted c = (band_reached _ c).le
