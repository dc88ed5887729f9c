-- The value of a curve times U, without division: the form in which the proofs speak of "within".
use Rattle.std.specs.Prelude.{◌≡◌, refl, [], ◌∷◌, map, ℕ, ◌+◌, ◌<◌, pos, take, drop, get_or}
use Rattle.std.proofs.Common.{sym, ◌∙◌, ap₂, arith}
use Rattle.std.proofs.Math.Path.{ap}
use Rattle.algebra.specs.RingLaws.{one-*}
use Rattle.algebra.specs.RingSolver.{𝟎, ◌⊞◌, ◌⊟◌, ◌⊠◌, ring}
use Rattle.algebra.specs.Ordered.{abs}
use Rattle.algebra.specs.OrderedLaws.{abs_pos, abs_mul, *-mono}
use Rattle.algebra.specs.FieldLaws.{reciprocal_nonneg}
use Rattle.algebra.proofs.Rational.{ℚ, ◌+ℚ◌, ◌*ℚ◌, whole, ◌≤ℚ◌, reciprocal}
use Rattle.algebra.proofs.RationalRing.{ℚR}
use Rattle.algebra.proofs.RationalOrder.{ℚO}
use Rattle.algebra.proofs.RationalField.{ℚF}
use Rattle.algebra.proofs.RationalLaws.{nat_whole, whole_reciprocal, ÷-back}
use Rattle.numbers.specs.Division.{nearest}
use Rattle.numbers.proofs.DivisionLaws.{divided_up_ok}
use Rattle.numbers.specs.Fixed.{U}
use Rattle.numbers.proofs.FixedLaws.{U_pos}
use Rattle.calculus.specs.Model.{◌-ℚ◌, distance}
use Rattle.calculus_laws.specs.ChainLaws.{◌≤≤◌, ◌≡≤◌, ◌≤≡◌}
use Rattle.calculus_laws.specs.UnitLaws.{natural, natural-*, natural_≤, natural_nonneg, U_times, U_times_≤}
use Rattle.calculus_laws.specs.UnitLaws.{U_cancel, U_abs}
use Rattle.calculus_laws.specs.ValueLaws.{sum_≤}
use Rattle.chebyshev.specs.Recurrence.{chebyshev}
use Rattle.chebyshev.specs.RecurrenceLaws.{chebyshev_zero, chebyshev_≤}
use Rattle.chebyshev.specs.Coefficients.{Row, size}
use Rattle.chebyshev.specs.Coefficients as C
use Rattle.chebyshev.proofs.CoefficientsLaws.{value_nil, value_cons, value_split, value_≤, value_rounded}
use Rattle.chebyshev.specs.PowerRows.{places}
use Rattle.chebyshev.specs.RingIntegersLaws.{int_whole}
use Rattle.chebyshev.specs.Curve.{Curve, series, value, At}
use Rattle.chebyshev.specs.CurveOperations.{residuals, swept, rounded}

-- ---- |U y - U P| ≤ e says the same as |y - P| ≤ e/U
unfoldable pub Near : Curve → ℚ → ℚ → Type 0
Near c x y = abs ℚO (natural U *ℚ y -ℚ series c.coefficients x) ≤ℚ natural c.radius

U_value : (c : Curve) (x : ℚ) → natural U *ℚ value c x ≡ series c.coefficients x
unfolding value
U_value c x = ÷-back (series c.coefficients x) U U_pos

U_distance : (c : Curve) (x y : ℚ)
    → abs ℚO (natural U *ℚ y -ℚ series c.coefficients x) ≡ natural U *ℚ distance y (value c x)
unfolding distance
U_distance c x y = ap (λ v. abs ℚO (natural U *ℚ y -ℚ v)) (sym (U_value c x))
    ∙ ap (abs ℚO) (ring 3 ℚR (λ u y v. u ⊠ y ⊟ u ⊠ v) (λ u y v. u ⊠ (y ⊟ v)) refl (natural U) y (value c x)) ∙ U_abs _

pub near_at : (c : Curve) (x y : ℚ) → Near c x y → At c x y
unfolding At Near
near_at c x y h = U_cancel _ _ (sym (U_distance c x y) ≡≤ h ≤≡ sym (U_times (pos c.radius)))

pub at_near : (c : Curve) (x y : ℚ) → At c x y → Near c x y
unfolding At Near
at_near c x y h = U_distance c x y ≡≤ U_times_≤ h ≤≡ U_times (pos c.radius)

-- ---- a factor d, taken off
factor_cancel : (d : ℕ) → 0 < d → (x y : ℚ) → natural d *ℚ x ≤ℚ natural d *ℚ y → x ≤ℚ y
factor_cancel d l x y h = sym (back x) ≡≤ *-mono ℚO (reciprocal_nonneg ℚF d l) h ≤≡ back y
  where
    back : (z : ℚ) → natural d *ℚ z *ℚ reciprocal d ≡ z
    back z = ring 3 ℚR (λ u z v. u ⊠ z ⊠ v) (λ u z v. (u ⊠ v) ⊠ z) refl (natural d) z (reciprocal d)
        ∙ ap (λ w. w *ℚ z) (whole_reciprocal d l) ∙ one-* ℚR z

pub factor_abs : (d : ℕ) (a : ℚ) → abs ℚO (natural d *ℚ a) ≡ natural d *ℚ abs ℚO a
factor_abs d a = abs_mul ℚO (natural d) a ∙ ap (λ z. z *ℚ abs ℚO a) (abs_pos ℚO (natural_nonneg d))

-- ---- from -1 to 1
module _ (x : ℚ) (b : abs ℚO x ≤ℚ natural 1) where
  -- the value is at most the sum of all |c|
  pub series_≤ : (k : ℕ) (p : Row) → abs ℚO (C.value ℚR (chebyshev ℚR x) k p) ≤ℚ natural (size p)
  series_≤ k p = value_≤ ℚO (chebyshev ℚR x) (chebyshev_≤ ℚO x b) k p ≤≡ nat_whole (size p)

  -- what rounding changes is at most the residuals
  rounded_≤ : (d : ℕ) (z : Row)
      → abs ℚO (series (take places z) x -ℚ natural d *ℚ series (map (λ a. nearest a d) (take places z)) x)
      ≤ℚ natural (residuals d z)
  unfolding residuals
  rounded_≤ d z = ap (λ n. abs ℚO (series (take places z) x -ℚ n *ℚ series (map (λ a. nearest a d) (take places z)) x))
      (sym (nat_whole d))
      ≡≤ value_rounded ℚO (chebyshev ℚR x) (chebyshev_≤ ℚO x b) (λ a. nearest a d) d 0 (take places z)
      ≤≡ nat_whole _

  -- and what sweeping changes at most the sizes of what is swept
  swept_≤ : (z : Row) → abs ℚO (C.value ℚR (chebyshev ℚR x) places (drop places z)) ≤ℚ natural (swept z)
  unfolding swept
  swept_≤ z = series_≤ places (drop places z)

  -- coefficients z over d, and y times d U within E of their value
  pub rounded_near : (d E : ℕ) (z : Row) (y : ℚ) → 0 < d
      → abs ℚO (natural d *ℚ (natural U *ℚ y) -ℚ series z x) ≤ℚ natural E → Near (rounded d E z) x y
  unfolding Near rounded
  rounded_near d E z y l h = factor_cancel d l _ _
      (sym (factor_abs d _) ∙ ap (abs ℚO) split
      ≡≤ sum_≤ _ _ _ _ (sum_≤ _ _ _ _ h (rounded_≤ d z)) (swept_≤ z)
      ≤≤ natural_≤ _ _ (divided_up_ok (E + residuals d z + swept z) d l)
      ≤≡ natural-* d _)
    where
      kept : ℚ
      kept = series (map (λ a. nearest a d) (take places z)) x

      low : ℚ
      low = series (take places z) x

      high : ℚ
      high = C.value ℚR (chebyshev ℚR x) places (drop places z)

      parts : series z x ≡ low +ℚ high
      parts = value_split ℚR (chebyshev ℚR x) 0 places z
          ∙ ap (λ k. low +ℚ C.value ℚR (chebyshev ℚR x) k (drop places z)) (omega arith)

      split : natural d *ℚ (natural U *ℚ y -ℚ kept)
          ≡ natural d *ℚ (natural U *ℚ y) -ℚ series z x +ℚ (low -ℚ natural d *ℚ kept) +ℚ high
      split = ring 5 ℚR (λ d u k l h. d ⊠ (u ⊟ k)) (λ d u k l h. d ⊠ u ⊟ (l ⊞ h) ⊞ (l ⊟ d ⊠ k) ⊞ h) refl
          (natural d) (natural U *ℚ y) kept low high
          ∙ ap (λ v. natural d *ℚ (natural U *ℚ y) -ℚ v +ℚ (low -ℚ natural d *ℚ kept) +ℚ high) (sym parts)

-- the constant coefficient and the others
pub series_first : (p : Row) (x : ℚ)
    → series p x ≡ whole (get_or p 0 (pos 0)) +ℚ C.value ℚR (chebyshev ℚR x) 1 (drop 1 p)
series_first [] x = value_nil ℚR (chebyshev ℚR x) 0 ∙ ring 0 ℚR 𝟎 (𝟎 ⊞ 𝟎) refl
    ∙ ap (λ v. natural 0 +ℚ v) (sym (value_nil ℚR (chebyshev ℚR x) 1))
series_first (a ∷ p) x = value_cons ℚR (chebyshev ℚR x) 0 a p
    ∙ ap₂ (λ c t. c *ℚ t +ℚ C.value ℚR (chebyshev ℚR x) 1 p) (int_whole a) (chebyshev_zero ℚR x)
    ∙ ap (λ v. v +ℚ C.value ℚR (chebyshev ℚR x) 1 p) (ℚR.*-one (whole a))
