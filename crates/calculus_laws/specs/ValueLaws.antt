-- The value of a model times U, without division: the form in which the proofs speak of "within".
use Rattle.std.specs.Prelude.{◌≡◌, Bool, not, ℕ, ◌+◌, pos, ◌+ℤ◌, ◌-ℤ◌, ◌*ℤ◌, nat_abs}
use Rattle.std.proofs.Math.Path.{refl, sym, ap, ap₂}
use Rattle.std.proofs.Common.{◌∙◌}
use mathlib.Core.List.{List, [], ◌∷◌, ◌++◌}
use Rattle.std.proofs.Math.IntN.{ℤ, neg_ℤ}
use Rattle.algebra.specs.RingLaws.{zero-*, *-zero}
use Rattle.algebra.specs.RingSolver.{𝟎, ◌⊞◌, ◌⊟◌, ◌⊠◌, ⊝◌, ring}
use Rattle.algebra.specs.Ordered.{abs}
use Rattle.algebra.specs.IntegerRing.{ℤR}
use Rattle.algebra.specs.OrderedLaws.{abs_pos, abs_prod, triangle, +-mono}
use Rattle.algebra.proofs.Rational.{ℚ, ◌+ℚ◌, ◌*ℚ◌, negℚ, whole, ◌≤ℚ◌}
use Rattle.algebra.proofs.RationalRing.{ℚR}
use Rattle.algebra.proofs.RationalOrder.{ℚO}
use Rattle.algebra.proofs.RationalLaws.{whole-+, whole-*, whole_neg}
use Rattle.polynomial.specs.Polynomial.{Term, monomial, eval, times, product}
use Rattle.polynomial.proofs.PolynomialLaws.{monomial_add}
use Rattle.polynomial.proofs.BoxLaws.{monomial_le}
use Rattle.numbers.specs.Fixed.{U, round, residual}
use Rattle.numbers.proofs.FixedLaws.{residual_is}
use Rattle.calculus.specs.Terms.{Terms, select, sum_over, sum_ℕ, size, map_coefficients, drop_zeros, collect}
use Rattle.calculus.specs.Model.{Model, ◌/U, ◌-ℚ◌, distance, Point, InBox, polynomial, value, At}
use Rattle.calculus.specs.Operations.{products}
use Rattle.calculus_laws.specs.SumLaws.{ℚ_addition, sum_nil, sum_cons, sum-++, sum_split, sum_drop_zeros}
use Rattle.calculus_laws.specs.SumLaws.{sum_collect}
use Rattle.calculus_laws.specs.UnitLaws.{natural, natural-+, abs_whole, U_times, U_times_≤, U_cancel, U_abs}
use Rattle.calculus_laws.specs.ChainLaws.{◌≤≤◌, ◌≡≤◌, ◌≤≡◌, equal}
open ℚO use {≤-refl}
open ℚR use {dist, *-one}

-- c at the monomial k is worth at x
abbrev pub term_value : Point → List ℕ → ℤ → ℚ
term_value x k c = whole c *ℚ monomial ℚR k x

-- the value of terms, with the coefficients themselves for those of units
unfoldable pub scaled_value : Terms → Point → ℚ
scaled_value p x = sum_over ◌+ℚ◌ (natural 0) (term_value x) p

-- ---- |U y - U P| ≤ e says the same as |y - P| ≤ e/U
unfoldable pub Near : Model → Point → ℚ → Type 0
Near m x y = abs ℚO (natural U *ℚ y -ℚ scaled_value m.terms x) ≤ℚ natural m.radius

pub U_value : (m : Model) (x : Point) → natural U *ℚ value m x ≡ scaled_value m.terms x
unfolding value polynomial eval scaled_value sum_over
U_value m x = go m.terms
  where
    go : (p : Terms) → natural U *ℚ eval ℚR (polynomial (record { vars = m.vars; radius = m.radius; terms = p })) x
        ≡ sum_over ◌+ℚ◌ (natural 0) (term_value x) p
    go [] = *-zero ℚR (natural U)
    go (t ∷ p) = ring 4 ℚR (λ u c m v. u ⊠ (c ⊠ m ⊞ v)) (λ u c m v. (u ⊠ c) ⊠ m ⊞ u ⊠ v) refl (natural U)
        (t.coefficient /U) (monomial ℚR t.exponents x) _
        ∙ ap₂ (λ a b. a *ℚ monomial ℚR t.exponents x +ℚ b) (U_times t.coefficient) (go p)

U_distance : (m : Model) (x : Point) (y : ℚ)
    → abs ℚO (natural U *ℚ y -ℚ scaled_value m.terms x) ≡ natural U *ℚ distance y (value m x)
unfolding distance
U_distance m x y = ap (λ v. abs ℚO (natural U *ℚ y -ℚ v)) (sym (U_value m x))
    ∙ ap (abs ℚO) (ring 3 ℚR (λ u y v. u ⊠ y ⊟ u ⊠ v) (λ u y v. u ⊠ (y ⊟ v)) refl (natural U) y (value m x)) ∙ U_abs _

pub near_at : (m : Model) (x : Point) (y : ℚ) → Near m x y → At m x y
unfolding At Near
near_at m x y h = U_cancel _ _ (sym (U_distance m x y) ≡≤ h ≤≡ sym (U_times (pos m.radius)))

pub at_near : (m : Model) (x : Point) (y : ℚ) → At m x y → Near m x y
unfolding At Near
at_near m x y h = U_distance m x y ≡≤ U_times_≤ h ≤≡ U_times (pos m.radius)

-- ---- what the operations on terms do to it
module _ (x : Point) where
  term_additive : (k : List ℕ) (c d : ℤ) → term_value x k (c +ℤ d) ≡ term_value x k c +ℚ term_value x k d
  term_additive k c d = ap (λ z. z *ℚ monomial ℚR k x) (whole-+ c d) ∙ dist _ _ _

  pub scaled_nil : scaled_value [] x ≡ natural 0
  unfolding scaled_value
  scaled_nil = sum_nil ℚ_addition (term_value x)

  pub scaled_cons : (t : Term ℤ) (p : Terms)
      → scaled_value (t ∷ p) x ≡ term_value x t.exponents t.coefficient +ℚ scaled_value p x
  unfolding scaled_value
  scaled_cons t p = sum_cons ℚ_addition (term_value x) t p

  pub scaled-++ : (p q : Terms) → scaled_value (p ++ q) x ≡ scaled_value p x +ℚ scaled_value q x
  unfolding scaled_value
  scaled-++ p q = sum-++ ℚ_addition (term_value x) p q

  pub scaled_split : (f : List ℕ → ℤ → Bool) (p : Terms)
      → scaled_value p x ≡ scaled_value (select f p) x +ℚ scaled_value (select (λ k c. not (f k c)) p) x
  unfolding scaled_value
  scaled_split f p = sum_split ℚ_addition (term_value x) f p

  pub scaled_drop_zeros : (p : Terms) → scaled_value (drop_zeros p) x ≡ scaled_value p x
  unfolding scaled_value
  scaled_drop_zeros p = sum_drop_zeros ℚ_addition (term_value x) (λ k. zero-* ℚR (monomial ℚR k x)) p

  pub scaled_collect : (p : Terms) → scaled_value (collect p) x ≡ scaled_value p x
  unfolding scaled_value
  scaled_collect p = sum_collect ℚ_addition (term_value x) term_additive p

  pub scaled_negated : (p : Terms) → scaled_value (map_coefficients neg_ℤ p) x ≡ negℚ (scaled_value p x)
  scaled_negated [] = unfold map_coefficients in
      (scaled_nil ∙ ring 1 ℚR (λ x. 𝟎) (λ x. ⊝ 𝟎) refl (natural 0) ∙ ap negℚ (sym scaled_nil))
  scaled_negated (t ∷ p) = negated (scaled_negated p)
    where
      negated : scaled_value (map_coefficients neg_ℤ p) x ≡ negℚ (scaled_value p x)
          → scaled_value (map_coefficients neg_ℤ (t ∷ p)) x ≡ negℚ (scaled_value (t ∷ p) x)
      negated h = unfold map_coefficients in (scaled_cons _ _
          ∙ ap₂ (λ c v. c *ℚ monomial ℚR t.exponents x +ℚ v) (whole_neg t.coefficient) h
          ∙ ring 3 ℚR (λ c m v. ⊝ c ⊠ m ⊟ v) (λ c m v. ⊝ (c ⊠ m ⊞ v)) refl (whole t.coefficient)
          (monomial ℚR t.exponents x) (scaled_value p x)
          ∙ ap negℚ (sym (scaled_cons t p)))

  scaled_times : (t : Term ℤ) (q : Terms)
      → scaled_value (times ℤR t q) x ≡ term_value x t.exponents t.coefficient *ℚ scaled_value q x
  unfolding times
  scaled_times t [] = scaled_nil
      ∙ sym (ap (λ z. term_value x t.exponents t.coefficient *ℚ z) scaled_nil ∙ *-zero ℚR _)
  scaled_times t (s ∷ q) = scaled_cons _ _
      ∙ ap₂ ◌+ℚ◌ (ap₂ ◌*ℚ◌ (whole-* t.coefficient s.coefficient)
      (monomial_add ℚR t.exponents s.exponents x)) (scaled_times t q)
      ∙ ring 5 ℚR (λ a b c d v. a ⊠ b ⊠ (c ⊠ d) ⊞ a ⊠ c ⊠ v) (λ a b c d v. a ⊠ c ⊠ (b ⊠ d ⊞ v)) refl
      (whole t.coefficient) (whole s.coefficient) (monomial ℚR t.exponents x)
      (monomial ℚR s.exponents x) (scaled_value q x)
      ∙ ap (λ z. term_value x t.exponents t.coefficient *ℚ z) (sym (scaled_cons s q))

  scaled_product : (p q : Terms) → scaled_value (product ℤR p q) x ≡ scaled_value p x *ℚ scaled_value q x
  unfolding product
  scaled_product [] q = scaled_nil ∙ sym (ap (λ z. z *ℚ scaled_value q x) scaled_nil ∙ zero-* ℚR _)
  scaled_product (t ∷ p) q = scaled-++ (times ℤR t q) (product ℤR p q)
      ∙ ap₂ ◌+ℚ◌ (scaled_times t q) (scaled_product p q) ∙ sym (dist _ _ _)
      ∙ ap (λ z. z *ℚ scaled_value q x) (sym (scaled_cons t p))

  pub scaled_products : (f g : Model) → scaled_value (products f g) x
      ≡ scaled_value f.terms x *ℚ scaled_value g.terms x
  unfolding products
  scaled_products f g = scaled_collect (product ℤR f.terms g.terms) ∙ scaled_product f.terms g.terms

-- ---- bounds on the box
-- |0| ≤ 0
pub abs_zero : abs ℚO (natural 0) ≤ℚ natural 0
abs_zero = equal (abs_pos ℚO (≤-refl (natural 0)))

-- bounds add up
pub sum_≤ : (a b : ℚ) (m n : ℕ) → abs ℚO a ≤ℚ natural m → abs ℚO b ≤ℚ natural n → abs ℚO (a +ℚ b) ≤ℚ natural (m + n)
sum_≤ a b m n h k = triangle ℚO a b ≤≤ +-mono ℚO h k ≤≡ sym (natural-+ m n)

module _ {n : ℕ} {x : Point} (b : InBox n x) where
  pub term_≤ : (k : List ℕ) (c : ℤ) → abs ℚO (term_value x k c) ≤ℚ natural (nat_abs c)
  term_≤ k c = abs_prod ℚO _ _ (equal (abs_whole c)) (monomial_le ℚO k b) ≤≡ *-one _

  -- the value is at most the sum of all |c|
  pub scaled_≤ : (p : Terms) → abs ℚO (scaled_value p x) ≤ℚ natural (size p)
  unfolding scaled_value size sum_over
  scaled_≤ [] = abs_zero
  scaled_≤ (t ∷ p) = sum_≤ _ _ _ _ (term_≤ t.exponents t.coefficient) (scaled_≤ p)

  -- what rounding changes is at most the sum of the residuals
  pub rounded_≤ : (p : Terms) → abs ℚO (scaled_value p x -ℚ natural U *ℚ scaled_value (map_coefficients round p) x)
      ≤ℚ natural (sum_ℕ (λ k z. residual z) p)
  unfolding scaled_value sum_over map_coefficients
  rounded_≤ [] = ap (abs ℚO) (ring 1 ℚR (λ u. 𝟎 ⊟ u ⊠ 𝟎) (λ u. 𝟎) refl (natural U)) ≡≤ abs_zero
  rounded_≤ (t ∷ p) = ap (abs ℚO) apart ≡≤ sum_≤ _ _ _ _ (term_≤ t.exponents r ≤≡ ap natural (sym (residual_is c)))
      (rounded_≤ p)
    where
      c : ℤ
      c = t.coefficient

      r : ℤ
      r = c -ℤ round c *ℤ pos U

      m : ℚ
      m = monomial ℚR t.exponents x

      v : ℚ
      v = sum_over ◌+ℚ◌ (natural 0) (term_value x) p

      w : ℚ
      w = sum_over ◌+ℚ◌ (natural 0) (term_value x) (map_coefficients round p)

      left_over : whole r ≡ whole c -ℚ natural U *ℚ whole (round c)
      left_over = whole-+ c _ ∙ ap (λ y. whole c +ℚ y) (whole_neg (round c *ℤ pos U)
          ∙ ap negℚ (whole-* (round c) (pos U) ∙ ℚR.*-comm _ _))

      apart : whole c *ℚ m +ℚ v -ℚ natural U *ℚ (whole (round c) *ℚ m +ℚ w) ≡ whole r *ℚ m +ℚ (v -ℚ natural U *ℚ w)
      apart = ring 6 ℚR (λ c m v u r w. c ⊠ m ⊞ v ⊟ u ⊠ (r ⊠ m ⊞ w)) (λ c m v u r w. (c ⊟ u ⊠ r) ⊠ m ⊞ (v ⊟ u ⊠ w)) refl
          (whole c) m v (natural U) (whole (round c)) w
          ∙ ap (λ z. z *ℚ m +ℚ (v -ℚ natural U *ℚ w)) (sym left_over)
