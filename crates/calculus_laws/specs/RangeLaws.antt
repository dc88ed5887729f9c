-- The range encloses; a model whose range lies from -U to U stays in the box.
use Rattle.std.specs.Prelude.{◌≡◌, Bool, not, ◌&&◌, ℕ, ◌+◌, T, ℤ, pos, neg_ℤ, nat_abs}
use Rattle.std.proofs.Math.Path.{refl, sym, ap, ap₂}
use Rattle.std.proofs.Common.{◌∙◌, eqb→eq}
use Rattle.std.proofs.Math.Bool.{true, false}
use mathlib.Core.List.{List, [], ◌∷◌}
use Rattle.std.specs.Int.Signed.{le_z, le_z_yes}
use Rattle.algebra.specs.RingLaws.{zero-*}
use Rattle.algebra.specs.RingSolver.{𝟎, 𝟏, ◌⊞◌, ◌⊟◌, ◌⊠◌, ⊝◌, ring}
use Rattle.algebra.specs.Ordered.{abs}
use Rattle.algebra.specs.OrderedLaws.{abs_le, le_abs, neg_le_abs, +-mono, *-mono, neg_mono}
use Rattle.algebra.proofs.Rational.{ℚ, ◌+ℚ◌, ◌*ℚ◌, negℚ, whole, ◌≤ℚ◌}
use Rattle.algebra.proofs.RationalRing.{ℚR}
use Rattle.algebra.proofs.RationalOrder.{ℚO}
use Rattle.algebra.proofs.RationalLaws.{whole-+, whole_neg, whole_≤}
use Rattle.polynomial.specs.Polynomial.{monomial}
use Rattle.polynomial.proofs.BoxLaws.{monomial_even}
use Rattle.numbers.specs.Fixed.{U}
use Rattle.calculus.specs.Monomial.{degree}
use Rattle.calculus.specs.Terms.{Terms, sum_over, sum_ℕ, sum_ℤ, size}
use Rattle.calculus.specs.Model.{Model, ◌-ℚ◌, Point, InBox}
use Rattle.calculus.specs.Operations.{is_constant, constant_part, even_powers, can_fall, can_rise, below, above}
use Rattle.calculus.specs.Operations.{range, range_in_box}
use Rattle.calculus.specs.Functions.{Lies}
use Rattle.calculus_laws.specs.TestLaws.{and_left, and_right}
use Rattle.calculus_laws.specs.MonomialLaws.{monomial_constant}
use Rattle.calculus_laws.specs.SumLaws.{ℕ_addition, ℤ_addition, if_ℤ, if_so, sum_select}
use Rattle.calculus_laws.specs.UnitLaws.{natural, natural-+, U_cancel}
use Rattle.calculus_laws.specs.ValueLaws.{term_value, scaled_value, Near, scaled_nil, scaled_cons, term_≤}
use Rattle.calculus_laws.specs.ChainLaws.{◌≤≤◌, ◌≡≤◌, ◌≤≡◌, equal}
open ℚR use {*-one}

-- ---- one term: what it counts in the constant part, below it and above it
abbrev pub steady : List ℕ → ℤ → ℤ
steady k c = if_ℤ (is_constant k) c

abbrev pub fall : List ℕ → ℤ → ℕ
fall k c = if_so ℕ_addition (can_fall k c) (nat_abs c)

abbrev pub rise : List ℕ → ℤ → ℕ
rise k c = if_so ℕ_addition (can_rise k c) (nat_abs c)

-- a number v of size at most |c|, which is c where a holds and on one side of 0 where s holds
module _ (c : ℤ) (v : ℚ) (small : abs ℚO v ≤ℚ natural (nat_abs c)) where
  from_cases : (a s : Bool) → (T a → v ≡ whole c) → (T s → natural 0 ≤ℚ v)
      → whole (if_ℤ a c) -ℚ natural (if_so ℕ_addition (not a && not s) (nat_abs c)) ≤ℚ v
  unfolding if_so
  from_cases true s at above = equal (ring 1 ℚR (λ c. c ⊟ 𝟎) (λ c. c) refl (whole c) ∙ sym (at tt))
  from_cases false true at above = ring 0 ℚR (𝟎 ⊟ 𝟎) 𝟎 refl ≡≤ above tt
  from_cases false false at above = ring 1 ℚR (λ n. 𝟎 ⊟ n) (λ n. ⊝ n) refl (natural (nat_abs c))
      ≡≤ neg_mono ℚO (neg_le_abs ℚO v ≤≤ small)
      ≤≡ ring 1 ℚR (λ v. ⊝ (⊝ v)) (λ v. v) refl v

  to_cases : (a s : Bool) → (T a → v ≡ whole c) → (T s → v ≤ℚ natural 0)
      → v ≤ℚ whole (if_ℤ a c) +ℚ natural (if_so ℕ_addition (not a && not s) (nat_abs c))
  unfolding if_so
  to_cases true s at under = equal (at tt ∙ ring 1 ℚR (λ c. c) (λ c. c ⊞ 𝟎) refl (whole c))
  to_cases false true at under = under tt ≤≡ ring 0 ℚR 𝟎 (𝟎 ⊞ 𝟎) refl
  to_cases false false at under = le_abs ℚO v
      ≤≤ small
      ≤≡ ring 1 ℚR (λ n. n) (λ n. 𝟎 ⊞ n) refl (natural (nat_abs c))

module _ {n : ℕ} {x : Point} (b : InBox n x) where
  at_constant : (k : List ℕ) (c : ℤ) → T (is_constant k) → term_value x k c ≡ whole c
  unfolding is_constant
  at_constant k c h = ap (λ m. whole c *ℚ m) (monomial_constant k x (eqb→eq (degree k) 0 h)) ∙ *-one _

  term_from : (k : List ℕ) (c : ℤ) → whole (steady k c) -ℚ natural (fall k c) ≤ℚ term_value x k c
  unfolding can_fall even_powers
  term_from k c = from_cases c (term_value x k c) (term_≤ b k c) (is_constant k) (even_powers k && le_z (pos 0) c)
      (at_constant k c)
      (λ h. sym (zero-* ℚR (monomial ℚR k x))
      ≡≤ *-mono ℚO (monomial_even ℚO k x (and_left (even_powers k) _ h))
      (whole_≤ (le_z_yes (and_right (even_powers k) _ h))))

  term_to : (k : List ℕ) (c : ℤ) → term_value x k c ≤ℚ whole (steady k c) +ℚ natural (rise k c)
  unfolding can_rise even_powers
  term_to k c = to_cases c (term_value x k c) (term_≤ b k c) (is_constant k) (even_powers k && le_z c (pos 0))
      (at_constant k c)
      (λ h. *-mono ℚO (monomial_even ℚO k x (and_left (even_powers k) _ h))
      (whole_≤ (le_z_yes (and_right (even_powers k) _ h)))
      ≤≡ zero-* ℚR (monomial ℚR k x))

  -- ---- all terms
  terms_from : (p : Terms) → whole (sum_ℤ steady p) -ℚ natural (sum_ℕ fall p) ≤ℚ scaled_value p x
  unfolding sum_over
  terms_from [] = equal (ring 0 ℚR (𝟎 ⊟ 𝟎) 𝟎 refl ∙ sym (scaled_nil x))
  terms_from (t ∷ p) = ap₂ (λ s f. s -ℚ f) (whole-+ _ _) (natural-+ _ _)
      ∙ ring 4 ℚR (λ a b c d. (a ⊞ b) ⊟ (c ⊞ d)) (λ a b c d. (a ⊟ c) ⊞ (b ⊟ d)) refl _ _ _ _
      ≡≤ +-mono ℚO (term_from t.exponents t.coefficient) (terms_from p)
      ≤≡ sym (scaled_cons x t p)

  terms_to : (p : Terms) → scaled_value p x ≤ℚ whole (sum_ℤ steady p) +ℚ natural (sum_ℕ rise p)
  unfolding sum_over
  terms_to [] = equal (scaled_nil x ∙ ring 0 ℚR 𝟎 (𝟎 ⊞ 𝟎) refl)
  terms_to (t ∷ p) = scaled_cons x t p
      ≡≤ +-mono ℚO (term_to t.exponents t.coefficient) (terms_to p)
      ≤≡ ring 4 ℚR (λ a b c d. (a ⊞ c) ⊞ (b ⊞ d)) (λ a b c d. (a ⊞ b) ⊞ (c ⊞ d)) refl _ _ _ _
      ∙ sym (ap₂ ◌+ℚ◌ (whole-+ _ _) (natural-+ _ _))

-- ---- the sums of the definition, term by term
pub steady_sum : (m : Model) → constant_part m ≡ sum_ℤ steady m.terms
unfolding constant_part
steady_sum m = sum_select ℤ_addition (λ k c. c) (λ k c. is_constant k) m.terms

pub below_sum : (m : Model) → below m ≡ sum_ℕ fall m.terms + m.radius
unfolding below size
below_sum m = ap (λ s. s + m.radius) (sum_select ℕ_addition (λ k c. nat_abs c) can_fall m.terms)

pub above_sum : (m : Model) → above m ≡ sum_ℕ rise m.terms + m.radius
unfolding above size
above_sum m = ap (λ s. s + m.radius) (sum_select ℕ_addition (λ k c. nat_abs c) can_rise m.terms)

-- the outcome times U lies in the range
pub range_encloses : (m : Model) {n : ℕ} {x : Point} (y : ℚ) → InBox n x → Near m x y → Lies y (range m)
unfolding Near range
range_encloses m {x = x} y b h = record {
  from = whole-+ (constant_part m) _
      ∙ ap₂ (λ c z. c +ℚ z) (ap whole (steady_sum m))
      (whole_neg (pos (below m)) ∙ ap negℚ (ap natural (below_sum m) ∙ natural-+ _ _))
      ∙ ring 3 ℚR (λ c f e. c ⊟ (f ⊞ e)) (λ c f e. (c ⊟ f) ⊟ e) refl _ _ _
      ≡≤ +-mono ℚO (terms_from b m.terms) (neg_mono ℚO (neg_le_abs ℚO _ ≤≤ h))
      ≤≡ ring 2 ℚR (λ u s. s ⊟ (⊝ (u ⊟ s))) (λ u s. u) refl (natural U *ℚ y) (scaled_value m.terms x);
  to = ring 2 ℚR (λ u s. u) (λ u s. s ⊞ (u ⊟ s)) refl (natural U *ℚ y) (scaled_value m.terms x)
      ≡≤ +-mono ℚO (terms_to b m.terms) (le_abs ℚO _ ≤≤ h)
      ≤≡ ring 3 ℚR (λ c r e. (c ⊞ r) ⊞ e) (λ c r e. c ⊞ (r ⊞ e)) refl _ _ _
      ∙ sym (whole-+ (constant_part m) _
      ∙ ap₂ (λ c z. c +ℚ z) (ap whole (steady_sum m)) (ap natural (above_sum m) ∙ natural-+ _ _));
}

-- so where the range lies from -U to U the outcome lies from -1 to 1
pub in_box_encloses : (m : Model) {n : ℕ} {x : Point} (y : ℚ) → InBox n x → T (range_in_box m)
    → Near m x y → abs ℚO y ≤ℚ natural 1
unfolding range_in_box
in_box_encloses m y b t h = abs_le ℚO
    (U_cancel y (natural 1)
    (l.to
    ≤≤ whole_≤ (le_z_yes (and_right (le_z (neg_ℤ (pos U)) (range m).low) _ t))
    ≤≡ sym (*-one (natural U))))
    (U_cancel (negℚ y) (natural 1)
    (ring 2 ℚR (λ u y. u ⊠ (⊝ y)) (λ u y. ⊝ (u ⊠ y)) refl (natural U) y
    ≡≤ neg_mono ℚO (whole_≤ (le_z_yes (and_left (le_z (neg_ℤ (pos U)) (range m).low) _ t)) ≤≤ l.from)
    ≤≡ ap negℚ (whole_neg (pos U)) ∙ ring 1 ℚR (λ u. ⊝ (⊝ u)) (λ u. u ⊠ 𝟏) refl (natural U)))
  where
    l : Lies y (range m)
    l = range_encloses m y b h
