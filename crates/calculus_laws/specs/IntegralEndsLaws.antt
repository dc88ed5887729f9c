-- The integral of what is within a model lies from the low to the high integral end.
use Rattle.std.specs.Prelude.{◌≡◌, Bool, ℕ, ◌*◌, ◌^◌, ◌≤◌, ℤ, ◌+ℤ◌, ◌-ℤ◌, ◌*ℤ◌}
use Rattle.std.proofs.Math.Path.{refl, sym, ap}
use Rattle.std.proofs.Common.{◌∙◌, subst, arith}
use Rattle.std.proofs.Math.Bool.{true, false}
use mathlib.Core.List.{List, [], ◌∷◌, map}
use Rattle.std.proofs.Math.IntN.{pos}
use Rattle.algebra.specs.Ring.{nat}
use Rattle.algebra.specs.RingLaws.{*-zero}
use Rattle.algebra.specs.RingSolver.{◌⊞◌, ◌⊟◌, ⊝◌, ring}
use Rattle.algebra.specs.Ordered.{abs}
use Rattle.algebra.specs.OrderedLaws.{le_abs, neg_le_abs, +-mono, *-mono}
use Rattle.algebra.specs.FieldLaws.{reciprocal_nonneg}
use Rattle.algebra.proofs.Rational.{ℚ, ◌+ℚ◌, ◌*ℚ◌, negℚ, whole, ◌≤ℚ◌, reciprocal}
use Rattle.algebra.proofs.RationalRing.{ℚR}
use Rattle.algebra.proofs.RationalOrder.{ℚO}
use Rattle.algebra.proofs.RationalLaws.{whole-+, whole-*, whole_neg, whole_≤, nat_whole}
use Rattle.algebra.proofs.RationalField.{ℚF}
use Rattle.polynomial.specs.Polynomial.{eval, scale}
use Rattle.polynomial.proofs.PolynomialLaws.{eval_scale}
use Rattle.polynomial.specs.Integral as I
use Rattle.polynomial.specs.Integral.{all_even, divisor, moment}
use Rattle.polynomial.proofs.IntegralLaws.{divisor_pos, integral_scale, integral_mono}
use Rattle.numbers.specs.Division.{floor, ceiling}
use Rattle.numbers.proofs.DivisionLaws.{floor_le, le_ceiling}
use Rattle.numbers.specs.Fixed.{U}
use Rattle.calculus.specs.Terms.{Terms, sum_over}
use Rattle.calculus.specs.Model.{Model, ◌-ℚ◌, Point, InBox}
use Rattle.calculus.specs.Operations.{Ends, integral_sum, term_by_term}
use Rattle.calculus.specs.Functions.{ℚPolynomial, value_of, exact_integral, Lies}
use Rattle.calculus_laws.specs.SumLaws.{ℤ_addition, if_ℤ, if_ℚ, if_so, sum_select}
use Rattle.calculus_laws.specs.UnitLaws.{natural, natural-*}
use Rattle.calculus_laws.specs.ValueLaws.{term_value, scaled_value, Near, scaled_nil, scaled_cons}
use Rattle.calculus_laws.specs.ChainLaws.{◌≤≤◌, ◌≡≤◌, ◌≤≡◌, equal}
open ℚO use {≤-refl}
open ℚR use {*-one, *-assoc, *-comm}

-- the terms as a polynomial, with the coefficients themselves for those of units
unfoldable pub whole_polynomial : Terms → ℚPolynomial
whole_polynomial = map (λ t. record { coefficient = whole t.coefficient; exponents = t.exponents })

eval_whole : (p : Terms) (x : Point) → eval ℚR (whole_polynomial p) x ≡ scaled_value p x
unfolding whole_polynomial eval
eval_whole [] x = sym (scaled_nil x)
eval_whole (t ∷ p) x = ap (λ z. term_value x t.exponents t.coefficient +ℚ z) (eval_whole p x)
    ∙ sym (scaled_cons x t p)

-- ---- one term
-- z d / d is z
divided : (z : ℤ) (d : ℕ) → 1 ≤ d → whole z *ℚ natural d *ℚ reciprocal d ≡ whole z
divided z d h = *-assoc _ _ _
    ∙ ap (λ w. whole z *ℚ w) (ap (λ n. n *ℚ reciprocal d) (sym (nat_whole d)) ∙ ℚF.nat_reciprocal d h) ∙ *-one _

-- c k / d rounded down is at most c k / d, and rounded up at least
low_term : (c : ℤ) (k d : ℕ) → 1 ≤ d → whole (floor (c *ℤ pos k) d) ≤ℚ whole c *ℚ (natural k *ℚ reciprocal d)
low_term c k d h = sym (divided (floor (c *ℤ pos k) d) d h)
    ≡≤ *-mono ℚO (reciprocal_nonneg ℚF d (omega arith))
    (sym (whole-* (floor (c *ℤ pos k) d) (pos d)) ≡≤ whole_≤ (floor_le (c *ℤ pos k) d h) ≤≡ whole-* c (pos k))
    ≤≡ *-assoc _ _ _

high_term : (c : ℤ) (k d : ℕ) → 1 ≤ d → whole c *ℚ (natural k *ℚ reciprocal d) ≤ℚ whole (ceiling (c *ℤ pos k) d)
high_term c k d h = sym (*-assoc _ _ _)
    ≡≤ *-mono ℚO (reciprocal_nonneg ℚF d (omega arith))
    (sym (whole-* c (pos k)) ≡≤ whole_≤ (le_ceiling (c *ℤ pos k) d h) ≤≡ whole-* (ceiling (c *ℤ pos k) d) (pos d))
    ≤≡ divided (ceiling (c *ℤ pos k) d) d h

-- ---- the sums
module _ (n : ℕ) where
  -- what a rule gives for a term
  rounded : (ℤ → ℕ → ℤ) → List ℕ → ℤ → ℤ
  rounded rule k c = if_ℤ (all_even n k) (rule (c *ℤ pos (2 ^ n)) (divisor n k))

  -- their sum
  total : (ℤ → ℕ → ℤ) → Terms → ℤ
  total rule p = sum_over ◌+ℤ◌ (pos 0) (rounded rule) p

  -- the integral of a term, where b says that its exponents are all even
  unfoldable pub term_moment : (k : List ℕ) (c : ℤ) (b : Bool) → ℚ
  term_moment k c b = whole c *ℚ if_ℚ b (natural (2 ^ n) *ℚ reciprocal (divisor n k))

  pub moment_is : (k : List ℕ) (c : ℤ) → whole c *ℚ moment ℚF n k ≡ term_moment k c (all_even n k)
  unfolding moment term_moment if_so
  moment_is k c = go (all_even n k)
    where
      go : (b : Bool) → whole c
          *ℚ (elim b as (λ b. ℚ) [ true ↦ nat ℚR (2 ^ n) *ℚ reciprocal (divisor n k) | false ↦ natural 0 ])
          ≡ term_moment k c b
      go true = ap (λ z. whole c *ℚ (z *ℚ reciprocal (divisor n k))) (nat_whole (2 ^ n))
      go false = refl

  rounded_low : (k : List ℕ) (c : ℤ) → whole (rounded floor k c) ≤ℚ whole c *ℚ moment ℚF n k
  unfolding rounded term_moment if_so
  rounded_low k c = go (all_even n k) ≤≡ sym (moment_is k c)
    where
      go : (b : Bool) → whole (if_ℤ b (floor (c *ℤ pos (2 ^ n)) (divisor n k)))
          ≤ℚ term_moment k c b
      go true = low_term c (2 ^ n) (divisor n k) (divisor_pos n k)
      go false = equal (sym (*-zero ℚR (whole c)))

  rounded_high : (k : List ℕ) (c : ℤ) → whole c *ℚ moment ℚF n k ≤ℚ whole (rounded ceiling k c)
  unfolding rounded term_moment if_so
  rounded_high k c = moment_is k c ≡≤ go (all_even n k)
    where
      go : (b : Bool) → term_moment k c b
          ≤ℚ whole (if_ℤ b (ceiling (c *ℤ pos (2 ^ n)) (divisor n k)))
      go true = high_term c (2 ^ n) (divisor n k) (divisor_pos n k)
      go false = equal (*-zero ℚR (whole c))

  total_low : (p : Terms) → whole (total floor p) ≤ℚ I.integral ℚF n (whole_polynomial p)
  unfolding total sum_over whole_polynomial I.integral
  total_low [] = ≤-refl (natural 0)
  total_low (t ∷ p) = whole-+ (rounded floor t.exponents t.coefficient) _
      ≡≤ +-mono ℚO (rounded_low t.exponents t.coefficient) (total_low p)

  total_high : (p : Terms) → I.integral ℚF n (whole_polynomial p) ≤ℚ whole (total ceiling p)
  unfolding total sum_over whole_polynomial I.integral
  total_high [] = ≤-refl (natural 0)
  total_high (t ∷ p) = +-mono ℚO (rounded_high t.exponents t.coefficient) (total_high p)
      ≤≡ sym (whole-+ (rounded ceiling t.exponents t.coefficient) _)

total_is : (rule : ℤ → ℕ → ℤ) (m : Model) → integral_sum rule m ≡ total m.vars rule m.terms
unfolding integral_sum total rounded
total_is rule m = sum_select ℤ_addition _ (λ k c. all_even m.vars k) m.terms

-- ---- the ends
-- the integral of a model's polynomial over the box, in units
abbrev pub polynomial_integral : Model → ℚ
polynomial_integral m = I.integral ℚF m.vars (whole_polynomial m.terms)

-- each term rounded down gives at most that, and rounded up at least
pub down_below : (m : Model) → whole (integral_sum floor m) ≤ℚ polynomial_integral m
down_below m = ap whole (total_is floor m) ≡≤ total_low m.vars m.terms

pub up_above : (m : Model) → polynomial_integral m ≤ℚ whole (integral_sum ceiling m)
up_above m = total_high m.vars m.terms ≤≡ ap whole (sym (total_is ceiling m))

-- from l to h, widened by 2^n × e on both sides
unfoldable pub widened_ends : Model → (l h : ℤ) → Ends
widened_ends m l h = record { low = l -ℤ pos (2 ^ m.vars * m.radius); high = h +ℤ pos (2 ^ m.vars * m.radius) }

-- where l and h enclose the integral of the model's polynomial, these enclose that of a polynomial within the model
pub widened_encloses : (m : Model) (q : ℚPolynomial) → ((x : Point) → InBox m.vars x → Near m x (value_of q x))
    → (l k : ℤ) → whole l ≤ℚ polynomial_integral m → polynomial_integral m ≤ℚ whole k
    → Lies (exact_integral m.vars q) (widened_ends m l k)
unfolding widened_ends Near value_of exact_integral
widened_encloses m q h l k hl hk = record {
  from = whole-+ l _ ∙ ap (λ z. whole l +ℚ z) (whole_neg _ ∙ ap negℚ width)
      ≡≤ +-mono ℚO (hl ≤≤ below) (≤-refl (negℚ w))
      ≤≡ ring 2 ℚR (λ a w. a ⊞ w ⊟ w) (λ a w. a) refl (natural U *ℚ I.integral ℚF n q) w;
  to = above
      ≤≤ +-mono ℚO hk (≤-refl w)
      ≤≡ sym (whole-+ k _ ∙ ap (λ z. whole k +ℚ z) width);
}
  where
    n : ℕ
    n = m.vars

    e : ℚ
    e = natural m.radius

    w : ℚ
    w = e *ℚ nat ℚR (2 ^ n)

    P : ℚPolynomial
    P = whole_polynomial m.terms

    width : natural ((2 ^ n) * m.radius) ≡ w
    width = natural-* (2 ^ n) m.radius ∙ *-comm _ _ ∙ ap (λ z. e *ℚ z) (sym (nat_whole (2 ^ n)))

    near : (x : Point) → InBox n x → abs ℚO (natural U *ℚ eval ℚR q x -ℚ eval ℚR P x) ≤ℚ e
    near x b = subst (λ v. abs ℚO (natural U *ℚ eval ℚR q x -ℚ v) ≤ℚ e) (sym (eval_whole m.terms x)) (h x b)

    lower : (x : Point) → InBox n x → eval ℚR P x ≤ℚ eval ℚR (scale ℚR (natural U) q) x +ℚ e
    lower x b = ring 2 ℚR (λ p u. p) (λ p u. u ⊞ (⊝ (u ⊟ p))) refl (eval ℚR P x) (natural U *ℚ eval ℚR q x)
        ≡≤ +-mono ℚO (equal (sym (eval_scale ℚR (natural U) q x))) (neg_le_abs ℚO _ ≤≤ near x b)

    upper : (x : Point) → InBox n x → eval ℚR (scale ℚR (natural U) q) x ≤ℚ eval ℚR P x +ℚ e
    upper x b = eval_scale ℚR (natural U) q x
        ∙ ring 2 ℚR (λ p u. u) (λ p u. p ⊞ (u ⊟ p)) refl (eval ℚR P x) (natural U *ℚ eval ℚR q x)
        ≡≤ +-mono ℚO (≤-refl _) (le_abs ℚO _ ≤≤ near x b)

    below : I.integral ℚF n P ≤ℚ natural U *ℚ I.integral ℚF n q +ℚ w
    below = integral_mono ℚF n P (scale ℚR (natural U) q) e lower
        ≤≡ ap (λ z. z +ℚ w) (integral_scale ℚF n (natural U) q)

    above : natural U *ℚ I.integral ℚF n q ≤ℚ I.integral ℚF n P +ℚ w
    above = sym (integral_scale ℚF n (natural U) q) ≡≤ integral_mono ℚF n (scale ℚR (natural U) q) P e upper

-- the ends of the term-by-term rule
pub term_by_term_encloses : (m : Model) (q : ℚPolynomial)
    → ((x : Point) → InBox m.vars x → Near m x (value_of q x))
    → Lies (exact_integral m.vars q) (term_by_term m)
unfolding term_by_term widened_ends
term_by_term_encloses m q h =
    widened_encloses m q h (integral_sum floor m) (integral_sum ceiling m) (down_below m) (up_above m)
