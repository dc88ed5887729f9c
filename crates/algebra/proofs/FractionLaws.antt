-- Cross-multiplying is an equivalence, and the comparison and the operations of fractions respect it.
use Rattle.std.specs.Prelude.{◌≡◌, refl, ℕ, zero, suc, ◌+◌, ◌*◌, T, ℤ, pos, negsuc, neg_ℤ, ◌*ℤ◌, ◌≤ℤ◌}
use Rattle.std.proofs.Common.{sym, ◌∙◌, ap, ap₂, arith, le→leb}
use Rattle.std.proofs.Math.Logic.{Equivalence}
use Rattle.std.proofs.Math.IntN.{ℤ_set}
use Rattle.std.specs.Int.Signed.{le_z_yes}
use Rattle.algebra.specs.BooleanLaws.{same_tests}
use Rattle.algebra.specs.Integer.{Is, is_mul, is_neg, is_nat}
use Rattle.algebra.specs.Ring.{Ring}
use Rattle.algebra.specs.RingSolver.{◌⊞◌, ◌⊠◌, ⊝◌, ring}
use Rattle.algebra.specs.Ordered.{Ordered}
use Rattle.algebra.specs.OrderedLaws.{≤-reflexive, *-mono}
use Rattle.algebra.specs.IntegerRing.{ℤR, ℤO, eq_of, ≤ℤ_cancel, ≡ℤ_cancel}
use Rattle.algebra.specs.Fraction.{Frac, one_more, denominator, Same, at_most, times_1, sum, product, negation}
use Rattle.algebra.specs.Fraction.{over_1, over, inversion}

-- ---- denominators
pub one_more_zero : one_more 0 ≡ pos 1
unfolding one_more
one_more_zero = refl

pub one_more_times : (m n : ℕ) → one_more (times_1 m n) ≡ one_more m *ℤ one_more n
unfolding one_more times_1
one_more_times m n = ap pos (omega arith)

pub one_more_nonneg : (n : ℕ) → pos 0 ≤ℤ one_more n
unfolding one_more
one_more_nonneg n = le_z_yes (le→leb 0 (suc n) (omega arith))

pub one_more_cancel : (x y : ℤ) (n : ℕ) → (x *ℤ one_more n) ≤ℤ (y *ℤ one_more n) → x ≤ℤ y
unfolding one_more
one_more_cancel = ≤ℤ_cancel

one_more_cancel_≡ : (x y : ℤ) (n : ℕ) → x *ℤ one_more n ≡ y *ℤ one_more n → x ≡ y
unfolding one_more
one_more_cancel_≡ = ≡ℤ_cancel

-- ---- cross products in any ring
module _ (R : Ring) where
  open R use {Carrier, ◌+◌, ◌*◌, neg}

  infixl 60 ◌+◌
  infixl 70 ◌*◌
  -- n/d is m/e and m/e is k/f
  chain_cross : (n d m e k f : Carrier) → n * e ≡ m * d → m * f ≡ k * e → n * f * e ≡ k * d * e
  chain_cross n d m e k f h g = ring 3 R (λ n f e. n ⊠ f ⊠ e) (λ n f e. n ⊠ e ⊠ f) refl n f e ∙ ap (λ x. x * f) h
      ∙ ring 3 R (λ m d f. m ⊠ d ⊠ f) (λ m d f. m ⊠ f ⊠ d) refl m d f ∙ ap (λ x. x * d) g
      ∙ ring 3 R (λ k e d. k ⊠ e ⊠ d) (λ k e d. k ⊠ d ⊠ e) refl k e d

  -- n/d is m/e and r/s is u/t
  sum_cross : (n d m e r s u t : Carrier) → n * e ≡ m * d → r * t ≡ u * s
      → (n * s + r * d) * (e * t) ≡ (m * t + u * e) * (d * s)
  sum_cross n d m e r s u t h g =
      ring 6 R (λ n d e r s t. (n ⊠ s ⊞ r ⊠ d) ⊠ (e ⊠ t)) (λ n d e r s t. n ⊠ e ⊠ (s ⊠ t) ⊞ r ⊠ t ⊠ (d ⊠ e)) refl
      n d e r s t
      ∙ ap₂ (λ x y. x * (s * t) + y * (d * e)) h g
      ∙ ring 6 R (λ d m e s u t. m ⊠ d ⊠ (s ⊠ t) ⊞ u ⊠ s ⊠ (d ⊠ e)) (λ d m e s u t. (m ⊠ t ⊞ u ⊠ e) ⊠ (d ⊠ s)) refl
      d m e s u t

  product_cross : (n d m e r s u t : Carrier) → n * e ≡ m * d → r * t ≡ u * s → n * r * (e * t) ≡ m * u * (d * s)
  product_cross n d m e r s u t h g = ring 4 R (λ n e r t. n ⊠ r ⊠ (e ⊠ t)) (λ n e r t. n ⊠ e ⊠ (r ⊠ t)) refl n e r t
      ∙ ap₂ ◌*◌ h g ∙ ring 4 R (λ d m s u. m ⊠ d ⊠ (u ⊠ s)) (λ d m s u. m ⊠ u ⊠ (d ⊠ s)) refl d m s u

  negation_cross : (n d m e : Carrier) → n * e ≡ m * d → neg n * e ≡ neg m * d
  negation_cross n d m e h = ring 2 R (λ n e. ⊝ n ⊠ e) (λ n e. ⊝ (n ⊠ e)) refl n e ∙ ap neg h
      ∙ ring 2 R (λ m d. ⊝ (m ⊠ d)) (λ m d. ⊝ m ⊠ d) refl m d

module _ (O : Ordered) where
  open O use {ring as R, ◌≤◌, ≤_trans, ≤-mul}
  open R use {Carrier, 0#, ◌*◌}

  infixl 70 ◌*◌
  infix 50 ◌≤◌
  -- n/d is m/e and r/s is u/t: with n/d at most r/s, m/e is at most u/t
  compare_cross : (n d m e r s u t : Carrier) → 0# ≤ e → 0# ≤ t → n * e ≡ m * d → r * t ≡ u * s → n * s ≤ r * d
      → m * t * d * s ≤ u * e * d * s
  compare_cross n d m e r s u t he ht h g l = ≤_trans (≤-reflexive O left)
      (≤_trans (*-mono O (≤-mul he ht) l) (≤-reflexive O right))
    where
      left : m * t * d * s ≡ n * s * (e * t)
      left = ring 4 R (λ m t d s. m ⊠ t ⊠ d ⊠ s) (λ m t d s. m ⊠ d ⊠ (t ⊠ s)) refl m t d s
          ∙ ap (λ x. x * (t * s)) (sym h)
          ∙ ring 4 R (λ n e t s. n ⊠ e ⊠ (t ⊠ s)) (λ n e t s. n ⊠ s ⊠ (e ⊠ t)) refl n e t s

      right : r * d * (e * t) ≡ u * e * d * s
      right = ring 4 R (λ r d e t. r ⊠ d ⊠ (e ⊠ t)) (λ r d e t. r ⊠ t ⊠ (d ⊠ e)) refl r d e t
          ∙ ap (λ x. x * (d * e)) g ∙ ring 4 R (λ u s d e. u ⊠ s ⊠ (d ⊠ e)) (λ u s d e. u ⊠ e ⊠ d ⊠ s) refl u s d e

-- ---- an equivalence
pub Same-prop : (p q : Frac) → IsProp (Same p q)
unfolding Same
Same-prop p q = ℤ_set _ _

Same-sym : (p q : Frac) → Same p q → Same q p
unfolding Same
Same-sym p q h = sym h

pub Same-equivalence : Equivalence Same
unfolding Same
Same-equivalence = record {
  refl = λ p. refl;
  symm = Same-sym;
  trans = λ p q r h k. one_more_cancel_≡ _ _ q.denominator_1
      (chain_cross ℤR p.numerator (denominator p) q.numerator (denominator q) r.numerator (denominator r) h k);
}

-- ---- the operations respect it
pub sum_respects : (p q p' q' : Frac) → Same p p' → Same q q' → Same (sum p q) (sum p' q')
unfolding Same sum
sum_respects p q p' q' h k = simp one_more_times (sum_cross ℤR p.numerator (denominator p) p'.numerator
    (denominator p') q.numerator (denominator q) q'.numerator (denominator q') h k)

pub product_respects : (p q p' q' : Frac) → Same p p' → Same q q' → Same (product p q) (product p' q')
unfolding Same product
product_respects p q p' q' h k = simp one_more_times (product_cross ℤR p.numerator (denominator p) p'.numerator
    (denominator p') q.numerator (denominator q) q'.numerator (denominator q') h k)

pub negation_respects : (p q : Frac) → Same p q → Same (negation p) (negation q)
unfolding Same negation
negation_respects p q h = negation_cross ℤR p.numerator (denominator p) q.numerator (denominator q) h

-- ---- so does the comparison
at_most_moves : (p q p' q' : Frac) → Same p p' → Same q q' → T (at_most p q) → T (at_most p' q')
unfolding Same at_most
at_most_moves p q p' q' h k t = (one_more_cancel x y p.denominator_1
    (one_more_cancel (x *ℤ denominator p) (y *ℤ denominator p) q.denominator_1 (compare_cross ℤO
    p.numerator (denominator p) p'.numerator (denominator p')
    q.numerator (denominator q) q'.numerator (denominator q')
    (one_more_nonneg p'.denominator_1) (one_more_nonneg q'.denominator_1) h k (le_z_yes t)))).le
  where
    x : ℤ
    x = p'.numerator *ℤ denominator q'

    y : ℤ
    y = q'.numerator *ℤ denominator p'

pub at_most_respects : (p q p' q' : Frac) → Same p p' → Same q q' → at_most p q ≡ at_most p' q'
at_most_respects p q p' q' h k = same_tests (at_most p q) (at_most p' q') (at_most_moves p q p' q' h k)
    (at_most_moves p' q' p q (Same-sym p p' h) (Same-sym q q' k))

-- ---- and so does the inverse: equal fractions have one sign
up : (n : ℕ) → Is (pos (suc n)) (suc n) 0
up n = is_nat (suc n)

down : (n : ℕ) → Is (negsuc n) 0 (suc n)
down n = is_neg (is_nat (suc n))

cross : {x y : ℤ} {a b c d : ℕ} → Is x a b → Is y c d → (m n : ℕ) → x *ℤ pos (suc n) ≡ y *ℤ pos (suc m)
    → a * suc n + d * suc m ≡ c * suc m + b * suc n
cross h k m n e = omega (arith, eq_of (is_mul h (is_nat (suc n))) (is_mul k (is_nat (suc m))) e)

over_respects : (a b : ℤ) (d e : ℕ) → a *ℤ one_more e ≡ b *ℤ one_more d
    → Same (over (one_more d) a) (over (one_more e) b)
unfolding Same over over_1 one_more
over_respects (pos zero) (pos zero) d e h = refl
over_respects (pos zero) (pos (suc b)) d e h = absurd (omega (arith, cross (is_nat 0) (up b) d e h))
over_respects (pos zero) (negsuc b) d e h = absurd (omega (arith, cross (is_nat 0) (down b) d e h))
over_respects (pos (suc a)) (pos zero) d e h = absurd (omega (arith, cross (up a) (is_nat 0) d e h))
over_respects (pos (suc a)) (pos (suc b)) d e h = ap pos (omega (arith, cross (up a) (up b) d e h))
over_respects (pos (suc a)) (negsuc b) d e h = absurd (omega (arith, cross (up a) (down b) d e h))
over_respects (negsuc a) (pos zero) d e h = absurd (omega (arith, cross (down a) (is_nat 0) d e h))
over_respects (negsuc a) (pos (suc b)) d e h = absurd (omega (arith, cross (down a) (up b) d e h))
over_respects (negsuc a) (negsuc b) d e h =
    let g : suc d * suc b ≡ suc e * suc a = omega (arith, cross (down a) (down b) d e h) in ap (λ n. neg_ℤ (pos n)) g

pub inversion_respects : (p q : Frac) → Same p q → Same (inversion p) (inversion q)
unfolding Same inversion
inversion_respects p q h = over_respects p.numerator q.numerator p.denominator_1 q.denominator_1 h
