-- What is accepted is sound: sixteen coefficients within the span, and in powers a sound model in one variable.
use Rattle.std.specs.Prelude.{◌≡◌, refl, [], ◌∷◌, map, ℕ, suc, ◌+◌, ◌≤◌, ◌<◌, T, eqb, leb, pos, neg_ℤ, length, take, replicate}
use Rattle.std.proofs.Common.{sym, ◌∙◌, ap, subst, inl, arith, eqb→eq, leb→le, le→leb, lit≤, length-take}
use Rattle.std.proofs.Math.Dec.{eqb_refl}
use Rattle.std.proofs.lemmas.List.{length-map}
use Rattle.algebra.specs.Integer.{natAbs_neg}
use Rattle.algebra.specs.LexicographicLaws.{cons_less}
use Rattle.numbers.specs.Fixed.{span_limit}
use Rattle.calculus.specs.Monomial.{degree}
use Rattle.calculus.specs.Terms.{term, every, is_nonzero, drop_zeros, rising_from, rising}
use Rattle.calculus.specs.Model.{Model, most_degree, most_terms, fits}
use Rattle.calculus.specs.Model as M
use Rattle.calculus.specs.Refusal.{over_span}
use Rattle.calculus_laws.specs.RefusalLaws.{IfAccepted, holds, require_accepted}
use Rattle.calculus_laws.specs.TestLaws.{and_left, and_right, both}
use Rattle.calculus_laws.specs.TermsLaws.{every_nil, every_cons, every_select, length_select, rising_cons}
use Rattle.calculus_laws.specs.TermsLaws.{rising_select, nonzero_drop_zeros}
use Rattle.calculus_laws.specs.FitsLaws.{fits_by}
use Rattle.calculus_laws.specs.SoundLaws.{Sound}
use Rattle.chebyshev.specs.Coefficients.{Row, size}
use Rattle.chebyshev.specs.PowerRows.{places, combine}
use Rattle.chebyshev.specs.Tables.{chebyshev_table}
use Rattle.chebyshev.proofs.RowLengthLaws.{sum_length, products_longer, into_powers_length, from_powers_length}
use Rattle.chebyshev.specs.Curve.{Curve, span, sound}
use Rattle.chebyshev.specs.CurveOperations.{limited_curve, negate, added, add, subtract, rounded, products}
use Rattle.chebyshev.specs.CurveOperations.{multiplied, multiply, terms_from, in_powers, to_powers, in_chebyshev}
use Rattle.chebyshev.specs.CurveOperations.{row_of, from_powers}

-- ---- the test says both
pub sound_length : (c : Curve) → T (sound c) → length c.coefficients ≡ places
unfolding sound
sound_length c s = eqb→eq (length c.coefficients) places (and_left (eqb (length c.coefficients) places) _ s)

pub sound_span : (c : Curve) → T (sound c) → span c ≤ span_limit
unfolding sound
sound_span c s = leb→le (span c) span_limit (and_right (eqb (length c.coefficients) places) _ s)

sound_by : (c : Curve) → length c.coefficients ≡ places → T (leb (span c) span_limit) → T (sound c)
unfolding sound
sound_by c l s = both (eqb (length c.coefficients) places) _
    (subst (λ n. T (eqb n places)) (sym l) (eqb_refl places)) s

-- what the limit accepts keeps it
limited_sound : (c : Curve) → length c.coefficients ≡ places → IfAccepted (λ r. T (sound r)) (limited_curve c)
unfolding limited_curve
limited_sound c l = require_accepted (leb (span c) span_limit) over_span _ (λ s. holds (sound_by c l s))

-- ---- the operations
pub size_negated : (p : Row) → size (map neg_ℤ p) ≡ size p
unfolding size
size_negated [] = refl
size_negated (a ∷ p) = let h = size_negated p in let k = natAbs_neg a in omega arith

negate_length : (c : Curve) → length (negate c).coefficients ≡ length c.coefficients
unfolding negate
negate_length c = length-map c.coefficients neg_ℤ

pub negate_sound : (c : Curve) → T (sound c) → T (sound (negate c))
unfolding negate span
negate_sound c s = sound_by (negate c) (negate_length c ∙ sound_length c s)
    (subst (λ n. T (leb (n + c.radius) span_limit)) (sym (size_negated c.coefficients))
    (le→leb (span c) span_limit (sound_span c s)))

add_lengths : (c d : Curve) → length c.coefficients ≡ places → length d.coefficients ≡ places
    → length (added c d).coefficients ≡ places
unfolding added
add_lengths c d h k = sum_length c.coefficients d.coefficients (h ∙ sym k) ∙ k

pub add_sound : (c d : Curve) → T (sound c) → T (sound d) → IfAccepted (λ r. T (sound r)) (add c d)
unfolding add
add_sound c d s t = limited_sound (added c d) (add_lengths c d (sound_length c s) (sound_length d t))

pub subtract_sound : (c d : Curve) → T (sound c) → T (sound d) → IfAccepted (λ r. T (sound r)) (subtract c d)
unfolding subtract
subtract_sound c d s t = add_sound c (negate d) s (negate_sound d t)

rounded_length : (n E : ℕ) (z : Row) → places ≤ length z → length (rounded n E z).coefficients ≡ places
unfolding rounded
rounded_length n E z l = length-map (take places z) _ ∙ length-take places z ∙ omega arith

products_length : (c d : Curve) → places ≤ length (products c d)
unfolding products places
products_length c d = omega (arith, products_longer 0 c.coefficients d.coefficients (replicate 31 (pos 0)))

pub multiply_sound : (c d : Curve) → IfAccepted (λ r. T (sound r)) (multiply c d)
unfolding multiply multiplied
multiply_sound c d = limited_sound (multiplied c d) (rounded_length _ _ (products c d) (products_length c d))

pub from_powers_sound : (m : Model) → IfAccepted (λ r. T (sound r)) (from_powers m)
unfolding from_powers in_chebyshev
from_powers_sound m =
    limited_sound (in_chebyshev m) (rounded_length _ _ _ (omega (arith, from_powers_length (row_of m.terms))))

-- ---- in powers
terms_fit : (k : ℕ) (p : Row) → k + length p ≤ suc most_degree
    → T (every (λ k c. fits 1 most_degree k) (terms_from k p))
unfolding terms_from
terms_fit k [] l = every_nil (λ k c. fits 1 most_degree k)
terms_fit k (a ∷ p) l = every_cons (λ k c. fits 1 most_degree k) (term a (k ∷ [])) (terms_from (suc k) p)
    (fits_by 1 most_degree (k ∷ []) refl (unfold degree in omega arith)) (terms_fit (suc k) p (omega arith))

terms_rise_from : (j k : ℕ) (p : Row) → j < k → T (rising_from (j ∷ []) (terms_from k p))
unfolding terms_from
terms_rise_from j k [] l = unfold rising_from in tt
terms_rise_from j k (a ∷ p) l = rising_cons (j ∷ []) (term a (k ∷ [])) (terms_from (suc k) p)
    (cons_less j k [] [] (inl l)) (terms_rise_from k (suc k) p (omega arith))

terms_rise : (p : Row) → T (rising (terms_from 0 p))
unfolding rising terms_from
terms_rise [] = tt
terms_rise (a ∷ p) = terms_rise_from 0 1 p (omega arith)

terms_length : (k : ℕ) (p : Row) → length (terms_from k p) ≡ length p
unfolding terms_from
terms_length k [] = refl
terms_length k (a ∷ p) = ap suc (terms_length (suc k) p)

places_fit : places ≡ suc most_degree
unfolding places most_degree
places_fit = refl

places_few : places ≤ most_terms
unfolding places most_terms
places_few = lit≤ tt

converted_sound : (c : Curve) → T (leb (M.span (in_powers c)) span_limit) → Sound 1 most_degree (in_powers c)
unfolding in_powers drop_zeros
converted_sound c s = (
  record {
    vars = refl;
    fitting = every_select (λ k c. fits 1 most_degree k) (λ k c. is_nonzero c) (terms_from 0 row)
        (terms_fit 0 row (omega (arith, into_powers_length c.coefficients, places_fit)));
    nonzero_terms = nonzero_drop_zeros (terms_from 0 row);
    rising_terms = rising_select (λ k c. is_nonzero c) (terms_from 0 row) (terms_rise row);
  },
  record {
    count = omega (
      arith,
      length_select (λ k c. is_nonzero c) (terms_from 0 row),
      terms_length 0 row,
      into_powers_length c.coefficients,
      places_few,
    );
    small_span = leb→le (M.span (in_powers c)) span_limit s;
  },
)
  where
    row : Row
    row = combine c.coefficients chebyshev_table

pub to_powers_sound : (c : Curve) → IfAccepted (Sound 1 most_degree) (to_powers c)
unfolding to_powers
to_powers_sound c = require_accepted (leb (M.span (in_powers c)) span_limit) over_span _
    (λ s. holds (converted_sound c s))
