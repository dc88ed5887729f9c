-- The loops of conversion: one iteration more, and the end.
use Rattle.std.specs.Prelude.{◌≡◌, Bool, true, false, not, List, [], ◌∷◌, ◌++◌, map, ℕ, zero, suc, ◌+◌, ◌*◌, ◌-◌, ◌^◌, ◌≤◌, ◌<◌, eqb, ℤ, pos, ◌+ℤ◌, ◌*ℤ◌, take, drop, replicate}
use Rattle.std.proofs.Math.Path.{refl, ap, ap₂}
use Rattle.std.proofs.Common.{sym, ◌∙◌, subst, add-one, arith, ne_eqb}
use Rattle.std.proofs.Math.Nat as NatL
use Rattle.std.proofs.Math.Dec.{T, leb}
use Rattle.std.proofs.Math.IntN.{nat_abs}
use Rattle.std.proofs.Math.ListN.{length, get_or, set, length-append}
use Rattle.polynomial.specs.Polynomial.{Term}
use Rattle.calculus.specs.Key.{key, key_width}
use Rattle.calculus.specs.Terms as P
use Rattle.calculus.specs.Terms.{Terms, term, drop_zeros, is_nonzero, select, sum_over}
use Rattle.calculus_laws.specs.SumLaws.{sum_snoc, ℕ_addition}
use Rattle.calculus.specs.Model.{most_terms}
use Rattle.model_types.specs.Arrays.{padded}
use Rattle.model_types.specs.declared.Term as S
use Rattle.model_types.specs.ModelStruct.{zero_term, pad, pack_term}
use Rattle.model_types.specs.ModelStructLaws.{select_in, select_out, packed_more, take_more}
use Rattle.numbers.specs.Fixed.{span_limit}
use Rattle.calculus.specs.Model as M
use Rattle.calculus.specs.Refusal.{stopped, over_span, bad_model, at_place, require, require_at}
use Rattle.chebyshev.specs.PowerRows.{places}
use Rattle.chebyshev.proofs.RowLengthLaws.{into_powers_length}
use Rattle.chebyshev.specs.Tables.{chebyshev_table}
use Rattle.chebyshev.specs.Curve.{sound}
use Rattle.chebyshev.specs.CurveOperations.{terms_from, in_powers, to_powers}
use Rattle.chebyshev.specs.CurveCalls.{call_to_powers}
use Rattle.model_types.specs.declared.Curve.{Curve}
use Rattle.std.specs.Prelude.{Ok}
use Rattle.model_types.specs.ModelStruct.{pack, answer, of_terms}
use Rattle.model_types.specs.CurveStruct.{view_curve}
use Rattle.algebra.specs.Integer.{natAbs_add, nat_abs_mul}
use Rattle.chebyshev.specs.Coefficients.{Row}
use Rattle.chebyshev.specs.Coefficients as K
use Rattle.chebyshev.specs.PowerRows.{combine}

-- ---- the terms of a row
terms_length : (k : ℕ) (r : Row) → length (terms_from k r) ≡ length r
unfolding terms_from
terms_length k [] = refl
terms_length k (a ∷ r) = ap suc (terms_length (suc k) r)

terms_at : (k : ℕ) (r : Row) (i : ℕ) (d : Term ℤ) → i < length r
    → get_or (terms_from k r) i d ≡ term (get_or r i (pos 0)) ((k + i) ∷ [])
unfolding terms_from
terms_at k [] i d h = absurd (omega arith)
terms_at k (a ∷ r) zero d h = let e : k ≡ k + 0 = omega arith in ap (λ n. term a (n ∷ [])) e
terms_at k (a ∷ r) (suc i) d h =
    let e : suc k + i ≡ k + suc i = omega arith in
    terms_at (suc k) r i d (omega arith) ∙ ap (λ n. term (get_or r i (pos 0)) (n ∷ [])) e

above : (n : ℕ) → 0 < n → T (not (eqb n 0))
above n h = subst (λ b. T (not b)) (sym (ne_eqb n 0 (λ e. omega (arith, e)))) tt

-- what is kept of the first i terms
abbrev kept : (r : Row) (i : ℕ) → Terms
kept r i = drop_zeros (take i (terms_from 0 r))

pub record Converted (r : Row) (radius : ℕ) (out : List S.Term) (count span i : ℕ) : Type 0 where
  pub within : i ≤ 16
  pub few : count ≤ i
  pub counted : count ≡ length (kept r i)
  pub made : out ≡ pad (map pack_term (kept r i))
  pub summed : span ≡ P.size (kept r i) + radius
  pub small : span ≤ 2 ^ 31 + i * 2 ^ 50

module _ (r : Row) (radius : ℕ) (w : length r ≡ 16) (s : radius < 2 ^ 31) where
  pub converted_first : Converted r radius (padded zero_term most_terms []) 0 radius 0
  unfolding drop_zeros select P.size sum_over
  converted_first = record {
    within = omega arith;
    few = omega arith;
    counted = refl;
    made = refl;
    summed = omega arith;
    small = omega arith;
  }

  module _ (out : List S.Term) (count span i : ℕ) (h : Converted r radius out count span i) (l : i < 16) where
    abbrev here : Term ℤ
    here = term (get_or r i (pos 0)) (i ∷ [])

    more : take (i + 1) (terms_from 0 r) ≡ take i (terms_from 0 r) ++ (here ∷ [])
    more = take_more (terms_from 0 r) i here (omega (arith, terms_length 0 r, w))
        ∙ ap (λ t. take i (terms_from 0 r) ++ (t ∷ [])) (terms_at 0 r i here (omega (arith, w)))
        ∙ ap (λ n. take i (terms_from 0 r) ++ (term (get_or r i (pos 0)) (n ∷ []) ∷ [])) same
      where
        same : 0 + i ≡ i
        same = omega arith

    kept_in : T (is_nonzero (get_or r i (pos 0))) → kept r (i + 1) ≡ kept r i ++ (here ∷ [])
    unfolding drop_zeros
    kept_in t = ap (select (λ k c. is_nonzero c)) more
        ∙ select_in (λ k c. is_nonzero c) (take i (terms_from 0 r)) here t

    kept_out : T (not (is_nonzero (get_or r i (pos 0)))) → kept r (i + 1) ≡ kept r i
    unfolding drop_zeros
    kept_out t = ap (select (λ k c. is_nonzero c)) more
        ∙ select_out (λ k c. is_nonzero c) (take i (terms_from 0 r)) here t

    size_in : P.size (kept r i ++ (here ∷ [])) ≡ P.size (kept r i) + nat_abs (get_or r i (pos 0))
    unfolding P.size
    size_in = sum_snoc ℕ_addition (λ k c. nat_abs c) (kept r i) here

    pub converted_drop : nat_abs (get_or r i (pos 0)) ≡ 0 → Converted r radius out count span (i + 1)
    unfolding is_nonzero
    converted_drop z =
        let same = kept_out (subst (λ n. T (not (not (eqb n 0)))) (sym z) tt) in
        record {
          within = omega arith;
          few = omega (arith, h.few);
          counted = h.counted ∙ ap length (sym same);
          made = h.made ∙ ap (λ p. pad (map pack_term p)) (sym same);
          summed = h.summed ∙ ap (λ p. P.size p + radius) (sym same);
          small = omega (arith, h.small);
        }

    pub converted_keep : (z : ℤ) (n w : ℕ) → z ≡ get_or r i (pos 0) → n ≡ nat_abs (get_or r i (pos 0)) → 0 < n
        → n ≤ 2 ^ 50
        → w ≡ key key_width (i ∷ [])
        → Converted r radius (set out count (record { key = w; coefficient = z })) (count + 1) (span + n) (i + 1)
    unfolding is_nonzero most_terms
    converted_keep z n w e q t b k =
        let new = kept_in (subst (λ n. T (not (eqb n 0))) q (above n t)) in
        record {
          within = omega arith;
          few = omega (arith, h.few);
          counted = omega (arith, h.counted, ap length new, length-append (kept r i) (here ∷ []));
          made = ap₂ (λ o x. set o count x) h.made
              (ap₂ (λ w z. record { key = w; coefficient = z }) k e ∙ packed)
              ∙ packed_more (kept r i) count here (sym h.counted) (omega (arith, h.few))
              ∙ ap (λ p. pad (map pack_term p)) (sym new);
          summed = omega (arith, h.summed, q, ap P.size new, size_in);
          small = omega (arith, h.small);
        }
      where
        packed : record { key = key key_width (i ∷ []); coefficient = get_or r i (pos 0) } ≡ pack_term here
        packed = unfold pack_term in refl

  pub converted_terms : (out : List S.Term) (count span i : ℕ) → Converted r radius out count span i → 16 ≤ i
      → take i (terms_from 0 r) ≡ terms_from 0 r
  converted_terms out count span i h l =
      let e : i ≡ length (terms_from 0 r) = omega (arith, h.within, terms_length 0 r, w) in
      ap (λ n. take n (terms_from 0 r)) e ∙ take_all (terms_from 0 r)
    where
      take_all : (p : Terms) → take (length p) p ≡ p
      take_all [] = refl
      take_all (t ∷ p) = ap (λ p. t ∷ p) (take_all p)

-- ---- the end
module _ (c : Curve) (s : c.radius < 2 ^ 31) (out : List S.Term) (count span i : ℕ)
    (h : Converted (combine c.coefficients chebyshev_table) c.radius out count span i) (l : 16 ≤ i) where
  abbrev row : Row
  row = combine c.coefficients chebyshev_table

  whole : length row ≡ 16
  unfolding places
  whole = into_powers_length c.coefficients

  all : kept row i ≡ drop_zeros (terms_from 0 row)
  all = ap drop_zeros (converted_terms row c.radius whole s out count span i h l)

  span_is : span ≡ M.span (in_powers (view_curve c))
  unfolding M.span in_powers
  span_is = h.summed ∙ ap (λ p. P.size p + c.radius) all

  model_is : of_terms 1 count c.radius out ≡ pack (in_powers (view_curve c))
  unfolding pack in_powers
  model_is = ap₂ (λ n o. of_terms 1 n c.radius o)
      (h.counted ∙ ap length all)
      (h.made ∙ ap (λ p. pad (map pack_term p)) all)

  pub powers_within : leb span span_limit ≡ true
      → record { model = of_terms 1 count c.radius out; verdict = Ok tt }
      ≡ answer (at_place 0 (to_powers (view_curve c)))
  unfolding to_powers require at_place answer
  powers_within t = rw (ap (λ n. leb n span_limit) (sym span_is) ∙ t)
      (ap (λ m. record { model = m; verdict = Ok tt }) model_is)

  pub powers_over : leb span span_limit ≡ false
      → answer (stopped over_span 0) ≡ answer (at_place 0 (to_powers (view_curve c)))
  unfolding to_powers require at_place
  powers_over t = rw (ap (λ n. leb n span_limit) (sym span_is) ∙ t)

-- ---- the call
pub powers_unsound : (c : Curve) → sound (view_curve c) ≡ false
    → answer (stopped bad_model 0) ≡ answer (call_to_powers (view_curve c))
unfolding call_to_powers require_at
powers_unsound c t = rw t

pub powers_sound : (c : Curve) → sound (view_curve c) ≡ true
    → answer (at_place 0 (to_powers (view_curve c))) ≡ answer (call_to_powers (view_curve c))
unfolding call_to_powers require_at
powers_sound c t = rw t
