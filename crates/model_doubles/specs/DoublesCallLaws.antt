-- The call, from the parts of the four doubles.
use Rattle.std.specs.Prelude.{◌≡◌, refl, Bool, true, false, ◌&&◌, ◌+◌, ◌^◌, ◌≤◌, ◌<◌, T, leb, nat_abs}
use Rattle.std.proofs.Math.Path.{sym, ap}
use Rattle.std.proofs.Common.{◌∙◌, subst, arith, le-leb, leb-true}
use Rattle.std.proofs.Math.Bool.{not}
use Rattle.std.proofs.Math.Decide.{dec_le}
use Rattle.numbers.specs.Fixed.{span_limit}
use Rattle.calculus.specs.Model as C
use Rattle.calculus.specs.Refusal.{stopped, bad_double, over_span, at_place, require_at}
use Rattle.calculus.specs.Operations.{limited}
use Rattle.doubles.specs.Doubles.{is_negative, coefficient, inexact, radius_up, model_of, converted}
use Rattle.doubles.specs.Doubles.{deliverable, call_doubles}
use Rattle.model_types.specs.declared.Doubles.{Doubles}
use Rattle.model_types.specs.ModelStruct.{view, pack, answer}
use Rattle.model_limits.specs.Limits.{Packed}
use Rattle.model_doubles.specs.declared.Parts.{Parts}
use Rattle.model_doubles.specs.DoubleParts.{Worth, point, Moderate, model_of_parts}
use Rattle.model_doubles.specs.DoublesStruct.{delivered}
use Rattle.model_doubles.specs.ScaledPartsLaws.{coefficient_from, inexact_from, radius_from}
use Rattle.model_doubles.specs.HugeDoubleLaws.{huge_coefficient, huge_radius, over}
use Rattle.model_doubles.specs.ThreeTermLaws.{packed_three, viewed_three}

-- the tests that have passed
all_true : (a b c e n : Bool) → (a && b && c && e && n) ≡ true
    → (a ≡ true) × (b ≡ true) × (c ≡ true) × (e ≡ true)
all_true true true true true n h = (refl, refl, refl, refl)
all_true true true true false n h = absurd (clash h)
  where
    clash : false ≡ true → ⊥
    clash e = subst (λ b. T (not b)) e tt
all_true true true false e n h = absurd (clash h)
  where
    clash : (false && e && n) ≡ true → ⊥
    clash e = subst (λ b. T (not b)) e tt
all_true true false c e n h = absurd (clash h)
  where
    clash : (false && c && e && n) ≡ true → ⊥
    clash e = subst (λ b. T (not b)) e tt
all_true false b c e n h = absurd (clash h)
  where
    clash : (false && b && c && e && n) ≡ true → ⊥
    clash e = subst (λ b. T (not b)) e tt

module _ (d : Doubles) (a b c e : Parts) (wa : Worth d.c0 a) (wb : Worth d.c1 b) (wc : Worth d.c2 c)
    (we : Worth d.radius e) where
  abbrev pub tests : Bool
  tests = a.finite && b.finite && c.finite && e.finite && not (is_negative d.radius)

  tested : tests ≡ deliverable (delivered d)
  unfolding deliverable
  tested = λ i. wa.finite_same i && wb.finite_same i && wc.finite_same i && we.finite_same i
      && not (is_negative d.radius)

  -- 16
  pub not_delivered : tests ≡ false → answer (stopped bad_double 0) ≡ answer (call_doubles (delivered d))
  unfolding call_doubles require_at
  not_delivered h = rw (sym tested ∙ h)

  module _ (t : tests ≡ true) where
    finite : (a.finite ≡ true) × (b.finite ≡ true) × (c.finite ≡ true) × (e.finite ≡ true)
    finite = all_true a.finite b.finite c.finite e.finite (not (is_negative d.radius)) t

    is_delivered : call_doubles (delivered d) ≡ at_place 0 (limited (converted (delivered d)))
    unfolding call_doubles require_at
    is_delivered = rw (sym tested ∙ t)

    -- 7 where one is too large by itself
    refused_over : span_limit < nat_abs (coefficient d.c0) + nat_abs (coefficient d.c1)
        + nat_abs (coefficient d.c2)
        + (radius_up d.radius + inexact d.c0 + inexact d.c1 + inexact d.c2)
        → answer (stopped over_span 0) ≡ answer (call_doubles (delivered d))
    unfolding converted at_place
    refused_over l = sym (ap answer (is_delivered ∙ ap (at_place 0) (over _ _ _ _ l)))

    pub one_huge : (leb a.places point && leb b.places point && leb c.places point && leb e.places point)
        ≡ false
        → answer (stopped over_span 0) ≡ answer (call_doubles (delivered d))
    one_huge h = go (dec_le a.places point) (dec_le b.places point) (dec_le c.places point)
        (dec_le e.places point)
      where
        go : Dec (a.places ≤ point) → Dec (b.places ≤ point) → Dec (c.places ≤ point) → Dec (e.places ≤ point)
            → answer (stopped over_span 0) ≡ answer (call_doubles (delivered d))
        go (no l) i j k = refused_over (omega (arith, huge_coefficient _ a wa finite.0 (omega arith)))
        go (yes l) (no i) j k = refused_over (omega (arith, huge_coefficient _ b wb finite.1 (omega arith)))
        go (yes l) (yes i) (no j) k = refused_over (omega (arith, huge_coefficient _ c wc finite.2 (omega arith)))
        go (yes l) (yes i) (yes j) (no k) = refused_over (omega (arith, huge_radius _ e we finite.3 (omega arith)))
        go (yes l) (yes i) (yes j) (yes k) = absurd (subst T (rw (
          le-leb a.places point l,
          le-leb b.places point i,
          le-leb c.places point j,
          le-leb e.places point k,
        ) at h) tt)

    -- otherwise the parts give the model
    module _ (m : Moderate a b c e) where
      pub parts_same : model_of_parts a b c e ≡ converted (delivered d)
      unfolding converted
      parts_same = λ i. model_of (coefficient_from _ a wa finite.0 m.low_0 i)
          (coefficient_from _ b wb finite.1 m.low_1 i) (coefficient_from _ c wc finite.2 m.low_2 i)
          (radius_from _ e we finite.3 m.low_3 i + inexact_from _ a wa finite.0 m.low_0 i
          + inexact_from _ b wb finite.1 m.low_1 i + inexact_from _ c wc finite.2 m.low_2 i)

      pub answered_by : answer (at_place 0 (limited (view (pack (model_of_parts a b c e)))))
          ≡ answer (call_doubles (delivered d))
      answered_by = ap (λ m. answer (at_place 0 (limited m))) (viewed_three _ _ _ _ ∙ parts_same)
          ∙ ap answer (sym is_delivered)

pub parts_packed : (a b c e : Parts) → Packed (pack (model_of_parts a b c e))
parts_packed a b c e = packed_three _ _ _ _

-- the exponents that have passed
pub moderate_by : (a b c e : Parts) → a.digits < 2 ^ 53 → b.digits < 2 ^ 53 → c.digits < 2 ^ 53 → e.digits < 2 ^ 53
    → (leb a.places point && leb b.places point && leb c.places point && leb e.places point) ≡ true
    → Moderate a b c e
moderate_by a b c e fa fb fc fe h =
    let l = all_true _ _ _ _ true (ap (λ x. x && true) h) in
    record {
      few_0 = fa;
      few_1 = fb;
      few_2 = fc;
      few_3 = fe;
      low_0 = leb-true a.places point l.0;
      low_1 = leb-true b.places point l.1;
      low_2 = leb-true c.places point l.2;
      low_3 = leb-true e.places point l.3;
    }
