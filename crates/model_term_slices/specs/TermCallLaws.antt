-- The calls of one model in slices: what their tests say of it, and what they answer.
use Rattle.std.specs.Prelude.{◌≡◌, true, List, ℕ, ◌≤◌, T, ℤ, nat_abs, length}
use Rattle.std.proofs.Common.{sym, ◌∙◌, ap, subst}
use Rattle.calculus.specs.Model as C
use Rattle.calculus.specs.Model.{most_degree, most_terms, sound}
use Rattle.calculus.specs.Operations as Op
use Rattle.calculus.specs.Refusal.{done, stopped}
use Rattle.calculus.specs.Calls.{call_negate, call_sweep, call_antiderivative, call_range, call_integral}
use Rattle.model_types.specs.declared.Refusal.{Refusal}
use Rattle.std.specs.Prelude.{Ok, Err}
use Rattle.model_types.specs.ModelStruct.{refused_at}
use Rattle.model_types.specs.ModelStruct.{view, verdict, answer, bounds, integral_answer, cause}
use Rattle.model_types.specs.ModelStructLaws.{limits}
use Rattle.model_slices.specs.HandedModels.{handed, borrowed}
use Rattle.model_slices.specs.HeldModels.{held}
use Rattle.model_places.specs.SlicePlaces.{Places}
use Rattle.model_places.specs.SlicePlacesLaws.{places_view, places_sound}
use Rattle.model_places.specs.LeftModels.{Lies}
use Rattle.model_call_tests.specs.Admission.{single_model, sweeping, integrating}
use Rattle.model_call_tests.specs.AdmissionLaws.{single_passed, sweeping_passed, integrating_passed, goes_on}
use Rattle.model_call_tests.specs.AdmissionLaws.{is_refused}
use Rattle.model_slice_tests.specs.SliceTestLaws.{slices_places}
use Rattle.model_antiderivative.specs.Antiderivatives.{IntegrandIn}
use Rattle.model.specs.CallLaws.{negate_is, sweep_is, antiderivative_is, range_is, integral_is}
use Rattle.model_term_slices.specs.SoundSlices.{SoundSlices, IntegrandSlices}

-- as the operations ask it
abbrev pub lies : {n count radius : ℕ} {ks : List ℕ} {cs : List ℤ} → SoundSlices n count radius ks cs
    → Lies count radius ks cs
lies {n = n} s = record { vars = n; places = s.places; model = s.model }

abbrev pub integrand_in : {d i n count radius : ℕ} {ks : List ℕ} {cs : List ℤ}
    → IntegrandSlices d i n count radius ks cs → IntegrandIn d i count radius ks cs
integrand_in {n = n} s = record { vars = n; places = s.places; integrand = s.integrand }

module _ (n count radius : ℕ) (ks : List ℕ) (cs : List ℤ) where
  abbrev lying : C.Model
  lying = view (held n count radius ks cs)

  abbrev taken : C.Model
  taken = view (handed n count radius ks cs)

  module _ (l : borrowed count (length ks) (length cs) ≡ true) where
    -- the model is sound
    module _ (d : ℕ) (h : T (sound d taken)) where
      named : Places count ks cs
      named = let p = slices_places d n count radius ks cs l h in record { keys = p.0; coefficients = p.1 }

      few : count ≤ most_terms
      unfolding handed
      few = (limits d (handed n count radius ks cs) h).few

      same : lying ≡ taken
      same = places_view n count radius ks cs named few

      still : T (sound d lying)
      still = places_sound n count radius ks cs named few d h

    -- ---- negate, range, integral
    module _ (passed : verdict (single_model taken) ≡ Ok tt) where
      pub single_sound : SoundSlices n count radius ks cs
      single_sound =
          let h = single_passed taken passed in
          record { places = named most_degree h; model = still most_degree h }

      single_same : lying ≡ taken
      single_same = same most_degree (single_passed taken passed)

      pub negate_passed : answer (done (Op.negate lying)) ≡ answer (call_negate taken)
      negate_passed = ap (λ m. answer (done (Op.negate m))) single_same
          ∙ ap answer (sym (negate_is taken ∙ goes_on _ _ passed))

      pub range_passed : bounds (done (Op.range lying)) ≡ bounds (call_range taken)
      range_passed = ap (λ m. bounds (done (Op.range m))) single_same
          ∙ ap bounds (sym (range_is taken ∙ goes_on _ _ passed))

      pub integral_passed : integral_answer (done (Op.whole_integral lying)) ≡ integral_answer (call_integral taken)
      integral_passed = ap (λ m. integral_answer (done (Op.whole_integral m))) single_same
          ∙ ap integral_answer (sym (integral_is taken ∙ goes_on _ _ passed))

    -- ---- sweep
    module _ (t : ℤ) (passed : verdict (sweeping t taken) ≡ Ok tt) where
      pub sweep_sound : SoundSlices n count radius ks cs
      sweep_sound =
          let h = sweeping_passed t taken passed in
          record { places = named most_degree h; model = still most_degree h }

      pub sweep_passed : answer (done (Op.sweep (nat_abs t) lying)) ≡ answer (call_sweep t taken)
      sweep_passed =
          ap (λ m. answer (done (Op.sweep (nat_abs t) m))) (same most_degree (sweeping_passed t taken passed))
          ∙ ap answer (sym (sweep_is taken t ∙ goes_on _ _ passed))

    -- ---- antiderivative
    module _ (d i : ℕ) (passed : verdict (integrating d i taken) ≡ Ok tt) where
      pub antiderivative_sound : IntegrandSlices d i n count radius ks cs
      unfolding held handed view
      antiderivative_sound =
          let p = integrating_passed d i taken passed in
          record {
            places = named d p.model;
            integrand = record {
              order = p.order;
              model = still d p.model;
              first = p.least;
              last = p.most;
            };
          }

      pub antiderivative_passed : answer (done (Op.antiderivative d i lying)) ≡ answer (call_antiderivative d i taken)
      antiderivative_passed =
          ap (λ m. answer (done (Op.antiderivative d i m))) (same d (integrating_passed d i taken passed).model)
          ∙ ap answer (sym (antiderivative_is taken d i ∙ goes_on _ _ passed))

  -- ---- refused
  module _ (r : Refusal) (p : ℕ) where
    pub negate_refused : verdict (single_model taken) ≡ Err (refused_at r p)
        → answer (stopped (cause r) p) ≡ answer (call_negate taken)
    negate_refused e = ap answer (sym (negate_is taken ∙ is_refused _ _ r p e))

    pub sweep_refused : (t : ℤ) → verdict (sweeping t taken) ≡ Err (refused_at r p)
        → answer (stopped (cause r) p) ≡ answer (call_sweep t taken)
    sweep_refused t e = ap answer (sym (sweep_is taken t ∙ is_refused _ _ r p e))

    pub antiderivative_refused : (d i : ℕ) → verdict (integrating d i taken) ≡ Err (refused_at r p)
        → answer (stopped (cause r) p) ≡ answer (call_antiderivative d i taken)
    antiderivative_refused d i e = ap answer (sym (antiderivative_is taken d i ∙ is_refused _ _ r p e))

    pub range_refused : verdict (single_model taken) ≡ Err (refused_at r p)
        → bounds (stopped (cause r) p) ≡ bounds (call_range taken)
    range_refused e = ap bounds (sym (range_is taken ∙ is_refused _ _ r p e))

    pub integral_refused : verdict (single_model taken) ≡ Err (refused_at r p)
        → integral_answer (stopped (cause r) p) ≡ integral_answer (call_integral taken)
    integral_refused e = ap integral_answer (sym (integral_is taken ∙ is_refused _ _ r p e))
