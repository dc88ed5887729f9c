-- Sums of models in slices: what the merge and the limits leave, and the calls.
use Rattle.std.specs.Prelude.{◌≡◌, refl, true, false, List, ℕ, ◌+◌, ◌≤◌, ◌<◌, T, leb, ℤ, length}
use Rattle.std.proofs.Math.Path.{sym, ap}
use Rattle.std.proofs.Common.{◌∙◌, ap₂, subst}
use Rattle.numbers.specs.Fixed.{span_limit}
use Rattle.calculus.specs.Model as C
use Rattle.calculus.specs.Model.{most_degree, most_terms, sound, span}
use Rattle.calculus.specs.Operations.{limited, add, subtract}
use Rattle.calculus.specs.Refusal.{stopped, at_place}
use Rattle.calculus.specs.Calls.{call_add, call_subtract}
use Rattle.model_types.specs.declared.Model.{Model}
use Rattle.model_types.specs.declared.Answer.{Answer}
use Rattle.model_types.specs.declared.Refusal.{Refusal}
use Rattle.model_types.specs.declared.Refusal.TheVariants.{OverSpan, TooManyTerms}
use Rattle.std.specs.Prelude.{Ok, Err}
use Rattle.model_types.specs.ModelStruct.{refused_at}
use Rattle.model_types.specs.ModelStruct.{view, verdict, answer, cause}
use Rattle.model_types.specs.ModelStructLaws.{limits}
use Rattle.model_slices.specs.HandedModels.{handed, borrowed}
use Rattle.model_slices.specs.HeldModels.{held, Clear}
use Rattle.model_slices.specs.HeldModelsLaws.{clear_struct}
use Rattle.model_limits.specs.Limits.{Packed}
use Rattle.model_limits.specs.LimitLaws.{answer_within, answer_over}
use Rattle.model_limits.specs.declared.Left.{Left}
use Rattle.model_places.specs.SlicePlaces.{Places}
use Rattle.model_places.specs.SlicePlacesLaws.{places_view, places_sound}
use Rattle.model_places.specs.LeftModels.{unless_refused, left_answer}
use Rattle.model_places.specs.LeftModelsLaws.{left_refused}
use Rattle.model_call_tests.specs.Admission.{two_models}
use Rattle.model_call_tests.specs.AdmissionLaws.{two_passed, goes_on, is_refused}
use Rattle.model_slice_tests.specs.SliceTestLaws.{slices_places}
use Rattle.model_addition.specs.Addition.{SumIn}
use Rattle.model_slice_results.specs.Addends.{Addends}
use Rattle.model.specs.CallLaws.{add_is, subtract_is}

-- ---- what is left
module _ {n c₁ e₁ : ℕ} {ks₁ : List ℕ} {cs₁ : List ℤ} {c₂ e₂ : ℕ} {ks₂ : List ℕ} {cs₂ : List ℤ}
    (w : Addends n c₁ e₁ ks₁ cs₁ c₂ e₂ ks₂ cs₂) where
  -- the sum
  abbrev whole : Answer
  whole = answer (at_place 0 (add (view (held n c₁ e₁ ks₁ cs₁)) (view (held n c₂ e₂ ks₂ cs₂))))

  module _ {count : ℕ} {ks : List ℕ} {cs : List ℤ}
      (s : SumIn (held n c₁ e₁ ks₁ cs₁) (held n c₂ e₂ ks₂ cs₂) n count ks cs) where
    pub left_many : 64 < count → (l : Left) → l.verdict ≡ Err (refused_at TooManyTerms 0)
        → left_answer n l ks cs ≡ whole
    unfolding cause
    left_many h l v = left_refused n l ks cs TooManyTerms 0 v ∙ sym (s.many h)

    module _ (h : count ≤ 64) where
      packed : Packed (held n count (e₁ + e₂) ks cs)
      unfolding held
      packed = s.packed h

      sum_is : answer (at_place 0 (limited (view (held n count (e₁ + e₂) ks cs))))
          ≡ whole
      unfolding held
      sum_is = s.sum h

      pub left_over : leb (span (view (held n count (e₁ + e₂) ks cs))) span_limit ≡ false → (l : Left)
          → l.verdict ≡ Err (refused_at OverSpan 0)
          → left_answer n l ks cs ≡ whole
      unfolding cause
      left_over f l v = left_refused n l ks cs OverSpan 0 v ∙ sym (answer_over _ packed f) ∙ sum_is

      pub left_within : leb (span (view (held n count (e₁ + e₂) ks cs))) span_limit ≡ true → Clear count ks cs
          → left_answer n (record { count = count; radius = e₁ + e₂; verdict = Ok tt }) ks cs
          ≡ whole
      unfolding left_answer unless_refused
      left_within f z =
          ap (λ (m : Model). record { model = m; verdict = Ok tt }) (clear_struct n (e₁ + e₂) z)
          ∙ sym (answer_within _ packed f) ∙ sum_is

-- ---- the calls
module _ (n₁ c₁ e₁ : ℕ) (ks₁ : List ℕ) (cs₁ : List ℤ) (n₂ c₂ e₂ : ℕ) (ks₂ : List ℕ) (cs₂ : List ℤ) where
  abbrev handed_first : C.Model
  handed_first = view (handed n₁ c₁ e₁ ks₁ cs₁)

  abbrev handed_second : C.Model
  handed_second = view (handed n₂ c₂ e₂ ks₂ cs₂)

  -- the tests have passed
  module _ (l : borrowed c₁ (length ks₁) (length cs₁) ≡ true) (m : borrowed c₂ (length ks₂) (length cs₂) ≡ true)
      (passed : verdict (two_models most_degree handed_first handed_second) ≡ Ok tt) where
    same : n₁ ≡ n₂
    unfolding view handed
    same = (two_passed most_degree _ _ passed).vars

    first_named : Places c₁ ks₁ cs₁
    first_named =
        let p = slices_places most_degree n₁ c₁ e₁ ks₁ cs₁ l (two_passed most_degree _ _ passed).first in
        record { keys = p.0; coefficients = p.1 }

    second_named : Places c₂ ks₂ cs₂
    second_named =
        let p = slices_places most_degree n₂ c₂ e₂ ks₂ cs₂ m (two_passed most_degree _ _ passed).second in
        record { keys = p.0; coefficients = p.1 }

    few₁ : c₁ ≤ most_terms
    unfolding handed
    few₁ = (limits most_degree (handed n₁ c₁ e₁ ks₁ cs₁) (two_passed most_degree _ _ passed).first).few

    few₂ : c₂ ≤ most_terms
    unfolding handed
    few₂ = (limits most_degree (handed n₂ c₂ e₂ ks₂ cs₂) (two_passed most_degree _ _ passed).second).few

    first_same : view (held n₁ c₁ e₁ ks₁ cs₁) ≡ handed_first
    first_same = places_view n₁ c₁ e₁ ks₁ cs₁ first_named few₁

    second_same : view (held n₁ c₂ e₂ ks₂ cs₂) ≡ handed_second
    second_same = ap (λ n. view (held n c₂ e₂ ks₂ cs₂)) same ∙ places_view n₂ c₂ e₂ ks₂ cs₂ second_named few₂

    pub passed_addends : Addends n₁ c₁ e₁ ks₁ cs₁ c₂ e₂ ks₂ cs₂
    passed_addends = record {
      first = first_named;
      second = second_named;
      operands = record {
        first = places_sound n₁ c₁ e₁ ks₁ cs₁ first_named few₁ most_degree (two_passed most_degree _ _ passed).first;
        second = subst (λ (g : C.Model). T (sound most_degree g)) (sym second_same)
            (two_passed most_degree _ _ passed).second;
        vars = unfold held in refl;
      };
    }

    pub add_passed : answer (at_place 0 (add (view (held n₁ c₁ e₁ ks₁ cs₁)) (view (held n₁ c₂ e₂ ks₂ cs₂))))
        ≡ answer (call_add handed_first handed_second)
    add_passed = ap₂ (λ f g. answer (at_place 0 (add f g))) first_same second_same
        ∙ ap answer (sym (add_is _ _ ∙ goes_on _ _ passed))

    pub subtract_passed : answer (at_place 0 (subtract (view (held n₁ c₁ e₁ ks₁ cs₁)) (view (held n₁ c₂ e₂ ks₂ cs₂))))
        ≡ answer (call_subtract handed_first handed_second)
    subtract_passed = ap₂ (λ f g. answer (at_place 0 (subtract f g))) first_same second_same
        ∙ ap answer (sym (subtract_is _ _ ∙ goes_on _ _ passed))

  -- they have not
  module _ (r : Refusal) (i : ℕ) (t : verdict (two_models most_degree handed_first handed_second)
      ≡ Err (refused_at r i)) where
    pub add_refused : answer (stopped (cause r) i) ≡ answer (call_add handed_first handed_second)
    add_refused = ap answer (sym (add_is _ _ ∙ is_refused _ _ r i t))

    pub subtract_refused : answer (stopped (cause r) i) ≡ answer (call_subtract handed_first handed_second)
    subtract_refused = ap answer (sym (subtract_is _ _ ∙ is_refused _ _ r i t))
