-- A quotient from its two forms, whose terms lie in slices: each way out.
use Rattle.std.specs.Prelude.{◌≡◌, List, ℕ, T, ℤ}
use Rattle.std.proofs.Math.Path.{refl}
use Rattle.std.proofs.Common.{sym, ◌∙◌, ap, ap₂, arith}
use Rattle.calculus.specs.Model as C
use Rattle.calculus.specs.Model.{most_degree, sound}
use Rattle.calculus.specs.Refusal as R
use Rattle.calculus.specs.Refusal.{accepted, refused, uncertified, ◌then◌, stopped, at_place}
use Rattle.calculus.specs.Operations.{defect, deviation, largest_value, certified, quotient}
use Rattle.model_types.specs.declared.Model.{Model}
use Rattle.model_types.specs.declared.Refusal.{Refusal}
use Rattle.model_types.specs.ModelStruct.{Verdict}
use Rattle.std.specs.Prelude.{Ok, Err}
use Rattle.model_types.specs.ModelStruct.{refused_at}
use Rattle.model_types.specs.declared.Answer.{Answer}
use Rattle.model_types.specs.ModelStruct.{view, answer, cause}
use Rattle.model_types.specs.ModelStructLaws.{cause_refusal}
use Rattle.model_types.specs.ResultLaws.{sound_order, taken_sound, taken_then, refused_then}
use Rattle.model_slices.specs.HeldModels.{held, Room}
use Rattle.model_limits.specs.declared.Left.{Left}
use Rattle.model_limits.specs.Limits.{LeftIn}
use Rattle.model_places.specs.LeftModels.{Lies}
use Rattle.product_answer.specs.ProductFactors.{Factors}
use Rattle.model_proposal.specs.Proposal.{Proposal}
use Rattle.model_proposal.specs.FormLaws.{struct_vars, defect_sound, deviation_sound}
use Rattle.model_proposal.specs.SliceFormLaws.{left_sound, left_places}
use Rattle.model_quotient.specs.Refusing.{Refuses}

-- ---- a refusal
-- the answer of a verdict that refuses
abbrev refusing : Verdict → Answer
refusing (Ok u) = answer (stopped uncertified 0)
refusing (Err r) = answer (stopped (cause r.0) r.1)

-- is the whole answer
refused_is : (a : R.Answer C.Model) (x : Refusal) (y : ℕ) → (answer (at_place 0 a)).verdict ≡ Err (refused_at x y)
    → answer (stopped (cause x) y) ≡ answer (at_place 0 a)
unfolding answer at_place
refused_is (accepted m) x y v = let z : ◌≡◌ {A = ℕ} 0 1 = cc in absurd (omega arith)
refused_is (refused q) x y v = sym (ap refusing v) ∙ ap (λ r. answer (stopped r 0)) (cause_refusal q)

-- a verdict that does not refuse has no such answer
pub no_refusal : {v : Verdict} {r : Answer} → v ≡ Ok tt → Refuses v r
no_refusal e = record { refuses = λ x y q. let z : ◌≡◌ {A = ℕ} 0 1 = cc in absurd (omega arith) }

-- and one that refuses has this
pub same_refusal : {v : Verdict} {r : Answer} {x : Refusal} {y : ℕ} → v ≡ Err (refused_at x y)
    → r ≡ answer (stopped (cause x) y) → Refuses v r
same_refusal e a = record { refuses = λ x₂ y₂ q. a ∙ ap refusing (sym e ∙ q) }

-- ---- the two forms
module _ {d : ℕ} {f g h w : Model} (s : Proposal d f g h w) where
  abbrev last : (beta : ℕ) → C.Model → R.Answer C.Model
  last beta z = certified (view h) beta (largest_value z)

  abbrev rest : C.Model → R.Answer C.Model
  rest y = deviation d (view g) (view w) then last (largest_value y)

  abbrev quotient_is : Answer
  quotient_is = answer (at_place 0 (quotient d (view f) (view g) (view h) (view w)))

  pub second_factors : Factors d w g
  second_factors = record {
    order = s.order;
    first = s.inverse;
    second = s.divisor;
    vars = s.inverse_vars ∙ sym s.divisor_vars;
  }

  pub proposed_sound : T (sound most_degree (view h))
  proposed_sound = sound_order d _ s.order s.proposed

  -- ---- the first
  module _ {n : ℕ} {k : Left} {ks : List ℕ} {cs : List ℤ}
      (p : LeftIn n k ks cs (answer (at_place 0 (defect d (view f) (view g) (view h) (view w))))) where
    abbrev first : Answer
    first = answer (at_place 0 (defect d (view f) (view g) (view h) (view w)))

    pub first_refused : (x : Refusal) (y : ℕ) → k.verdict ≡ Err (refused_at x y) → answer (stopped (cause x) y)
        ≡ quotient_is
    unfolding quotient
    first_refused x y v = refused_is (defect d (view f) (view g) (view h) (view w)) x y (sym p.verdict ∙ v)
        ∙ refused_then (defect d (view f) (view g) (view h) (view w)) rest (sym p.verdict ∙ v) refl

    module _ (v : k.verdict ≡ Ok tt) where
      pub first_sound : T (sound most_degree (view first.model))
      first_sound = sound_order d _ s.order
          (taken_sound (struct_vars d f s.dividend) s.order (defect_sound s) refl (sym p.verdict ∙ v))

      abbrev pub first_lies : Room ks cs → Lies k.count k.radius ks cs
      first_lies room = record {
        vars = n;
        places = left_places p v first_sound room;
        model = left_sound p v first_sound;
      }

      first_then : {a : Answer} → a ≡ answer (at_place 0 (rest (view first.model))) → a ≡ quotient_is
      unfolding quotient
      first_then a =
          taken_then (struct_vars d f s.dividend) s.order (defect_sound s) refl (sym p.verdict ∙ v) rest a

      -- ---- the second
      module _ {m : Left} {ks₂ : List ℕ} {cs₂ : List ℤ}
          (q : LeftIn n m ks₂ cs₂ (answer (at_place 0 (deviation d (view g) (view w))))) where
        abbrev second : Answer
        second = answer (at_place 0 (deviation d (view g) (view w)))

        abbrev beta : ℕ
        beta = largest_value (view first.model)

        pub second_refused : (x : Refusal) (y : ℕ) → m.verdict ≡ Err (refused_at x y)
            → answer (stopped (cause x) y) ≡ quotient_is
        second_refused x y u = first_then
            (refused_is (deviation d (view g) (view w)) x y (sym q.verdict ∙ u)
            ∙ refused_then (deviation d (view g) (view w)) (last beta) (sym q.verdict ∙ u) refl)

        module _ (u : m.verdict ≡ Ok tt) where
          pub second_sound : T (sound most_degree (view second.model))
          second_sound = sound_order d _ s.order
              (taken_sound (struct_vars d g s.divisor) s.order (deviation_sound second_factors) refl
              (sym q.verdict ∙ u))

          abbrev pub second_lies : Room ks₂ cs₂ → Lies m.count m.radius ks₂ cs₂
          second_lies room = record {
            vars = n;
            places = left_places q u second_sound room;
            model = left_sound q u second_sound;
          }

          pub quotient_answer : {a : Answer}
              → a ≡ answer (at_place 0 (certified (view h)
              (largest_value (view (held n k.count k.radius ks cs)))
              (largest_value (view (held n m.count m.radius ks₂ cs₂)))))
              → a ≡ quotient_is
          quotient_answer a = first_then
              (taken_then (struct_vars d g s.divisor) s.order (deviation_sound second_factors) refl
              (sym q.verdict ∙ u) (last beta)
              (a ∙ ap₂ (λ x y. answer (at_place 0 (certified (view h) (largest_value (view x)) (largest_value
              (view y)))))
              (p.model v) (q.model u)))
