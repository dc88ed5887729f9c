-- Evaluation over a model that lies in slices: the arrays of a struct, one iteration with each way out, and the end.
use Rattle.std.specs.Prelude.{◌≡◌, ℕ, zero, suc, ◌+◌, ◌-◌, ◌≤◌, ◌<◌, ℤ, take, get_or}
use Rattle.std.proofs.Math.Path.{refl, sym, ap, subst}
use Rattle.std.proofs.Common.{◌∙◌, arith}
use mathlib.Core.List.{List, [], ◌∷◌, map}
use Rattle.std.proofs.Math.Dec.{T}
use Rattle.std.proofs.Math.IntN.{pos}
use Rattle.std.proofs.Math.ListN.{length}
use Rattle.std.proofs.Math.Seq.{length-take-le}
use Rattle.calculus.specs.Model as C
use Rattle.calculus.specs.Model.{most_degree, most_terms, sound}
use Rattle.calculus.specs.Refusal.{done, at_place}
use Rattle.calculus.specs.Operations.{constant, range, substitute, evaluate}
use Rattle.model_types.specs.declared.Term.{Term}
use Rattle.model_types.specs.declared.Model.{Model}
use Rattle.model_types.specs.declared.Refusal.{Refusal}
use Rattle.model_types.specs.ModelStruct.{Verdict}
use Rattle.std.specs.Prelude.{Ok, Err}
use Rattle.model_types.specs.ModelStruct.{refused_at}
use Rattle.model_types.specs.declared.Bounds.{Bounds}
use Rattle.model_types.specs.ArrayLaws.{take_padded}
use Rattle.model_types.specs.ModelStruct.{zero_term, paired, listed, view_term, view, answer, bounds}
use Rattle.model_types.specs.ModelStructLaws.{view_is, limits}
use Rattle.model_types.specs.PairedLaws.{length_paired}
use Rattle.model_slices.specs.HandedModels.{terms_of}
use Rattle.model_limits.specs.declared.Left.{Left}
use Rattle.model_slices.specs.HeldModels.{held, Room}
use Rattle.model_limits.specs.Limits.{LeftIn}
use Rattle.model_slices.specs.HeldModelsLaws.{held_listed, held_whole}
use Rattle.model_evaluation.specs.Evaluate.{Evaluation, Putting, PutOf}
use Rattle.model_evaluation.specs.EvaluationLaws as E
use Rattle.model_evaluation.specs.EvaluationLaws.{Remaining}

-- ---- the terms of a struct, those that its count names
terms_named : (c : ℕ) (ks : List ℕ) (cs : List ℤ) → terms_of c ks cs ≡ take c (paired ks cs)
unfolding terms_of paired
terms_named zero ks cs = refl
terms_named (suc c) [] cs = refl
terms_named (suc c) (k ∷ ks) [] = refl
terms_named (suc c) (k ∷ ks) (z ∷ cs) =
    ap (λ (l : List Term). record { key = k; coefficient = z } ∷ l) (terms_named c ks cs)

module _ (m : Model) (r : Room m.keys m.coefficients) (few : m.count ≤ 64) where
  abbrev held_model : Model
  held_model = held m.n m.count m.radius m.keys m.coefficients

  long : length (listed m) ≡ 64
  long = length_paired m.keys m.coefficients (r.keys ∙ sym r.coefficients) ∙ r.keys

  -- the first places of its two arrays padded, or taken as they are
  named : take m.count (listed held_model) ≡ take m.count (listed m)
  unfolding most_terms
  named =
      let same = terms_named m.count m.keys m.coefficients in
      ap (take m.count) (held_listed m.n m.count m.radius m.keys m.coefficients r few)
      ∙ take_padded zero_term most_terms (terms_of m.count m.keys m.coefficients) m.count
      (ap length same ∙ length-take-le m.count (listed m) (omega (arith, long))) ∙ same

  pub held_view : view held_model ≡ view m
  unfolding held most_terms
  held_view = view_is held_model (held_whole m.n m.count m.radius m.keys m.coefficients r few)
      ∙ ap (λ l. record { vars = m.n; radius = m.radius; terms = map (view_term m.n) l }) named
      ∙ sym (view_is m (omega (arith, long)))

  pub held_evaluation : {xs : List ℤ} → Evaluation m xs → Evaluation held_model xs
  unfolding held
  held_evaluation s = record {
    model = subst (λ v. T (sound most_degree v)) (sym held_view) s.model;
    coordinates = s.coordinates;
  }

  pub held_end : (xs : List ℤ) {e : Bounds}
      → e ≡ bounds (at_place 0 (evaluate (take m.n xs) (view held_model)))
      → e ≡ bounds (at_place 0 (evaluate (take m.n xs) (view m)))
  held_end xs q = q ∙ ap (λ v. bounds (at_place 0 (evaluate (take m.n xs) v))) held_view

-- ---- an iteration
module _ (n count₀ radius₀ : ℕ) (ks₀ : List ℕ) (cs₀ : List ℤ) {xs : List ℤ}
    (s : Evaluation (held n count₀ radius₀ ks₀ cs₀) xs) (l : n ≤ length xs) where
  abbrev m₀ : Model
  m₀ = held n count₀ radius₀ ks₀ cs₀

  inside : m₀.n ≤ length xs
  unfolding held
  inside = l

  pub remaining_start : Remaining m₀ xs 1 m₀
  remaining_start = E.remaining_first s inside

  module _ {i : ℕ} (count radius : ℕ) (ks : List ℕ) (cs : List ℤ)
      (r : Remaining m₀ xs i (held n count radius ks cs)) where
    pub left_few : count ≤ 64
    unfolding held most_terms
    left_few = (limits most_degree (held n count radius ks cs) r.model).few

    module _ (z : i ≤ n) where
      abbrev X : ℤ
      X = get_or xs (i - 1) (pos 0)

      pub put_fits : Putting i X (held n count radius ks cs)
      unfolding held
      put_fits = E.coordinate_putting s inside r z

      abbrev pub put_of : Room ks cs → PutOf i X count radius ks cs
      put_of room = record { vars = n; room = room; putting = put_fits }

      module _ {a : Left} (ks₂ : List ℕ) (cs₂ : List ℤ)
          (q : LeftIn n a ks₂ cs₂ (answer (at_place 0 (substitute most_degree i (view (held n count radius ks cs))
          (constant n X))))) where
        pub iteration_refused : {x : Refusal} {y : ℕ} → a.verdict ≡ Err (refused_at x y)
            → record { low = pos 0; high = pos 0; verdict = a.verdict }
            ≡ bounds (at_place 0 (evaluate (take n xs) (view m₀)))
        unfolding held
        iteration_refused v = ap (λ (v : Verdict). record { low = pos 0; high = pos 0; verdict = v }) q.verdict
            ∙ E.put_refused s inside r z refl (sym q.verdict ∙ v)

        pub iteration_accepted : a.verdict ≡ Ok tt → Remaining m₀ xs (i + 1) (held n a.count a.radius ks₂ cs₂)
        unfolding held
        iteration_accepted v = subst (Remaining m₀ xs (i + 1)) (sym (q.model v))
            (E.put_accepted s inside r z refl (sym q.verdict ∙ v))

    -- ---- the end
    module _ (room : Room ks cs) where
      abbrev left : Model
      left = record { n = n; count = count; radius = radius; keys = ks; coefficients = cs }

      same_view : view left ≡ view (held n count radius ks cs)
      same_view = sym (held_view left room left_few)

      pub end_sound : T (sound most_degree (view left))
      end_sound = subst (λ v. T (sound most_degree v)) (sym same_view) r.model

      pub range_end : n < i → {b : Bounds} → b ≡ bounds (done (range (view left)))
          → b ≡ bounds (at_place 0 (evaluate (take n xs) (view m₀)))
      unfolding held
      range_end z q = E.remaining_end s inside r z (q ∙ ap (λ v. bounds (done (range v))) same_view)
