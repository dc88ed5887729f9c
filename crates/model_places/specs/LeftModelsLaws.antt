-- What is left of a model in two arrays, by its verdict; and a struct that lends its arrays.
use Rattle.std.specs.Prelude.{◌≡◌, refl, List, [], ℕ, ◌^◌, ◌≤◌, ◌<◌, T, ℤ, pos, length, get_or, replicate}
use Rattle.std.proofs.Math.Path.{sym, ap}
use Rattle.std.proofs.Common.{◌∙◌, subst}
use native.Mathlib.Omega.{arith}
use Rattle.std.proofs.Math.IntN.{nat_abs}
use Rattle.std.proofs.lemmas.List.{length-replicate}
use Rattle.numbers.proofs.FixedLaws.{span_fits}
use Rattle.calculus.specs.Model as C
use Rattle.calculus.specs.Model.{most_degree, most_terms, sound}
use Rattle.calculus.specs.Refusal.{done, stopped}
use Rattle.model_types.specs.declared.Term.{Term}
use Rattle.model_types.specs.declared.Model.{Model}
use Rattle.model_types.specs.declared.Answer.{Answer}
use Rattle.model_types.specs.declared.Refusal.{Refusal}
use Rattle.model_types.specs.ModelStruct.{Verdict}
use Rattle.std.specs.Prelude.{Ok, Err}
use Rattle.model_types.specs.ModelStruct.{refused_at}
use Rattle.model_types.specs.Arrays.{padded}
use Rattle.model_types.specs.ModelStruct.{view, pad, pack, answer, cause, paired, listed}
use Rattle.model_types.specs.ModelStructLaws.{Limits, limits, within_span, refusal_cause}
use Rattle.model_limits.specs.model_slices.HeldModels.{held, Room}
use Rattle.model_limits.specs.model_slices.HeldModelsLaws.{own_view}
use Rattle.model_limits.specs.declared.Left.{Left}
use Rattle.model_places.specs.LeftModels.{Lies, Zeros, left_model, unless_refused, left_answer}
use Rattle.model_places.specs.SlicePlacesLaws.{room_places, places_long, places_at}

module _ (n : ℕ) (l : Left) (ks : List ℕ) (cs : List ℤ) where
  -- an accepted one
  pub left_accepted : l.verdict ≡ Ok tt → (m : C.Model) → left_model n l ks cs ≡ pack m
      → left_answer n l ks cs ≡ answer (done m)
  unfolding left_answer unless_refused answer
  left_accepted v m e = rw (v, e)

  -- whose struct is that of the answer
  pub left_done : (m : C.Model) → left_answer n l ks cs ≡ answer (done m) → left_model n l ks cs ≡ pack m
  unfolding left_answer answer
  left_done m e = kept (ap (λ (a : Answer). a.verdict) e) (ap (λ (a : Answer). a.model) e)
    where
      kept : l.verdict ≡ Ok tt → unless_refused l.verdict (left_model n l ks cs) ≡ pack m
          → left_model n l ks cs ≡ pack m
      kept v p = sym (ap (λ v. unless_refused v (left_model n l ks cs)) v ∙ (unfold unless_refused in refl)) ∙ p

  -- a refused one
  pub left_refused : (r : Refusal) (i : ℕ) → l.verdict ≡ Err (refused_at r i)
      → left_answer n l ks cs ≡ answer (stopped (cause r) i)
  unfolding left_answer unless_refused answer
  left_refused r i v = rw (v, refusal_cause r)

-- ---- a sound model in slices
module _ {count radius : ℕ} {ks : List ℕ} {cs : List ℤ} (w : Lies count radius ks cs) where
  pub lies_limits : Limits (held w.vars count radius ks cs)
  lies_limits = limits most_degree _ w.model

  pub lies_few : count ≤ most_terms
  unfolding held
  lies_few = lies_limits.few

  pub lies_long : count ≤ length (listed (held w.vars count radius ks cs))
  lies_long = omega (arith, lies_few, places_long w.vars count radius ks cs w.places lies_few)

  -- a coefficient is within 64 bits
  pub lies_small : (i : ℕ) → i < count → nat_abs (get_or cs i (pos 0)) < 2 ^ 63
  unfolding held
  lies_small i h = omega (
    arith,
    span_fits,
    lies_limits.small,
    within_span (held w.vars count radius ks cs) i lies_long h,
    ap (λ (t : Term). nat_abs t.coefficient) (places_at w.vars count radius ks cs w.places i h),
  )

-- ---- arrays of zeros
pub zeros_room : {ks : List ℕ} {cs : List ℤ} → Zeros ks cs → Room ks cs
unfolding most_terms
zeros_room z = record {
  keys = rw z.keys (length-replicate {A = ℕ} 64 0);
  coefficients = rw z.coefficients (length-replicate {A = ℤ} 64 (pos 0));
}

-- they hold no terms
pub zeros_listed : {ks : List ℕ} {cs : List ℤ} → Zeros ks cs → paired ks cs ≡ pad []
unfolding most_terms paired padded
zeros_listed z = rw (z.keys, z.coefficients)

-- ---- a sound struct lies in its own arrays
module _ (m : Model) (room : Room m.keys m.coefficients) where
  module _ (h : T (sound most_degree (view m))) where
    pub few : m.count ≤ most_terms
    few = (limits most_degree m h).few

    pub own_model : T (sound most_degree (view (held m.n m.count m.radius m.keys m.coefficients)))
    own_model = subst (λ v. T (sound most_degree v)) (sym (own_view m room few)) h

    abbrev pub own_lies : Lies m.count m.radius m.keys m.coefficients
    own_lies = record { vars = m.n; places = room_places room few; model = own_model }
