-- The certificate, one test after the other: what each step asks, and each way out.
use Rattle.std.specs.Prelude.{◌≡◌, refl, List, ℕ, ◌*◌, ◌-◌, ◌^◌, ◌≤◌, ◌<◌, T, ℤ, pos, neg_ℤ, length, take, replicate}
use Rattle.std.proofs.Common.{sym, ◌∙◌, ap₂, arith, le-ltb, lt-ltb, lit<}
use Rattle.std.proofs.Math.Path.{ap}
use Rattle.std.proofs.Math.Nat as NatL
use Rattle.algebra.specs.Integer.{natAbs_neg, natAbs_add}
use Rattle.numbers.specs.Division.{divided_up}
use Rattle.numbers.specs.Fixed.{U, span_limit}
use Rattle.numbers.proofs.FixedLaws.{U_within, span_square_fits}
use Rattle.calculus.specs.Key.{key_width}
use Rattle.calculus.specs.Model as C
use Rattle.calculus.specs.Model.{most_degree, most_terms, sound, span}
use Rattle.calculus.specs.Refusal.{uncertified, stopped, at_place, require}
use Rattle.calculus.specs.Operations.{limited, widen, bare, range, constant_part, below, above}
use Rattle.calculus.specs.Operations.{largest_end, largest_value, quotient_radius, certified}
use Rattle.calculus_laws.specs.SoundLaws.{sound_parts}
use Rattle.model_types.specs.declared.Model.{Model}
use Rattle.model_types.specs.declared.Answer.{Answer}
use Rattle.model_types.specs.ModelStruct.{view, pack, answer}
use Rattle.model_types.specs.ModelStructLaws.{limits, vars_range, sound_vars, view_pack}
use Rattle.model_types.specs.PairedLaws.{listed_struct}
use Rattle.model_slices.specs.HandedModels.{handed, over}
use Rattle.model_slices.specs.HandedModelsLaws.{filled_listed}
use Rattle.model_slices.specs.HeldModels.{held}
use Rattle.model_limits.specs.Limits.{Packed}
use Rattle.model_limits.specs.LimitLaws.{pack_packed}
use Rattle.model_places.specs.SlicePlaces.{Places}
use Rattle.model_places.specs.SlicePlacesLaws.{places_view, places_sound, places_packed}
use Rattle.model_places.specs.LeftModels.{Lies}
use Rattle.model_places.specs.LeftModelsLaws.{lies_limits}
use Rattle.model_range.specs.RangeSizeLaws.{below_within, above_within}
use Rattle.model_certificate.specs.Certificate.{with_radius}

-- ---- the size of a form
-- at most the span
pub largest_within : (m : C.Model) → largest_value m ≤ span m
unfolding largest_value largest_end range
largest_within m = omega (
  arith,
  natAbs_add (constant_part m) (neg_ℤ (pos (below m))),
  natAbs_neg (pos (below m)),
  natAbs_add (constant_part m) (pos (above m)),
  below_within m,
  above_within m,
)

-- and so within the span limit
pub largest_small : {count radius : ℕ} {ks : List ℕ} {cs : List ℤ} (w : Lies count radius ks cs)
    → largest_value (view (held w.vars count radius ks cs)) ≤ span_limit
largest_small {count} {radius} {ks} {cs} w =
    omega (arith, largest_within (view (held w.vars count radius ks cs)), (lies_limits w).small)

-- ---- the certificate
-- a product of a beta and the unit fits a word
pub product_fits : (beta : ℕ) → beta ≤ span_limit → beta * U < 2 ^ 64
product_fits beta h = omega (arith, NatL.mul-le-mul h U_within, span_square_fits)

-- the model with its radius, as it is packed
module _ (e : ℕ) (h : C.Model) (s : T (sound most_degree h)) where
  width : h.vars ≤ key_width
  width = (vars_range h.vars (sound_vars most_degree h s)).1

  few : 15 < 16
  few = lit< tt

  pub radius_packed : Packed (pack (with_radius e h))
  unfolding with_radius most_degree
  radius_packed = pack_packed 15 (with_radius e h) few width (sound_parts 15 h s).0.fitting
      (sound_parts 15 h s).1.count

  radius_view : view (pack (with_radius e h)) ≡ with_radius e h
  unfolding with_radius most_degree
  radius_view = view_pack 15 (with_radius e h) few width (sound_parts 15 h s).0.fitting

module _ (h : C.Model) (beta mu : ℕ) where
  pub certified_not : U ≤ mu → answer (stopped uncertified 0) ≡ answer (at_place 0 (certified h beta mu))
  unfolding certified require at_place
  certified_not l = rw (le-ltb mu U l)

  certified_radius : mu < U → limited (with_radius (quotient_radius beta mu) h) ≡ certified h beta mu
  unfolding certified require widen bare with_radius
  certified_radius l = rw (lt-ltb mu U l, NatL.zero-add (quotient_radius beta mu))

  pub certified_answer : T (sound most_degree h) → {unit e : ℕ} → unit ≡ U → mu < U
      → e ≡ divided_up (beta * unit) (unit - mu) → {m : Model} → m ≡ pack (with_radius e h)
      → {r : Answer} → r ≡ answer (at_place 0 (limited (view m)))
      → r ≡ answer (at_place 0 (certified h beta mu))
  unfolding quotient_radius
  certified_answer s {e = e} u l q k a = a
      ∙ ap (λ c. answer (at_place 0 (limited c)))
      (ap view k ∙ radius_view e h s
      ∙ ap (λ e. with_radius e h) (q ∙ ap (λ u. divided_up (beta * u) (u - mu)) u))
      ∙ ap (λ c. answer (at_place 0 c)) (certified_radius l)

-- ---- the terms of h with another radius, copied
-- two arrays of zeros that the terms are copied into
pub copied_struct : (n count radius : ℕ) (ks : List ℕ) (cs : List ℤ) → (count ≤ length ks) × (count ≤ length cs)
    → {ks₂ : List ℕ} {cs₂ : List ℤ} → ks₂ ≡ over (take count ks) (replicate most_terms 0)
    → cs₂ ≡ over (take count cs) (replicate most_terms (pos 0))
    → record { n = n; count = count; radius = radius; keys = ks₂; coefficients = cs₂ } ≡ held n count radius ks cs
unfolding held
copied_struct n count radius ks cs l k z =
    ap₂ (λ (x : List ℕ) (y : List ℤ). record { n = n; count = count; radius = radius; keys = x; coefficients = y }) k z
    ∙ listed_struct (filled_listed count ks cs l.0 l.1) n count radius

module _ (n count e : ℕ) (ks : List ℕ) (cs : List ℤ) (l : (count ≤ length ks) × (count ≤ length cs))
    (s : T (sound most_degree (view (handed n count 0 ks cs)))) where
  pub copied_few : count ≤ most_terms
  unfolding handed
  copied_few = (limits most_degree (handed n count 0 ks cs) s).few

  places : Places count ks cs
  places = record { keys = l.0; coefficients = l.1 }

  abbrev widened : Model → Model
  widened r = record {
    n = r.n;
    count = r.count;
    radius = e;
    keys = r.keys;
    coefficients = r.coefficients;
  }

  own : held n count 0 ks cs ≡ pack (view (handed n count 0 ks cs))
  own = sym (places_packed n count 0 ks cs places copied_few most_degree (omega arith)
      (places_sound n count 0 ks cs places copied_few most_degree s))
      ∙ ap pack (places_view n count 0 ks cs places copied_few)

  pub copied_packed : held n count e ks cs ≡ pack (with_radius e (view (handed n count 0 ks cs)))
  unfolding held pack with_radius
  copied_packed = ap widened own
