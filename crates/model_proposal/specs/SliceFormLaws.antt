-- The forms of a proposal in slices: a radius left out, what each call asks and leaves, and the room for the products.
use Rattle.std.specs.Prelude.{◌≡◌, refl, List, [], ◌∷◌, ℕ, ◌*◌, ◌≤◌, T, ℤ, pos, length}
use Rattle.std.proofs.Math.Path.{sym}
use Rattle.std.proofs.Common.{◌∙◌, ap, ap₂, subst}
use Rattle.std.proofs.Math.Nat as NatL
use native.Mathlib.Omega.{arith}
use Rattle.numbers.specs.Fixed.{U}
use Rattle.calculus.specs.Key.{key_width}
use Rattle.calculus.specs.Model.{one_model, most_degree, most_terms, sound}
use Rattle.calculus.specs.Refusal.{at_place}
use Rattle.calculus.specs.Operations.{subtract, multiply, bare, defect, deviation}
use Rattle.model_types.specs.declared.Model.{Model}
use Rattle.model_types.specs.declared.Refusal.{Refusal}
use Rattle.std.specs.Prelude.{Ok, Err}
use Rattle.model_types.specs.ModelStruct.{refused_at}
use Rattle.model_types.specs.declared.Answer.{Answer}
use Rattle.model_types.specs.Arrays.{padded}
use Rattle.model_types.specs.ModelStruct.{view, pack, pack_term, answer}
use Rattle.model_types.specs.ModelStructLaws.{limits}
use Rattle.model_types.specs.ResultLaws.{sound_order}
use Rattle.model_slices.specs.HandedModels.{terms_of, handed}
use Rattle.model_slices.specs.HeldModels.{held, Room}
use Rattle.model_limits.specs.declared.Left.{Left}
use Rattle.model_limits.specs.Limits.{LeftIn}
use Rattle.model_places.specs.SlicePlaces.{Places}
use Rattle.model_places.specs.SlicePlacesLaws.{room_places, places_view, places_sound}
use Rattle.model_slice_results.specs.Addends.{Addends}
use Rattle.product_hash_table.specs.Table.{most_entries}
use Rattle.product_answer.specs.ProductFactors.{Factors}
use Rattle.model_proposal.specs.Proposal.{gap, Gap, Proposal, quotient_products}
use Rattle.model_proposal.specs.FormLaws.{zeros_key, gap_refused, gap_operands, gap_answer}
use Rattle.model_proposal.specs.FormLaws.{defect_refused, defect_factors, defect_answer}
use Rattle.model_proposal.specs.FormLaws.{deviation_refused, deviation_operands, deviation_answer}

-- ---- a model without a radius
pub handed_bare : (n count radius : ℕ) (ks : List ℕ) (cs : List ℤ)
    → view (handed n count 0 ks cs) ≡ bare (view (handed n count radius ks cs))
unfolding view bare handed
handed_bare n count radius ks cs = refl

-- ---- an answer whose terms lie in slices
module _ {n : ℕ} {k : Left} {ks : List ℕ} {cs : List ℤ} {a : Answer} (p : LeftIn n k ks cs a) where
  -- a refusal that is another answer's too
  pub left_stops : {b : Answer} {x : Refusal} {y : ℕ} → k.verdict ≡ Err (refused_at x y) → a ≡ b
      → (ks₂ : List ℕ) (cs₂ : List ℤ) → LeftIn n k ks₂ cs₂ b
  left_stops v e ks₂ cs₂ = record {
    verdict = p.verdict ∙ ap (λ (a : Answer). a.verdict) e;
    model = λ t. let z : ◌≡◌ {A = ℕ} 0 1 = cc in absurd (omega arith);
  }

  -- an accepted one that is sound
  module _ (v : k.verdict ≡ Ok tt) (s : T (sound most_degree (view a.model))) where
    pub left_sound : T (sound most_degree (view (held n k.count k.radius ks cs)))
    left_sound = subst (λ m. T (sound most_degree (view m))) (sym (p.model v)) s

    pub left_few : k.count ≤ most_terms
    unfolding held
    left_few = (limits most_degree (held n k.count k.radius ks cs) left_sound).few

    pub left_places : Room ks cs → Places k.count ks cs
    left_places room = room_places room left_few

-- ---- g × h - f
module _ (n cf ef : ℕ) (ksf : List ℕ) (csf : List ℤ) (long : (cf ≤ length ksf) × (cf ≤ length csf))
    {d : ℕ} {g h : Model} (s : Gap d (handed n cf ef ksf csf) g h) (e : view h ≡ bare (view h))
    {k : Left} {ks : List ℕ} {cs : List ℤ}
    (p : LeftIn n k ks cs (answer (at_place 0 (multiply d (view g) (view h))))) where
  abbrev gap_is : Answer
  gap_is = answer (at_place 0 (gap d (view (handed n cf ef ksf csf)) (view g) (view h)))

  pub gap_stops : {x : Refusal} {y : ℕ} → k.verdict ≡ Err (refused_at x y) → (ks₂ : List ℕ) (cs₂ : List ℤ)
      → LeftIn n k ks₂ cs₂ gap_is
  gap_stops v = left_stops p v (gap_refused s h e refl (sym p.verdict ∙ v))

  few : cf ≤ most_terms
  unfolding handed
  few = (limits d (handed n cf ef ksf csf) s.dividend).few

  places : Places cf ksf csf
  places = record { keys = long.0; coefficients = long.1 }

  module _ (v : k.verdict ≡ Ok tt) where
    pub gap_addends : Room ks cs → Addends n k.count k.radius ks cs cf ef ksf csf
    gap_addends room =
        let o = gap_operands s h e refl (sym p.verdict ∙ v) in
        record {
          first = left_places p v o.first room;
          second = places;
          operands = record {
            first = left_sound p v o.first;
            second = places_sound n cf ef ksf csf places few most_degree o.second;
            vars = unfold held in refl;
          };
        }

    difference_is : answer (at_place 0 (subtract (view (held n k.count k.radius ks cs))
        (view (held n cf ef ksf csf)))) ≡ gap_is
    difference_is = ap₂ (λ x y. answer (at_place 0 (subtract (view x) y))) (p.model v)
        (places_view n cf ef ksf csf places few)
        ∙ gap_answer s h e refl (sym p.verdict ∙ v) refl

    pub gap_left : {l : Left} {ks₂ : List ℕ} {cs₂ : List ℤ}
        → LeftIn n l ks₂ cs₂ (answer (at_place 0 (subtract (view (held n k.count k.radius ks cs))
        (view (held n cf ef ksf csf))))) → LeftIn n l ks₂ cs₂ gap_is
    gap_left {l} {ks₂} {cs₂} q = subst (LeftIn n l ks₂ cs₂) difference_is q

-- ---- w × (g × h - f)
module _ {n d : ℕ} {f g h w : Model} (s : Proposal d f g h w) (e : view w ≡ bare (view w))
    {k : Left} {ks : List ℕ} {cs : List ℤ}
    (p : LeftIn n k ks cs (answer (at_place 0 (gap d (view f) (view g) (view h))))) where
  abbrev less : Answer
  less = answer (at_place 0 (gap d (view f) (view g) (view h)))

  abbrev defect_is : Answer
  defect_is = answer (at_place 0 (defect d (view f) (view g) (view h) (view w)))

  pub defect_stops : {x : Refusal} {y : ℕ} → k.verdict ≡ Err (refused_at x y) → (ks₂ : List ℕ) (cs₂ : List ℤ)
      → LeftIn n k ks₂ cs₂ defect_is
  defect_stops v = left_stops p v (defect_refused s refl (sym p.verdict ∙ v))

  module _ (v : k.verdict ≡ Ok tt) (room : Room ks cs) where
    -- the difference, as it is handed over
    abbrev made : Model
    made = handed n k.count k.radius ks cs

    factors : Factors d w less.model
    factors = defect_factors s refl (sym p.verdict ∙ v) w e

    less_sound : T (sound most_degree (view less.model))
    less_sound = sound_order d _ s.order factors.second

    pub defect_few : k.count ≤ most_terms
    defect_few = left_few p v less_sound

    places_made : Places k.count ks cs
    places_made = left_places p v less_sound room

    pub defect_long : (k.count ≤ length ks) × (k.count ≤ length cs)
    defect_long = (places_made.keys, places_made.coefficients)

    made_view : view made ≡ view less.model
    made_view = sym (places_view n k.count k.radius ks cs places_made defect_few) ∙ ap view (p.model v)

    same_vars : less.model.n ≡ made.n
    unfolding held handed
    same_vars = sym (ap (λ (m : Model). m.n) (p.model v))

    pub defect_asked : Factors d w made
    defect_asked = record {
      order = s.order;
      first = factors.first;
      second = subst (λ m. T (sound d m)) (sym made_view) factors.second;
      vars = factors.vars ∙ same_vars;
    }

    times_is : answer (at_place 0 (multiply d (view w) (view made))) ≡ defect_is
    times_is = ap (λ m. answer (at_place 0 (multiply d (view w) m))) made_view
        ∙ defect_answer s refl (sym p.verdict ∙ v) w e refl

    pub defect_left : {l : Left} {ks₂ : List ℕ} {cs₂ : List ℤ}
        → LeftIn n l ks₂ cs₂ (answer (at_place 0 (multiply d (view w) (view made)))) → LeftIn n l ks₂ cs₂ defect_is
    defect_left {l} {ks₂} {cs₂} q = subst (LeftIn n l ks₂ cs₂) times_is q

-- ---- 1 - w × g
-- the model of 1: one term, of key 0
one_held : (n : ℕ) → n ≤ key_width → held n 1 0 (0 ∷ []) (pos U ∷ []) ≡ pack (one_model n)
unfolding one_model most_terms pack pack_term padded held terms_of
one_held n l = rw (zeros_key n l)

module _ {n d : ℕ} {g w : Model} (s : Factors d w g) (same : g.n ≡ n) (e : view w ≡ bare (view w))
    {k : Left} {ks : List ℕ} {cs : List ℤ}
    (p : LeftIn n k ks cs (answer (at_place 0 (multiply d (view w) (view g))))) where
  abbrev deviation_is : Answer
  deviation_is = answer (at_place 0 (deviation d (view g) (view w)))

  pub deviation_stops : {x : Refusal} {y : ℕ} → k.verdict ≡ Err (refused_at x y) → (ks₂ : List ℕ) (cs₂ : List ℤ)
      → LeftIn n k ks₂ cs₂ deviation_is
  deviation_stops v = left_stops p v (deviation_refused s w e refl (sym p.verdict ∙ v))

  module _ (v : k.verdict ≡ Ok tt) {ks₁ : List ℕ} {cs₁ : List ℤ} (o : ks₁ ≡ 0 ∷ []) (u : cs₁ ≡ pos U ∷ []) where
    one_struct : held n 1 0 ks₁ cs₁ ≡ pack (one_model g.n)
    one_struct = ap₂ (λ x y. held n 1 0 x y) o u
        ∙ one_held n (subst (λ i. i ≤ key_width) same (limits d g s.second).width)
        ∙ ap (λ i. pack (one_model i)) (sym same)

    pub deviation_addends : Room ks cs → Addends n 1 0 ks₁ cs₁ k.count k.radius ks cs
    deviation_addends room =
        let q = deviation_operands s w e refl (sym p.verdict ∙ v) one_struct in
        record {
          first = record {
            keys = omega (arith, ap length o);
            coefficients = omega (arith, ap length u);
          };
          second = left_places p v q.second room;
          operands = record {
            first = q.first;
            second = left_sound p v q.second;
            vars = unfold held in refl;
          };
        }

    from_one_is : answer (at_place 0 (subtract (view (held n 1 0 ks₁ cs₁))
        (view (held n k.count k.radius ks cs)))) ≡ deviation_is
    from_one_is = ap (λ x. answer (at_place 0 (subtract (view (held n 1 0 ks₁ cs₁)) (view x)))) (p.model v)
        ∙ deviation_answer s w e refl (sym p.verdict ∙ v) one_struct refl

    pub deviation_left : {l : Left} {ks₂ : List ℕ} {cs₂ : List ℤ}
        → LeftIn n l ks₂ cs₂ (answer (at_place 0 (subtract (view (held n 1 0 ks₁ cs₁))
        (view (held n k.count k.radius ks cs))))) → LeftIn n l ks₂ cs₂ deviation_is
    deviation_left {l} {ks₂} {cs₂} q = subst (LeftIn n l ks₂ cs₂) from_one_is q

-- ---- the room for the products
module _ (g h w : ℕ) where
  -- of g with h
  pub gap_products : g * h ≤ quotient_products g h w
  unfolding quotient_products
  gap_products = omega arith

  -- of w with a model
  pub form_products : (k : ℕ) → k ≤ most_terms → w * k ≤ quotient_products g h w
  unfolding quotient_products
  form_products k l =
      let p : w * k ≤ w * most_terms = NatL.mul-le-mul (omega arith) l in
      omega (arith, p, NatL.mul_comm w most_terms)

  -- the full table has it
  pub products_most : g ≤ most_terms → h ≤ most_terms → w ≤ most_terms → quotient_products g h w ≤ most_entries
  unfolding quotient_products most_terms
  products_most a b c = omega (arith, NatL.mul-le-mul a b)
