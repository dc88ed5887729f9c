-- Two models in slices that are added or subtracted: what a merge asks of them, the second with its signs turned, and
-- what the limits leave of the difference.
use Rattle.std.proofs.Math.Path.{◌≡◌, refl, ap}
use Rattle.std.proofs.Common.{sym, ◌∙◌, subst, length-take-le}
use mathlib.Core.List.{List, [], ◌∷◌, ◌++◌}
use Prim.Native.Nat.{ℕ, zero, suc, ◌+◌, ◌^◌, ◌≤◌, ◌<◌}
use native.Mathlib.Omega.{arith}
use Rattle.std.specs.Prelude.{T, ℤ, pos, nat_abs, neg_ℤ, take, drop, get_or, replicate}
use Rattle.std.proofs.Math.ListN.{length, length-append}
use Rattle.std.proofs.lemmas.List.{length-map}
use Rattle.numbers.proofs.FixedLaws.{span_fits}
use Rattle.calculus.specs.Model as C
use Rattle.calculus.specs.Model.{most_degree, most_terms, sound}
use Rattle.calculus.specs.Operations.{limited, add, subtract, negate}
use Rattle.calculus.specs.Refusal.{at_place}
use Rattle.model_types.specs.declared.Term.{Term}
use Rattle.model_types.specs.declared.Model.{Model}
use Rattle.model_types.specs.declared.Answer.{Answer}
use Rattle.model_types.specs.declared.Refusal.TheVariants.{TooManyTerms}
use Rattle.std.specs.Prelude.{Ok, Err}
use Rattle.model_types.specs.ModelStruct.{refused_at}
use Rattle.model_types.specs.ModelStruct.{view, answer, refusal, of_terms, pad}
use Rattle.model_types.specs.ModelStructLaws.{limits}
use Rattle.model_slices.specs.HandedModels.{terms_of, over}
use Rattle.model_slices.specs.HeldModels.{held}
use Rattle.model_limits.specs.Limits.{Packed, LeftIn}
use Rattle.model_limits.specs.declared.Left.{Left}
use Rattle.model_places.specs.SlicePlacesLaws.{places_long}
use Rattle.model_places.specs.LeftModelsLaws.{lies_small}
use Rattle.model_unary.specs.NegateLaws.{turned, turned_view, negated_sound}
use Rattle.model_addition.specs.Addition.{SumFrom, SumIn}
use Rattle.model_addition.specs.AddedLaws.{radius_within}
use Rattle.model_slice_results.specs.Addends.{Addends}

module _ {n c₁ e₁ : ℕ} {ks₁ : List ℕ} {cs₁ : List ℤ} {c₂ e₂ : ℕ} {ks₂ : List ℕ} {cs₂ : List ℤ}
    (w : Addends n c₁ e₁ ks₁ cs₁ c₂ e₂ ks₂ cs₂) where
  abbrev first : Model
  first = held n c₁ e₁ ks₁ cs₁

  abbrev second : Model
  second = held n c₂ e₂ ks₂ cs₂

  first_few : c₁ ≤ most_terms
  unfolding held
  first_few = (limits most_degree first w.operands.first).few

  pub second_few : c₂ ≤ most_terms
  unfolding held
  second_few = (limits most_degree second w.operands.second).few

  -- a coefficient of the second is within 64 bits
  pub second_small : (i : ℕ) → i < c₂ → nat_abs (get_or cs₂ i (pos 0)) < 2 ^ 63
  second_small = lies_small (record { vars = n; places = w.second; model = w.operands.second })

  abbrev pub sum_from : SumFrom c₁ ks₁ cs₁ c₂ ks₂ cs₂
  sum_from = record {
    vars = n;
    radius1 = e₁;
    radius2 = e₂;
    first_places = w.first;
    second_places = w.second;
    operands = w.operands;
  }

  -- the sum of the radii is within 64 bits
  pub radii_fit : e₁ + e₂ < 2 ^ 64
  unfolding held
  radii_fit = omega (
    arith,
    radius_within first w.operands.first (places_long n c₁ e₁ ks₁ cs₁ w.first first_few),
    radius_within second w.operands.second (places_long n c₂ e₂ ks₂ cs₂ w.second second_few),
    span_fits,
  )

  -- ---- the second with its signs turned into an array
  front : (c : ℕ) (ks : List ℕ) (l r : List ℤ) → c ≤ length l → terms_of c ks (l ++ r) ≡ terms_of c ks l
  unfolding terms_of
  front zero ks l r h = refl
  front (suc c) [] l r h = refl
  front (suc c) (k ∷ ks) [] r h = absurd (omega arith)
  front (suc c) (k ∷ ks) (z ∷ l) r h =
      ap (λ (t : List Term). record { key = k; coefficient = z } ∷ t) (front c ks l r (omega arith))

  module _ {cs₃ : List ℤ} (e : cs₃ ≡ over (turned c₂ cs₂) (replicate most_terms (pos 0))) where
    turned_long : length (turned c₂ cs₂) ≡ c₂
    turned_long = length-map (take c₂ cs₂) neg_ℤ ∙ length-take-le c₂ cs₂ w.second.coefficients

    same_held : held n c₂ e₂ ks₂ cs₃ ≡ held n c₂ e₂ ks₂ (turned c₂ cs₂)
    unfolding held over
    same_held = ap (λ (l : List Term). of_terms n c₂ e₂ (pad l))
        (ap (terms_of c₂ ks₂) e ∙ front c₂ ks₂ (turned c₂ cs₂) _ (omega (arith, turned_long)))

    pub negated_view : view (held n c₂ e₂ ks₂ cs₃) ≡ negate (view second)
    negated_view = ap view same_held ∙ turned_view n c₂ e₂ ks₂ cs₂ w.second second_few

    pub turned_addends : Addends n c₁ e₁ ks₁ cs₁ c₂ e₂ ks₂ cs₃
    turned_addends = record {
      first = w.first;
      second = record {
        keys = w.second.keys;
        coefficients = subst (λ (l : List ℤ). c₂ ≤ length l) (sym e) long;
      };
      operands = record {
        first = w.operands.first;
        second = subst (λ (m : C.Model). T (sound most_degree m)) (sym negated_view)
            (negated_sound most_degree (view second) w.operands.second);
        vars = unfold held in refl;
      };
    }
      where
        long : c₂ ≤ length (over (turned c₂ cs₂) (replicate most_terms (pos 0)))
        long = unfold over in omega (
          arith,
          turned_long,
          length-append (turned c₂ cs₂) (drop (length (turned c₂ cs₂)) (replicate most_terms (pos 0))),
        )

    pub difference_is : answer (at_place 0 (add (view first) (view (held n c₂ e₂ ks₂ cs₃))))
        ≡ answer (at_place 0 (subtract (view first) (view second)))
    unfolding subtract
    difference_is = ap (λ (m : C.Model). answer (at_place 0 (add (view first) m))) negated_view

    -- ---- what the limits leave of the merge with it
    abbrev difference : Answer
    difference = answer (at_place 0 (subtract (view first) (view second)))

    module _ {count : ℕ} {ks : List ℕ} {cs : List ℤ}
        (s : SumIn first (held n c₂ e₂ ks₂ cs₃) n count ks cs) where
      pub difference_many : 64 < count → {r : Left} → r.verdict ≡ Err (refused_at TooManyTerms 0)
          → LeftIn n r ks cs difference
      unfolding answer refusal
      difference_many h {r} v = record {
        verdict = v ∙ ap (λ (a : Answer). a.verdict) (sym (s.many h) ∙ difference_is);
        model = λ t. let z : ◌≡◌ {A = ℕ} 0 1 = cc in absurd (omega arith);
      }

      module _ (h : count ≤ 64) where
        pub difference_packed : Packed (held n count (e₁ + e₂) ks cs)
        unfolding held
        difference_packed = s.packed h

        limited_is : answer (at_place 0 (limited (view (held n count (e₁ + e₂) ks cs)))) ≡ difference
        unfolding held
        limited_is = s.sum h ∙ difference_is

        pub difference_left : {l : Left}
            → LeftIn n l ks cs (answer (at_place 0 (limited (view (held n count (e₁ + e₂) ks cs)))))
            → LeftIn n l ks cs difference
        difference_left {l} a = subst (LeftIn n l ks cs) limited_is a
