-- The loop over a model that lies in slices, by the laws over the struct that holds it.
use Rattle.std.specs.Prelude.{◌≡◌, List, ℕ, ◌+◌, ◌^◌, ◌≤◌, ◌<◌, ℤ, pos, nat_abs, ◌+ℤ◌, length, get_or}
use Rattle.std.proofs.Common.{sym, ◌∙◌, ap, arith}
use Rattle.numbers.proofs.FixedLaws.{span_fits}
use Rattle.calculus.specs.Operations.{constant_part, below, above}
use Rattle.model_types.specs.declared.Term.{Term}
use Rattle.model_types.specs.declared.Model.{Model}
use Rattle.model_types.specs.ModelStruct.{zero_term, view, listed}
use Rattle.model_slices.specs.HeldModels.{held}
use Rattle.model_slices.specs.HeldModelsLaws.{pair}
use Rattle.model_places.specs.SlicePlacesLaws.{places_at}
use Rattle.model_places.specs.LeftModels.{Lies}
use Rattle.model_places.specs.LeftModelsLaws.{lies_limits, lies_long}
use Rattle.model_range.specs.KeyRange.{key_steady, key_fall, key_rise}
use Rattle.model_range.specs.RangeSizeLaws.{below_within, above_within}
use Rattle.model_range.specs.RangeLoopLaws as L
use Rattle.model_range.specs.RangeLoopLaws.{Counted}

module _ {count radius : ℕ} {ks : List ℕ} {cs : List ℤ} (w : Lies count radius ks cs) where
  abbrev lying : Model
  lying = held w.vars count radius ks cs

  long : lying.count ≤ length (listed lying)
  unfolding held
  long = lies_long w

  pub pass_first : Counted lying (pos 0) 0 0 0
  pass_first = L.counted_first lying w.model long

  -- the parts of the range are within 64 bits
  pub below_fits : nat_abs (constant_part (view lying)) + below (view lying) < 2 ^ 63
  below_fits = omega (arith, span_fits, (lies_limits w).small, below_within (view lying))

  pub above_fits : nat_abs (constant_part (view lying)) + above (view lying) < 2 ^ 63
  above_fits = omega (arith, span_fits, (lies_limits w).small, above_within (view lying))

  module _ {z : ℤ} {b a i : ℕ} (s : Counted lying z b a i) where
    pub middle_end : count ≤ i → z ≡ constant_part (view lying)
    unfolding held
    middle_end l = L.middle_end lying w.model long z b a i s l

    pub below_end : count ≤ i → b + radius ≡ below (view lying)
    unfolding held
    below_end l = L.below_end lying w.model long z b a i s l

    pub above_end : count ≤ i → a + radius ≡ above (view lying)
    unfolding held
    above_end l = L.above_end lying w.model long z b a i s l

    module _ (l : i < count) where
      abbrev at : Term
      at = get_or (listed lying) i zero_term

      at_is : at ≡ pair (get_or ks i 0) (get_or cs i (pos 0))
      at_is = places_at w.vars count radius ks cs w.places i l

      inside : i < lying.count
      unfolding held
      inside = l

      -- what the term at hand adds
      steady_is : key_steady at.key at.coefficient ≡ key_steady (get_or ks i 0) (get_or cs i (pos 0))
      steady_is = ap (λ (t : Term). key_steady t.key t.coefficient) at_is

      fall_is : key_fall at.key at.coefficient ≡ key_fall (get_or ks i 0) (get_or cs i (pos 0))
      fall_is = ap (λ (t : Term). key_fall t.key t.coefficient) at_is

      rise_is : key_rise at.key at.coefficient ≡ key_rise (get_or ks i 0) (get_or cs i (pos 0))
      rise_is = ap (λ (t : Term). key_rise t.key t.coefficient) at_is

      -- fits beside the sums
      pub steady_room : nat_abs z + nat_abs (key_steady (get_or ks i 0) (get_or cs i (pos 0))) < 2 ^ 63
      steady_room = omega (
        arith,
        span_fits,
        (lies_limits w).small,
        ap nat_abs steady_is,
        L.steady_room lying w.model long z b a i s inside,
      )

      pub fall_room : b + key_fall (get_or ks i 0) (get_or cs i (pos 0)) < 2 ^ 63
      fall_room = omega (
        arith,
        span_fits,
        (lies_limits w).small,
        fall_is,
        L.fall_room lying w.model long z b a i s inside,
      )

      pub rise_room : a + key_rise (get_or ks i 0) (get_or cs i (pos 0)) < 2 ^ 63
      rise_room = omega (
        arith,
        span_fits,
        (lies_limits w).small,
        rise_is,
        L.rise_room lying w.model long z b a i s inside,
      )

      -- and makes them those of one more term
      pub pass_iteration : {z' : ℤ} {b' a' : ℕ} → z' ≡ z +ℤ key_steady (get_or ks i 0) (get_or cs i (pos 0))
          → b' ≡ b + key_fall (get_or ks i 0) (get_or cs i (pos 0))
          → a' ≡ a + key_rise (get_or ks i 0) (get_or cs i (pos 0)) → Counted lying z' b' a' (i + 1)
      pass_iteration ez eb ea = L.counted_iteration lying w.model long z b a i s inside _ _ _
          (ez ∙ ap (λ x. z +ℤ x) (sym steady_is))
          (eb ∙ ap (λ x. b + x) (sym fall_is))
          (ea ∙ ap (λ x. a + x) (sym rise_is))
