-- The passes of Horner's rule over a model that lies in slices: each iteration is that of the pass over a struct.
use Rattle.std.specs.Prelude.{◌≡◌, not, List, ℕ, ◌+◌, ◌*◌, ◌^◌, ◌≤◌, ◌<◌, ℤ, pos, length, get_or, set}
use Rattle.std.proofs.Common.{sym, ◌∙◌, arith}
use Rattle.std.proofs.Math.Path.{ap, subst}
use Rattle.std.proofs.Math.Dec.{T}
use Rattle.std.proofs.Math.IntN.{nat_abs}
use Rattle.calculus.specs.Model.{most_degree, most_terms}
use Rattle.calculus.specs.Terms.{is_nonzero}
use Rattle.model_types.specs.declared.Term.{Term}
use Rattle.model_types.specs.declared.Model.{Model}
use Rattle.model_types.specs.ModelStruct.{zero_term, view, pad, pack, listed}
use Rattle.model_types.specs.ModelStructLaws.{limits}
use Rattle.model_slices.specs.HandedModels.{terms_of}
use Rattle.model_slices.specs.HeldModels.{held, Room}
use Rattle.model_slices.specs.HeldModelsLaws.{pair, held_whole, held_at, stored_more}
use Rattle.model_scaling.specs.Scaling.{scaled_coefficient, scaled_residual, scaled_pass}
use Rattle.model_scaling.specs.ScaledPassLaws as S
use Rattle.model_horner.specs.Held.{ScaleOf}

-- ---- a product with a constant
module _ {X : ℤ} {total radius : ℕ} {ks : List ℕ} {cs : List ℤ} (w : ScaleOf X total radius ks cs) where
  abbrev multiplied : Model
  multiplied = held w.vars total radius ks cs

  pub scale_few : total ≤ most_terms
  unfolding held
  scale_few = (limits most_degree multiplied w.scalable.model).few

  scale_whole : total ≤ length (listed multiplied)
  scale_whole = held_whole w.vars total radius ks cs w.room scale_few

  pub carried_small : nat_abs X * radius < 2 ^ 61
  unfolding held
  carried_small = S.carried_small w.scalable scale_whole

  pub scale_first : {e : ℕ} (ks₂ : List ℕ) (cs₂ : List ℤ) → e ≡ nat_abs X * radius
      → S.Gathered X multiplied (pad (terms_of 0 ks₂ cs₂)) 0 e 0
  unfolding held terms_of
  scale_first ks₂ cs₂ q = S.gathered_first w.scalable scale_whole q

  module _ (ks₂ : List ℕ) (cs₂ : List ℤ) {count error j : ℕ}
      (g : S.Gathered X multiplied (pad (terms_of count ks₂ cs₂)) count error j) where
    pub scale_room : count ≤ j
    unfolding held
    scale_room = S.gathered_room w.scalable scale_whole g

    module _ (h : j < total) where
      at_place : get_or (listed multiplied) j zero_term ≡ pair (get_or ks j 0) (get_or cs j (pos 0))
      at_place = held_at w.vars total radius ks cs w.room scale_few j h

      pub scale_fits : nat_abs (get_or cs j (pos 0)) * nat_abs X < 2 ^ 63
      unfolding held
      scale_fits = subst (λ (t : Term). nat_abs t.coefficient * nat_abs X < 2 ^ 63) at_place
          (S.product_fits w.scalable scale_whole j h)

      pub scale_within : error + scaled_residual X (get_or cs j (pos 0)) < 2 ^ 62
      unfolding held
      scale_within = subst (λ (t : Term). error + scaled_residual X t.coefficient < 2 ^ 62) at_place
          (S.gathered_within w.scalable scale_whole g h)

      module _ {r : ℕ} (e : r ≡ error + scaled_residual X (get_or cs j (pos 0))) where
        grows : r ≡ error + scaled_residual X (get_or (listed multiplied) j zero_term).coefficient
        grows = e ∙ ap (λ (t : Term). error + scaled_residual X t.coefficient) (sym at_place)

        pub scale_keep : Room ks₂ cs₂ → T (is_nonzero (scaled_coefficient X (get_or cs j (pos 0)))) → {z : ℤ}
            → z ≡ scaled_coefficient X (get_or cs j (pos 0))
            → S.Gathered X multiplied (pad (terms_of (count + 1) (set ks₂ count (get_or ks j 0)) (set cs₂ count z)))
            (count + 1) r (j + 1)
        unfolding held
        scale_keep room t {z = z} q =
            subst (λ o. S.Gathered X multiplied o (count + 1) r (j + 1))
            (stored_more count ks₂ cs₂ (get_or ks j 0) z room (omega (arith, scale_room, scale_few)))
            (S.gathered_keep w.scalable scale_whole g h grows
            (subst (λ (t : Term). T (is_nonzero (scaled_coefficient X t.coefficient))) (sym at_place) t)
            (omega (arith, scale_few)) (ap (λ (t : Term). t.key) (sym at_place))
            (q ∙ ap (λ (t : Term). scaled_coefficient X t.coefficient) (sym at_place)))

        pub scale_drop : T (not (is_nonzero (scaled_coefficient X (get_or cs j (pos 0)))))
            → S.Gathered X multiplied (pad (terms_of count ks₂ cs₂)) count r (j + 1)
        unfolding held
        scale_drop t = S.gathered_drop w.scalable scale_whole g h grows
            (subst (λ (t : Term). T (not (is_nonzero (scaled_coefficient X t.coefficient)))) (sym at_place) t)

    pub scale_end : total ≤ j → held w.vars count error ks₂ cs₂ ≡ pack (scaled_pass X (view multiplied))
    unfolding held
    scale_end l = S.gathered_end w.scalable scale_whole g l
