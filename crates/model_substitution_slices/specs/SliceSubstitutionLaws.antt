-- A substitution over models that lie in slices: what each call asks and leaves, and its answer as a struct.
use Rattle.std.specs.Prelude.{◌≡◌, refl, true, List, ℕ, ◌+◌, ◌-◌, ◌*◌, ◌≤◌, ◌<◌, T, ℤ}
use Rattle.std.proofs.Common.{sym, ◌∙◌, ap, ap₂, arith}
use Rattle.std.proofs.Math.Path.{subst}
use Rattle.numbers.specs.Fixed.{capped}
use Rattle.calculus.specs.Model.{most_terms, sound}
use Rattle.calculus.specs.Refusal.{at_place}
use Rattle.calculus.specs.Operations.{limited, range_in_box, largest_exponent, part, widen, substitute}
use Rattle.calculus.specs.Shares as S
use Rattle.calculus.specs.Shares.{product_shares, carrying, substitute_shares}
use Rattle.model_types.specs.declared.Model.{Model}
use Rattle.model_types.specs.declared.Refusal.{Refusal}
use Rattle.std.specs.Prelude.{Ok, Err}
use Rattle.model_types.specs.ModelStruct.{refused_at}
use Rattle.model_types.specs.declared.Answer.{Answer}
use Rattle.model_types.specs.declared.Shares.{Shares}
use Rattle.model_types.specs.declared.Accounted.{Accounted}
use Rattle.model_types.specs.ModelStruct.{view, pack, answer}
use Rattle.model_types.specs.SharesStruct.{stored_shares, accounted, unless_refused}
use Rattle.model_types.specs.ResultLaws.{sound_order}
use Rattle.model_slices.specs.declared.Kept.{Kept}
use Rattle.model_slices.specs.HeldModels.{model_places, held, Room}
use Rattle.model_limits.specs.declared.Left.{Left}
use Rattle.model_limits.specs.Limits.{Packed, LeftIn}
use Rattle.model_limits.specs.LimitLaws.{packed_radius, limited_capped}
use Rattle.product_room.specs.ProductTerms.{ScratchRoom}
use Rattle.model_powers.specs.Powers.{InVariable, KeysOf, PartOf}
use Rattle.model_widening.specs.model_horner_iteration.HornerIteration.{horner_iteration, IterationOf, KeptIn}
use Rattle.model_substitution_slices.specs.Substituting.{Substitution, SubstitutionOf}
use Rattle.model_substitution_slices.specs.IterationRoomLaws.{iteration_room}
use Rattle.model_substitution_slices.specs.HornerLaws as H

module _ {d i n count radius count₂ radius₂ : ℕ} {ks ks₂ : List ℕ} {cs cs₂ : List ℤ}
    (w : SubstitutionOf d i n count radius ks cs count₂ radius₂ ks₂ cs₂) where
  abbrev f : Model
  f = held n count radius ks cs

  abbrev g : Model
  g = held n count₂ radius₂ ks₂ cs₂

  abbrev s : Substitution d i f g
  s = w.models

  -- the answer
  abbrev pub whole : Accounted
  whole = accounted (substitute d i (view f) (view g)) (λ m. substitute_shares d i (view f) (view g))

  pub in_variable : InVariable i f
  in_variable = record { model = sound_order d (view f) s.order s.model; first = s.first; last = s.last }

  abbrev pub put_keys : KeysOf i count ks
  put_keys = record { vars = n; radius = radius; coefficients = cs; room = w.first_room; variable = in_variable }

  abbrev pub put_part : PartOf i count ks cs
  put_part = record { vars = n; radius = radius; room = w.first_room; variable = in_variable }

  -- the first: f_K
  pub put_first : {k : ℕ} → k ≡ largest_exponent i (view f).terms
      → (c : ℕ) (ks₃ : List ℕ) (cs₃ : List ℤ) → held n c 0 ks₃ cs₃ ≡ pack (part i k (view f))
      → H.Left d i f g k (held n c 0 ks₃ cs₃) (record { carried = 0; rounding = 0; swept = 0; slack = 0 })
  put_first e c ks₃ cs₃ p = H.left_first s w.in_box e p

  module _ {k : ℕ} (c e : ℕ) {p : Shares} (ks₃ : List ℕ) (cs₃ : List ℤ) (l : H.Left d i f g k (held n c e ks₃ cs₃) p)
    where
      -- ---- an iteration
      module _ (t : ℕ) (ks₄ : List ℕ) (cs₄ : List ℤ) (q : held n t 0 ks₄ cs₄ ≡ pack (part i (k - 1) (view f))) where
        pub put_iteration : Room ks₃ cs₃ → Room ks₄ cs₄ → IterationOf d n c e ks₃ cs₃ count₂ radius₂ ks₂ cs₂ t ks₄ cs₄
        put_iteration r₃ r₄ = record {
          first_room = r₃;
          second_room = w.second_room;
          third_room = r₄;
          iteration = H.left_iteration s l q;
        }

        pub put_room : {slots keys : List ℕ} {sums : List ℤ} → ScratchRoom (most_terms * count₂) slots keys sums
            → ScratchRoom (c * count₂) slots keys sums
        unfolding held
        put_room = iteration_room (H.left_iteration s l q)

        module _ (z : 0 < k) {r : Kept} (ks₅ : List ℕ) (cs₅ : List ℤ)
            (a : KeptIn n r ks₅ cs₅ (accounted (horner_iteration d (view (held n c e ks₃ cs₃)) (view g)
            (view (held n t 0 ks₄ cs₄))) (λ m. product_shares d (view (held n c e ks₃ cs₃)) (view g)))) where
          pub put_stops : {x : Refusal} {y : ℕ} → r.verdict ≡ Err (refused_at x y) → KeptIn n r ks₅ cs₅ whole
          put_stops v = subst (KeptIn n r ks₅ cs₅) (H.iteration_refused s l q z refl (sym a.verdict ∙ v)) a

          pub put_goes_on : r.verdict ≡ Ok tt
              → H.Left d i f g (k - 1) (held n r.count r.radius ks₅ cs₅) r.shares
          put_goes_on v = subst (λ m. H.Left d i f g (k - 1) m r.shares) (sym (a.model v))
              (subst (H.Left d i f g (k - 1) _) (sym a.shares)
              (H.iteration_accepted s l q z refl (sym a.verdict ∙ v)))

      -- ---- the last: the radius of f
      pub put_few : c ≤ model_places
      unfolding held most_terms
      put_few = (H.left_packed s l).few

      pub put_packed : Packed (held n c e ks₃ cs₃)
      put_packed = H.left_packed s l

      pub put_end : k ≤ 0 → {r : Kept} → ((t : S.Shares) → p ≡ stored_shares t
          → KeptIn n r ks₃ cs₃ (accounted (widen radius (view (held n c e ks₃ cs₃))) (λ m. carrying radius t)))
          → KeptIn n r ks₃ cs₃ whole
      unfolding held
      put_end z {r = r} a = subst (KeptIn n r ks₃ cs₃) (H.left_end s l z) (a l.shares l.stored)
