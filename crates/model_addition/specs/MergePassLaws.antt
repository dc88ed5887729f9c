-- The merge of two models that lie in slices: each iteration is that of the merge of structs.
use Rattle.std.specs.Prelude.{◌≡◌, refl, true, false, List, ℕ, ◌+◌, ◌^◌, ◌≤◌, ◌<◌, T, ℤ, pos, get_or, set}
use Rattle.std.proofs.Math.Path.{sym, ap}
use Rattle.std.proofs.Common.{◌∙◌, ap₂, subst}
use native.Mathlib.Omega.{arith}
use Rattle.std.proofs.Math.IntN.{nat_abs}
use Rattle.numbers.proofs.FixedLaws.{span_fits}
use Rattle.calculus.specs.Model.{most_degree, most_terms, sound}
use Rattle.calculus.specs.Terms.{is_nonzero}
use Rattle.calculus.specs.Refusal.{at_place}
use Rattle.calculus.specs.Operations.{add}
use Rattle.model_types.specs.declared.Term.{Term}
use Rattle.model_types.specs.declared.Model.{Model}
use Rattle.model_types.specs.ModelStruct.{zero_term, view, pad, answer, listed}
use Rattle.model_types.specs.ModelStructLaws.{limits}
use Rattle.model_types.specs.PairedLaws.{length_paired}
use Rattle.model_slices.specs.HandedModels.{terms_of}
use Rattle.model_slices.specs.HeldModels.{held, Room}
use Rattle.model_slices.specs.HeldModelsLaws.{pair, stored_more, own_view}
use Rattle.model_unary.specs.model_places.SlicePlaces.{Places}
use Rattle.model_addition.specs.declared.Next.{Next}
use Rattle.model_addition.specs.Addition.{Operands, SumFrom, SumOf, SumIn}
use Rattle.model_addition.specs.Merge.{Takes}
use Rattle.model_addition.specs.MergeLaws.{Mergeable, Merged, Iteration, nothing_stored, iteration, skip, store}
use Rattle.model_addition.specs.MergeLaws.{too_many}
use Rattle.model_addition.specs.AddedLaws.{Whole, coefficient_within, radius_within, mergeable}
use Rattle.model_addition.specs.AddedLaws.{answer_too_many, sum_packed, sum_answer}
use Rattle.model_unary.specs.model_places.SlicePlacesLaws.{places_long, places_at, room_places}

module _ {c d : ℕ} {ks ks₂ : List ℕ} {cs cs₂ : List ℤ} (w : SumFrom c ks cs d ks₂ cs₂) where
  abbrev a : Model
  a = held w.vars c w.radius1 ks cs

  abbrev b : Model
  b = held w.vars d w.radius2 ks₂ cs₂

  pub first_few : c ≤ most_terms
  unfolding held
  first_few = (limits most_degree a w.operands.first).few

  pub second_few : d ≤ most_terms
  unfolding held
  second_few = (limits most_degree b w.operands.second).few

  first_whole : Whole a
  first_whole = places_long w.vars c w.radius1 ks cs w.first_places first_few

  second_whole : Whole b
  second_whole = places_long w.vars d w.radius2 ks₂ cs₂ w.second_places second_few

  lists : Mergeable a b
  lists = mergeable a b w.operands first_whole second_whole

  pub merge_first : (ks₃ : List ℕ) (cs₃ : List ℤ) → Merged a b (pad (terms_of 0 ks₃ cs₃)) 0 0 0
  unfolding terms_of
  merge_first ks₃ cs₃ = nothing_stored a b

  -- ---- the terms that are read
  module _ {x : Term} (i : ℕ) (e : i < c → x ≡ pair (get_or ks i 0) (get_or cs i (pos 0))) (h : i < c) where
    pub first_here : get_or (listed a) i zero_term ≡ x
    first_here = places_at w.vars c w.radius1 ks cs w.first_places i h ∙ sym (e h)

  module _ {y : Term} (j : ℕ) (e : j < d → y ≡ pair (get_or ks₂ j 0) (get_or cs₂ j (pos 0))) (h : j < d) where
    pub second_here : get_or (listed b) j zero_term ≡ y
    second_here = places_at w.vars d w.radius2 ks₂ cs₂ w.second_places j h ∙ sym (e h)

  pub merge_fits : {x y : Term} (i j : ℕ) → (i < c → x ≡ pair (get_or ks i 0) (get_or cs i (pos 0)))
      → (j < d → y ≡ pair (get_or ks₂ j 0) (get_or cs₂ j (pos 0))) → i < c → j < d
      → nat_abs x.coefficient + nat_abs y.coefficient < 2 ^ 63
  unfolding held
  merge_fits i j e f h l = omega (
    arith,
    ap (λ (t : Term). nat_abs t.coefficient) (first_here i e h),
    ap (λ (t : Term). nat_abs t.coefficient) (second_here j f l),
    coefficient_within a w.operands.first first_whole i h,
    coefficient_within b w.operands.second second_whole j l,
    span_fits,
  )

  -- ---- an iteration
  module _ (ks₃ : List ℕ) (cs₃ : List ℤ) {count i j : ℕ} (m : Merged a b (pad (terms_of count ks₃ cs₃)) count i j) where
    pub merge_iteration : {x y : Term} → (i < c → x ≡ pair (get_or ks i 0) (get_or cs i (pos 0)))
        → (j < d → y ≡ pair (get_or ks₂ j 0) (get_or cs₂ j (pos 0))) → (r : Next) → Takes i c x j d y r
        → Iteration a b i j r
    unfolding held
    merge_iteration e f r t = iteration a b lists m _ _ (λ h. first_here i e h) (λ h. second_here j f h) r t

    module _ (r : Next) (t : Iteration a b i j r) where
      pub merge_skip : is_nonzero r.term.coefficient ≡ false
          → Merged a b (pad (terms_of count ks₃ cs₃)) count r.i r.j
      merge_skip z = skip a b lists m r t z

      pub merge_store : is_nonzero r.term.coefficient ≡ true → count < most_terms → Room ks₃ cs₃ → {z : ℤ}
          → z ≡ r.term.coefficient
          → Merged a b (pad (terms_of (count + 1) (set ks₃ count r.term.key) (set cs₃ count z))) (count + 1)
          r.i r.j
      merge_store n k room e = subst (λ o. Merged a b o (count + 1) r.i r.j)
          (stored_more count ks₃ cs₃ r.term.key r.term.coefficient room k
          ∙ ap (λ z. pad (terms_of (count + 1) (set ks₃ count r.term.key) (set cs₃ count z))) (sym e))
          (store a b lists m r t n k)

      pub merge_many : is_nonzero r.term.coefficient ≡ true → most_terms ≤ count → (ks₄ : List ℕ) (cs₄ : List ℤ)
          → SumIn a b w.vars 65 ks₄ cs₄
      merge_many n k ks₄ cs₄ = record {
        packed = λ h. absurd (omega arith);
        sum = λ h. absurd (omega arith);
        many = λ h. answer_too_many a b w.operands first_whole second_whole (too_many a b lists m r t n k);
      }

    pub merge_end : c + d ≤ i + j → SumIn a b w.vars count ks₃ cs₃
    unfolding held most_terms
    merge_end h = record {
      packed = λ l. sum_packed a b w.operands first_whole second_whole m h;
      sum = λ l. sum_answer a b w.operands first_whole second_whole m h;
      many = λ l. absurd (omega (arith, m.few));
    }

-- ---- slices of 64 places have those that a count names
module _ {c d : ℕ} {ks ks₂ : List ℕ} {cs cs₂ : List ℤ} (w : SumOf c ks cs d ks₂ cs₂) where
  pub first_named : Places c ks cs
  unfolding held
  first_named = room_places w.first_room (limits most_degree _ w.operands.first).few

  pub second_named : Places d ks₂ cs₂
  unfolding held
  second_named = room_places w.second_room (limits most_degree _ w.operands.second).few

  abbrev pub from_rooms : SumFrom c ks cs d ks₂ cs₂
  from_rooms = record {
    vars = w.vars;
    radius1 = w.radius1;
    radius2 = w.radius2;
    first_places = first_named;
    second_places = second_named;
    operands = w.operands;
  }

-- ---- two structs lend their arrays
module _ {a b : Model} (s : Operands a b) (v : Room a.keys a.coefficients) (w : Room b.keys b.coefficients)
  where
    -- they hold the models that these hold
    first_view : view (held a.n a.count a.radius a.keys a.coefficients) ≡ view a
    first_view = own_view a v (limits most_degree a s.first).few

    second_view : view (held a.n b.count b.radius b.keys b.coefficients) ≡ view b
    second_view = ap (λ n. view (held n b.count b.radius b.keys b.coefficients)) s.vars
        ∙ own_view b w (limits most_degree b s.second).few

    pub borrowed_operands : Operands (held a.n a.count a.radius a.keys a.coefficients)
        (held a.n b.count b.radius b.keys b.coefficients)
    borrowed_operands = record {
      first = subst (λ m. T (sound most_degree m)) (sym first_view) s.first;
      second = subst (λ m. T (sound most_degree m)) (sym second_view) s.second;
      vars = unfold held in refl;
    }

    abbrev pub borrowed_sum : SumOf a.count a.keys a.coefficients b.count b.keys b.coefficients
    borrowed_sum = record {
      vars = a.n;
      radius1 = a.radius;
      radius2 = b.radius;
      first_room = v;
      second_room = w;
      operands = borrowed_operands;
    }

    -- and have their sum
    pub borrowed_answer : answer (at_place 0
        (add (view (held a.n a.count a.radius a.keys a.coefficients))
        (view (held a.n b.count b.radius b.keys b.coefficients))))
        ≡ answer (at_place 0 (add (view a) (view b)))
    borrowed_answer = ap₂ (λ x y. answer (at_place 0 (add x y))) first_view second_view

    -- which has a radius of 64 bits
    pub borrowed_radius : a.radius + b.radius < 2 ^ 64
    unfolding most_terms
    borrowed_radius = omega (
      arith,
      radius_within a s.first (length_paired _ _ (v.keys ∙ sym v.coefficients) ∙ v.keys),
      radius_within b s.second (length_paired _ _ (w.keys ∙ sym w.coefficients) ∙ w.keys),
      span_fits,
    )
