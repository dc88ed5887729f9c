-- Horner's rule: one iteration of its loop, with each way out.
use Rattle.std.specs.Prelude.{◌≡◌, refl, true, false}
use Rattle.std.proofs.Math.Path.{sym, ap, subst}
use Rattle.std.proofs.Common.{◌∙◌, ap₂}
use Prim.Native.Nat.{ℕ, zero, suc, ◌-◌, ◌^◌, ◌≤◌, ◌<◌}
use native.Mathlib.Omega.{arith}
use Rattle.std.proofs.Math.Dec.{lit<}
use Rattle.numbers.specs.Fixed.{span_limit}
use Rattle.calculus.specs.Model as C
use Rattle.calculus.specs.Model.{span}
use Rattle.calculus.specs.Refusal as R
use Rattle.calculus.specs.Refusal.{leaves_box, accepted, refused, stopped, require, ◌then◌, at_place}
use Rattle.calculus.specs.Operations.{range_in_box, largest_exponent, part, horner, widen, substitute, error}
use Rattle.calculus.specs.Shares as S
use Rattle.calculus.specs.Shares.{no_shares, product_shares, shares_of, horner_shares, carrying, substitute_shares}
use Rattle.calculus.specs.Tests.{vars_sound}
use Rattle.calculus_laws.specs.SoundLaws.{Sound, sound_parts}
use Rattle.model_types.specs.declared.Model.{Model}
use Rattle.model_types.specs.declared.Refusal.{Refusal}
use Rattle.std.specs.Prelude.{Ok, Err}
use Rattle.model_types.specs.ModelStruct.{refused_at}
use Rattle.model_types.specs.declared.Answer.{Answer}
use Rattle.model_types.specs.declared.Shares.{Shares}
use Rattle.model_types.specs.declared.Accounted.{Accounted}
use Rattle.model_types.specs.ModelStruct.{view, pack, answer}
use Rattle.model_types.specs.SharesStruct.{stored_shares, accounted, unless_refused}
use Rattle.model_types.specs.SharesStructLaws.{accounted_by, accounted_refused, accounted_answer}
use Rattle.model_types.specs.ModelStructLaws.{sound_vars}
use Rattle.model_limits.specs.Limits.{Packed}
use Rattle.product_answer.specs.ErrorLaws.{error_fits}
use Rattle.model_powers.specs.PowersLaws.{part_sound}
use Rattle.model_widening.specs.model_horner_iteration.HornerIteration.{horner_iteration, Iteration}
use Rattle.model_widening.specs.model_horner_iteration.IterationLaws.{refused_accounted, accepted_shares}
use Rattle.model_widening.specs.model_horner_iteration.IterationLaws.{iteration_sound}
use Rattle.model_substitution_slices.specs.Substituting.{Substitution}
use Rattle.model_types.specs.ResultLaws.{Holds, held_view, held_sound, held_vars, Got, got, then_is}

-- ---- g in the place of variable i of f
module _ (d i : ℕ) (f g : Model) where
  -- the answer
  abbrev whole : R.Answer C.Model
  whole = substitute d i (view f) (view g)

  -- from k - 1 down to 0
  abbrev down : ℕ → C.Model → R.Answer C.Model
  down = horner d i (view f) (view g)

  -- last, the radius of f
  abbrev wider : C.Model → R.Answer C.Model
  wider = widen (view f).radius

  -- its shares
  abbrev all_shares : S.Shares
  all_shares = substitute_shares d i (view f) (view g)

  -- the shares of the last product, from k - 1 down to 0, and of the radius of f
  abbrev shares_down : ℕ → C.Model → S.Shares → S.Shares
  shares_down k m s = carrying (view f).radius (horner_shares d i (view f) (view g) k m s)

  -- h holds a model, and s the shares of the last product, from which the powers below k lead to the answer
  pub record Left (k : ℕ) (h : Model) (s : Shares) : Type 0 where
    pub model : C.Model
    pub holds : Holds f.n d h model
    pub rest : down k model then wider ≡ whole
    pub shares : S.Shares
    pub stored : s ≡ stored_shares shares
    pub fits : shares.carried < 2 ^ 63
    pub shares_rest : shares_down k model shares ≡ all_shares

  -- an iteration, and what follows it
  down_iteration : (k : ℕ) (m : C.Model) → 0 < k
      → down k m ≡ horner_iteration d m (view g) (part i (k - 1) (view f)) then down (k - 1)
  unfolding horner horner_iteration
  down_iteration zero m z = absurd (omega arith)
  down_iteration (suc k) m z = let e : suc k - 1 ≡ k = omega arith in rw e

  shares_iteration : (k : ℕ) (m : C.Model) (s : S.Shares) → 0 < k
      → horner_shares d i (view f) (view g) k m s
      ≡ shares_of (horner_iteration d m (view g) (part i (k - 1) (view f)))
      (λ q. horner_shares d i (view f) (view g) (k - 1) q (product_shares d m (view g)))
  unfolding horner_shares horner_iteration
  shares_iteration zero m s z = absurd (omega arith)
  shares_iteration (suc k) m s z = let e : suc k - 1 ≡ k = omega arith in rw e

  -- the range of g leaves the box
  outside_is : range_in_box (view g) ≡ false → whole ≡ refused leaves_box
  unfolding substitute require
  outside_is h = rw h

  pub outside : range_in_box (view g) ≡ false → {r : Answer} → r ≡ answer (stopped leaves_box 0)
      → record { answer = r; shares = record { carried = 0; rounding = 0; swept = 0; slack = 0 } }
      ≡ accounted whole (λ m. all_shares)
  outside h e = accounted_refused leaves_box (λ m. all_shares) e
      ∙ ap (λ a. accounted a (λ m. all_shares)) (sym (outside_is h))

-- ---- what an accepted answer leads to
led : {A : Type 0} {a : R.Answer A} {x : A} (f : A → S.Shares) → a ≡ accepted x → shares_of a f ≡ f x
unfolding shares_of
led f e = ap (λ a. shares_of a f) e

-- a product's carried share fits
carried_fits : (d : ℕ) (f g : C.Model) → span f ≤ span_limit → span g ≤ span_limit
    → (product_shares d f g).carried < 2 ^ 63
unfolding product_shares error
carried_fits d f g h k = omega (arith, error_fits d f g h k)

module _ {d i : ℕ} {f g : Model} (s : Substitution d i f g) where
  vars : vars_sound f.n ≡ true
  unfolding view
  vars = sound_vars d (view f) s.model

  outer : Sound f.n d (view f)
  unfolding view
  outer = sound_parts d (view f) s.model

  inner : Sound f.n d (view g)
  unfolding view
  inner = subst (λ n. Sound n d (view g)) (sym s.vars) (sound_parts d (view g) s.inner)

  -- the first: f_K
  pub left_first : range_in_box (view g) ≡ true → {k : ℕ} → k ≡ largest_exponent i (view f).terms
      → {h : Model} → h ≡ pack (part i k (view f))
      → Left d i f g k h (record { carried = 0; rounding = 0; swept = 0; slack = 0 })
  unfolding substitute require substitute_shares stored_shares no_shares
  left_first b {k = k} e p = record {
    model = part i k (view f);
    holds = record { packed = p; sound = part_sound i k f.n d (view f) outer };
    rest = rw (e, b);
    shares = no_shares;
    stored = refl;
    fits = lit< tt;
    shares_rest = rw e;
  }

  -- ---- multiply by g, add f_(k - 1)
  module _ {k : ℕ} {h : Model} {p : Shares} (l : Left d i f g k h p) {q : Model}
      (t : q ≡ pack (part i (k - 1) (view f))) where
    part_holds : Holds f.n d q (part i (k - 1) (view f))
    part_holds = record { packed = t; sound = part_sound i (k - 1) f.n d (view f) outer }

    pub left_iteration : Iteration d h g q
    left_iteration = record {
      factors = record {
        order = s.order;
        first = held_sound vars s.order l.holds;
        second = s.inner;
        vars = held_vars l.holds ∙ s.vars;
      };
      next = held_sound vars s.order part_holds;
      vars = held_vars l.holds ∙ sym (held_vars part_holds);
    }

    module _ (z : 0 < k) {r : Accounted}
        (e : r ≡ accounted (horner_iteration d (view h) (view g) (view q))
        (λ m. product_shares d (view h) (view g))) where
      abbrev iterated : R.Answer C.Model
      iterated = horner_iteration d l.model (view g) (part i (k - 1) (view f))

      abbrev made : S.Shares
      made = product_shares d l.model (view g)

      iterated_is : r ≡ accounted iterated (λ m. made)
      iterated_is = e
          ∙ ap₂ (λ m p. accounted (horner_iteration d m (view g) p) (λ n. product_shares d m (view g)))
          (held_view vars s.order l.holds) (held_view vars s.order part_holds)

      rest : iterated then down d i f g (k - 1) then wider d i f g ≡ whole d i f g
      rest = ap (λ a. a then wider d i f g) (sym (down_iteration d i f g k l.model z)) ∙ l.rest

      pub iteration_refused : {x : Refusal} {y : ℕ} → r.answer.verdict ≡ Err (refused_at x y)
          → r ≡ accounted (whole d i f g) (λ m. all_shares d i f g)
      iteration_refused v =
          refused_accounted (iterated then down d i f g (k - 1)) (λ m. made) (λ m. all_shares d i f g) (wider d i f g) v
          (refused_accounted iterated (λ m. made) (λ m. made) (down d i f g (k - 1)) v iterated_is)
          ∙ ap (λ a. accounted a (λ m. all_shares d i f g)) rest

      pub iteration_accepted : r.answer.verdict ≡ Ok tt → Left d i f g (k - 1) r.answer.model r.shares
      iteration_accepted v = record {
        model = m.model;
        holds = m.holds;
        rest = ap (λ a. a then wider d i f g) (sym (then_is (down d i f g (k - 1)) m.is)) ∙ rest;
        shares = made;
        stored = accepted_shares iterated made iterated_is m.is;
        fits = made_fits;
        shares_rest = ap (carrying (view f).radius) (sym (shares_iteration d i f g k l.model l.shares z
            ∙ led (λ q. horner_shares d i (view f) (view g) (k - 1) q made) m.is)) ∙ l.shares_rest;
      }
        where
          m : Got f.n d iterated r.answer.model
          m = got (accounted_answer iterated (λ m. made) iterated_is) v
              (iteration_sound f.n d l.model (view g) _ l.holds.sound.0 inner.0 part_holds.sound.0)

          made_fits : made.carried < 2 ^ 63
          made_fits = carried_fits d l.model (view g) l.holds.sound.1.small_span inner.1.small_span

  -- ---- the last: the radius of f
  module _ {k : ℕ} {h : Model} {p : Shares} (l : Left d i f g k h p) where
    pub left_packed : Packed h
    unfolding pack
    left_packed = record {
      few = omega (arith, ap (λ h. h.count) l.holds.packed, l.holds.sound.1.count);
      packed = ap pack (held_view vars s.order l.holds) ∙ sym l.holds.packed;
    }

    pub left_fits : p.carried < 2 ^ 63
    unfolding stored_shares
    left_fits = omega (arith, ap (λ (s : Shares). s.carried) l.stored, l.fits)

    pub radius_within : f.radius ≤ span_limit
    unfolding span view
    radius_within = omega (arith, outer.1.small_span)

    module _ (z : k ≤ 0) where
      none : k ≡ 0
      none = omega arith

      end_answer : widen f.radius (view h) ≡ whole d i f g
      unfolding horner view ◌then◌
      end_answer = ap (widen f.radius) (held_view vars s.order l.holds)
          ∙ ap (λ j. down d i f g j l.model then wider d i f g) (sym none) ∙ l.rest

      end_shares : carrying f.radius l.shares ≡ all_shares d i f g
      unfolding horner_shares view
      end_shares = ap (λ j. shares_down d i f g j l.model l.shares) (sym none) ∙ l.shares_rest

      pub left_end : accounted (widen f.radius (view h)) (λ m. carrying f.radius l.shares)
          ≡ accounted (whole d i f g) (λ m. all_shares d i f g)
      left_end = ap₂ (λ a s. accounted a (λ m. s)) end_answer end_shares
