-- One coordinate put in by Horner's rule: each iteration, with each way out.
use Rattle.std.specs.Prelude.{◌≡◌, refl, true, T, ℤ, nat_abs}
use Rattle.std.proofs.Math.Path.{sym, ap}
use Rattle.std.proofs.Common.{◌∙◌, ap₂, subst}
use Prim.Native.Nat.{ℕ, zero, suc, ◌-◌, ◌≤◌, ◌<◌}
use native.Mathlib.Omega.{arith}
use Rattle.numbers.specs.Fixed.{span_limit}
use Rattle.numbers.proofs.FixedLaws.{U_within}
use Rattle.calculus.specs.Model as C
use Rattle.calculus.specs.Model.{most_degree, sound, span}
use Rattle.calculus.specs.Refusal as R
use Rattle.calculus.specs.Refusal.{leaves_box, accepted, require, ◌then◌, at_place}
use Rattle.calculus_laws.specs.RefusalLaws.{IfAccepted, then_accepted}
use Rattle.calculus.specs.Operations.{constant, multiply, add, range_in_box, largest_exponent, part, horner, widen}
use Rattle.calculus.specs.Operations.{substitute}
use Rattle.calculus.specs.Tests.{vars_sound}
use Rattle.calculus_laws.specs.SoundLaws.{Canonical, Sound, sound_parts, constant_sound, multiply_sound, add_sound}
use Rattle.model_types.specs.declared.Model.{Model}
use Rattle.model_types.specs.declared.Refusal.{Refusal}
use Rattle.std.specs.Prelude.{Ok, Err}
use Rattle.model_types.specs.ModelStruct.{refused_at}
use Rattle.model_types.specs.declared.Answer.{Answer}
use Rattle.model_types.specs.ModelStruct.{view, pack, answer}
use Rattle.model_types.specs.ModelStructLaws.{sound_vars}
use Rattle.model_types.specs.ResultLaws.{Holds, held_view, held_sound, held_vars, Got, got, then_is}
use Rattle.model_types.specs.ResultLaws.{taken_sound, taken_vars, taken_then, sound_struct, refused_then}
use Rattle.model_limits.specs.Limits.{Packed}
use Rattle.model_addition.specs.Addition.{Operands}
use Rattle.model_powers.specs.Powers.{InVariable}
use Rattle.model_powers.specs.PowersLaws.{part_sound}
use Rattle.model_horner.specs.model_scaling.Scaling.{Scalable}
use Rattle.model_evaluation.specs.Evaluate.{Putting, put_iteration, Iterating}
use Rattle.model_evaluation.specs.ConstantLaws.{constant_in_box}

-- a constant of that size is sound
constant_is_sound : (n : ℕ) (X : ℤ) → nat_abs X ≤ span_limit → Sound n most_degree (constant n X)
constant_is_sound n X h = constant_sound n most_degree X h

-- ---- an iteration
module _ {X : ℤ} {h q : Model} (s : Iterating X h q) where
  vars : vars_sound h.n ≡ true
  unfolding view
  vars = sound_vars most_degree (view h) s.model

  pub iteration_scalable : Scalable X h
  iteration_scalable = record { model = s.model; small = s.small }

  constant_here : Sound h.n most_degree (constant h.n X)
  constant_here = constant_is_sound h.n X (omega (arith, s.small, U_within))

  abbrev product : R.Answer C.Model
  product = multiply most_degree (view h) (constant h.n X)

  product_sound : IfAccepted (Sound h.n most_degree) product
  product_sound = multiply_sound h.n most_degree (view h) (constant h.n X)
      (sound_struct h refl s.model).0 constant_here.0

  abbrev plus : C.Model → R.Answer C.Model
  plus p = add p (view q)

  module _ {r : Answer} (e : r ≡ answer (at_place 0 product)) where
    pub product_refused : {x : Refusal} {y : ℕ} → r.verdict ≡ Err (refused_at x y)
        → r ≡ answer (at_place 0 (put_iteration h.n X (view h) (view q)))
    unfolding put_iteration
    product_refused v = refused_then product plus v e

    module _ (t : r.verdict ≡ Ok tt) where
      pub product_operands : Operands r.model q
      product_operands = record {
        first = taken_sound vars (omega arith) product_sound e t;
        second = s.next;
        vars = taken_vars vars (omega arith) product_sound e t ∙ s.vars;
      }

      pub sum_answer : {a : Answer} → a ≡ answer (at_place 0 (add (view r.model) (view q)))
          → a ≡ answer (at_place 0 (put_iteration h.n X (view h) (view q)))
      unfolding put_iteration
      sum_answer z = taken_then vars (omega arith) product_sound e t plus z

-- ---- the coordinate X in the place of variable i of f
module _ (i : ℕ) (X : ℤ) (f : Model) where
  abbrev g : C.Model
  g = constant f.n X

  -- the answer
  abbrev whole : R.Answer C.Model
  whole = substitute most_degree i (view f) g

  -- from k - 1 down to 0
  abbrev down : ℕ → C.Model → R.Answer C.Model
  down = horner most_degree i (view f) g

  -- last, the radius of f
  abbrev wider : C.Model → R.Answer C.Model
  wider = widen (view f).radius

  -- h holds a model from which the powers below k lead to the answer
  pub record Left (k : ℕ) (h : Model) : Type 0 where
    pub model : C.Model
    pub holds : Holds f.n most_degree h model
    pub rest : down k model then wider ≡ whole

  down_iteration : (k : ℕ) (m : C.Model) → 0 < k
      → down k m ≡ put_iteration f.n X m (part i (k - 1) (view f)) then down (k - 1)
  unfolding horner put_iteration
  down_iteration zero m z = absurd (omega arith)
  down_iteration (suc k) m z = let e : suc k - 1 ≡ k = omega arith in rw e

module _ {i : ℕ} {X : ℤ} {f : Model} (s : Putting i X f) where
  pub in_variable : InVariable i f
  in_variable = record { model = s.model; first = s.first; last = s.last }

  put_vars : vars_sound f.n ≡ true
  unfolding view
  put_vars = sound_vars most_degree (view f) s.model

  outer : Sound f.n most_degree (view f)
  unfolding view
  outer = sound_parts most_degree (view f) s.model

  inner : Sound f.n most_degree (g i X f)
  inner = constant_is_sound f.n X (omega (arith, s.small, U_within))

  -- the first: f_K
  pub left_first : {k : ℕ} → k ≡ largest_exponent i (view f).terms → {h : Model} → h ≡ pack (part i k (view f))
      → Left i X f k h
  unfolding substitute require
  left_first {k = k} e p = record {
    model = part i k (view f);
    holds = record { packed = p; sound = part_sound i k f.n most_degree (view f) outer };
    rest = rw (e, constant_in_box f.n X s.small);
  }

  -- ---- multiply by X, add f_(k - 1)
  module _ {k : ℕ} {h : Model} (l : Left i X f k h) {q : Model} (t : q ≡ pack (part i (k - 1) (view f))) where
    part_holds : Holds f.n most_degree q (part i (k - 1) (view f))
    part_holds = record { packed = t; sound = part_sound i (k - 1) f.n most_degree (view f) outer }

    pub left_iteration : Iterating X h q
    left_iteration = record {
      model = held_sound put_vars (omega arith) l.holds;
      next = held_sound put_vars (omega arith) part_holds;
      vars = held_vars l.holds ∙ sym (held_vars part_holds);
      small = s.small;
    }

    module _ (z : 0 < k) {r : Answer} (e : r ≡ answer (at_place 0 (put_iteration h.n X (view h) (view q)))) where
      abbrev iterated : R.Answer C.Model
      iterated = put_iteration f.n X l.model (part i (k - 1) (view f))

      iterated_is : r ≡ answer (at_place 0 iterated)
      iterated_is = e ∙ ap (λ n. answer (at_place 0 (put_iteration n X (view h) (view q)))) (held_vars l.holds)
          ∙ ap₂ (λ m p. answer (at_place 0 (put_iteration f.n X m p)))
          (held_view put_vars (omega arith) l.holds) (held_view put_vars (omega arith) part_holds)

      rest : iterated then down i X f (k - 1) then wider i X f ≡ whole i X f
      rest = ap (λ a. a then wider i X f) (sym (down_iteration i X f k l.model z)) ∙ l.rest

      pub iteration_refused : {x : Refusal} {y : ℕ} → r.verdict ≡ Err (refused_at x y) → r
          ≡ answer (at_place 0 (whole i X f))
      iteration_refused v = refused_then (iterated then down i X f (k - 1)) (wider i X f) v
          (refused_then iterated (down i X f (k - 1)) v iterated_is)
          ∙ ap (λ a. answer (at_place 0 a)) rest

      iterated_sound : IfAccepted (Sound f.n most_degree) iterated
      unfolding put_iteration
      iterated_sound = then_accepted (multiply_sound f.n most_degree l.model (g i X f) l.holds.sound.0
          inner.0)
          (λ p s. add_sound f.n most_degree p (part i (k - 1) (view f)) s.0 part_holds.sound.0)

      pub iteration_accepted : r.verdict ≡ Ok tt → Left i X f (k - 1) r.model
      iteration_accepted v = record {
        model = m.model;
        holds = m.holds;
        rest = ap (λ a. a then wider i X f) (sym (then_is (down i X f (k - 1)) m.is)) ∙ rest;
      }
        where
          m : Got f.n most_degree iterated r.model
          m = got iterated_is v iterated_sound

  -- ---- the last: the radius of f
  module _ {k : ℕ} {h : Model} (l : Left i X f k h) where
    pub left_packed : Packed h
    unfolding pack
    left_packed = record {
      few = omega (arith, ap (λ h. h.count) l.holds.packed, l.holds.sound.1.count);
      packed = ap pack (held_view put_vars (omega arith) l.holds) ∙ sym l.holds.packed;
    }

    pub left_end : k ≤ 0 → {r : Answer} → r ≡ answer (at_place 0 (widen f.radius (view h)))
        → r ≡ answer (at_place 0 (whole i X f))
    unfolding horner view ◌then◌
    left_end z e =
        let none : k ≡ 0 = omega arith in
        e ∙ ap (λ m. answer (at_place 0 (widen f.radius m))) (held_view put_vars (omega arith) l.holds)
        ∙ ap (λ a. answer (at_place 0 a)) (ap (λ j. down i X f j l.model then wider i X f) (sym none) ∙ l.rest)
