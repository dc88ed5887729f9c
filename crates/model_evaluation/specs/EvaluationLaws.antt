-- Evaluation: one iteration of the loop that puts in the coordinates, with each way out.
use Rattle.std.specs.Prelude.{◌≡◌, refl, true, T, leb, ℤ, pos, nat_abs, length, take, get_or}
use Rattle.std.proofs.Common.{sym, ◌∙◌, add-one, arith, leb→le, drop-cons, get_or-take}
use Rattle.std.proofs.Math.Path.{ap, ap₂, subst}
use mathlib.Core.List.{List, [], ◌∷◌}
use Prim.Native.Nat.{ℕ, zero, suc, ◌+◌, ◌-◌, ◌≤◌, ◌<◌}
use Rattle.std.proofs.Math.ListN.{drop, drop_of_length-le}
use Rattle.std.proofs.Math.Seq.{length-take-le}
use Rattle.numbers.specs.Fixed.{U}
use Rattle.numbers.proofs.FixedLaws.{U_within}
use Rattle.calculus_laws.specs.TestLaws.{and_left, and_right}
use Rattle.calculus.specs.Model as C
use Rattle.calculus.specs.Model.{most_degree, sound}
use Rattle.calculus.specs.Refusal as R
use Rattle.calculus.specs.Refusal.{accepted, done, ◌then◌, at_place}
use Rattle.calculus.specs.Operations.{Ends, constant, range, substitute, put_constants, evaluate}
use Rattle.calculus.specs.Tests.{vars_sound, all_in_unit}
use Rattle.calculus_laws.specs.SoundLaws.{Sound, sound_parts, constant_sound, substitute_sound}
use Rattle.model_types.specs.declared.Model.{Model}
use Rattle.model_types.specs.declared.Refusal.{Refusal}
use Rattle.std.specs.Prelude.{Ok, Err}
use Rattle.model_types.specs.ModelStruct.{refused_at}
use Rattle.model_types.specs.declared.Answer.{Answer}
use Rattle.model_types.specs.declared.Bounds.{Bounds}
use Rattle.model_types.specs.ModelStruct.{view, answer, bounds}
use Rattle.model_types.specs.ModelStructLaws.{sound_vars}
use Rattle.model_types.specs.ResultLaws.{held_view, held_sound, held_vars, Got, got, then_is}
use Rattle.model_types.specs.ResultLaws.{refused_then, refused_ends}
use Rattle.model_evaluation.specs.Evaluate.{Evaluation, Putting}

-- one of the coordinates
in_unit_at : (xs : List ℤ) (i : ℕ) → i < length xs → T (all_in_unit xs) → nat_abs (get_or xs i (pos 0)) ≤ U
unfolding all_in_unit
in_unit_at [] i h t = absurd (omega arith)
in_unit_at (x ∷ xs) zero h t = leb→le (nat_abs x) U (and_left (leb (nat_abs x) U) _ t)
in_unit_at (x ∷ xs) (suc i) h t = in_unit_at xs i (omega arith) (and_right (leb (nat_abs x) U) _ t)

-- ---- m at the point xs
module _ (m : Model) (xs : List ℤ) where
  -- the coordinates that count
  abbrev point : List ℤ
  point = take m.n xs

  -- the answer
  abbrev whole : R.Answer Ends
  whole = evaluate point (view m)

  -- from variable i on
  abbrev others : ℕ → C.Model → R.Answer C.Model
  others i = put_constants i (drop (i - 1) point)

  -- h holds what is left of m when the coordinates from variable i on are still to be put in
  pub record Remaining (i : ℕ) (h : Model) : Type 0 where
    pub first : 1 ≤ i
    pub model : T (sound most_degree (view h))
    pub vars : h.n ≡ m.n
    pub rest : others i (view h) ≡ others 1 (view m)

module _ {m : Model} {xs : List ℤ} (s : Evaluation m xs) (l : m.n ≤ length xs) where
  pub remaining_first : Remaining m xs 1 m
  remaining_first = record { first = omega arith; model = s.model; vars = refl; rest = refl }

  vars : vars_sound m.n ≡ true
  unfolding view
  vars = sound_vars most_degree (view m) s.model

  -- the ends are those of the range
  ends : {a : R.Answer C.Model} → a ≡ others m xs 1 (view m) → a then (λ r. accepted (range r)) ≡ whole m xs
  unfolding evaluate
  ends e = ap (λ a. a then (λ r. accepted (range r))) e

  module _ {i : ℕ} {h : Model} (r : Remaining m xs i h) where
    held : Sound m.n most_degree (view h)
    unfolding view
    held = subst (λ n. Sound n most_degree (view h)) r.vars (sound_parts most_degree (view h) r.model)

    -- ---- the coordinate of variable i
    module _ (z : i ≤ m.n) where
      abbrev X : ℤ
      X = get_or xs (i - 1) (pos 0)

      before : i - 1 < m.n
      before = omega (arith, r.first)

      in_point : i - 1 < length (point m xs)
      in_point = omega (arith, before, length-take-le m.n xs l)

      small : nat_abs X ≤ U
      small = omega (
        arith,
        ap nat_abs (get_or-take m.n xs (i - 1) (pos 0) before),
        in_unit_at (point m xs) (i - 1) in_point s.coordinates,
      )

      pub coordinate_putting : Putting i X h
      coordinate_putting = record {
        model = r.model;
        first = r.first;
        last = omega (arith, r.vars);
        small = small;
      }

      constant_within : Sound m.n most_degree (constant m.n X)
      constant_within = constant_sound m.n most_degree X (omega (arith, small, U_within))

      module _ {a : Answer} (e : a ≡ answer (at_place 0 (substitute most_degree i (view h) (constant h.n X)))) where
        abbrev put : R.Answer C.Model
        put = substitute most_degree i (view h) (constant m.n X)

        put_is : a ≡ answer (at_place 0 put)
        put_is = e ∙ ap (λ n. answer (at_place 0 (substitute most_degree i (view h) (constant n X)))) r.vars

        iteration : put then others m xs (i + 1) ≡ others m xs 1 (view m)
        unfolding put_constants view
        iteration =
            let q : i + 1 - 1 ≡ suc (i - 1) = omega (arith, r.first) in
            ap (λ n. substitute most_degree i (view h) (constant n X) then others m xs (i + 1)) (sym r.vars)
            ∙ ap₂
            (λ j k. substitute most_degree i (view h) (constant h.n X) then put_constants j (drop k (point m xs)))
            (add-one i) q
            ∙ ap (λ p. put_constants i p (view h)) (sym (drop-cons (point m xs) (i - 1) (pos 0) in_point
            ∙ ap (λ x. x ∷ drop (suc (i - 1)) (point m xs)) (get_or-take m.n xs (i - 1) (pos 0) before)))
            ∙ r.rest

        pub put_refused : {x : Refusal} {y : ℕ} → a.verdict ≡ Err (refused_at x y)
            → record { low = pos 0; high = pos 0; verdict = a.verdict } ≡ bounds (at_place 0 (whole m xs))
        put_refused v = refused_ends (put then others m xs (i + 1)) (λ r. accepted (range r)) v
            (refused_then put (others m xs (i + 1)) v put_is)
            ∙ ap (λ w. bounds (at_place 0 w)) (ends iteration)

        pub put_accepted : a.verdict ≡ Ok tt → Remaining m xs (i + 1) a.model
        put_accepted v = record {
          first = omega arith;
          model = held_sound vars (omega arith) g.holds;
          vars = held_vars g.holds;
          rest = ap (others m xs (i + 1)) (held_view vars (omega arith) g.holds)
              ∙ sym (then_is (others m xs (i + 1)) g.is) ∙ iteration;
        }
          where
            g : Got m.n most_degree put a.model
            g = got put_is v (substitute_sound m.n most_degree i (view h) _ held.0 constant_within.0)

    -- ---- the end
    pub remaining_end : m.n < i → {b : Bounds} → b ≡ bounds (done (range (view h)))
        → b ≡ bounds (at_place 0 (whole m xs))
    unfolding put_constants ◌then◌ at_place
    remaining_end z e =
        let q : drop (i - 1) (point m xs) ≡ [] =
        drop_of_length-le (point m xs) {i = i - 1} (omega (arith, length-take-le m.n xs l)) in
        e ∙ ap (λ w. bounds (at_place 0 w)) (ends (ap (λ p. put_constants i p (view h)) (sym q) ∙ r.rest))
