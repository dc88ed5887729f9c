-- The two forms of a proposal, one product or difference after the other: what each asks, and each way out.
use Rattle.std.specs.Prelude.{◌≡◌, true, ℕ, ◌≤◌}
use Rattle.std.proofs.Math.Path.{refl, ap, subst}
use Rattle.std.proofs.Common.{sym, ◌∙◌, arith, lit<}
use Rattle.std.proofs.Math.Dec.{T}
use Rattle.numbers.proofs.FixedLaws.{U_within}
use Rattle.calculus.specs.Monomial.{zeros}
use Rattle.calculus.specs.Key.{key_width, key}
use Rattle.calculus_laws.specs.MonomialKeyLaws.{word_key, key_monomial, monomial_zero}
use Rattle.calculus.specs.Model as C
use Rattle.calculus.specs.Model.{one_model, most_degree, sound}
use Rattle.calculus.specs.Refusal as R
use Rattle.calculus.specs.Refusal.{at_place}
use Rattle.calculus_laws.specs.RefusalLaws.{IfAccepted, then_accepted}
use Rattle.calculus.specs.Operations.{subtract, multiply, bare, defect, deviation}
use Rattle.calculus.specs.Tests.{vars_sound}
use Rattle.calculus_laws.specs.SoundLaws.{Sound, sound_parts, multiply_sound, subtract_sound, bare_sound}
use Rattle.calculus_laws.specs.SoundLaws.{constant_sound, one_constant}
use Rattle.model_types.specs.declared.Model.{Model}
use Rattle.model_types.specs.declared.Refusal.{Refusal}
use Rattle.std.specs.Prelude.{Ok, Err}
use Rattle.model_types.specs.ModelStruct.{refused_at}
use Rattle.model_types.specs.declared.Answer.{Answer}
use Rattle.model_types.specs.ModelStruct.{view, pack, answer}
use Rattle.model_types.specs.ModelStructLaws.{sound_vars}
use Rattle.model_types.specs.ResultLaws.{sound_in, sound_order, sound_struct, Holds, held_view, held_sound, held_vars}
use Rattle.model_types.specs.ResultLaws.{taken_sound, taken_vars, taken_then, refused_then}
use Rattle.model_slice_results.specs.model_addition.Addition.{Operands}
use Rattle.product_answer.specs.ProductFactors.{Factors}
use Rattle.model_proposal.specs.Proposal.{gap, Gap, Proposal}

-- ---- a struct that holds a model without its radius
module _ (m b : Model) (e : view b ≡ bare (view m)) where
  pub bare_vars : b.n ≡ m.n
  unfolding view bare
  bare_vars = ap (λ c. c.vars) e

  pub bare_struct : (d : ℕ) → T (sound d (view m)) → T (sound d (view b))
  unfolding bare
  bare_struct d h = subst (λ c. T (sound d c)) (sym e)
      (sound_in (view m).vars d (bare (view m)) (sound_vars d (view m) h)
      (bare_sound (view m).vars d (view m) (sound_parts d (view m) h)))

-- the variables of a sound struct
pub struct_vars : (d : ℕ) (m : Model) → T (sound d (view m)) → vars_sound m.n ≡ true
unfolding view
struct_vars d m h = sound_vars d (view m) h

-- the constant monomial has key 0
pub zeros_key : (n : ℕ) → n ≤ key_width → key key_width (zeros n) ≡ 0
zeros_key n l = ap (key key_width) (sym (monomial_zero n l)) ∙ key_monomial n 0 l (word_key 0 (lit< tt))

-- ---- g × h - f
module _ {d : ℕ} {f g h : Model} (s : Gap d f g h) where
  product_sound : IfAccepted (Sound f.n d) (multiply d (view g) (bare (view h)))
  product_sound = multiply_sound f.n d (view g) (bare (view h))
      (sound_struct g s.divisor_vars s.divisor).0
      (bare_sound f.n d (view h) (sound_struct h s.proposed_vars s.proposed)).0

  gap_sound : IfAccepted (Sound f.n d) (gap d (view f) (view g) (view h))
  unfolding gap
  gap_sound = then_accepted product_sound
      (λ p c. subtract_sound f.n d p (view f) c.0 (sound_struct f refl s.dividend).0)

  module _ (b : Model) (e : view b ≡ bare (view h)) where
    pub gap_factors : Factors d g b
    gap_factors = record {
      order = s.order;
      first = s.divisor;
      second = bare_struct h b e d s.proposed;
      vars = s.divisor_vars ∙ sym (bare_vars h b e ∙ s.proposed_vars);
    }

    module _ {r : Answer} (t : r ≡ answer (at_place 0 (multiply d (view g) (view b)))) where
      abbrev less : C.Model → R.Answer C.Model
      less p = subtract p (view f)

      product_is : r ≡ answer (at_place 0 (multiply d (view g) (bare (view h))))
      product_is = t ∙ ap (λ c. answer (at_place 0 (multiply d (view g) c))) e

      pub gap_refused : {x : Refusal} {y : ℕ} → r.verdict ≡ Err (refused_at x y)
          → r ≡ answer (at_place 0 (gap d (view f) (view g) (view h)))
      unfolding gap
      gap_refused v = refused_then (multiply d (view g) (bare (view h))) less v product_is

      module _ (v : r.verdict ≡ Ok tt) where
        pub gap_operands : Operands r.model f
        gap_operands = record {
          first = sound_order d _ s.order
              (taken_sound (struct_vars d f s.dividend) s.order product_sound product_is v);
          second = sound_order d _ s.order s.dividend;
          vars = taken_vars (struct_vars d f s.dividend) s.order product_sound product_is v;
        }

        pub gap_answer : {a : Answer} → a ≡ answer (at_place 0 (subtract (view r.model) (view f)))
            → a ≡ answer (at_place 0 (gap d (view f) (view g) (view h)))
        unfolding gap
        gap_answer a = taken_then (struct_vars d f s.dividend) s.order product_sound product_is v less a

-- ---- w × (g × h - f)
module _ {d : ℕ} {f g h w : Model} (s : Proposal d f g h w) where
  pub gap_asked : Gap d f g h
  gap_asked = record {
    order = s.order;
    dividend = s.dividend;
    divisor = s.divisor;
    proposed = s.proposed;
    divisor_vars = s.divisor_vars;
    proposed_vars = s.proposed_vars;
  }

  pub defect_sound : IfAccepted (Sound f.n d) (defect d (view f) (view g) (view h) (view w))
  unfolding gap defect
  defect_sound = then_accepted (gap_sound gap_asked)
      (λ p c. multiply_sound f.n d (bare (view w)) p
      (bare_sound f.n d (view w) (sound_struct w s.inverse_vars s.inverse)).0 c.0)

  module _ {r : Answer} (t : r ≡ answer (at_place 0 (gap d (view f) (view g) (view h)))) where
    abbrev times : C.Model → R.Answer C.Model
    times = multiply d (bare (view w))

    pub defect_refused : {x : Refusal} {y : ℕ} → r.verdict ≡ Err (refused_at x y)
        → r ≡ answer (at_place 0 (defect d (view f) (view g) (view h) (view w)))
    unfolding gap defect
    defect_refused v = refused_then (gap d (view f) (view g) (view h)) times v t

    module _ (v : r.verdict ≡ Ok tt) (b : Model) (e : view b ≡ bare (view w)) where
      pub defect_factors : Factors d b r.model
      defect_factors = record {
        order = s.order;
        first = bare_struct w b e d s.inverse;
        second = taken_sound (struct_vars d f s.dividend) s.order (gap_sound gap_asked) t v;
        vars = bare_vars w b e ∙ s.inverse_vars
            ∙ sym (taken_vars (struct_vars d f s.dividend) s.order (gap_sound gap_asked) t v);
      }

      pub defect_answer : {a : Answer} → a ≡ answer (at_place 0 (multiply d (view b) (view r.model)))
          → a ≡ answer (at_place 0 (defect d (view f) (view g) (view h) (view w)))
      unfolding gap defect
      defect_answer a = taken_then (struct_vars d f s.dividend) s.order (gap_sound gap_asked) t v times
          (a ∙ ap (λ c. answer (at_place 0 (multiply d c (view r.model)))) e)

-- ---- 1 - w × g
module _ {d : ℕ} {g w : Model} (s : Factors d w g) where
  factor_sound : IfAccepted (Sound g.n d) (multiply d (bare (view w)) (view g))
  factor_sound = multiply_sound g.n d (bare (view w)) (view g)
      (bare_sound g.n d (view w) (sound_struct w s.vars s.first)).0
      (sound_struct g refl s.second).0

  one_sound : Sound g.n d (one_model g.n)
  one_sound = subst (Sound g.n d) (sym (one_constant g.n))
      (constant_sound g.n d _ (omega (arith, U_within)))

  pub deviation_sound : IfAccepted (Sound g.n d) (deviation d (view g) (view w))
  unfolding deviation view
  deviation_sound = then_accepted factor_sound
      (λ p c. subtract_sound g.n d (one_model g.n) p one_sound.0 c.0)

  module _ (b : Model) (e : view b ≡ bare (view w)) where
    pub deviation_factors : Factors d b g
    deviation_factors = record {
      order = s.order;
      first = bare_struct w b e d s.first;
      second = s.second;
      vars = bare_vars w b e ∙ s.vars;
    }

    module _ {r : Answer} (t : r ≡ answer (at_place 0 (multiply d (view b) (view g)))) where
      abbrev from_one : C.Model → R.Answer C.Model
      from_one = subtract (one_model (view g).vars)

      factor_is : r ≡ answer (at_place 0 (multiply d (bare (view w)) (view g)))
      factor_is = t ∙ ap (λ c. answer (at_place 0 (multiply d c (view g)))) e

      pub deviation_refused : {x : Refusal} {y : ℕ} → r.verdict ≡ Err (refused_at x y)
          → r ≡ answer (at_place 0 (deviation d (view g) (view w)))
      unfolding deviation
      deviation_refused v = refused_then (multiply d (bare (view w)) (view g)) from_one v factor_is

      module _ (v : r.verdict ≡ Ok tt) {u : Model} (k : u ≡ pack (one_model g.n)) where
        one_holds : Holds g.n d u (one_model g.n)
        one_holds = record { packed = k; sound = one_sound }

        pub deviation_operands : Operands u r.model
        deviation_operands = record {
          first = sound_order d _ s.order (held_sound (struct_vars d g s.second) s.order one_holds);
          second = sound_order d _ s.order
              (taken_sound (struct_vars d g s.second) s.order factor_sound factor_is v);
          vars = held_vars one_holds
              ∙ sym (taken_vars (struct_vars d g s.second) s.order factor_sound factor_is v);
        }

        pub deviation_answer : {a : Answer} → a ≡ answer (at_place 0 (subtract (view u) (view r.model)))
            → a ≡ answer (at_place 0 (deviation d (view g) (view w)))
        unfolding deviation view
        deviation_answer a = taken_then (struct_vars d g s.second) s.order factor_sound factor_is v from_one
            (a ∙ ap (λ c. answer (at_place 0 (subtract c (view r.model))))
            (held_view (struct_vars d g s.second) s.order one_holds))
