-- One iteration of Horner's rule: each way out, and that what is accepted is sound.
use Rattle.std.specs.Prelude.{◌≡◌, true, ℕ}
use Rattle.std.proofs.Math.Path.{sym, ap, subst}
use Rattle.std.proofs.Common.{◌∙◌, arith}
use Rattle.calculus.specs.Model as C
use Rattle.calculus.specs.Refusal as R
use Rattle.calculus.specs.Refusal.{accepted, refused, ◌then◌, at_place}
use Rattle.calculus.specs.Shares as S
use Rattle.calculus.specs.Shares.{shares_of, product_shares}
use Rattle.calculus_laws.specs.RefusalLaws.{IfAccepted, then_accepted}
use Rattle.calculus.specs.Operations.{multiply, add}
use Rattle.calculus.specs.Tests.{vars_sound}
use Rattle.calculus_laws.specs.SoundLaws.{Canonical, Sound, sound_parts, multiply_sound, add_sound}
use Rattle.model_types.specs.declared.Model.{Model}
use Rattle.model_types.specs.declared.Refusal.{Refusal}
use Rattle.std.specs.Prelude.{Ok, Err}
use Rattle.model_types.specs.ModelStruct.{refused_at}
use Rattle.model_types.specs.declared.Answer.{Answer}
use Rattle.model_types.specs.declared.Shares.{Shares}
use Rattle.model_types.specs.declared.Accounted.{Accounted}
use Rattle.model_types.specs.ModelStruct.{view, answer}
use Rattle.model_types.specs.SharesStruct.{stored_shares, accounted, unless_refused}
use Rattle.model_types.specs.SharesStructLaws.{accounted_by, accounted_answer, accounted_shares}
use Rattle.model_types.specs.ModelStructLaws.{sound_vars}
use Rattle.model_addition.specs.Addition.{Operands}
use Rattle.model_horner_iteration.specs.HornerIteration.{horner_iteration, Iteration}
use Rattle.model_types.specs.ResultLaws.{sound_order, held_view, held_sound, held_vars, Got, got, then_is}

-- ---- answers with shares
-- where an answer is refused, what would follow it is refused with it, and all shares are zeros
pub refused_accounted : {r : Accounted} {x : Refusal} {y : ℕ} (a : R.Answer C.Model) (f s : C.Model → S.Shares)
    (k : C.Model → R.Answer C.Model) → r.answer.verdict ≡ Err (refused_at x y) → r ≡ accounted a f
    → r ≡ accounted (a then k) s
unfolding accounted answer at_place ◌then◌ shares_of
refused_accounted {r} (accepted m) f s k v e =
    let t : r.answer.verdict ≡ Ok tt = ap (λ (r : Accounted). r.answer.verdict) e in
    let z : ◌≡◌ {A = ℕ} 0 1 = cc in absurd (omega arith)
refused_accounted (refused q) f s k v e = e

-- where it is accepted, the shares are its own
pub accepted_shares : {r : Accounted} {m : C.Model} (a : R.Answer C.Model) (t : S.Shares)
    → r ≡ accounted a (λ m. t) → a ≡ accepted m → r.shares ≡ stored_shares t
unfolding shares_of
accepted_shares a t e h = accounted_shares a (λ m. t) e ∙ ap (λ a. stored_shares (shares_of a (λ m. t))) h

-- ---- an iteration
pub iteration_sound : (n d : ℕ) (h g q : C.Model) → Canonical n d h → Canonical n d g → Canonical n d q
    → IfAccepted (Sound n d) (horner_iteration d h g q)
unfolding horner_iteration
iteration_sound n d h g q ch cg cq = then_accepted (multiply_sound n d h g ch cg) (λ p s. add_sound n d p q s.0 cq)

module _ {d : ℕ} {h g q : Model} (s : Iteration d h g q) where
  vars : vars_sound h.n ≡ true
  unfolding view
  vars = sound_vars d (view h) s.factors.first

  first : Canonical h.n d (view h)
  unfolding view
  first = (sound_parts d (view h) s.factors.first).0

  second : Canonical h.n d (view g)
  unfolding view
  second = subst (λ n. Canonical n d (view g)) (sym s.factors.vars) (sound_parts d (view g) s.factors.second).0

  -- its shares
  abbrev shares : S.Shares
  shares = product_shares d (view h) (view g)

  -- ---- the product
  module _ {r : Accounted} (e : r ≡ accounted (multiply d (view h) (view g)) (λ m. shares)) where
    abbrev product : R.Answer C.Model
    product = multiply d (view h) (view g)

    abbrev plus : C.Model → R.Answer C.Model
    plus p = add p (view q)

    pub product_refused : {x : Refusal} {y : ℕ} → r.answer.verdict ≡ Err (refused_at x y)
        → r ≡ accounted (horner_iteration d (view h) (view g) (view q)) (λ m. shares)
    unfolding horner_iteration
    product_refused v = refused_accounted product (λ m. shares) (λ m. shares) plus v e

    -- ---- the sum
    module _ (v : r.answer.verdict ≡ Ok tt) where
      p : Got h.n d product r.answer.model
      p = got (accounted_answer product (λ m. shares) e) v (multiply_sound h.n d (view h) (view g) first second)

      pub product_operands : Operands r.answer.model q
      product_operands = record {
        first = sound_order d _ s.factors.order (held_sound vars s.factors.order p.holds);
        second = sound_order d (view q) s.factors.order s.next;
        vars = held_vars p.holds ∙ s.vars;
      }

      sum_answer : {a : Answer} → a ≡ answer (at_place 0 (add (view r.answer.model) (view q)))
          → a ≡ answer (at_place 0 (horner_iteration d (view h) (view g) (view q)))
      unfolding horner_iteration
      sum_answer t = t ∙ ap (λ a. answer (at_place 0 a))
          (ap plus (held_view vars s.factors.order p.holds) ∙ sym (then_is plus p.is))

      pub sum_accounted : {a : Answer} {z : Shares} → a ≡ answer (at_place 0 (add (view r.answer.model) (view q)))
          → z ≡ unless_refused a.verdict r.shares
          → record { answer = a; shares = z }
          ≡ accounted (horner_iteration d (view h) (view g) (view q)) (λ m. shares)
      sum_accounted {a} t z = accounted_by (horner_iteration d (view h) (view g) (view q)) shares (sum_answer t)
          (z ∙ ap (unless_refused a.verdict) (accepted_shares product shares e p.is))
