-- Structs that hold a sound model, and answers taken apart.
use Rattle.std.proofs.Math.Path.{◌≡◌, ap}
use Rattle.std.specs.Prelude.{refl, true, List, ℕ, ◌≤◌, T, eqb, length}
use Rattle.std.proofs.Common.{sym, ◌∙◌, subst, arith, le→leb}
use Rattle.std.proofs.Math.Dec.{leb→le}
use Rattle.std.proofs.Math.IntN.{pos}
use Rattle.calculus.specs.Monomial.{degree}
use Rattle.calculus_laws.specs.TestLaws.{and_left, and_right, both}
use Rattle.calculus_laws.specs.TermsLaws.{every_implies}
use Rattle.calculus.specs.Model as C
use Rattle.calculus.specs.Model.{most_degree, most_vars, between, fits, sound}
use Rattle.calculus.specs.Refusal as R
use Rattle.calculus.specs.Refusal.{accepted, refused, ◌then◌, at_place}
use Rattle.calculus_laws.specs.RefusalLaws.{IfAccepted, holds, vacuous}
use Rattle.calculus.specs.Operations.{Ends, zero_ends}
use Rattle.calculus.specs.Tests.{vars_sound}
use Rattle.calculus_laws.specs.SoundLaws.{Canonical, Sound, sound_parts, parts_sound}
use Rattle.model_types.specs.declared.Model.{Model}
use Rattle.model_types.specs.declared.Refusal.{Refusal}
use Rattle.std.specs.Prelude.{Ok, Err}
use Rattle.model_types.specs.ModelStruct.{refused_at}
use Rattle.model_types.specs.declared.Answer.{Answer}
use Rattle.model_types.specs.ModelStruct.{view, pack, answer, bounds}
use Rattle.model_types.specs.ModelStructLaws.{sound_vars, view_pack_sound}

-- ---- soundness
-- in n variables, of which there are 1 to 8
pub sound_in : (n d : ℕ) (m : C.Model) → vars_sound n ≡ true → Sound n d m → T (sound d m)
unfolding vars_sound
sound_in n d m v s = parts_sound d m (subst T (sym (ap (between 1 most_vars) s.0.vars ∙ v)) tt)
    (subst (λ i. Sound i d m) (sym s.0.vars) s)

-- for an order, and so for the highest
pub sound_order : (d : ℕ) (m : C.Model) → d ≤ most_degree → T (sound d m) → T (sound most_degree m)
sound_order d m o h = sound_in m.vars most_degree m (sound_vars d m h) (canonical, (sound_parts d m h).1)
  where
    more : (k : List ℕ) → T (fits m.vars d k) → T (fits m.vars most_degree k)
    more k t = unfold fits in both (eqb (length k) m.vars) _ (and_left (eqb (length k) m.vars) _ t)
        (le→leb (degree k) most_degree (omega (arith, leb→le (degree k) d (and_right (eqb (length k) m.vars) _ t))))

    canonical : Canonical m.vars most_degree m
    canonical = record {
      vars = refl;
      fitting = every_implies (λ k c. fits m.vars d k) (λ k c. fits m.vars most_degree k) (λ k c t. more k t)
          m.terms (sound_parts d m h).0.fitting;
      nonzero_terms = (sound_parts d m h).0.nonzero_terms;
      rising_terms = (sound_parts d m h).0.rising_terms;
    }

-- ---- a struct that holds a model in n variables, sound for order d
pub record Holds (n d : ℕ) (h : Model) (m : C.Model) : Type 0 where
  pub packed : h ≡ pack m
  pub sound : Sound n d m

pub held_vars : {n d : ℕ} {h : Model} {m : C.Model} → Holds n d h m → h.n ≡ n
unfolding pack
held_vars l = ap (λ h. h.n) l.packed ∙ l.sound.0.vars

module _ {n d : ℕ} {h : Model} {m : C.Model} (v : vars_sound n ≡ true) (o : d ≤ most_degree) (l : Holds n d h m) where
  pub held_view : view h ≡ m
  held_view = ap view l.packed ∙ view_pack_sound d m o (sound_in n d m v l.sound)

  pub held_sound : T (sound d (view h))
  held_sound = subst (λ m. T (sound d m)) (sym held_view) (sound_in n d m v l.sound)

-- ---- an answer that is accepted
pub record Got (n d : ℕ) (a : R.Answer C.Model) (h : Model) : Type 0 where
  pub model : C.Model
  pub is : a ≡ accepted model
  pub holds : Holds n d h model

pub got : {n d : ℕ} {a : R.Answer C.Model} {r : Answer} → r ≡ answer (at_place 0 a) → r.verdict ≡ Ok tt
    → IfAccepted (Sound n d) a → Got n d a r.model
unfolding answer at_place
got e v (holds {a = m} s) = record { model = m; is = refl; holds = record { packed = ap (λ r. r.model) e; sound = s } }
got e v vacuous = let z : ◌≡◌ {A = ℕ} 0 1 = cc in absurd (omega arith)

-- what follows it
pub then_is : {A B : Type 0} {a : R.Answer A} {x : A} (f : A → R.Answer B) → a ≡ accepted x → (a then f) ≡ f x
unfolding ◌then◌
then_is f e = ap (λ a. a then f) e

-- so the struct that is taken from it is sound, and what is made of that struct is the whole answer
module _ {n d : ℕ} (v : vars_sound n ≡ true) (o : d ≤ most_degree) {a : R.Answer C.Model}
    (s : IfAccepted (Sound n d) a) {r : Answer} (e : r ≡ answer (at_place 0 a)) (t : r.verdict ≡ Ok tt) where
  taken : Got n d a r.model
  taken = got e t s

  pub taken_sound : T (sound d (view r.model))
  taken_sound = held_sound v o taken.holds

  pub taken_vars : r.model.n ≡ n
  taken_vars = held_vars taken.holds

  pub taken_then : (f : C.Model → R.Answer C.Model) {x : Answer} → x ≡ answer (at_place 0 (f (view r.model)))
      → x ≡ answer (at_place 0 (a then f))
  taken_then f h = h ∙ ap (λ b. answer (at_place 0 b))
      (ap f (held_view v o taken.holds) ∙ sym (then_is f taken.is))

-- the parts of a struct's soundness, in as many variables
pub sound_struct : {n d : ℕ} (m : Model) → m.n ≡ n → T (sound d (view m)) → Sound n d (view m)
unfolding view
sound_struct {d = d} m e h = subst (λ n. Sound n d (view m)) e (sound_parts d (view m) h)

-- ---- an answer that is refused: what would follow it is refused with it
module _ {r : Answer} {x : Refusal} {y : ℕ} where
  pub refused_then : (a : R.Answer C.Model) (f : C.Model → R.Answer C.Model) → r.verdict ≡ Err (refused_at x y)
      → r ≡ answer (at_place 0 a) → r ≡ answer (at_place 0 (a then f))
  unfolding answer at_place ◌then◌
  refused_then (accepted m) f v e = let z : ◌≡◌ {A = ℕ} 0 1 = cc in absurd (omega arith)
  refused_then (refused q) f v e = e

  pub refused_ends : (a : R.Answer C.Model) (f : C.Model → R.Answer Ends) → r.verdict ≡ Err (refused_at x y)
      → r ≡ answer (at_place 0 a)
      → record { low = pos 0; high = pos 0; verdict = r.verdict } ≡ bounds (at_place 0 (a then f))
  unfolding answer bounds at_place ◌then◌ zero_ends
  refused_ends (accepted m) f v e = let z : ◌≡◌ {A = ℕ} 0 1 = cc in absurd (omega arith)
  refused_ends (refused q) f v e = ap (λ r. record { low = pos 0; high = pos 0; verdict = r.verdict }) e
