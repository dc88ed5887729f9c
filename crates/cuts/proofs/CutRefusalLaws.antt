-- The call is never refused with 9.
use Rattle.std.specs.Prelude.{◌≡◌, refl, Bool, true, false, T, leb}
use Rattle.std.proofs.Common.{subst, arith, leb→le}
use Prim.Native.Nat.{ℕ, zero, suc, ◌+◌, ◌-◌, ◌^◌, ◌≤◌}
use Rattle.std.proofs.Math.Nat as NatL
use Rattle.calculus.specs.Model.{Model, sound}
use Rattle.calculus.specs.Refusal.{Refusal, bad_limits, bad_model, bad_step, cut_too_deep, too_many_terms, over_span}
use Rattle.calculus.specs.Refusal.{leaves_box, Answer, Result, done, stopped, at_place, require_at, ◌followed_by◌}
use Rattle.calculus.specs.Operations.{Ends}
use Rattle.calculus.specs.Tests.{order_sound, variable_sound}
use Rattle.cuts.specs.Cuts.{hull, most_depth, hull_from, pieces_hull, cut_range}
use Rattle.cuts.specs.Cuts.{call_cut_range}
use Rattle.cuts.proofs.CutLaws.{NotLeaving, fine, too_many, too_large, piece_not_leaving}

-- done, or refused for something else
data NotNine {A : Type 0} : Result A → Type 0 where
  is_fine : {a : A} → NotNine (done a)
  is_other : {r : Refusal} {i : ℕ} → (r ≡ leaves_box → ⊥) → NotNine (stopped r i)

placed_not : {A : Type 0} {a : Answer A} (i : ℕ) → NotLeaving a → NotNine (at_place i a)
unfolding at_place
placed_not i fine = is_fine
placed_not i too_many = is_other (λ (e : too_many_terms ≡ leaves_box). let z : ◌≡◌ {A = ℕ} 0 1 = cc in omega arith)
placed_not i too_large = is_other (λ (e : over_span ≡ leaves_box). let z : ◌≡◌ {A = ℕ} 0 1 = cc in omega arith)

followed_not : {A B : Type 0} {r : Result A} {f : A → Result B} → NotNine r → ((x : A) → NotNine (f x))
    → NotNine (r followed_by f)
unfolding ◌followed_by◌
followed_not (is_fine {a = x}) h = h x
followed_not (is_other n) h = is_other n

require_not : {A : Type 0} (i : ℕ) (b : Bool) (r : Refusal) (a : Result A) → (r ≡ leaves_box → ⊥) → (T b → NotNine a)
    → NotNine (require_at i b r a)
unfolding require_at
require_not i true r a n h = h tt
require_not i false r a n h = is_other n

module _ (d v k : ℕ) (f : Model) (hk : k ≤ most_depth) where
  hull_not : (j c : ℕ) (h : Ends) → j + c ≤ 2 ^ k → NotNine (hull_from d v k f j c h)
  unfolding hull_from
  hull_not j zero h l = is_fine
  hull_not j (suc c) h l = followed_not (placed_not j (piece_not_leaving d v k f j hk (omega arith)))
      (λ e. hull_not (suc j) c (hull h e) (omega arith))

  cut_not : NotNine (cut_range d v k f)
  unfolding cut_range pieces_hull
  cut_not = followed_not (followed_not (placed_not 0 (piece_not_leaving d v k f 0 hk one))
      (λ e. hull_not 1 (2 ^ k - 1) e (omega (arith, one)))) (λ h. is_fine)
    where
      one : 1 ≤ 2 ^ k
      one = NatL.one-le-pow k 2 (omega arith)

call_not : (d v k : ℕ) (f : Model) → NotNine (call_cut_range d v k f)
unfolding call_cut_range
call_not d v k f = require_not 0 (order_sound d) bad_limits _ (λ e. let z : ◌≡◌ {A = ℕ} 0 1 = cc in omega arith) (λ s.
    require_not 0 (sound d f) bad_model _ (λ e. let z : ◌≡◌ {A = ℕ} 0 1 = cc in omega arith) (λ t.
    require_not 0 (variable_sound f.vars v) bad_step _ (λ e. let z : ◌≡◌ {A = ℕ} 0 1 = cc in omega arith) (λ u.
    require_not 0 (leb k most_depth) cut_too_deep _ (λ e. let z : ◌≡◌ {A = ℕ} 0 1 = cc in omega arith) (λ w.
    cut_not d v k f (leb→le k most_depth w)))))

pub never_leaves : (d v k : ℕ) (f : Model) (i : ℕ) → call_cut_range d v k f ≡ stopped leaves_box i → ⊥
never_leaves d v k f i e = go (subst NotNine e (call_not d v k f))
  where
    go : NotNine {A = Ends} (stopped leaves_box i) → ⊥
    go (is_other n) = n refl
