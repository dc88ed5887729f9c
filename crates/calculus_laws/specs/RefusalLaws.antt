-- What holds of an answer if it is accepted, and of a result if it is done.
use Rattle.std.specs.Prelude.{◌≡◌, refl, Bool, true, false, ◌&&◌, List, [], ◌∷◌, ℕ, suc, T}
use Rattle.std.proofs.Common.{◌∙◌, subst, arith}
use Rattle.calculus.specs.Refusal.{Refusal, Answer, accepted, refused, require, ◌then◌, Result, done, stopped}
use Rattle.calculus.specs.Refusal.{at_place, require_at, require_each, all_from, ◌followed_by◌}
use Rattle.calculus_laws.specs.TestLaws.{and_left, and_right, both}

-- ---- P of what is accepted
pub data IfAccepted {A : Type 0} (P : A → Type 0) : Answer A → Type 0 where
  holds : {a : A} → P a → IfAccepted P (accepted a)
  vacuous : {r : Refusal} → IfAccepted P (refused r)

-- a test that passes
pub require_passed : {A : Type 0} (b : Bool) (r : Refusal) (a : Answer A) → T b → require b r a ≡ a
unfolding require
require_passed true r a t = refl
require_passed false r a t = absurd t

pub require_accepted : {A : Type 0} {P : A → Type 0} (b : Bool) (r : Refusal) (a : Answer A)
    → (T b → IfAccepted P a) → IfAccepted P (require b r a)
unfolding require
require_accepted true r a h = h tt
require_accepted false r a h = vacuous

pub then_accepted : {A B : Type 0} {P : A → Type 0} {Q : B → Type 0} {a : Answer A} {f : A → Answer B}
    → IfAccepted P a → ((x : A) → P x → IfAccepted Q (f x)) → IfAccepted Q (a then f)
unfolding ◌then◌
then_accepted (holds {a = x} h) k = k x h
then_accepted vacuous k = vacuous

pub weaken : {A : Type 0} {P Q : A → Type 0} {a : Answer A} → ((x : A) → P x → Q x) → IfAccepted P a → IfAccepted Q a
weaken k (holds {a = x} h) = holds (k x h)
weaken k vacuous = vacuous

-- P, if anything is accepted
pub always : {A : Type 0} {P : Type 0} → P → (a : Answer A) → IfAccepted (λ x. P) a
always h (accepted a) = holds h
always h (refused r) = vacuous

-- ---- P of what is done
pub data IfDone {A : Type 0} (P : A → Type 0) : Result A → Type 0 where
  is_done : {a : A} → P a → IfDone P (done a)
  is_stopped : {r : Refusal} {i : ℕ} → IfDone P (stopped r i)

pub if_done : {A : Type 0} {P : A → Type 0} {r : Result A} {a : A} → IfDone P r → r ≡ done a → P a
if_done {P = P} {a = a} h e = get (subst (IfDone P) e h)
  where
    get : IfDone P (done a) → P a
    get (is_done p) = p

-- P, if anything is done
pub constantly : {A : Type 0} {P : Type 0} → P → (r : Result A) → IfDone (λ a. P) r
constantly h (done a) = is_done h
constantly h (stopped r i) = is_stopped

pub followed_done : {A B : Type 0} {P : A → Type 0} {Q : B → Type 0} {r : Result A} {f : A → Result B}
    → IfDone P r → ((x : A) → P x → IfDone Q (f x)) → IfDone Q (r followed_by f)
unfolding ◌followed_by◌
followed_done (is_done {a = x} h) k = k x h
followed_done is_stopped k = is_stopped

pub placed : {A : Type 0} {P : A → Type 0} (i : ℕ) {a : Answer A} → IfAccepted P a → IfDone P (at_place i a)
unfolding at_place
placed i (holds h) = is_done h
placed i vacuous = is_stopped

pub require_at_done : {A : Type 0} {P : A → Type 0} (i : ℕ) (b : Bool) (r : Refusal) (a : Result A)
    → (T b → IfDone P a) → IfDone P (require_at i b r a)
unfolding require_at
require_at_done i true r a h = h tt
require_at_done i false r a h = is_stopped

-- ---- tests before a result
-- what passes is not refused
pub require_at_passed : {A : Type 0} (i : ℕ) (b : Bool) (r : Refusal) (a : Result A) → T b → require_at i b r a ≡ a
unfolding require_at
require_at_passed i true r a h = refl
require_at_passed i false r a h = absurd h

pub require_each_passed : {A B : Type 0} (i : ℕ) (ok : ℕ → B → Bool) (l : List B) (r : Refusal) (a : Result A)
    → T (all_from i ok l) → require_each i ok l r a ≡ a
unfolding require_each all_from
require_each_passed i ok [] r a h = refl
require_each_passed i ok (x ∷ l) r a h =
    require_at_passed i (ok i x) r _ (and_left (ok i x) _ h)
    ∙ require_each_passed (suc i) ok l r a (and_right (ok i x) _ h)

-- what is done has passed
pub record Passed {A : Type 0} (t : Bool) (a : Result A) (v : A) : Type 0 where
  pub test : T t
  pub result : a ≡ done v

pub passed_at : {A : Type 0} (i : ℕ) (b : Bool) (r : Refusal) (a : Result A) (v : A)
    → require_at i b r a ≡ done v → Passed b a v
unfolding require_at
passed_at i true r a v h = record { test = tt; result = h }
passed_at i false r a v h = let z : ◌≡◌ {A = ℕ} 0 1 = cc in absurd (omega arith)

pub passed_each : {A B : Type 0} (i : ℕ) (ok : ℕ → B → Bool) (l : List B) (r : Refusal) (a : Result A) (v : A)
    → require_each i ok l r a ≡ done v → Passed (all_from i ok l) a v
unfolding require_each all_from
passed_each i ok [] r a v h = record { test = tt; result = h }
passed_each {A} i ok (x ∷ l) r a v h = go (passed_at i (ok i x) r _ v h) (passed_each (suc i) ok l r a v)
  where
    later : Result A
    later = require_each (suc i) ok l r a

    go : Passed (ok i x) later v → (later ≡ done v → Passed (all_from (suc i) ok l) a v)
        → Passed (ok i x && all_from (suc i) ok l) a v
    go p f = record { test = both (ok i x) _ p.test (f p.result).test; result = (f p.result).result }

-- what follows a test follows what comes after it
pub at_followed : {A B : Type 0} (i : ℕ) (b : Bool) (r : Refusal) (t : Result A) (f : A → Result B)
    → (require_at i b r t followed_by f) ≡ require_at i b r (t followed_by f)
unfolding require_at ◌followed_by◌
at_followed i true r t f = refl
at_followed i false r t f = refl
