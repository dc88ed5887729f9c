-- Laws of the pass, as the walk over the row asks them.
use Rattle.std.specs.Prelude.{◌≡◌, refl, Bool, ◌&&◌, List, [], ◌∷◌, length, get_or}
use Rattle.std.proofs.Math.Path.{sym, ap}
use Rattle.std.proofs.Common.{◌∙◌, ap₂, arith}
use Rattle.std.proofs.Math.Bool.{true, false}
use Prim.Native.Nat.{ℕ, zero, suc, ◌+◌, ◌-◌, ◌*◌, ◌/◌, ◌%◌, ◌≤◌, ◌<◌, ◌^◌, min, max}
use Rattle.std.proofs.Math.Nat as NatL
use Rattle.model_types.specs.declared.Model.{Model}
use Rattle.model_types.specs.declared.Reading.{Reading}
use Rattle.model_types.specs.declared.Finding.{Finding}
use Rattle.model_types.specs.declared.Refused.{Refused}
use Rattle.std.specs.Prelude.{None, Some, Ok, Err}
use Rattle.model_types.specs.ModelStruct.{view}
use Rattle.model_readings.specs.ReadingStruct.{view_reading, finding}
use Rattle.model_readings.specs.RowIterations.{no_reading, check, no_contradiction, no_refusal, undecided, after}
use Rattle.model_readings.specs.RowIterations.{iteration_of, next_iteration, iteration_count, pass}

-- ---- whether something is found
module _ (s : Finding) where
  pub at_reading : {i : ℕ} → s.contradiction ≡ Some i → false ≡ undecided s
  unfolding undecided no_contradiction
  at_reading e = sym (ap (λ c. no_contradiction c && no_refusal s.verdict) e)

  pub at_refusal : {r : Refused} → s.contradiction ≡ None → s.verdict ≡ Err r → false ≡ undecided s
  unfolding undecided no_contradiction no_refusal
  at_refusal e f = sym (ap₂ (λ c v. no_contradiction c && no_refusal v) e f)

  pub not_yet : s.contradiction ≡ None → s.verdict ≡ Ok tt → true ≡ undecided s
  unfolding undecided no_contradiction no_refusal
  not_yet e f = sym (ap₂ (λ c v. no_contradiction c && no_refusal v) e f)

-- ---- one iteration
-- what was found stays, otherwise what is found next
module _ (m : Model) (s : Finding) (k n : ℕ) (r : Reading) where
  pub found_stays : undecided s ≡ false → iteration_of m s k n r ≡ s
  unfolding iteration_of after
  found_stays d = ap (λ b. elim b as (λ b. Finding) [
    | true ↦ finding (check (k / max n 1) (k % max n 1) (view m) (view_reading r))
    | false ↦ s
  ]) d

  pub found_next : undecided s ≡ true
      → finding (check (k / max n 1) (k % max n 1) (view m) (view_reading r)) ≡ iteration_of m s k n r
  unfolding iteration_of after
  found_next d = sym (ap (λ b. elim b as (λ b. Finding) [
    | true ↦ finding (check (k / max n 1) (k % max n 1) (view m) (view_reading r))
    | false ↦ s
  ]) d)

-- the iteration after it
module _ (s : Finding) (k end : ℕ) where
  pub next_none : undecided s ≡ false → end ≡ next_iteration s k end
  unfolding next_iteration
  next_none d = sym (ap (λ b. elim b as (λ b. ℕ) [ true ↦ min (suc k) end | false ↦ end ]) d)

  next : undecided s ≡ true → min (suc k) end ≡ next_iteration s k end
  unfolding next_iteration
  next d = sym (ap (λ b. elim b as (λ b. ℕ) [ true ↦ min (suc k) end | false ↦ end ]) d)

  pub next_one : undecided s ≡ true → k < end → k + 1 ≡ next_iteration s k end
  next_one d l = let q : k + 1 ≡ min (suc k) end = omega arith in q ∙ next d

  pub next_last : undecided s ≡ true → end ≤ k → end ≡ next_iteration s k end
  next_last d l = let q : end ≡ min (suc k) end = omega arith in q ∙ next d

-- ---- the pass
-- one iteration leaves what the whole pass will give
one_more : (m : Model) (ys : List Reading) (end k : ℕ) (s s' all : Finding) → k < end
    → s' ≡ iteration_of m s k (length ys) (get_or ys (k % length ys) no_reading)
    → pass m ys (end - k) k s ≡ all → pass m ys (end - suc k) (suc k) s' ≡ all
unfolding pass
one_more m ys end k s s' all l e h =
    let a : end - k ≡ suc (end - suc k) = omega arith in
    ap (pass m ys (end - suc k) (suc k)) e ∙ sym (ap (λ j. pass m ys j k s) a) ∙ h

-- what is found stays in all iterations that follow
stays : (m : Model) (ys : List Reading) (j k : ℕ) (s : Finding) → undecided s ≡ false → pass m ys j k s ≡ s
unfolding pass
stays m ys zero k s d = refl
stays m ys (suc j) k s d = ap (pass m ys j (suc k)) (found_stays m s k _ _ d) ∙ stays m ys j (suc k) s d

-- so those can be left out
pub kept : (m : Model) (ys : List Reading) (end k : ℕ) (s s' all : Finding) (k' : ℕ) → k < end
    → s' ≡ iteration_of m s k (length ys) (get_or ys (k % length ys) no_reading) → k' ≡ next_iteration s' k end
    → pass m ys (end - k) k s ≡ all → pass m ys (end - k') k' s' ≡ all
unfolding next_iteration
kept m ys end k s s' all k' l e f h = go (undecided s') refl f
  where
    after_it : pass m ys (end - suc k) (suc k) s' ≡ all
    after_it = one_more m ys end k s s' all l e h

    go : (b : Bool) → undecided s' ≡ b → k' ≡ elim b as (λ b. ℕ) [ true ↦ min (suc k) end | false ↦ end ]
        → pass m ys (end - k') k' s' ≡ all
    go true d f = let q : k' ≡ suc k = omega arith in ap (λ i. pass m ys (end - i) i s') q ∙ after_it
    go false d f = stays m ys (end - k') k' s' d ∙ sym (stays m ys (end - suc k) (suc k) s' d) ∙ after_it

pub next_later : (s : Finding) (k end k' : ℕ) → k < end → k' ≡ next_iteration s k end → k < k'
unfolding next_iteration
next_later s k end k' l f = go (undecided s) f
  where
    go : (b : Bool) → k' ≡ elim b as (λ b. ℕ) [ true ↦ min (suc k) end | false ↦ end ] → k < k'
    go true f = omega arith
    go false f = omega arith

pub next_within : (s : Finding) (k end k' : ℕ) → k' ≡ next_iteration s k end → k' ≤ end
unfolding next_iteration
next_within s k end k' f = go (undecided s) f
  where
    go : (b : Bool) → k' ≡ elim b as (λ b. ℕ) [ true ↦ min (suc k) end | false ↦ end ] → k' ≤ end
    go true f = omega arith
    go false f = omega arith

-- fewer are left
pub nearer : (s : Finding) (k end k' : ℕ) → k < end → k' ≡ next_iteration s k end → end - k' < end - k
nearer s k end k' l f = let a = next_later s k end k' l f in omega arith

-- at the end the state is the answer
pub ended : (m : Model) (ys : List Reading) (end k : ℕ) (s all : Finding) → end ≤ k → pass m ys (end - k) k s ≡ all → s
    ≡ all
unfolding pass
ended m ys end k s all l h = let a : end - k ≡ 0 = omega arith in sym (ap (λ j. pass m ys j k s) a) ∙ h

-- there are iterations only where there are readings
pub some_readings : (n k : ℕ) → k < n % 257 * 4 → 0 < n
some_readings zero k h = absurd (omega arith)
some_readings (suc n) k h = omega arith

pub within_row : (n k : ℕ) → k < n % 257 * 4 → k % n < n
within_row n k h = NatL.mod-lt k (some_readings n k h)

pub count_is : (n : ℕ) → iteration_count n ≡ n % 257 * 4
unfolding iteration_count
count_is n = refl

pub few_fits : (n : ℕ) → n % 257 < 2 ^ 64
few_fits n = omega arith

pub end_fits : (n : ℕ) → n % 257 * 4 < 2 ^ 64
end_fits n = omega arith

-- before the first iteration
pub begins : (m : Model) (ys : List Reading) (end : ℕ) (s s' : Finding) → s ≡ s'
    → pass m ys (end - 0) 0 s ≡ pass m ys end 0 s'
begins m ys end s s' e =
    let a : end - 0 ≡ end = omega arith in ap (λ j. pass m ys j 0 s) a ∙ ap (pass m ys end 0) e
