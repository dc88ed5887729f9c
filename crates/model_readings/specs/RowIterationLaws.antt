-- The iterations of the one loop are the phases of the call, one after the other.
use Rattle.std.specs.Prelude.{◌≡◌, Bool, List, [], ◌∷◌, map, leb, length, take, drop, get_or}
use Rattle.std.proofs.Math.Path.{refl, sym, ap, ap₂}
use Rattle.std.proofs.Common.{◌∙◌, subst, le-leb}
use Rattle.std.proofs.Math.Bool.{true, false}
use Rattle.std.proofs.Math.Option.{Option, none, some}
use Prim.Native.Nat.{ℕ, zero, suc, ◌+◌, ◌-◌, ◌*◌, ◌/◌, ◌%◌, ◌≤◌, ◌<◌, max}
use Rattle.std.proofs.Math.Decide.{dec_le}
use Rattle.std.proofs.Math.Nat as NatL
use native.Mathlib.Omega.{arith}
use Rattle.std.proofs.lemmas.Bool.{lt-leb}
use Rattle.std.proofs.lemmas.List.{length-map}
use Rattle.calculus.specs.Model as C
use Rattle.calculus.specs.Model.{most_degree, sound}
use Rattle.calculus.specs.Refusal as Rf
use Rattle.calculus.specs.Refusal.{bad_model, bad_step, leaves_box, bad_reading, Result, done, stopped, require_at}
use Rattle.calculus.specs.Refusal.{require_each, ◌followed_by◌}
use Rattle.calculus.specs.Operations.{Ends}
use Rattle.calculus.specs.Tests.{all_zero, all_in_unit}
use Rattle.calculus.specs.Calls.{call_evaluate}
use Rattle.readings.specs.Readings as R
use Rattle.readings.specs.Readings.{Found, in_order, contradicts, with_place, held, first_contradicting, call_readings}
use Rattle.readings.specs.Readings.{most_readings}
use Rattle.model_types.specs.declared.Model.{Model}
use Rattle.model_types.specs.declared.Reading.{Reading}
use Rattle.model_types.specs.ModelStruct.{view}
use Rattle.model_readings.specs.ReadingStruct.{view_reading, finding, contradiction}
use Rattle.model_readings.specs.RowIterations.{no_reading, check_order, check_unused, check_within, judged, check}
use Rattle.model_readings.specs.RowIterations.{no_contradiction, no_refusal, undecided, after, iteration_of}
use Rattle.model_readings.specs.RowIterations.{begun_of}
use Rattle.model_readings.specs.RowIterations.{iteration_count, pass}

-- ---- what is found first stays
onward : Found → Found → Found
onward (done none) q = q
onward (done (some i)) q = done (some i)
onward (stopped r i) q = stopped r i

onward_assoc : (a b c : Found) → onward (onward a b) c ≡ onward a (onward b c)
unfolding onward
onward_assoc (done none) b c = refl
onward_assoc (done (some i)) b c = refl
onward_assoc (stopped r i) b c = refl

onward_none : (a : Found) → onward a (done none) ≡ a
unfolding onward
onward_none (done none) = refl
onward_none (done (some i)) = refl
onward_none (stopped r i) = refl

after_finding : (p q : Found) → after (finding p) (finding q) ≡ finding (onward p q)
unfolding onward after undecided no_contradiction no_refusal finding contradiction
after_finding (done none) q = refl
after_finding (done (some i)) q = refl
after_finding (stopped r i) q = refl

-- ---- the iterations that are left
module _ (f : C.Model) (ys : List Reading) where
  -- what iteration k finds by itself
  found_at : ℕ → Found
  found_at k = check (k / max (length ys) 1) (k % max (length ys) 1) f
      (view_reading (get_or ys (k % length ys) no_reading))

  -- j iterations from iteration k on
  rest : (j k : ℕ) → Found
  rest zero k = done none
  rest (suc j) k = onward (found_at k) (rest j (suc k))

pass_rest : (m : Model) (ys : List Reading) (j k : ℕ) (p : Found)
    → pass m ys j k (finding p) ≡ finding (onward p (rest (view m) ys j k))
unfolding pass rest
pass_rest m ys zero k p = ap finding (sym (onward_none p))
pass_rest m ys (suc j) k p = unfolded
    ∙ pass_rest m ys j (suc k) (onward p (found_at (view m) ys k)) ∙ ap finding (onward_assoc p _ _)
  where
    unfolded : pass m ys j (suc k) (iteration_of m (finding p) k (length ys) (get_or ys (k % length ys) no_reading))
        ≡ pass m ys j (suc k) (finding (onward p (found_at (view m) ys k)))
    unfolded = unfold iteration_of found_at in ap (pass m ys j (suc k)) (after_finding p _)

-- ---- the iterations of one phase
-- what phase p finds of the readings from number i on
phase : (p i : ℕ) → C.Model → List R.Reading → Found
phase p i f [] = done none
phase p i f (r ∷ l) = onward (check p i f r) (phase p (suc i) f l)

drop_at : (ys : List Reading) (i : ℕ) → i < length ys → drop i ys ≡ get_or ys i no_reading ∷ drop (suc i) ys
drop_at [] i l = absurd (omega arith)
drop_at (y ∷ ys) zero l = refl
drop_at (y ∷ ys) (suc i) l = drop_at ys i (omega arith)

drop_all : (ys : List Reading) (i : ℕ) → length ys ≤ i → drop i ys ≡ []
drop_all [] zero l = refl
drop_all [] (suc i) l = refl
drop_all (y ∷ ys) zero l = absurd (omega arith)
drop_all (y ∷ ys) (suc i) l = drop_all ys i (omega arith)

module _ (f : C.Model) (ys : List Reading) (n : ℕ) (long : length ys ≡ n) (some_n : 0 < n) where
  iteration_phase : (p i : ℕ) → i < n → (p * n + i) / n ≡ p
  iteration_phase p i h = NatL.mul-add-div_right some_n p i ∙ ap (λ q. p + q) (NatL.div-eq_of_lt h) ∙
      (let z : p + 0 ≡ p = omega arith in z)

  iteration_place : (p i : ℕ) → i < n → (p * n + i) % n ≡ i
  iteration_place p i h = NatL.mul-add-mod_self_right p n i ∙ NatL.mod-eq_of_lt h

  found_is : (p i : ℕ) → i < n → found_at f ys (p * n + i) ≡ check p i f (view_reading (get_or ys i no_reading))
  unfolding found_at
  found_is p i h =
      let m : max (length ys) 1 ≡ n = omega arith in
      ap₂ (λ d e. check ((p * n + i) / d) ((p * n + i) % d) f
      (view_reading (get_or ys ((p * n + i) % e) no_reading))) m long
      ∙ ap₂ (λ a b. check a b f (view_reading (get_or ys b no_reading))) (iteration_phase p i h) (iteration_place p i h)

  rest_phase : (d i p j : ℕ) → i + d ≡ n
      → rest f ys (d + j) (p * n + i) ≡ onward (phase p i f (map view_reading (drop i ys))) (rest f ys j (suc p * n))
  unfolding phase rest onward
  rest_phase zero i p j h =
      let k : p * n + i ≡ suc p * n = omega arith in
      let z : zero + j ≡ j = omega arith in
      ap₂ (rest f ys) z k
      ∙ sym (ap (λ l. onward (phase p i f (map view_reading l)) (rest f ys j (suc p * n)))
      (drop_all ys i (omega arith)))
  rest_phase (suc d) i p j h =
      let s : suc d + j ≡ suc (d + j) = omega arith in
      let k : suc (p * n + i) ≡ p * n + suc i = omega arith in
      ap (λ a. rest f ys a (p * n + i)) s
      ∙ ap₂ onward (found_is p i (omega arith))
      (ap (rest f ys (d + j)) k ∙ rest_phase d (suc i) p j (omega arith))
      ∙ sym (onward_assoc (check p i f (view_reading (get_or ys i no_reading)))
      (phase p (suc i) f (map view_reading (drop (suc i) ys))) (rest f ys j (suc p * n)))
      ∙ sym (ap (λ l. onward (phase p i f (map view_reading l)) (rest f ys j (suc p * n))) (drop_at ys i (omega arith)))

  -- the four phases
  four_phases : rest f ys (n * 4) 0
      ≡ onward (phase 0 0 f (map view_reading ys)) (onward (phase 1 0 f (map view_reading ys))
      (onward (phase 2 0 f (map view_reading ys)) (phase 3 0 f (map view_reading ys))))
  unfolding rest
  four_phases =
      let a : n * 4 ≡ n + (n + (n + (n + 0))) = omega arith in
      let k0 : 0 ≡ 0 * n + 0 = omega arith in
      ap₂ (rest f ys) a k0
      ∙ rest_phase n 0 0 (n + (n + (n + 0))) (omega arith)
      ∙ ap (onward (phase 0 0 f (map view_reading ys))) (next 0 (n + (n + 0))
      ∙ ap (onward (phase 1 0 f (map view_reading ys))) (next 1 (n + 0)
      ∙ ap (onward (phase 2 0 f (map view_reading ys))) (next 2 0 ∙ onward_none _)))
    where
      next : (p j : ℕ) → rest f ys (n + j) (suc p * n)
          ≡ onward (phase (suc p) 0 f (map view_reading ys)) (rest f ys j (suc (suc p) * n))
      next p j = let k : suc p * n ≡ suc p * n + 0 = omega arith in
          ap (rest f ys (n + j)) k ∙ rest_phase n 0 (suc p) j (omega arith)

-- also of no readings
all_phases : (f : C.Model) (ys : List Reading) → rest f ys (length ys * 4) 0
    ≡ onward (phase 0 0 f (map view_reading ys)) (onward (phase 1 0 f (map view_reading ys))
    (onward (phase 2 0 f (map view_reading ys)) (phase 3 0 f (map view_reading ys))))
unfolding phase rest onward
all_phases f [] = refl
all_phases f (y ∷ ys) = four_phases f (y ∷ ys) (length (y ∷ ys)) refl (omega arith)

-- ---- the phases are those of the call
onward_require : (i : ℕ) (b : Bool) (c : Rf.Refusal) (q : Found)
    → onward (require_at i b c (done none)) q ≡ require_at i b c q
unfolding onward require_at
onward_require i true c q = refl
onward_require i false c q = refl

test_phase : (p : ℕ) (f : C.Model) (ok : R.Reading → Bool) (c : Rf.Refusal)
    → ((i : ℕ) (r : R.Reading) → check p i f r ≡ require_at i (ok r) c (done none))
    → (i : ℕ) (l : List R.Reading) (a : Found) → onward (phase p i f l) a ≡ require_each i (λ i r. ok r) l c a
unfolding phase onward require_each
test_phase p f ok c h i [] a = refl
test_phase p f ok c h i (r ∷ l) a = onward_assoc (check p i f r) (phase p (suc i) f l) a
    ∙ ap₂ onward (h i r) (test_phase p f ok c h (suc i) l a) ∙ onward_require i (ok r) c _

held_on : (i : ℕ) (r : R.Reading) (q : Found) (e : Ends) → onward (held i r (done none) e) q ≡ held i r q e
unfolding onward held
held_on i r q e = go (contradicts r e)
  where
    go : (b : Bool) → onward (elim b [ true ↦ done (some i) | false ↦ done none ]) q
        ≡ elim b [ true ↦ done (some i) | false ↦ q ]
    go true = refl
    go false = refl

judged_on : (i : ℕ) (r : R.Reading) (q : Found) (x : Result Ends)
    → onward (judged i r x) q ≡ (with_place i x followed_by held i r q)
unfolding onward judged with_place ◌followed_by◌
judged_on i r q (done e) = held_on i r q e
judged_on i r q (stopped c j) = refl

evaluations : (f : C.Model) (i : ℕ) (l : List R.Reading) → phase 3 i f l ≡ first_contradicting i f l
unfolding phase check first_contradicting
evaluations f i [] = refl
evaluations f i (r ∷ l) = judged_on i r _ (call_evaluate r.point f)
    ∙ ap (λ q. with_place i (call_evaluate r.point f) followed_by held i r q) (evaluations f (suc i) l)

order_checked : (f : C.Model) (i : ℕ) (r : R.Reading) → check 0 i f r ≡ require_at i (in_order r) bad_reading
    (done none)
unfolding check check_order
order_checked f i r = refl

unused_checked : (f : C.Model) (i : ℕ) (r : R.Reading)
    → check 1 i f r ≡ require_at i (all_zero (drop f.vars r.point)) bad_step (done none)
unfolding check check_unused
unused_checked f i r = refl

within_checked : (f : C.Model) (i : ℕ) (r : R.Reading)
    → check 2 i f r ≡ require_at i (all_in_unit (take f.vars r.point)) leaves_box (done none)
unfolding check check_within
within_checked f i r = refl

-- ---- THE PASS IS THE CALL
module _ (m : Model) (ys : List Reading) where
  abbrev f : C.Model
  f = view m

  abbrev rows : List R.Reading
  rows = map view_reading ys

  tests : onward (phase 0 0 f rows) (onward (phase 1 0 f rows) (onward (phase 2 0 f rows) (phase 3 0 f rows)))
      ≡ require_each 0 (λ i r. in_order r) rows bad_reading
      (require_each 0 (λ i r. all_zero (drop f.vars r.point)) rows bad_step
      (require_each 0 (λ i r. all_in_unit (take f.vars r.point)) rows leaves_box (first_contradicting 0 f rows)))
  tests = test_phase 0 f in_order bad_reading (order_checked f) 0 rows _
      ∙ ap (require_each 0 (λ i r. in_order r) rows bad_reading)
      (test_phase 1 f (λ r. all_zero (drop f.vars r.point)) bad_step (unused_checked f) 0 rows _
      ∙ ap (require_each 0 (λ i r. all_zero (drop f.vars r.point)) rows bad_step)
      (test_phase 2 f (λ r. all_in_unit (take f.vars r.point)) leaves_box (within_checked f) 0 rows _
      ∙ ap (require_each 0 (λ i r. all_in_unit (take f.vars r.point)) rows leaves_box) (evaluations f 0 rows)))

  begun_with : (b t : Bool) (q : Found)
      → onward (require_at 0 b bad_reading (require_at 0 t bad_model (done none))) q
      ≡ require_at 0 b bad_reading (require_at 0 t bad_model q)
  unfolding onward require_at
  begun_with true true q = refl
  begun_with true false q = refl
  begun_with false t q = refl

  -- whatever follows a row that is too long
  long_row : (b : Bool) (q a : Result (Option ℕ)) → b ≡ false → require_at 0 b bad_reading q
      ≡ require_at 0 b bad_reading a
  unfolding require_at
  long_row b q a e = rw e

  -- before the first iteration, and the call's own tests after it
  abbrev before : Found
  before = require_at 0 (leb (length ys) 256) bad_reading (require_at 0 (sound most_degree f) bad_model (done none))

  abbrev tests_after : Found
  tests_after =
      require_at 0 (sound most_degree f) bad_model
      (require_each 0 (λ i r. in_order r) rows bad_reading
      (require_each 0 (λ i r. all_zero (drop f.vars r.point)) rows bad_step
      (require_each 0 (λ i r. all_in_unit (take f.vars r.point)) rows leaves_box
      (first_contradicting 0 f rows))))

  iterations_after : Dec (length ys ≤ 256) → onward before (rest f ys (length ys % 257 * 4) 0)
      ≡ require_at 0 (leb (length ys) 256) bad_reading tests_after
  iterations_after (yes h) = begun_with (leb (length ys) 256) (sound most_degree f) (rest f ys (length ys % 257 * 4) 0)
      ∙ ap (λ q. require_at 0 (leb (length ys) 256) bad_reading (require_at 0 (sound most_degree f) bad_model q))
      (ap (λ n. rest f ys (n * 4) 0) (NatL.mod-eq_of_lt (few h)) ∙ all_phases f ys ∙ tests)
    where
      few : length ys ≤ 256 → length ys < 257
      few h = omega arith
  iterations_after (no h) = begun_with (leb (length ys) 256) (sound most_degree f) (rest f ys (length ys % 257 * 4) 0)
      ∙ long_row (leb (length ys) 256)
      (require_at 0 (sound most_degree f) bad_model (rest f ys (length ys % 257 * 4) 0)) tests_after
      (lt-leb (length ys) 256 (omega arith))

  pub pass_call : pass m ys (iteration_count (length ys)) 0 (begun_of m (length ys)) ≡ finding (call_readings f rows)
  unfolding begun_of iteration_count call_readings most_readings
  pass_call = pass_rest m ys (length ys % 257 * 4) 0 before
      ∙ ap finding (iterations_after (dec_le (length ys) 256)
      ∙ ap (λ n. require_at 0 (leb n 256) bad_reading tests_after) (sym (length-map ys view_reading)))
