-- A reading contradicts a model exactly when its band and the evaluation have no number in common, and then no function
-- within the model passes through it. Of a reading that does not contradict nothing follows: evaluation encloses what
-- the functions reach, and may be wider.
use Rattle.std.specs.Prelude.{◌≡◌, Bool, true, false, not, ◌||◌, List, [], ◌∷◌, ℕ, suc, ◌+◌, ◌≤◌, ◌<◌, T, ℤ, pos, negsuc, length, take, get_or, ◌≤ℤ◌}
use Rattle.std.proofs.Math.Path.{refl, ap}
use Rattle.std.proofs.Common.{sym, ◌∙◌, subst, arith, le→leb, ltb→lt}
use Rattle.std.proofs.Math.Option.{none, some}
use Rattle.std.specs.Int.Signed.{lt_z, le_z_yes, lt_z_yes, lt_z_no, ≤ℤ_refl, <ℤ-≤ℤ_trans, clash_ℤ}
use Rattle.algebra.proofs.Rational.{ℚ, ◌*ℚ◌, ◌≤ℚ◌, whole}
use Rattle.algebra.proofs.RationalLaws.{≤-whole}
use Rattle.algebra.proofs.RationalOrder.{≤ℚ_trans}
use Rattle.numbers.specs.Fixed.{U}
use Rattle.calculus.specs.Model.{Model, Within}
use Rattle.calculus.specs.Refusal.{Refusal, bad_model, bad_step, leaves_box, bad_reading, Result, done, stopped}
use Rattle.calculus.specs.Refusal.{require_each, ◌followed_by◌}
use Rattle.calculus.specs.Operations.{Ends}
use Rattle.calculus.specs.Functions.{Function, Lies}
use Rattle.calculus.specs.Calls.{call_evaluate}
use Rattle.calculus_laws.specs.RefusalLaws.{if_done, passed_at}
use Rattle.calculus_laws.specs.EvaluateLaws.{point_of, evaluate_encloses}
use Rattle.readings.specs.Readings.{Reading, in_order, contradicts, with_place, Found, held, first_contradicting}
use Rattle.readings.specs.Readings.{call_readings}

-- ---- no number in common
-- a number in the band of a reading and between the ends of an evaluation
pub record InCommon (r : Reading) (e : Ends) : Type 0 where
  pub number : ℤ
  pub from_low : r.low ≤ℤ number
  pub to_high : number ≤ℤ r.high
  pub from : e.low ≤ℤ number
  pub to : number ≤ℤ e.high

lt_le : (a b : ℤ) → T (lt_z a b) → a ≤ℤ b
lt_le (pos a) (pos b) h = le_z_yes (le→leb a b (let l = ltb→lt a b h in omega arith))
lt_le (pos a) (negsuc b) h = absurd h
lt_le (negsuc a) (pos b) h = le_z_yes tt
lt_le (negsuc a) (negsuc b) h = le_z_yes (le→leb b a (let l = ltb→lt b a h in omega arith))

-- z ≤ a and b ≤ z, and a is below b
between_not : (a b z : ℤ) → T (lt_z a b) → z ≤ℤ a → b ≤ℤ z → ⊥
between_not a b z h k l = clash_ℤ (<ℤ-≤ℤ_trans (lt_z_yes {a = a} {b = b} h) l) k

pub nothing_common : (r : Reading) (e : Ends) → T (contradicts r e) → InCommon r e → ⊥
unfolding contradicts
nothing_common r e c i = go (lt_z r.high e.low) (lt_z e.high r.low)
    (λ h. between_not r.high e.low i.number h i.to_high i.from)
    (λ h. between_not e.high r.low i.number h i.to i.from_low) c
  where
    go : (a b : Bool) → (T a → ⊥) → (T b → ⊥) → T (a || b) → ⊥
    go true b h k t = h tt
    go false true h k t = k tt
    go false false h k t = t

-- where neither is empty the converse holds too
pub some_common : (r : Reading) (e : Ends) → T (in_order r) → e.low ≤ℤ e.high → T (not (contradicts r e))
    → InCommon r e
unfolding contradicts in_order
some_common r e o b c = go (lt_z r.high e.low) (lt_z e.high r.low) (lt_z e.low r.low)
    (λ h. lt_z_no h) (λ h. lt_z_no h) (λ h. lt_le e.low r.low h) (λ h. lt_z_no h) c
  where
    go : (a b' t : Bool) → (T (not a) → e.low ≤ℤ r.high) → (T (not b') → r.low ≤ℤ e.high)
        → (T t → e.low ≤ℤ r.low) → (T (not t) → r.low ≤ℤ e.low) → T (not (a || b')) → InCommon r e
    go true b' t h k p q n = absurd n
    go false true t h k p q n = absurd n
    go false false true h k p q n = record {
      number = r.low;
      from_low = ≤ℤ_refl r.low;
      to_high = le_z_yes o;
      from = p tt;
      to = k tt;
    }
    go false false false h k p q n = record {
      number = e.low;
      from_low = q tt;
      to_high = h tt;
      from = ≤ℤ_refl e.low;
      to = b;
    }

-- ---- one reading
-- y times U lies in the reading's band
pub record PassesThrough (y : ℚ) (r : Reading) : Type 0 where
  pub from : whole r.low ≤ℚ whole (pos U) *ℚ y
  pub to : whole (pos U) *ℚ y ≤ℚ whole r.high

-- what lies in the evaluation is not in the band of a reading that contradicts
above_not : (a b : ℤ) → T (lt_z a b) → b ≤ℤ a → ⊥
above_not a b h k = clash_ℤ (lt_z_yes h) k

apart : (r : Reading) (e : Ends) (y : ℚ) → T (contradicts r e) → Lies y e → PassesThrough y r → ⊥
unfolding contradicts
apart r e y c l p = go (lt_z r.high e.low) (lt_z e.high r.low) (λ h. above_not r.high e.low h under)
    (λ h. above_not e.high r.low h over) c
  where
    under : e.low ≤ℤ r.high
    under = ≤-whole e.low r.high (≤ℚ_trans l.from p.to)

    over : r.low ≤ℤ e.high
    over = ≤-whole r.low e.high (≤ℚ_trans p.from l.to)

    go : (a b : Bool) → (T a → ⊥) → (T b → ⊥) → T (a || b) → ⊥
    go true b h k t = h tt
    go false true h k t = k tt
    go false false h k t = t

-- one reading that does
one_apart : (m : Model) (r : Reading) (e : Ends) → call_evaluate r.point m ≡ done e → T (contradicts r e)
    → (f : Function) → Within f m → m.vars ≤ length r.point
    → PassesThrough (f (point_of (take m.vars r.point))) r → ⊥
one_apart m r e h c f w l p = apart r e _ c (if_done (evaluate_encloses m f w r.point l) h) p

-- ---- the row
-- whether a reading is found, and its number
abbrev found_any : Found → ℕ
found_any (done none) = 0
found_any (done (some i)) = 1
found_any (stopped r i) = 0

abbrev found_number : Found → ℕ
found_number (done none) = 0
found_number (done (some i)) = i
found_number (stopped r i) = 0

-- reading k is there, and no function within the model passes through it
pub record Contradicted (m : Model) (rows : List Reading) (k : ℕ) : Type 0 where
  pub inside : k < length rows
  pub no_function : (d : Reading) (f : Function) → Within f m → m.vars ≤ length (get_or rows k d).point
      → PassesThrough (f (point_of (take m.vars (get_or rows k d).point))) (get_or rows k d) → ⊥

-- number k is that of such a reading, where the row is counted from j on
record Counted (m : Model) (rows : List Reading) (j k : ℕ) : Type 0 where
  place : ℕ
  number : k ≡ j + place
  holds : Contradicted m rows place

next : {m : Model} {r : Reading} {rows : List Reading} {j k : ℕ} → Counted m rows (suc j) k → Counted m (r ∷ rows) j k
next {j = j} {k = k} c = record {
  place = suc c.place;
  number = let n : k ≡ suc j + c.place = c.number in omega arith;
  holds = record { inside = omega (arith, c.holds.inside); no_function = c.holds.no_function };
}

-- the first reading of a row, by its evaluation
module _ (m : Model) (r : Reading) (rows : List Reading) (j k : ℕ) (rest : Found)
    (later : rest ≡ done (some k) → Counted m rows (suc j) k) where
  by_test : (e : Ends) (b : Bool) → call_evaluate r.point m ≡ done e → contradicts r e ≡ b
      → elim b as (λ b. Found) [ true ↦ done (some j) | false ↦ rest ] ≡ done (some k) → Counted m (r ∷ rows) j k
  by_test e true q t h = record {
    place = 0;
    number = sym (ap found_number h) ∙ (let z : (j : ℕ) → j ≡ j + 0 = λ j. omega arith in z j);
    holds = record { inside = omega arith; no_function = λ d. one_apart m r e q (subst T (sym t) tt) };
  }
  by_test e false q t h = next (later h)

  by_ends : (x : Result Ends) → call_evaluate r.point m ≡ x
      → (with_place j x followed_by held j r rest) ≡ done (some k) → Counted m (r ∷ rows) j k
  unfolding with_place ◌followed_by◌ held
  by_ends (done e) q h = by_test e (contradicts r e) q refl h
  by_ends (stopped c l) q h = absurd (omega (arith, ap found_any h))

shown : (m : Model) (rows : List Reading) (j k : ℕ) → first_contradicting j m rows ≡ done (some k)
    → Counted m rows j k
unfolding first_contradicting
shown m [] j k h = absurd (omega (arith, ap found_any h))
shown m (r ∷ rows) j k h = by_ends m r rows j k (first_contradicting (suc j) m rows)
    (λ e. shown m rows (suc j) k e) (call_evaluate r.point m) refl h

-- ---- THE CLAIM: what the call answers
each_passed : {A : Type 0} (i : ℕ) (ok : ℕ → Reading → Bool) (l : List Reading) (c : Refusal) (a : Result A) (v : A)
    → require_each i ok l c a ≡ done v → a ≡ done v
unfolding require_each
each_passed i ok [] c a v h = h
each_passed i ok (x ∷ l) c a v h = each_passed (suc i) ok l c a v (passed_at i (ok i x) c _ v h).result

pub contradicted : (m : Model) (rows : List Reading) (k : ℕ) → call_readings m rows ≡ done (some k)
    → Contradicted m rows k
unfolding call_readings
contradicted m rows k h = go (shown m rows 0 k
    (each_passed 0 _ rows leaves_box _ _
    (each_passed 0 _ rows bad_step _ _
    (each_passed 0 _ rows bad_reading _ _
    (passed_at 0 _ bad_model _ _ (passed_at 0 _ bad_reading _ _ h).result).result))))
  where
    go : Counted m rows 0 k → Contradicted m rows k
    go c = subst (Contradicted m rows) (let e : c.place ≡ k = omega (arith, c.number) in e) c.holds
