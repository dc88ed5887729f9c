-- The evaluation at a point encloses every function within the model.
use Rattle.std.specs.Prelude.{◌≡◌, refl, ℕ, zero, suc, ◌<◌, ◌≤◌, T, leb, ℤ, nat_abs, length, take, drop}
use Rattle.std.proofs.Common.{sym, ◌∙◌, ap, arith, leb→le, length-take}
use Rattle.std.proofs.Math.Path.{subst}
use mathlib.Core.List.{List, [], ◌∷◌, map}
use Rattle.algebra.specs.Ordered.{abs}
use Rattle.algebra.proofs.Rational.{ℚ, ◌≤ℚ◌}
use Rattle.algebra.proofs.RationalRing.{ℚR}
use Rattle.algebra.proofs.RationalOrder.{ℚO}
use Rattle.polynomial.specs.Polynomial.{replace}
use Rattle.polynomial.specs.Box.{none, more}
use Rattle.polynomial.proofs.BoxLaws.{box_length}
use Rattle.numbers.specs.Fixed.{U}
use Rattle.calculus.specs.Monomial.{index_of}
use Rattle.calculus.specs.Model.{Model, most_degree, sound, ◌/U, Point, InBox, Within}
use Rattle.calculus.specs.Refusal.{bad_model, bad_step, leaves_box}
use Rattle.calculus.specs.Operations.{constant, put_constants, evaluate}
use Rattle.calculus.specs.Tests.{all_zero, all_in_unit}
use Rattle.calculus.specs.Calls.{call_evaluate}
use Rattle.calculus.specs.Functions.{Function, with_coordinate, Lies}
use Rattle.calculus_laws.specs.TestLaws.{and_left, and_right}
use Rattle.calculus_laws.specs.RefusalLaws.{IfAccepted, holds, then_accepted, IfDone, placed, require_at_done}
use Rattle.calculus_laws.specs.UnitLaws.{natural, natural_≤, abs_whole, U_times, U_cancel, U_abs}
use Rattle.calculus_laws.specs.ValueLaws.{Near, at_near}
use Rattle.calculus_laws.specs.EnclosureLaws.{constant_near}
use Rattle.calculus_laws.specs.RangeLaws.{range_encloses}
use Rattle.calculus_laws.specs.SubstituteLaws.{substitute_near}
use Rattle.calculus_laws.specs.ChainLaws.{◌≡≤◌, ◌≤≡◌}

-- the point X / U
unfoldable pub point_of : List ℤ → Point
point_of = map (λ X. X /U)

over_U_≤ : (X : ℤ) → nat_abs X ≤ U → abs ℚO (X /U) ≤ℚ natural 1
over_U_≤ X h = U_cancel _ (natural 1)
    (sym (U_abs (X /U)) ∙ ap (abs ℚO) (U_times X) ∙ abs_whole X
    ≡≤ natural_≤ (nat_abs X) U h
    ≤≡ sym (ℚR.*-one (natural U)))

point_in_box : (l : List ℤ) → T (all_in_unit l) → InBox (length l) (point_of l)
unfolding all_in_unit point_of
point_in_box [] h = none
point_in_box (X ∷ l) h = more (over_U_≤ X (leb→le (nat_abs X) U (and_left (leb (nat_abs X) U) _ h)))
    (point_in_box l (and_right (leb (nat_abs X) U) _ h))

-- ---- the coordinate that is there already
replace_same : (i : ℕ) (y : ℚ) (x r : Point) → drop i x ≡ y ∷ r → replace i y x ≡ x
unfolding replace
replace_same i y [] r e = refl
replace_same zero y (z ∷ x) r e = ap (λ h. h ∷ x) (let q : y ≡ z = cc in q)
replace_same (suc i) y (z ∷ x) r e = ap (λ l. z ∷ l) (replace_same i y x r e)

drop_next : (i : ℕ) (y : ℚ) (x r : Point) → drop i x ≡ y ∷ r → drop (suc i) x ≡ r
drop_next zero y [] r e = let z : ◌≡◌ {A = ℕ} 0 1 = cc in absurd (omega arith)
drop_next (suc i) y [] r e = let z : ◌≡◌ {A = ℕ} 0 1 = cc in absurd (omega arith)
drop_next zero y (z ∷ x) r e = let q : x ≡ r = cc in q
drop_next (suc i) y (z ∷ x) r e = drop_next i y x r e

drop_inside : (i : ℕ) (y : ℚ) (x r : Point) → drop i x ≡ y ∷ r → i < length x
drop_inside zero y [] r e = let z : ◌≡◌ {A = ℕ} 0 1 = cc in absurd (omega arith)
drop_inside (suc i) y [] r e = let z : ◌≡◌ {A = ℕ} 0 1 = cc in absurd (omega arith)
drop_inside zero y (z ∷ x) r e = omega arith
drop_inside (suc i) y (z ∷ x) r e = let h = drop_inside i y x r e in omega arith

-- ---- all at the one point x, whose coordinates from variable i + 1 on are those of l
module _ {n : ℕ} {x : Point} (b : InBox n x) (z : ℚ) where
  put_near : (i : ℕ) (l : List ℤ) (m : Model) → drop i x ≡ point_of l → Near m x z
      → IfAccepted (λ r. Near r x z) (put_constants (suc i) l m)
  unfolding put_constants point_of with_coordinate index_of
  put_near i [] m e h = holds h
  put_near i (X ∷ l) m e h = then_accepted
      (substitute_near (suc i) (X /U) x most_degree m (constant m.vars X) b (constant_near m.vars X x) z
      (subst (λ k. i < k) (box_length ℚO b) (drop_inside i _ x _ e))
      (λ hy. subst (λ q. Near m q z) (sym (replace_same i _ x _ e)) h))
      (λ r hr. put_near (suc i) l r (drop_next i _ x _ e) hr)

-- the function's value at X / U, times U, lies in the evaluation
pub evaluate_encloses : (m : Model) (f : Function) → Within f m → (Xs : List ℤ) → m.vars ≤ length Xs
    → IfDone (Lies (f (point_of (take m.vars Xs)))) (call_evaluate Xs m)
unfolding call_evaluate evaluate Within
evaluate_encloses m f h Xs l =
    require_at_done 0 (sound most_degree m) bad_model _ (λ s.
    require_at_done 0 (all_zero (drop m.vars Xs)) bad_step _ (λ t.
    require_at_done 0 (all_in_unit (take m.vars Xs)) leaves_box _ (λ u.
    placed 0 (then_accepted
    (put_near (inside u) (f x) 0 (take m.vars Xs) m refl (at_near m x (f x) (h x (inside u))))
    (λ r hr. holds (range_encloses r (f x) (inside u) hr))))))
  where
    x : Point
    x = point_of (take m.vars Xs)

    inside : T (all_in_unit (take m.vars Xs)) → InBox m.vars x
    inside u = subst (λ k. InBox k x) (length-take m.vars Xs ∙ omega arith) (point_in_box (take m.vars Xs) u)
