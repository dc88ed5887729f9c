-- The constant of a coordinate lies in the box.
use Rattle.std.specs.Prelude.{◌≡◌, refl, Bool, true, false, ◌&&◌, ℕ, ◌+◌, ◌≤◌, T, ℤ, negsuc, ◌+ℤ◌, ◌-ℤ◌, nat_abs, ◌≤ℤ◌}
use Rattle.std.proofs.Math.Path.{sym, ap, subst}
use Rattle.std.proofs.Common.{◌∙◌, ap₂, arith}
use Rattle.std.proofs.Math.Bool.{not}
use mathlib.Core.List.{List, [], ◌∷◌}
use Rattle.std.proofs.Math.Dec.{eqb}
use Rattle.std.proofs.Math.IntN.{pos, neg_ℤ}
use Rattle.std.specs.Int.Signed.{le_z}
use Rattle.algebra.specs.Integer.{Is, is, is_nat, is_neg, is_add, natAbs_parts}
use Rattle.algebra.specs.IntegerRing.{of_le}
use Rattle.numbers.specs.Fixed.{U}
use Rattle.calculus.specs.Monomial.{degree, zeros}
use Rattle.calculus_laws.specs.MonomialLaws.{degree_zeros}
use Rattle.calculus.specs.Terms.{Terms, term, select, sum_over, is_nonzero, drop_zeros}
use Rattle.calculus_laws.specs.TermsLaws.{by_select, zero_coefficient}
use Rattle.calculus_laws.specs.SumLaws.{ℕ_addition, ℤ_addition, if_so}
use Rattle.calculus.specs.Model as C
use Rattle.calculus.specs.Operations.{Ends, constant, is_constant, constant_part, even_powers, can_fall, can_rise}
use Rattle.calculus.specs.Operations.{below}
use Rattle.calculus.specs.Operations.{above, range, range_in_box}
use Rattle.calculus_laws.specs.RangeLaws.{steady_sum, below_sum, above_sum}

module _ (n : ℕ) where
  -- a model of these terms
  abbrev with : Terms → C.Model
  with p = record { vars = n; radius = 0; terms = p }

  constant_key : is_constant (zeros n) ≡ true
  unfolding is_constant
  constant_key = ap (λ z. eqb z 0) (degree_zeros n)

  -- the range of one constant term, and of none
  record Ranged (X : ℤ) (p : Terms) : Type 0 where
    middle : constant_part (with p) ≡ X +ℤ pos 0
    under : below (with p) ≡ 0
    over : above (with p) ≡ 0

  one_term : (X : ℤ) → Ranged X (term X (zeros n) ∷ [])
  unfolding sum_over if_so can_fall can_rise
  one_term X = record {
    middle = steady_sum (with (term X (zeros n) ∷ []))
        ∙ ap (λ b. if_so ℤ_addition b X +ℤ pos 0) constant_key;
    under = below_sum (with (term X (zeros n) ∷ []))
        ∙ ap (λ b. if_so ℕ_addition (not b && not (even_powers (zeros n) && le_z (pos 0) X))
        (nat_abs X) + 0 + 0) constant_key;
    over = above_sum (with (term X (zeros n) ∷ []))
        ∙ ap (λ b. if_so ℕ_addition (not b && not (even_powers (zeros n) && le_z X (pos 0)))
        (nat_abs X) + 0 + 0) constant_key;
  }

  no_term : (X : ℤ) → X ≡ pos 0 → Ranged X []
  unfolding sum_over
  no_term X e = record {
    middle = steady_sum (with []) ∙ sym (ap (λ x. x +ℤ pos 0) e);
    under = below_sum (with []);
    over = above_sum (with []);
  }

  ranged : (X : ℤ) → Ranged X (constant n X).terms
  unfolding constant drop_zeros select
  ranged X = by_select (Ranged X) (λ k c. is_nonzero c) (term X (zeros n)) [] (λ y. one_term X)
      (λ z. no_term X (zero_coefficient X z))

  pub constant_in_box : (X : ℤ) → nat_abs X ≤ U → range_in_box (constant n X) ≡ true
  unfolding range_in_box range constant
  constant_in_box X h = both (le_z (neg_ℤ (pos U)) (constant_part (constant n X) -ℤ pos (below (constant n X))))
      (le_z (constant_part (constant n X) +ℤ pos (above (constant n X))) (pos U)) low.le high.le
    where
      r : Ranged X (constant n X).terms
      r = ranged X

      both : (a b : Bool) → T a → T b → a && b ≡ true
      both true true s t = refl
      both true false s t = absurd t
      both false b s t = absurd s

      low : neg_ℤ (pos U) ≤ℤ (constant_part (constant n X) -ℤ pos (below (constant n X)))
      low = unfold constant in subst (λ z. neg_ℤ (pos U) ≤ℤ z)
          (sym (ap₂ (λ (m : ℤ) (b : ℕ). m -ℤ pos b) r.middle r.under))
          (of_le (is_neg (is_nat U)) (is_add (is_add (is X) (is_nat 0)) (is_neg (is_nat 0)))
          (omega (arith, h, natAbs_parts X)))

      high : (constant_part (constant n X) +ℤ pos (above (constant n X))) ≤ℤ pos U
      high = unfold constant in subst (λ z. z ≤ℤ pos U)
          (sym (ap₂ (λ (m : ℤ) (b : ℕ). m +ℤ pos b) r.middle r.over))
          (of_le (is_add (is_add (is X) (is_nat 0)) (is_nat 0)) (is_nat U) (omega (arith, h, natAbs_parts X)))
