-- The claim of the cut range, proved.
use Rattle.std.specs.Prelude.{◌≡◌, ℕ, zero, suc, ◌≤◌, T, leb, pos, replicate, ◌≤ℤ◌}
use Rattle.std.proofs.Common.{sym, ◌∙◌, ap, arith, le→leb}
use Rattle.algebra.specs.Ordered.{abs}
use Rattle.algebra.proofs.Rational.{ℚ, ◌*ℚ◌, ◌≤ℚ◌, whole}
use Rattle.algebra.proofs.RationalRing.{ℚR}
use Rattle.algebra.proofs.RationalOrder.{ℚO}
use Rattle.algebra.proofs.RationalLaws.{≤-whole}
use Rattle.polynomial.specs.Box.{none, more}
use Rattle.numbers.specs.Fixed.{U}
use Rattle.calculus.specs.Model.{Model, sound, ◌-ℚ◌, InBox, value, Within}
use Rattle.calculus.specs.Refusal.{bad_limits, bad_model, bad_step, cut_too_deep, done}
use Rattle.calculus.specs.Operations.{Ends, range}
use Rattle.calculus.specs.Tests.{order_sound, variable_sound}
use Rattle.calculus.specs.Functions.{0ℚ, Lies}
use Rattle.calculus_laws.specs.RefusalLaws.{if_done, require_at_passed}
use Rattle.calculus_laws.specs.BookLaws.{variable_inside}
use Rattle.calculus_laws.specs.UnitLaws.{natural, natural_≤, natural_nonneg, U_times_≤, U_abs}
use Rattle.calculus_laws.specs.ValueLaws.{scaled_value, Near, U_value, near_at, abs_zero}
use Rattle.calculus_laws.specs.ChainLaws.{◌≤≤◌, ◌≡≤◌, ◌≤≡◌}
use Rattle.cuts.specs.Cuts.{most_depth, call_cut_range}
use Rattle.cuts.specs.CutClaim.{CutClaim, InAPiece}
use Rattle.cuts.proofs.PieceLaws.{Cut, find_cut, place_in, place_inside, place_value}
use Rattle.cuts.proofs.CutLaws.{cut_range_encloses, cut_range_inside}
use Rattle.cuts.proofs.UncutLaws.{cut_range_none}
-- no call is refused with 9
pub use Rattle.cuts.proofs.CutRefusalLaws.{never_leaves}
open ℚR use {+-neg, *-one}

-- a model's own polynomial is within it, and there is a point in the box
pub value_within : (m : Model) → Within (value m) m
unfolding Within Near
value_within m x b = near_at m x (value m x)
    (ap (λ v. abs ℚO (v -ℚ scaled_value m.terms x)) (U_value m x) ∙ ap (abs ℚO) (+-neg _)
    ≡≤ abs_zero
    ≤≤ natural_nonneg m.radius)

centre : (n : ℕ) → InBox n (replicate n 0ℚ)
centre zero = none
centre (suc n) = more (abs_zero ≤≤ natural_≤ 0 1 (omega arith)) (centre n)

-- where anything lies the low end is no higher than the high one
lies_between : {y : ℚ} {e : Ends} → Lies y e → e.low ≤ℤ e.high
lies_between h = ≤-whole _ _ (h.from ≤≤ h.to)

pub cut_claim : (d i k : ℕ) (f : Model) (e : Ends) → call_cut_range d i k f ≡ done e → CutClaim f e
cut_claim d i k f e h = record {
  stays_inside = λ F w x b. if_done (cut_range_encloses d i k f F w x b) h;
  low_inside = (if_done (cut_range_inside d i k f) h).low;
  high_inside = (if_done (cut_range_inside d i k f) h).high;
  not_empty = lies_between
      (if_done (cut_range_encloses d i k f (value f) (value_within f) (replicate f.vars 0ℚ) (centre f.vars)) h);
}

pub in_a_piece : (k : ℕ) → k ≤ most_depth → (y : ℚ) → abs ℚO y ≤ℚ whole (pos 1) → InAPiece k y
in_a_piece k h y l = record {
  j = cut.j;
  t = place_in k h (natural U *ℚ y) cut;
  is_piece = cut.inside;
  in_box = place_inside k h (natural U *ℚ y) cut;
  is_there = sym (place_value k h (natural U *ℚ y) cut);
}
  where
    cut : Cut k (natural U *ℚ y)
    cut = find_cut k h (natural U *ℚ y) (U_abs y ≡≤ U_times_≤ l ≤≡ *-one (natural U))

-- at depth 0 the answer is the range
pub uncut : (d i : ℕ) (f : Model) → T (order_sound d) → T (sound d f) → T (variable_sound f.vars i)
    → call_cut_range d i 0 f ≡ done (range f)
unfolding call_cut_range
uncut d i f a b c =
    require_at_passed 0 (order_sound d) bad_limits _ a
    ∙ require_at_passed 0 (sound d f) bad_model _ b
    ∙ require_at_passed 0 (variable_sound f.vars i) bad_step _ c
    ∙ require_at_passed 0 (leb 0 most_depth) cut_too_deep _ (le→leb 0 most_depth (omega arith))
    ∙ cut_range_none d i f b (variable_inside f.vars i c)
