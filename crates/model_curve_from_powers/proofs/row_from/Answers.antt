-- `row_from` adds each term at its power, from the last one down.
use mathlib.Core.Path.{◌≡◌, sym, ◌∙◌, ap, ap₂}
use Prim.Native.Nat.{ℕ, ◌+◌, ◌-◌, ◌/◌, ◌^◌, ◌≤◌, ◌<◌}
use native.Mathlib.Omega.{arith}
use borrow.Author.Rules.{rules}
use lib.IntN.{ℤ, nat_abs, pos, ◌+ℤ◌}
use lib.ListN.{length, get_or}
use mir.Facts.{to_z-of_z}
use mir.Syntax.{w64}
use mir.Val.{to_z, of_z}
use Rattle.polynomial.specs.Polynomial.{exponent}
use Rattle.fixed.specs.MachineLaws.{answered}
use Rattle.calculus.specs.Key.{monomial_of}
use Rattle.calculus.specs.Model.{most_terms, most_degree}
use Rattle.model_types.specs.declared.Term.{Term}
use Rattle.model_types.specs.ModelStruct.{zero_term, listed}
use Rattle.model_types.specs.ModelStructLaws.{Limits, limits}
use Rattle.model_types.specs.PairedLaws.{length_paired, key_at, coefficient_at}
use Rattle.model_curve_from_powers.specs.RowLoopLaws.{Rowed, rowed_first, rowed_iteration, rowed_end, rowed_room}
use Rattle.model_curve_from_powers.proofs.row_from.Goals as goal
use Rattle.model_curve_from_powers.proofs.row_from.Goals.{After-c-1, After-sum-arg-1, Start}

module _ (c : Start) where
  keys_whole : length c.args.m.keys ≡ 64
  keys_whole = search rules

  coefficients_whole : length c.args.m.coefficients ≡ 64
  coefficients_whole = search rules

  even : length c.args.m.keys ≡ length c.args.m.coefficients
  even = keys_whole ∙ sym coefficients_whole

  whole : length (listed c.args.m) ≡ 64
  whole = length_paired _ _ even ∙ keys_whole

  known : Limits c.args.m
  known = limits _ _ c.requires

  few : c.args.m.count ≤ 64
  unfolding most_terms
  few = known.few

  long : c.args.m.count ≤ length (listed c.args.m)
  long = omega (arith, few, whole)

pub loop-i-init : goal.loop-i-init
loop-i-init c = rowed_first _ c.requires (long c)

pub offset_bounds-m-i : goal.offset_bounds-m-i
offset_bounds-m-i c = omega (arith, c.loop-i.invariant.within, few (goal.at.offset_bounds-m-i c).Start)

pub bounds-m-i : goal.bounds-m-i
bounds-m-i c = omega (arith, c.loop-i.invariant.within, few (goal.at.bounds-m-i c).Start, c.loop-i-test.true)

pub offset_bounds-m-i-in-loop-i : goal.offset_bounds-m-i-in-loop-i
offset_bounds-m-i-in-loop-i c =
    omega (arith, c.loop-i.invariant.within, few (goal.at.offset_bounds-m-i-in-loop-i c).Start)

pub bounds-m-i-in-loop-i : goal.bounds-m-i-in-loop-i
bounds-m-i-in-loop-i c =
    omega (arith, c.loop-i.invariant.within, few (goal.at.bounds-m-i-in-loop-i c).Start, c.loop-i-test.true)

-- the term at hand
module _ (c : After-c-1) where
  abbrev at : Term
  at = get_or (listed c.args.m) (c.loop-i.i - 1) zero_term

  more : 0 < c.loop-i.i
  more = c.loop-i-test.true

  key_is : at.key ≡ get_or c.args.m.keys (c.loop-i.i - 1) 0
  key_is = key_at _ _ (c.loop-i.i - 1) (even c.before.before.before.before.before)

  read_back : to_z w64 (of_z w64 (get_or c.args.m.coefficients (c.loop-i.i - 1) (pos 0))) ≡ at.coefficient
  read_back = to_z-of_z {w = w64} (record { sfits = c.c-1.given })
      ∙ sym (coefficient_at _ _ (c.loop-i.i - 1) (even c.before.before.before.before.before))

  -- the power of variable 1 in it
  power_is : (n : ℕ) → 1 ≤ n → exponent 0 (monomial_of n at.key) ≡ c.first_exponent-k.result
  power_is n h = ap (λ z. exponent 0 (monomial_of n z)) key_is ∙ c.first_exponent-k.ensures.exact n h

pub offset_bounds-out-k : goal.offset_bounds-out-k
offset_bounds-out-k c = omega (arith, c.first_exponent-k.ensures.below)

pub bounds-out-k : goal.bounds-out-k
bounds-out-k c = c.first_exponent-k.ensures.below

there_is : (c : After-sum-arg-1)
    → let z = get_or c.loop-i.out c.first_exponent-k.result (pos 0) in to_z w64 (of_z w64 z) ≡ z
there_is c = to_z-of_z {w = w64} (record { sfits = c.sum-arg-1.given })

pub sum-x-requires : goal.sum-x-requires
sum-x-requires c =
    rw (
      read_back (goal.at.sum-x-requires c).After-c-1,
      there_is c,
    ) (rowed_room _ c.requires (long (goal.at.sum-x-requires c).Start) _ _ c.loop-i.invariant
    (more (goal.at.sum-x-requires c).After-c-1) _)

pub offset_bounds-out-k-in-loop-i : goal.offset_bounds-out-k-in-loop-i
offset_bounds-out-k-in-loop-i c = omega (arith, c.first_exponent-k.ensures.below)

pub bounds-out-k-in-loop-i : goal.bounds-out-k-in-loop-i
bounds-out-k-in-loop-i c = c.first_exponent-k.ensures.below

pub loop-i-preserved : goal.loop-i-preserved
loop-i-preserved c =
    rowed_iteration _ c.requires (long (goal.at.loop-i-preserved c).Start) _ _ c.loop-i.invariant
    (more (goal.at.loop-i-preserved c).After-c-1) _ (power_is (goal.at.loop-i-preserved c).After-c-1)
    c.first_exponent-k.ensures.below _
    (answered c.sum-x.type_inv (c.sum-x.ensures ∙ ap₂ ◌+ℤ◌ (read_back (goal.at.loop-i-preserved c).After-c-1)
    (there_is (goal.at.loop-i-preserved c).After-sum-arg-1)))

pub returns : goal.returns
returns c =
    rowed_end _ c.requires (long (goal.at.returns c).Start) _ _ c.loop-i.invariant c.loop-i-test.false
