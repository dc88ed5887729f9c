-- `rounded_degrees` rounds each coefficient once, and gathers what is left of them.
use mathlib.Core.Path.{◌≡◌, sym, ◌∙◌, ap, ap₂}
use Prim.Native.Nat.{◌+◌, ◌*◌, ◌-◌, ◌^◌, ◌≤◌, ◌<◌}
use native.Mathlib.Omega.{arith}
use borrow.Author.Rules.{rules}
use lib.IntN.{ℤ, nat_abs, pos, ◌-ℤ◌, ◌*ℤ◌}
use lib.ListN.{length, get_or, set}
use mir.Facts.{to_z-of_z}
use mir.Syntax.{w64}
use mir.Val.{to_z, of_z}
use Rattle.numbers.specs.Division.{nearest}
use Rattle.fixed.specs.MachineLaws.{answered}
use Rattle.chebyshev.specs.Coefficients.{Row, size}
use Rattle.chebyshev.specs.CurveOperations.{swept, rounded}
use Rattle.model_types.specs.CurveStruct.{pack_curve}
use Rattle.model_curve_multiplication.specs.CollectLaws.{entry_le}
use Rattle.model_curve_multiplication.specs.RoundLaws.{Rounding, rounding_first, rounding_iteration, rounding_end}
use Rattle.model_curve_multiplication.specs.RoundLaws.{rounding_length}
use Rattle.model_curve_multiplication.specs.RoundLaws.{rounding_small, swept_le}
use Rattle.model_curve_multiplication.proofs.rounded_degrees.Goals as goal
use Rattle.model_curve_multiplication.proofs.rounded_degrees.Goals.{After-c-1, After-left_of-total, After-nearest_divided-q, Start}

whole : (c : Start) → length c.args.z.places ≡ 31
whole c = search rules

pub swept_of-requires : goal.swept_of-requires
swept_of-requires c = omega (arith, c.requires.places_bound)

pub overflow_add-total : goal.overflow_add-total
overflow_add-total c =
    omega (arith, c.requires.places_bound, c.swept_of.ensures, swept_le c.args.z.places)

pub loop-i-init : goal.loop-i-init
loop-i-init c =
    rounding_first _ (whole (goal.at.loop-i-init c).Start) _ _ c.requires.d_nonzero _ c.swept_of.ensures

pub offset_bounds-z-i : goal.offset_bounds-z-i
offset_bounds-z-i c = omega (arith, c.loop-i-test.true)

pub bounds-z-i : goal.bounds-z-i
bounds-z-i c = omega (arith, c.loop-i-test.true)

-- the coefficient at hand
module _ (c : After-c-1) where
  abbrev at : ℤ
  at = get_or c.args.z.places c.loop-i.i (pos 0)

  inside : c.loop-i.i < 16
  inside = c.loop-i-test.true

  at_is : to_z w64 (of_z w64 at) ≡ at
  at_is = to_z-of_z {w = w64} (record { sfits = c.c-1.given })

  at_small : nat_abs at ≤ 2 ^ 61
  at_small = omega (arith, c.requires.places_bound, entry_le c.args.z.places c.loop-i.i)

pub nearest_divided-q-requires : goal.nearest_divided-q-requires
nearest_divided-q-requires c = record {
  z_bound = rw (at_is c) (omega (arith, at_small c));
  d_nonzero = c.requires.d_nonzero;
}

q_is : (c : After-nearest_divided-q)
    → to_z w64 (of_z w64 c.nearest_divided-q.result) ≡ nearest (at c.before) c.args.d
q_is c =
    answered c.nearest_divided-q.type_inv
    (c.nearest_divided-q.ensures ∙ ap (λ z. nearest z c.args.d) (at_is c.before))

pub left_of-total-requires : goal.left_of-total-requires
left_of-total-requires c =
    rw (at_is (goal.at.left_of-total-requires c).After-c-1) record {
      c_bound = at_small (goal.at.left_of-total-requires c).After-c-1;
      d_nonzero = c.requires.d_nonzero;
      d_bound = c.requires.d_bound;
      q_value = q_is c;
    }

left_is : (c : After-left_of-total)
    → c.left_of-total.result ≡ nat_abs (at c.before.before -ℤ nearest (at c.before.before) c.args.d *ℤ pos c.args.d)
left_is c =
    c.left_of-total.ensures ∙ ap (λ z. nat_abs (z -ℤ nearest z c.args.d *ℤ pos c.args.d)) (at_is c.before.before)

iterated : (c : After-left_of-total)
    → Rounding c.args.z.places c.args.d c.args.e
    (set c.loop-i.out c.loop-i.i (to_z w64 (of_z w64 c.nearest_divided-q.result)))
    (c.loop-i.total + c.left_of-total.result)
    (c.loop-i.i + 1)
iterated c =
    rounding_iteration _ (whole c.before.before.before.before.before.before) _ _ c.requires.d_nonzero _ _ _
    c.loop-i.invariant (inside c.before.before) _ _ (q_is c.before)
    (left_is c)

pub overflow_add-total-in-loop-i : goal.overflow_add-total-in-loop-i
overflow_add-total-in-loop-i c =
    omega (
      arith,
      rounding_small _ (whole (goal.at.overflow_add-total-in-loop-i c).Start) _ _ c.requires.d_nonzero _ _ _
          (iterated c),
      c.requires.places_bound,
    )

pub offset_bounds-out-i : goal.offset_bounds-out-i
offset_bounds-out-i c = omega (arith, inside (goal.at.offset_bounds-out-i c).After-c-1)

pub bounds-out-i : goal.bounds-out-i
bounds-out-i c = inside (goal.at.bounds-out-i c).After-c-1

pub loop-i-preserved : goal.loop-i-preserved
loop-i-preserved c = iterated c

pub divided_up-requires : goal.divided_up-requires
divided_up-requires c = c.requires.d_nonzero

pub returns : goal.returns
returns c =
    ap (λ n. record { coefficients = c.loop-i.out; radius = n }) c.divided_up.ensures
    ∙ ap pack_curve (rounding_end _ (whole (goal.at.returns c).Start) _ _ c.requires.d_nonzero _ _ _ c.loop-i.invariant
    c.loop-i-test.false)
