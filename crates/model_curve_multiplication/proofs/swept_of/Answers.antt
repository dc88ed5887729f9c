-- `swept_of` adds up the sizes above degree 15, from the last one down.
use mathlib.Core.Path.{◌≡◌, sym, ◌∙◌, ap}
use Prim.Native.Nat.{◌+◌, ◌-◌}
use native.Mathlib.Omega.{arith}
use borrow.Author.Rules.{rules}
use lib.IntN.{nat_abs, pos}
use lib.ListN.{length, get_or, drop}
use mir.Facts.{to_z-of_z}
use mir.Syntax.{w64}
use mir.Val.{to_z, of_z}
use Rattle.model_curve_multiplication.specs.RoundLaws.{Sweeping, sweeping_first, sweeping_iteration}
use Rattle.model_curve_multiplication.specs.RoundLaws.{sweeping_room}
use Rattle.model_curve_multiplication.specs.RoundLaws.{sweeping_end}
use Rattle.model_curve_multiplication.proofs.swept_of.Goals as goal
use Rattle.model_curve_multiplication.proofs.swept_of.Goals.{After-magnitude-arg-1, After-magnitude-total, Start}

whole : (c : Start) → length c.args.z.places ≡ 31
whole c = search rules

pub loop-i-init : goal.loop-i-init
loop-i-init c = sweeping_first _ (whole c)

pub offset_bounds-z-i : goal.offset_bounds-z-i
offset_bounds-z-i c = omega (arith, c.loop-i.invariant.within)

pub bounds-z-i : goal.bounds-z-i
bounds-z-i c = omega (arith, c.loop-i.invariant.within, c.loop-i-test.true)

-- the coefficient at hand, and its size
read_back : (c : After-magnitude-arg-1)
    → let z = get_or c.args.z.places (c.loop-i.i - 1) (pos 0) in to_z w64 (of_z w64 z) ≡ z
read_back c = to_z-of_z {w = w64} (record { sfits = c.magnitude-arg-1.given })

size_is : (c : After-magnitude-total)
    → c.magnitude-total.result ≡ nat_abs (get_or c.args.z.places (c.loop-i.i - 1) (pos 0))
size_is c = c.magnitude-total.ensures ∙ ap nat_abs (read_back c.before)

pub overflow_add-total : goal.overflow_add-total
overflow_add-total c =
    omega (
      arith,
      sweeping_room _ (whole (goal.at.overflow_add-total c).Start) _ _ _ c.loop-i.invariant c.loop-i-test.true
          (size_is c),
      c.requires,
    )

pub loop-i-preserved : goal.loop-i-preserved
loop-i-preserved c =
    sweeping_iteration _ (whole (goal.at.loop-i-preserved c).Start) _ _ _ c.loop-i.invariant c.loop-i-test.true
    (size_is c)

pub returns : goal.returns
returns c =
    sweeping_end _ (whole (goal.at.returns c).Start) _ _ c.loop-i.invariant c.loop-i-test.false
