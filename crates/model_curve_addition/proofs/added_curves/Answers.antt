-- `added_curves` adds the coefficients, place by place.
use mathlib.Core.Path.{◌≡◌, sym, ◌∙◌, ap, ap₂}
use Prim.Native.Nat.{◌+◌}
use native.Mathlib.Omega.{arith}
use borrow.Author.Rules.{rules}
use lib.IntN.{pos, ◌+ℤ◌}
use lib.ListN.{length, get_or}
use mir.Facts.{to_z-of_z}
use mir.Syntax.{w64}
use mir.Val.{to_z, of_z}
use Rattle.fixed.specs.MachineLaws.{answered}
use Rattle.chebyshev.specs.Coefficients.{sum}
use Rattle.chebyshev.proofs.RowLengthLaws.{sum_length}
use Rattle.chebyshev.specs.CurveOperations.{added}
use Rattle.model_curve_addition.specs.CurveLoopLaws.{copied_first, copied_iteration}
use Rattle.model_curve_addition.specs.CurveLoopLaws.{copied_end}
use Rattle.model_curve_addition.specs.CurveLoopLaws.{added_at, entry_small, radius_small}
use Rattle.model_curve_addition.proofs.added_curves.Goals as goal
use Rattle.model_curve_addition.proofs.added_curves.Goals.{After-sum-arg-1, After-sum-arg-in-loop-i-1, Start}

module _ (c : Start) where
  first_whole : length c.args.f.coefficients ≡ 16
  first_whole = search rules

  second_whole : length c.args.g.coefficients ≡ 16
  second_whole = search rules

  same : length c.args.f.coefficients ≡ length c.args.g.coefficients
  same = first_whole ∙ sym second_whole

  summed : length (sum c.args.f.coefficients c.args.g.coefficients) ≡ 16
  summed = sum_length c.args.f.coefficients c.args.g.coefficients same ∙ second_whole

pub loop-i-init : goal.loop-i-init
loop-i-init c = copied_first _ (summed c)

-- the coefficients at hand
first_back : (c : After-sum-arg-1)
    → let z = get_or c.args.f.coefficients c.loop-i.i (pos 0) in to_z w64 (of_z w64 z) ≡ z
first_back c = to_z-of_z {w = w64} (record { sfits = c.sum-arg-1.given })

second_back : (c : After-sum-arg-in-loop-i-1)
    → let z = get_or c.args.g.coefficients c.loop-i.i (pos 0) in to_z w64 (of_z w64 z) ≡ z
second_back c = to_z-of_z {w = w64} (record { sfits = c.sum-arg-in-loop-i-1.given })

pub sum-z-requires : goal.sum-z-requires
sum-z-requires c =
    rw (first_back (goal.at.sum-z-requires c).After-sum-arg-1, second_back c) (omega (
      arith,
      entry_small c.args.f c.loop-i.i c.requires.t,
      entry_small c.args.g c.loop-i.i c.requires.t_2,
    ))

pub loop-i-preserved : goal.loop-i-preserved
loop-i-preserved c =
    copied_iteration _ (summed (goal.at.loop-i-preserved c).Start) _ _ _ c.loop-i.invariant c.loop-i-test.true
    (answered c.sum-z.type_inv c.sum-z.ensures ∙ ap₂ ◌+ℤ◌ (first_back (goal.at.loop-i-preserved c).After-sum-arg-1)
    (second_back (goal.at.loop-i-preserved c).After-sum-arg-in-loop-i-1)
    ∙ added_at c.args.f.coefficients c.args.g.coefficients c.loop-i.i (same (goal.at.loop-i-preserved c).Start))

pub overflow_add-result : goal.overflow_add-result
overflow_add-result c =
    omega (arith, radius_small c.args.f c.requires.t, radius_small c.args.g c.requires.t_2)

pub returns : goal.returns
unfolding added
returns c =
    ap (λ o. record { coefficients = o; radius = c.args.f.radius + c.args.g.radius })
    (copied_end _ (summed (goal.at.returns c).Start) _ _ c.loop-i.invariant c.loop-i-test.false)
