-- `turn` stores one coefficient after the other, as far as the count goes.
use mathlib.Core.Path.{◌≡◌, refl, ◌∙◌, ap}
use native.Mathlib.Omega.{arith}
use lib.IntN.{ℤ, pos, neg_ℤ}
use lib.ListN.{get_or}
use mir.Facts.{to_z-of_z}
use mir.Syntax.{w64}
use mir.Val.{to_z, of_z}
use Rattle.fixed.specs.MachineLaws.{answered}
use Rattle.model_slices.specs.HandedModels.{over}
use Rattle.model_unary.specs.NegateLaws.{turned_more}
use Rattle.model_unary.proofs.turn.Goals as goal
use Rattle.model_unary.proofs.turn.Goals.{After-old-1}

pub loop-i-init : goal.loop-i-init
unfolding over
loop-i-init c = refl

-- the coefficient at hand
module _ (c : After-old-1) where
  abbrev at : ℤ
  at = get_or c.args.coefficients.now c.loop-i.i (pos 0)

  read_back : to_z w64 (of_z w64 at) ≡ at
  read_back = to_z-of_z {w = w64} (record { sfits = c.old-1.given })

pub negated-requires : goal.negated-requires
negated-requires c = rw (read_back c) (c.requires.by_index _ (omega arith))

pub loop-i-preserved : goal.loop-i-preserved
loop-i-preserved c =
    let a = c.args in
    rw (
      c.loop-i.invariant,
      answered c.negated.type_inv (c.negated.ensures
          ∙ ap neg_ℤ (read_back (goal.at.loop-i-preserved c).After-old-1)),
    )
    (turned_more a.coefficients.now a.out.now c.loop-i.i (omega arith) (omega arith))

pub returns : goal.returns
returns c =
    let e : c.loop-i.i ≡ c.args.count = omega arith in
    rw (c.loop-i.invariant, e)
