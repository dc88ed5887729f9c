-- `model_room` compares each length.
use borrow.Author.Tests.{le-leb, lt-leb}
use native.Mathlib.Omega.{arith}
use Rattle.calculus.specs.Model.{most_terms}
use Rattle.model_slices.specs.HandedModels.{model_room}
use Rattle.model_slices.proofs.model_room.Goals as goal
use Rattle.model_slices.proofs.model_room.Goals.{then-keys-ge-MOST_TERMS, else-keys-ge-MOST_TERMS}

pub returns-then-coefficients-ge-MOST_TERMS : goal.returns-then-coefficients-ge-MOST_TERMS
unfolding model_room most_terms
returns-then-coefficients-ge-MOST_TERMS c = rw (
  le-leb _ _ c.if-coefficients-ge-MOST_TERMS.true.0,
  le-leb _ _ c.if-coefficients-ge-MOST_TERMS.true.1,
)

pub returns-else-coefficients-ge-MOST_TERMS : goal.returns-else-coefficients-ge-MOST_TERMS
unfolding model_room most_terms
returns-else-coefficients-ge-MOST_TERMS c =
    elim c.if-keys-ge-MOST_TERMS.branch [
      | then-keys-ge-MOST_TERMS w ↦ rw (
        w.t-5-is,
        le-leb _ _ w.if-keys-ge-MOST_TERMS.true,
        lt-leb 64 c.args.coefficients (omega arith),
      )
      | else-keys-ge-MOST_TERMS w ↦ rw (w.t-5-is, lt-leb _ _ w.if-keys-ge-MOST_TERMS.false)
    ]
