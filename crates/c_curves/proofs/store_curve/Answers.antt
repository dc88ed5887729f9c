-- `store_curve` stores the coefficients and the two numbers.
use borrow.Author.Rules.{rules}
use Rattle.model_slices.specs.HandedModelsLaws.{over_two}
use Rattle.c_curves.specs.HandedCurves.{stored_curve}
use Rattle.c_curves.proofs.store_curve.Goals as goal

pub returns : goal.returns
unfolding stored_curve
returns c =
    rw (
      c.verdict_number.ensures,
      c.store_coefficients.ensures,
      c.verdict_place.ensures,
      over_two c.args.numbers.now _ _ c.requires.1,
    )
