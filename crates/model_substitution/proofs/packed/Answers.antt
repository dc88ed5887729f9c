-- `packed` copies the terms that the count names over zeros.
use mathlib.Core.Path.{◌≡◌}
use native.Mathlib.Omega.{arith}
use borrow.Author.Rules.{rules}
use Rattle.calculus.specs.Model.{most_terms}
use Rattle.model_types.specs.PairedLaws.{listed_struct}
use Rattle.model_slices.specs.HandedModelsLaws.{filled_listed}
use Rattle.model_slices.specs.HeldModels.{held}
use Rattle.model_substitution.proofs.packed.Goals as goal

pub copy_keys-requires : goal.copy_keys-requires
copy_keys-requires c =
    (omega (arith, c.requires.0, c.requires.1.keys), c.requires.0)

pub copy_coefficients-requires : goal.copy_coefficients-requires
copy_coefficients-requires c =
    (omega (arith, c.requires.0, c.requires.1.coefficients), c.requires.0)

pub returns : goal.returns
unfolding most_terms held
returns c =
    rw (c.copy_keys.ensures, c.copy_coefficients.ensures)
    (listed_struct
    (filled_listed c.args.count c.args.keys.now c.args.coefficients.now
    (omega (arith, c.requires.0, c.requires.1.keys)) (omega (arith, c.requires.0, c.requires.1.coefficients))) _ _ _)
