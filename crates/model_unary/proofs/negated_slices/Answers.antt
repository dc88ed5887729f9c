-- `negated_slices` copies the keys, and the coefficients with their signs turned.
use mathlib.Core.Path.{refl}
use native.Mathlib.Omega.{arith}
use Rattle.calculus.specs.Model.{most_terms}
use Rattle.model_places.specs.LeftModelsLaws.{lies_few, lies_small, left_accepted, zeros_room}
use Rattle.model_unary.specs.NegateLaws.{turned_struct}
use Rattle.model_unary.proofs.negated_slices.Goals as goal

pub copy_keys-requires : goal.copy_keys-requires
unfolding most_terms
copy_keys-requires c =
    (c.requires.lies.places.keys, omega (arith, lies_few c.requires.lies, (zeros_room c.requires.zeros).keys))

pub turn-requires : goal.turn-requires
unfolding most_terms
turn-requires c =
    record {
      count_in_bounds = (
        c.requires.lies.places.coefficients,
        omega (arith, lies_few c.requires.lies, (zeros_room c.requires.zeros).coefficients),
      );
      by_index = lies_small c.requires.lies;
    }

pub returns : goal.returns
returns c w =
    left_accepted _ _ _ _ refl _ (turned_struct w c.requires.zeros c.copy_keys.ensures c.turn.ensures)
