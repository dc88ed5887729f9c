-- `multiply` multiplies into two arrays of its own, and stores what it has there.
use native.Mathlib.Omega.{arith}
use Rattle.calculus.specs.Model.{most_terms}
use Rattle.c_products.proofs.multiply.Goals as goal

pub multiply_slices-k-requires : goal.multiply_slices-k-requires
unfolding most_terms
multiply_slices-k-requires c =
    record {
      coefficients1_value = c.requires.coefficients1_value;
      coefficients2_value = c.requires.coefficients2_value;
      kept_room = record { kept_room = omega arith; coefficients_room = omega arith };
    }

pub returns : goal.returns
returns c = rw (c.store.ensures, c.multiply_slices-k.ensures.exact)
