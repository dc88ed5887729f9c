-- `pack` has the terms stored in two arrays of zeros.
use mathlib.Core.Path.{◌∙◌}
use native.Mathlib.Omega.{arith}
use Rattle.calculus.specs.Model.{most_terms}
use Rattle.model_types.specs.PairedLaws.{listed_struct}
use Rattle.product_sums.specs.TermArrayLaws.{terms_length}
use Rattle.product_answer.specs.PackedTerms.{packed}
use Rattle.product_answer.specs.PackedTermsLaws.{packed_arrays}
use Rattle.product_answer.proofs.pack.Goals as goal

pub store_first-requires : goal.store_first-requires
unfolding most_terms
store_first-requires c =
    record {
      pack_ready = c.requires;
      count_in_bounds = (omega (arith, c.requires.few), omega (arith, c.requires.few));
    }

pub returns : goal.returns
unfolding packed most_terms
returns c =
    let h = c.requires in
    let stored = c.store_first in
    listed_struct (packed_arrays h stored.ensures.0 stored.ensures.1) _ _ _
    ∙ rw (terms_length _ c.args.kept.now c.args.rounded.now h.keys_long h.coefficients_long)
