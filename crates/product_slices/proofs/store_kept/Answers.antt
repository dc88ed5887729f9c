-- `store_kept` stores the terms, and zeros after them.
use mathlib.Core.Path.{sym, ◌∙◌, ap, subst}
use native.Mathlib.Omega.{arith}
use borrow.Author.Rules.{rules}
use lib.IntN.{pos}
use Rattle.calculus.specs.Model.{most_terms}
use Rattle.product_answer.specs.PackedTerms.{PackReady}
use Rattle.product_slices.specs.KeptPlaces.{zeroed}
use Rattle.product_slices.specs.KeptPlacesLaws.{stored_ready, keys_stored, coefficients_stored}
use Rattle.product_slices.proofs.store_kept.Goals as goal
use Rattle.product_slices.proofs.store_kept.Goals.{After-kept_count-count}

-- ---- where the terms are counted
module _ (c : After-kept_count-count) where
  ready : PackReady c.kept_count-count.result c.args.kept.now c.args.rounded.now
  ready = subst (λ i. PackReady i c.args.kept.now c.args.rounded.now)
      (sym c.kept_count-count.ensures) (stored_ready _ _ _ c.requires.kept_ready)

pub store_first-requires : goal.store_first-requires
store_first-requires c =
    let f = (ready (goal.at.store_first-requires c).After-kept_count-count).few in
    record {
      pack_ready = ready (goal.at.store_first-requires c).After-kept_count-count;
      count_in_bounds = (
        omega (arith, f, c.requires.most_terms_in_bounds.0),
        omega (arith, f, c.requires.most_terms_in_bounds.1),
      );
    }

pub store_zeros-requires : goal.store_zeros-requires
unfolding most_terms
store_zeros-requires c =
    record {
      from_le_most_terms = omega (arith, (ready (goal.at.store_zeros-requires c).After-kept_count-count).few);
      most_terms_in_bounds = (search rules, search rules);
    }

pub returns : goal.returns
returns c n = (
  c.store_zeros.ensures.0 ∙ ap (zeroed 0 _ most_terms) c.store_first.ensures.0
      ∙ rw c.kept_count-count.ensures (keys_stored _ _ _ c.requires.kept_ready n _),
  c.store_zeros.ensures.1 ∙ ap (zeroed (pos 0) _ most_terms) c.store_first.ensures.1
      ∙ rw c.kept_count-count.ensures (coefficients_stored _ _ _ c.requires.kept_ready n _),
)
