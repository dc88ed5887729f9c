-- `kept_answer` refuses more terms than a model can hold, and a span above the limit.
use mathlib.Core.Path.{◌≡◌, sym, ◌∙◌}
use Prim.Native.Nat.{◌+◌}
use native.Mathlib.Omega.{arith}
use lib.Dec.{leb}
use Rattle.numbers.specs.Fixed.{span_limit}
use Rattle.calculus.specs.Terms.{size}
use Rattle.calculus.specs.Model.{most_terms}
use Rattle.product_sums.specs.TermArrays.{terms}
use Rattle.product_answer.specs.CollectedProductLaws.{kept_ready, carried_fits, E_fits}
use Rattle.product_answer.specs.KeptProductLaws.{kept_many, kept_over, kept_within, refused_ready}
use Rattle.product_answer.proofs.kept_answer.Goals as goal
use Rattle.product_answer.proofs.kept_answer.Goals.{After-within}

pub returns-then-r-gt-MOST_TERMS : goal.returns-then-r-gt-MOST_TERMS
unfolding most_terms
returns-then-r-gt-MOST_TERMS c = record {
  exact = λ w. rw c.refused.ensures (kept_many w (omega (arith, c.if-r-gt-MOST_TERMS.true)));
  ready = rw c.refused.ensures (refused_ready _ _ _);
}

pub carried-old-requires : goal.carried-old-requires
carried-old-requires c = carried_fits c.requires

pub radius-e-requires : goal.radius-e-requires
radius-e-requires c = E_fits c.requires _ c.carried-old.ensures

pub within-requires : goal.within-requires
unfolding most_terms
within-requires c =
    omega (arith, c.requires.coefficients_room, c.if-r-gt-MOST_TERMS.false)

-- ---- where the span is tested
module _ (c : After-within) where
  tested : c.within.result
      ≡ leb (size (terms c.args.r.count c.args.keys.now c.args.coefficients.now)
      + c.radius-e.result) span_limit
  unfolding most_terms
  tested = c.within.ensures _ (omega (arith, c.requires.keys_room, c.if-r-gt-MOST_TERMS.false))

pub returns-then-not-within : goal.returns-then-not-within
unfolding most_terms
returns-then-not-within c =
    record {
      exact = λ w. rw c.refused-then-not-within.ensures
          (kept_over w c.if-r-gt-MOST_TERMS.false _ _ c.carried-old.ensures c.radius-e.ensures
          (sym (tested (goal.at.returns-then-not-within c).After-within) ∙ c.if-not-within.true));
      ready = rw c.refused-then-not-within.ensures (refused_ready _ _ _);
    }

pub shares-all-requires : goal.shares-all-requires
shares-all-requires c =
    E_fits c.requires _ c.carried-old.ensures

pub returns : goal.returns
unfolding most_terms
returns c =
    record {
      exact = λ w. kept_within w c.if-r-gt-MOST_TERMS.false _ _ c.carried-old.ensures c.radius-e.ensures _
          (sym (tested (goal.at.returns c).After-within) ∙ c.if-not-within.false) c.shares-all.ensures;
      ready = record { ready = λ h. kept_ready c.requires c.if-r-gt-MOST_TERMS.false };
    }
