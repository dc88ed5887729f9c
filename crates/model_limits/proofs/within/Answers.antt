-- `within` sums the span as far as the cap.
use mathlib.Core.Path.{◌≡◌, ◌∙◌, ap}
use Prim.Native.Nat.{◌+◌, ◌≤◌}
use native.Mathlib.Omega.{arith}
use lib.IntN.{pos, nat_abs}
use lib.ListN.{get_or}
use mir.Facts.{to_z-of_z}
use mir.Syntax.{w64}
use mir.Val.{to_z, of_z}
use Rattle.numbers.specs.Fixed.{capped}
use Rattle.calculus.specs.Model.{most_terms}
use Rattle.model_limits.specs.SpanPassLaws.{span_first, span_iteration, span_end}
use Rattle.model_limits.proofs.within.Goals as goal
use Rattle.model_limits.proofs.within.Goals.{After-c-1, Start}

few : (c : Start) → c.args.count ≤ most_terms
unfolding most_terms
few c = c.requires.0

pub loop-j-init : goal.loop-j-init
loop-j-init c = λ n ks r. span_first n _ _ ks _ r (few c)

-- the coefficient at hand
read_back : (c : After-c-1)
    → let z = get_or c.args.coefficients.now c.loop-j.j (pos 0) in to_z w64 (of_z w64 z) ≡ z
read_back c = to_z-of_z {w = w64} (record { sfits = c.c-1.given })

pub loop-j-preserved : goal.loop-j-preserved
loop-j-preserved c =
    λ n ks r.
    span_iteration n _ _ ks _ r (few (goal.at.loop-j-preserved c).Start) _ _ _ (c.loop-j.invariant n ks r)
    (omega arith) (c.capped_sum-span.ensures
    ∙ ap (λ x. capped (c.loop-j.span + x)) (c.magnitude.ensures
    ∙ ap nat_abs (read_back (goal.at.loop-j-preserved c).After-c-1)))

pub returns : goal.returns
returns c =
    λ n ks r.
    c.within_span.ensures
    ∙ span_end n _ _ ks _ r (few (goal.at.returns c).Start) _ _ (c.loop-j.invariant n ks r)
    (omega arith)
