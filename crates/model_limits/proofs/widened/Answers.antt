-- `widened` adds to the radius as far as the cap.
use mathlib.Core.Path.{◌∙◌, ap}
use Prim.Native.Nat.{◌+◌}
use Rattle.calculus.specs.Refusal.{at_place}
use Rattle.calculus.specs.Operations.{limited, widen}
use Rattle.model_slices.specs.model_types.ModelStruct.{view, answer}
use Rattle.model_limits.specs.LimitLaws.{limited_capped, packed_radius}
use Rattle.model_limits.proofs.widened.Goals as goal

pub limited-requires : goal.limited-requires
limited-requires c = packed_radius _ _ c.requires

pub returns : goal.returns
unfolding widen view
returns c =
    let m = view c.args.m in
    c.limited.ensures
    ∙ ap (λ r. answer (at_place 0 r))
    (ap (λ e. limited (record { vars = m.vars; radius = e; terms = m.terms })) c.capped_sum.ensures
    ∙ limited_capped m.vars (m.radius + c.args.e) m.terms)
