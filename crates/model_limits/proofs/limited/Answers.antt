-- `limited` lends its coefficients, and answers by the span.
use mathlib.Core.Path.{◌≡◌, sym, ◌∙◌, ap}
use borrow.Author.Rules.{rules}
use lib.Dec.{leb}
use Rattle.numbers.specs.Fixed.{span_limit}
use Rattle.calculus.specs.Model.{most_terms, span}
use Rattle.model_slices.specs.model_types.ModelStruct.{view, cause}
use Rattle.model_slices.specs.HeldModels.{Room}
use Rattle.model_slices.specs.HeldModelsLaws.{own_view}
use Rattle.model_limits.specs.LimitLaws.{answer_within, answer_over}
use Rattle.model_limits.proofs.limited.Goals as goal
use Rattle.model_limits.proofs.limited.Goals.{After-within, Start}

room : (c : Start) → Room c.args.m.keys c.args.m.coefficients
room c = record { keys = search rules; coefficients = search rules }

pub within-requires : goal.within-requires
unfolding most_terms
within-requires c =
    (c.requires.few, (room (goal.at.within-requires c).Start).coefficients)

-- the span's test
tested : (c : After-within)
    → c.within.result ≡ leb (span (view c.args.m)) span_limit
tested c =
    c.within.ensures c.args.m.n c.args.m.keys (room c.before.before.before)
    ∙ ap (λ v. leb (span v) span_limit) (own_view c.args.m (room c.before.before.before) c.requires.few)

pub returns-then-within : goal.returns-then-within
returns-then-within c =
    sym (answer_within _ c.requires (sym (tested (goal.at.returns-then-within c).After-within) ∙ c.if-within.true))

pub returns : goal.returns
unfolding cause
returns c =
    c.refuse.ensures
    ∙ sym (answer_over _ c.requires (sym (tested (goal.at.returns c).After-within) ∙ c.if-within.false))
