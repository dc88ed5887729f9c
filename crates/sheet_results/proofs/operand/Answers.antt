-- `operand` takes the result that is named, or the zero model.
use mathlib.Core.Path.{sym, ◌∙◌, ap}
use mathlib.Core.Bool.{cond}
use Rattle.calculus.specs.Model as C
use Rattle.calculus.specs.Model.{zero_model}
use Rattle.model_types.specs.ModelStruct.{view}
use Rattle.sheet_results.specs.Results.{results, held_result}
use Rattle.sheet_results.specs.ResultsLaws.{zero_view}
use Rattle.sheet_results.proofs.operand.Goals as goal
use Rattle.sheet_results.proofs.operand.Goals.{Start}

-- what is at the place
abbrev there : Start → C.Model
there s =
    view (held_result s.args.n
    (results s.args.keys.now s.args.coefficients.now s.args.counts.now s.args.radii.now)
    s.args.j)

pub returns-then-named : goal.returns-then-named
returns-then-named c =
    c.result.ensures
    ∙ sym (ap (λ b. cond b (there (goal.at.returns-then-named c).Start) (zero_model c.args.n)) c.if-named.true)

pub returns : goal.returns
returns c =
    ap view c.without_terms.ensures ∙ zero_view c.args.n
    ∙ sym (ap (λ b. cond b (there (goal.at.returns c).Start) (zero_model c.args.n)) c.if-named.false)
