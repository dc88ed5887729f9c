-- `integral_slices` chooses by the number of variables.
use mathlib.Core.Path.{◌≡◌, ◌∙◌, ap, ap₂}
use lib.IntN.{ℤ, pos}
use mir.Facts.{to_z-of_z}
use mir.Syntax.{w64}
use mir.Val.{to_z, of_z}
use Rattle.calculus.specs.Model.{Model}
use Rattle.calculus.specs.Refusal.{done}
use Rattle.calculus.specs.Operations.{zero_mixed}
use Rattle.model_types.specs.declared.Bounds.{Bounds}
use Rattle.model_types.specs.declared.Integral as M
use Rattle.std.specs.Prelude.{Ok}
use Rattle.model_types.specs.ModelStruct.{view, bounds, integral_answer}
use Rattle.model_slices.specs.HeldModels.{held}
use Rattle.model_integral.specs.IntegralPartsLaws.{whole_exact, whole_terms}
use Rattle.model_integral.proofs.integral_slices.Goals as goal
use Rattle.model_integral.proofs.integral_slices.Goals.{Start}

abbrev seen : Start → Model
seen s = view (held s.args.n s.args.count s.args.radius s.args.keys.now s.args.coefficients.now)

pub returns-then-n-le-MOST_EXACT : goal.returns-then-n-le-MOST_EXACT
unfolding view held
returns-then-n-le-MOST_EXACT c = c.exact.ensures ∙ ap (λ i. integral_answer (done i))
    (whole_exact (seen (goal.at.returns-then-n-le-MOST_EXACT c).Start) c.if-n-le-MOST_EXACT.true)

pub returns : goal.returns
unfolding view held integral_answer bounds zero_mixed
returns c =
    let i = c.term_by_term-b in
    let t = c.struct_told-1.given in
    let low : to_z w64 (of_z w64 i.result.low) ≡ i.result.low = to_z-of_z {w = w64} (record { sfits = t.0.1 }) in
    let high : to_z w64 (of_z w64 i.result.high) ≡ i.result.high = to_z-of_z {w = w64} (record { sfits = t.1.0.1 }) in
    ap₂ ends low high ∙ ap (λ (b : Bounds). ends b.low b.high) i.ensures
    ∙ ap (λ i. integral_answer (done i)) (whole_terms (seen (goal.at.returns c).Start) c.if-n-le-MOST_EXACT.false)
  where
    ends : ℤ → ℤ → M.Integral
    ends a b = record { low = a; high = b; quotient = pos 0; remainder = 0; verdict = Ok tt }
