-- `ends_call` goes through the codes.
use native.Mathlib.Omega.{arith}
use mathlib.Core.Path.{◌∙◌, ap, ap₂}
use Rattle.calculus.specs.Calls.{call_evaluate}
use Rattle.model_types.specs.ModelStruct.{integral_answer}
use Rattle.c_calls.specs.CallCodes.{alone, ends_alone}
use Rattle.c_dispatch.specs.StoredCallLaws.{ends_range, ends_integral, ends_evaluate}
use Rattle.c_dispatch.proofs.ends_call.Goals as goal

pub returns-in-1 : goal.returns-in-1
returns-in-1 c =
    c.alone.ensures ∙ ap ends_alone c.range.ensures ∙ ends_range _ _ _ c.in-1.is

pub returns-in-2 : goal.returns-in-2
returns-in-2 c = c.integral.ensures ∙ ends_integral _ _ _ c.in-2.is

pub returns-in_default : goal.returns-in_default
returns-in_default c =
    c.evaluated.ensures
    ∙ ap₂ (λ xs m. integral_answer (alone (call_evaluate xs m))) c.coordinates-xs.ensures c.taken-f.ensures
    ∙ ends_evaluate c.args.code _ _ (λ e. omega (arith, e)) (λ e. omega (arith, e))
