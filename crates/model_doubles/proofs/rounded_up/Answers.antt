-- `rounded_up` is the digits divided, rounded up.
use mathlib.Core.Path.{◌∙◌, ap, sym, subst}
use Prim.Native.Nat.{◌<◌}
use borrow.Author.Rules.{rules}
use Rattle.numbers.specs.Division.{divided_up}
use Rattle.model_doubles.specs.ScaledPartsLaws.{divisor_pos}
use Rattle.model_doubles.proofs.rounded_up.Goals as goal

pub divided_up-requires : goal.divided_up-requires
divided_up-requires c = subst (λ d. 0 < d) (sym c.divisor.ensures) (divisor_pos _)

pub returns : goal.returns
returns c = c.divided_up.ensures ∙ ap (divided_up _) c.divisor.ensures
