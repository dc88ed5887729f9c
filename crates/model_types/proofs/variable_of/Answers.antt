-- `variable_of` is the model of a variable.
use mathlib.Core.Path.{sym, ◌∙◌, ap, ap₂}
use native.Mathlib.Omega.{arith}
use borrow.Author.Rules.{rules}
use Rattle.fixed.specs.MachineLaws.{answered}
use Rattle.model_keys.specs.KeyExponentLaws.{zero_raisable}
use Rattle.model_types.specs.ModelStruct.{pack, one_term}
use Rattle.model_types.specs.ModelStructLaws.{variable_one_term}
use Rattle.model_types.proofs.variable_of.Goals as goal

pub raised-requires : goal.raised-requires
raised-requires c =
    zero_raisable c.args.i (record { first = c.requires.0; last = omega (arith, c.requires.1, c.requires.2) })

pub returns : goal.returns
returns c =
    let s = c.before.before.before in
    c.of_one_term.ensures
    ∙ ap pack
    (ap₂ (one_term s.args.n) c.raised.ensures
    (answered c.unit.type_inv c.unit.ensures)
    ∙ sym (variable_one_term _ _ s.requires.0 s.requires.1 s.requires.2))
