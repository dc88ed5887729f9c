-- `Model::variable` makes the tests of the call in order, then the model.
use mathlib.Core.Path.{◌≡◌, sym, ◌∙◌, subst}
use mathlib.Core.Bool.{true, false}
use borrow.Author.Rules.{rules}
use borrow.Author.Tests.{not-true, not-false}
use lib.Dec.{T}
use Rattle.calculus.specs.Model.{between}
use Rattle.calculus.specs.Refusal.{require_at}
use Rattle.calculus.specs.Tests.{vars_sound, variable_sound}
use Rattle.calculus_laws.specs.BookLaws.{between_low, between_high}
use Rattle.calculus.specs.Calls.{call_variable}
use Rattle.model_types.specs.ModelStruct.{cause, answer}
use Rattle.model_types.specs.ModelStructLaws.{vars_range}
use Rattle.model_types.proofs.Model.variable.Goals as goal
use Rattle.model_types.proofs.Model.variable.Goals.{Else-not-from_one, Else-not-vars_sound, Then-not-vars_sound}

vars_fail : (c : Then-not-vars_sound) → vars_sound c.args.n ≡ false
vars_fail c = sym c.vars_sound.ensures ∙ c.if-not-vars_sound.true

vars_hold : (c : Else-not-vars_sound) → vars_sound c.args.n ≡ true
vars_hold c = sym c.vars_sound.ensures ∙ c.if-not-vars_sound.false

pub returns-then-not-vars_sound : goal.returns-then-not-vars_sound
unfolding require_at call_variable cause
returns-then-not-vars_sound c = rw (c.refuse.ensures, vars_fail c.before)

pub returns-then-not-from_one : goal.returns-then-not-from_one
unfolding variable_sound require_at call_variable cause
returns-then-not-from_one c =
    let t = c.before in
    rw (
      c.refuse-then-not-from_one.ensures,
      vars_hold t.before.before,
      sym t.from_one.ensures ∙ t.if-not-from_one.true,
    )

variable_hold : (c : Else-not-from_one) → between 1 c.args.n
    c.args.i ≡ true
variable_hold c = sym c.from_one.ensures ∙ c.if-not-from_one.false

pub variable_of-requires : goal.variable_of-requires
variable_of-requires c =
    let h = subst T (sym (variable_hold c)) tt in
    (between_low 1 _ _ h, between_high 1 _ _ h, (vars_range _ (vars_hold c.before.before)).1)

pub returns : goal.returns
unfolding variable_sound require_at call_variable answer
returns c =
    let t = c.before in
    rw (c.variable_of.ensures, vars_hold t.before.before, variable_hold t)
