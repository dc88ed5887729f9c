-- `Model::constant` makes the tests of the call in order, then the model.
use mathlib.Core.Path.{◌≡◌, sym, ◌∙◌, ap}
use mathlib.Core.Bool.{true, false}
use borrow.Author.Rules.{rules}
use borrow.Author.Tests.{not-true, not-false}
use mir.Facts.{to_z-of_z}
use Rattle.calculus.specs.Refusal.{require_at}
use Rattle.calculus.specs.Tests.{vars_sound, constant_sound}
use Rattle.calculus.specs.Calls.{call_constant}
use Rattle.model_types.specs.ModelStruct.{cause, answer}
use Rattle.model_types.specs.ModelStructLaws.{vars_range}
use Rattle.model_types.proofs.Model.constant.Goals as goal
use Rattle.model_types.proofs.Model.constant.Goals.{After-constant_within_limits, Else-not-vars_sound, Then-not-vars_sound}

vars_fail : (c : Then-not-vars_sound) → vars_sound c.args.n ≡ false
vars_fail c = sym c.vars_sound.ensures ∙ c.if-not-vars_sound.true

vars_hold : (c : Else-not-vars_sound) → vars_sound c.args.n ≡ true
vars_hold c = sym c.vars_sound.ensures ∙ c.if-not-vars_sound.false

within : (c : After-constant_within_limits)
    → c.constant_within_limits.result ≡ constant_sound c.args.value
unfolding constant_sound
within c = c.constant_within_limits.ensures ∙ ap constant_sound (to_z-of_z c.ranges.value)

pub returns-then-not-vars_sound : goal.returns-then-not-vars_sound
unfolding require_at call_constant cause
returns-then-not-vars_sound c = rw (c.refuse.ensures, vars_fail c.before)

pub returns-then-not-constant_within_limits : goal.returns-then-not-constant_within_limits
unfolding require_at call_constant cause
returns-then-not-constant_within_limits c =
    let t = c.before in
    rw (
      c.refuse-then-not-constant_within_limits.ensures,
      vars_hold t.before.before,
      sym (within t.before) ∙ t.if-not-constant_within_limits.true,
    )

pub constant_of-requires : goal.constant_of-requires
constant_of-requires c = (vars_range _ (vars_hold c.before.before)).1

pub returns : goal.returns
unfolding require_at call_constant answer
returns c =
    let t = c.before in
    rw (
      c.constant_of.ensures,
      to_z-of_z t.ranges.value,
      vars_hold t.before.before,
      sym (within t.before) ∙ t.if-not-constant_within_limits.false,
    )
