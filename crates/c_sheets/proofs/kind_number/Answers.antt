-- `kind_number` gives each kind its number.
use mathlib.Core.Path.{sym, ap}
use borrow.Author.Rules.{rules}
use Rattle.c_sheets.specs.StepCalls.{kind_number}
use Rattle.c_sheets.proofs.kind_number.Goals as goal

pub returns-in-Model : goal.returns-in-Model
unfolding kind_number
returns-in-Model c = sym (ap kind_number c.in-Model.is)

pub returns-in-Step : goal.returns-in-Step
unfolding kind_number
returns-in-Step c = sym (ap kind_number c.in-Step.is)

pub returns-in-End : goal.returns-in-End
unfolding kind_number
returns-in-End c = sym (ap kind_number c.in-End.is)
