-- `number` is document 01's number of each case.
use Rattle.std.specs.Prelude.{◌≡◌, ◌+◌}
use Rattle.std.proofs.Math.Path.{refl}
use Rattle.calculus.specs.Refusal.{number}
use Rattle.model_types.specs.contracts.Refusal.{the_type}
use Rattle.model_types.specs.declared.Refusal.{Refusal}
use Rattle.model_types.specs.declared.Refusal.TheVariants.{BadLength, BadMark, BadLimits, BadOffset}
use Rattle.model_types.specs.declared.Refusal.TheVariants.{BadModel, BadStep}
use Rattle.model_types.specs.declared.Refusal.TheVariants.{OverSpan, TooManyTerms, LeavesBox}
use Rattle.model_types.specs.declared.Refusal.TheVariants.{VariablesDiffer, ShortBuffer, Uncertified}
use Rattle.model_types.specs.declared.Refusal.TheVariants.{NotOneVariable, CutTooDeep, BadReading}
use Rattle.model_types.specs.declared.Refusal.TheVariants.{BadDouble, BadRank}
use Rattle.model_types.specs.ModelStruct.{cause}
use Rattle.model_types.proofs.number.Goals as goal
use denote.Enum.Declared.{tag_of}

numbered : (r : Refusal) → tag_of the_type r + 1 ≡ number (cause r)
unfolding number cause
numbered BadLength = refl
numbered BadMark = refl
numbered BadLimits = refl
numbered BadOffset = refl
numbered BadModel = refl
numbered BadStep = refl
numbered OverSpan = refl
numbered TooManyTerms = refl
numbered LeavesBox = refl
numbered VariablesDiffer = refl
numbered ShortBuffer = refl
numbered Uncertified = refl
numbered NotOneVariable = refl
numbered CutTooDeep = refl
numbered BadReading = refl
numbered BadDouble = refl
numbered BadRank = refl

pub returns : goal.returns
returns c = numbered c.args.refusal
