-- `load_records` answers by what the loading of models and the walk over steps find.
use mathlib.Core.Path.{sym, ◌∙◌}
use mathlib.Core.List.{List}
use Prim.Native.Nat.{ℕ, ◌+◌, ◌*◌, ◌≤◌}
use native.Mathlib.Omega.{arith}
use borrow.Author.Rules.{rules}
use lib.ListN.{length}
use lib.Seq.{length-take-le}
use Rattle.calculus.specs.Book.{most_models, most_steps}
use Rattle.format.specs.HeldBookLaws.{InLimits, in_limits}
use Rattle.sheet_decode.specs.declared.Trailer.{Trailer}
use Rattle.sheet_results.specs.ResultsLaws.{roomy_less}
use Rattle.sheet_tests.specs.RecordTestLaws.{trailer_limits}
use Rattle.sheet_loading.specs.LoadedRecordLaws.{records_loaded}
use Rattle.sheet_loading.proofs.load_records.Goals as goal
use Rattle.sheet_loading.proofs.load_records.Goals.{Start}

-- ---- what is known at the start
module _ (c : Start) where
  abbrev sheet : List ℕ
  sheet = c.args.sheet.now

  abbrev trailer : Trailer
  trailer = c.args.t

  limits : InLimits trailer.n trailer.d trailer.models trailer.steps
  limits = in_limits trailer.n trailer.d trailer.models trailer.steps
      (trailer_limits trailer c.requires.t)

  steps_fit : trailer.offset + 8 * trailer.steps ≤ length sheet
  steps_fit = omega (arith, c.requires.trailer_length_value)

pub slice_bounds-load_models-end : goal.slice_bounds-load_models-end
slice_bounds-load_models-end c =
    sym (length-take-le _ _ (omega (arith, steps_fit (goal.at.slice_bounds-load_models-end c).Start)))

pub load_models-w-requires : goal.load_models-w-requires
unfolding most_models
load_models-w-requires c =
    roomy_less c.requires.roomy (limits (goal.at.load_models-w-requires c).Start).models

pub read_steps-v-requires : goal.read_steps-v-requires
unfolding most_steps
read_steps-v-requires c =
    ((limits (goal.at.read_steps-v-requires c).Start).steps_high, steps_fit (goal.at.read_steps-v-requires c).Start)

pub returns : goal.returns
returns c =
    records_loaded (sheet (goal.at.returns c).Start) (trailer (goal.at.returns c).Start) c.requires.t
    c.requires.trailer_length_value c.load_models-w.ensures
    c.read_steps-v.ensures c.fault_of-verdict.ensures
