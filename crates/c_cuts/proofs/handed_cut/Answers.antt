-- `handed_cut` takes the model and makes the call.
use mathlib.Core.Path.{◌∙◌, ap}
use Rattle.model_types.specs.ModelStruct.{bounds}
use Rattle.cuts.specs.Cuts.{call_cut_range}
use Rattle.c_cuts.specs.CutCalls.{handed_cut}
use Rattle.c_cuts.proofs.handed_cut.Goals as goal

pub returns : goal.returns
unfolding handed_cut
returns c =
    c.range.ensures
    ∙ ap (λ m. bounds (call_cut_range c.args.d c.args.i c.args.k m)) c.taken-f.ensures
