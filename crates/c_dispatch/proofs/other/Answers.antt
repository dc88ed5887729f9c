-- `other` builds both models, makes the call and stores its answer.
use mathlib.Core.Path.{sym, ap}
use mir.Facts.{to_z-of_z}
use Rattle.model_types.specs.ModelStruct.{view}
use Rattle.model_slices.specs.HandedModels.{handed}
use Rattle.c_dispatch.proofs.other.Goals as goal

pub other_call-a-requires : goal.other_call-a-requires
unfolding view handed
other_call-a-requires c = ap (λ m. m.vars) (sym c.taken-f.ensures)

pub returns : goal.returns
returns c =
    rw (
      c.store_answer.ensures,
      c.other_call-a.ensures,
      to_z-of_z c.ranges.value,
      c.taken-g.ensures,
      c.taken-f.ensures,
    )
