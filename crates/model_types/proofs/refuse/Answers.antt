-- `refuse` hands back zeros beside the refusal.
use native.Mathlib.Omega.{arith}
use Prim.Native.Nat.{◌%◌}
use lib.IntN.{pos}
use Rattle.calculus.specs.Model.{zero_model, most_terms}
use Rattle.model_types.specs.Arrays.{padded}
use Rattle.model_types.specs.ArrayLaws.{set_zeros}
use Rattle.model_types.specs.ModelStruct.{pack, answer}
use Rattle.model_types.specs.ModelStructLaws.{refusal_cause}
use Rattle.model_types.proofs.refuse.Goals as goal

pub offset_bounds-zero-at : goal.offset_bounds-zero-at
offset_bounds-zero-at c = omega arith

pub bounds-zero-at : goal.bounds-zero-at
bounds-zero-at c = omega arith

pub returns : goal.returns
unfolding zero_model most_terms pack padded answer
returns c = rw (
  refusal_cause c.args.refusal,
  set_zeros (pos 0) most_terms (c.args.place % most_terms),
)
