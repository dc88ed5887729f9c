-- `store_first` stores one term after the other.
use mathlib.Core.Path.{◌≡◌}
use Prim.Native.Nat.{◌≤◌}
use lib.ListN.{length}
use Rattle.model_slices.specs.HandedModels.{over}
use Rattle.product_sums.specs.TermArrays.{terms}
use Rattle.product_answer.specs.PackedTerms.{narrow_keys, narrow_coefficients}
use Rattle.product_answer.proofs.store_first.Given as goal

abbrev pub invariant-loop-i : goal.invariant-loop-i
invariant-loop-i l =
    (l.i ≤ l.count) × (length l.keys ≡ length l.initial.keys) × (length l.coefficients ≡ length l.initial.coefficients)
    × (l.keys ≡ over (narrow_keys (terms l.i l.kept l.rounded)) l.initial.keys)
    × (l.coefficients ≡ over (narrow_coefficients (terms l.i l.kept l.rounded)) l.initial.coefficients)
