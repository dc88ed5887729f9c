-- `range` makes the tests of the order, the model, the variable and the depth, then cuts.
use mathlib.Core.Path.{◌≡◌, sym, ◌∙◌, ap}
use Prim.Native.Nat.{◌≤◌, ◌<◌}
use native.Mathlib.Omega.{arith}
use borrow.Author.Rules.{rules}
use lib.Dec.{lit≤}
use Rattle.model_types.specs.ModelStruct.{view, verdict, bounds, cause}
use Rattle.std.specs.Prelude.{Ok}
use Rattle.model_call_tests.specs.Admission.{integrating}
use Rattle.model_call_tests.specs.AdmissionLaws.{goes_on, is_refused}
use Rattle.model_cuts.specs.CutCallLaws.{call_is, too_deep, not_too_deep, cutting}
use Rattle.model_cuts.proofs.range.Goals as goal
use Rattle.model_cuts.proofs.range.Goals.{In-Ok}

-- the first three tests have passed
module _ (c : In-Ok) where
  passed : verdict (integrating c.args.d c.args.i (view c.args.f)) ≡ Ok tt
  passed = sym c.integrating-v.ensures ∙ c.in-Ok.is

pub returns-then-k-gt-MOST_DEPTH : goal.returns-then-k-gt-MOST_DEPTH
unfolding cause
returns-then-k-gt-MOST_DEPTH c =
    let deep : 6 < c.args.k = omega (arith, c.if-k-gt-MOST_DEPTH.true) in
    c.refuse_bounds.ensures
    ∙ ap bounds (sym (call_is _ _ _ _ ∙ goes_on _ _ (passed (goal.at.returns-then-k-gt-MOST_DEPTH c).In-Ok)
    ∙ too_deep _ _ _ _ deep))

pub cut-requires : goal.cut-requires
cut-requires c =
    record {
      cutting = cutting _ _ _ _ (passed (goal.at.cut-requires c).In-Ok)
          (omega (arith, c.if-k-gt-MOST_DEPTH.false));
      scratch_room = record { slots_room = lit≤ tt; keys_room = lit≤ tt; sums_room = lit≤ tt };
    }

pub returns-else-k-gt-MOST_DEPTH : goal.returns-else-k-gt-MOST_DEPTH
returns-else-k-gt-MOST_DEPTH c =
    let depth : c.args.k ≤ 6 = omega (arith, c.if-k-gt-MOST_DEPTH.false) in
    c.cut.ensures
    ∙ ap bounds (sym (call_is _ _ _ _ ∙ goes_on _ _ (passed (goal.at.returns-else-k-gt-MOST_DEPTH c).In-Ok)
    ∙ not_too_deep _ _ _ _ depth))

pub returns-in-Err : goal.returns-in-Err
returns-in-Err c =
    let e = sym c.integrating-v.ensures ∙ c.in-Err.is in
    c.refuse_bounds-in-Err.ensures ∙ ap bounds (sym (call_is _ _ _ _ ∙ is_refused _ _ _ _ e))
