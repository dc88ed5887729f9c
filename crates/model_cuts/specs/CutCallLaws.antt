-- The tests of the call: those of a model with an order and one of its variables, then the depth.
use Rattle.std.specs.Prelude.{◌≡◌, ℕ, ◌≤◌, ◌<◌, leb}
use Rattle.std.proofs.Math.Path.{sym, ap}
use Rattle.std.proofs.Common.{◌∙◌, le-leb}
use Rattle.std.proofs.lemmas.Bool.{lt-leb}
use Rattle.calculus.specs.Model as C
use Rattle.calculus.specs.Model.{most_degree, sound}
use Rattle.calculus_laws.specs.BookLaws.{between_low, between_high}
use Rattle.calculus.specs.Refusal.{cut_too_deep, Result, stopped, require_at, ◌followed_by◌}
use Rattle.calculus_laws.specs.RefusalLaws.{passed_at, at_followed}
use Rattle.calculus.specs.Operations.{Ends}
use Rattle.calculus.specs.Tests.{order_sound, variable_sound}
use Rattle.model_types.specs.declared.Model.{Model}
use Rattle.std.specs.Prelude.{Ok}
use Rattle.model_types.specs.ModelStruct.{view, verdict}
use Rattle.model_call_tests.specs.Admission.{integrating}
use Rattle.model_call_tests.specs.AdmissionLaws.{accepted_done}
use Rattle.model_cut_pieces.specs.Cutting.{Cutting}
use Rattle.cuts.specs.Cuts.{most_depth, cut_range, call_cut_range}

module _ (d i k : ℕ) (f : C.Model) where
  -- what comes after the first three tests
  unfoldable pub deep_enough : Result Ends
  deep_enough = require_at 0 (leb k most_depth) cut_too_deep (cut_range d i k f)

  pub call_is : call_cut_range d i k f ≡ (integrating d i f followed_by (λ u. deep_enough))
  unfolding call_cut_range integrating deep_enough ◌followed_by◌
  call_is = sym (at_followed 0 _ _ _ _ ∙ ap (require_at 0 (order_sound d) _)
      (at_followed 0 _ _ _ _ ∙ ap (require_at 0 (sound d f) _) (at_followed 0 _ _ _ _)))

  pub too_deep : 6 < k → deep_enough ≡ stopped cut_too_deep 0
  unfolding deep_enough require_at most_depth
  too_deep h = rw (lt-leb k 6 h)

  pub not_too_deep : k ≤ 6 → deep_enough ≡ cut_range d i k f
  unfolding deep_enough require_at most_depth
  not_too_deep h = rw (le-leb k 6 h)

-- what passes them can be cut
pub cutting : (d i k : ℕ) (f : Model) → verdict (integrating d i (view f)) ≡ Ok tt → k ≤ 6 → Cutting d i k f
unfolding integrating order_sound variable_sound most_depth view
cutting d i k f e h =
    let limit = passed_at 0 _ _ _ tt (accepted_done (integrating d i (view f)) e) in
    let model = passed_at 0 _ _ _ tt limit.result in
    let variable = (passed_at 0 _ _ _ tt model.result).test in
    record {
      order = between_high 1 most_degree d limit.test;
      positive = between_low 1 most_degree d limit.test;
      model = model.test;
      first = between_low 1 f.n i variable;
      last = between_high 1 f.n i variable;
      depth = h;
    }
