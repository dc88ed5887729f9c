use mathlib.Core.Path.{◌≡◌, refl, sym, ◌∙◌, ap, subst}
use Prim.Native.Nat.{◌+◌, ◌*◌, ◌≤◌}
use native.Mathlib.Omega.{arith}
use borrow.Author.Tests.{not-true, not-false}
use mathlib.Core.Bool.{true}
use lib.Dec.{T}
use lib.ListN.{length}
use Rattle.calculus.specs.Model.{most_terms, most_degree, between, sound}
use Rattle.calculus_laws.specs.BookLaws.{between_high}
use Rattle.archive.specs.Ranks.{rank_width}
use Rattle.std.specs.Prelude.{Ok}
use Rattle.model_types.specs.ModelStruct.{view}
use Rattle.model_types.specs.ModelStructLaws.{Limits, limits, length_view}
use Rattle.model_archive.specs.StoringTestsLaws.{not_vars, not_sound, too_short, long_enough}
use borrow.Author.Rules.{rules}
use Rattle.model_archive.proofs.store.Goals as goal
use Rattle.model_archive.proofs.store.Goals.{Else-not-sound}

pub returns-then-not-from_one : goal.returns-then-not-from_one
returns-then-not-from_one c =
    let o = not_vars (view c.args.m) c.args.buffer.now (unfold view in sym c.from_one.ensures
    ∙ c.if-not-from_one.true) in
    record {
      answers = o.answers;
      leaves = o.leaves;
    }

pub returns-then-not-sound : goal.returns-then-not-sound
unfolding most_degree
returns-then-not-sound c =
    let o = not_sound (view c.args.m) c.args.buffer.now
    (unfold view in sym c.from_one.ensures ∙ c.if-not-from_one.false)
    (sym c.sound.ensures ∙ c.if-not-sound.true) in
    record {
      answers = o.answers;
      leaves = o.leaves;
    }

module _ (c : Else-not-sound) where
  passed : T (sound most_degree (view c.args.m))
  unfolding most_degree
  passed = subst T (sym (sym c.sound.ensures ∙ c.if-not-sound.false)) tt

  in_four : between 1 4 (view c.args.m).vars ≡ true
  unfolding view
  in_four = sym c.from_one.ensures ∙ c.if-not-from_one.false

  four : c.args.m.n ≤ rank_width
  unfolding view rank_width
  four = between_high 1 4 c.args.m.n (subst T (sym in_four) tt)

  few : c.args.m.count ≤ 64
  unfolding most_terms
  few = (limits _ _ passed).few

pub overflow_mul-size : goal.overflow_mul-size
overflow_mul-size c = omega (arith, few (goal.at.overflow_mul-size c).Else-not-sound)

pub overflow_add-size : goal.overflow_add-size
overflow_add-size c = omega (arith, few (goal.at.overflow_add-size c).Else-not-sound)

pub returns-then-buffer-size : goal.returns-then-buffer-size
returns-then-buffer-size c =
    let a = c.args in
    let o = too_short (view a.m) a.buffer.now (in_four (goal.at.returns-then-buffer-size c).Else-not-sound)
    (passed (goal.at.returns-then-buffer-size c).Else-not-sound)
    (omega (arith, c.if-buffer-size.true, length_view a.m)) in
    record {
      answers = o.answers;
      leaves = o.leaves;
    }

pub put_model-requires : goal.put_model-requires
put_model-requires c =
    record {
      t = passed (goal.at.put_model-requires c).Else-not-sound;
      n_le_rank_width = four (goal.at.put_model-requires c).Else-not-sound;
      count_in_bounds = c.if-buffer-size.false;
    }

pub returns : goal.returns
returns c =
    let a = c.args in
    let o = long_enough (view a.m) a.buffer.now (in_four (goal.at.returns c).Else-not-sound)
    (passed (goal.at.returns c).Else-not-sound)
    (omega (arith, c.if-buffer-size.false, length_view a.m)) _
    c.put_model.ensures in
    record {
      answers = ap (λ k. record { length = 6 + 6 * k; verdict = Ok tt }) (sym (length_view a.m)) ∙ o.answers;
      leaves = o.leaves;
    }
