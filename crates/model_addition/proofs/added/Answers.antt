-- `added` lends its arrays to the merge, and tests the limits of the struct that is made of what it fills.
use mathlib.Core.Path.{refl, sym, ◌∙◌, ap, subst}
use Prim.Native.Nat.{◌≤◌}
use native.Mathlib.Omega.{arith}
use borrow.Author.Rules.{rules}
use Rattle.calculus.specs.Model.{most_terms}
use Rattle.calculus.specs.Refusal.{at_place}
use Rattle.calculus.specs.Operations.{limited}
use Rattle.model_types.specs.Arrays.{padded}
use Rattle.model_types.specs.ModelStruct.{view, cause, answer}
use Rattle.model_slices.specs.HandedModels.{terms_of}
use Rattle.model_slices.specs.HeldModels.{held, Room}
use Rattle.model_slices.specs.HeldModelsLaws.{clear_struct}
use Rattle.model_limits.specs.Limits.{Packed}
use Rattle.model_addition.specs.MergePassLaws.{borrowed_sum, borrowed_answer, borrowed_radius}
use Rattle.model_addition.proofs.added.Goals as goal
use Rattle.model_addition.proofs.added.Goals.{Start}

module _ (c : Start) where
  first_room : Room c.args.a.keys c.args.a.coefficients
  first_room = record { keys = search rules; coefficients = search rules }

  second_room : Room c.args.b.keys c.args.b.coefficients
  second_room = record { keys = search rules; coefficients = search rules }

pub merged-count-requires : goal.merged-count-requires
merged-count-requires c =
    record {
      sum_of = borrowed_sum c.requires (first_room (goal.at.merged-count-requires c).Start)
          (second_room (goal.at.merged-count-requires c).Start);
      room = record { keys = refl; coefficients = refl };
    }

pub returns-then-count-gt-MOST_TERMS : goal.returns-then-count-gt-MOST_TERMS
unfolding cause
returns-then-count-gt-MOST_TERMS c =
    c.refuse.ensures
    ∙ sym ((c.merged-count.ensures.terms (borrowed_sum c.requires
    (first_room (goal.at.returns-then-count-gt-MOST_TERMS c).Start)
    (second_room (goal.at.returns-then-count-gt-MOST_TERMS c).Start))).many
    (omega (arith, c.if-count-gt-MOST_TERMS.true)))
    ∙ borrowed_answer c.requires (first_room (goal.at.returns-then-count-gt-MOST_TERMS c).Start)
    (second_room (goal.at.returns-then-count-gt-MOST_TERMS c).Start)

pub overflow_add-radius : goal.overflow_add-radius
overflow_add-radius c =
    record {
      fits = borrowed_radius c.requires (first_room (goal.at.overflow_add-radius c).Start)
          (second_room (goal.at.overflow_add-radius c).Start);
    }

pub limited-requires : goal.limited-requires
unfolding padded most_terms terms_of held
limited-requires c =
    let few : c.merged-count.result ≤ 64 = omega (arith, c.if-count-gt-MOST_TERMS.false) in
    subst Packed
    (sym (clear_struct _ _ (c.merged-count.ensures.clear few (record { keys_are = refl; coefficients_are = refl }))))
    ((c.merged-count.ensures.terms (borrowed_sum c.requires (first_room (goal.at.limited-requires c).Start)
    (second_room (goal.at.limited-requires c).Start))).packed few)

pub returns : goal.returns
unfolding padded most_terms terms_of held
returns c =
    let few : c.merged-count.result ≤ 64 = omega (arith, c.if-count-gt-MOST_TERMS.false) in
    c.limited.ensures
    ∙ ap (λ v. answer (at_place 0 (limited (view v))))
    (clear_struct _ _ (c.merged-count.ensures.clear few (record { keys_are = refl; coefficients_are = refl })))
    ∙ (c.merged-count.ensures.terms (borrowed_sum c.requires (first_room (goal.at.returns c).Start)
    (second_room (goal.at.returns c).Start))).sum few
    ∙ borrowed_answer c.requires (first_room (goal.at.returns c).Start) (second_room (goal.at.returns c).Start)
