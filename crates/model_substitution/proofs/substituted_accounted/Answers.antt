-- `substituted_accounted` lends the arrays of both models, and packs what is left.
use mathlib.Core.Path.{◌≡◌, refl, sym, ◌∙◌, ap}
use borrow.Author.Rules.{rules}
use borrow.Author.Tests.{not-true, not-false}
use mathlib.Core.Bool.{true}
use Rattle.calculus.specs.Operations.{range_in_box}
use Rattle.model_types.specs.ModelStruct.{view, cause}
use Rattle.model_types.specs.ResultLaws.{sound_order}
use Rattle.model_slices.specs.HeldModels.{Room}
use Rattle.model_substitution_slices.specs.model_horner_iteration.HornerIteration.{KeptIn}
use Rattle.model_substitution_slices.specs.HornerLaws.{outside}
use Rattle.model_substitution.specs.OwnSlicesLaws.{kept_answer, own_of, answers, own_answer, own_few}
use Rattle.model_substitution.proofs.substituted_accounted.Goals as goal
use Rattle.model_substitution.proofs.substituted_accounted.Goals.{After-put_in-k, Start}

pub in_box-requires : goal.in_box-requires
in_box-requires c =
    let s = c.requires.substitution in
    sound_order _ _ s.order s.inner

pub returns-then-not-in_box : goal.returns-then-not-in_box
unfolding cause
returns-then-not-in_box c =
    outside _ _ _ _ (sym c.in_box.ensures ∙ c.if-not-in_box.true)
    c.refuse-refused.ensures

-- the arrays of both
module _ (c : Start) where
  outer_room : Room c.args.f.keys c.args.f.coefficients
  outer_room = record { keys = search rules; coefficients = search rules }

  inner_room : Room c.args.g.keys c.args.g.coefficients
  inner_room = record { keys = search rules; coefficients = search rules }

pub put_in-k-requires : goal.put_in-k-requires
put_in-k-requires c =
    let box : range_in_box (view c.args.g) ≡ true =
    sym c.in_box.ensures ∙ c.if-not-in_box.false in record {
      substitution_of = own_of c.requires.substitution (outer_room (goal.at.put_in-k-requires c).Start)
          (inner_room (goal.at.put_in-k-requires c).Start) box;
      scratch_room = c.requires.scratch_room;
      room = record { keys = refl; coefficients = refl };
      room_2 = record { keys = refl; coefficients = refl };
      room_3 = record { keys = refl; coefficients = refl };
    }

-- what is left
module _ (c : After-put_in-k) where
  abbrev begin : Start
  begin =
      let a = c.before.before.before.before.before.before.before.before.before.before.before in
      a.before.before.before.before.before.before.before.before.before.before.before

  left : KeptIn c.args.f.n c.put_in-k.result c.put_in-k.new.remaining c.put_in-k.new.rest
      (answers c.requires.substitution (outer_room begin) (inner_room begin))
  left = own_answer c.requires.substitution (outer_room begin) (inner_room begin) c.put_in-k.ensures

pub packed_answer-answer-requires : goal.packed_answer-answer-requires
packed_answer-answer-requires c = (
  own_few c.requires.substitution (outer_room (goal.at.packed_answer-answer-requires c).Start)
      (inner_room (goal.at.packed_answer-answer-requires c).Start)
      (left (goal.at.packed_answer-answer-requires c).After-put_in-k),
  record {
    keys = c.put_in-k.auto.remaining;
    coefficients = c.put_in-k.auto.rest;
  },
)

pub returns : goal.returns
returns c =
    ap (λ a. record { answer = a; shares = c.put_in-k.result.shares }) c.packed_answer-answer.ensures
    ∙ kept_answer _ _ (left (goal.at.returns c).After-put_in-k)
