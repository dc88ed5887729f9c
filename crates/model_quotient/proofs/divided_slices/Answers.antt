-- `divided_slices` makes the two forms, of which a refused one is the answer, and then the certificate.
use mathlib.Core.Path.{◌≡◌, refl, ◌∙◌}
use Prim.Native.Nat.{◌≤◌}
use borrow.Author.Rules.{rules}
use Rattle.calculus.specs.Model.{most_terms}
use Rattle.model_types.specs.declared.Model.{Model}
use Rattle.std.specs.Prelude.{Ok}
use Rattle.model_types.specs.ModelStructLaws.{limits}
use Rattle.model_slices.specs.HandedModels.{handed}
use Rattle.model_slices.specs.HeldModels.{Room}
use Rattle.product_room.specs.ProductTermsLaws.{fewer_room, free_room}
use Rattle.model_proposal.specs.SliceFormLaws.{form_products}
use Rattle.model_quotient.specs.QuotientFormLaws.{second_factors, proposed_sound, first_refused, first_lies}
use Rattle.model_quotient.specs.QuotientFormLaws.{second_refused, second_lies, quotient_answer}
use Rattle.model_quotient.proofs.divided_slices.Goals as goal
use Rattle.model_quotient.proofs.divided_slices.Goals.{After-defect-first, After-deviation-second, In-Ok, Start}

-- ---- what is asked at the start
module _ (s : Start) where
  abbrev second : Model
  second = handed s.args.n s.args.countg s.args.radiusg s.args.keysg.now s.args.coefficientsg.now

  few_second : s.args.countg ≤ most_terms
  unfolding handed
  few_second = (limits s.args.d second s.requires.proposal.divisor).few

pub defect-first-requires : goal.defect-first-requires
defect-first-requires c =
    record {
      proposal = c.requires.proposal;
      nf_in_bounds = c.requires.countf_in_bounds;
      ng_in_bounds = c.requires.countg_in_bounds;
      nh_in_bounds = c.requires.counth_in_bounds;
      nw_in_bounds = c.requires.countw_in_bounds;
      scratch_room = c.requires.scratch_room;
      room = record { keys = refl; coefficients = refl };
    }

-- ---- the first form
module _ (c : After-defect-first) where
  -- the arrays that its terms lie in
  first_room : Room c.defect-first.new.keysy c.defect-first.new.y
  first_room = record {
    keys = c.defect-first.auto.keysy;
    coefficients = c.defect-first.auto.y;
  }

pub shape_of-slots-in_default : goal.shape_of-slots-in_default
shape_of-slots-in_default c = c.defect-first.auto.slots

pub shape_of-keys-in_default : goal.shape_of-keys-in_default
shape_of-keys-in_default c = c.defect-first.auto.keys

pub shape_of-sums-in_default : goal.shape_of-sums-in_default
shape_of-sums-in_default c = c.defect-first.auto.sums

pub returns-in_default : goal.returns-in_default
returns-in_default c =
    let v = c.in_default.is in
    c.refused.ensures.refuses _ _ v ∙ first_refused c.requires.proposal c.defect-first.ensures _ _ v

-- it is accepted
module _ (c : In-Ok) where
  taken : c.defect-first.result.verdict ≡ Ok tt
  taken = c.in-Ok.is

pub deviation-second-requires : goal.deviation-second-requires
deviation-second-requires c =
    let free = free_room c.requires.scratch_room c.defect-first.auto.slots c.defect-first.auto.keys
    c.defect-first.auto.sums in record {
      factors = second_factors c.requires.proposal;
      na_in_bounds = c.requires.countw_in_bounds;
      nb_in_bounds = c.requires.countg_in_bounds;
      scratch_room = fewer_room free
          (form_products c.args.countg c.args.counth c.args.countw c.args.countg
          (few_second (goal.at.deviation-second-requires c).Start));
      room = record { keys = refl; coefficients = refl };
    }

-- ---- the second form
module _ (c : After-deviation-second) where
  -- the arrays that its terms lie in
  second_room : Room c.deviation-second.new.keysz c.deviation-second.new.z
  second_room = record {
    keys = c.deviation-second.auto.keysz;
    coefficients = c.deviation-second.auto.z;
  }

pub shape_of-slots-in_default-u : goal.shape_of-slots-in_default-u
shape_of-slots-in_default-u c = c.deviation-second.auto.slots ∙ c.defect-first.auto.slots

pub shape_of-keys-in_default-u : goal.shape_of-keys-in_default-u
shape_of-keys-in_default-u c = c.deviation-second.auto.keys ∙ c.defect-first.auto.keys

pub shape_of-sums-in_default-u : goal.shape_of-sums-in_default-u
shape_of-sums-in_default-u c = c.deviation-second.auto.sums ∙ c.defect-first.auto.sums

pub returns-in_default-u : goal.returns-in_default-u
returns-in_default-u c =
    let u = c.in_default-u.is in
    c.refused-in_default-u.ensures.refuses _ _ u
    ∙ second_refused c.requires.proposal c.defect-first.ensures (taken (goal.at.returns-in_default-u c).In-Ok)
    c.deviation-second.ensures _ _ u

pub judged-requires : goal.judged-requires
judged-requires c =
    let u = c.in-Ok-u.is in
    let s = c.requires in record {
      t = proposed_sound s.proposal;
      count_in_bounds = s.counth_in_bounds;
      lies = first_lies s.proposal c.defect-first.ensures (taken (goal.at.judged-requires c).In-Ok)
          (first_room (goal.at.judged-requires c).After-defect-first);
      lies_2 = second_lies s.proposal c.defect-first.ensures (taken (goal.at.judged-requires c).In-Ok)
          c.deviation-second.ensures u (second_room (goal.at.judged-requires c).After-deviation-second);
    }

pub shape_of-slots : goal.shape_of-slots
shape_of-slots c = c.deviation-second.auto.slots ∙ c.defect-first.auto.slots

pub shape_of-keys : goal.shape_of-keys
shape_of-keys c = c.deviation-second.auto.keys ∙ c.defect-first.auto.keys

pub shape_of-sums : goal.shape_of-sums
shape_of-sums c = c.deviation-second.auto.sums ∙ c.defect-first.auto.sums

pub returns : goal.returns
returns c =
    let u = c.in-Ok-u.is in
    let s = c.requires.proposal in
    let d = c.defect-first.ensures in
    let e = c.deviation-second.ensures in
    quotient_answer s d (taken (goal.at.returns c).In-Ok) e u
    (c.judged.ensures (first_lies s d (taken (goal.at.returns c).In-Ok)
    (first_room (goal.at.returns c).After-defect-first))
    (second_lies s d (taken (goal.at.returns c).In-Ok) e u
    (second_room (goal.at.returns c).After-deviation-second)))
