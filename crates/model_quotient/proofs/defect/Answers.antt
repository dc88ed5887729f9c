-- `defect` multiplies, subtracts and multiplies: a refused product or difference is the answer.
use mathlib.Core.Path.{◌≡◌, refl, ◌∙◌}
use mathlib.Core.List.{List}
use Prim.Native.Nat.{ℕ}
use borrow.Author.Rules.{rules}
use lib.IntN.{ℤ}
use Rattle.calculus.specs.Refusal.{at_place}
use Rattle.calculus.specs.Operations.{bare}
use Rattle.model_types.specs.declared.Model.{Model}
use Rattle.std.specs.Prelude.{Ok}
use Rattle.model_types.specs.ModelStruct.{view, answer}
use Rattle.model_slices.specs.HandedModels.{handed}
use Rattle.model_slices.specs.HeldModels.{Room}
use Rattle.model_limits.specs.Limits.{LeftIn}
use Rattle.product_room.specs.ProductTermsLaws.{fewer_room, free_room}
use Rattle.model_proposal.specs.Proposal.{gap}
use Rattle.model_proposal.specs.FormLaws.{gap_asked, gap_factors}
use Rattle.model_proposal.specs.SliceFormLaws.{handed_bare, gap_products, form_products}
use Rattle.model_proposal.specs.SliceFormLaws.{gap_stops, gap_addends, gap_left}
use Rattle.model_proposal.specs.SliceFormLaws.{defect_stops, defect_few, defect_long, defect_asked, defect_left}
use Rattle.model_quotient.proofs.defect.Goals as goal
use Rattle.model_quotient.proofs.defect.Goals.{After-difference-l, After-product-k, In-Ok, Start}

-- ---- what is asked at the start
module _ (s : Start) where
  abbrev first : Model
  first = handed s.args.n s.args.nf s.args.ef s.args.kf.now s.args.cf.now

  abbrev second : Model
  second = handed s.args.n s.args.ng s.args.eg s.args.kg.now s.args.cg.now

  abbrev third : Model
  third = handed s.args.n s.args.nh 0 s.args.kh.now s.args.ch.now

  abbrev fourth : Model
  fourth = handed s.args.n s.args.nw 0 s.args.kw.now s.args.cw.now

  -- h and w have no radius
  third_bare : view third ≡ bare (view third)
  third_bare = handed_bare s.args.n s.args.nh 0 s.args.kh.now s.args.ch.now

  fourth_bare : view fourth ≡ bare (view fourth)
  fourth_bare = handed_bare s.args.n s.args.nw 0 s.args.kw.now s.args.cw.now

pub product-k-requires : goal.product-k-requires
product-k-requires c =
    record {
      factors = gap_factors (gap_asked c.requires.proposal) (third (goal.at.product-k-requires c).Start)
          (third_bare (goal.at.product-k-requires c).Start);
      counta_in_bounds = c.requires.ng_in_bounds;
      countb_in_bounds = c.requires.nh_in_bounds;
      scratch_room = fewer_room c.requires.scratch_room (gap_products c.args.ng c.args.nh c.args.nw);
      room = c.requires.room;
    }

-- ---- g × h
module _ (c : After-product-k) where
  abbrev kept : List ℕ
  kept = c.product-k.new.stored

  abbrev rounded : List ℤ
  rounded = c.product-k.new.out

  -- the slices that its terms lie in
  room : Room kept rounded
  room = record {
    keys = c.product-k.auto.stored ∙ c.requires.room.keys;
    coefficients = c.product-k.auto.out ∙ c.requires.room.coefficients;
  }

pub shape_of-slots-in_default : goal.shape_of-slots-in_default
shape_of-slots-in_default c = c.product-k.auto.slots

pub shape_of-keys-in_default : goal.shape_of-keys-in_default
shape_of-keys-in_default c = c.product-k.auto.keys

pub shape_of-sums-in_default : goal.shape_of-sums-in_default
shape_of-sums-in_default c = c.product-k.auto.sums

pub shape_of-keysy-in_default : goal.shape_of-keysy-in_default
shape_of-keysy-in_default c = c.product-k.auto.stored

pub shape_of-y-in_default : goal.shape_of-y-in_default
shape_of-y-in_default c = c.product-k.auto.out

-- it is refused
pub returns-in_default : goal.returns-in_default
returns-in_default c =
    let v = c.in_default.is in
    defect_stops c.requires.proposal (fourth_bare (goal.at.returns-in_default c).Start)
    (gap_stops c.args.n c.args.nf c.args.ef c.args.kf.now c.args.cf.now
    c.requires.nf_in_bounds (gap_asked c.requires.proposal) (third_bare (goal.at.returns-in_default c).Start)
    c.product-k.ensures v (kept (goal.at.returns-in_default c).After-product-k)
    (rounded (goal.at.returns-in_default c).After-product-k)) v _ _

-- it is accepted
module _ (c : In-Ok) where
  taken : c.product-k.result.verdict ≡ Ok tt
  taken = c.in-Ok.is

pub difference-l-requires : goal.difference-l-requires
difference-l-requires c =
    record {
      addends = gap_addends c.args.n c.args.nf c.args.ef c.args.kf.now c.args.cf.now
          c.requires.nf_in_bounds (gap_asked c.requires.proposal) (third_bare (goal.at.difference-l-requires c).Start)
          c.product-k.ensures (taken (goal.at.difference-l-requires c).In-Ok)
          (room (goal.at.difference-l-requires c).After-product-k);
      room = record { keys = refl; coefficients = refl };
    }

-- ---- g × h - f
module _ (c : After-difference-l) where
  abbrev begin : Start
  begin =
      let a = c.before.before.before.before.before.before.before.before.before.before.before.before.before in
      a.before.before.before.before.before.before.before.before.before.before.before.before.before

  abbrev rest : List ℕ
  rest = c.difference-l.new.stored

  abbrev differences : List ℤ
  differences = c.difference-l.new.out

  rest_room : Room rest differences
  rest_room = record {
    keys = c.difference-l.auto.stored;
    coefficients = c.difference-l.auto.out;
  }

  less : LeftIn begin.args.n c.difference-l.result rest differences
      (answer (at_place 0 (gap begin.args.d (view (first begin)) (view (second begin)) (view (third begin)))))
  less =
      let s = begin in
      gap_left s.args.n s.args.nf s.args.ef s.args.kf.now s.args.cf.now
      s.requires.nf_in_bounds (gap_asked s.requires.proposal) (third_bare s) c.product-k.ensures
      (taken (record {
        before = c.before.before.before.before;
        type_inv = record {
          keys = c.slice_known-5-1.given;
          slots = c.slice_known-4-1.given;
          kw = c.shared_slice_known-4-1.given;
          kh = c.shared_slice_known-3-1.given;
          kg = c.shared_slice_known-2-1.given;
          kf = c.shared_slice_known-1.given;
        };
      }))
      c.difference-l.ensures

pub shape_of-slots-in_default-u : goal.shape_of-slots-in_default-u
shape_of-slots-in_default-u c = c.product-k.auto.slots

pub shape_of-keys-in_default-u : goal.shape_of-keys-in_default-u
shape_of-keys-in_default-u c = c.product-k.auto.keys

pub shape_of-sums-in_default-u : goal.shape_of-sums-in_default-u
shape_of-sums-in_default-u c = c.product-k.auto.sums

pub shape_of-keysy-in_default-u : goal.shape_of-keysy-in_default-u
shape_of-keysy-in_default-u c = c.product-k.auto.stored

pub shape_of-y-in_default-u : goal.shape_of-y-in_default-u
shape_of-y-in_default-u c = c.product-k.auto.out

-- it is refused
pub returns-in_default-u : goal.returns-in_default-u
returns-in_default-u c =
    let s = begin (goal.at.returns-in_default-u c).After-difference-l in
    defect_stops s.requires.proposal (fourth_bare s) (less (goal.at.returns-in_default-u c).After-difference-l)
    c.in_default-u.is _ _

pub product-requires : goal.product-requires
product-requires c =
    let v = c.in-Ok-u.is in
    let s = begin (goal.at.product-requires c).After-difference-l in
    let free = free_room s.requires.scratch_room c.product-k.auto.slots c.product-k.auto.keys c.product-k.auto.sums
    in record {
      factors = defect_asked s.requires.proposal (fourth_bare s) (less (goal.at.product-requires c).After-difference-l)
          v (rest_room (goal.at.product-requires c).After-difference-l);
      counta_in_bounds = s.requires.nw_in_bounds;
      countb_in_bounds = defect_long s.requires.proposal (fourth_bare s)
          (less (goal.at.product-requires c).After-difference-l) v
          (rest_room (goal.at.product-requires c).After-difference-l);
      scratch_room = fewer_room free
          (form_products s.args.ng s.args.nh s.args.nw c.difference-l.result.count
          (defect_few s.requires.proposal (fourth_bare s) (less (goal.at.product-requires c).After-difference-l) v
          (rest_room (goal.at.product-requires c).After-difference-l)));
      room = room (goal.at.product-requires c).After-product-k;
    }

pub shape_of-slots : goal.shape_of-slots
shape_of-slots c = c.product.auto.slots ∙ c.product-k.auto.slots

pub shape_of-keys : goal.shape_of-keys
shape_of-keys c = c.product.auto.keys ∙ c.product-k.auto.keys

pub shape_of-sums : goal.shape_of-sums
shape_of-sums c = c.product.auto.sums ∙ c.product-k.auto.sums

pub shape_of-keysy : goal.shape_of-keysy
shape_of-keysy c = c.product.auto.stored ∙ c.product-k.auto.stored

pub shape_of-y : goal.shape_of-y
shape_of-y c = c.product.auto.out ∙ c.product-k.auto.out

pub returns : goal.returns
returns c =
    let s = begin (goal.at.returns c).After-difference-l in
    defect_left s.requires.proposal (fourth_bare s) (less (goal.at.returns c).After-difference-l) c.in-Ok-u.is
    (rest_room (goal.at.returns c).After-difference-l)
    c.product.ensures
