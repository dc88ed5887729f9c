-- `deviation` multiplies and subtracts from 1: a refused product is the answer, and else the difference is.
use mathlib.Core.Path.{◌≡◌, refl, ap}
use mathlib.Core.List.{[], ◌∷◌}
use borrow.Author.Rules.{rules}
use lib.IntN.{ℤ, pos}
use mir.Syntax.{w64}
use mir.Val.{to_z, of_z}
use Rattle.numbers.specs.Fixed.{U}
use Rattle.fixed.specs.MachineLaws.{answered}
use Rattle.calculus.specs.Operations.{bare}
use Rattle.model_types.specs.declared.Model.{Model}
use Rattle.std.specs.Prelude.{Ok}
use Rattle.model_types.specs.ModelStruct.{view}
use Rattle.model_slices.specs.HandedModels.{handed}
use Rattle.model_slices.specs.HeldModels.{Room}
use Rattle.model_proposal.specs.SliceFormLaws.{handed_bare, deviation_stops, deviation_addends, deviation_left}
use Rattle.model_proposal.proofs.deviation.Goals as goal
use Rattle.model_proposal.proofs.deviation.Goals.{After-product-k, After-unit, In-Ok, Start}

-- ---- what is asked at the start
module _ (s : Start) where
  -- w, which has no radius
  abbrev first : Model
  first = handed s.args.n s.args.na 0 s.args.ka.now s.args.ca.now

  -- g
  abbrev second : Model
  second = handed s.args.n s.args.nb s.args.eb s.args.kb.now s.args.cb.now

  vars : second.n ≡ s.args.n
  unfolding handed
  vars = refl

  bared : view first ≡ bare (view first)
  bared = handed_bare s.args.n s.args.na 0 s.args.ka.now s.args.ca.now

pub product-k-requires : goal.product-k-requires
product-k-requires c =
    record {
      factors = c.requires.factors;
      counta_in_bounds = c.requires.na_in_bounds;
      countb_in_bounds = c.requires.nb_in_bounds;
      scratch_room = c.requires.scratch_room;
      room = record { keys = refl; coefficients = refl };
    }

-- ---- the product
module _ (c : After-product-k) where
  -- the arrays that its terms lie in
  room : Room c.product-k.new.stored c.product-k.new.out
  room = record {
    keys = c.product-k.auto.stored;
    coefficients = c.product-k.auto.out;
  }

pub returns-in_default : goal.returns-in_default
returns-in_default c =
    deviation_stops c.requires.factors (vars (goal.at.returns-in_default c).Start)
    (bared (goal.at.returns-in_default c).Start) c.product-k.ensures c.in_default.is _ _

-- it is accepted
module _ (c : In-Ok) where
  taken : c.product-k.result.verdict ≡ Ok tt
  taken = c.in-Ok.is

-- the coefficient of 1
one_term : (c : After-unit) → to_z w64 (of_z w64 c.unit.result) ∷ [] ≡ pos U ∷ []
one_term c = ap (λ (z : ℤ). z ∷ []) (answered c.unit.type_inv c.unit.ensures)

pub difference-requires : goal.difference-requires
difference-requires c =
    record {
      addends = deviation_addends c.requires.factors (vars (goal.at.difference-requires c).Start)
          (bared (goal.at.difference-requires c).Start) c.product-k.ensures
          (taken (goal.at.difference-requires c).In-Ok) refl (one_term (goal.at.difference-requires c).After-unit)
          (room (goal.at.difference-requires c).After-product-k);
      room = c.requires.room;
    }

pub returns : goal.returns
returns c =
    deviation_left c.requires.factors (vars (goal.at.returns c).Start) (bared (goal.at.returns c).Start)
    c.product-k.ensures (taken (goal.at.returns c).In-Ok) refl (one_term (goal.at.returns c).After-unit)
    c.difference.ensures
