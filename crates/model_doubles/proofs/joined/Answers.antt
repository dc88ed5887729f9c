-- `joined` divides the digits of each part and adds up the radius.
use mathlib.Core.Path.{◌≡◌, sym, ◌∙◌, ap, subst}
use Prim.Native.Nat.{◌+◌, ◌<◌, ◌≤◌}
use native.Mathlib.Omega.{arith}
use borrow.Author.Rules.{rules}
use mir.Facts.{to_z-of_z}
use mir.Syntax.{w64}
use mir.Val.{to_z, of_z}
use Rattle.model_types.specs.ModelStruct.{pack}
use Rattle.doubles.specs.Doubles.{model_of}
use Rattle.model_doubles.specs.DoubleParts.{scaled}
use Rattle.model_doubles.specs.ScaledPartsLaws.{at_most_one, raised_few}
use Rattle.model_doubles.proofs.joined.Goals as goal
use Rattle.model_doubles.proofs.joined.Goals.{After-rounded_up, After-struct_told-3-1, After-to_units-x, After-to_units-y, After-to_units-z}

pub to_units-x-requires : goal.to_units-x-requires
to_units-x-requires c = record {
  digits_bound = c.requires.few_0;
  places_le_point = c.requires.low_0;
}

pub to_units-y-requires : goal.to_units-y-requires
to_units-y-requires c = record {
  digits_bound = c.requires.few_1;
  places_le_point = c.requires.low_1;
}

pub to_units-z-requires : goal.to_units-z-requires
to_units-z-requires c = record {
  digits_bound = c.requires.few_2;
  places_le_point = c.requires.low_2;
}

pub rounded_up-requires : goal.rounded_up-requires
rounded_up-requires c = c.requires.low_3

-- the four summands
radius_few : (c : After-rounded_up) → c.rounded_up.result < 9007199254740992
radius_few c =
    omega (arith, c.rounded_up.ensures, raised_few c.args.e.digits c.args.e.places c.requires.few_3)

first_one : (c : After-to_units-x) → c.to_units-x.result.inexact ≤ 1
first_one c = subst (λ i. i ≤ 1) (sym (ap (λ r. r.inexact) c.to_units-x.ensures)) (at_most_one _)

second_one : (c : After-to_units-y) → c.to_units-y.result.inexact ≤ 1
second_one c = subst (λ i. i ≤ 1) (sym (ap (λ r. r.inexact) c.to_units-y.ensures)) (at_most_one _)

third_one : (c : After-to_units-z) → c.to_units-z.result.inexact ≤ 1
third_one c = subst (λ i. i ≤ 1) (sym (ap (λ r. r.inexact) c.to_units-z.ensures)) (at_most_one _)

pub overflow_add-radius : goal.overflow_add-radius
overflow_add-radius c =
    record {
      fits = omega (
        arith,
        radius_few (goal.at.overflow_add-radius c).After-rounded_up,
        first_one (goal.at.overflow_add-radius c).After-to_units-x,
      );
    }

pub overflow_add-radius-2 : goal.overflow_add-radius-2
overflow_add-radius-2 c =
    record {
      fits = omega (
        arith,
        radius_few (goal.at.overflow_add-radius-2 c).After-rounded_up,
        first_one (goal.at.overflow_add-radius-2 c).After-to_units-x,
        second_one (goal.at.overflow_add-radius-2 c).After-to_units-y,
      );
    }

pub overflow_add-radius-3 : goal.overflow_add-radius-3
overflow_add-radius-3 c =
    record {
      fits = omega (
        arith,
        radius_few (goal.at.overflow_add-radius-3 c).After-rounded_up,
        first_one (goal.at.overflow_add-radius-3 c).After-to_units-x,
        second_one (goal.at.overflow_add-radius-3 c).After-to_units-y,
        third_one (goal.at.overflow_add-radius-3 c).After-to_units-z,
      );
    }

-- the coefficients, read back
module _ (c : After-struct_told-3-1) where
  first_back : to_z w64 (of_z w64 c.to_units-x.result.coefficient) ≡ (scaled c.args.a).coefficient
  first_back = to_z-of_z {w = w64} (record { sfits = c.struct_told-1.given.0.1 })
      ∙ ap (λ r. r.coefficient) c.to_units-x.ensures

  second_back : to_z w64 (of_z w64 c.to_units-y.result.coefficient) ≡ (scaled c.args.b).coefficient
  second_back = to_z-of_z {w = w64} (record { sfits = c.struct_told-2-1.given.0.1 })
      ∙ ap (λ r. r.coefficient) c.to_units-y.ensures

  third_back : to_z w64 (of_z w64 c.to_units-z.result.coefficient) ≡ (scaled c.args.c).coefficient
  third_back = to_z-of_z {w = w64} (record { sfits = c.struct_told-3-1.given.0.1 })
      ∙ ap (λ r. r.coefficient) c.to_units-z.ensures

pub returns : goal.returns
returns c =
    c.model_of.ensures
    ∙ ap pack (λ i. model_of (first_back (goal.at.returns c).After-struct_told-3-1 i)
    (second_back (goal.at.returns c).After-struct_told-3-1 i)
    (third_back (goal.at.returns c).After-struct_told-3-1 i)
    (c.rounded_up.ensures i + (c.to_units-x.ensures i).inexact + (c.to_units-y.ensures i).inexact
    + (c.to_units-z.ensures i).inexact))
