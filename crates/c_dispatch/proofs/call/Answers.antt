-- `call` tests what it is handed, and goes by the kind of its code.
use mathlib.Core.Path.{◌≡◌, sym, ◌∙◌, ap}
use mathlib.Core.Bool.{true}
use lib.ListN.{length}
use mir.Facts.{to_z-of_z}
use mir.Syntax.{w64}
use mir.Val.{to_z, of_z}
use Rattle.model_slices.specs.HandedModels.{model_room}
use Rattle.c_calls.specs.CallCodes.{call_fits, called}
use Rattle.c_calls.specs.CallCodesLaws.{fits_room}
use Rattle.c_calls.specs.CallKindsLaws.{two_codes, one_codes, other_codes}
use Rattle.c_products.specs.ProductCallLaws.{fits_borrowed}
use Rattle.c_dispatch.specs.StoredCallLaws.{fits_known}
use Rattle.c_dispatch.proofs.call.Goals as goal
use Rattle.c_dispatch.proofs.call.Goals.{Else-not-call_fits, Start}

read_back : (c : Start) → to_z w64 (of_z w64 c.args.value) ≡ c.args.value
read_back c = to_z-of_z c.ranges.value

-- the call fits
module _ (c : Else-not-call_fits) where
  fits : call_fits c.args.code c.args.count1 (length c.args.keys1.now)
      (length c.args.coefficients1.now) c.args.count2 (length c.args.keys2.now)
      (length c.args.coefficients2.now)
      (model_room (length c.args.keys.now) (length c.args.coefficients.now)
      (length c.args.numbers.now))
      ≡ true
  fits =
      ap (call_fits _ _ _ _ _ _ _) (sym c.model_room-room.ensures)
      ∙ sym c.call_fits.ensures ∙ c.if-not-call_fits.false

pub returns-then-not-call_fits : goal.returns-then-not-call_fits
unfolding called
returns-then-not-call_fits c = rw (
  sym c.model_room-room.ensures,
  sym c.call_fits.ensures ∙ c.if-not-call_fits.true,
)

pub of_two-requires-then-of_two : goal.of_two-requires-then-of_two
of_two-requires-then-of_two c =
    let e = (goal.at.of_two-requires-then-of_two c).Else-not-call_fits in
    let l = fits_borrowed _ _ _ _ _ _ _ _ (fits e) in
    record {
      coefficients1_value = l.0;
      coefficients2_value = l.1;
      most_terms_in_bounds = fits_room _ _ _ _ _ _ _ _ _ _ (fits e);
    }

pub returns-then-of_two : goal.returns-then-of_two
unfolding called
returns-then-of_two c =
    rw (
      c.of_two-then-of_two.ensures,
      two_codes _ _ _ _ _ _ (sym c.of_two.ensures ∙ c.if-of_two.true),
      fits (goal.at.returns-then-of_two c).Else-not-call_fits,
    )

pub of_one-requires-then-of_one : goal.of_one-requires-then-of_one
of_one-requires-then-of_one c =
    let e = (goal.at.of_one-requires-then-of_one c).Else-not-call_fits in
    record {
      incoefficients_value = (fits_borrowed _ _ _ _ _ _ _ _ (fits e)).0;
      most_terms_in_bounds = fits_room _ _ _ _ _ _ _ _ _ _ (fits e);
    }

pub returns-then-of_one : goal.returns-then-of_one
unfolding called
returns-then-of_one c =
    rw (
      c.of_one-then-of_one.ensures,
      read_back (goal.at.returns-then-of_one c).Start,
      one_codes _ _ _ _ _ _ (sym c.of_one.ensures ∙ c.if-of_one.true),
      fits (goal.at.returns-then-of_one c).Else-not-call_fits,
    )

pub other-requires : goal.other-requires
other-requires c = fits_room _ _ _ _ _ _ _ _ _ _ (fits (goal.at.other-requires c).Else-not-call_fits)

pub returns : goal.returns
unfolding called
returns c =
    let e = (goal.at.returns c).Else-not-call_fits in
    rw (
      c.other.ensures,
      read_back (goal.at.returns c).Start,
      other_codes _ _ _ _ _ _ (fits_known _ _ _ _ _ _ _ _ (fits e)) (sym c.of_two.ensures ∙ c.if-of_two.false)
          (sym c.of_one.ensures ∙ c.if-of_one.false),
      fits e,
    )
