-- `ends` tests what it is handed, makes the call and stores its answer.
use mathlib.Core.Path.{◌≡◌, sym, ◌∙◌}
use mathlib.Core.Bool.{true}
use lib.ListN.{length}
use Rattle.c_calls.specs.CallCodes.{ends_call_fits, called_ends}
use Rattle.c_calls.specs.CallCodesLaws.{fits_ends, ends_call_small}
use Rattle.c_dispatch.specs.StoredCallLaws.{fits_slices}
use Rattle.c_dispatch.proofs.ends.Goals as goal
use Rattle.c_dispatch.proofs.ends.Goals.{Else-not-ends_call_fits}

-- the call fits
module _ (c : Else-not-ends_call_fits) where
  fits : ends_call_fits c.args.code c.args.count (length c.args.keys.now)
      (length c.args.coefficients.now) (length c.args.point.now) (length c.args.ends.now)
      ≡ true
  fits = sym c.ends_call_fits.ensures ∙ c.if-not-ends_call_fits.false

pub returns-then-not-ends_call_fits : goal.returns-then-not-ends_call_fits
unfolding called_ends
returns-then-not-ends_call_fits c = rw (sym c.ends_call_fits.ensures ∙ c.if-not-ends_call_fits.true)

pub ends_call-b-requires : goal.ends_call-b-requires
ends_call-b-requires c = fits_slices _ _ _ _ _ _ (fits (goal.at.ends_call-b-requires c).Else-not-ends_call_fits)

pub store_ends-requires : goal.store_ends-requires
store_ends-requires c = (
  fits_ends _ _ _ _ _ _ (fits (goal.at.store_ends-requires c).Else-not-ends_call_fits),
  rw c.ends_call-b.ensures (ends_call_small _ _ _),
)

pub returns : goal.returns
unfolding called_ends
returns c =
    rw (c.store_ends.ensures, c.ends_call-b.ensures, fits (goal.at.returns c).Else-not-ends_call_fits)
