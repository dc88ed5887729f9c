-- `put_decimal` spells the number into an array from its last digit, then puts what is spelled.
use mathlib.Core.Path.{◌≡◌, refl}
use Prim.Native.Nat.{◌-◌}
use native.Mathlib.Omega.{arith}
use borrow.Author.Rules.{rules}
use lib.ListN.{take, drop, set, length-set}
use Rattle.format.specs.Lines.{decimal}
use Rattle.text_decimal.specs.PutLaws.{put_as, put_length}
use Rattle.text_decimal.specs.DigitsLaws.{Spelled, spelled_none, spelled_more, spelled_all}
use Rattle.text_decimal.proofs.put_decimal.Goals as goal
use Rattle.text_decimal.proofs.put_decimal.Goals.{After-digit-2}

-- what is put at last
digits_at : (c : After-digit-2)
    → take (20 - (c.loop-rest.first - 1))
    (drop (c.loop-rest.first - 1)
    (set c.loop-rest.digits (c.loop-rest.first - 1) c.digit-2.result))
    ≡ decimal c.args.x
digits_at c = spelled_all c.loop-rest.invariant c.loop-rest-test.false _ c.digit-2.ensures

pub loop-rest-init : goal.loop-rest-init
loop-rest-init c = spelled_none c.args.x _ c.ranges.x.fits refl

pub overflow_sub-first : goal.overflow_sub-first
overflow_sub-first c = c.loop-rest.invariant.some

pub digit-requires : goal.digit-requires
digit-requires c = omega arith

pub bounds-digits-first : goal.bounds-digits-first
bounds-digits-first c = let h = c.loop-rest.invariant.within in omega (arith, c.loop-rest.invariant.some)

pub loop-rest-smaller : goal.loop-rest-smaller
loop-rest-smaller c = omega arith

pub loop-rest-preserved : goal.loop-rest-preserved
loop-rest-preserved c = spelled_more c.loop-rest.invariant c.loop-rest-test.true _ c.digit.ensures

pub overflow_sub-first-2 : goal.overflow_sub-first-2
overflow_sub-first-2 c = c.loop-rest.invariant.some

pub digit-requires-2 : goal.digit-requires-2
digit-requires-2 c = omega arith

pub bounds-digits-first-2 : goal.bounds-digits-first-2
bounds-digits-first-2 c = omega (arith, c.loop-rest.invariant.some, c.loop-rest.invariant.within)

pub slice_bounds-put_bytes-count : goal.slice_bounds-put_bytes-count
slice_bounds-put_bytes-count c = omega (arith, c.loop-rest.invariant.within)

pub slice_bounds-put_bytes-end : goal.slice_bounds-put_bytes-end
slice_bounds-put_bytes-end c =
    omega (arith, c.loop-rest.invariant.places, length-set c.loop-rest.digits (c.loop-rest.first - 1) c.digit-2.result)

pub put_bytes-requires : goal.put_bytes-requires
put_bytes-requires c =
    rw (digits_at (goal.at.put_bytes-requires c).After-digit-2) c.requires

pub shape_of-out : goal.shape_of-out
shape_of-out c = put_length c.put_bytes.ensures

pub returns : goal.returns
returns c =
    put_as (digits_at (goal.at.returns c).After-digit-2) c.put_bytes.ensures
