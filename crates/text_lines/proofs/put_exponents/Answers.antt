-- `put_exponents` puts one exponent in each iteration: the invariant is what the first i leave.
use mathlib.Core.Path.{◌≡◌, ap, ◌∙◌}
use Prim.Native.Nat.{◌-◌, ◌<◌}
use native.Mathlib.Omega.{arith}
use borrow.Author.Rules.{rules}
use lib.ListN.{length, get_or}
use Rattle.calculus.specs.Key.{monomial_of}
use Rattle.calculus_laws.specs.MonomialKeyLaws.{monomial_length}
use Rattle.model.specs.OperationLaws.{monomial_place}
use Rattle.text_decimal.specs.Put.{natural}
use Rattle.text_decimal.specs.PutLaws.{put_as, put_length}
use Rattle.text_lines.specs.LineLaws.{Listed, listed_none, listed_room, listed_more, listed_all}
use Rattle.text_lines.proofs.put_exponents.Goals as goal
use Rattle.text_lines.proofs.put_exponents.Goals.{After-exponent_of, In-loop-i, Start}

-- there are n exponents
many : (c : Start) → length (monomial_of c.args.n c.args.key) ≡ c.args.n
many c = monomial_length c.args.n c.args.key c.requires.key_in.width c.requires.key_in.fits

-- of which the loop is at one
within : (c : In-loop-i)
    → c.loop-i.i
    < length (monomial_of c.args.n c.args.key)
within c = omega (arith, many c.before.before.before)

-- the next one
next_is : (c : After-exponent_of)
    → c.exponent_of.result
    ≡ get_or (monomial_of c.args.n
    c.args.key) c.loop-i.i 0
next_is c =
    c.exponent_of.ensures
    ∙ monomial_place c.args.n c.loop-i.i c.args.key c.requires.key_in.width (omega arith) c.requires.key_in.fits

pub loop-i-init : goal.loop-i-init
loop-i-init c = listed_none natural _

pub exponent_of-requires : goal.exponent_of-requires
exponent_of-requires c = record {
  first = omega arith;
  last = omega (arith, c.requires);
}

pub overflow_cast-exponent_of : goal.overflow_cast-exponent_of
overflow_cast-exponent_of c = omega (arith, c.exponent_of.type_inv)

pub put_natural-next-requires : goal.put_natural-next-requires
put_natural-next-requires c = rw (next_is c)
    (listed_room natural _ c.loop-i.invariant 0 (within (goal.at.put_natural-next-requires c).In-loop-i)
    c.requires.room)

pub loop-i-preserved : goal.loop-i-preserved
loop-i-preserved c =
    listed_more natural _ c.loop-i.invariant 0 (within (goal.at.loop-i-preserved c).In-loop-i)
    (put_as (ap natural (next_is (goal.at.loop-i-preserved c).After-exponent_of)) c.put_natural-next.ensures)

pub shape_of-out : goal.shape_of-out
shape_of-out c = put_length c.loop-i.invariant.put

pub returns : goal.returns
returns c =
    listed_all natural _ c.loop-i.invariant (omega (arith, many (goal.at.returns c).Start))
