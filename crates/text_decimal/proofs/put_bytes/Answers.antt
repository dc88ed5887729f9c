-- `put_bytes` puts one byte after another: the invariant is what the first i leave.
use Prim.Native.Nat.{◌≤◌, ◌<◌, ◌-◌}
use native.Mathlib.Omega.{arith}
use borrow.Author.Rules.{rules}
use lib.ListN.{length, take}
use lib.Seq.{length-take-le, take_all}
use Rattle.text_decimal.specs.Put.{Put}
use Rattle.text_decimal.specs.PutLaws.{put_nothing, put_as, put_next, put_length}
use Rattle.text_decimal.proofs.put_bytes.Goals as goal

pub loop-byte-init : goal.loop-byte-init
loop-byte-init c = (omega arith, put_nothing)

-- the place counts the bytes put so far
pub put_byte-next-requires : goal.put_byte-next-requires
put_byte-next-requires c =
    omega (
      arith,
      c.loop-byte.invariant.1.counted,
      length-take-le c.loop-byte.byte-index c.args.bytes.now c.loop-byte.invariant.0,
      c.requires,
    )

pub loop-byte-preserved : goal.loop-byte-preserved
loop-byte-preserved c =
    let bytes = c.args.bytes.now in
    let h : c.loop-byte.byte-index < length bytes = omega arith in (
      omega arith,
      put_next bytes c.loop-byte.byte-index h c.loop-byte.invariant.1 c.put_byte-next.ensures,
    )

pub shape_of-out : goal.shape_of-out
shape_of-out c = put_length c.loop-byte.invariant.1

pub returns : goal.returns
returns c =
    put_as (take_all c.loop-byte.byte-index c.args.bytes.now (omega arith)) c.loop-byte.invariant.1
