-- `put_integer` puts a space and, of a negative number, its sign, then the size.
use mathlib.Core.Path.{◌≡◌, sym, ap, ◌∙◌}
use mathlib.Core.List.{[], ◌∷◌, ◌++◌}
use borrow.Author.Rules.{rules}
use lib.IntN.{nat_abs}
use mir.Facts.{to_z-of_z}
use Rattle.fixed.specs.MachineLaws.{negative, not_negative}
use Rattle.format.specs.Lines.{text, decimal}
use Rattle.text_decimal.specs.Put.{natural, integer}
use Rattle.text_decimal.specs.PutLaws.{◌then_put◌, put_as, room_before, room_after, integer_negative}
use Rattle.text_decimal.specs.PutLaws.{integer_natural}
use Rattle.text_decimal.proofs.put_integer.Goals as goal
use Rattle.text_decimal.proofs.put_integer.Goals.{After-magnitude-size, Else-z-lt0, Then-z-lt0}

-- the size
size_is : (c : After-magnitude-size) → c.magnitude-size.result ≡ nat_abs c.args.z
size_is c = c.magnitude-size.ensures ∙ ap nat_abs (to_z-of_z c.ranges.z)

-- the bytes of a negative number, and of any other
with_sign : (c : Then-z-lt0)
    → integer c.args.z ≡ text " -" ++ decimal c.magnitude-size.result
with_sign c =
    integer_negative c.args.z (negative c.ranges.z c.if-z-lt0.true)
    ∙ ap (λ x. text " -" ++ decimal x) (sym (size_is
    (record { before = c.before.before; type_inv = record { out = c.slice_known-1.given } })))

without_sign : (c : Else-z-lt0) → integer c.args.z ≡ natural c.magnitude-size.result
without_sign c =
    integer_natural c.args.z (not_negative c.ranges.z c.if-z-lt0.false)
    ∙ ap natural (sym (size_is (record {
      before = c.before.before;
      type_inv = record
          { out = c.slice_known-1.given };
    })))

pub put_bytes-next-requires : goal.put_bytes-next-requires
unfolding text
put_bytes-next-requires c =
    room_before (32 ∷ 45 ∷ []) _ (rw (with_sign (goal.at.put_bytes-next-requires c).Then-z-lt0) at c.requires)

pub put_decimal-requires : goal.put_decimal-requires
unfolding text
put_decimal-requires c =
    room_after (32 ∷ 45 ∷ []) _ (rw (with_sign (goal.at.put_decimal-requires c).Then-z-lt0) at c.requires)
    c.put_bytes-next.ensures

pub returns-then-z-lt0 : goal.returns-then-z-lt0
unfolding text
returns-then-z-lt0 c =
    put_as (sym (with_sign (goal.at.returns-then-z-lt0 c).Then-z-lt0))
    (c.put_bytes-next.ensures then_put c.put_decimal.ensures)

pub put_natural-requires : goal.put_natural-requires
put_natural-requires c =
    rw (without_sign (goal.at.put_natural-requires c).Else-z-lt0) at c.requires

pub returns : goal.returns
returns c =
    put_as (sym (without_sign (goal.at.returns c).Else-z-lt0)) c.put_natural.ensures
