-- `term_at` is the struct of the term at a place: with short keys, or with long ones.
use mathlib.Core.Path.{◌≡◌, sym, ◌∙◌, ap, ap₂}
use Prim.Native.Nat.{ℕ, ◌+◌, ◌*◌, ◌≤◌}
use native.Mathlib.Omega.{arith}
use lib.ListN.{length}
use lib.Seq.{drop-drop}
use Rattle.fixed.specs.MachineLaws.{answered}
use Rattle.format.specs.Bytes.{u32, signed}
use Rattle.format.proofs.KeyBytesLaws.{term_length_short, term_length_long, read_term_short, read_term_long}
use Rattle.sheet_book.specs.BookStruct.{stored_term}
use borrow.Author.Rules.{rules}
use Rattle.sheet_decode.proofs.term_at.Goals as goal

pub u16_at-requires : goal.u16_at-requires
u16_at-requires c = omega (arith, c.requires, term_length_short c.args.n c.if-n-le-MOST_SHORT.true)

pub signed_at-requires : goal.signed_at-requires
signed_at-requires c = omega (arith, c.requires, term_length_short c.args.n c.if-n-le-MOST_SHORT.true)

pub returns-then-n-le-MOST_SHORT : goal.returns-then-n-le-MOST_SHORT
unfolding stored_term
returns-then-n-le-MOST_SHORT c = let a = c.args in
    ap₂ (λ x y. record { key = x * 65536; coefficient = y }) c.u16_at.ensures
    (answered c.signed_at.type_inv c.signed_at.ensures
    ∙ ap (λ x. signed (u32 x)) (sym (drop-drop 2 a.at a.s.now)))
    ∙ ap stored_term (sym (read_term_short a.n _ c.if-n-le-MOST_SHORT.true))

pub u32_at-requires : goal.u32_at-requires
u32_at-requires c = omega (arith, c.requires, term_length_long c.args.n c.if-n-le-MOST_SHORT.false)

pub signed_at-requires-2 : goal.signed_at-requires-2
signed_at-requires-2 c = omega (arith, c.requires, term_length_long c.args.n c.if-n-le-MOST_SHORT.false)

pub returns : goal.returns
unfolding stored_term
returns c = let a = c.args in
    ap₂ (λ x y. record { key = x; coefficient = y }) c.u32_at.ensures
    (answered c.signed_at-2.type_inv c.signed_at-2.ensures
    ∙ ap (λ x. signed (u32 x)) (sym (drop-drop 4 a.at a.s.now)))
    ∙ ap stored_term (sym (read_term_long a.n _ c.if-n-le-MOST_SHORT.false))
