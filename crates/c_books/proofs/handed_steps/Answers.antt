-- `handed_steps` stores the steps one after the other.
use mathlib.Core.Path.{◌≡◌, refl}
use native.Mathlib.Omega.{arith}
use lib.IntN.{ℤ, pos}
use lib.ListN.{get_or}
use mir.Facts.{to_z-of_z}
use mir.Syntax.{w64}
use mir.Val.{to_z, of_z}
use Rattle.calculus.specs.Book.{most_steps}
use Rattle.model_types.specs.Arrays.{padded}
use Rattle.sheet_book.specs.BookStruct.{no_step}
use Rattle.c_books.specs.HandedBooks.{table, step_at, handed_steps}
use Rattle.c_books.specs.HandedBooksLaws.{steps_borrowed, table_more}
use Rattle.c_books.proofs.handed_steps.Goals as goal
use Rattle.c_books.proofs.handed_steps.Goals.{After-x-1}

pub loop-i-init : goal.loop-i-init
unfolding padded table most_steps
loop-i-init c = (refl, steps_borrowed _ _ _ c.step_places-places.ensures)

-- the value that is stored is the one that was read
module _ (c : After-x-1) where
  abbrev at : ℤ
  at = get_or c.args.values.now c.loop-i.i (pos 0)

  read_back : to_z w64 (of_z w64 at) ≡ at
  read_back = to_z-of_z {w = w64} (record { sfits = c.x-1.given })

pub loop-i-preserved : goal.loop-i-preserved
unfolding step_at most_steps
loop-i-preserved c =
    let a = c.args in
    let h = c.loop-i.invariant in (
      rw (h.0, read_back c)
          (table_more no_step 64 (step_at a.fields.now a.values.now) c.loop-i.i (omega (arith, h.1.few))),
      h.1,
    )

pub returns : goal.returns
unfolding handed_steps
returns c =
    let e : c.loop-i.i ≡ c.step_places-places.result = omega arith in
    rw (c.loop-i.invariant.0, e, c.step_places-places.ensures)
