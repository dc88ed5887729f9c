-- `handed_models` stores the models one after the other.
use mathlib.Core.Path.{◌≡◌, ◌∙◌, ap}
use native.Mathlib.Omega.{arith}
use lib.ListN.{replicate}
use Rattle.calculus.specs.Book.{most_models}
use Rattle.model_types.specs.Arrays.{padded}
use Rattle.sheet_book.specs.BookStruct.{no_model}
use Rattle.sheet_book.proofs.ZeroLaws.{no_model_packed}
use Rattle.c_books.specs.HandedBooks.{table, model_at, handed_models}
use Rattle.c_books.specs.HandedBooksLaws.{models_borrowed, table_more}
use Rattle.c_books.proofs.handed_models.Goals as goal

pub loop-k-init : goal.loop-k-init
unfolding padded table most_models
loop-k-init c = (
  ap (replicate 16) (c.without_terms-none.ensures ∙ no_model_packed),
  models_borrowed _ _ _ _ _ _ c.model_places-places.ensures,
)

pub model_at-m-requires : goal.model_at-m-requires
model_at-m-requires c = omega (arith, c.model_places-places.ensures)

pub loop-k-preserved : goal.loop-k-preserved
unfolding most_models
loop-k-preserved c =
    let a = c.args in
    let h = c.loop-k.invariant in (
      rw (h.0, c.model_at-m.ensures)
          (table_more no_model 16 (model_at a.ns.now a.counts.now a.radii.now a.keys.now
          a.coefficients.now) c.loop-k.k (omega (arith, h.1.few))),
      h.1,
    )

pub returns : goal.returns
unfolding handed_models
returns c =
    let e : c.loop-k.k ≡ c.model_places-places.result = omega arith in
    rw (c.loop-k.invariant.0, e, c.model_places-places.ensures)
