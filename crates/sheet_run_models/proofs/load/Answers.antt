-- `load` puts one model after the other.
use mathlib.Core.Path.{◌≡◌, refl, sym, ◌∙◌, subst}
use mathlib.Core.List.{[]}
use Prim.Native.Nat.{◌+◌, ◌-◌, ◌<◌, ◌≤◌}
use native.Mathlib.Omega.{arith}
use lib.ListN.{length, get_or, length-map}
use Rattle.calculus.specs.Book.{most_models, model_of}
use Rattle.model_types.specs.declared.Model.{Model}
use Rattle.model_types.specs.ModelStruct.{of_terms, view}
use Rattle.format.specs.HeldBook.{view_book}
use Rattle.sheet_book.specs.declared.Book.{Book}
use Rattle.sheet_book.specs.BookStruct.{held_book}
use Rattle.sheet_book.specs.FailingLaws.{count_models}
use Rattle.sheet_results.specs.Results.{Results, results, Roomy}
use Rattle.sheet_results.specs.ResultsLaws.{roomy_less}
use Rattle.sheet_run_laws.specs.RunLaws.{models_few}
use Rattle.sheet_run_laws.specs.MemoryLaws.{LoadedFirst, model_here, load_room, load_more, load_end, own_steps}
use borrow.Author.Rules.{rules}
use Rattle.sheet_run_models.proofs.load.Goals as goal
use Rattle.sheet_run_models.proofs.load.Goals.{In-loop-k}

pub loop-k-init : goal.loop-k-init
loop-k-init c = (c.requires.roomy, λ a l. absurd (omega (arith, l)))

-- ---- the model at hand
-- a place past the end of the models
abbrev empty_place : Model
empty_place = of_terms 0 0 0 []

module _ (c : In-loop-k) where
  abbrev book : Book
  book = c.args.b

  abbrev memory : Results
  memory = results c.loop-k.keys c.loop-k.coefficients c.loop-k.counts
      c.loop-k.radii

  inside : c.loop-k.k < book.model_count
  inside = c.loop-k-test.true

  held : c.loop-k.k < length (held_book book).models
  held = omega (arith, inside, count_models book)

  few : c.loop-k.k < most_models
  few = omega (arith, held, models_few c.requires.held_passes)

  place : c.loop-k.k < most_models + book.step_count
  place = omega (arith, few)

  small : c.loop-k.k < 16
  unfolding most_models
  small = few

  models_long : length book.models ≡ most_models
  unfolding most_models
  models_long = c.well_formed.0.1.1.1.1.1.1.0.1.0.1

  abbrev taken : Model
  taken = get_or book.models c.loop-k.k empty_place

  is_model : view taken ≡ model_of (view_book (held_book book)) c.loop-k.k
  is_model = model_here book c.requires.held_passes models_long c.loop-k.k empty_place inside

pub offset_bounds-b-k : goal.offset_bounds-b-k
offset_bounds-b-k c = omega (arith, small c)

pub bounds-b-k : goal.bounds-b-k
bounds-b-k c = small c

pub put_model-requires : goal.put_model-requires
put_model-requires c =
    roomy_less c.loop-k.invariant.0 (omega (arith, place (goal.at.put_model-requires c).In-loop-k))

pub loop-k-preserved : goal.loop-k-preserved
loop-k-preserved c =
    let p = c.put_model in
    let l = c.loop-k.invariant in
    let x = taken (goal.at.loop-k-preserved c).In-loop-k in
    let u = p.ensures.whole.0 in
    let v = p.ensures.whole.1 in (
      subst (Roomy (most_models + (book (goal.at.loop-k-preserved c).In-loop-k).step_count)) (sym p.ensures.radii_after)
          (load_room c.requires.held_passes l.0 (place (goal.at.loop-k-preserved c).In-loop-k) x u v
          (held (goal.at.loop-k-preserved c).In-loop-k) (is_model (goal.at.loop-k-preserved c).In-loop-k)),
      subst (LoadedFirst (held_book (book (goal.at.loop-k-preserved c).In-loop-k)) (c.loop-k.k + 1))
          (sym p.ensures.radii_after)
          (load_more c.requires.held_passes l.0 (place (goal.at.loop-k-preserved c).In-loop-k) x u v
          (held (goal.at.loop-k-preserved c).In-loop-k) (is_model (goal.at.loop-k-preserved c).In-loop-k) l.1),
    )

pub returns : goal.returns
returns c =
    let b = c.args.b in
    (own_steps b, load_end b c.loop-k.invariant.1 (omega (arith, c.loop-k-test.false)), c.loop-k.invariant.0)
