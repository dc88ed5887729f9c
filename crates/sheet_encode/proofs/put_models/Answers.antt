-- `put_models` puts the models one after the other.
use mathlib.Core.Path.{◌≡◌, ◌∙◌, ap}
use mathlib.Core.List.{[], map}
use Prim.Native.Nat.{◌+◌, ◌<◌, ◌≤◌}
use native.Mathlib.Omega.{arith}
use lib.ListN.{length, get_or}
use lib.Seq.{sets}
use Rattle.model_types.specs.declared.Model.{Model}
use Rattle.model_types.specs.ModelStruct.{of_terms}
use Rattle.format.specs.Bytes.{join}
use Rattle.format.specs.Format.{model_bytes}
use Rattle.sheet_book.specs.declared.Book.{Book}
use Rattle.sheet_book.specs.BookStruct.{held_model, held_book}
use Rattle.sheet_book.specs.FailingLaws.{count_models}
use Rattle.sheet_encode.specs.Fitting.{ModelFits}
use Rattle.sheet_encode.specs.RecordLoopLaws.{put_first, put_length, put_room, put_iteration, put_end}
use Rattle.sheet_encode.specs.SectionFittingLaws.{models_joined, book_limits, model_at, model_at_fits}
use Rattle.sheet_encode.proofs.put_models.Goals as goal
use Rattle.sheet_encode.proofs.put_models.Goals.{After-m-1, Start}

module _ (c : Start) where
  whole : length c.args.b.models ≡ 16
  whole = c.well_formed.1.0.1.1.1.1.1.1.0.1.0.1

  few : c.args.b.model_count ≤ 16
  few = (book_limits c.args.b c.requires.held_passes).models

  room : 0 + length (join (map model_bytes (held_book c.args.b).models)) ≤ length c.args.buffer.now
  room = omega (arith, c.requires.b_in_bounds, ap length (models_joined c.args.b))

pub loop-k-init : goal.loop-k-init
loop-k-init c = put_first model_bytes _ _ _

-- ---- an iteration
pub offset_bounds-b-k : goal.offset_bounds-b-k
offset_bounds-b-k c = omega (arith, few (goal.at.offset_bounds-b-k c).Start)

pub bounds-b-k : goal.bounds-b-k
bounds-b-k c = omega (arith, few (goal.at.bounds-b-k c).Start)

-- what the element is where there is none
abbrev blank : Model
blank = of_terms 0 0 0 []

module _ (c : After-m-1) where
  abbrev held : Book
  held = c.args.b

  abbrev model : Model
  model = get_or held.models c.loop-k.k blank

  inside : c.loop-k.k < held.model_count
  inside = c.loop-k-test.true

  whole_count : held.model_count ≤ length held.models
  whole_count = omega (arith, whole c.before.before.before.before, few c.before.before.before.before)

  here : get_or (held_book held).models c.loop-k.k (held_model blank) ≡ held_model model
  here = model_at held c.loop-k.k blank inside whole_count

  below : c.loop-k.k < length (held_book held).models
  below = omega (arith, inside, count_models held)

  model_fits : ModelFits (held_model model)
  model_fits = model_at_fits held c.requires.held_passes _ _ inside whole_count

  fits : c.loop-k.place + length (model_bytes (held_model model)) ≤ length c.loop-k.buffer
  fits = put_room model_bytes _ _ _ c.loop-k.invariant (held_model blank) (held_model model) below here
      (room c.before.before.before.before)

pub put_model-requires : goal.put_model-requires
put_model-requires c = record {
  model_fits = model_fits (goal.at.put_model-requires c).After-m-1;
  m_in_bounds = fits (goal.at.put_model-requires c).After-m-1;
}

pub model_size-place-requires : goal.model_size-place-requires
model_size-place-requires c = model_fits (goal.at.model_size-place-requires c).After-m-1

pub overflow_add-place : goal.overflow_add-place
overflow_add-place c =
    let e = put_length model_bytes _ _ _ c.loop-k.invariant in
    omega (arith, fits (goal.at.overflow_add-place c).After-m-1, e, c.model_size-place.ensures, c.well_formed)

pub loop-k-preserved : goal.loop-k-preserved
loop-k-preserved c =
    put_iteration model_bytes _ _ _ c.loop-k.invariant (held_model blank)
    (held_model (model (goal.at.loop-k-preserved c).After-m-1)) (below (goal.at.loop-k-preserved c).After-m-1)
    (here (goal.at.loop-k-preserved c).After-m-1) _ _
    c.put_model.ensures
    (ap (λ n. c.loop-k.place + n) c.model_size-place.ensures)

-- ---- after the loop
pub shape_of-buffer : goal.shape_of-buffer
shape_of-buffer c = put_length model_bytes _ _ _ c.loop-k.invariant

pub returns : goal.returns
returns c =
    let b = c.args.b in
    put_end model_bytes _ _ _ c.loop-k.invariant (omega (arith, c.loop-k-test.false, count_models b))
    ∙ ap (sets c.args.buffer.now 0) (models_joined b)
