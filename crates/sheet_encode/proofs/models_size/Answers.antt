-- `models_size` sums the lengths of the records.
use mathlib.Core.Path.{◌≡◌, sym, ◌∙◌, ap}
use mathlib.Core.List.{[]}
use Prim.Native.Nat.{◌+◌, ◌<◌, ◌≤◌}
use native.Mathlib.Omega.{arith}
use lib.ListN.{length}
use Rattle.model_types.specs.declared.Model.{Model}
use Rattle.model_types.specs.ModelStruct.{of_terms}
use Rattle.format.specs.Format.{model_bytes}
use Rattle.format.proofs.ReadBackLaws.{models_short}
use Rattle.sheet_book.specs.BookStruct.{held_model, held_book}
use Rattle.sheet_book.specs.FailingLaws.{count_models}
use Rattle.sheet_encode.specs.RecordLoopLaws.{front, front_none, front_all, length_more, length_front}
use Rattle.sheet_encode.specs.SectionFittingLaws.{book_limits, model_at, model_at_fits, models_joined}
use Rattle.sheet_encode.proofs.models_size.Goals as goal
use Rattle.sheet_encode.proofs.models_size.Goals.{After-model_size-size, Start}

module _ (c : Start) where
  whole : length c.args.b.models ≡ 16
  whole = c.well_formed.0.1.1.1.1.1.1.0.1.0.1

  few : c.args.b.model_count ≤ 16
  few = (book_limits c.args.b c.requires).models

pub loop-k-init : goal.loop-k-init
loop-k-init c = sym (ap length (front_none model_bytes (held_book c.args.b).models))

pub offset_bounds-b-k : goal.offset_bounds-b-k
offset_bounds-b-k c = omega (arith, few (goal.at.offset_bounds-b-k c).Start)

pub bounds-b-k : goal.bounds-b-k
bounds-b-k c = omega (arith, few (goal.at.bounds-b-k c).Start)

pub model_size-size-requires : goal.model_size-size-requires
model_size-size-requires c =
    model_at_fits c.args.b c.requires _ _ c.loop-k-test.true
    (omega (
      arith,
      whole (goal.at.model_size-size-requires c).Start,
      few (goal.at.model_size-size-requires c).Start,
    ))

module _ (c : After-model_size-size) where
  more : c.loop-k.size + c.model_size-size.result
      ≡ length (front model_bytes (held_book c.args.b).models (c.loop-k.k + 1))
  more =
      let b = c.args.b in
      let k = c.loop-k.k in
      let i : k < b.model_count = c.loop-k-test.true in
      let x : Model = of_terms 0 0 0 [] in
      let y = held_model x in
      omega (
        arith,
        c.loop-k.invariant,
        c.model_size-size.ensures,
        length_more model_bytes (held_book b).models k y (omega (arith, count_models b)),
        ap (λ m. length (model_bytes m)) (model_at b k x i
            (omega (arith, whole c.before.before.before.before, few c.before.before.before.before))),
      )

  small : c.loop-k.size + c.model_size-size.result ≤ 8272
  small =
      let b = c.args.b in
      omega (
        arith,
        more,
        length_front model_bytes (held_book b).models (c.loop-k.k + 1),
        ap length (models_joined b),
        models_short (held_book b) c.requires,
      )

pub overflow_add-size : goal.overflow_add-size
overflow_add-size c = omega (arith, small c)

pub loop-k-preserved : goal.loop-k-preserved
loop-k-preserved c = more c

pub returns : goal.returns
returns c =
    let b = c.args.b in
    c.loop-k.invariant
    ∙ ap length
    (front_all model_bytes (held_book b).models c.loop-k.k (omega (arith, count_models b)) ∙ models_joined b)
