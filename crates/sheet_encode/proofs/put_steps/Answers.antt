-- `put_steps` puts the steps one after the other.
use mathlib.Core.Path.{◌≡◌, sym, ap}
use mathlib.Core.List.{map}
use Prim.Native.Nat.{◌+◌, ◌<◌, ◌≤◌}
use native.Mathlib.Omega.{arith}
use lib.ListN.{length, get_or}
use Rattle.format.specs.Bytes.{join}
use Rattle.format.specs.Format.{step_length, step_bytes}
use Rattle.format.proofs.ReadBackLaws.{length_step, length_steps}
use Rattle.sheet_book.specs.declared.Step.{Step}
use Rattle.sheet_book.specs.declared.Book.{Book}
use Rattle.sheet_book.specs.BookStruct.{no_step, held_step, held_book}
use Rattle.sheet_book.specs.FailingLaws.{count_steps}
use Rattle.sheet_encode.specs.RecordLoopLaws.{put_first, put_length, put_room, put_iteration, put_end}
use Rattle.sheet_encode.specs.SectionFittingLaws.{book_limits, step_at, step_at_fits}
use Rattle.sheet_encode.proofs.put_steps.Goals as goal
use Rattle.sheet_encode.proofs.put_steps.Goals.{After-s-1, Start}

module _ (c : Start) where
  whole : length c.args.b.steps ≡ 64
  whole = c.well_formed.1.1.0.1.1.1.1.1.1.1.0.1.0.1

  few : c.args.b.step_count ≤ 64
  few = (book_limits c.args.b c.requires.held_passes).steps_high

  room : c.args.at + length (join (map step_bytes (held_book c.args.b).steps)) ≤ length c.args.buffer.now
  room = omega (arith, c.requires.step_count_in_bounds, count_steps c.args.b, length_steps (held_book c.args.b).steps)

pub loop-k-init : goal.loop-k-init
loop-k-init c = put_first step_bytes _ _ _

-- ---- an iteration
pub offset_bounds-b-k : goal.offset_bounds-b-k
offset_bounds-b-k c = omega (arith, few (goal.at.offset_bounds-b-k c).Start)

pub bounds-b-k : goal.bounds-b-k
bounds-b-k c = omega (arith, few (goal.at.bounds-b-k c).Start)

module _ (c : After-s-1) where
  abbrev held : Book
  held = c.args.b

  abbrev step : Step
  step = get_or held.steps c.loop-k.k no_step

  inside : c.loop-k.k < held.step_count
  inside = c.loop-k-test.true

  whole_count : held.step_count ≤ length held.steps
  whole_count = omega (arith, whole c.before.before.before.before, few c.before.before.before.before)

  here : get_or (held_book held).steps c.loop-k.k (held_step no_step) ≡ held_step step
  here = step_at held c.loop-k.k no_step inside whole_count

  below : c.loop-k.k < length (held_book held).steps
  below = omega (arith, inside, count_steps held)

  fits : c.loop-k.place + step_length ≤ length c.loop-k.buffer
  fits = omega (
    arith,
    put_room step_bytes _ _ _ c.loop-k.invariant (held_step no_step) (held_step step) below here
        (room c.before.before.before.before),
    length_step (held_step step),
  )

pub put_step-requires : goal.put_step-requires
put_step-requires c =
    record {
      value_bound = step_at_fits (held (goal.at.put_step-requires c).After-s-1) c.requires.held_passes _ _
          (inside (goal.at.put_step-requires c).After-s-1) (whole_count (goal.at.put_step-requires c).After-s-1);
      step_length_in_bounds = fits (goal.at.put_step-requires c).After-s-1;
    }

pub overflow_add-place : goal.overflow_add-place
overflow_add-place c =
    let e = put_length step_bytes _ _ _ c.loop-k.invariant in
    omega (arith, fits (goal.at.overflow_add-place c).After-s-1, e, c.ranges)

pub loop-k-preserved : goal.loop-k-preserved
loop-k-preserved c =
    put_iteration step_bytes _ _ _ c.loop-k.invariant (held_step no_step)
    (held_step (step (goal.at.loop-k-preserved c).After-s-1)) (below (goal.at.loop-k-preserved c).After-s-1)
    (here (goal.at.loop-k-preserved c).After-s-1) _ _
    c.put_step.ensures
    (ap (λ n. c.loop-k.place + n) (sym (length_step (held_step (step (goal.at.loop-k-preserved c).After-s-1)))))

-- ---- after the loop
pub shape_of-buffer : goal.shape_of-buffer
shape_of-buffer c = put_length step_bytes _ _ _ c.loop-k.invariant

pub returns : goal.returns
returns c =
    put_end step_bytes _ _ _ c.loop-k.invariant
    (omega (arith, c.loop-k-test.false, count_steps c.args.b))
