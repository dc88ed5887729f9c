-- `steps` makes one step after the other: what is known of the results so far is known after each.
use mathlib.Core.Path.{◌≡◌, refl, subst}
use Prim.Native.Nat.{◌<◌}
use native.Mathlib.Omega.{arith}
use lib.ListN.{length, get_or}
use Rattle.calculus.specs.Book.{most_steps}
use Rattle.sheet_book.specs.declared.Step.{Step}
use Rattle.sheet_book.specs.BookStruct.{no_step, held_step}
use Rattle.sheet_results.specs.Results.{results}
use Rattle.sheet_run_room.specs.sheet_run_laws.declared.StepList.{StepList}
use Rattle.sheet_run_room.specs.sheet_run_laws.Run.{Iteration, Begun, Part}
use Rattle.sheet_run_room.specs.sheet_run_laws.RunIterationLaws.{iteration_counted, fit_served, free_room}
use Rattle.sheet_run_room.specs.sheet_run_laws.RunIterationLaws.{stopped_short, stopped_whole, stopped_refused}
use Rattle.sheet_run_room.specs.sheet_run_laws.RunIterationLaws.{true_false}
use Rattle.sheet_run_room.specs.sheet_run_laws.MemoryLaws.{few_steps, step_here}
use Rattle.sheet_run_loop.proofs.steps.Goals as goal
use Rattle.sheet_run_loop.proofs.steps.Goals.{In-loop-i}

module _ (c : In-loop-i) where
  steps_long : length c.args.l.steps ≡ most_steps
  unfolding most_steps
  steps_long = c.well_formed.0.1.1.1.1.1.0.1.0.1

  abbrev list : StepList
  list = c.args.l

  inside : c.loop-i.i < list.count
  inside = c.loop-i-test.true

  abbrev at : Step
  at = get_or list.steps c.loop-i.i no_step

  -- of a book with these steps
  module _ (t : Part list c.args.from
      (results c.args.keys.now c.args.coefficients.now c.args.counts.now
      c.args.radii.now) c.args.rows.now) where
    abbrev begun : Begun t.held list c.loop-i.i
        (results c.loop-i.keys c.loop-i.coefficients c.loop-i.counts
        c.loop-i.radii) c.loop-i.rows
    begun = c.loop-i.invariant.0 t

    abbrev here : Iteration list.n list.d c.loop-i.i (held_step at)
        (results c.loop-i.keys c.loop-i.coefficients c.loop-i.counts
        c.loop-i.radii) c.loop-i.rows
    here = record {
      held = t.held;
      passes = begun.passes;
      vars = begun.same.vars;
      order = begun.same.order;
      at = step_here begun.same begun.passes steps_long
          c.loop-i.i inside;
      so_far = begun.so_far;
    }

  small : c.loop-i.i < 64
  unfolding most_steps
  small =
      let b = begun c.requires.part in
      omega (arith, inside, few_steps b.same b.passes)

pub loop-i-init : goal.loop-i-init
loop-i-init c = (λ t. t.begun, c.requires.scratch_room)

pub offset_bounds-l-i : goal.offset_bounds-l-i
offset_bounds-l-i c = omega (arith, small c)

pub bounds-l-i : goal.bounds-l-i
bounds-l-i c = omega (arith, small c)

-- ---- a step that asks more room
pub fits-served-requires : goal.fits-served-requires
fits-served-requires c = iteration_counted (here (goal.at.fits-served-requires c).In-loop-i c.requires.part)

pub returns-then-not-served : goal.returns-then-not-served
returns-then-not-served c = λ t.
    stopped_short (begun (goal.at.returns-then-not-served c).In-loop-i t)
    (λ h. true_false (c.fits-served.ensures.1 h) (c.if-not-served.true))

-- ---- a step
pub step-v-requires : goal.step-v-requires
step-v-requires c =
    record {
      iteration = here (goal.at.step-v-requires c).In-loop-i c.requires.part;
      served = fit_served (c.fits-served.ensures.0
          (c.if-not-served.false))
          c.loop-i.invariant.1;
    }

pub returns-in_default : goal.returns-in_default
returns-in_default c = λ t.
    stopped_refused c.in_default.is (c.step-v.ensures (here (goal.at.returns-in_default c).In-loop-i t)).ended

pub loop-i-preserved : goal.loop-i-preserved
loop-i-preserved c =
    let k = c.step-v in
    let l = c.loop-i.invariant in
    let x = k.auto.slots in
    let y = k.auto.places in
    let z = k.auto.sums in (
      λ t. record {
        passes = (begun (goal.at.loop-i-preserved c).In-loop-i t).passes;
        same = (begun (goal.at.loop-i-preserved c).In-loop-i t).same;
        so_far = (k.ensures (here (goal.at.loop-i-preserved c).In-loop-i t)).going c.in-Ok.is;
        within = omega (arith, inside (goal.at.loop-i-preserved c).In-loop-i);
      },
      free_room l.1 x y z,
    )

pub returns : goal.returns
returns c = λ t.
    let b = c.loop-i.invariant.0 t in
    let e : c.loop-i.i ≡ c.args.l.count = omega (arith, b.within, c.loop-i-test.false) in
    stopped_whole
    (subst (λ i. Begun t.held c.args.l i
    (results c.loop-i.keys c.loop-i.coefficients c.loop-i.counts c.loop-i.radii) c.loop-i.rows) e b) refl
