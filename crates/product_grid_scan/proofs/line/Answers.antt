-- `line` keeps what order d keeps of the rows of a line, one after the other.
use mathlib.Core.Path.{◌≡◌}
use Prim.Native.Nat.{ℕ, ◌+◌, ◌-◌, ◌*◌, ◌<◌}
use native.Mathlib.Omega.{arith}
use borrow.Author.Rules.{rules}
use Rattle.calculus.specs.Terms.{Terms}
use Rattle.product_rising.specs.Rising.{Part}
use Rattle.product_grid_scan.specs.GridTerms.{steps_within, third_step, row_terms, RowReady}
use Rattle.product_rising.specs.RisingLaws.{held_none, held_more, held_room}
use Rattle.product_grid_scan.specs.GridTermsLaws.{row_ready}
use Rattle.product_rising.specs.RisingLaws.{held_rounding, held_swept}
use Rattle.product_grid_scan.proofs.line.Goals as goal
use Rattle.product_grid_scan.proofs.line.Goals.{After-row-p, After-steps-m}

pub loop-i-init : goal.loop-i-init
loop-i-init c = held_none _ _ _ _ _ _ c.requires.room

-- in an iteration
module _ (c : After-steps-m) where
  abbrev part : ℕ → Terms
  part j =
      row_terms c.args.sums.now c.args.degrees.now ((c.args.at + j) * c.args.fourth)
      (steps_within c.args.fourth (c.args.left - j)) (c.args.key + third_step * j)

  iteration : c.loop-i.i < c.args.n
  iteration = c.loop-i-test.true

  ready : RowReady c.args.sums.now c.args.degrees.now ((c.args.at + c.loop-i.i) * c.args.fourth)
      (steps_within c.args.fourth (c.args.left - c.loop-i.i)) (c.args.key + third_step * c.loop-i.i)
  ready = row_ready _ _ _ _ _ _ _ c.requires.line_ready c.loop-i.i iteration

pub overflow_mul-place : goal.overflow_mul-place
overflow_mul-place c = let h = (ready c).places in search rules

pub row-p-requires : goal.row-p-requires
row-p-requires c =
    record {
      row_ready = rw c.steps-m.ensures (ready (goal.at.row-p-requires c).After-steps-m);
      room = held_room _ _ _ _ _ _ _ _ _ _ _ _ c.loop-i.invariant c.requires.room;
    }

-- once a row is done
module _ (p : After-row-p) where
  done : Part p.args.d (part (record {
    before = p.before.before.before.before;
    type_inv = record
        { degrees = p.shared_slice_known-1.given };
  }) p.loop-i.i) p.loop-i.count p.loop-i.kept p.loop-i.coefficients
      p.row-p.new.kept p.row-p.new.coefficients p.row-p.result
  done = rw p.steps-m.ensures at p.row-p.ensures

pub overflow_add-rounding : goal.overflow_add-rounding
overflow_add-rounding c =
    record {
      fits =
          omega (
            arith,
            held_rounding (part (goal.at.overflow_add-rounding c).After-steps-m) _ _ _ _ _ _ _ _ _ _ _
                c.loop-i.invariant (iteration (goal.at.overflow_add-rounding c).After-steps-m) _ _ _
                (done (goal.at.overflow_add-rounding c).After-row-p),
            c.requires.line_ready.small,
          );
    }

pub overflow_add-swept : goal.overflow_add-swept
overflow_add-swept c =
    record {
      fits =
          omega (
            arith,
            held_swept (part (goal.at.overflow_add-swept c).After-steps-m) _ _ _ _ _ _ _ _ _ _ _ c.loop-i.invariant
                (iteration (goal.at.overflow_add-swept c).After-steps-m) _ _ _
                (done (goal.at.overflow_add-swept c).After-row-p),
            c.requires.line_ready.small,
          );
    }

pub loop-i-preserved : goal.loop-i-preserved
loop-i-preserved c =
    held_more (part (goal.at.loop-i-preserved c).After-steps-m) _ _ _ _ _ _ _ _ _ _ _ c.loop-i.invariant
    (iteration (goal.at.loop-i-preserved c).After-steps-m) _ _ _ (done (goal.at.loop-i-preserved c).After-row-p)
    c.row-p.auto.kept c.row-p.auto.coefficients

pub returns : goal.returns
returns c =
    let h = c.loop-i.invariant in
    let e : c.loop-i.i ≡ c.args.n = omega (arith, c.loop-i-test.false, h.on) in
    rw e at h.done
