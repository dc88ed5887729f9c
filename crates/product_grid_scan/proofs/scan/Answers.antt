-- `scan` keeps what order d keeps of the planes of a grid, one after the other, or says that it is too much.
use mathlib.Core.Path.{◌≡◌, ap}
use Prim.Native.Nat.{ℕ, ◌-◌, ◌*◌, ◌^◌, ◌≤◌, ◌<◌}
use native.Mathlib.Omega.{arith}
use borrow.Author.Rules.{rules}
use Rattle.calculus.specs.Terms.{Terms, size}
use Rattle.calculus.specs.Model.{most_terms}
use Rattle.product_rising.specs.Rising.{in_turn}
use Rattle.product_grid_scan.specs.GridTerms.{steps_within, first_step, plane_terms, grid_terms}
use Rattle.product_rising.specs.Rising.{Part}
use Rattle.product_grid_scan.specs.GridTerms.{PlaneReady}
use Rattle.product_rising.specs.RisingLaws.{held_none, held_more, held_room}
use Rattle.product_grid_scan.specs.GridTermsLaws.{steps_left, plane_ready}
use Rattle.product_rising.specs.RisingLaws.{held_rounding, held_swept, scanned_many, scanned_few}
use Rattle.product_grid_scan.proofs.scan.Goals as goal
use Rattle.product_grid_scan.proofs.scan.Goals.{After-loop-i, After-plane-p, At-loop-i}

pub loop-i-init : goal.loop-i-init
loop-i-init c = held_none _ _ _ _ _ _ c.requires.room

-- in an iteration
module _ (l : At-loop-i) where
  abbrev part : ℕ → Terms
  part j =
      plane_terms l.args.sums.now l.args.degrees.now l.args.third l.args.fourth (j * l.args.second)
      (steps_within l.args.second (l.args.most - j)) (first_step * j) (l.args.most - j)

  number : l.steps-n.result ≡ steps_within l.args.first l.args.most
  number = l.steps-n.ensures

  module _ (iteration : l.loop-i.i < l.steps-n.result) where
    last : l.loop-i.i ≤ l.args.most
    last = omega (arith, iteration, number, steps_left l.args.first l.args.most)

    ready : PlaneReady l.args.sums.now l.args.degrees.now l.args.third l.args.fourth
        (l.loop-i.i * l.args.second)
        (steps_within l.args.second (l.args.most - l.loop-i.i)) (first_step * l.loop-i.i)
        (l.args.most - l.loop-i.i)
    ready = plane_ready _ _ _ _ _ _ _ l.requires.scan_ready l.loop-i.i (omega (arith, iteration, number))

pub overflow_sub-rest : goal.overflow_sub-rest
overflow_sub-rest c = last (goal.at.overflow_sub-rest c).At-loop-i c.loop-i-test.true

pub overflow_mul-place : goal.overflow_mul-place
overflow_mul-place c =
    let h = (ready (goal.at.overflow_mul-place c).At-loop-i c.loop-i-test.true).below in search rules

pub overflow_mul-key : goal.overflow_mul-key
overflow_mul-key c =
    let h = (ready (goal.at.overflow_mul-key c).At-loop-i c.loop-i-test.true).keys in search rules

pub plane-p-requires : goal.plane-p-requires
plane-p-requires c =
    record {
      plane_ready = rw c.steps-m.ensures (ready (goal.at.plane-p-requires c).At-loop-i c.loop-i-test.true);
      room = held_room _ _ _ _ _ _ _ _ _ _ _ _ c.loop-i.invariant c.requires.room;
    }

-- once a plane is done
module _ (p : After-plane-p) where
  iteration : p.loop-i.i < p.steps-n.result
  iteration = p.loop-i-test.true

  done : Part p.args.d (part (record {
    before = p.before.before.before.before.before.before;
    type_inv = record
        { degrees = p.shared_slice_known-1.given };
  }) p.loop-i.i) p.loop-i.count p.loop-i.kept p.loop-i.coefficients
      p.plane-p.new.kept p.plane-p.new.coefficients
      p.plane-p.result
  done = rw p.steps-m.ensures at p.plane-p.ensures

  small : size (in_turn (part (record {
    before = p.before.before.before.before.before.before;
    type_inv = record
        { degrees = p.shared_slice_known-1.given };
  })) p.steps-n.result) < 2 ^ 63
  small = omega (
    arith,
    ap (λ n. size (in_turn (part
        (record {
          before = p.before.before.before.before.before.before;
          type_inv = record
              { degrees = p.shared_slice_known-1.given };
        })) n))
        (number (record {
          before = p.before.before.before.before.before.before;
          type_inv = record
              { degrees = p.shared_slice_known-1.given };
        })),
    p.requires.scan_ready.small,
  )

pub overflow_add-rounding : goal.overflow_add-rounding
overflow_add-rounding c =
    record {
      fits =
          omega (
            arith,
            held_rounding (part (goal.at.overflow_add-rounding c).At-loop-i) _ _ _ _ _ _ _ _ _ _ _ c.loop-i.invariant
                (iteration (goal.at.overflow_add-rounding c).After-plane-p) _ _ _
                (done (goal.at.overflow_add-rounding c).After-plane-p),
            small (goal.at.overflow_add-rounding c).After-plane-p,
          );
    }

pub overflow_add-swept : goal.overflow_add-swept
overflow_add-swept c =
    record {
      fits =
          omega (
            arith,
            held_swept (part (goal.at.overflow_add-swept c).At-loop-i) _ _ _ _ _ _ _ _ _ _ _ c.loop-i.invariant
                (iteration (goal.at.overflow_add-swept c).After-plane-p) _ _ _
                (done (goal.at.overflow_add-swept c).After-plane-p),
            small (goal.at.overflow_add-swept c).After-plane-p,
          );
    }

pub loop-i-preserved : goal.loop-i-preserved
loop-i-preserved c =
    held_more (part (goal.at.loop-i-preserved c).At-loop-i) _ _ _ _ _ _ _ _ _ _ _ c.loop-i.invariant
    (iteration (goal.at.loop-i-preserved c).After-plane-p) _ _ _ (done (goal.at.loop-i-preserved c).After-plane-p)
    c.plane-p.auto.kept c.plane-p.auto.coefficients

-- once all are done
all : (e : After-loop-i)
    → Part e.args.d (grid_terms e.args.sums.now e.args.degrees.now e.args.first
    e.args.second e.args.third e.args.fourth e.args.most) 0
    e.args.kept.now e.args.coefficients.now e.loop-i.kept e.loop-i.coefficients
    (record { count = e.loop-i.count; rounding = e.loop-i.rounding; swept = e.loop-i.swept })
all e =
    let h = e.loop-i.invariant in
    let n : e.loop-i.i ≡ steps_within e.args.first e.args.most =
    omega (
      arith,
      e.loop-i-test.false,
      h.on,
      number
          (record { before = e.before.before; type_inv = record { degrees = e.shared_slice_known-1.given } }),
    ) in
    rw n at h.done

pub returns-then-count-gt-MOST_TERMS : goal.returns-then-count-gt-MOST_TERMS
unfolding most_terms
returns-then-count-gt-MOST_TERMS c =
    scanned_many _ _ _ _ _ _ _ (all (goal.at.returns-then-count-gt-MOST_TERMS c).After-loop-i)
    c.if-count-gt-MOST_TERMS.true

pub returns : goal.returns
unfolding most_terms
returns c =
    scanned_few _ _ _ _ _ _ _ (all (goal.at.returns c).After-loop-i) (omega (arith, c.if-count-gt-MOST_TERMS.false))
