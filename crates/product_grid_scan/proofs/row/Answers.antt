-- `row` keeps what order d keeps of the sums in a row, one after the other.
use mathlib.Core.Path.{◌≡◌, sym}
use mathlib.Core.List.{[], ◌∷◌}
use Prim.Native.Nat.{ℕ, ◌+◌, ◌*◌, ◌^◌, ◌<◌}
use native.Mathlib.Omega.{arith}
use lib.IntN.{pos}
use lib.ListN.{get_or}
use mir.Facts.{to_z-of_z}
use Rattle.calculus.specs.Terms.{Terms}
use Rattle.product_sums.specs.TermArrays.{at_key}
use Rattle.product_rising.specs.Rising.{Part}
use Rattle.product_grid_scan.specs.GridTerms.{fourth_step, Bare}
use Rattle.product_grid_scan.specs.GridTermsLaws.{byte_fits, own_degree, own_key}
use Rattle.product_rising.specs.RisingLaws.{held_none, held_more, held_room, held_rounding, held_swept}
use mir.Syntax.{w64}
use Rattle.product_grid_scan.proofs.row.Goals as goal
use Rattle.product_grid_scan.proofs.row.Goals.{After-push-p, After-shared_slice_known-in-loop-i-1}

pub loop-i-init : goal.loop-i-init
loop-i-init c = held_none _ _ _ _ _ _ c.requires.room

-- once a degree is read: each is a byte
module _ (g : After-shared_slice_known-in-loop-i-1) where
  byte : (j : ℕ) → get_or g.args.degrees.now j 0 < 2 ^ 8
  byte j = omega (arith, (g.shared_slice_known-in-loop-i-1.given j).fits)

  -- the key without it
  abbrev key : ℕ
  key = g.args.key + fourth_step * g.loop-i.i

  bare : Bare key
  bare = omega (arith, g.requires.row_ready.bare)

  short : key < 2 ^ 64
  short = omega (arith, g.requires.row_ready.keys, g.loop-i-test.true)

pub overflow_cast-degree : goal.overflow_cast-degree
overflow_cast-degree c = record { fits = byte_fits _ (byte c _) }

pub overflow_add-bare-in-loop-i : goal.overflow_add-bare-in-loop-i
overflow_add-bare-in-loop-i c =
    record {
      fits = own_key _ _ (bare (goal.at.overflow_add-bare-in-loop-i c).After-shared_slice_known-in-loop-i-1)
          (short (goal.at.overflow_add-bare-in-loop-i c).After-shared_slice_known-in-loop-i-1)
          (byte (goal.at.overflow_add-bare-in-loop-i c).After-shared_slice_known-in-loop-i-1 _);
    }

pub push-p-requires : goal.push-p-requires
push-p-requires c =
    record {
      room = held_room _ _ _ _ _ _ _ _ _ _ _ _ c.loop-i.invariant c.requires.room;
      degree_value = sym (own_degree (key (goal.at.push-p-requires c).After-shared_slice_known-in-loop-i-1) _
          (bare (goal.at.push-p-requires c).After-shared_slice_known-in-loop-i-1)
          (byte (goal.at.push-p-requires c).After-shared_slice_known-in-loop-i-1 _));
    }

-- once a sum is pushed
module _ (p : After-push-p) where
  abbrev part : ℕ → Terms
  part j =
      at_key (p.args.key + fourth_step * j + get_or p.args.degrees.now (p.args.at + j) 0)
      (get_or p.args.sums.now (p.args.at + j) (pos 0)) ∷ []

  iteration : p.loop-i.i < p.args.n
  iteration = p.loop-i-test.true

  pushed : Part p.args.d (part p.loop-i.i) p.loop-i.count p.loop-i.kept p.loop-i.coefficients
      p.push-p.new.keys p.push-p.new.coefficients p.push-p.result
  pushed = rw (to_z-of_z {w = w64} (record { sfits = p.z-1.given })) at p.push-p.ensures

pub overflow_add-rounding : goal.overflow_add-rounding
overflow_add-rounding c =
    record {
      fits =
          omega (
            arith,
            held_rounding (part (goal.at.overflow_add-rounding c).After-push-p) _ _ _ _ _ _ _ _ _ _ _ c.loop-i.invariant
                (iteration (goal.at.overflow_add-rounding c).After-push-p) _ _ _
                (pushed (goal.at.overflow_add-rounding c).After-push-p),
            c.requires.row_ready.small,
          );
    }

pub overflow_add-swept : goal.overflow_add-swept
overflow_add-swept c =
    record {
      fits =
          omega (
            arith,
            held_swept (part (goal.at.overflow_add-swept c).After-push-p) _ _ _ _ _ _ _ _ _ _ _ c.loop-i.invariant
                (iteration (goal.at.overflow_add-swept c).After-push-p) _ _ _
                (pushed (goal.at.overflow_add-swept c).After-push-p),
            c.requires.row_ready.small,
          );
    }

pub loop-i-preserved : goal.loop-i-preserved
loop-i-preserved c =
    held_more (part (goal.at.loop-i-preserved c).After-push-p) _ _ _ _ _ _ _ _ _ _ _ c.loop-i.invariant
    (iteration (goal.at.loop-i-preserved c).After-push-p) _ _ _ (pushed (goal.at.loop-i-preserved c).After-push-p)
    c.push-p.auto.keys
    c.push-p.auto.coefficients

pub returns : goal.returns
returns c =
    let h = c.loop-i.invariant in
    let e : c.loop-i.i ≡ c.args.n = omega (arith, c.loop-i-test.false, h.on) in
    rw e at h.done
