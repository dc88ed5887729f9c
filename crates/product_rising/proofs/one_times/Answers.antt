-- `one_times` keeps what order d keeps of the products of one term with others, one after the other.
use mathlib.Core.Path.{◌≡◌}
use Prim.Native.Nat.{ℕ, ◌*◌, ◌^◌, ◌<◌}
use native.Mathlib.Omega.{arith}
use lib.IntN.{ℤ, pos, nat_abs, ◌*ℤ◌}
use lib.ListN.{get_or}
use mir.Facts.{to_z-of_z}
use mir.Syntax.{w64}
use mir.Val.{SFits, to_z, of_z}
use Rattle.algebra.specs.Integer.{nat_abs_mul}
use Rattle.fixed.specs.MachineLaws.{fits_size}
use Rattle.calculus.specs.Terms.{Terms}
use Rattle.product_rising.specs.Rising.{OneReady, Part}
use Rattle.product_rising.specs.RisingLaws.{Held, held_none, held_more, held_room, held_rounding, held_swept}
use Rattle.product_rising.specs.RisingLaws.{held_end}
use Rattle.product_rising.specs.OneTermLaws.{one_part, all_small, one_small, one_gathered}
use Rattle.product_rising.proofs.one_times.Goals as goal
use Rattle.product_rising.proofs.one_times.Goals.{After-product-z, After-push-pushed, After-y-1, At-loop-i}

pub loop-i-init : goal.loop-i-init
loop-i-init c = held_none _ _ _ _ _ _ c.requires.room

-- in the loop: the one term
module _ (l : At-loop-i) where
  abbrev key : ℕ
  key = get_or l.args.ka.now 0 0

  abbrev c : ℤ
  c = get_or l.args.ca.now 0 (pos 0)

  fits_c : to_z w64 (of_z w64 c) ≡ c
  fits_c = to_z-of_z {w = w64} (record { sfits = l.c-1.given })

  abbrev part : ℕ → Terms
  part = one_part key c l.args.kb.now l.args.cb.now

  abbrev ready : OneReady l.args.ka.now l.args.ca.now l.args.kb.now l.args.cb.now l.args.nb
  ready = l.requires.one_ready

  held : Held part l.args.nb l.args.d 0 l.args.kept.now l.args.coefficients.now
      l.loop-i.kept l.loop-i.coefficients l.loop-i.count l.loop-i.rounding l.loop-i.swept l.loop-i.i
  held = rw fits_c at l.loop-i.invariant

-- and its product with one of the others
module _ (e : After-y-1) where
  abbrev y : ℤ
  y = get_or e.args.cb.now e.loop-i.i (pos 0)

  iteration : e.loop-i.i < e.args.nb
  iteration = e.loop-i-test.true

  fits_y : to_z w64 (of_z w64 y) ≡ y
  fits_y = to_z-of_z {w = w64} (record { sfits = e.y-1.given })

  room : nat_abs (c (goal.at.product-z-requires e).At-loop-i) * nat_abs y < 2 ^ 63
  room = one_small (ready (goal.at.product-z-requires e).At-loop-i) e.loop-i.i iteration

  fits_z : SFits w64 (c (goal.at.product-z-requires e).At-loop-i *ℤ y)
  fits_z = fits_size (omega (arith, room, nat_abs_mul (c (goal.at.product-z-requires e).At-loop-i) y))

pub product-z-requires : goal.product-z-requires
product-z-requires e = rw (fits_c (goal.at.product-z-requires e).At-loop-i, fits_y e) (room e)

product_is : (p : After-product-z)
    → p.product-z.result ≡ c (goal.at.overflow_add-sum p).At-loop-i *ℤ y (goal.at.overflow_add-sum p).After-y-1
product_is p = rw (
  fits_c (goal.at.overflow_add-sum p).At-loop-i,
  fits_y (goal.at.overflow_add-sum p).After-y-1,
) at p.product-z.ensures

pub overflow_add-sum : goal.overflow_add-sum
overflow_add-sum p =
    record {
      fits = omega (
        arith,
        (ready (goal.at.overflow_add-sum p).At-loop-i).keys_fit p.loop-i.i
            (iteration (goal.at.overflow_add-sum p).After-y-1),
      );
    }

pub push-pushed-requires : goal.push-pushed-requires
push-pushed-requires q =
    record {
      room = held_room (part (goal.at.push-pushed-requires q).At-loop-i) _ _ _ _ _ _ _ _ _ _ _
          (held (goal.at.push-pushed-requires q).At-loop-i) q.requires.room;
      degree_value = q.wide_degree-degree.ensures;
    }

-- once it is pushed
module _ (p : After-push-pushed) where
  pushed : Part p.args.d (part (record {
    before = p.before.before.before.before.before.before.before.before.before;
    type_inv = record { ka = p.shared_slice_known-3-1.given; kb = p.shared_slice_known-2-1.given };
  }) p.loop-i.i)
      p.loop-i.count p.loop-i.kept p.loop-i.coefficients
      p.push-pushed.new.keys p.push-pushed.new.coefficients p.push-pushed.result
  pushed = rw (
    product_is (record {
      before = p.before.before.before.before.before;
      type_inv = record
          { kb = p.shared_slice_known-in-loop-i-1.given; ka = p.shared_slice_known-3-1.given };
    }),
    to_z-of_z (fits_z (record {
      before = p.before.before.before.before.before.before;
      type_inv = record
          { kb = p.shared_slice_known-in-loop-i-1.given; ka = p.shared_slice_known-3-1.given };
    })),
  ) at p.push-pushed.ensures

pub overflow_add-rounding : goal.overflow_add-rounding
overflow_add-rounding c =
    record {
      fits =
          omega (
            arith,
            held_rounding (part (goal.at.overflow_add-rounding c).At-loop-i) _ _ _ _ _ _ _ _ _ _ _
                (held (goal.at.overflow_add-rounding c).At-loop-i)
                (iteration (goal.at.overflow_add-rounding c).After-y-1) _ _ _
                (pushed (goal.at.overflow_add-rounding c).After-push-pushed),
            all_small (ready (goal.at.overflow_add-rounding c).At-loop-i),
          );
    }

pub overflow_add-swept : goal.overflow_add-swept
overflow_add-swept c =
    record {
      fits =
          omega (
            arith,
            held_swept (part (goal.at.overflow_add-swept c).At-loop-i) _ _ _ _ _ _ _ _ _ _ _
                (held (goal.at.overflow_add-swept c).At-loop-i) (iteration (goal.at.overflow_add-swept c).After-y-1) _ _
                _ (pushed (goal.at.overflow_add-swept c).After-push-pushed),
            all_small (ready (goal.at.overflow_add-swept c).At-loop-i),
          );
    }

pub loop-i-preserved : goal.loop-i-preserved
loop-i-preserved c =
    rw (fits_c (goal.at.loop-i-preserved c).At-loop-i)
    (held_more (part (goal.at.loop-i-preserved c).At-loop-i) _ _ _ _ _ _ _ _ _ _ _
    (held (goal.at.loop-i-preserved c).At-loop-i) (iteration (goal.at.loop-i-preserved c).After-y-1) _ _ _
    (pushed (goal.at.loop-i-preserved c).After-push-pushed) c.push-pushed.auto.keys
    c.push-pushed.auto.coefficients)

pub returns : goal.returns
returns c =
    one_gathered (ready (goal.at.returns c).At-loop-i)
    (held_end (part (goal.at.returns c).At-loop-i) _ _ _ _ _ _ _ _ _ _ _ (held (goal.at.returns c).At-loop-i)
    c.loop-i-test.false)
