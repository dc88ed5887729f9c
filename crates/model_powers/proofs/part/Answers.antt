-- `part` walks along the chain of the k-th power, and stores its terms in their order, without the variable.
use mathlib.Core.Path.{◌≡◌, subst}
use Prim.Native.Nat.{◌+◌, ◌≤◌, ◌<◌}
use native.Mathlib.Omega.{arith}
use borrow.Author.Rules.{rules}
use lib.ListN.{get_or}
use mir.Facts.{to_z-of_z}
use Rattle.calculus.specs.Model.{most_terms}
use Rattle.model_keys.specs.Keys.{key_exponent}
use Rattle.model_slices.specs.HeldModelsLaws.{room_still}
use Rattle.model_powers.specs.Powers.{Next}
use Rattle.model_powers.specs.PowerPassLaws.{part_few, part_slot, part_first, part_room, part_in, part_end}
use Rattle.model_powers.specs.PowerChainLaws.{walked}
use mir.Syntax.{w64}
use Rattle.model_powers.proofs.part.Goals as goal
use Rattle.model_powers.proofs.part.Goals.{After-c-1, Start}

few : (c : Start) → c.args.total ≤ 64
unfolding most_terms
few c = part_few c.requires.part_of

pub bounds-p-k : goal.bounds-p-k
bounds-p-k c = omega (arith, c.requires.k_lt_exponents.0)

pub loop-j-init : goal.loop-j-init
loop-j-init c =
    let n = c.requires.k_lt_exponents.1.starts c.args.k c.requires.k_lt_exponents.0 in (
      c.requires.room,
      λ w. walked w c.args.k _ _ 0 (part_first w _ _) n,
      n.within,
      n.here,
    )

pub offset_bounds-keys-j : goal.offset_bounds-keys-j
offset_bounds-keys-j c = omega (arith, few (goal.at.offset_bounds-keys-j c).Start, c.loop-j-test.true)

pub bounds-keys-j : goal.bounds-keys-j
bounds-keys-j c =
    omega (arith, few (goal.at.bounds-keys-j c).Start, c.requires.part_of.room.keys, c.loop-j-test.true)

pub offset_bounds-coefficients-j : goal.offset_bounds-coefficients-j
offset_bounds-coefficients-j c = omega (arith, few (goal.at.offset_bounds-coefficients-j c).Start, c.loop-j-test.true)

pub bounds-coefficients-j : goal.bounds-coefficients-j
bounds-coefficients-j c =
    omega (arith, few (goal.at.bounds-coefficients-j c).Start, c.requires.part_of.room.coefficients, c.loop-j-test.true)

-- an iteration
module _ (c : After-c-1) where
  inside : c.loop-j.j < c.args.total
  inside = omega (arith, c.loop-j-test.true)

  room_places : c.loop-j.count < most_terms
  room_places = part_room c.requires.part_of _ _ (c.loop-j.invariant.1 c.requires.part_of) inside

  room : c.loop-j.count < 64
  unfolding most_terms
  room = room_places

  -- of the power
  of_power : key_exponent c.args.i (get_or c.args.keys.now c.loop-j.j 0) ≡ c.args.k
  of_power = c.loop-j.invariant.3 inside

  -- the next one of it
  next : Next c.args.i c.args.total c.args.keys.now c.args.k (c.loop-j.j + 1)
      (get_or c.args.p.next c.loop-j.j 0)
  next = subst (λ k. Next c.args.i c.args.total c.args.keys.now k (c.loop-j.j + 1)
      (get_or c.args.p.next c.loop-j.j 0)) of_power (c.requires.k_lt_exponents.1.goes_on c.loop-j.j inside)

pub without-requires : goal.without-requires
without-requires c = part_slot c.requires.part_of

pub offset_bounds-stored-count : goal.offset_bounds-stored-count
offset_bounds-stored-count c = omega (arith, room (goal.at.offset_bounds-stored-count c).After-c-1)

pub bounds-stored-count : goal.bounds-stored-count
bounds-stored-count c = omega (arith, room (goal.at.bounds-stored-count c).After-c-1, c.loop-j.invariant.0.keys)

pub offset_bounds-out-count : goal.offset_bounds-out-count
offset_bounds-out-count c = omega (arith, room (goal.at.offset_bounds-out-count c).After-c-1)

pub bounds-out-count : goal.bounds-out-count
bounds-out-count c = omega (arith, room (goal.at.bounds-out-count c).After-c-1, c.loop-j.invariant.0.coefficients)

pub overflow_add-count : goal.overflow_add-count
overflow_add-count c = omega (arith, room (goal.at.overflow_add-count c).After-c-1)

pub bounds-p-j : goal.bounds-p-j
bounds-p-j c = omega (arith, inside (goal.at.bounds-p-j c).After-c-1, few (goal.at.bounds-p-j c).Start)

pub overflow_cast-j-in-loop-j : goal.overflow_cast-j-in-loop-j
overflow_cast-j-in-loop-j c =
    omega (
      arith,
      (next (goal.at.overflow_cast-j-in-loop-j c).After-c-1).within,
      few (goal.at.overflow_cast-j-in-loop-j c).Start,
    )

pub loop-j-smaller : goal.loop-j-smaller
loop-j-smaller c =
    omega (arith, inside (goal.at.loop-j-smaller c).After-c-1, (next (goal.at.loop-j-smaller c).After-c-1).above)

pub loop-j-preserved : goal.loop-j-preserved
loop-j-preserved c = (
  room_still _ _ _ c.loop-j.invariant.0,
  λ w. walked w c.args.k _ _ _
      (part_in w _ _ (c.loop-j.invariant.1 w) (inside (goal.at.loop-j-preserved c).After-c-1) c.loop-j.invariant.0
      (of_power (goal.at.loop-j-preserved c).After-c-1) c.without.ensures
      (to_z-of_z {w = w64} (record { sfits = c.c-1.given })))
      (next (goal.at.loop-j-preserved c).After-c-1),
  (next (goal.at.loop-j-preserved c).After-c-1).within,
  (next (goal.at.loop-j-preserved c).After-c-1).here,
)

pub shape_of-stored : goal.shape_of-stored
shape_of-stored c =
    let a = c.loop-j.invariant.0.keys in
    let b = c.requires.room.keys in search rules

pub shape_of-out : goal.shape_of-out
shape_of-out c =
    let a = c.loop-j.invariant.0.coefficients in
    let b = c.requires.room.coefficients in search rules

pub returns : goal.returns
returns c = λ w. part_end w _ _ (c.loop-j.invariant.1 w) (omega (arith, c.loop-j-test.false))
