-- `terms_at` reads term after term into two slices.
use mathlib.Core.Path.{◌≡◌}
use Prim.Native.Nat.{◌+◌, ◌*◌, ◌-◌, ◌≤◌, ◌<◌}
use native.Mathlib.Omega.{arith}
use borrow.Author.Rules.{rules}
use lib.ListN.{length}
use mir.Facts.{to_z-of_z}
use mir.Syntax.{w64}
use mir.Val.{Fits, to_z, of_z}
use Rattle.format.specs.Format.{term_length}
use Rattle.sheet_walk.specs.TermWalkLaws.{TermsSoFar, terms_first, terms_iteration, terms_end, one_inside}
use Rattle.sheet_walk.proofs.terms_at.Goals as goal
use Rattle.sheet_walk.proofs.terms_at.Goals.{After-struct_told-1, At-loop-i, In-loop-i}

-- ---- what is known before the loop,
module _ (c : At-loop-i) where
  sized : c.term_bytes-size.result ≡ term_length c.args.n
  sized = c.term_bytes-size.ensures

  short : Fits w64 (length c.args.s.now)
  short = omega arith

-- in it there is a term left
module _ (c : In-loop-i) where
  counts : c.loop-i.i < c.args.count
  counts = c.loop-i-test.true

  term_room : c.loop-i.place + term_length c.args.n
      ≤ length c.args.s.now
  term_room = omega (
    arith,
    c.loop-i.invariant.placed,
    one_inside (term_length c.args.n) c.loop-i.i c.args.count counts,
    c.requires.count_in_bounds,
  )

-- and of the term at hand
module _ (c : After-struct_told-1) where
  read_back : to_z w64 (of_z w64 c.term_at-t.result.coefficient) ≡ c.term_at-t.result.coefficient
  read_back = to_z-of_z {w = w64} (record { sfits = c.struct_told-1.given.1.0.1 })

  key_room : c.loop-i.i < length c.loop-i.keys
  key_room = omega (
    arith,
    counts (goal.at.offset_bounds-keys-i c).In-loop-i,
    c.requires.count_in_bounds_2.0,
    c.loop-i.invariant.keys_long,
  )

  coefficient_room : c.loop-i.i < length c.loop-i.coefficients
  coefficient_room = omega (
    arith,
    counts (goal.at.offset_bounds-keys-i c).In-loop-i,
    c.requires.count_in_bounds_2.1,
    c.loop-i.invariant.coefficients_long,
  )

pub loop-i-init : goal.loop-i-init
loop-i-init c = terms_first _ _ _ _ _ _

pub term_at-t-requires : goal.term_at-t-requires
term_at-t-requires c = term_room c

pub bounds-keys-i : goal.bounds-keys-i
bounds-keys-i c = key_room c

pub bounds-coefficients-i : goal.bounds-coefficients-i
bounds-coefficients-i c = coefficient_room c

pub overflow_add-place : goal.overflow_add-place
overflow_add-place c = omega (
  arith,
  term_room (goal.at.overflow_add-place c).In-loop-i,
  sized (goal.at.overflow_add-place c).At-loop-i,
  short (goal.at.overflow_add-place c).At-loop-i,
)

pub loop-i-preserved : goal.loop-i-preserved
loop-i-preserved c =
    terms_iteration _ _ _ _ _ _ c.loop-i.invariant (counts (goal.at.loop-i-preserved c).In-loop-i) _ c.term_at-t.ensures
    c.requires.count_in_bounds_2.0
    c.requires.count_in_bounds_2.1 _ (read_back c) _ (sized (goal.at.loop-i-preserved c).At-loop-i)

pub returns : goal.returns
returns c = terms_end _ _ _ _ _ _ c.loop-i.invariant c.loop-i-test.false

pub offset_bounds-keys-i : goal.offset_bounds-keys-i
offset_bounds-keys-i c = search rules
