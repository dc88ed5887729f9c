-- `swept_slices` keeps the terms that are not small, in order, and adds the others to the radius.
use mathlib.Core.Path.{◌≡◌, refl, sym, ◌∙◌, ap, subst}
use mathlib.Core.Bool.{not, ◌&&◌}
use Prim.Native.Nat.{ℕ, ◌≤◌, ◌<◌, ◌+◌, ◌*◌, ◌^◌}
use native.Mathlib.Omega.{arith}
use borrow.Author.Rules.{rules}
use lib.Dec.{eqb, leb}
use lib.IntN.{pos, nat_abs}
use lib.ListN.{get_or}
use mir.Facts.{to_z-of_z}
use mir.Syntax.{w64}
use mir.Val.{to_z, of_z}
use Rattle.numbers.specs.Fixed.{span_limit}
use Rattle.numbers.proofs.FixedLaws.{span_fits}
use Rattle.calculus.specs.Key.{key_limit}
use Rattle.calculus_laws.specs.MonomialKeyLaws.{word_key}
use Rattle.calculus.specs.Model.{most_terms}
use Rattle.model_types.specs.declared.Term.{Term}
use Rattle.model_types.specs.declared.Model.{Model}
use Rattle.model_types.specs.ModelStruct.{zero_term, paired, listed}
use Rattle.model_types.specs.PairedLaws.{listed_own, listed_put, listed_struct}
use Rattle.model_slices.specs.HeldModels.{held}
use Rattle.model_slices.specs.HeldModelsLaws.{pair, room_still}
use Rattle.model_places.specs.SlicePlacesLaws.{places_at}
use Rattle.model_places.specs.LeftModels.{Lies}
use Rattle.model_places.specs.LeftModelsLaws.{lies_limits, lies_few, lies_long, left_accepted, zeros_room}
use Rattle.model_unary.specs.SweepLaws.{Swept, swept_zeros, swept_room, swept_end, swept_within}
use Rattle.model_unary.specs.SweepLaws.{swept_drop, swept_keep}
use Rattle.model_unary.proofs.swept_slices.Goals as goal
use Rattle.model_unary.proofs.swept_slices.Goals.{then-is_small, else-is_small, After-c-1, Start}

few : (s : Start) → s.args.total ≤ 64
unfolding most_terms
few s = lies_few s.requires.lies

pub loop-i-init : goal.loop-i-init
unfolding held
loop-i-init c =
    (zeros_room c.requires.zeros, λ w. swept_zeros _ _ c.requires.zeros)

-- the term at hand
module _ (c : After-c-1) where
  inside : c.loop-i.i < c.args.total
  inside = omega arith

  abbrev at : Term
  at = pair (get_or c.args.keys.now c.loop-i.i 0)
      (get_or c.args.coefficients.now c.loop-i.i (pos 0))

  key_small : at.key < key_limit
  key_small = word_key _ (c.shared_slice_known-in-loop-i-1.given c.loop-i.i).fits

  read_back : to_z w64 (of_z w64 at.coefficient) ≡ at.coefficient
  read_back = to_z-of_z {w = w64} (record { sfits = c.c-1.given })

  -- for any model that the slices hold
  module _ (w : Lies c.args.total c.args.start c.args.keys.now
      c.args.coefficients.now) where
    abbrev model : Model
    model = held w.vars c.args.total c.args.start c.args.keys.now
        c.args.coefficients.now

    here : get_or (listed model) c.loop-i.i zero_term ≡ at
    here = places_at _ _ _ _ _ w.places c.loop-i.i inside

    small_here : (get_or (listed model) c.loop-i.i zero_term).key < key_limit
    small_here = subst (λ (t : Term). t.key < key_limit) (sym here) key_small

  room : c.loop-i.count < 64
  unfolding held
  room =
      let w = c.requires.lies in
      omega (
        arith,
        few c.before.before.before.before.before.before.before,
        inside,
        swept_room _ _ (lies_long w) _ _ _ _ (c.loop-i.invariant.1 w),
      )

  within : c.loop-i.radius + nat_abs at.coefficient ≤ 2 ^ 32 * span_limit
  unfolding held
  within =
      let w = c.requires.lies in
      omega (
        arith,
        (lies_limits w).small,
        ap (λ (t : Term). nat_abs t.coefficient) (here w),
        swept_within _ _ (lies_long w) _ _ _ _ (c.loop-i.invariant.1 w) inside (lies_limits w).width (small_here w),
      )

-- its test
module _ (c : After-c-1) where
  tested : (w : Lies c.args.total c.args.start c.args.keys.now c.args.coefficients.now)
      → (size : ℕ) → size ≡ nat_abs (at c).coefficient
      → (not (eqb (get_or (listed (model c w)) c.loop-i.i zero_term).key 0)
      && leb (nat_abs (get_or (listed (model c w)) c.loop-i.i zero_term).coefficient) c.args.threshold)
      ≡ (not (eqb (at c).key 0) && leb size c.args.threshold)
  tested w size e =
      ap (λ (t : Term). not (eqb t.key 0) && leb (nat_abs t.coefficient) c.args.threshold) (here c w)
      ∙ ap (λ z. not (eqb (at c).key 0) && leb z c.args.threshold) (sym e)

pub overflow_add-radius : goal.overflow_add-radius
overflow_add-radius c = omega (
  arith,
  span_fits,
  c.magnitude-size.ensures ∙ ap nat_abs (read_back (goal.at.overflow_add-radius c).After-c-1),
  within (goal.at.overflow_add-radius c).After-c-1,
)

pub offset_bounds-stored-count : goal.offset_bounds-stored-count
offset_bounds-stored-count c = omega (arith, room (goal.at.offset_bounds-stored-count c).After-c-1)

pub bounds-stored-count : goal.bounds-stored-count
bounds-stored-count c =
    omega (arith, room (goal.at.bounds-stored-count c).After-c-1, c.loop-i.invariant.0.keys)

pub offset_bounds-out-count : goal.offset_bounds-out-count
offset_bounds-out-count c = omega (arith, room (goal.at.offset_bounds-out-count c).After-c-1)

pub bounds-out-count : goal.bounds-out-count
bounds-out-count c =
    omega (arith, room (goal.at.bounds-out-count c).After-c-1, c.loop-i.invariant.0.coefficients)

pub overflow_add-count : goal.overflow_add-count
overflow_add-count c = omega (arith, room (goal.at.overflow_add-count c).After-c-1)

pub loop-i-preserved : goal.loop-i-preserved
unfolding held most_terms
loop-i-preserved c =
    let p = (goal.at.loop-i-preserved c).After-c-1 in
    let size : c.magnitude-size.result ≡ nat_abs (at p).coefficient = c.magnitude-size.ensures
    ∙ ap nat_abs (read_back p) in
    let r = c.loop-i.invariant.0 in
    elim c.if-is_small.branch [
      | then-is_small u ↦ rw (u.stored-is, u.out-is, u.count-is, u.radius-is) (
        r,
        λ w. subst
            (λ r. Swept c.args.threshold (model p w) (paired c.loop-i.stored c.loop-i.out)
            c.loop-i.count (c.loop-i.radius + r) (c.loop-i.i + 1))
            (ap (λ (c : Term). nat_abs c.coefficient) (here p w) ∙ sym size)
            (swept_drop _ _ (lies_long w) _ _ _ _ (c.loop-i.invariant.1 w) (inside p) (lies_limits w).width
            (small_here p w) (tested p w _ size ∙ sym c.is_small.ensures ∙ u.if-is_small.true)),
      )
      | else-is_small u ↦ rw (u.stored-is, u.out-is, u.count-is, u.radius-is) (
        room_still _ _ _ r,
        λ w.
            let put = listed_put (listed_own _ _ (r.keys ∙ sym r.coefficients)) c.loop-i.count
            (get_or (listed (model p w)) c.loop-i.i zero_term)
            (sym (ap (λ (c : Term). c.key) (here p w)))
            (read_back p ∙ sym (ap (λ (c : Term). c.coefficient) (here p w))) in
            subst (λ l. Swept c.args.threshold (model p w) l (c.loop-i.count + 1) c.loop-i.radius (c.loop-i.i + 1))
            (sym put.1)
            (swept_keep _ _ (lies_long w) _ _ _ _ (c.loop-i.invariant.1 w) (inside p) (lies_limits w).width
            (small_here p w) (tested p w _ size ∙ sym c.is_small.ensures ∙ u.if-is_small.false)
            (omega (arith, few (goal.at.loop-i-preserved c).Start, inside p))),
      )
    ]

pub shape_of-stored : goal.shape_of-stored
shape_of-stored c =
    let a = c.loop-i.invariant.0.keys in
    let b = (zeros_room c.requires.zeros).keys in search rules

pub shape_of-out : goal.shape_of-out
shape_of-out c =
    let a = c.loop-i.invariant.0.coefficients in
    let b = (zeros_room c.requires.zeros).coefficients in search rules

pub returns : goal.returns
unfolding held
returns c w =
    let i = c.loop-i.invariant in
    left_accepted _ _ _ _ refl _
    (listed_struct (listed_own _ _ (i.0.keys ∙ sym i.0.coefficients)) _ _ _
    ∙ swept_end _ _ (lies_long w) _ _ _ _ (i.1 w) (omega arith))
