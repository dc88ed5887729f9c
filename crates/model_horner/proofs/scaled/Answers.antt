-- `scaled` goes over the terms once: what is not 0 is stored in order, and E grows by what each term leaves.
use mathlib.Core.Path.{◌≡◌, sym, ◌∙◌, ap, subst}
use mathlib.Core.Bool.{not}
use Prim.Native.Nat.{◌+◌, ◌*◌, ◌≤◌, ◌<◌, ◌^◌}
use native.Mathlib.Omega.{arith}
use borrow.Author.Rules.{rules}
use lib.Dec.{T}
use lib.IntN.{ℤ, pos, nat_abs}
use lib.ListN.{get_or}
use mir.Facts.{to_z-of_z}
use mir.Syntax.{w64}
use mir.Val.{to_z, of_z}
use Rattle.fixed.specs.MachineLaws.{answered}
use Rattle.calculus.specs.Model.{most_terms}
use Rattle.calculus.specs.Terms.{is_nonzero}
use Rattle.model_types.specs.ModelStruct.{view, pad, pack}
use Rattle.model_types.specs.ZeroTestLaws.{zero_bits, nonzero_bits}
use Rattle.model_slices.specs.HandedModels.{terms_of}
use Rattle.model_slices.specs.HeldModels.{held}
use Rattle.model_slices.specs.HeldModelsLaws.{room_still}
use Rattle.model_scaling.specs.Scaling.{scaled_coefficient, scaled_residual, scaled_pass}
use Rattle.model_scaling.specs.ScaledPassLaws.{Gathered}
use Rattle.model_horner.specs.Held.{ScaleOf}
use Rattle.model_horner.specs.HeldPassLaws.{scale_few, carried_small, scale_first, scale_room, scale_fits}
use Rattle.model_horner.specs.HeldPassLaws.{scale_within, scale_keep, scale_drop, scale_end}
use Rattle.model_horner.proofs.scaled.Goals as goal
use Rattle.model_horner.proofs.scaled.Goals.{then-new-ne0, else-new-ne0, After-c-1, After-magnitude, After-scaled_coefficient-new, After-scaled_residual-error, Start}

module _ (c : Start) where
  -- the constant, as a loop holds it
  abbrev X : ℤ
  X = to_z w64 (of_z w64 c.args.x)

  back : X ≡ c.args.x
  back = to_z-of_z c.ranges.x

  scale : ScaleOf X c.args.total c.args.radius c.args.keys.now c.args.coefficients.now
  scale = subst (λ z. ScaleOf z c.args.total c.args.radius c.args.keys.now c.args.coefficients.now)
      (sym back) c.requires.scale_of

  few : c.args.total ≤ 64
  unfolding most_terms
  few = scale_few scale

first_error : (c : After-magnitude)
    → c.magnitude.result * c.args.radius ≡ nat_abs (X c.before.before.before.before) * c.args.radius
first_error c = ap (λ z. z * c.args.radius) c.magnitude.ensures

pub overflow_mul-error : goal.overflow_mul-error
overflow_mul-error c = record {
  fits = omega (arith, first_error c, carried_small (scale (goal.at.overflow_mul-error c).Start));
}

pub loop-j-init : goal.loop-j-init
loop-j-init c = (c.requires.room, λ w. scale_first w _ _ (first_error c))

pub offset_bounds-keys-j : goal.offset_bounds-keys-j
offset_bounds-keys-j c = omega (arith, few (goal.at.offset_bounds-keys-j c).Start)

pub bounds-keys-j : goal.bounds-keys-j
bounds-keys-j c =
    omega (arith, few (goal.at.bounds-keys-j c).Start, c.requires.scale_of.room.keys)

pub offset_bounds-coefficients-j : goal.offset_bounds-coefficients-j
offset_bounds-coefficients-j c = omega (arith, few (goal.at.offset_bounds-coefficients-j c).Start)

pub bounds-coefficients-j : goal.bounds-coefficients-j
bounds-coefficients-j c =
    omega (arith, few (goal.at.bounds-coefficients-j c).Start, c.requires.scale_of.room.coefficients)

-- the term at hand
module _ (c : After-c-1) where
  abbrev at : ℤ
  at = get_or c.args.coefficients.now c.loop-j.j (pos 0)

  inside : c.loop-j.j < c.args.total
  inside = omega arith

  read_back : to_z w64 (of_z w64 at) ≡ at
  read_back = to_z-of_z {w = w64} (record { sfits = c.c-1.given })

  abbrev gathered : Gathered (X c.before.before.before.before.before.before.before.before)
      (held (scale c.before.before.before.before.before.before.before.before).vars c.args.total c.args.radius
      c.args.keys.now c.args.coefficients.now) (pad (terms_of c.loop-j.count c.loop-j.stored
      c.loop-j.out)) c.loop-j.count c.loop-j.error c.loop-j.j
  gathered = c.loop-j.invariant.1 (scale c.before.before.before.before.before.before.before.before)

  fits : nat_abs at * nat_abs (X c.before.before.before.before.before.before.before.before) < 2 ^ 63
  fits = scale_fits (scale c.before.before.before.before.before.before.before.before) _ _ gathered inside

  room : c.loop-j.count < 64
  room = omega (
    arith,
    few c.before.before.before.before.before.before.before.before,
    inside,
    scale_room (scale c.before.before.before.before.before.before.before.before) _ _ gathered,
  )

pub scaled_coefficient-new-requires : goal.scaled_coefficient-new-requires
scaled_coefficient-new-requires c = rw (read_back c) (fits c)

-- its new coefficient
new_is : (c : After-scaled_coefficient-new)
    → c.scaled_coefficient-new.result ≡ scaled_coefficient
    (X c.before.before.before.before.before.before.before.before.before)
    (at (goal.at.scaled_residual-error-requires c).After-c-1)
new_is c = c.scaled_coefficient-new.ensures ∙ ap (scaled_coefficient
    (X c.before.before.before.before.before.before.before.before.before))
    (read_back (goal.at.scaled_residual-error-requires c).After-c-1)

pub scaled_residual-error-requires : goal.scaled_residual-error-requires
scaled_residual-error-requires c = rw (read_back (goal.at.scaled_residual-error-requires c).After-c-1)
    (fits (goal.at.scaled_residual-error-requires c).After-c-1)

-- and what it leaves
error_is : (c : After-scaled_residual-error)
    → c.loop-j.error + c.scaled_residual-error.result
    ≡ c.loop-j.error + scaled_residual (X c.before.before.before.before.before.before.before.before.before.before)
    (at (goal.at.overflow_add-error c).After-c-1)
error_is c =
    ap (λ g. c.loop-j.error + g)
    (c.scaled_residual-error.ensures ∙ ap (scaled_residual
    (X c.before.before.before.before.before.before.before.before.before.before))
    (read_back (goal.at.overflow_add-error c).After-c-1))

pub overflow_add-error : goal.overflow_add-error
overflow_add-error c =
    record {
      fits = omega (
        arith,
        error_is c,
        scale_within (scale (goal.at.overflow_add-error c).Start) _ _
            (gathered (goal.at.overflow_add-error c).After-c-1) (inside (goal.at.overflow_add-error c).After-c-1),
      );
    }

pub offset_bounds-stored-count : goal.offset_bounds-stored-count
offset_bounds-stored-count c = omega (arith, room (goal.at.offset_bounds-stored-count c).After-c-1)

pub bounds-stored-count : goal.bounds-stored-count
bounds-stored-count c =
    omega (arith, room (goal.at.bounds-stored-count c).After-c-1, c.loop-j.invariant.0.keys)

pub offset_bounds-out-count : goal.offset_bounds-out-count
offset_bounds-out-count c = omega (arith, room (goal.at.offset_bounds-out-count c).After-c-1)

pub bounds-out-count : goal.bounds-out-count
bounds-out-count c =
    omega (arith, room (goal.at.bounds-out-count c).After-c-1, c.loop-j.invariant.0.coefficients)

pub overflow_add-count : goal.overflow_add-count
overflow_add-count c = omega (arith, room (goal.at.overflow_add-count c).After-c-1)

pub loop-j-preserved : goal.loop-j-preserved
loop-j-preserved c =
    let p = (goal.at.loop-j-preserved c).After-c-1 in
    let n = (goal.at.loop-j-preserved c).After-scaled_coefficient-new in
    let e = (goal.at.loop-j-preserved c).After-scaled_residual-error in
    elim c.if-new-ne0.branch [
      | then-new-ne0 u ↦ rw (u.stored-is, u.out-is, u.count-is) (
        room_still _ _ _ c.loop-j.invariant.0,
        λ w. scale_keep w _ _ (c.loop-j.invariant.1 w) (inside p) (error_is e) c.loop-j.invariant.0
            (subst T (sym (ap is_nonzero (sym (new_is n)) ∙ nonzero_bits _ u.if-new-ne0.true)) tt)
            (answered c.scaled_coefficient-new.type_inv (new_is n)),
      )
      | else-new-ne0 u ↦ rw (u.stored-is, u.out-is, u.count-is) (
        c.loop-j.invariant.0,
        λ w. scale_drop w _ _ (c.loop-j.invariant.1 w) (inside p) (error_is e)
            (subst (λ b. T (not b)) (sym (ap is_nonzero (sym (new_is n))
            ∙ zero_bits (record { sfits = c.scaled_coefficient-new.type_inv }) u.if-new-ne0.false)) tt),
      )
    ]

pub shape_of-stored : goal.shape_of-stored
shape_of-stored c =
    let a = c.loop-j.invariant.0.keys in
    let b = c.requires.room.keys in search rules

pub shape_of-out : goal.shape_of-out
shape_of-out c =
    let a = c.loop-j.invariant.0.coefficients in
    let b = c.requires.room.coefficients in search rules

pub returns : goal.returns
returns c =
    λ w.
    subst (λ (z : ℤ). (w : ScaleOf z c.args.total c.args.radius c.args.keys.now
    c.args.coefficients.now) → held w.vars c.loop-j.count c.loop-j.error
    c.loop-j.stored c.loop-j.out ≡ pack (scaled_pass z (view (held w.vars c.args.total
    c.args.radius c.args.keys.now c.args.coefficients.now)))) (back (goal.at.returns c).Start)
    (λ w. scale_end w _ _ (c.loop-j.invariant.1 w) (omega arith)) w
