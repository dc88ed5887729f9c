-- `integrated_slices` goes over the terms once: what is not 0 is stored in order, and the radius grows by what each
-- term adds.
use mathlib.Core.Path.{◌≡◌, refl, sym, ◌∙◌, ap, subst}
use mathlib.Core.Bool.{not}
use Prim.Native.Nat.{◌+◌, ◌≤◌, ◌<◌}
use native.Mathlib.Omega.{arith}
use borrow.Author.Rules.{rules}
use lib.Dec.{T}
use lib.IntN.{ℤ, pos}
use lib.ListN.{get_or}
use mir.Facts.{to_z-of_z}
use mir.Syntax.{w64}
use mir.Val.{to_z, of_z}
use Rattle.numbers.proofs.FixedLaws.{span_fits}
use Rattle.fixed.specs.MachineLaws.{answered}
use Rattle.calculus.specs.Model.{most_terms}
use Rattle.calculus.specs.Terms.{is_nonzero}
use Rattle.model_types.specs.declared.Term.{Term}
use Rattle.model_types.specs.declared.Model.{Model}
use Rattle.model_types.specs.ModelStruct.{zero_term, listed}
use Rattle.model_types.specs.PairedLaws.{listed_own, listed_put, listed_struct}
use Rattle.model_types.specs.ZeroTestLaws.{zero_bits, nonzero_bits}
use Rattle.model_keys.specs.Keys.{Raisable, key_raised}
use Rattle.model_slices.specs.HeldModels.{held}
use Rattle.model_slices.specs.HeldModelsLaws.{pair, room_still}
use Rattle.model_places.specs.LeftModelsLaws.{left_accepted, zeros_room}
use Rattle.model_antiderivative.specs.Antiderivatives.{key_coefficient, key_growth, IntegrandIn}
use Rattle.model_antiderivative.specs.PassLaws.{slot, Gathered, gathered_zeros, gathered_room}
use Rattle.model_antiderivative.specs.PassLaws.{gathered_end, gathered_within, gathered_keep, gathered_drop}
use Rattle.model_antiderivative.specs.PassLaws.{raisable, nonzero_stays, in_limits, in_few, in_long, in_at}
use Rattle.model_antiderivative.specs.PassLaws.{in_small}
use Rattle.model_antiderivative.proofs.integrated_slices.Goals as goal
use Rattle.model_antiderivative.proofs.integrated_slices.Goals.{then-new-ne0, else-new-ne0, After-c-1, After-divided-new, After-growth-radius, Start, Then-new-ne0}

few : (s : Start) → s.args.total ≤ 64
unfolding most_terms
few s = in_few s.requires.integrand_in

pub loop-j-init : goal.loop-j-init
unfolding held
loop-j-init c =
    (zeros_room c.requires.zeros, λ w. gathered_zeros w.integrand (in_long w) c.requires.zeros)

-- the term at hand
module _ (c : After-c-1) where
  abbrev Lent : Type 0
  Lent = IntegrandIn c.args.d c.args.i c.args.total c.args.start
      c.args.keys.now c.args.coefficients.now

  abbrev model : Lent → Model
  model w = held w.vars c.args.total c.args.start c.args.keys.now
      c.args.coefficients.now

  abbrev at : Term
  at = pair (get_or c.args.keys.now c.loop-j.j 0)
      (get_or c.args.coefficients.now c.loop-j.j (pos 0))

  inside : c.loop-j.j < c.args.total
  inside = omega arith

  read_back : to_z w64 (of_z w64 at.coefficient) ≡ at.coefficient
  read_back = to_z-of_z {w = w64} (record { sfits = c.c-1.given })

  -- in any model that the slices hold
  here : (w : Lent) → get_or (listed (model w)) c.loop-j.j zero_term ≡ at
  here w = in_at w c.loop-j.j inside

pub divided-new-requires : goal.divided-new-requires
unfolding held
divided-new-requires c =
    let w = c.requires.integrand_in in
    record {
      slot = slot w.integrand (in_long w);
      coefficient_bound = rw (read_back c) (in_small w c.loop-j.j (inside c));
    }

-- its new coefficient
module _ (c : After-divided-new) where
  abbrev new : ℤ
  new = key_coefficient c.args.d c.args.i (at (goal.at.growth-radius-requires c).After-c-1).key
      (at (goal.at.growth-radius-requires c).After-c-1).coefficient

  new_is : c.divided-new.result ≡ new
  new_is = c.divided-new.ensures
      ∙ ap (key_coefficient c.args.d c.args.i _) (read_back (goal.at.growth-radius-requires c).After-c-1)

  new_in : (w : Lent (goal.at.growth-radius-requires c).After-c-1) → c.divided-new.result
      ≡ key_coefficient c.args.d c.args.i
      (get_or (listed (model (goal.at.growth-radius-requires c).After-c-1 w)) c.loop-j.j zero_term).key
      (get_or (listed (model (goal.at.growth-radius-requires c).After-c-1 w)) c.loop-j.j zero_term).coefficient
  new_in w = new_is ∙ ap (λ (t : Term). key_coefficient c.args.d c.args.i
      t.key t.coefficient) (sym (here (goal.at.growth-radius-requires c).After-c-1 w))

pub growth-radius-requires : goal.growth-radius-requires
unfolding held
growth-radius-requires c = let w = c.requires.integrand_in in slot w.integrand (in_long w)

-- and what it adds
module _ (c : After-growth-radius) where
  radius_is : (w : Lent (goal.at.overflow_add-radius c).After-c-1)
      → c.loop-j.radius + c.growth-radius.result ≡ c.loop-j.radius
      + key_growth c.args.d c.args.i
      (get_or (listed (model (goal.at.overflow_add-radius c).After-c-1 w)) c.loop-j.j zero_term).key
      (get_or (listed (model (goal.at.overflow_add-radius c).After-c-1 w)) c.loop-j.j zero_term).coefficient
  radius_is w = ap (λ g. c.loop-j.radius + g) (c.growth-radius.ensures
      ∙ ap (key_growth c.args.d c.args.i _) (read_back (goal.at.overflow_add-radius c).After-c-1)
      ∙ ap (λ (t : Term). key_growth c.args.d c.args.i t.key t.coefficient)
      (sym (here (goal.at.overflow_add-radius c).After-c-1 w)))

  room : c.loop-j.count < 64
  unfolding held
  room =
      let w = c.requires.integrand_in in
      omega (
        arith,
        few c.before.before.before.before.before.before.before.before.before,
        inside (goal.at.overflow_add-radius c).After-c-1,
        gathered_room w.integrand (in_long w) (c.loop-j.invariant.1 w),
      )

pub overflow_add-radius : goal.overflow_add-radius
unfolding held
overflow_add-radius c =
    let w = c.requires.integrand_in in
    omega (
      arith,
      span_fits,
      (in_limits w).small,
      radius_is c w,
      gathered_within w.integrand (in_long w) (c.loop-j.invariant.1 w)
          (inside (goal.at.overflow_add-radius c).After-c-1),
    )

-- a coefficient that is not 0 belongs to a term that stays
nonzero : (c : Then-new-ne0) → T (is_nonzero c.divided-new.result)
nonzero c = subst T (sym (nonzero_bits _ c.if-new-ne0.true)) tt

pub raised-requires : goal.raised-requires
unfolding held
raised-requires c =
    let w = c.requires.integrand_in in
    subst (λ (x : Term). Raisable c.args.i x.key) (here (goal.at.raised-requires c).After-c-1 w)
    (raisable w.integrand (in_long w) c.loop-j.j (inside (goal.at.raised-requires c).After-c-1)
    (nonzero_stays _ _ _ _ (subst (λ z. T (is_nonzero z)) (new_in (goal.at.raised-requires c).After-divided-new w)
    (nonzero c))))

pub offset_bounds-stored-count : goal.offset_bounds-stored-count
offset_bounds-stored-count c = omega (arith, room (goal.at.offset_bounds-stored-count c).After-growth-radius)

pub bounds-stored-count : goal.bounds-stored-count
bounds-stored-count c =
    omega (arith, room (goal.at.bounds-stored-count c).After-growth-radius, c.loop-j.invariant.0.keys)

pub offset_bounds-out-count : goal.offset_bounds-out-count
offset_bounds-out-count c = omega (arith, room (goal.at.offset_bounds-out-count c).After-growth-radius)

pub bounds-out-count : goal.bounds-out-count
bounds-out-count c =
    omega (arith, room (goal.at.bounds-out-count c).After-growth-radius, c.loop-j.invariant.0.coefficients)

pub overflow_add-count : goal.overflow_add-count
overflow_add-count c = omega (arith, room (goal.at.overflow_add-count c).After-growth-radius)

pub loop-j-preserved : goal.loop-j-preserved
unfolding held most_terms
loop-j-preserved c =
    let p = (goal.at.loop-j-preserved c).After-c-1 in
    let d = (goal.at.loop-j-preserved c).After-divided-new in
    let g = (goal.at.loop-j-preserved c).After-growth-radius in
    let r = c.loop-j.invariant.0 in
    elim c.if-new-ne0.branch [
      | then-new-ne0 u ↦ rw (u.stored-is, u.out-is, u.count-is) (
        room_still _ _ _ r,
        λ w.
            let put = listed_put (listed_own _ _ (r.keys ∙ sym r.coefficients)) c.loop-j.count
            (record {
              key = key_raised c.args.i (get_or (listed (model p w)) c.loop-j.j zero_term).key;
              coefficient = key_coefficient c.args.d c.args.i
                  (get_or (listed (model p w)) c.loop-j.j zero_term).key
                  (get_or (listed (model p w)) c.loop-j.j zero_term).coefficient;
            })
            (u.raised.ensures ∙ ap (λ (x : Term). key_raised c.args.i x.key) (sym (here p w)))
            (answered c.divided-new.type_inv (new_in d w)) in
            subst (λ l. Gathered c.args.d c.args.i (model p w) l (c.loop-j.count + 1)
            (c.loop-j.radius + c.growth-radius.result) (c.loop-j.j + 1)) (sym put.1)
            (gathered_keep w.integrand (in_long w) (c.loop-j.invariant.1 w) (inside p) (radius_is g w)
            (subst (λ z. T (is_nonzero z)) (new_in d w)
            (subst T (sym (nonzero_bits _ u.if-new-ne0.true)) tt))
            (omega (arith, few (goal.at.loop-j-preserved c).Start, inside p)) refl refl),
      )
      | else-new-ne0 u ↦ rw (u.stored-is, u.out-is, u.count-is) (
        r,
        λ w. gathered_drop w.integrand (in_long w) (c.loop-j.invariant.1 w) (inside p) (radius_is g w)
            (subst (λ b. T (not b)) (sym (ap is_nonzero (sym (new_in d w))
            ∙ zero_bits (record { sfits = c.divided-new.type_inv }) u.if-new-ne0.false)) tt),
      )
    ]

pub shape_of-stored : goal.shape_of-stored
shape_of-stored c =
    let a = c.loop-j.invariant.0.keys in
    let b = (zeros_room c.requires.zeros).keys in search rules

pub shape_of-out : goal.shape_of-out
shape_of-out c =
    let a = c.loop-j.invariant.0.coefficients in
    let b = (zeros_room c.requires.zeros).coefficients in search rules

pub returns : goal.returns
unfolding held
returns c w =
    let i = c.loop-j.invariant in
    left_accepted _ _ _ _ refl _
    (listed_struct (listed_own _ _ (i.0.keys ∙ sym i.0.coefficients)) _ _ _
    ∙ gathered_end w.integrand (in_long w) (i.1 w) (omega arith))
