-- `in_powers` keeps the terms that are not zero, and tests their span.
use mathlib.Core.Path.{◌≡◌, refl, sym, ◌∙◌, ap, subst}
use mathlib.Core.List.{[], ◌∷◌, map}
use Prim.Native.Nat.{◌+◌, ◌*◌, ◌-◌, ◌^◌, ◌≤◌, ◌<◌}
use native.Mathlib.Omega.{arith}
use borrow.Author.Rules.{rules}
use lib.IntN.{ℤ, nat_abs, pos}
use lib.ListN.{length, get_or}
use mir.Facts.{to_z-of_z}
use mir.Syntax.{w64}
use mir.Val.{to_z, of_z}
use Rattle.calculus.specs.Key.{key, key_width}
use Rattle.calculus.specs.Model.{most_terms}
use Rattle.chebyshev.specs.Coefficients.{Row, size}
use Rattle.chebyshev.specs.PowerRows.{places, combine}
use Rattle.chebyshev.proofs.RowLengthLaws.{into_powers_length}
use Rattle.chebyshev.specs.Tables.{chebyshev_table}
use Rattle.model_types.specs.Arrays.{padded}
use Rattle.model_types.specs.declared.Model.{Model}
use Rattle.std.specs.Prelude.{Ok}
use Rattle.model_types.specs.ModelStruct.{cause, paired}
use Rattle.model_types.specs.PairedLaws.{Listed, listed_put, listed_struct}
use Rattle.model_curve_range.specs.CurveRangeLaws.{sizes_small}
use Rattle.model_curve_rows.specs.SmallRowsLaws.{entry_le, into_powers_size}
use Rattle.model_curve_to_powers.specs.PowerLoopLaws.{Converted, converted_first, converted_drop, converted_keep}
use Rattle.model_curve_to_powers.specs.PowerLoopLaws.{powers_within, powers_over}
use Rattle.model_curve_to_powers.proofs.in_powers.Goals as goal
use Rattle.model_curve_to_powers.proofs.in_powers.Goals.{After-in_rows-row, After-magnitude-size, At-loop-i}

pub in_rows-row-requires : goal.in_rows-row-requires
in_rows-row-requires c = c.requires

module _ (c : After-in_rows-row) where
  abbrev row : Row
  row = c.in_rows-row.result.places

  row_is : row ≡ combine c.args.c.coefficients chebyshev_table
  row_is = c.in_rows-row.ensures

  whole : length row ≡ 16
  unfolding places
  whole = ap length row_is ∙ into_powers_length c.args.c.coefficients

  sizes : size c.args.c.coefficients + c.args.c.radius < 2 ^ 31
  sizes = sizes_small _ c.requires

  radius_small : c.args.c.radius < 2 ^ 31
  radius_small = omega (arith, sizes)

pub loop-i-init : goal.loop-i-init
unfolding most_terms padded paired
loop-i-init c = (record { keys_are = refl; coefficients_are = refl }, converted_first _ _ (whole c) (radius_small c))

pub power_key-key-requires : goal.power_key-key-requires
power_key-key-requires c = omega (arith, c.loop-i-test.true)

-- the coefficient at hand, and its size
module _ (c : After-magnitude-size) where
  abbrev at : ℤ
  at = get_or (row c.before.before.before.before) c.loop-i.i (pos 0)

  inside : c.loop-i.i < 16
  inside = c.loop-i-test.true

  at_is : to_z w64 (of_z w64 at) ≡ at
  at_is = to_z-of_z {w = w64} (record { sfits = c.z-1.given })

  size_is : c.magnitude-size.result ≡ nat_abs at
  size_is = c.magnitude-size.ensures ∙ ap nat_abs at_is

  size_small : c.magnitude-size.result ≤ 2 ^ 50
  size_small = omega (
    arith,
    size_is,
    entry_le (row c.before.before.before.before) c.loop-i.i,
    ap size (row_is c.before.before.before.before),
    into_powers_size c.args.c.coefficients,
    sizes c.before.before.before.before,
  )

pub loop-i-preserved-then-size-eq0 : goal.loop-i-preserved-then-size-eq0
loop-i-preserved-then-size-eq0 c = (
  c.loop-i.invariant.0,
  converted_drop _ _ (whole (goal.at.loop-i-preserved-then-size-eq0 c).After-in_rows-row)
      (radius_small (goal.at.loop-i-preserved-then-size-eq0 c).After-in_rows-row) _ _ _ _ c.loop-i.invariant.1
      (inside (goal.at.loop-i-preserved-then-size-eq0 c).After-magnitude-size)
      (omega (arith, size_is (goal.at.loop-i-preserved-then-size-eq0 c).After-magnitude-size, c.if-size-eq0.true)),
)

pub overflow_add-span : goal.overflow_add-span
overflow_add-span c =
    omega (
      arith,
      c.loop-i.invariant.1.small,
      inside (goal.at.overflow_add-span c).After-magnitude-size,
      size_small (goal.at.overflow_add-span c).After-magnitude-size,
    )

pub offset_bounds-keys-count : goal.offset_bounds-keys-count
offset_bounds-keys-count c = omega (
  arith,
  c.loop-i.invariant.1.few,
  inside (goal.at.offset_bounds-keys-count c).After-magnitude-size,
)

pub bounds-keys-count : goal.bounds-keys-count
bounds-keys-count c = omega (arith, c.loop-i.invariant.1.few, inside (goal.at.bounds-keys-count c).After-magnitude-size)

pub offset_bounds-coefficients-count : goal.offset_bounds-coefficients-count
offset_bounds-coefficients-count c = omega (
  arith,
  c.loop-i.invariant.1.few,
  inside (goal.at.offset_bounds-coefficients-count c).After-magnitude-size,
)

pub bounds-coefficients-count : goal.bounds-coefficients-count
bounds-coefficients-count c = omega (
  arith,
  c.loop-i.invariant.1.few,
  inside (goal.at.bounds-coefficients-count c).After-magnitude-size,
)

pub overflow_add-count : goal.overflow_add-count
overflow_add-count c = omega (
  arith,
  c.loop-i.invariant.1.few,
  inside (goal.at.overflow_add-count c).After-magnitude-size,
)

pub loop-i-preserved : goal.loop-i-preserved
loop-i-preserved c =
    let put = listed_put c.loop-i.invariant.0 c.loop-i.count
    (record {
      key = key key_width (c.loop-i.i ∷ []);
      coefficient = at
          (goal.at.loop-i-preserved c).After-magnitude-size;
    })
    c.power_key-key.ensures (at_is (goal.at.loop-i-preserved c).After-magnitude-size) in (
      put.0,
      subst (λ l. Converted (row (goal.at.loop-i-preserved c).After-in_rows-row) c.args.c.radius l (c.loop-i.count + 1)
          (c.loop-i.span + c.magnitude-size.result) (c.loop-i.i + 1)) (sym put.1)
          (converted_keep _ _ (whole (goal.at.loop-i-preserved c).After-in_rows-row)
          (radius_small (goal.at.loop-i-preserved c).After-in_rows-row) _ _ _ _ c.loop-i.invariant.1
          (inside (goal.at.loop-i-preserved c).After-magnitude-size) _ _ _ refl
          (size_is (goal.at.loop-i-preserved c).After-magnitude-size) (omega (arith, c.if-size-eq0.false))
          (size_small (goal.at.loop-i-preserved c).After-magnitude-size) refl),
    )

-- the terms in powers of the curve itself
made : (c : At-loop-i)
    → Converted (combine c.args.c.coefficients chebyshev_table)
    c.args.c.radius
    (paired c.loop-i.keys c.loop-i.coefficients) c.loop-i.count c.loop-i.span c.loop-i.i
made c = subst (λ r. Converted r c.args.c.radius (paired c.loop-i.keys c.loop-i.coefficients)
    c.loop-i.count c.loop-i.span c.loop-i.i) (row_is c.before) c.loop-i.invariant.1

pub returns-then-within_span : goal.returns-then-within_span
returns-then-within_span c =
    ap (λ (m : Model). record { model = m; verdict = Ok tt })
    (listed_struct c.loop-i.invariant.0 _ _ _)
    ∙ powers_within _ (radius_small (goal.at.returns-then-within_span c).After-in_rows-row) _ _ _ _
    (made (goal.at.returns-then-within_span c).At-loop-i) c.loop-i-test.false
    (sym c.within_span.ensures ∙ c.if-within_span.true)

pub returns : goal.returns
unfolding cause
returns c =
    c.refuse.ensures
    ∙ powers_over _ (radius_small (goal.at.returns c).After-in_rows-row) _ _ _ _ (made (goal.at.returns c).At-loop-i)
    c.loop-i-test.false
    (sym c.within_span.ensures ∙ c.if-within_span.false)
