-- `collected` adds the products of each degree of f, from the last one down.
use mathlib.Core.Path.{◌≡◌, sym, ◌∙◌, ap}
use Prim.Native.Nat.{ℕ, ◌+◌, ◌*◌, ◌-◌, ◌^◌, ◌<◌}
use native.Mathlib.Omega.{arith}
use borrow.Author.Rules.{rules}
use lib.IntN.{ℤ, nat_abs, pos}
use lib.ListN.{length, get_or}
use mir.Facts.{to_z-of_z}
use mir.Syntax.{w64}
use mir.Val.{to_z, of_z}
use Rattle.chebyshev.specs.Coefficients.{Row, size, products_of}
use Rattle.chebyshev.specs.CurveOperations.{products}
use Rattle.model_curve_multiplication.specs.CollectLaws.{Collecting, collecting_first, collecting_iteration}
use Rattle.model_curve_multiplication.specs.CollectLaws.{collecting_end, collecting_room, sizes_product}
use Rattle.model_curve_multiplication.proofs.collected.Goals as goal
use Rattle.model_curve_multiplication.proofs.collected.Goals.{After-a-1, In-loop-i, Start}

module _ (c : Start) where
  abbrev F : Row
  F = c.args.f.coefficients

  abbrev G : Row
  G = c.args.g.coefficients

  first_whole : length F ≡ 16
  first_whole = search rules

  second_whole : length G ≡ 16
  second_whole = search rules

  small : size F * size G < 2 ^ 61
  small = omega (arith, sizes_product _ _ c.requires.t c.requires.t_2)

pub loop-i-init : goal.loop-i-init
loop-i-init c = collecting_first _ _ (first_whole c) (second_whole c) (small c)

-- the degree at hand
module _ (c : In-loop-i) where
  within : c.loop-i.i - 1 < 16
  within = omega (arith, c.loop-i.invariant.most, c.loop-i-test.true)

  room : 2 * (nat_abs (get_or (F c.before.before) (c.loop-i.i - 1) (pos 0)) * size (G c.before.before)) + size
      c.loop-i.z < 2 ^ 63
  room = collecting_room _ _ (first_whole c.before.before) (second_whole c.before.before) (small c.before.before) _ _
      c.loop-i.invariant
      c.loop-i-test.true

pub offset_bounds-f-i : goal.offset_bounds-f-i
offset_bounds-f-i c = omega (arith, within c)

pub bounds-f-i : goal.bounds-f-i
bounds-f-i c = within c

first_is : (c : After-a-1)
    → let z = get_or (F c.before.before.before) (c.loop-i.i - 1) (pos 0) in to_z w64 (of_z w64 z) ≡ z
first_is c = to_z-of_z {w = w64} (record { sfits = c.a-1.given })

pub add_products-requires : goal.add_products-requires
add_products-requires c =
    record {
      i_bound = within (goal.at.add_products-requires c).In-loop-i;
      z_len = c.loop-i.invariant.long;
      g_len = second_whole (goal.at.add_products-requires c).Start;
      z_bound = rw (first_is (goal.at.add_products-requires c).After-a-1)
          (room (goal.at.add_products-requires c).In-loop-i);
    }

pub loop-i-preserved : goal.loop-i-preserved
loop-i-preserved c =
    collecting_iteration _ _ (first_whole (goal.at.loop-i-preserved c).Start)
    (second_whole (goal.at.loop-i-preserved c).Start) (small (goal.at.loop-i-preserved c).Start) _ _
    c.loop-i.invariant
    c.loop-i-test.true _
    (c.add_products.ensures
    ∙ ap (λ z. products_of (c.loop-i.i - 1) z 0 (G (goal.at.loop-i-preserved c).Start) c.loop-i.z)
    (first_is (goal.at.loop-i-preserved c).After-a-1))

pub returns : goal.returns
unfolding products
returns c =
    collecting_end _ _ (first_whole (goal.at.returns c).Start) (second_whole (goal.at.returns c).Start)
    (small (goal.at.returns c).Start) _ _ c.loop-i.invariant c.loop-i-test.false
