-- A key's digits as its exponents in a grid.
use Rattle.std.specs.Prelude.{◌≡◌, ℕ, ◌+◌, ◌*◌, ◌^◌, ◌<◌, ◌≤◌}
use Rattle.std.proofs.Math.Path.{ap₂}
use Rattle.std.proofs.Common.{arith}
use Rattle.product_grid_index.specs.declared.Extents.{Extents}
use Rattle.product_grid_index.specs.declared.Sides.{Sides}
use Rattle.product_grid_index.specs.Grid.{place_by, Gridded, sides_for}
use Rattle.product_grid_index.specs.DigitLaws.{Digits, digits_told, read_first, read_second, read_third}
use Rattle.product_grid_index.specs.DigitLaws.{read_fourth}
use Rattle.product_grid_index.specs.GridPlaceLaws.{digits_below}

module _ {m key : ℕ} (x : Digits m key) (h : m ≤ 127) where
  -- the place
  pub digits_place : (second third fourth : ℕ)
      → place_by second third fourth key ≡ ((x.a * second + x.b) * third + x.c) * fourth + x.d
  unfolding place_by
  digits_place second third fourth =
      ap₂ (λ p q. p * fourth + q)
      (ap₂ (λ p q. p * third + q) (ap₂ (λ p q. p * second + q) (read_first x h) (read_second x h)) (read_third x h))
      (read_fourth x h)

  -- each is below its side
  pub digits_gridded : (s : Sides) → s.first * s.second * s.third * s.fourth ≤ s.size
      → x.a < s.first → x.b < s.second → x.c < s.third → x.d < s.fourth → Gridded s key
  digits_gridded s w ha hb hc hd =
      let l : ((x.a * s.second + x.b) * s.third + x.c) * s.fourth + x.d
      < s.first * s.second * s.third * s.fourth =
      digits_below _ _ _ _ (digits_below _ _ _ _ (digits_below _ _ _ _ ha hb) hc) hd in
      record {
        told = digits_told x h;
        first = rw (read_first x h) ha;
        second = rw (read_second x h) hb;
        third = rw (read_third x h) hc;
        fourth = rw (read_fourth x h) hd;
        below = omega (arith, digits_place s.second s.third s.fourth, l, w);
      }

-- a grid has a place for each
pub sides_whole : (e h : Extents)
    → let s = sides_for e h in s.first * s.second * s.third * s.fourth ≤ s.size
unfolding sides_for
sides_whole e h = omega arith

-- one that is not too large has no other exponents
pub sides_others : (e h : Extents) → (sides_for e h).size < 2 ^ 24 → (e.others ≡ 0) × (h.others ≡ 0)
unfolding sides_for
sides_others e h l = (omega arith, omega arith)
