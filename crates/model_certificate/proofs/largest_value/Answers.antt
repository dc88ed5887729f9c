-- `largest_value` takes the larger of the sizes of the two ends.
use mathlib.Core.Path.{◌≡◌, ◌∙◌, ap}
use native.Mathlib.Omega.{arith}
use borrow.Author.Rules.{rules}
use lib.IntN.{nat_abs}
use mir.Facts.{to_z-of_z}
use Rattle.calculus.specs.Model as C
use Rattle.calculus.specs.Operations.{range, largest_end, largest_value}
use Rattle.model_types.specs.ModelStruct.{view, bounds}
use Rattle.model_slices.specs.HeldModels.{held}
use Rattle.model_places.specs.LeftModels.{Lies}
use mir.Syntax.{w64}
use Rattle.model_certificate.proofs.largest_value.Goals as goal
use Rattle.model_certificate.proofs.largest_value.Goals.{After-magnitude-high, After-magnitude-low, Start}

-- what is asked at the start
module _ (s : Start) where
  abbrev InSlices : Type 0
  InSlices = Lies s.args.count s.args.radius s.args.keys.now s.args.coefficients.now

  abbrev form : InSlices → C.Model
  form w = view (held w.vars s.args.count s.args.radius s.args.keys.now s.args.coefficients.now)

-- the size of each end
low_size : (c : After-magnitude-low) (w : InSlices c.before.before.before.before.before)
    → c.magnitude-low.result ≡ nat_abs (range (form c.before.before.before.before.before w)).low
unfolding bounds
low_size c w = c.magnitude-low.ensures ∙ ap nat_abs
    (to_z-of_z {w = w64} (record { sfits = c.struct_told-1.given.0.1 })
    ∙ ap (λ b. b.low) (c.range_slices-ends.ensures w))

high_size : (c : After-magnitude-high) (w : InSlices c.before.before.before.before.before.before.before)
    → c.magnitude-high.result ≡ nat_abs (range (form c.before.before.before.before.before.before.before w)).high
unfolding bounds
high_size c w = c.magnitude-high.ensures ∙ ap nat_abs
    (to_z-of_z {w = w64} (record { sfits = c.struct_told-2-1.given.1.0.1 })
    ∙ ap (λ b. b.high) (c.range_slices-ends.ensures w))

pub returns : goal.returns
unfolding largest_value largest_end
returns c w = omega (
  arith,
  low_size (goal.at.returns c).After-magnitude-low w,
  high_size (goal.at.returns c).After-magnitude-high w,
  c.max.ensures,
)
