-- `take_next` takes the term with the smaller key, or both terms of one key together.
use mathlib.Core.Path.{◌≡◌, ◌∙◌, ap₂}
use native.Mathlib.Omega.{arith}
use borrow.Author.Rules.{rules}
use lib.IntN.{◌+ℤ◌}
use mir.Facts.{to_z-of_z}
use mir.Syntax.{w64}
use mir.Val.{to_z, of_z}
use Rattle.model_addition.specs.Merge.{from_first, from_second, from_both}
use Rattle.model_addition.proofs.take_next.Goals as goal
use Rattle.model_addition.proofs.take_next.Goals.{After-struct_told-2-1, After-sum}

pub returns-then-d-j : goal.returns-then-d-j
returns-then-d-j c = from_first (omega arith) (λ h. absurd (omega arith))

pub returns-then-c-i : goal.returns-then-c-i
returns-then-c-i c = from_second (omega arith) (λ h. absurd (omega arith))

pub returns-then-x-y : goal.returns-then-x-y
returns-then-x-y c = from_first (omega arith) (λ h. omega arith)

pub returns-then-y-x : goal.returns-then-y-x
returns-then-y-x c = from_second (omega arith) (λ h. omega arith)

-- the two coefficients of one key
module _ (c : After-struct_told-2-1) where
  first_back : to_z w64 (of_z w64 c.args.x.coefficient) ≡ c.args.x.coefficient
  first_back = to_z-of_z {w = w64} (record { sfits = c.struct_told-1.given.1.0.1 })

  second_back : to_z w64 (of_z w64 c.args.y.coefficient) ≡ c.args.y.coefficient
  second_back = to_z-of_z {w = w64} (record { sfits = c.struct_told-2-1.given.1.0.1 })

sum_back : (c : After-sum)
    → to_z w64 (of_z w64 c.sum.result)
    ≡ c.args.x.coefficient +ℤ c.args.y.coefficient
sum_back c =
    to_z-of_z {w = w64} (record { sfits = c.sum.type_inv })
    ∙ c.sum.ensures
    ∙ ap₂ ◌+ℤ◌ (first_back (goal.at.overflow_add-result-2 c).After-struct_told-2-1)
    (second_back (goal.at.overflow_add-result-2 c).After-struct_told-2-1)

pub sum-requires : goal.sum-requires
sum-requires c = rw (first_back c, second_back c) (c.requires.fits (omega arith) (omega arith))

pub returns : goal.returns
returns c = rw (sum_back c) (from_both (omega arith) (omega arith) (omega arith))

pub overflow_add-result-2 : goal.overflow_add-result-2
overflow_add-result-2 c = search rules
