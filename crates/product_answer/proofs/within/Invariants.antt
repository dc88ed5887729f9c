-- `within` sums the span as far as the cap.
use Rattle.std.proofs.Common.{◌≡◌, List, ℕ, ◌+◌, ◌≤◌, length}
use Rattle.numbers.specs.Fixed.{capped}
use Rattle.calculus.specs.Terms.{size}
use Rattle.product_sums.specs.TermArrays.{terms}
use Rattle.product_answer.proofs.within.Given as goal

abbrev pub invariant-loop-c : goal.invariant-loop-c
invariant-loop-c l =
    (keys : List ℕ) → l.count ≤ length keys
    → capped l.span ≡ capped (size (terms l.c-index keys l.coefficients) + l.radius)
