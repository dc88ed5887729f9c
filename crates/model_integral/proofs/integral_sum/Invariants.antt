-- `integral_sum` sums the shares of the terms whose exponents are all even.
use Rattle.model_integral.specs.IntegralSizeLaws.{share}
use Rattle.model_integral.specs.IntegralTerms.{TermsIn}
use Rattle.model_integral.specs.IntegralPassLaws.{EvenSum}
use Rattle.model_integral.proofs.integral_sum.Given as goal

abbrev pub invariant-loop-i : goal.invariant-loop-i
invariant-loop-i l =
    (w : TermsIn l.n l.count l.keys l.coefficients) → EvenSum w (share l.up l.n) l.total l.i
