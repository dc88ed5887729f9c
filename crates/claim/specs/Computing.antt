-- A named list of definitions, as in the calculus: a fact that computes opens all of them by `unfolding` one name.
use Rattle.calculus.specs.Book as B
use Rattle.claim.specs.Outcome as Ou
use Rattle.claim.specs.Claim as Cl

-- what is promised
unfoldable pub promises : Unit {0}
unfolding
    B.operands
    Ou.is_quotient Ou.is_antiderivative Ou.each_step Ou.no_quotient Ou.no_antiderivative
    Ou.any_marked Ou.is_fed Ou.marks_after Ou.no_quotient_feeds
    Cl.promised
promises = tt
