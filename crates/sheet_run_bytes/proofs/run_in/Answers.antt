-- `run_in` lends arrays of zeros.
use Rattle.std.proofs.Common.{arith}
use Rattle.calculus.specs.Model.{most_terms}
use Rattle.sheet_results.specs.ResultsLaws.{roomy_zeros, roomy_less}
use Rattle.sheet_run_bytes.proofs.run_in.Goals as goal

pub run_loaded-requires-clause-roomy : goal.run_loaded-requires-clause-roomy
unfolding most_terms
run_loaded-requires-clause-roomy g c =
    let s = c.requires.sizes in
    roomy_less (roomy_zeros g.row.TERMS g.row.TERMS g.row.PLACES g.row.PLACES g.row.PLACES s.1 s.1
    (omega arith) (omega arith)) s.0
