-- `run_in` loads the models into arrays of its own, and runs the steps.
use Rattle.std.proofs.Common.{arith}
use Rattle.calculus.specs.Model.{most_terms}
use Rattle.sheet_book.specs.BookStruct.{held_book}
use Rattle.sheet_results.specs.ResultsLaws.{roomy_zeros, roomy_less}
use Rattle.sheet_running.proofs.run_in.Goals as goal

pub load-l-requires-clause-roomy : goal.load-l-requires-clause-roomy
unfolding most_terms
load-l-requires-clause-roomy g c =
    let s = c.requires.sizes in
    roomy_less (roomy_zeros g.row.TERMS g.row.TERMS g.row.PLACES g.row.PLACES g.row.PLACES s.1 s.1
    (omega arith) (omega arith)) s.0

pub returns : goal.returns
returns g c =
    let e = c.load-l.ensures in
    c.run_steps.ensures (record {
      held = held_book c.args.b;
      passes = c.requires.held_passes;
      same = e.0;
      room = e.2;
      loaded = e.1;
    })
