-- What a run answers: its last result with range and integral, or a refusal.
use Rattle.std.specs.Prelude.{pos}
use Rattle.calculus.specs.Model.{zero_model}
use Rattle.calculus.specs.Refusal.{Result, done, stopped}
use Rattle.calculus.specs.Operations as Op
use Rattle.calculus.specs.Book as B
use Rattle.model_types.specs.ModelStruct.{Verdict}
use Rattle.std.specs.Prelude.{Ok, Err}
use Rattle.model_types.specs.ModelStruct.{refused_at}
use Rattle.model_types.specs.ModelStruct.{view, pack, refusal}
use Rattle.sheet_book.specs.declared.Ends.{Ends}
use Rattle.sheet_book.specs.declared.Exact.{Exact}
use Rattle.sheet_book.specs.declared.Summary.{Summary}

-- ---- the answer of a run
-- two ends
unfoldable pub stored_ends : Op.Ends → Ends
stored_ends e = record { low = e.low; high = e.high }

-- q and r
unfoldable pub stored_exact : Op.Mixed → Exact
stored_exact x = record { quotient = x.quotient; remainder = x.remainder }

-- a refused run: the zero model with n = 1, ends 0, q and r 0
unfoldable pub refused_summary : Verdict → Summary
refused_summary v = record {
  model = pack (zero_model 1);
  range = record { low = pos 0; high = pos 0 };
  integral = record { low = pos 0; high = pos 0 };
  exact = record { quotient = pos 0; remainder = 0 };
  verdict = v;
}

-- what a run answers
unfoldable pub run_answer : Result B.Summary → Summary
run_answer (done s) = record {
  model = pack s.model;
  range = stored_ends s.range;
  integral = stored_ends s.integral;
  exact = stored_exact s.exact;
  verdict = Ok tt;
}
run_answer (stopped r i) = refused_summary (Err (refused_at (refusal r) i))

-- ---- what an answer holds
-- two ends
unfoldable pub ends_of : Ends → Op.Ends
ends_of e = record { low = e.low; high = e.high }

-- q and r
unfoldable pub exact_of : Exact → Op.Mixed
exact_of x = record { quotient = x.quotient; remainder = x.remainder }

-- the result, its range and its integral that a struct holds
unfoldable pub summary_of : Summary → B.Summary
summary_of r = record {
  model = view r.model;
  range = ends_of r.range;
  integral = ends_of r.integral;
  exact = exact_of r.exact;
}
