pub mod ShareCalls
-- Handed on: crates above name these through this crate.
pub use Rattle.c_runs.specs.sheet
pub use Rattle.c_writes.specs as c_writes
pub use Rattle.c_runs.specs as c_runs
