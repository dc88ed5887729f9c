-- Laws of a place: how long the record there should be, and what it is.
use Rattle.std.specs.Prelude.{◌≡◌, Bool, List, ℕ, ◌+◌, ◌-◌, ◌*◌, ◌≤◌, ◌<◌, ltb, length, drop}
use Rattle.std.proofs.Math.Bool.{true, false, cond}
use native.Mathlib.Omega.{arith}
use borrow.Author.Tests.{lt-ltb, le-ltb}
use Rattle.format.specs.Bytes.{byte}
use Rattle.format.specs.Format.{term_length, model_length}
use Rattle.format.specs.ReadLoopLaws.{byte_at}
use Rattle.sheet_book.specs.declared.Kind.TheVariants.{Model, Step, End}
use Rattle.sheet_record_places.specs.Places.{first_step, vars_of, record_size, kind_at}

module _ (s : List ℕ) (at : ℕ) where
  pub size_model : at < first_step s → record_size s at ≡ 5 + term_length (vars_of s) * byte (at + 4) s
  unfolding record_size model_length
  size_model h = rw (lt-ltb at (first_step s) h, byte_at at 4 s)

  pub size_step : first_step s ≤ at → record_size s at ≡ 8
  unfolding record_size
  size_step h = rw (le-ltb at (first_step s) h)

  pub size_some : 5 ≤ record_size s at
  unfolding record_size model_length
  size_some = go (ltb at (first_step s))
    where
      go : (t : Bool) → 5 ≤ cond t (5 + term_length (vars_of s) * byte 4 (drop at s)) 8
      go true = omega arith
      go false = omega arith

-- ---- what it is
module _ (s : List ℕ) (at : ℕ) where
  pub kind_none : length s - 8 ≤ at → kind_at s at ≡ End
  unfolding kind_at
  kind_none h = rw (le-ltb at (length s - 8) h)

  pub kind_model : at < length s - 8 → at < first_step s → kind_at s at ≡ Model
  unfolding kind_at
  kind_model h o = rw (lt-ltb at (length s - 8) h, lt-ltb at (first_step s) o)

  pub kind_step : at < length s - 8 → first_step s ≤ at → kind_at s at ≡ Step
  unfolding kind_at
  kind_step h o = rw (lt-ltb at (length s - 8) h, le-ltb at (first_step s) o)
