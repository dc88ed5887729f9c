-- The run of a sheet that is handed over, and what the slices hold at the end.
use Rattle.std.specs.Prelude.{Bool, true, false, List, [], ◌∷◌, ℕ, ℤ, pos}
use Rattle.model_types.specs.ModelStruct.{verdict_number, verdict_place}
use Rattle.sheet_book.specs.declared.Ends.{Ends}
use Rattle.sheet_book.specs.declared.Exact.{Exact}
use Rattle.sheet_book.specs.declared.Summary.{Summary}
use Rattle.model_slices.specs.HandedModels.{misused, over, stored_keys, stored_coefficients, stored_numbers}

-- the ends of the range and of the integral, q and r, over what the slice holds
unfoldable pub six_ends : (range integral : Ends) → Exact → List ℤ → List ℤ
six_ends r i x = over (r.low ∷ r.high ∷ i.low ∷ i.high ∷ x.quotient ∷ pos x.remainder ∷ [])

-- the number that a run returns, and its slices
pub record Run : Type 0 where
  pub number : ℕ
  pub keys : List ℕ
  pub coefficients : List ℤ
  pub numbers : List ℕ
  pub ends : List ℤ

-- these, put together
unfoldable pub run_state : (number : ℕ) → List ℕ → List ℤ → List ℕ → List ℤ → Run
run_state number ks cs ns es = record { number = number; keys = ks; coefficients = cs; numbers = ns; ends = es }

-- what a run answers, over what the slices hold
unfoldable pub stored_summary : Summary → List ℕ → List ℤ → List ℕ → List ℤ → Run
stored_summary s ks cs ns es =
    run_state (verdict_number s.verdict) (stored_keys s.model ks) (stored_coefficients s.model cs)
    (stored_numbers (verdict_place s.verdict) s.model ns) (six_ends s.range s.integral s.exact es)

-- where all slices have room the run is answered, else the call returns 255 and changes nothing
unfoldable pub called_run : (room ends_room : Bool) → Summary → List ℕ → List ℤ → List ℕ → List ℤ → Run
called_run true true s ks cs ns es = stored_summary s ks cs ns es
called_run true false s ks cs ns es = run_state misused ks cs ns es
called_run false e s ks cs ns es = run_state misused ks cs ns es
