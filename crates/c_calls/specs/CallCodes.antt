-- The single calls on models that are handed over: the call that a code names, and what the slices hold at the end.
use Rattle.std.specs.Prelude.{Bool, true, false, ◌&&◌, ◌||◌, cond, List, [], ◌∷◌, ℕ, eqb, leb, ℤ, pos, get_or}
use Rattle.calculus.specs.Model as C
use Rattle.calculus.specs.Model.{most_vars}
use Rattle.calculus.specs.Refusal.{Result, done, ◌followed_by◌}
use Rattle.calculus.specs.Operations as Op
use Rattle.calculus.specs.Operations.{Ends, zero_mixed}
use Rattle.calculus.specs.Calls.{call_constant, call_variable, call_negate, call_add, call_subtract, call_multiply}
use Rattle.calculus.specs.Calls.{call_substitute, call_sweep, call_antiderivative, call_range, call_integral}
use Rattle.calculus.specs.Calls.{call_evaluate}
use Rattle.model_types.specs.declared.Answer.{Answer}
use Rattle.model_types.specs.declared.Bounds.{Bounds}
use Rattle.model_types.specs.declared.Integral.{Integral}
use Rattle.model_types.specs.ModelStruct.{answer, integral_answer, verdict_number, verdict_place}
use Rattle.model_slices.specs.HandedModels.{borrowed, misused, over, stored_keys, stored_coefficients, stored_numbers}

-- ---- the calls by their codes
-- whether a code names a call that answers with a model: as a sheet's steps 1 to 8 and 10, the antiderivative, but not
-- 9, the quotient, which takes four models
unfoldable pub call_known : (code : ℕ) → Bool
call_known code = eqb code 10 || (leb 1 code && leb code 8)

-- the call that it names; constant and variable take the n of the first model
unfoldable pub model_call : (code d i : ℕ) (v : ℤ) (f g : C.Model) → Result C.Model
model_call code d i v f g =
    cond (eqb code 1) (call_constant f.vars v)
    (cond (eqb code 2) (call_variable f.vars i)
    (cond (eqb code 3) (call_negate f)
    (cond (eqb code 4) (call_add f g)
    (cond (eqb code 5) (call_subtract f g)
    (cond (eqb code 6) (call_multiply d f g)
    (cond (eqb code 7) (call_substitute d i f g)
    (cond (eqb code 8) (call_sweep v f)
    (call_antiderivative d i f))))))))

-- two ends with q and r 0
unfoldable pub alone : Result Ends → Result Op.Integral
alone a = a followed_by (λ e. done (record { ends = e; exact = zero_mixed }))

-- and as structs
unfoldable pub ends_alone : Bounds → Integral
ends_alone b =
    record { low = b.low; high = b.high; quotient = pos 0; remainder = 0; verdict = b.verdict }

-- coordinate i, from 0, of a point that is handed over, 0 where there is none
unfoldable pub coordinate : List ℤ → (i : ℕ) → ℤ
coordinate xs i = get_or xs i (pos 0)

-- all eight of them
unfoldable pub coordinates : List ℤ → List ℤ
coordinates xs =
    coordinate xs 0 ∷ coordinate xs 1 ∷ coordinate xs 2 ∷ coordinate xs 3
    ∷ coordinate xs 4 ∷ coordinate xs 5 ∷ coordinate xs 6 ∷ coordinate xs 7 ∷ []

-- the call with two ends that a code names: 1 range, 2 integral, 3 evaluate; only an integral has q and r
unfoldable pub ends_call : (code : ℕ) → List ℤ → C.Model → Result Op.Integral
ends_call code xs f =
    cond (eqb code 1) (alone (call_range f))
    (cond (eqb code 2) (call_integral f)
    (alone (call_evaluate xs f)))

-- ---- a call that answers with a model
-- the number that it returns, and its slices
pub record Called : Type 0 where
  pub number : ℕ
  pub keys : List ℕ
  pub coefficients : List ℤ
  pub numbers : List ℕ

-- these, put together
unfoldable pub called_state : (number : ℕ) → List ℕ → List ℤ → List ℕ → Called
called_state number ks cs ns = record { number = number; keys = ks; coefficients = cs; numbers = ns }

-- an answer, over what the slices hold
unfoldable pub stored_answer : Answer → List ℕ → List ℤ → List ℕ → Called
stored_answer a ks cs ns =
    called_state (verdict_number a.verdict) (stored_keys a.model ks) (stored_coefficients a.model cs)
    (stored_numbers (verdict_place a.verdict) a.model ns)

-- whether the code is known and the slices are long enough
unfoldable pub call_fits : (code count₁ keys₁ coefficients₁ count₂ keys₂ coefficients₂ : ℕ) (room : Bool) → Bool
call_fits code c₁ k₁ z₁ c₂ k₂ z₂ room = call_known code && borrowed c₁ k₁ z₁ && borrowed c₂ k₂ z₂ && room

-- a call that fits is answered, any other returns 255 and changes nothing
unfoldable pub called : (fits : Bool) → Result C.Model → List ℕ → List ℤ → List ℕ → Called
called true a ks cs ns = stored_answer (answer a) ks cs ns
called false a ks cs ns = called_state misused ks cs ns

-- ---- a call that answers with two ends, q and r
-- the number that it returns, and its slice
pub record CalledEnds : Type 0 where
  pub number : ℕ
  pub ends : List ℤ

-- these, put together
unfoldable pub ends_state : (number : ℕ) → List ℤ → CalledEnds
ends_state number es = record { number = number; ends = es }

-- two ends, q and r, over what the slice holds
unfoldable pub stored_integral : Integral → List ℤ → CalledEnds
stored_integral b es =
    ends_state (verdict_number b.verdict) (over (b.low ∷ b.high ∷ b.quotient ∷ pos b.remainder ∷ []) es)

-- whether a point is long enough: for code 3, which looks at it, it has eight coordinates
unfoldable pub point_fits : (code point : ℕ) → Bool
point_fits code point = cond (eqb code 3) (leb most_vars point) true

-- whether the code is known and the slices are long enough
unfoldable pub ends_call_fits : (code count keys coefficients point ends : ℕ) → Bool
ends_call_fits code count keys coefficients point ends =
    leb 1 code && leb code 3 && borrowed count keys coefficients && point_fits code point && leb 4 ends

-- a call that fits is answered, any other returns 255 and changes nothing
unfoldable pub called_ends : (fits : Bool) → Result Op.Integral → List ℤ → CalledEnds
called_ends true a es = stored_integral (integral_answer a) es
called_ends false a es = ends_state misused es
