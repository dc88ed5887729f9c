-- Models in memory: the model that a struct holds, and the struct that holds a model; answers likewise.
use Rattle.std.specs.Prelude as S
use Rattle.std.specs.Prelude.{Bool, ◌&&◌, List, [], ◌∷◌, map, ℕ, leb, ℤ, pos, length, Ok, Err}
use Rattle.polynomial.specs.Polynomial as P
use Rattle.calculus.specs.Key.{key_width, key, key_fits, monomial_of, key_degree}
use Rattle.calculus.specs.Terms.{term, is_nonzero}
use Rattle.calculus.specs.Model as C
use Rattle.calculus.specs.Model.{most_terms, zero_model}
use Rattle.calculus.specs.Operations.{Ends, zero_ends, zero_mixed}
use Rattle.calculus.specs.Operations as Op
use Rattle.calculus.specs.Refusal as R
use Rattle.calculus.specs.Refusal.{Result, done, stopped}
use Rattle.model_types.specs.Arrays.{first_places, padded}
use Rattle.model_types.specs.declared.Term.{Term}
use Rattle.model_types.specs.declared.Model.{Model}
use Rattle.model_types.specs.declared.Refusal.{Refusal}
use Rattle.model_types.specs.declared.Refusal.TheVariants.{BadLength, BadMark, BadLimits, BadOffset}
use Rattle.model_types.specs.declared.Refusal.TheVariants.{BadModel, BadStep}
use Rattle.model_types.specs.declared.Refusal.TheVariants.{OverSpan, TooManyTerms, LeavesBox}
use Rattle.model_types.specs.declared.Refusal.TheVariants.{VariablesDiffer, ShortBuffer, Uncertified}
use Rattle.model_types.specs.declared.Refusal.TheVariants.{NotOneVariable, CutTooDeep, BadReading}
use Rattle.model_types.specs.declared.Refusal.TheVariants.{BadDouble, BadRank}
use Rattle.model_types.specs.declared.Refused.{Refused}
use Rattle.model_types.specs.declared.Answer.{Answer}
use Rattle.model_types.specs.declared.Bounds.{Bounds}
use Rattle.model_types.specs.declared.Integral.{Integral}

-- what stands in a place that is not used
abbrev pub zero_term : Term
zero_term = record { key = 0; coefficient = pos 0 }

-- the first c places of a list of terms
abbrev pub places : (c : ℕ) → List Term → List Term
places = first_places zero_term

-- the terms that an array of keys and one of coefficients hold, as far as both go
unfoldable pub paired : List ℕ → List ℤ → List Term
paired [] cs = []
paired (k ∷ ks) [] = []
paired (k ∷ ks) (c ∷ cs) = record { key = k; coefficient = c } ∷ paired ks cs

-- those of all places of a struct
abbrev pub listed : Model → List Term
listed m = paired m.keys m.coefficients

-- the array of their keys
abbrev pub keys_of : List Term → List ℕ
keys_of = map (λ t. t.key)

-- and that of their coefficients
abbrev pub coefficients_of : List Term → List ℤ
coefficients_of = map (λ t. t.coefficient)

-- the struct whose places hold a list of terms
abbrev pub of_terms : (n count radius : ℕ) → List Term → Model
of_terms n count radius l =
    record { n = n; count = count; radius = radius; keys = keys_of l; coefficients = coefficients_of l }

-- ---- the model that a struct holds
-- a term of n variables
unfoldable pub view_term : (n : ℕ) → Term → P.Term ℤ
view_term n t = record { coefficient = t.coefficient; exponents = monomial_of n t.key }

-- places beyond the count are not looked at
unfoldable pub view : Model → C.Model
view m = record { vars = m.n; radius = m.radius; terms = map (view_term m.n) (places m.count (listed m)) }

-- a term's own rules, by its key, which is at least one above the key before
unfoldable pub term_sound : (n d least : ℕ) (key : ℕ) → ℤ → Bool
term_sound n d least z c = is_nonzero c && leb least z && key_fits key_width n z && leb (key_degree z) d

-- ---- the struct that holds a model
-- a term by its key
unfoldable pub pack_term : P.Term ℤ → Term
pack_term t = record { key = key key_width t.exponents; coefficient = t.coefficient }

-- places beyond the count hold zeros
abbrev pub pad : List Term → List Term
pad = padded zero_term most_terms

-- the struct of a model
unfoldable pub pack : C.Model → Model
pack m = of_terms m.vars (length m.terms) m.radius (pad (map pack_term m.terms))

-- the model of one term
unfoldable pub one_term : (n z : ℕ) → ℤ → C.Model
one_term n z c = record { vars = n; radius = 0; terms = term c (monomial_of n z) ∷ [] }

-- ---- answers
-- the case of the enum for each refusal; its number is that of document 01's table
unfoldable pub refusal : R.Refusal → Refusal
refusal R.bad_length = BadLength
refusal R.bad_mark = BadMark
refusal R.bad_limits = BadLimits
refusal R.bad_offset = BadOffset
refusal R.bad_model = BadModel
refusal R.bad_step = BadStep
refusal R.over_span = OverSpan
refusal R.too_many_terms = TooManyTerms
refusal R.leaves_box = LeavesBox
refusal R.variables_differ = VariablesDiffer
refusal R.short_buffer = ShortBuffer
refusal R.uncertified = Uncertified
refusal R.not_one_variable = NotOneVariable
refusal R.cut_too_deep = CutTooDeep
refusal R.bad_reading = BadReading
refusal R.bad_double = BadDouble
refusal R.bad_rank = BadRank

-- and back
unfoldable pub cause : Refusal → R.Refusal
cause BadLength = R.bad_length
cause BadMark = R.bad_mark
cause BadLimits = R.bad_limits
cause BadOffset = R.bad_offset
cause BadModel = R.bad_model
cause BadStep = R.bad_step
cause OverSpan = R.over_span
cause TooManyTerms = R.too_many_terms
cause LeavesBox = R.leaves_box
cause VariablesDiffer = R.variables_differ
cause ShortBuffer = R.short_buffer
cause Uncertified = R.uncertified
cause NotOneVariable = R.not_one_variable
cause CutTooDeep = R.cut_too_deep
cause BadReading = R.bad_reading
cause BadDouble = R.bad_double
cause BadRank = R.bad_rank

-- a refusal with its place
abbrev pub refused_at : Refusal → ℕ → Refused
refused_at r i = record { 0 = r; 1 = i }

-- accepted, or refused
abbrev pub Verdict : Type 0
Verdict = S.Result Unit Refused

-- document 01's number of a verdict, 0 without a refusal
unfoldable pub verdict_number : Verdict → ℕ
verdict_number (Ok u) = 0
verdict_number (Err r) = R.number (cause r.0)

-- and its place
unfoldable pub verdict_place : Verdict → ℕ
verdict_place (Ok u) = 0
verdict_place (Err r) = r.1

-- the verdict of a result
unfoldable pub verdict : {A : Type 0} → Result A → Verdict
verdict (done a) = Ok tt
verdict (stopped r i) = Err (refused_at (refusal r) i)

-- a model, or the zero model in one variable beside the refusal
unfoldable pub answer : Result C.Model → Answer
answer (done m) = record { model = pack m; verdict = Ok tt }
answer (stopped r i) = record { model = pack (zero_model 1); verdict = Err (refused_at (refusal r) i) }

-- two ends, or zeros beside the refusal
unfoldable pub bounds : Result Ends → Bounds
bounds (done e) = record { low = e.low; high = e.high; verdict = Ok tt }
bounds (stopped r i) = record { low = zero_ends.low; high = zero_ends.high; verdict = Err (refused_at (refusal r) i) }

-- an integral, or zeros beside the refusal
unfoldable pub integral_answer : Result Op.Integral → Integral
integral_answer (done i) = record {
  low = i.ends.low;
  high = i.ends.high;
  quotient = i.exact.quotient;
  remainder = i.exact.remainder;
  verdict = Ok tt;
}
integral_answer (stopped r i) = record {
  low = zero_ends.low;
  high = zero_ends.high;
  quotient = zero_mixed.quotient;
  remainder = zero_mixed.remainder;
  verdict = Err (refused_at (refusal r) i);
}

-- the ends, q and r that a struct holds
unfoldable pub integral_held : Integral → Op.Integral
integral_held i = record {
  ends = record { low = i.low; high = i.high };
  exact = record { quotient = i.quotient; remainder = i.remainder };
}
