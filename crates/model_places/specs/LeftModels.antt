-- What an operation leaves of a model in two arrays of 64 places: the struct, and the answer.
use Rattle.std.specs.Prelude.{◌≡◌, List, ℕ, T, ℤ, pos, replicate}
use Rattle.calculus.specs.Model.{most_degree, most_terms, sound, zero_model}
use Rattle.model_types.specs.declared.Model.{Model}
use Rattle.model_types.specs.declared.Answer.{Answer}
use Rattle.model_types.specs.ModelStruct.{Verdict}
use Rattle.std.specs.Prelude.{Ok, Err}
use Rattle.model_types.specs.ModelStruct.{refused_at}
use Rattle.model_types.specs.ModelStruct.{view, pack}
use Rattle.model_limits.specs.model_slices.HeldModels.{held}
use Rattle.model_limits.specs.declared.Left.{Left}
use Rattle.model_places.specs.SlicePlaces.{Places}

-- a sound model lies in slices
pub record Lies (count radius : ℕ) (ks : List ℕ) (cs : List ℤ) : Type 0 where
  pub vars : ℕ
  pub places : Places count ks cs
  pub model : T (sound most_degree (view (held vars count radius ks cs)))

-- the arrays hold zeros
pub record Zeros (ks : List ℕ) (cs : List ℤ) : Type 0 where
  pub keys : ks ≡ replicate most_terms 0
  pub coefficients : cs ≡ replicate most_terms (pos 0)

-- the struct of both arrays
abbrev pub left_model : (n : ℕ) → Left → List ℕ → List ℤ → Model
left_model n l ks cs = record { n = n; count = l.count; radius = l.radius; keys = ks; coefficients = cs }

-- a model, or beside a refusal the zero model
unfoldable pub unless_refused : Verdict → Model → Model
unless_refused (Ok u) m = m
unless_refused (Err r) m = pack (zero_model 1)

-- the answer
unfoldable pub left_answer : (n : ℕ) → Left → List ℕ → List ℤ → Answer
left_answer n l ks cs =
    record { model = unless_refused l.verdict (left_model n l ks cs); verdict = l.verdict }
