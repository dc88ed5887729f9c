-- The answer of a product whose terms stand by wide keys in two arrays.
use Rattle.std.specs.Prelude.{◌≡◌, List, ℕ, ℤ}
use Rattle.calculus.specs.Model.{zero_model}
use Rattle.calculus.specs.Shares.{no_shares}
use Rattle.model_types.specs.declared.Model.{Model}
use Rattle.model_types.specs.declared.Refusal.{Refusal}
use Rattle.model_types.specs.ModelStruct.{Verdict}
use Rattle.std.specs.Prelude.{Ok, Err}
use Rattle.model_types.specs.ModelStruct.{refused_at}
use Rattle.model_types.specs.declared.Accounted.{Accounted}
use Rattle.model_types.specs.ModelStruct.{pack}
use Rattle.model_types.specs.SharesStruct.{stored_shares}
use Rattle.product_sums.specs.TermArrays.{terms}
use Rattle.model_slices.specs.declared.Kept.{Kept}
use Rattle.product_answer.specs.PackedTerms.{PackReady, packed}

-- a model, or the zero model in one variable beside a refusal
unfoldable pub model_unless : Verdict → Model → Model
model_unless (Ok u) m = m
model_unless (Err r) m = pack (zero_model 1)

-- the model of an answer: the first count terms of the two arrays
unfoldable pub kept_model : (n : ℕ) → Kept → List ℕ → List ℤ → Model
kept_model n k keys coefficients =
    model_unless k.verdict (packed n k.radius (terms k.count keys coefficients))

-- the answer with the shares of its radius
unfoldable pub kept_accounted : (n : ℕ) → Kept → List ℕ → List ℤ → Accounted
kept_accounted n k keys coefficients = record {
  answer = record { model = kept_model n k keys coefficients; verdict = k.verdict };
  shares = k.shares;
}

-- the terms of an accepted one can be packed
pub record KeptReady (k : Kept) (keys : List ℕ) (coefficients : List ℤ) : Type 0 where
  pub ready : k.verdict ≡ Ok tt → PackReady k.count keys coefficients

-- the answer of a refused product
unfoldable pub kept_refused : Refusal → Kept
kept_refused r = record { count = 0; radius = 0; shares = stored_shares no_shares; verdict = Err (refused_at r 0) }

-- how many terms are kept: none beside a refusal
unfoldable pub kept_count : Verdict → ℕ → ℕ
kept_count (Ok u) count = count
kept_count (Err r) count = 0
