-- What the model of an answer in arrays says of itself.
use Rattle.std.specs.Prelude.{◌≡◌, List, ℕ, ℤ}
use Rattle.std.proofs.Common.{◌∙◌}
use Rattle.std.proofs.Math.Path.{ap}
use Rattle.calculus.specs.Model.{zero_model}
use Rattle.model_types.specs.declared.Model.{Model}
use Rattle.model_types.specs.declared.Refusal.{Refusal}
use Rattle.std.specs.Prelude.{Ok, Err}
use Rattle.model_types.specs.ModelStruct.{refused_at}
use Rattle.model_types.specs.ModelStruct.{pack}
use Rattle.product_sums.specs.TermArrays.{terms}
use Rattle.product_sums.specs.TermArrayLaws.{terms_length}
use Rattle.model_slices.specs.declared.Kept.{Kept}
use Rattle.product_answer.specs.PackedTerms.{packed}
use Rattle.product_answer.specs.KeptProduct.{model_unless, kept_model, KeptReady}

module _ (n : ℕ) (k : Kept) (keys : List ℕ) (coefficients : List ℤ) where
  abbrev held : Model
  held = kept_model n k keys coefficients

  -- the numbers of an accepted one
  module _ (h : KeptReady k keys coefficients) (e : k.verdict ≡ Ok tt) where
    is_packed : held ≡ packed n k.radius (terms k.count keys coefficients)
    unfolding kept_model model_unless
    is_packed = ap (λ v. model_unless v (packed n k.radius (terms k.count keys coefficients))) e

    pub kept_vars : held.n ≡ n
    unfolding packed
    kept_vars = ap (λ (m : Model). m.n) is_packed

    pub kept_radius : held.radius ≡ k.radius
    unfolding packed
    kept_radius = ap (λ (m : Model). m.radius) is_packed

    pub kept_counted : held.count ≡ k.count
    unfolding packed
    kept_counted =
        let r = h.ready e in
        ap (λ (m : Model). m.count) is_packed
        ∙ terms_length k.count keys coefficients r.keys_long r.coefficients_long

  -- a refused one is the zero model
  module _ (r : Refusal) (i : ℕ) (e : k.verdict ≡ Err (refused_at r i)) where
    is_zero : held ≡ pack (zero_model 1)
    unfolding kept_model model_unless
    is_zero = ap (λ v. model_unless v (packed n k.radius (terms k.count keys coefficients))) e

    pub refused_vars : held.n ≡ 1
    unfolding pack zero_model
    refused_vars = ap (λ (m : Model). m.n) is_zero

    pub refused_count : held.count ≡ 0
    unfolding pack zero_model
    refused_count = ap (λ (m : Model). m.count) is_zero

    pub refused_radius : held.radius ≡ 0
    unfolding pack zero_model
    refused_radius = ap (λ (m : Model). m.radius) is_zero
