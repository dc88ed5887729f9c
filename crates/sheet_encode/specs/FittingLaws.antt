-- A model's record: its length, and what fits of a model's terms fits of the array's entries.
use Rattle.std.specs.Prelude.{◌≡◌, ℕ, ◌+◌, ◌*◌, ◌^◌, ◌<◌, ◌≤◌, length, get_or}
use Rattle.std.proofs.Common.{◌∙◌}
use Rattle.std.proofs.Math.Path.{ap}
use native.Mathlib.Omega.{arith}
use Rattle.std.proofs.Math.IntN.{nat_abs}
use Rattle.model_types.specs.declared.Term.{Term}
use Rattle.model_types.specs.declared.Model.{Model}
use Rattle.model_types.specs.ModelStruct.{zero_term, listed}
use Rattle.format.specs.Format.{head_length, term_length, model_bytes}
use Rattle.format.proofs.ReadBackLaws.{length_model}
use Rattle.sheet_book.specs.BookStruct.{held_term, held_model}
use Rattle.sheet_book.specs.FailingLaws.{length_held, held_at}
use Rattle.sheet_encode.specs.Fitting.{ModelFits}

module _ (m : Model) where
  pub count_terms : length (held_model m).terms ≡ m.count
  unfolding held_model
  count_terms = length_held zero_term held_term m.count (listed m)

  pub length_record : length (model_bytes (held_model m)) ≡ head_length + term_length m.n * m.count
  unfolding held_model
  length_record = length_model (held_model m) ∙ ap (λ c. head_length + term_length m.n * c) count_terms

  pub term_at : (i : ℕ) (x : Term) → i < m.count → m.count ≤ length (listed m)
      → get_or (held_model m).terms i (held_term x) ≡ held_term (get_or (listed m) i x)
  unfolding held_model
  term_at i x h l = held_at zero_term held_term m.count (listed m) l i x h

  pub coefficient_at : ModelFits (held_model m) → (i : ℕ) (x : Term) → i < m.count → m.count ≤ length (listed m)
      → nat_abs (get_or (listed m) i x).coefficient < 2 ^ 31
  unfolding held_term
  coefficient_at f i x h l = omega (
    arith,
    f.coefficients i (held_term x) (omega (arith, count_terms)),
    ap (λ t. nat_abs t.coefficient) (term_at i x h l),
  )
