-- The span of a model that lies in slices: each iteration is that of the sum over its struct.
use Rattle.std.specs.Prelude.{◌≡◌, List, ℕ, ◌+◌, ◌≤◌, ◌<◌, leb, ℤ, pos, get_or}
use Rattle.std.proofs.Common.{sym, ◌∙◌}
use Rattle.std.proofs.Math.Path.{ap}
use Rattle.std.proofs.Math.IntN.{nat_abs}
use Rattle.numbers.specs.Fixed.{span_limit, capped}
use Rattle.calculus.specs.Model.{most_terms, span}
use Rattle.model_slices.specs.model_types.declared.Term.{Term}
use Rattle.model_slices.specs.model_types.declared.Model.{Model}
use Rattle.model_slices.specs.model_types.ModelStruct.{view}
use Rattle.model_slices.specs.HeldModels.{held, Room}
use Rattle.model_slices.specs.HeldModelsLaws.{held_whole, held_at}
use Rattle.model_limits.specs.LimitLaws as L

module _ (n count radius : ℕ) (ks : List ℕ) (cs : List ℤ) (room : Room ks cs) (few : count ≤ most_terms) where
  abbrev spanned : Model
  spanned = held n count radius ks cs

  pub span_first : L.Summed spanned radius 0
  unfolding held
  span_first = L.summed_first spanned (held_whole n count radius ks cs room few)

  pub span_iteration : (total i next : ℕ) → L.Summed spanned total i → i < count
      → next ≡ capped (total + nat_abs (get_or cs i (pos 0))) → L.Summed spanned next (i + 1)
  unfolding held
  span_iteration total i next h l e = L.summed_iteration spanned
      (held_whole n count radius ks cs room few) total i next h l
      (e ∙ ap (λ (t : Term). capped (total + nat_abs t.coefficient))
      (sym (held_at n count radius ks cs room few i l)))

  pub span_end : (total i : ℕ) → L.Summed spanned total i → count ≤ i
      → leb total span_limit ≡ leb (span (view spanned)) span_limit
  unfolding held
  span_end total i h l = L.summed_end spanned (held_whole n count radius ks cs room few) total i h l
