-- One more byte copied, and what is copied at the end.
use Rattle.std.specs.Prelude.{◌≡◌, refl, List, [], ◌∷◌, ℕ, zero, suc, ◌+◌, ◌<◌, min, length, take, get_or, set}
use Rattle.std.proofs.Common.{sym, ◌∙◌, ap, arith, length-take-le}
use Rattle.model_types.specs.ModelStructLaws.{take_more}
use Rattle.text.specs.Text.{laid}
use Rattle.model_slices.specs.HandedModels.{over}
use Rattle.model_slices.specs.HandedModelsLaws.{over_more}

-- an iteration of the loop that copies
pub copied_more : (b o : List ℕ) (i : ℕ) → i < length b → i < length o
    → set (over (take i b) o) i (get_or b i 0) ≡ over (take (i + 1) b) o
copied_more b o i h l =
    over_more 0 (take i b) o i _ (length-take-le i b (omega arith)) l ∙ ap (λ r. over r o) (sym (take_more b i 0 h))

-- its end: as much as there is room for
pub copied_end : (i : ℕ) (b o : List ℕ) → i ≡ min (length b) (length o) → over (take i b) o ≡ laid b o
unfolding over laid
copied_end zero [] [] e = refl
copied_end zero [] (y ∷ o) e = refl
copied_end zero (x ∷ b) [] e = refl
copied_end zero (x ∷ b) (y ∷ o) e = absurd (omega arith)
copied_end (suc i) [] o e = absurd (omega arith)
copied_end (suc i) (x ∷ b) [] e = absurd (omega arith)
copied_end (suc i) (x ∷ b) (y ∷ o) e = ap (λ r. x ∷ r) (copied_end i b o (omega arith))
