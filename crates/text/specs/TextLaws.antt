-- Laws of text in a borrowed buffer: what a text that is put from the start leaves.
use Rattle.std.specs.Prelude.{◌≡◌, refl, List, [], ◌∷◌, ◌++◌, ℕ, suc, ◌≤◌, length, take, drop, set}
use Rattle.std.proofs.Common.{sym, ◌∙◌, ap, arith, take_all}
use Rattle.std.proofs.lemmas.List.Edits.{sets}
use Rattle.std.proofs.Math.Seq.{set_out, take-nil}
use Rattle.text_decimal.specs.Put.{Put}
use Rattle.text.specs.Text.{laid}

-- beyond the end none is kept
sets_out : (a l : List ℕ) (i : ℕ) → length l ≤ i → sets l i a ≡ l
sets_out [] l i h = refl
sets_out (x ∷ a) l i h = ap (λ k. sets k (suc i) a) (set_out l i x h) ∙ sets_out a l (suc i) (omega arith)

sets_after : (a l : List ℕ) (i x : ℕ) → sets (x ∷ l) (suc i) a ≡ x ∷ sets l i a
sets_after [] l i x = refl
sets_after (y ∷ a) l i x = sets_after a (set l i y) (suc i) x

-- ---- a text from the start
sets_laid : (t l : List ℕ) → sets l 0 t ≡ laid t l
unfolding laid
sets_laid [] l = ap (λ k. k ++ l) (sym (take-nil (length l)))
sets_laid (a ∷ t) [] = sets_out t [] 1 (omega arith)
sets_laid (a ∷ t) (x ∷ l) = sets_after t l 0 a ∙ ap (λ k. a ∷ k) (sets_laid t l)

-- a buffer that is long enough begins with the whole text, and the rest of it stays
pub laid_whole : (t l : List ℕ) → length t ≤ length l → laid t l ≡ t ++ drop (length t) l
unfolding laid
laid_whole t l h = ap (λ k. k ++ drop (length t) l) (take_all (length l) t h)

-- a text that is cut off fills the buffer
pub laid_cut : (t l : List ℕ) → length l ≤ length t → laid t l ≡ take (length l) t
unfolding laid
laid_cut [] [] h = refl
laid_cut [] (x ∷ l) h = absurd (omega arith)
laid_cut (a ∷ t) [] h = refl
laid_cut (a ∷ t) (x ∷ l) h = ap (λ k. a ∷ k) (laid_cut t l (omega arith))

-- a text that is put from the start is laid over the buffer
pub put_laid : {l m : List ℕ} {r : ℕ} {t : List ℕ} → Put l 0 t m r → (r ≡ length t) × (m ≡ laid t l)
put_laid {l} {t = t} p = (omega (arith, p.counted), p.stored ∙ sets_laid t l)
