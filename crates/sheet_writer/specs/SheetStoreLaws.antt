-- The sections of a sheet, one put after the other from the start of a buffer on, are the sheet; the rest stays.
use Rattle.std.specs.Prelude.{◌≡◌, List, ◌++◌, map, ℕ, ◌+◌, ◌*◌, ◌≤◌, length, drop}
use Rattle.std.proofs.Math.Path.{refl}
use Rattle.std.proofs.Common.{◌∙◌, ap, append_assoc, arith, length-append}
use Rattle.std.proofs.lemmas.List.Edits.{sets}
use Rattle.format.specs.Bytes.{join}
use Rattle.format.specs.HeldBook.{HeldBook}
use Rattle.format.specs.Format.{step_length, step_bytes, models_bytes, trailer_bytes, sheet_bytes}
use Rattle.format.proofs.ReadBackLaws.{length_steps}
use Rattle.format.specs.WriteLoopLaws.{sets_more, sets_front}

-- the whole sheet: models, steps and the trailer
module _ (h : HeldBook) where
  abbrev P : List ℕ
  P = models_bytes h

  abbrev Q : List ℕ
  Q = join (map step_bytes h.steps)

  pub sheet_stores : (buffer : List ℕ) (offset end : ℕ) → offset ≡ length P
      → end ≡ offset + step_length * length h.steps → length (sheet_bytes h) ≤ length buffer
      → sets (sets (sets buffer 0 P) offset Q) end (trailer_bytes h)
      ≡ sheet_bytes h ++ drop (length (sheet_bytes h)) buffer
  sheet_stores buffer offset end o e r =
      ap (λ s. sets s end (trailer_bytes h)) (sets_more P Q buffer 0 offset (omega arith))
      ∙ sets_more (P ++ Q) (trailer_bytes h) buffer 0 end (omega (arith, length-append P Q, length_steps h.steps))
      ∙ ap (sets buffer 0) (append_assoc P Q (trailer_bytes h) ∙ whole)
      ∙ sets_front (sheet_bytes h) buffer r
    where
      whole : P ++ (Q ++ trailer_bytes h) ≡ sheet_bytes h
      whole = unfold sheet_bytes in refl
