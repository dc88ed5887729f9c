-- Sheets that the symmetric range refused and that are accepted: the claim holds of each. As books, with what the
-- symmetric range says of them and with functions and a point for the claim, they stand in claim/RangeFacts.
use Rattle.std.specs.Prelude.{◌≡◌, refl, List, [], ◌∷◌, ℕ}
use Rattle.calculus.specs.Refusal.{done, ◌followed_by◌}
use Rattle.calculus.specs.Book.{summary}
use Rattle.claim.proofs.RangeFacts.{folding, folded, folded_result, bending, bent, bent_result}
use Rattle.format.specs.HeldBook.{view_book}
use Rattle.format.specs.Format.{read, run_sheet}
use Rattle.format.specs.SheetClaim.{SheetClaim}
use Rattle.format.proofs.SheetClaimProof.{sheet_claim}
use Rattle.format.specs.Computing.{reads}
use Rattle.format.specs.Samples.{hex, sheet_forms}

-- ---- by 9: a function within 2x^2 - 1 put in for x in x^2
unfoldable pub folded_sheet : List ℕ
folded_sheet = hex ("03 00 00 00 02 00 00 03 00 F0 FF 00 20 FA FF 1F 00" ∷ "02 00 00 01 00 00 00 00" ∷
    "06 00 00 00 00 00 00 00" ∷ "00 00 00 00 00 00 00 00" ∷ "07 01 02 01 00 00 00 00" ∷
    "01 04 01 04 11 00 4D 4B" ∷ [])

pub folded_sheet_runs : run_sheet folded_sheet ≡ done (summary folded_result)
unfolding reads sheet_forms folded_sheet folded_result
folded_sheet_runs = refl

pub folded_sheet_claim : SheetClaim folded_sheet (summary folded_result)
folded_sheet_claim = sheet_claim folded_sheet (summary folded_result) folded_sheet_runs

-- it reads as the book whose hypotheses are met there
pub folded_sheet_reads : read folded_sheet followed_by (λ h. done (view_book h)) ≡ done folded
unfolding reads sheet_forms folding folded folded_sheet
folded_sheet_reads = refl

-- ---- by 12: a function of at most 3/U divided by 7/4 - 3/2 x^2
unfoldable pub bent_sheet : List ℕ
bent_sheet = hex ("03 00 00 00 00" ∷ "00 00 00 00 02 00 00 00 00 1C 00 00 20 00 00 E8 FF" ∷ "00 00 00 00 00 00 00 00" ∷
    "00 01 00 00 00 00 00 00" ∷ "01 00 00 00 00 00 00 00" ∷ "01 00 00 00 00 00 10 00" ∷ "09 00 01 02 03 00 00 00" ∷
    "01 02 02 05 16 00 4D 4B" ∷ [])

pub bent_sheet_runs : run_sheet bent_sheet ≡ done (summary bent_result)
unfolding reads sheet_forms bent_sheet bent_result
bent_sheet_runs = refl

pub bent_sheet_claim : SheetClaim bent_sheet (summary bent_result)
bent_sheet_claim = sheet_claim bent_sheet (summary bent_result) bent_sheet_runs

pub bent_sheet_reads : read bent_sheet followed_by (λ h. done (view_book h)) ≡ done bent
unfolding reads sheet_forms bending bent bent_sheet
bent_sheet_reads = refl
