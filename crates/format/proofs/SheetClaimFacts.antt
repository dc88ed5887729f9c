-- A fact beside the claim about a sheet, for long keys: from the bytes of a sheet of eight variables it refutes a wrong
-- answer.
use Rattle.std.specs.Prelude.{◌≡◌, refl, List, [], ◌∷◌, ℕ}
use Rattle.std.proofs.Common.{sym, ◌∙◌, ap, subst}
use Rattle.calculus.specs.Model.{Model}
use Rattle.calculus.specs.Refusal.{done, ◌followed_by◌}
use Rattle.calculus.specs.Operations.{Ends, zero_ends, Mixed}
use Rattle.calculus.specs.Book.{Book}
use Rattle.claim.specs.Claim.{Claim}
use Rattle.claim.proofs.ClaimFacts.{one_step, range_refutes}
use Rattle.format.specs.HeldBook.{view_book}
use Rattle.format.specs.Format.{read}
use Rattle.format.specs.SheetClaim.{SheetClaim}
use Rattle.format.specs.Computing.{reads}
use Rattle.format.specs.Samples.{hex, sheet_forms}

-- the constant 1 / U in eight variables
unfoldable pub one_of_eight : List ℕ
one_of_eight = hex ("01 00 00 00 01 00 00 00" ∷ "08 01 00 01 00 00 4D 57" ∷ [])

one_of_eight_reads : read one_of_eight followed_by (λ h. done (view_book h)) ≡ done (one_step 8 [])
unfolding reads sheet_forms one_of_eight one_step
one_of_eight_reads = refl

-- 0 to 0 is not its range
pub long_range_refutes : (m : Model) (i : Ends) (x : Mixed)
    → SheetClaim one_of_eight (record { model = m; range = zero_ends; integral = i; exact = x }) → ⊥
unfolding ◌followed_by◌
long_range_refutes m i x c = range_refutes 8 m i x
    (subst (λ (b : Book). Claim b (record { model = m; range = zero_ends; integral = i; exact = x })) same c.claims)
  where
    same : view_book c.book ≡ one_step 8 []
    same = let e : done (view_book c.book) ≡ done (one_step 8 [])
        = sym (ap (λ r. r followed_by (λ h. done (view_book h))) c.is_read) ∙ one_of_eight_reads in cc
