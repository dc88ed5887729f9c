-- The claim about a whole sheet, from its bytes.
use Rattle.std.specs.Prelude.{◌≡◌, List, ℕ}
use Rattle.calculus.specs.Refusal.{done}
use Rattle.calculus.specs.Book.{Summary}
use Rattle.claim.specs.Claim.{Claim}
use Rattle.format.specs.HeldBook.{HeldBook, view_book}
use Rattle.format.specs.Format.{read}

-- an accepted sheet has a book, of which the claim holds
pub record SheetClaim (bytes : List ℕ) (s : Summary) : Type 0 where
  pub book : HeldBook
  pub is_read : read bytes ≡ done book
  pub claims : Claim (view_book book) s
