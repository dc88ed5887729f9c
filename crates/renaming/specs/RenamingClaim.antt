-- What is promised of a renaming (request 8): of a model, of a book, of the book of a sheet, and of a sheet.
use Rattle.std.specs.Prelude.{◌≡◌, List, ℕ, T, length}
use Rattle.calculus.specs.Model.{Model, Point, InBox, value, sound}
use Rattle.calculus.specs.Refusal.{done}
use Rattle.calculus.specs.Book.{Book, run}
use Rattle.calculus.specs.Shares.{shares_rows}
use Rattle.calculus_laws.specs.BookLaws.{Passes}
use Rattle.format.specs.Bytes.{AllBytes}
use Rattle.format.specs.HeldBook.{HeldBook, view_book, HeldPasses}
use Rattle.format.specs.Format.{read, sheet_bytes, run_sheet, sheet_rows}
use Rattle.renaming.specs.Reordering.{Reordering, inverse, rename_point, rename_model, rename_book, rename_result}
use Rattle.renaming.specs.Reordering.{rename_held}

-- a model with its variables reordered
pub record RenamesModel (m : Model) (ρ : Reordering m.vars) : Type 0 where
  -- stands for the same function: at a point of the box with its coordinates reordered, which is one too, it has the
  -- value that the model has at the point
  pub renamed_point : (x : Point) → InBox m.vars x → InBox m.vars (rename_point ρ x)
  pub same_value : (x : Point) → InBox m.vars x → value (rename_model ρ m) (rename_point ρ x) ≡ value m x

-- a book with its variables reordered
pub record RenamesBook (b : Book) (ρ : Reordering b.vars) : Type 0 where
  -- passes the tests
  pub passes : Passes (rename_book ρ b)
  -- its run gives the renamed answer: coefficients, radius, range, integral, q and r, or the same refusal at the same
  -- step
  pub renamed_run : run (rename_book ρ b) ≡ rename_result ρ (run b)
  -- its rows are the same
  pub same_rows : shares_rows (rename_book ρ b) ≡ shares_rows b
  -- and with its variables put back it is the book
  pub renamed_back : rename_book (inverse ρ) (rename_book ρ b) ≡ b

-- the book of a sheet with its variables reordered
pub record RenamesHeld (h : HeldBook) (ρ : Reordering h.n) : Type 0 where
  -- passes the tests
  pub passes : HeldPasses (rename_held ρ h)
  -- stands for the renamed book
  pub renamed_view : view_book (rename_held ρ h) ≡ rename_book ρ (view_book h)
  -- and with its variables put back it is the book
  pub renamed_back : rename_held (inverse ρ) (rename_held ρ h) ≡ h

-- a sheet with its variables reordered, where h is its book
pub record RenamesSheet (sheet : List ℕ) (h : HeldBook) (ρ : Reordering h.n) : Type 0 where
  -- consists of bytes
  pub bytes : AllBytes (sheet_bytes (rename_held ρ h))
  -- is one that the reader accepts
  pub renamed_read : read (sheet_bytes (rename_held ρ h)) ≡ done (rename_held ρ h)
  -- has the same length
  pub same_length : length (sheet_bytes (rename_held ρ h)) ≡ length sheet
  -- its run gives the renamed answer
  pub renamed_run : run_sheet (sheet_bytes (rename_held ρ h)) ≡ rename_result ρ (run_sheet sheet)
  -- its rows are the same
  pub same_rows : sheet_rows (sheet_bytes (rename_held ρ h)) ≡ sheet_rows sheet
  -- and with its variables put back it is the sheet
  pub renamed_back : sheet_bytes (rename_held (inverse ρ) (rename_held ρ h)) ≡ sheet

-- ---- the theorems; RenamingProof has a proof of each
-- every sound model, every reordering of its variables
abbrev pub EveryModelRenames : Type 0
EveryModelRenames = (d : ℕ) (m : Model) → T (sound d m) → (ρ : Reordering m.vars) → RenamesModel m ρ

-- every book that passes the tests
abbrev pub EveryBookRenames : Type 0
EveryBookRenames = (b : Book) → Passes b → (ρ : Reordering b.vars) → RenamesBook b ρ

-- every held book that passes them
abbrev pub EveryHeldRenames : Type 0
EveryHeldRenames = (h : HeldBook) → HeldPasses h → (ρ : Reordering h.n) → RenamesHeld h ρ

-- every sheet that the reader accepts
abbrev pub EverySheetRenames : Type 0
EverySheetRenames = (sheet : List ℕ) → AllBytes sheet → (h : HeldBook) → read sheet ≡ done h
    → (ρ : Reordering h.n) → RenamesSheet sheet h ρ
