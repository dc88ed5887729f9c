-- Bytes put into a borrowed buffer from a place on, and the numbers that are put.
use Rattle.std.specs.Prelude.{◌≡◌, List, ◌++◌, ℕ, ◌+◌, ◌^◌, ◌<◌, ℤ, length}
use Rattle.std.proofs.lemmas.List.Edits.{sets}
use Rattle.format.specs.Lines.{text, decimal, signed_decimal}

-- bytes put into a buffer from a place on, which drops what is beyond its end; the next place counts those too
pub record Put (before : List ℕ) (at : ℕ) (bytes after : List ℕ) (next : ℕ) : Type 0 where
  pub stored : after ≡ sets before at bytes
  pub counted : next ≡ at + length bytes

-- the place after the bytes is a number of the machine
pub record Room (at : ℕ) (bytes : List ℕ) : Type 0 where
  pub fits : at + length bytes < 2 ^ 64

-- a natural number after a space
unfoldable pub natural : ℕ → List ℕ
natural x = text " " ++ decimal x

-- an integer after a space
unfoldable pub integer : ℤ → List ℕ
integer z = text " " ++ signed_decimal z
