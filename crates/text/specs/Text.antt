-- Text in a borrowed buffer: what the buffer holds when text is laid over it, and how long a text can be.
use Rattle.std.specs.Prelude.{List, ◌++◌, ℕ, length, take, drop}

-- a text laid over a buffer: as much of it as the buffer has room for; what lies after it stays
unfoldable pub laid : (text buffer : List ℕ) → List ℕ
laid text buffer = take (length buffer) text ++ drop (length text) buffer

-- no text is longer than this (LengthLaws, `text_length`)
unfoldable pub most_text : ℕ
most_text = 4096
