-- Sheets at the edges of the tests, beside the samples, and the largest sheet.
use Rattle.std.specs.Prelude.{◌≡◌, refl, List, [], ◌∷◌, ◌++◌, map, ℕ, zero, suc, ◌-◌, ◌*◌, pos, negsuc, neg_ℤ, replicate}
use Prim.Native.String.{String}
use Rattle.numbers.specs.Fixed.{U}
use Rattle.calculus.specs.Key.{short_key}
use Rattle.calculus.specs.Refusal.{uncertified, done, stopped}
use Rattle.calculus.specs.Forms.{at_key, at_long_key, model, ends, mixed, gives}
use Rattle.format.specs.Bytes.{join}
use Rattle.format.specs.HeldBook.{HeldModel, HeldBook}
use Rattle.format.specs.Format.{trailer_length, longest, read, returned_book, opened, run_sheet, sheet_bytes}
use Rattle.format.specs.Format.{written}
use Rattle.format.specs.Lines.{text, printed}
use Rattle.format.specs.Samples.{hex, sheet_forms}
use Rattle.format.specs.Computing.{reads, writes, prints}

-- a row of the table: the number and the place that a read gives, 0 and 0 where it is accepted, and the sheet
pub record SheetEdge : Type 0 where
  pub number : ℕ
  pub place : ℕ
  pub bytes : List ℕ

-- a row of the table
unfoldable pub edge : (number place : ℕ) → List String → SheetEdge
edge i p l = record { number = i; place = p; bytes = hex l }

-- what the reads of the sheets of a table give
unfoldable pub reads_give : List SheetEdge → List (ℕ × ℕ)
reads_give = map (λ r. ((returned_book r.bytes).number, (returned_book r.bytes).place))

-- and what they must give
unfoldable pub must_give : List SheetEdge → List (ℕ × ℕ)
must_give = map (λ r. (r.number, r.place))

-- ---- marks and n
-- the table
unfoldable pub mark_edges : List SheetEdge
mark_edges =
    -- n of 1 to 4 with the one, n of 5 to 8 with the other
    edge 0 0 ("01 00 00 00 00 00 00 00" ∷ "01 02 00 01 00 00 4D 4B" ∷ [])
    ∷ edge 0 0 ("01 00 00 00 00 00 00 00" ∷ "04 02 00 01 00 00 4D 4B" ∷ [])
    ∷ edge 3 0 ("01 00 00 00 00 00 00 00" ∷ "05 02 00 01 00 00 4D 4B" ∷ [])
    ∷ edge 3 0 ("01 00 00 00 00 00 00 00" ∷ "08 02 00 01 00 00 4D 4B" ∷ [])
    ∷ edge 3 0 ("01 00 00 00 00 00 00 00" ∷ "01 02 00 01 00 00 4D 57" ∷ [])
    ∷ edge 3 0 ("01 00 00 00 00 00 00 00" ∷ "04 02 00 01 00 00 4D 57" ∷ [])
    ∷ edge 0 0 ("01 00 00 00 00 00 00 00" ∷ "05 02 00 01 00 00 4D 57" ∷ [])
    ∷ edge 0 0 ("01 00 00 00 00 00 00 00" ∷ "08 02 00 01 00 00 4D 57" ∷ [])
    -- an n that does not fit, together with a wrong offset: test 3 comes first
    ∷ edge 3 0 ("01 00 00 00 00 00 00 00" ∷ "05 02 00 01 01 00 4D 4B" ∷ [])
    ∷ edge 3 0 ("01 00 00 00 00 00 00 00" ∷ "04 02 00 01 01 00 4D 57" ∷ [])
    -- n just outside its limits
    ∷ edge 3 0 ("01 00 00 00 00 00 00 00" ∷ "00 02 00 01 00 00 4D 57" ∷ [])
    ∷ edge 3 0 ("01 00 00 00 00 00 00 00" ∷ "09 02 00 01 00 00 4D 57" ∷ [])
    ∷ edge 3 0 ("01 00 00 00 00 00 00 00" ∷ "09 02 00 01 00 00 4D 4B" ∷ [])
    -- a mark of neither
    ∷ edge 2 0 ("01 00 00 00 00 00 00 00" ∷ "05 02 00 01 00 00 4E 57" ∷ [])
    ∷ edge 2 0 ("01 00 00 00 00 00 00 00" ∷ "05 02 00 01 00 00 4D 58" ∷ [])
    ∷ []

pub marks_read : reads_give mark_edges ≡ must_give mark_edges
unfolding reads sheet_forms edge reads_give must_give mark_edges
marks_read = refl

-- ---- long keys, and the variables that have them
-- the table
unfoldable pub long_key_edges : List SheetEdge
long_key_edges =
    -- variable 8 alone, in eight variables and in seven
    edge 0 0 ("00 00 00 00 01 01 00 00 00 01 00 00 00" ∷ "01 00 00 00 00 00 00 00" ∷ "08 02 01 01 0D 00 4D 57" ∷ [])
    ∷ edge 5 0 ("00 00 00 00 01 01 00 00 00 01 00 00 00" ∷ "01 00 00 00 00 00 00 00" ∷ "07 02 01 01 0D 00 4D 57" ∷ [])
    -- the 15th powers of variables 1 and 8, and the latter in a book of order 14; all exponents 15
    ∷ edge 0 0 ("00 00 00 00 02 0F 00 00 00 01 00 00 00 00 00 00 F0 01 00 00 00" ∷ "01 00 00 00 00 00 00 00" ∷
    "08 0F 01 01 15 00 4D 57" ∷ [])
    ∷ edge 5 0 ("00 00 00 00 01 0F 00 00 00 01 00 00 00" ∷ "01 00 00 00 00 00 00 00" ∷ "08 0E 01 01 0D 00 4D 57" ∷ [])
    ∷ edge 5 0 ("00 00 00 00 01 FF FF FF FF 01 00 00 00" ∷ "01 00 00 00 00 00 00 00" ∷ "08 0F 01 01 0D 00 4D 57" ∷ [])
    -- keys that fall; a key of two bytes
    ∷ edge 5 0 ("00 00 00 00 02 00 00 00 F0 01 00 00 00 0F 00 00 00 01 00 00 00" ∷ "01 00 00 00 00 00 00 00" ∷
    "08 0F 01 01 15 00 4D 57" ∷ [])
    ∷ edge 5 0 ("00 00 00 00 01 00 10 01 00 00 00" ∷ "01 00 00 00 00 00 00 00" ∷ "05 02 01 01 0B 00 4D 57" ∷ [])
    -- variable 8 in a step, in eight variables and in seven; variable 9
    ∷ edge 0 0 ("02 00 00 08 00 00 00 00" ∷ "08 02 00 01 00 00 4D 57" ∷ [])
    ∷ edge 6 0 ("02 00 00 08 00 00 00 00" ∷ "07 02 00 01 00 00 4D 57" ∷ [])
    ∷ edge 6 0 ("02 00 00 09 00 00 00 00" ∷ "08 02 00 01 00 00 4D 57" ∷ [])
    ∷ []

pub long_keys_read : reads_give long_key_edges ≡ must_give long_key_edges
unfolding reads sheet_forms edge reads_give must_give long_key_edges
long_keys_read = refl

-- ---- lengths
-- so many bytes, all 0 but the trailer
unfoldable pub zeros_before : (trailer : String) (length : ℕ) → List ℕ
zeros_before trailer k = replicate (k - trailer_length) 0 ++ hex (trailer ∷ [])

-- the number that their read gives
unfoldable pub number_at : (trailer : String) (length : ℕ) → ℕ
number_at trailer k = (returned_book (zeros_before trailer k)).number

-- 8,793 bytes are too many with either mark; below, also above 6,744 with the mark of short keys, the offset is wrong
pub edge_lengths : (map (number_at "04 0F 00 01 00 00 4D 4B") (6744 ∷ 6745 ∷ 8792 ∷ 8793 ∷ []) ≡ 4 ∷ 4 ∷ 4 ∷ 1 ∷ [])
    × (map (number_at "08 0F 00 01 00 00 4D 57") (6744 ∷ 6745 ∷ 8792 ∷ 8793 ∷ []) ≡ 4 ∷ 4 ∷ 4 ∷ 1 ∷ [])
unfolding reads sheet_forms zeros_before number_at
edge_lengths = (refl, refl)

-- with the right offset as well no sheet of short keys has more than 6,744: bytes are left over before the first step
pub edge_left_over : number_at "04 0F 00 01 49 1A 4D 4B" 6745 ∷ number_at "04 0F 00 01 48 22 4D 4B" 8792 ∷ []
    ≡ 5 ∷ 5 ∷ []
unfolding reads sheet_forms zeros_before number_at
edge_left_over = refl

-- the program prints the one number of 8,792 bytes, and the other of 8,793 and more
pub edge_read_at_most : map (λ k. printed (zeros_before "08 0F 00 01 00 00 4D 57" k)) (8792 ∷ 8793 ∷ 8801 ∷ [])
    ≡ text "refused 4 0\n" ∷ text "refused 1 0\n" ∷ text "refused 1 0\n" ∷ []
unfolding prints sheet_forms zeros_before
edge_read_at_most = refl

-- ---- tests 1 to 6
-- the table
unfoldable pub edges : List SheetEdge
edges =
    -- no byte
    edge 1 0 []
    -- 15 bytes
    ∷ edge 1 0 ("00 00 00 00 00 00 00" ∷ "01 02 00 01 00 00 4D 4B" ∷ [])
    -- a wrong mark in either byte
    ∷ edge 2 0 ("01 00 00 00 00 00 00 00" ∷ "01 02 00 01 00 00 4E 4B" ∷ [])
    ∷ edge 2 0 ("01 00 00 00 00 00 00 00" ∷ "01 02 00 01 00 00 4D 4A" ∷ [])
    -- n, d and the counts just outside their limits; the wrong offset that comes with some of them is not yet seen
    ∷ edge 3 0 ("01 00 00 00 00 00 00 00" ∷ "00 02 00 01 00 00 4D 4B" ∷ [])
    ∷ edge 3 0 ("01 00 00 00 00 00 00 00" ∷ "01 00 00 01 00 00 4D 4B" ∷ [])
    ∷ edge 3 0 ("01 00 00 00 00 00 00 00" ∷ "01 10 00 01 00 00 4D 4B" ∷ [])
    ∷ edge 3 0 ("01 00 00 00 00 00 00 00" ∷ "01 02 11 01 00 00 4D 4B" ∷ [])
    ∷ edge 3 0 ("01 00 00 00 00 00 00 00" ∷ "01 02 00 00 00 00 4D 4B" ∷ [])
    ∷ edge 3 0 ("01 00 00 00 00 00 00 00" ∷ "01 02 00 41 00 00 4D 4B" ∷ [])
    -- another offset; one that would give the length if its sum wrapped at 16 bits
    ∷ edge 4 0 ("01 00 00 00 00 00 00 00" ∷ "01 02 00 01 01 00 4D 4B" ∷ [])
    ∷ edge 4 0 ("01 00 00 00 00 00 00 00" ∷ "01 02 00 02 F8 FF 4D 4B" ∷ [])
    -- an exponent above n, degree d + 1, a coefficient 0, keys that do not rise
    ∷ edge 5 0 ("00 00 00 00 01 01 10 01 00 00 00" ∷ "01 00 00 00 00 00 00 00" ∷ "01 02 01 01 0B 00 4D 4B" ∷ [])
    ∷ edge 5 0 ("00 00 00 00 01 00 30 01 00 00 00" ∷ "01 00 00 00 00 00 00 00" ∷ "01 02 01 01 0B 00 4D 4B" ∷ [])
    ∷ edge 5 0 ("00 00 00 00 01 00 10 00 00 00 00" ∷ "01 00 00 00 00 00 00 00" ∷ "01 02 01 01 0B 00 4D 4B" ∷ [])
    ∷ edge 5 0 ("00 00 00 00 02 00 10 01 00 00 00 00 10 01 00 00 00" ∷ "01 00 00 00 00 00 00 00" ∷
    "01 02 01 01 11 00 4D 4B" ∷ [])
    -- span 2^30 and one above, by the radius and by a coefficient; the least coefficient
    ∷ edge 0 0 ("00 00 00 40 00" ∷ "01 00 00 00 00 00 00 00" ∷ "01 02 01 01 05 00 4D 4B" ∷ [])
    ∷ edge 5 0 ("01 00 00 40 00" ∷ "01 00 00 00 00 00 00 00" ∷ "01 02 01 01 05 00 4D 4B" ∷ [])
    ∷ edge 5 0 ("01 00 00 00 01 00 00 00 00 00 40" ∷ "01 00 00 00 00 00 00 00" ∷ "01 02 01 01 0B 00 4D 4B" ∷ [])
    ∷ edge 5 0 ("00 00 00 00 01 00 00 00 00 00 80" ∷ "01 00 00 00 00 00 00 00" ∷ "01 02 01 01 0B 00 4D 4B" ∷ [])
    -- a record that does not fit before the first step, by its term and by its count
    ∷ edge 5 1 ("00 00 00 00 00" ∷ "00 00 00 00 01" ∷ "01 00 00 00 00 00 00 00" ∷ "01 02 02 01 0A 00 4D 4B" ∷ [])
    ∷ edge 5 1 ("00 00 00 00 00" ∷ "00 00 00 00" ∷ "01 00 00 00 00 00 00 00" ∷ "01 02 02 01 09 00 4D 4B" ∷ [])
    -- bytes left over: the place is the model count
    ∷ edge 5 1 ("00 00 00 00 00" ∷ "00" ∷ "01 00 00 00 00 00 00 00" ∷ "01 02 01 01 06 00 4D 4B" ∷ [])
    ∷ edge 5 0 ("00" ∷ "01 00 00 00 00 00 00 00" ∷ "01 02 00 01 01 00 4D 4B" ∷ [])
    -- a model's fault comes before a step's
    ∷ edge 5 0 ("01 00 00 40 00" ∷ "0B 00 00 00 00 00 00 00" ∷ "01 02 01 01 05 00 4D 4B" ∷ [])
    -- another code; for each code a field that it does not name
    ∷ edge 6 0 ("0B 00 00 00 00 00 00 00" ∷ "01 02 00 01 00 00 4D 4B" ∷ [])
    ∷ edge 6 0 ("00 00 00 00 00" ∷ "00 00 01 00 00 00 00 00" ∷ "01 02 01 01 05 00 4D 4B" ∷ [])
    ∷ edge 6 1 ("01 00 00 00 00 00 00 00" ∷ "01 01 00 00 00 00 00 00" ∷ "01 02 00 02 00 00 4D 4B" ∷ [])
    ∷ edge 6 1 ("01 00 00 00 00 00 00 00" ∷ "02 00 00 01 01 00 00 00" ∷ "01 02 00 02 00 00 4D 4B" ∷ [])
    ∷ edge 6 1 ("01 00 00 00 00 00 00 00" ∷ "03 00 00 01 00 00 00 00" ∷ "01 02 00 02 00 00 4D 4B" ∷ [])
    ∷ edge 6 1 ("01 00 00 00 00 00 00 00" ∷ "04 00 00 01 00 00 00 00" ∷ "01 02 00 02 00 00 4D 4B" ∷ [])
    ∷ edge 6 1 ("01 00 00 00 00 00 00 00" ∷ "05 00 00 00 01 00 00 00" ∷ "01 02 00 02 00 00 4D 4B" ∷ [])
    ∷ edge 6 1 ("01 00 00 00 00 00 00 00" ∷ "06 00 00 00 FF FF FF FF" ∷ "01 02 00 02 00 00 4D 4B" ∷ [])
    ∷ edge 6 1 ("01 00 00 00 00 00 00 00" ∷ "07 00 00 01 01 00 00 00" ∷ "01 02 00 02 00 00 4D 4B" ∷ [])
    ∷ edge 6 1 ("01 00 00 00 00 00 00 00" ∷ "08 00 01 00 00 00 00 00" ∷ "01 02 00 02 00 00 4D 4B" ∷ [])
    -- a model number, an operand, a variable and a threshold outside their limits
    ∷ edge 6 0 ("00 00 00 00 00 00 00 00" ∷ "01 02 00 01 00 00 4D 4B" ∷ [])
    ∷ edge 6 1 ("01 00 00 00 00 00 00 00" ∷ "03 01 00 00 00 00 00 00" ∷ "01 02 00 02 00 00 4D 4B" ∷ [])
    ∷ edge 6 1 ("01 00 00 00 00 00 00 00" ∷ "04 00 01 00 00 00 00 00" ∷ "01 02 00 02 00 00 4D 4B" ∷ [])
    ∷ edge 6 0 ("02 00 00 00 00 00 00 00" ∷ "01 02 00 01 00 00 4D 4B" ∷ [])
    ∷ edge 6 0 ("02 00 00 02 00 00 00 00" ∷ "01 02 00 01 00 00 4D 4B" ∷ [])
    ∷ edge 6 1 ("01 00 00 00 00 00 00 00" ∷ "08 00 00 00 FF FF FF FF" ∷ "01 02 00 02 00 00 4D 4B" ∷ [])
    ∷ edge 6 1 ("01 00 00 00 00 00 00 00" ∷ "08 00 00 00 01 00 00 40" ∷ "01 02 00 02 00 00 4D 4B" ∷ [])
    -- a quotient's a, b, v and value that are no earlier step: the first step, its own number four times, -1, 256
    ∷ edge 6 0 ("09 00 00 00 00 00 00 00" ∷ "01 02 00 01 00 00 4D 4B" ∷ [])
    ∷ edge 6 1 ("01 00 00 00 00 00 00 00" ∷ "09 01 00 00 00 00 00 00" ∷ "01 02 00 02 00 00 4D 4B" ∷ [])
    ∷ edge 6 1 ("01 00 00 00 00 00 00 00" ∷ "09 00 01 00 00 00 00 00" ∷ "01 02 00 02 00 00 4D 4B" ∷ [])
    ∷ edge 6 1 ("01 00 00 00 00 00 00 00" ∷ "09 00 00 01 00 00 00 00" ∷ "01 02 00 02 00 00 4D 4B" ∷ [])
    ∷ edge 6 1 ("01 00 00 00 00 00 00 00" ∷ "09 00 00 00 01 00 00 00" ∷ "01 02 00 02 00 00 4D 4B" ∷ [])
    ∷ edge 6 1 ("01 00 00 00 00 00 00 00" ∷ "09 00 00 00 FF FF FF FF" ∷ "01 02 00 02 00 00 4D 4B" ∷ [])
    ∷ edge 6 1 ("01 00 00 00 00 00 00 00" ∷ "09 00 00 00 00 01 00 00" ∷ "01 02 00 02 00 00 4D 4B" ∷ [])
    -- all of them earlier
    ∷ edge 0 0 ("01 00 00 00 00 00 00 00" ∷ "09 00 00 00 00 00 00 00" ∷ "01 02 00 02 00 00 4D 4B" ∷ [])
    -- an antiderivative's a, v, b and value: its own number, no variable, one above n, what it does not name not 0
    ∷ edge 6 1 ("01 00 00 00 00 00 00 00" ∷ "0A 01 00 01 00 00 00 00" ∷ "01 02 00 02 00 00 4D 4B" ∷ [])
    ∷ edge 6 1 ("01 00 00 00 00 00 00 00" ∷ "0A 00 00 00 00 00 00 00" ∷ "01 02 00 02 00 00 4D 4B" ∷ [])
    ∷ edge 6 1 ("01 00 00 00 00 00 00 00" ∷ "0A 00 00 02 00 00 00 00" ∷ "01 02 00 02 00 00 4D 4B" ∷ [])
    ∷ edge 6 2 ("01 00 00 00 00 00 00 00" ∷ "01 00 00 00 00 00 00 00" ∷ "0A 00 01 01 00 00 00 00" ∷
    "01 02 00 03 00 00 4D 4B" ∷ [])
    ∷ edge 6 1 ("01 00 00 00 00 00 00 00" ∷ "0A 00 00 01 01 00 00 00" ∷ "01 02 00 02 00 00 4D 4B" ∷ [])
    ∷ edge 6 1 ("01 00 00 00 00 00 00 00" ∷ "0A 00 00 01 FF FF FF FF" ∷ "01 02 00 02 00 00 4D 4B" ∷ [])
    -- an earlier step, and the last of four variables
    ∷ edge 0 0 ("01 00 00 00 00 00 00 00" ∷ "0A 00 00 01 00 00 00 00" ∷ "01 02 00 02 00 00 4D 4B" ∷ [])
    ∷ edge 0 0 ("01 00 00 00 00 00 00 00" ∷ "0A 00 00 04 00 00 00 00" ∷ "04 02 00 02 00 00 4D 4B" ∷ [])
    -- the largest threshold, the least constant
    ∷ edge 0 0 ("01 00 00 00 00 00 00 00" ∷ "08 00 00 00 00 00 00 40" ∷ "01 02 00 02 00 00 4D 4B" ∷ [])
    ∷ edge 0 0 ("01 00 00 00 00 00 00 C0" ∷ "01 02 00 01 00 00 4D 4B" ∷ [])
    ∷ []

-- the read of each sheet gives what its row says
pub edges_read : reads_give edges ≡ must_give edges
unfolding reads sheet_forms edge reads_give must_give edges
edges_read = refl

-- ---- quotients
-- inputs f = 3 with radius 1, g = 2, h = 1.5 + 2 / U and w = 0.75 with radii 5 and 7, then the step given
unfoldable pub quotient_sheet : (step : String) → List ℕ
quotient_sheet step = hex (
    "01 00 00 00 01 00 00 00 00 30 00" ∷ "00 00 00 00 01 00 00 00 00 20 00" ∷ "05 00 00 00 01 00 00 02 00 18 00" ∷
    "07 00 00 00 01 00 00 00 00 0C 00" ∷ "00 00 00 00 00 00 00 00" ∷ "00 01 00 00 00 00 00 00" ∷
    "00 02 00 00 00 00 00 00" ∷ "00 03 00 00 00 00 00 00" ∷ step ∷ "01 02 04 05 2C 00 4D 4B" ∷ [])

-- beta is 3, and 1 from the radius of f, mu is U / 2; h and w exchanged: mu is above U; g = 2 and w = 1: mu is U
pub edge_quotients : (run_sheet (quotient_sheet "09 00 01 02 03 00 00 00")
    ≡ gives (model 1 8 (at_key 1 0x0000 (pos 1572866) ∷ []))
    (ends (pos 1572858) (pos 1572874)) (ends (pos 3145716) (pos 3145748)) (mixed (pos 3145732) 0))
    × (run_sheet (quotient_sheet "09 00 01 03 02 00 00 00") ≡ stopped uncertified 4)
    × (run_sheet (hex ("01 00 00 00 00 00 20 00" ∷ "01 00 00 00 00 00 10 00" ∷ "09 00 00 00 01 00 00 00" ∷
    "01 02 00 03 00 00 4D 4B" ∷ [])) ≡ stopped uncertified 2)
unfolding reads sheet_forms quotient_sheet
edge_quotients = (refl, refl, refl)

-- ---- antiderivatives
-- of 5 + 3 x with radius 2: 3 / 2 goes to 2 and costs 1; and one that a quotient, 1 / 1, feeds: it runs all the same,
-- only the claim says nothing of it
pub edge_antiderivatives : (run_sheet (hex ("02 00 00 00 02 00 00 05 00 00 00 00 10 03 00 00 00" ∷
    "00 00 00 00 00 00 00 00" ∷ "0A 00 00 01 00 00 00 00" ∷ "01 02 01 02 11 00 4D 4B" ∷ []))
    ≡ gives (model 1 3 (at_key 1 0x1000 (pos 5) ∷ at_key 1 0x2000 (pos 2) ∷ []))
    (ends (negsuc 7) (pos 10)) (ends (negsuc 4) (pos 8)) (mixed (pos 1) 70945875))
    × (run_sheet (hex ("01 00 00 00 00 00 10 00" ∷ "09 00 00 00 00 00 00 00" ∷ "0A 01 00 01 00 00 00 00" ∷
    "01 02 00 03 00 00 4D 4B" ∷ []))
    ≡ gives (model 1 0 (at_key 1 0x1000 (pos U) ∷ [])) (ends (neg_ℤ (pos U)) (pos U)) (ends (pos 0) (pos 0))
    (mixed (pos 0) 0))
unfolding reads sheet_forms
edge_antiderivatives = (refl, refl)

-- ---- long keys
-- x1 + 3 x8^2 in eight variables, order 2: keys of four bytes, ends by the term-by-term rule, q and r 0
pub edge_eight : run_sheet (hex ("00 00 00 00 02 02 00 00 00 03 00 00 00 00 00 00 10 01 00 00 00" ∷
    "00 00 00 00 00 00 00 00" ∷ "08 02 01 01 15 00 4D 57" ∷ []))
    ≡ gives (model 8 0 (at_long_key 8 0x00000002 (pos 3) ∷ at_long_key 8 0x10000000 (pos 1) ∷ []))
    (ends (neg_ℤ (pos 1)) (pos 4)) (ends (pos 256) (pos 256)) (mixed (pos 0) 0)
unfolding reads sheet_forms
edge_eight = refl

-- its lines, and those of 2 x5 in five variables: no `exact`, which four variables have
pub edge_lines : (printed (hex ("00 00 00 00 02 02 00 00 00 03 00 00 00 00 00 00 10 01 00 00 00" ∷
    "00 00 00 00 00 00 00 00" ∷ "08 02 01 01 15 00 4D 57" ∷ []))
    ≡ text "radius 0\nterm 0 0 0 0 0 0 0 2 3\nterm 1 0 0 0 0 0 0 0 1\nrange -1 4\nintegral 256 256\n")
    × (printed (hex ("00 00 00 00 01 00 10 00 00 02 00 00 00" ∷ "00 00 00 00 00 00 00 00" ∷
    "05 02 01 01 0D 00 4D 57" ∷ [])) ≡ text "radius 0\nterm 0 0 0 0 1 2\nrange -2 2\nintegral 0 0\n")
    × (printed (hex ("00 00 00 00 01 01 00 02 00 00 00" ∷ "00 00 00 00 00 00 00 00" ∷ "04 02 01 01 0B 00 4D 4B" ∷ []))
    ≡ text "radius 0\nterm 0 0 0 1 2\nrange -2 2\nintegral 0 0\nexact 0 0\n")
unfolding prints sheet_forms
edge_lines = (refl, refl, refl)

-- ---- records
-- the records of a sheet whose run would be refused: two models and three steps, and no trailer
pub edge_records : opened (hex ("02 00 00 00 00" ∷ "00 00 00 40 00" ∷ "00 00 00 00 00 00 00 00" ∷
    "00 01 00 00 00 00 00 00" ∷ "04 00 01 00 00 00 00 00" ∷ "01 02 02 03 0A 00 4D 4B" ∷ []))
    ≡ done (map (λ r. hex (r ∷ [])) ("02 00 00 00 00" ∷ "00 00 00 40 00" ∷ "00 00 00 00 00 00 00 00" ∷
    "00 01 00 00 00 00 00 00" ∷ "04 00 01 00 00 00 00 00" ∷ []))
unfolding reads sheet_forms
edge_records = refl

-- two models with long keys, of two terms and of one
pub edge_long_records : opened (hex ("00 00 00 00 02 02 00 00 00 03 00 00 00 00 00 00 10 01 00 00 00" ∷
    "00 00 00 00 01 01 00 00 00 01 00 00 00" ∷ "00 00 00 00 00 00 00 00" ∷ "08 02 02 01 22 00 4D 57" ∷ []))
    ≡ done (map (λ r. hex (r ∷ [])) ("00 00 00 00 02 02 00 00 00 03 00 00 00 00 00 00 10 01 00 00 00" ∷
    "00 00 00 00 01 01 00 00 00 01 00 00 00" ∷ "00 00 00 00 00 00 00 00" ∷ []))
unfolding reads sheet_forms
edge_long_records = refl

-- ---- writing
-- one step without operands, in one variable; with code 1 it is the constant 0
unfoldable pub small_book : (d code : ℕ) → HeldBook
small_book d code = record {
  n = 1;
  d = d;
  models = [];
  steps = record { code = code; a = 0; b = 0; v = 0; value = pos 0 } ∷ [];
}

-- its sheet
unfoldable pub small_sheet : List ℕ
small_sheet = hex ("01 00 00 00 00 00 00 00" ∷ "01 02 00 01 00 00 4D 4B" ∷ [])

-- an input of n variables: the single term of a key, coefficient -1
unfoldable pub one_term_book : (n d key : ℕ) → HeldBook
one_term_book n d key = record {
  n = n;
  d = d;
  models = record { n = n; radius = 0; terms = record { key = key; coefficient = negsuc 0 } ∷ [] } ∷ [];
  steps = record { code = 0; a = 0; b = 0; v = 0; value = pos 0 } ∷ [];
}

-- the sheet of x1^2 in one variable, that of sample 12, with a short key
unfoldable pub short_sheet : List ℕ
short_sheet = hex ("00 00 00 00 01 00 20 FF FF FF FF" ∷ "00 00 00 00 00 00 00 00" ∷ "01 02 01 01 0B 00 4D 4B" ∷ [])

-- of x1 x4^2 in four
unfoldable pub short_sheet_of_four : List ℕ
short_sheet_of_four = hex ("00 00 00 00 01 02 10 FF FF FF FF" ∷ "00 00 00 00 00 00 00 00" ∷ "04 03 01 01 0B 00 4D 4B" ∷
    [])

-- of x1 x5^2 in five, with a long one
unfoldable pub long_sheet : List ℕ
long_sheet = hex ("00 00 00 00 01 00 20 00 10 FF FF FF FF" ∷ "00 00 00 00 00 00 00 00" ∷ "05 03 01 01 0D 00 4D 57" ∷ [])

-- a write: number, place, length and buffer
unfoldable pub all_written : HeldBook → List ℕ → ℕ × ℕ × ℕ × List ℕ
all_written h buffer = let w = written h buffer in (w.number, w.place, w.value.length, w.value.buffer)

-- bytes beyond the length stay; a buffer of the length is enough, and a shorter one stays
pub edge_written : (all_written (small_book 2 1) (replicate 18 0xFF) ≡ (0, 0, 16, small_sheet ++ (0xFF ∷ 0xFF ∷ [])))
    × (all_written (small_book 2 1) (replicate 16 0xFF) ≡ (0, 0, 16, small_sheet))
    × (all_written (small_book 2 1) (replicate 15 0xFF) ≡ (11, 0, 0, replicate 15 0xFF))
    × (all_written (small_book 2 11) [] ≡ (6, 0, 0, []))
    × (all_written (small_book 0 11) [] ≡ (3, 0, 0, []))
unfolding writes sheet_forms small_book small_sheet all_written
edge_written = (refl, refl, refl, refl, refl)

-- keys of two bytes up to four variables, of four bytes above; a key with an exponent above n, and n = 9
pub edge_keys_written : (all_written (one_term_book 1 2 0x20000000) (replicate 27 0) ≡ (0, 0, 27, short_sheet))
    × (all_written (one_term_book 4 3 0x10020000) (replicate 27 0) ≡ (0, 0, 27, short_sheet_of_four))
    × (all_written (one_term_book 5 3 0x10002000) (replicate 29 0) ≡ (0, 0, 29, long_sheet))
    × (all_written (one_term_book 5 3 0x10002000) (replicate 28 0) ≡ (11, 0, 0, replicate 28 0))
    × (all_written (one_term_book 4 3 0x10002000) [] ≡ (5, 0, 0, []))
    × (all_written (one_term_book 9 3 0x10002000) [] ≡ (3, 0, 0, []))
unfolding writes sheet_forms one_term_book short_sheet short_sheet_of_four long_sheet all_written
edge_keys_written = (refl, refl, refl, refl, refl, refl)

-- ---- the largest sheet
-- k numbers from a on
unfoldable pub numbers_from : (a k : ℕ) → List ℕ
numbers_from a zero = []
numbers_from a (suc k) = a ∷ numbers_from (suc a) k

-- 64 terms in the last two of n variables, the last of which has the key given
unfoldable pub largest_model : (n last : ℕ) → HeldModel
largest_model n last = record {
  n = n;
  radius = 0;
  terms = map (λ z. record { key = z * last; coefficient = pos 1 })
      (join (map (λ i. numbers_from (16 * i) 8) (numbers_from 0 8)));
}

-- 16 of them and 64 steps
unfoldable pub largest_book : (n last : ℕ) → HeldBook
largest_book n last = record {
  n = n;
  d = 15;
  models = replicate 16 (largest_model n last);
  steps = replicate 64 (record { code = 0; a = 0; b = 0; v = 0; value = pos 0 });
}

-- of eight variables its sheet is as long as test 1 allows; of four it has 6,744 bytes
pub largest_written : ((written (largest_book 8 1) (replicate longest 0)).value.length ≡ longest)
    × ((written (largest_book 4 short_key) (replicate longest 0)).value.length ≡ 6744)
unfolding writes largest_book largest_model numbers_from
largest_written = (refl, refl)

-- and both are read
pub largest_read : (read (sheet_bytes (largest_book 8 1)) ≡ done (largest_book 8 1))
    × (read (sheet_bytes (largest_book 4 short_key)) ≡ done (largest_book 4 short_key))
unfolding writes largest_book largest_model numbers_from
largest_read = (refl, refl)
