-- The lines that the program prints, as bytes.
use Rattle.std.specs.Prelude.{true, false, List, [], ◌∷◌, ◌++◌, map, ℕ, zero, suc, ◌+◌, ◌/◌, ◌%◌, ltb, ℤ, pos, negsuc, take}
use Prim.Native.Char.{code}
use Prim.Native.String.{String, [] as no_text, ◌∷◌ as ◌then◌}
use Rattle.polynomial.specs.Polynomial.{Term}
use Rattle.calculus.specs.Refusal.{number, Result, done, stopped}
use Rattle.calculus.specs.Operations.{Ends, has_exact, Mixed}
use Rattle.calculus.specs.Book.{Summary}
use Rattle.format.specs.Bytes.{join}
use Rattle.format.specs.Format.{longest, run_sheet}

-- a text in ASCII
unfoldable pub text : String → List ℕ
text no_text = []
text (c then s) = code c ∷ text s

-- the decimal digits of x, of which there are at most k, without leading zeros
unfoldable pub digits : (k : ℕ) → ℕ → List ℕ
digits zero x = []
digits (suc k) x = elim (ltb x 10) [ true ↦ (48 + x) ∷ [] | false ↦ digits k (x / 10) ++ ((48 + x % 10) ∷ []) ]

-- a natural number, which never has more digits than one above itself
unfoldable pub decimal : ℕ → List ℕ
decimal x = digits (suc x) x

-- an integer
unfoldable pub signed_decimal : ℤ → List ℕ
signed_decimal (pos n) = decimal n
signed_decimal (negsuc n) = text "-" ++ decimal (suc n)

-- words with one space between them, then a line feed
unfoldable pub line : List (List ℕ) → List ℕ
line [] = text "\n"
line (w ∷ []) = w ++ text "\n"
line (w ∷ (x ∷ l)) = w ++ (text " " ++ line (x ∷ l))

-- `term`, n exponents, coefficient
unfoldable pub term_line : Term ℤ → List ℕ
term_line t = line (text "term" ∷ (map decimal t.exponents ++ (signed_decimal t.coefficient ∷ [])))

-- a word, low and high
unfoldable pub ends_line : List ℕ → Ends → List ℕ
ends_line word e = line (word ∷ signed_decimal e.low ∷ signed_decimal e.high ∷ [])

-- `exact`, q and r
unfoldable pub exact_line : Mixed → List ℕ
exact_line x = line (text "exact" ∷ signed_decimal x.quotient ∷ decimal x.remainder ∷ [])

-- above four variables there is none
unfoldable pub exact_lines : (n : ℕ) → Mixed → List ℕ
exact_lines n x = elim (has_exact n) [ true ↦ exact_line x | false ↦ [] ]

-- `radius` and the radius
unfoldable pub radius_line : ℕ → List ℕ
radius_line e = line (text "radius" ∷ decimal e ∷ [])

-- `refused`, number and place
unfoldable pub refusal_line : (number place : ℕ) → List ℕ
refusal_line number place = line (text "refused" ∷ decimal number ∷ decimal place ∷ [])

-- the lines of a run
unfoldable pub lines : Result Summary → List ℕ
lines (done s) =
    radius_line s.model.radius
    ++ (join (map term_line s.model.terms)
    ++ (ends_line (text "range") s.range
    ++ (ends_line (text "integral") s.integral ++ exact_lines s.model.vars s.exact)))
lines (stopped r i) = refusal_line (number r) i

-- what the program prints: of its input it reads at most one byte more than the largest sheet has
unfoldable pub printed : (input : List ℕ) → List ℕ
printed input = lines (run_sheet (take (suc longest) input))
