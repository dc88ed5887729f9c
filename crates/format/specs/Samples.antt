-- The proved samples of document 01 as one table of sheets in bytes with their answers, and the lines of the first.
use Rattle.std.specs.Prelude.{◌≡◌, refl, true, false, List, [], ◌∷◌, ◌++◌, map, ℕ, ◌+◌, ◌-◌, ◌*◌, eqb, ltb, pos}
use Prim.Native.String.{String}
use Rattle.calculus.specs.Refusal.{bad_mark, bad_step, over_span, leaves_box, Result, stopped}
use Rattle.calculus.specs.Book.{Summary}
use Rattle.calculus.specs.Forms.{at_key, model, ends, minus, mixed, gives, line, forms}
use Rattle.format.specs.Bytes.{join}
use Rattle.format.specs.Format.{run_sheet}
use Rattle.format.specs.Lines.{text, printed}
use Rattle.format.specs.Computing.{reads, prints}

-- ---- bytes in hex
-- a hex digit, 0 to 9 or A to F, by its ASCII code
unfoldable pub hex_digit : ℕ → ℕ
hex_digit c = elim (ltb c 65) [ true ↦ c - 48 | false ↦ c - 55 ]

-- two digits a byte, with spaces between
unfoldable pub hex_bytes : List ℕ → List ℕ
hex_bytes [] = []
hex_bytes (c ∷ []) = []
hex_bytes (c ∷ (d ∷ l)) = elim (eqb c 32) [
  | true ↦ hex_bytes (d ∷ l)
  | false ↦ (16 * hex_digit c + hex_digit d) ∷ hex_bytes l
]

-- a sheet: each model, each step, the trailer
unfoldable pub hex : List String → List ℕ
hex l = join (map (λ s. hex_bytes (text s)) l)

-- ---- the table
-- a row: the number of the sample, a sheet, and what its run must give
pub record Sample : Type 0 where
  pub number : ℕ
  pub bytes : List ℕ
  pub result : Result Summary

-- such a row
unfoldable pub sample : (number : ℕ) → List String → Result Summary → Sample
sample i l r = record { number = i; bytes = hex l; result = r }

-- the sheet that document 01 prints: (x + 0.5) squared, order 2
unfoldable pub worked : List String
worked = "02 00 00 01 00 00 00 00" ∷ "01 00 00 00 00 00 08 00" ∷ "04 00 01 00 00 00 00 00" ∷
    "06 02 02 00 00 00 00 00" ∷ "01 02 00 04 00 00 4D 4B" ∷ []

-- the samples 1 to 13 in order: what document 01 says of each, and the rest of its answer
unfoldable pub samples : List Sample
samples =
    -- the sheet above: range -786432 to 2359296, integral 1223338 to 1223339, exact 1223338 141891750
    sample 1 worked
    (gives
    (model 1 0 (at_key 1 0x0000 (pos 262144) ∷ at_key 1 0x1000 (pos 1048576) ∷ at_key 1 0x2000 (pos 1048576) ∷ []))
    (ends (minus 786432) (pos 2359296)) (ends (pos 1223338) (pos 1223339)) (mixed (pos 1223338) 141891750))
    -- the same with order 1: radius 1048576, integral -1572864 to 2621440
    ∷ sample 2 ("02 00 00 01 00 00 00 00" ∷ "01 00 00 00 00 00 08 00" ∷ "04 00 01 00 00 00 00 00" ∷
    "06 02 02 00 00 00 00 00" ∷ "01 01 00 04 00 00 4D 4B" ∷ [])
    (gives (model 1 1048576 (at_key 1 0x0000 (pos 262144) ∷ at_key 1 0x1000 (pos 1048576) ∷ []))
    (ends (minus 1835008) (pos 2359296)) (ends (minus 1572864) (pos 2621440)) (mixed (pos 524288) 0))
    -- constant 0: no terms, range 0 0, integral 0 0
    ∷ sample 3 ("01 00 00 00 00 00 00 00" ∷ "01 02 00 01 00 00 4D 4B" ∷ [])
    (gives (model 1 0 []) (ends (pos 0) (pos 0)) (ends (pos 0) (pos 0)) (mixed (pos 0) 0))
    -- constant 2^30 is accepted, 2^30 + 1 gets 6
    ∷ sample 4 ("01 00 00 00 00 00 00 40" ∷ "01 02 00 01 00 00 4D 4B" ∷ [])
    (gives (model 1 0 (at_key 1 0x0000 (pos 1073741824) ∷ []))
    (ends (pos 1073741824) (pos 1073741824)) (ends (pos 2147483648) (pos 2147483648)) (mixed (pos 2147483648) 0))
    ∷ sample 4 ("01 00 00 00 01 00 00 40" ∷ "01 02 00 01 00 00 4D 4B" ∷ [])
    (stopped bad_step 0)
    -- 2^30 plus 1, as constants, gets 7
    ∷ sample 5 ("01 00 00 00 00 00 00 40" ∷ "01 00 00 00 01 00 00 00" ∷ "04 00 01 00 00 00 00 00" ∷
    "01 02 00 03 00 00 4D 4B" ∷ [])
    (stopped over_span 2)
    -- constants 1 times 524288: no terms, radius 1
    ∷ sample 6 ("01 00 00 00 01 00 00 00" ∷ "01 00 00 00 00 00 08 00" ∷ "06 00 01 00 00 00 00 00" ∷
    "01 02 00 03 00 00 4D 4B" ∷ [])
    (gives (model 1 1 []) (ends (minus 1) (pos 1)) (ends (minus 2) (pos 2)) (mixed (pos 0) 0))
    -- constants -1 times 524288: no terms, radius 1
    ∷ sample 7 ("01 00 00 00 FF FF FF FF" ∷ "01 00 00 00 00 00 08 00" ∷ "06 00 01 00 00 00 00 00" ∷
    "01 02 00 03 00 00 4D 4B" ∷ [])
    (gives (model 1 1 []) (ends (minus 1) (pos 1)) (ends (minus 2) (pos 2)) (mixed (pos 0) 0))
    -- radii 2 and 3 without terms, multiplied: radius 1
    ∷ sample 8 ("02 00 00 00 00" ∷ "03 00 00 00 00" ∷ "00 00 00 00 00 00 00 00" ∷ "00 01 00 00 00 00 00 00" ∷
    "06 00 01 00 00 00 00 00" ∷ "01 02 02 03 0A 00 4D 4B" ∷ [])
    (gives (model 1 1 []) (ends (minus 1) (pos 1)) (ends (minus 2) (pos 2)) (mixed (pos 0) 0))
    -- x squared, order 2, with the constant 524288 put in: 262144, radius 0
    ∷ sample 9 ("02 00 00 01 00 00 00 00" ∷ "06 00 00 00 00 00 00 00" ∷ "01 00 00 00 00 00 08 00" ∷
    "07 01 02 01 00 00 00 00" ∷ "01 02 00 04 00 00 4D 4B" ∷ [])
    (gives (model 1 0 (at_key 1 0x0000 (pos 262144) ∷ []))
    (ends (pos 262144) (pos 262144)) (ends (pos 524288) (pos 524288)) (mixed (pos 524288) 0))
    -- putting in 1048576 is accepted, 1048577 gets 9
    ∷ sample 10 ("02 00 00 01 00 00 00 00" ∷ "06 00 00 00 00 00 00 00" ∷ "01 00 00 00 00 00 10 00" ∷
    "07 01 02 01 00 00 00 00" ∷ "01 02 00 04 00 00 4D 4B" ∷ [])
    (gives (model 1 0 (at_key 1 0x0000 (pos 1048576) ∷ []))
    (ends (pos 1048576) (pos 1048576)) (ends (pos 2097152) (pos 2097152)) (mixed (pos 2097152) 0))
    ∷ sample 10 ("02 00 00 01 00 00 00 00" ∷ "06 00 00 00 00 00 00 00" ∷ "01 00 00 00 01 00 10 00" ∷
    "07 01 02 01 00 00 00 00" ∷ "01 02 00 04 00 00 4D 4B" ∷ [])
    (stopped leaves_box 3)
    -- 5 + 3x swept at 3: term 5, radius 3; at 2: unchanged
    ∷ sample 11 ("00 00 00 00 02 00 00 05 00 00 00 00 10 03 00 00 00" ∷ "00 00 00 00 00 00 00 00" ∷
    "08 00 00 00 03 00 00 00" ∷ "01 02 01 02 11 00 4D 4B" ∷ [])
    (gives (model 1 3 (at_key 1 0x0000 (pos 5) ∷ [])) (ends (pos 2) (pos 8)) (ends (pos 4) (pos 16))
    (mixed (pos 10) 0))
    ∷ sample 11 ("00 00 00 00 02 00 00 05 00 00 00 00 10 03 00 00 00" ∷ "00 00 00 00 00 00 00 00" ∷
    "08 00 00 00 02 00 00 00" ∷ "01 02 01 02 11 00 4D 4B" ∷ [])
    (gives line (ends (pos 2) (pos 8)) (ends (pos 10) (pos 10)) (mixed (pos 10) 0))
    -- the single term of key hex 2000, coefficient -1: integral -1 to 0
    ∷ sample 12 ("00 00 00 00 01 00 20 FF FF FF FF" ∷ "00 00 00 00 00 00 00 00" ∷ "01 02 01 01 0B 00 4D 4B" ∷ [])
    (gives (model 1 0 (at_key 1 0x2000 (minus 1) ∷ [])) (ends (minus 1) (pos 0)) (ends (minus 1) (pos 0))
    (mixed (minus 1) 70945875))
    -- a wrong mark together with n = 0 gets 2
    ∷ sample 13 ("02 00 00 01 00 00 00 00" ∷ "01 00 00 00 00 00 08 00" ∷ "04 00 01 00 00 00 00 00" ∷
    "06 02 02 00 00 00 00 00" ∷ "00 02 00 04 00 00 4D 4C" ∷ [])
    (stopped bad_mark 0)
    ∷ []

-- the short forms, for facts that compute
unfoldable pub sheet_forms : Unit {0}
unfolding hex_digit hex_bytes hex sample worked samples text forms
sheet_forms = tt

-- the run of each sheet gives what its row says
pub sheets_run : map (λ r. run_sheet r.bytes) samples ≡ map (λ r. r.result) samples
unfolding reads sheet_forms
sheets_run = refl

-- the lines of the sheet that document 01 prints
pub worked_lines : printed (hex worked)
    ≡ text "radius 0\nterm 0 262144\nterm 1 1048576\nterm 2 1048576\nrange -786432 2359296\n"
    ++ text "integral 1223338 1223339\nexact 1223338 141891750\n"
unfolding prints sheet_forms
worked_lines = refl

-- the lines of the constant 0, with both numbers of `exact`, and of a refusal, which is the only line
pub other_lines : (printed (hex ("01 00 00 00 00 00 00 00" ∷ "01 02 00 01 00 00 4D 4B" ∷ []))
    ≡ text "radius 0\nrange 0 0\nintegral 0 0\nexact 0 0\n")
    × (printed (hex ("01 00 00 00 01 00 00 40" ∷ "01 02 00 01 00 00 4D 4B" ∷ [])) ≡ text "refused 6 0\n")
unfolding prints sheet_forms
other_lines = (refl, refl)

-- the lines of sample 12: q is below 0, and r is not
pub negative_lines : printed (hex ("00 00 00 00 01 00 20 FF FF FF FF" ∷ "00 00 00 00 00 00 00 00" ∷
    "01 02 01 01 0B 00 4D 4B" ∷ [])) ≡ text "radius 0\nterm 2 -1\nrange -1 0\nintegral -1 0\nexact -1 70945875\n"
unfolding prints sheet_forms
negative_lines = refl
