-- Sheets with their variables put around in a circle, and their answers: a reordering that is not its own inverse,
-- terms that change places, and refusals that stay. What each row becomes is written out here: nothing of it is
-- computed by the definitions that it shows.
use Rattle.std.specs.Prelude.{◌≡◌, refl, List, [], ◌∷◌, map, ℕ, zero, suc, ◌+◌, ◌*◌, ◌/◌, ◌%◌, ◌<◌, ℤ, pos, get_or}
use Rattle.std.proofs.Common.{arith, lit<}
use Rattle.algebra.proofs.Rational.{ℚ}
use Rattle.calculus.specs.Key.{short_key}
use Rattle.calculus.specs.Refusal.{over_span, too_many_terms, leaves_box, uncertified, Result, stopped}
use Rattle.calculus.specs.Book.{input, variable, multiply, substitute, quotient, antiderivative, Summary}
use Rattle.calculus.specs.Terms.{Terms}
use Rattle.calculus.specs.Shares.{Shares, all_rows}
use Rattle.calculus.specs.Forms.{at_key, at_long_key, model, ends, minus, mixed, gives}
use Rattle.calculus.specs.ShareEdges.{shares, share_forms}
use Rattle.calculus.specs.Computing.{reports}
use Rattle.format.specs.HeldBook.{HeldTerm, HeldModel, HeldStep, HeldBook, view_book}
use Rattle.format.specs.Format.{sheet_bytes, run_sheet, sheet_rows}
use Rattle.format.specs.Computing.{writes}
use Rattle.renaming.specs.Reordering.{Reordering, inverse, rename, rename_point, rename_variable, rename_book}
use Rattle.renaming.specs.Reordering.{rename_result, rename_field, rename_held}
use Rattle.renaming.specs.Computing.{renames}

-- ---- variable 1 becomes 2, 2 becomes 3, 3 becomes 1
-- where each goes, counted from 0
unfoldable pub onward : ℕ → ℕ
onward i = get_or (1 ∷ 2 ∷ 0 ∷ []) i 0

-- and which comes to each place
unfoldable pub backward : ℕ → ℕ
backward i = get_or (2 ∷ 0 ∷ 1 ∷ []) i 0

-- a fact of 0, 1 and 2
pub of_three : (P : ℕ → Type 0) → P 0 → P 1 → P 2 → (i : ℕ) → i < 3 → P i
of_three P a b c zero h = a
of_three P a b c (suc zero) h = b
of_three P a b c (suc (suc zero)) h = c
of_three P a b c (suc (suc (suc i))) h = absurd (omega arith)

-- the circle
unfoldable pub circle : Reordering 3
unfolding onward backward
circle = record {
  to = onward;
  from = backward;
  to_inside = of_three (λ i. onward i < 3) (lit< tt) (lit< tt) (lit< tt);
  from_inside = of_three (λ i. backward i < 3) (lit< tt) (lit< tt) (lit< tt);
  from_to = of_three (λ i. backward (onward i) ≡ i) refl refl refl;
  to_from = of_three (λ i. onward (backward i) ≡ i) refl refl refl;
}

-- ---- short forms
-- a term with a short key
unfoldable pub at : (key : ℕ) → ℤ → HeldTerm
at k c = record { key = k * short_key; coefficient = c }

-- a model of three variables
unfoldable pub held : (radius : ℕ) → List HeldTerm → HeldModel
held e p = record { n = 3; radius = e; terms = p }

-- a step
unfoldable pub step : (code a b v : ℕ) → ℤ → HeldStep
step c a b v value = record { code = c; a = a; b = b; v = v; value = value }

-- a book of three variables
unfoldable pub three : (d : ℕ) → List HeldModel → List HeldStep → HeldBook
three d ms l = record { n = 3; d = d; models = ms; steps = l }

-- a row of the table: a book, what it must become, what the runs of both must give, and the shares that both report
-- before those of zeros
pub record RenamingEdge : Type 0 where
  pub before : HeldBook
  pub after : HeldBook
  pub answer : Result Summary
  pub renamed : Result Summary
  pub rows : List Shares

-- such a row
unfoldable pub row : (before after : HeldBook) (answer renamed : Result Summary) → List Shares → RenamingEdge
row b c r s l = record { before = b; after = c; answer = r; renamed = s; rows = l }

-- both refused, with one number at one step
unfoldable pub refused_row : (before after : HeldBook) → Result Summary → List Shares → RenamingEdge
refused_row b c r l = row b c r r l

-- ---- accepted: a quotient, a substitution and an antiderivative
-- f, h, g and w are inputs; step 4 is f / g by h, which is step 1; f times variable v is put in for variable i, and
-- what is left is integrated in variable j
unfoldable pub milking : (f h g w : List HeldTerm) (v i j : ℕ) → HeldBook
milking f h g w v i j = three 4 (held 3 f ∷ held 5 h ∷ held 1 g ∷ held 2 w ∷ [])
    (step 0 0 0 0 (pos 0) ∷ step 0 1 0 0 (pos 0) ∷ step 0 2 0 0 (pos 0) ∷ step 0 3 0 0 (pos 0)
    ∷ step 9 0 2 1 (pos 3)
    ∷ step 2 0 0 v (pos 0)
    ∷ step 6 5 0 0 (pos 0)
    ∷ step 7 4 6 i (pos 0)
    ∷ step 10 7 0 j (pos 0) ∷ [])

-- f has z, y²z and x; g is 1 + x/8; y f is put in for x, and the litres run along z
unfoldable pub milking_before : HeldBook
milking_before = milking
    (at 0x0010 (pos 65537) ∷ at 0x0210 (pos 262144) ∷ at 0x1000 (pos 131072) ∷ [])
    (at 0x0010 (pos 65537) ∷ at 0x0210 (pos 262144) ∷ at 0x1000 (pos 131072) ∷ at 0x1010 (minus 8192)
    ∷ at 0x1210 (minus 32768) ∷ at 0x2000 (minus 16384) ∷ [])
    (at 0x0000 (pos 1048576) ∷ at 0x1000 (pos 131072) ∷ [])
    (at 0x0000 (pos 1048576) ∷ at 0x1000 (minus 131072) ∷ [])
    2 1 3

-- f has x, z²x and y; g is 1 + y/8; z f is put in for y, and the litres run along x
unfoldable pub milking_after : HeldBook
milking_after = milking
    (at 0x0100 (pos 131072) ∷ at 0x1000 (pos 65537) ∷ at 0x1020 (pos 262144) ∷ [])
    (at 0x0100 (pos 131072) ∷ at 0x0200 (minus 16384) ∷ at 0x1000 (pos 65537) ∷ at 0x1020 (pos 262144)
    ∷ at 0x1100 (minus 8192) ∷ at 0x1120 (minus 32768) ∷ [])
    (at 0x0000 (pos 1048576) ∷ at 0x0100 (pos 131072) ∷ [])
    (at 0x0000 (pos 1048576) ∷ at 0x0100 (minus 131072) ∷ [])
    3 2 1

-- the terms of the answer, with its radius, its range, its integral, q and r
unfoldable pub litres : Terms → Result Summary
litres p = gives (model 3 43936 p) (ends (minus 65099) (pos 228939)) (ends (minus 147599) (pos 555378))
    (mixed (pos 203889) 165540375)

-- ---- refused
-- a model is integrated in variable v, and then the double of the model passes the span: 7 at step 2
unfoldable pub doubled : List HeldTerm → (v : ℕ) → HeldBook
doubled p v = three 4 (held 9 p ∷ []) (step 0 0 0 0 (pos 0) ∷ step 10 0 0 v (pos 0) ∷ step 4 0 0 0 (pos 0) ∷ [])

-- the powers 0 to 7 of the variable that has this key
unfoldable pub powers : (key : ℕ) → List HeldTerm
powers k = map (λ i. at (k * i) (pos 1048576)) (0 ∷ 1 ∷ 2 ∷ 3 ∷ 4 ∷ 5 ∷ 6 ∷ 7 ∷ [])

-- nine terms times eight, no two products alike: 8 at step 2
unfoldable pub crowded : (p q : List HeldTerm) → HeldBook
crowded p q = three 15 (held 0 p ∷ held 0 q ∷ [])
    (step 0 0 0 0 (pos 0) ∷ step 0 1 0 0 (pos 0) ∷ step 6 0 1 0 (pos 0) ∷ [])

-- twice a variable put in for another: 9 at step 3
unfoldable pub leaving : List HeldTerm → (v i : ℕ) → HeldBook
leaving p v i = three 3 (held 9 p ∷ [])
    (step 0 0 0 0 (pos 0) ∷ step 2 0 0 v (pos 0) ∷ step 4 1 1 0 (pos 0) ∷ step 7 0 2 i (pos 0) ∷ [])

-- the three variables, and the second by the first from a proposal that certifies nothing: 12 at step 3
unfoldable pub uncertain : (u v w : ℕ) → HeldBook
uncertain u v w = three 2 []
    (step 2 0 0 u (pos 0) ∷ step 2 0 0 v (pos 0) ∷ step 2 0 0 w (pos 0) ∷ step 9 1 0 2 (pos 0) ∷ [])

-- ---- the table
unfoldable pub renaming_edges : List RenamingEdge
renaming_edges =
    row milking_before milking_after
    (litres (at_key 3 0x0020 (pos 32768) ∷ at_key 3 0x0120 (pos 4096) ∷ at_key 3 0x0130 (minus 171)
    ∷ at_key 3 0x0220 (pos 131072) ∷ at_key 3 0x1110 (pos 16384) ∷ at_key 3 0x1120 (minus 512) ∷ []))
    (litres (at_key 3 0x1110 (pos 16384) ∷ at_key 3 0x2000 (pos 32768) ∷ at_key 3 0x2010 (pos 4096)
    ∷ at_key 3 0x2020 (pos 131072) ∷ at_key 3 0x2110 (minus 512) ∷ at_key 3 0x3010 (minus 171) ∷ []))
    (shares 3145728 0 0 0 ∷ shares 5242880 0 0 0 ∷ shares 1048576 0 0 0 ∷ shares 2097152 0 0 0
    ∷ shares 8596226048 0 0 0
    ∷ shares 0 0 0 0
    ∷ shares 3145728 0 0 0
    ∷ shares 8597222404 142336 19864260608 921596
    ∷ shares 28462546944 2097152 17605591040 0 ∷ [])
    ∷ refused_row
    (doubled (at 0x0120 (pos 536870912) ∷ at 0x3000 (pos 268435456) ∷ []) 1)
    (doubled (at 0x0300 (pos 268435456) ∷ at 0x2010 (pos 536870912) ∷ []) 2)
    (stopped over_span 2)
    (shares 9437184 0 0 0 ∷ shares 9437184 0 0 0 ∷ [])
    ∷ refused_row
    (crowded (at 0x0000 (pos 1048576) ∷ at 0x0010 (pos 1048576) ∷ at 0x0020 (pos 1048576) ∷ at 0x0030 (pos 1048576)
    ∷ at 0x0040 (pos 1048576) ∷ at 0x1000 (pos 524288) ∷ at 0x2000 (pos 524288) ∷ at 0x3000 (pos 524288)
    ∷ at 0x4000 (pos 524288) ∷ []) (powers 0x0100))
    (crowded (at 0x0000 (pos 1048576) ∷ at 0x0100 (pos 524288) ∷ at 0x0200 (pos 524288) ∷ at 0x0300 (pos 524288)
    ∷ at 0x0400 (pos 524288) ∷ at 0x1000 (pos 1048576) ∷ at 0x2000 (pos 1048576) ∷ at 0x3000 (pos 1048576)
    ∷ at 0x4000 (pos 1048576) ∷ []) (powers 0x0010))
    (stopped too_many_terms 2)
    (shares 0 0 0 0 ∷ shares 0 0 0 0 ∷ [])
    ∷ refused_row
    (leaving (at 0x0120 (pos 5) ∷ at 0x3000 (pos 7) ∷ []) 2 1)
    (leaving (at 0x0300 (pos 7) ∷ at 0x2010 (pos 5) ∷ []) 3 2)
    (stopped leaves_box 3)
    (shares 9437184 0 0 0 ∷ shares 0 0 0 0 ∷ shares 0 0 0 0 ∷ [])
    ∷ refused_row (uncertain 1 2 3) (uncertain 2 3 1)
    (stopped uncertified 3)
    (shares 0 0 0 0 ∷ shares 0 0 0 0 ∷ shares 0 0 0 0 ∷ []) ∷ []

-- the short forms, for facts that compute
unfoldable pub renaming_forms : Unit {0}
unfolding
    share_forms onward backward circle at held step three row refused_row milking milking_before milking_after litres
    doubled powers crowded leaving uncertain renaming_edges
renaming_forms = tt

-- ---- what goes where
-- a monomial, a point and the numbers of the variables: the first goes to the second place, the last to the first
pub places_become : (i j k : ℕ) (x y z : ℚ)
    → (rename circle (i ∷ j ∷ k ∷ []) ≡ k ∷ i ∷ j ∷ [])
    × (rename_point circle (x ∷ y ∷ z ∷ []) ≡ z ∷ x ∷ y ∷ [])
    × (map (rename_variable circle) (1 ∷ 2 ∷ 3 ∷ []) ≡ 2 ∷ 3 ∷ 1 ∷ [])
unfolding renames renaming_forms rename_point
places_become i j k x y z = (refl, refl, refl)

-- the field v of each code from 0 to 10: three of them name a variable
pub codes_become : map (λ code. rename_field circle code 1) (0 ∷ 1 ∷ 2 ∷ 3 ∷ 4 ∷ 5 ∷ 6 ∷ 7 ∷ 8 ∷ 9 ∷ 10 ∷ [])
    ≡ 1 ∷ 1 ∷ 2 ∷ 1 ∷ 1 ∷ 1 ∷ 1 ∷ 2 ∷ 1 ∷ 1 ∷ 2 ∷ []
unfolding renames renaming_forms
codes_become = refl

-- ---- the first row in small
-- the fields v: those of a variable, a substitution and an antiderivative are renamed, and that of a quotient stays
pub fields_become : map (λ s. s.v) (rename_held circle milking_before).steps
    ≡ 0 ∷ 0 ∷ 0 ∷ 0 ∷ 1 ∷ 3 ∷ 0 ∷ 2 ∷ 1 ∷ []
unfolding renames renaming_forms
fields_become = refl

-- the keys of each model, which rise again
pub keys_become : map (λ m. map (λ t. t.key / short_key) m.terms) (rename_held circle milking_before).models
    ≡ (0x0100 ∷ 0x1000 ∷ 0x1020 ∷ []) ∷ (0x0100 ∷ 0x0200 ∷ 0x1000 ∷ 0x1020 ∷ 0x1100 ∷ 0x1120 ∷ [])
    ∷ (0x0000 ∷ 0x0100 ∷ []) ∷ (0x0000 ∷ 0x0100 ∷ []) ∷ []
unfolding renames renaming_forms
keys_become = refl

-- the steps of the book that it stands for
pub steps_become : (rename_book circle (view_book milking_before)).steps
    ≡ input 0 ∷ input 1 ∷ input 2 ∷ input 3 ∷ quotient 0 2 1 3 ∷ variable 3 ∷ multiply 5 0 ∷ substitute 4 6 2
    ∷ antiderivative 7 1 ∷ []
unfolding renames renaming_forms
steps_become = refl

-- ---- the whole table
-- each book becomes what stands beside it,
pub become : map (λ e. rename_held circle e.before) renaming_edges ≡ map (λ e. e.after) renaming_edges
unfolding renames renaming_forms
become = refl

-- and by the inverse what it was
pub come_back : map (λ e. rename_held (inverse circle) e.after) renaming_edges ≡ map (λ e. e.before) renaming_edges
unfolding renames renaming_forms
come_back = refl

-- so do the books that they stand for
pub books_become : map (λ e. rename_book circle (view_book e.before)) renaming_edges
    ≡ map (λ e. view_book e.after) renaming_edges
unfolding renames renaming_forms
books_become = refl

-- the runs of the sheets
pub answers_stand : map (λ e. run_sheet (sheet_bytes e.before)) renaming_edges ≡ map (λ e. e.answer) renaming_edges
unfolding writes renaming_forms
answers_stand = refl

pub renamed_answers_stand : map (λ e. run_sheet (sheet_bytes e.after)) renaming_edges
    ≡ map (λ e. e.renamed) renaming_edges
unfolding writes renaming_forms
renamed_answers_stand = refl

-- both report the same rows
pub rows_stand : map (λ e. sheet_rows (sheet_bytes e.before)) renaming_edges
    ≡ map (λ e. all_rows e.rows) renaming_edges
unfolding writes reports sheet_rows renaming_forms
rows_stand = refl

pub renamed_rows_stand : map (λ e. sheet_rows (sheet_bytes e.after)) renaming_edges
    ≡ map (λ e. all_rows e.rows) renaming_edges
unfolding writes reports sheet_rows renaming_forms
renamed_rows_stand = refl

-- and the one answer is the other renamed
pub answers_become : map (λ e. rename_result circle e.answer) renaming_edges ≡ map (λ e. e.renamed) renaming_edges
unfolding renames renaming_forms
answers_become = refl

-- ---- eight variables in a circle
-- variable 1 becomes 2, .., 7 becomes 8, and 8 becomes 1
unfoldable pub great_circle : Reordering 8
great_circle = record {
  to = λ i. suc i % 8;
  from = λ i. (i + 7) % 8;
  to_inside = λ i h. omega arith;
  from_inside = λ i h. omega arith;
  from_to = λ i h. omega arith;
  to_from = λ i h. omega arith;
}

-- a term with a long key
unfoldable pub at_long : (key : ℕ) → ℤ → HeldTerm
at_long k c = record { key = k; coefficient = c }

-- f is an input; f times variable v is put in for variable i of f, and what is left is integrated in variable j
unfoldable pub long_milking : (f : List HeldTerm) (v i j : ℕ) → HeldBook
long_milking f v i j = record {
  n = 8;
  d = 4;
  models = record { n = 8; radius = 3; terms = f } ∷ [];
  steps = step 0 0 0 0 (pos 0) ∷ step 2 0 0 v (pos 0) ∷ step 6 1 0 0 (pos 0) ∷ step 7 0 2 i (pos 0)
      ∷ step 10 3 0 j (pos 0) ∷ [];
}

-- f has x8, x7^2 x8 and x1; x7 f is put in for x1, and the litres run along x8
unfoldable pub long_before : HeldBook
long_before = long_milking
    (at_long 0x00000001 (pos 65537) ∷ at_long 0x00000021 (pos 262144) ∷ at_long 0x10000000 (pos 131072) ∷ []) 7 1 8

-- f has x1, x8^2 x1 and x2; x8 f is put in for x2, and the litres run along x1
unfoldable pub long_after : HeldBook
long_after = long_milking
    (at_long 0x01000000 (pos 131072) ∷ at_long 0x10000000 (pos 65537) ∷ at_long 0x10000002 (pos 262144) ∷ []) 8 2 1

-- the terms of the answer, with its radius, its range and its integral; q and r are 0
unfoldable pub long_litres : Terms → Result Summary
long_litres p = gives (model 8 16389 p) (ends (minus 36869) (pos 200709)) (ends (pos 2328888) (pos 10720058))
    (mixed (pos 0) 0)

-- of the one sheet
unfoldable pub long_answer : Result Summary
long_answer = long_litres (at_long_key 8 0x00000002 (pos 32768) ∷ at_long_key 8 0x00000012 (pos 4096)
    ∷ at_long_key 8 0x00000022 (pos 131072) ∷ at_long_key 8 0x10000011 (pos 16384) ∷ [])

-- of the other
unfoldable pub long_renamed : Result Summary
long_renamed = long_litres (at_long_key 8 0x11000001 (pos 16384) ∷ at_long_key 8 0x20000000 (pos 32768)
    ∷ at_long_key 8 0x20000001 (pos 4096) ∷ at_long_key 8 0x20000002 (pos 131072) ∷ [])

-- the short forms, for facts that compute
unfoldable pub long_forms : Unit {0}
unfolding
    share_forms step great_circle at_long long_milking long_before long_after long_litres long_answer long_renamed
long_forms = tt

-- a monomial and the numbers of the variables
pub eight_become : (a b c d e f g h : ℕ)
    → (rename great_circle (a ∷ b ∷ c ∷ d ∷ e ∷ f ∷ g ∷ h ∷ []) ≡ h ∷ a ∷ b ∷ c ∷ d ∷ e ∷ f ∷ g ∷ [])
    × (map (rename_variable great_circle) (1 ∷ 2 ∷ 3 ∷ 4 ∷ 5 ∷ 6 ∷ 7 ∷ 8 ∷ []) ≡ 2 ∷ 3 ∷ 4 ∷ 5 ∷ 6 ∷ 7 ∷ 8 ∷ 1 ∷ [])
unfolding renames long_forms
eight_become a b c d e f g h = (refl, refl)

-- the book becomes the other, and comes back
pub long_becomes : (rename_held great_circle long_before ≡ long_after)
    × (rename_held (inverse great_circle) long_after ≡ long_before)
unfolding renames long_forms
long_becomes = (refl, refl)

-- the runs of both sheets, and the one answer is the other renamed
pub long_answers_stand : (run_sheet (sheet_bytes long_before) ≡ long_answer)
    × (run_sheet (sheet_bytes long_after) ≡ long_renamed)
unfolding writes long_forms
long_answers_stand = (refl, refl)

pub long_answer_becomes : rename_result great_circle long_answer ≡ long_renamed
unfolding renames long_forms
long_answer_becomes = refl
