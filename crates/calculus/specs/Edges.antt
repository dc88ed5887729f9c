-- Books at the edges: what a definition near to the right one would answer otherwise. CallEdges has the single calls,
-- and the crate that reads sheets the samples of document 01.
use Rattle.std.specs.Prelude.{◌≡◌, refl, List, [], ◌∷◌, map, ℕ, zero, suc, ◌+◌, ◌*◌, ◌/◌, ◌%◌, ℤ, pos, replicate}
use Rattle.calculus.specs.Key.{key_degree}
use Rattle.calculus.specs.Terms.{Terms}
use Rattle.calculus.specs.Model.{Model}
use Rattle.calculus.specs.Refusal.{bad_limits, bad_model, bad_step, over_span, too_many_terms, leaves_box}
use Rattle.calculus.specs.Refusal.{Result, stopped}
use Rattle.calculus.specs.Book.{Step, input, constant, variable, negate, add, subtract, multiply, substitute}
use Rattle.calculus.specs.Book.{sweep, antiderivative, quotient, operands, Book, Summary, run}
use Rattle.calculus.specs.Computing.{runs}
use Rattle.calculus.specs.Forms.{at_key, at_long_key, model, book, ends, minus, mixed, gives, forms}

-- a row of the table: its number, a book, and what its run must give
pub record BookEdge : Type 0 where
  pub number : ℕ
  pub book : Book
  pub result : Result Summary

-- ---- short forms
-- such a row
unfoldable pub row : (number : ℕ) → Book → Result Summary → BookEdge
row i b r = record { number = i; book = b; result = r }

-- a model in two variables, 2^26 at each key
unfoldable pub row_of_terms : List ℕ → Model
row_of_terms keys = model 2 0 (map (λ key. at_key 2 key (pos 67108864)) keys)

-- a model of one term
unfoldable pub one_term : (n key : ℕ) → ℤ → Model
one_term n key c = model n 0 (at_key n key c ∷ [])

-- one whose key is long
unfoldable pub one_long_term : (n key : ℕ) → ℤ → Model
one_long_term n key c = model n 0 (at_long_key n key c ∷ [])

-- so many terms with the coefficient c, from the i-th of 1, y, .., y^7, x, xy, .., x y^7, x^2, .. on
unfoldable pub terms_from : (i count : ℕ) → ℤ → Terms
terms_from i zero c = []
terms_from i (suc count) c = at_key 2 (0x1000 * (i / 8) + 0x0100 * (i % 8)) c ∷ terms_from (suc i) count c

-- 2 + 3x: the constant is smaller than the rest
unfoldable pub small_constant : Model
small_constant = model 1 0 (at_key 1 0x0000 (pos 2) ∷ at_key 1 0x1000 (pos 3) ∷ [])

-- a step that breaks its form, after a variable
unfoldable pub broken : (number : ℕ) → Step → BookEdge
broken i s = row i (book 1 1 [] (variable 1 ∷ s ∷ [])) (stopped bad_step 1)

-- ---- the tables, by operation
-- the run of each book gives what its row says
abbrev pub Hold : List BookEdge → Type 0
Hold rows = map (λ r. run r.book) rows ≡ map (λ r. r.result) rows

-- what they open
unfoldable pub book_forms : Unit {0}
unfolding runs forms row row_of_terms one_term one_long_term terms_from small_constant broken
book_forms = tt

-- products
unfoldable pub product_books : List BookEdge
product_books =
    -- (x + y)(x - y) above order 1: |z| after collecting, and not |products|
    row 1 (book 2 1 [] (variable 1 ∷ variable 2 ∷ add 0 1 ∷ subtract 0 1 ∷ multiply 2 3 ∷ []))
    (gives (model 2 2097152 []) (ends (minus 2097152) (pos 2097152)) (ends (minus 8388608) (pos 8388608))
    (mixed (pos 0) 0))
    -- (y^9 + x z^8)(y^8 - z^8): y^17 and x z^16 do not meet
    ∷ row 2 (book 3 15
    (model 3 0 (at_key 3 0x0900 (pos 1048576) ∷ at_key 3 0x1080 (pos 1048576) ∷ [])
    ∷ model 3 0 (at_key 3 0x0080 (minus 1048576) ∷ at_key 3 0x0800 (pos 1048576) ∷ []) ∷ [])
    (input 0 ∷ input 1 ∷ multiply 0 1 ∷ []))
    (gives (model 3 4194304 []) (ends (minus 4194304) (pos 4194304)) (ends (minus 33554432) (pos 33554432))
    (mixed (pos 0) 0))
    -- -1 times 0.75: z below 0 goes to the nearest, and not toward 0
    ∷ row 3 (book 1 2 [] (constant (minus 1) ∷ constant (pos 786432) ∷ multiply 0 1 ∷ []))
    (gives (model 1 1 (at_key 1 0x0000 (minus 1) ∷ [])) (ends (minus 2) (pos 0)) (ends (minus 4) (pos 0))
    (mixed (minus 2) 0))
    -- 72 terms and a span above 2^30: 8 comes before 7
    ∷ row 4 (book 2 15
    (row_of_terms (0x0000 ∷ 0x1000 ∷ 0x2000 ∷ 0x3000 ∷ 0x4000 ∷ 0x5000 ∷ 0x6000 ∷ 0x7000 ∷ 0x8000 ∷ [])
    ∷ row_of_terms (0x0000 ∷ 0x0100 ∷ 0x0200 ∷ 0x0300 ∷ 0x0400 ∷ 0x0500 ∷ 0x0600 ∷ 0x0700 ∷ []) ∷ [])
    (input 0 ∷ input 1 ∷ multiply 0 1 ∷ []))
    (stopped too_many_terms 2)
    ∷ []

pub product_books_hold : Hold product_books
unfolding book_forms product_books
product_books_hold = refl

-- the tests of a step
unfoldable pub step_books : List BookEdge
step_books =
    -- a step is no operand of its own
    broken 7 (negate 1) ∷ broken 7 (sweep 1 (pos 0))
    ∷ broken 7 (add 1 0) ∷ broken 7 (add 0 1)
    ∷ broken 7 (subtract 1 0) ∷ broken 7 (subtract 0 1)
    ∷ broken 7 (multiply 1 0) ∷ broken 7 (multiply 0 1)
    ∷ broken 7 (substitute 1 0 1) ∷ broken 7 (substitute 0 1 1)
    ∷ broken 7 (quotient 1 0 0 0) ∷ broken 7 (quotient 0 1 0 0)
    ∷ broken 7 (quotient 0 0 1 0) ∷ broken 7 (quotient 0 0 0 1)
    -- an input is below the model count, here 0; a variable is 1 to n, here 1
    ∷ broken 8 (input 0)
    ∷ broken 8 (variable 0) ∷ broken 8 (variable 2)
    ∷ broken 8 (substitute 0 0 0) ∷ broken 8 (substitute 0 0 2)
    -- a constant is -2^30 to 2^30
    ∷ broken 9 (constant (pos 1073741825)) ∷ broken 9 (constant (minus 1073741825))
    ∷ row 9 (book 1 1 [] (constant (minus 1073741824) ∷ [])) (gives (one_term 1 0x0000 (minus 1073741824))
    (ends (minus 1073741824) (minus 1073741824)) (ends (minus 2147483648) (minus 2147483648))
    (mixed (minus 2147483648) 0))
    -- an antiderivative's operand is an earlier step, its variable 1 to n
    ∷ broken 22 (antiderivative 1 1) ∷ broken 22 (antiderivative 0 0) ∷ broken 22 (antiderivative 0 2)
    ∷ []

pub step_books_hold : Hold step_books
unfolding book_forms step_books
step_books_hold = refl

-- sweeps
unfoldable pub sweep_books : List BookEdge
sweep_books =
    -- a threshold is 0 to 2^30; the constant term stays, however small it is
    broken 10 (sweep 0 (minus 1)) ∷ broken 10 (sweep 0 (pos 1073741825))
    ∷ row 10 (book 1 1 (small_constant ∷ []) (input 0 ∷ sweep 0 (pos 1073741824) ∷ []))
    (gives (model 1 3 (at_key 1 0x0000 (pos 2) ∷ [])) (ends (minus 1) (pos 5)) (ends (minus 2) (pos 10))
    (mixed (pos 4) 0))
    ∷ []

pub sweep_books_hold : Hold sweep_books
unfolding book_forms sweep_books
sweep_books_hold = refl

-- the limits of a book, and the order of its tests
unfoldable pub limit_books : List BookEdge
limit_books =
    -- 1 to 64 steps
    row 11 (book 1 1 [] []) (stopped bad_limits 0)
    ∷ row 11 (book 1 1 [] (replicate 64 (constant (pos 0))))
    (gives (model 1 0 []) (ends (pos 0) (pos 0)) (ends (pos 0) (pos 0)) (mixed (pos 0) 0))
    ∷ row 11 (book 1 1 [] (replicate 65 (constant (pos 0)))) (stopped bad_limits 0)
    -- 0 to 16 models
    ∷ row 12 (book 1 1 (replicate 16 (model 1 7 [])) (input 15 ∷ []))
    (gives (model 1 7 []) (ends (minus 7) (pos 7)) (ends (minus 14) (pos 14)) (mixed (pos 0) 0))
    ∷ row 12 (book 1 1 (replicate 17 (model 1 7 [])) (input 15 ∷ [])) (stopped bad_limits 0)
    -- n is 1 to 8, the order 1 to 15
    ∷ row 15 (book 9 15 [] (variable 1 ∷ [])) (stopped bad_limits 0)
    ∷ row 15 (book 8 16 [] (variable 1 ∷ [])) (stopped bad_limits 0)
    -- 3 before 5 before 6
    ∷ row 16 (book 1 1 (one_term 1 0x2000 (pos 1) ∷ []) []) (stopped bad_limits 0)
    ∷ row 16 (book 1 1 (one_term 1 0x2000 (pos 1) ∷ []) (negate 0 ∷ [])) (stopped bad_model 0)
    ∷ []

pub limit_books_hold : Hold limit_books
unfolding book_forms limit_books
limit_books_hold = refl

-- the models of a book, and how many terms there are
unfoldable pub model_books : List BookEdge
model_books =
    -- 64 terms, plus x^8 - 1: 64 are left when the zero is dropped; plus x^8: 65; and a model of 65
    row 13 (book 2 14
    (model 2 0 (terms_from 0 64 (pos 1))
    ∷ model 2 0 (at_key 2 0x0000 (minus 1) ∷ at_key 2 0x8000 (pos 1) ∷ []) ∷ [])
    (input 0 ∷ input 1 ∷ add 0 1 ∷ []))
    (gives (model 2 0 (terms_from 1 64 (pos 1))) (ends (minus 48) (pos 64)) (ends (pos 7) (pos 8))
    (mixed (pos 7) 145347345))
    ∷ row 13 (book 2 14 (model 2 0 (terms_from 0 64 (pos 1)) ∷ one_term 2 0x8000 (pos 1) ∷ [])
    (input 0 ∷ input 1 ∷ add 0 1 ∷ []))
    (stopped too_many_terms 2)
    ∷ row 13 (book 2 14 (model 2 0 (terms_from 0 65 (pos 1)) ∷ []) (input 0 ∷ [])) (stopped bad_model 0)
    -- order 2: xy may stand in a book, xy^2 may not
    ∷ row 14 (book 2 2 (one_term 2 0x1100 (pos 7) ∷ []) (input 0 ∷ []))
    (gives (one_term 2 0x1100 (pos 7)) (ends (minus 7) (pos 7)) (ends (pos 0) (pos 0)) (mixed (pos 0) 0))
    ∷ row 14 (book 2 2 (one_term 2 0x1100 (pos 7) ∷ one_term 2 0x1200 (pos 7) ∷ []) (input 0 ∷ []))
    (stopped bad_model 1)
    -- a model in one variable may not stand in a book of two
    ∷ row 14 (book 2 2 (model 1 0 [] ∷ []) (input 0 ∷ [])) (stopped bad_model 0)
    ∷ []

pub model_books_hold : Hold model_books
unfolding book_forms model_books
model_books_hold = refl

-- substitutions
unfoldable pub substitution_books : List BookEdge
substitution_books =
    -- g leaves the box by its radius alone
    row 5 (book 1 2 (model 1 1 (at_key 1 0x0000 (pos 1048576) ∷ []) ∷ [])
    (variable 1 ∷ input 0 ∷ substitute 0 1 1 ∷ []))
    (stopped leaves_box 2)
    -- the radius of f, added last, passes the span
    ∷ row 6 (book 1 2 (model 1 1073741823 (at_key 1 0x1000 (pos 1) ∷ []) ∷ [])
    (input 0 ∷ constant (pos 786432) ∷ substitute 0 1 1 ∷ []))
    (stopped over_span 2)
    -- y^2/2 put in for x in xy, order 2: the order holds inside a substitution
    ∷ row 17 (book 2 2 (one_term 2 0x1100 (pos 1048576) ∷ one_term 2 0x0200 (pos 524288) ∷ [])
    (input 0 ∷ input 1 ∷ substitute 0 1 1 ∷ []))
    (gives (model 2 524288 []) (ends (minus 524288) (pos 524288)) (ends (minus 2097152) (pos 2097152))
    (mixed (pos 0) 0))
    -- f lacks the variable: 9 can refuse, otherwise f stays
    ∷ row 18 (book 2 2 [] (variable 2 ∷ constant (pos 1048577) ∷ substitute 0 1 1 ∷ [])) (stopped leaves_box 2)
    ∷ row 18 (book 2 2 [] (variable 2 ∷ constant (pos 524288) ∷ substitute 0 1 1 ∷ []))
    (gives (one_term 2 0x0100 (pos 1048576)) (ends (minus 1048576) (pos 1048576)) (ends (pos 0) (pos 0))
    (mixed (pos 0) 0))
    -- f has no terms: the same
    ∷ row 19 (book 1 1 (model 1 1073741824 [] ∷ []) (input 0 ∷ constant (minus 1048577) ∷ substitute 0 1 1 ∷ []))
    (stopped leaves_box 2)
    ∷ row 19 (book 1 1 (model 1 1073741824 [] ∷ []) (input 0 ∷ constant (minus 1048576) ∷ substitute 0 1 1 ∷ []))
    (gives (model 1 1073741824 [])
    (ends (minus 1073741824) (pos 1073741824)) (ends (minus 2147483648) (pos 2147483648)) (mixed (pos 0) 0))
    -- x/2 put in for x in x^15, the largest K
    ∷ row 20 (book 1 15 (one_term 1 0xF000 (pos 1048576) ∷ one_term 1 0x1000 (pos 524288) ∷ [])
    (input 0 ∷ input 1 ∷ substitute 0 1 1 ∷ []))
    (gives (one_term 1 0xF000 (pos 32)) (ends (minus 32) (pos 32)) (ends (pos 0) (pos 0)) (mixed (pos 0) 0))
    ∷ []

pub substitution_books_hold : Hold substitution_books
unfolding book_forms substitution_books
substitution_books_hold = refl

-- antiderivatives
unfoldable pub antiderivative_books : List BookEdge
antiderivative_books =
    -- x, x^2/2, x^3/6: U/2 over 3 is not whole
    row 21 (book 1 3 [] (variable 1 ∷ antiderivative 0 1 ∷ antiderivative 1 1 ∷ []))
    (gives (model 1 1 (at_key 1 0x3000 (pos 174763) ∷ [])) (ends (minus 174764) (pos 174764)) (ends (minus 2) (pos 2))
    (mixed (pos 0) 0))
    -- with order 2 the last is swept, U/2 over 3 rounded up
    ∷ row 21 (book 1 2 [] (variable 1 ∷ antiderivative 0 1 ∷ antiderivative 1 1 ∷ []))
    (gives (model 1 174763 []) (ends (minus 174763) (pos 174763)) (ends (minus 349526) (pos 349526)) (mixed (pos 0) 0))
    ∷ []

pub antiderivative_books_hold : Hold antiderivative_books
unfolding book_forms antiderivative_books
antiderivative_books_hold = refl

-- variables 5 to 8
unfoldable pub long_key_books : List BookEdge
long_key_books =
    -- variables 5 to 8: the product of variable 5 and variable 8; variable 9 there is none
    row 23 (book 8 2 [] (variable 5 ∷ variable 8 ∷ multiply 0 1 ∷ []))
    (gives (one_long_term 8 0x00001001 (pos 1048576)) (ends (minus 1048576) (pos 1048576)) (ends (pos 0) (pos 0))
    (mixed (pos 0) 0))
    ∷ row 23 (book 8 2 [] (variable 9 ∷ [])) (stopped bad_step 0)
    -- row 2 in the last three of eight variables: exponents of 16 and more are carried nowhere
    ∷ row 24 (book 8 15
    (model 8 0 (at_long_key 8 0x00000090 (pos 1048576) ∷ at_long_key 8 0x00000108 (pos 1048576) ∷ [])
    ∷ model 8 0 (at_long_key 8 0x00000008 (minus 1048576) ∷ at_long_key 8 0x00000080 (pos 1048576) ∷ []) ∷ [])
    (input 0 ∷ input 1 ∷ multiply 0 1 ∷ []))
    (gives (model 8 4194304 []) (ends (minus 4194304) (pos 4194304)) (ends (minus 1073741824) (pos 1073741824))
    (mixed (pos 0) 0))
    -- the 15th powers of the first and the last of eight variables
    ∷ row 25 (book 8 15
    (model 8 0 (at_long_key 8 0x0000000F (pos 3) ∷ at_long_key 8 0xF0000000 (pos 5) ∷ []) ∷ []) (input 0 ∷ []))
    (gives (model 8 0 (at_long_key 8 0x0000000F (pos 3) ∷ at_long_key 8 0xF0000000 (pos 5) ∷ []))
    (ends (minus 8) (pos 8)) (ends (pos 0) (pos 0)) (mixed (pos 0) 0))
    ∷ row 25 (book 8 14 (one_long_term 8 0x0000000F (pos 3) ∷ []) (input 0 ∷ [])) (stopped bad_model 0)
    ∷ []

pub long_key_books_hold : Hold long_key_books
unfolding book_forms long_key_books
long_key_books_hold = refl

-- ---- degrees of keys
-- all exponents 15; the 15th powers of the first and the last of eight variables; one exponent each
pub degrees_stand : map key_degree (0xFFFFFFFF ∷ 0xF0000000 ∷ 0x0000000F ∷ 0x11111111 ∷ 0x00001001 ∷ 0x00000000 ∷ [])
    ≡ 120 ∷ 15 ∷ 15 ∷ 8 ∷ 2 ∷ 0 ∷ []
unfolding runs key_degree
degrees_stand = refl

-- ---- the earlier steps that each kind of step names
pub operands_stand : map operands
    (input 3 ∷ constant (pos 3) ∷ variable 3 ∷ negate 3 ∷ sweep 3 (pos 4) ∷ antiderivative 3 4 ∷ []) ≡ [] ∷ [] ∷ []
    ∷ (3 ∷ []) ∷ (3 ∷ []) ∷ (3 ∷ []) ∷ []
unfolding operands
operands_stand = refl

-- those with two operands; a quotient names four steps, a substitution's variable is none
pub more_operands_stand : map operands
    (add 3 4 ∷ subtract 3 4 ∷ multiply 3 4 ∷ substitute 3 4 1 ∷ quotient 3 4 5 6 ∷ [])
    ≡ (3 ∷ 4 ∷ []) ∷ (3 ∷ 4 ∷ []) ∷ (3 ∷ 4 ∷ []) ∷ (3 ∷ 4 ∷ []) ∷ (3 ∷ 4 ∷ 5 ∷ 6 ∷ []) ∷ []
unfolding operands
more_operands_stand = refl
