-- Quotients at the edges: what a definition near to the right one would answer otherwise. Numbers are in units of 1/U.
use Rattle.std.specs.Prelude.{◌≡◌, refl, List, [], ◌∷◌, map, ℕ, ℤ, pos}
use Rattle.calculus.specs.Model.{Model}
use Rattle.calculus.specs.Calls.{call_quotient}
use Rattle.calculus.specs.Computing.{calls}
use Rattle.calculus.specs.Forms.{at_key, model, minus, line, forms}
use Rattle.calculus.specs.Edges.{row_of_terms, one_term, terms_from}
use Rattle.calculus.specs.CallEdges.{CallEdge, back, gives, refuses, bad, cube, two_variables}

-- ---- short forms, in one variable
-- the zero model
unfoldable pub nought : Model
nought = model 1 0 []

-- the constant c
unfoldable pub number_of : ℤ → Model
number_of c = one_term 1 0x0000 c

-- the model of 1
unfoldable pub one : Model
one = number_of (pos 1048576)

-- a + b x
unfoldable pub sloped : (a b : ℤ) → Model
sloped a b = model 1 0 (at_key 1 0x0000 a ∷ at_key 1 0x1000 b ∷ [])

-- 5 + 3x with a radius
unfoldable pub line_within : (radius : ℕ) → Model
line_within e = model 1 e (at_key 1 0x0000 (pos 5) ∷ at_key 1 0x1000 (pos 3) ∷ [])

-- ---- in two
-- the zero model
unfoldable pub nought_of_two : Model
nought_of_two = model 2 0 []

-- the model of 1
unfoldable pub one_of_two : Model
one_of_two = one_term 2 0x0000 (pos 1048576)

-- 2^26 at each power of x to 8
unfoldable pub powers_of_first : Model
powers_of_first =
    row_of_terms (0x0000 ∷ 0x1000 ∷ 0x2000 ∷ 0x3000 ∷ 0x4000 ∷ 0x5000 ∷ 0x6000 ∷ 0x7000 ∷ 0x8000 ∷ [])

-- and at each power of y to 7: with these a product of 72 terms
unfoldable pub powers_of_second : Model
powers_of_second = row_of_terms (0x0000 ∷ 0x0100 ∷ 0x0200 ∷ 0x0300 ∷ 0x0400 ∷ 0x0500 ∷ 0x0600 ∷ 0x0700 ∷ [])

-- ---- the table: order, f, g, h, w
unfoldable pub quotient_edges : List CallEdge
quotient_edges =
    -- mu is U - 1, from either side: accepted, and beta × U is divided by 1
    gives 1 (call_quotient 1 (number_of (pos 1)) (number_of (pos 1)) nought one) (model 1 1048576 [])
    ∷ gives 1 (call_quotient 1 (number_of (pos 1)) (number_of (pos 2097151)) nought one) (model 1 1048576 [])
    -- mu is U, from either side, and more
    ∷ refuses 2 (call_quotient 1 (number_of (pos 1)) nought nought one) 12 0
    ∷ refuses 2 (call_quotient 1 (number_of (pos 1)) (number_of (pos 2097152)) nought one) 12 0
    ∷ refuses 2 (call_quotient 1 (number_of (pos 1)) (number_of (minus 1)) nought one) 12 0
    ∷ refuses 2 (call_quotient 1 nought nought nought nought) 12 0
    -- beta is the larger size of both ends: the form is -f
    ∷ gives 3 (call_quotient 1 (sloped (pos 3) (pos 1)) one nought one) (model 1 4 [])
    ∷ gives 3 (call_quotient 1 (sloped (minus 3) (pos 1)) one nought one) (model 1 4 [])
    -- by request 3's range: the form is x^2 - 3, from -3 to -2, and does not count as reaching -4
    ∷ gives 3 (call_quotient 2 (model 1 0 (at_key 1 0x0000 (pos 3145728) ∷ at_key 1 0x2000 (minus 1048576) ∷ [])) one
    nought one)
    (model 1 3145728 [])
    -- and so is mu: the form is 1 - g, U - 3 to U - 1 or its negative
    ∷ gives 4 (call_quotient 1 (number_of (pos 1)) (sloped (pos 2) (pos 1)) nought one) (model 1 1048576 [])
    ∷ gives 4 (call_quotient 1 (number_of (pos 1)) (sloped (pos 2097150) (pos 1)) nought one) (model 1 1048576 [])
    -- U / (U - 4) is rounded up, and 2 U / U stays 2
    ∷ gives 5 (call_quotient 1 (number_of (pos 1)) (number_of (pos 1048572)) nought one) (model 1 2 [])
    ∷ gives 5 (call_quotient 1 (number_of (pos 1)) (number_of (pos 524288)) nought one) (model 1 2 [])
    -- beta is 0: the polynomial of h, with radius 0; the radii of h and w are not used
    ∷ gives 6 (call_quotient 1 line one line one) line
    ∷ gives 6 (call_quotient 1 line one (line_within 7) one) line
    ∷ gives 6 (call_quotient 1 line one line (model 1 7 (at_key 1 0x0000 (pos 1048576) ∷ []))) line
    ∷ gives 6 (call_quotient 1 nought one (line_within 0) one) (line_within 8)
    -- the radius of w is not used where beta is not 0 either
    ∷ gives 6 (call_quotient 1 (number_of (pos 1)) one nought (model 1 7 (at_key 1 0x0000 (pos 1048576) ∷ [])))
    (model 1 1 [])
    -- w times the difference, and not the difference of two products: 1/4 (2 - 1) is rounded once
    ∷ gives 6 (call_quotient 1 (number_of (pos 1)) one (number_of (pos 2)) (number_of (pos 262144)))
    (model 1 4 (at_key 1 0x0000 (pos 2) ∷ []))
    -- f is zero
    ∷ gives 7 (call_quotient 1 nought one nought one) nought
    -- the radii of f and g are
    ∷ gives 8 (call_quotient 1 (line_within 2) one line one) (line_within 2)
    ∷ gives 8 (call_quotient 1 line (model 1 1 (at_key 1 0x0000 (pos 1048576) ∷ [])) line one) (line_within 2)
    -- the order holds inside the forms: x / (1 + x/2) by x, with x^2/2 swept
    ∷ gives 9 (call_quotient 1 (one_term 1 0x1000 (pos 1048576)) (sloped (pos 1048576) (pos 524288))
    (one_term 1 0x1000 (pos 1048576)) one)
    (model 1 1048576 (at_key 1 0x1000 (pos 1048576) ∷ []))
    -- 3, then 5 at places 0 to 3, then 10
    ∷ refuses 10 (call_quotient 0 bad bad bad bad) 3 0
    ∷ refuses 10 (call_quotient 16 bad bad bad bad) 3 0
    ∷ refuses 10 (call_quotient 2 bad bad bad bad) 5 0
    ∷ refuses 10 (call_quotient 2 two_variables bad bad bad) 5 1
    ∷ refuses 10 (call_quotient 2 two_variables line bad bad) 5 2
    ∷ refuses 10 (call_quotient 2 two_variables line line bad) 5 3
    ∷ refuses 10 (call_quotient 2 two_variables line line line) 10 0
    ∷ refuses 10 (call_quotient 2 line two_variables line line) 10 0
    ∷ refuses 10 (call_quotient 2 line line two_variables line) 10 0
    ∷ refuses 10 (call_quotient 2 line line line two_variables) 10 0
    -- the order applies to all four
    ∷ refuses 11 (call_quotient 2 cube line line line) 5 0
    ∷ refuses 11 (call_quotient 2 line cube line line) 5 1
    ∷ refuses 11 (call_quotient 2 line line cube line) 5 2
    ∷ refuses 11 (call_quotient 2 line line line cube) 5 3
    -- the first form's 7 comes before the second's 8, which comes where the first passes
    ∷ refuses 12 (call_quotient 15 (one_term 2 0x0000 (pos 1073741824)) powers_of_second nought_of_two powers_of_first)
    7 0
    ∷ refuses 12 (call_quotient 15 nought_of_two powers_of_second nought_of_two powers_of_first) 8 0
    -- and before the 12 of mu at U
    ∷ refuses 13 (call_quotient 1 (number_of (pos 1073741824)) nought nought (number_of (pos 2097152))) 7 0
    -- 8 and 7 of each difference: 65 terms, a span above 2^30
    ∷ refuses 14 (call_quotient 15 (one_term 2 0x8000 (pos 1)) one_of_two (model 2 0 (terms_from 0 64 (pos 1)))
    one_of_two)
    8 0
    ∷ refuses 14 (call_quotient 15 nought_of_two (model 2 0 (terms_from 1 64 (pos 1))) nought_of_two one_of_two) 8 0
    ∷ refuses 14 (call_quotient 1 (number_of (minus 1073741824)) one one one) 7 0
    ∷ refuses 14 (call_quotient 1 nought (number_of (minus 1073741824)) nought one) 7 0
    -- the second form's 7 comes before 12
    ∷ refuses 15 (call_quotient 1 nought (number_of (pos 1073741824)) nought (number_of (pos 1073741824))) 7 0
    -- f is 2^30: 12 comes before the result's 7, which comes where mu is U - 1; at 2^30 the span is within its limit
    ∷ refuses 16 (call_quotient 1 (number_of (pos 1073741824)) nought nought one) 12 0
    ∷ refuses 16 (call_quotient 1 (number_of (pos 1073741824)) (number_of (pos 1)) nought one) 7 0
    ∷ gives 16 (call_quotient 1 (number_of (pos 1073741824)) one nought one) (model 1 1073741824 [])
    -- the terms of h count in it
    ∷ refuses 17 (call_quotient 1 (number_of (pos 1073741823)) one (number_of (pos 1073741824)) one) 7 0
    ∷ gives 17 (call_quotient 1 (number_of (pos 1073741824)) one (number_of (pos 1073741824)) one)
    (number_of (pos 1073741824))
    ∷ []

-- each call hands back what its row says
pub quotient_edges_hold : map (λ r. r.given) quotient_edges ≡ map (λ r. r.wanted) quotient_edges
unfolding
    calls forms one_term terms_from row_of_terms back gives refuses bad cube two_variables
    nought number_of one sloped line_within nought_of_two one_of_two powers_of_first powers_of_second quotient_edges
quotient_edges_hold = refl
