-- Cases at the edges of the single calls: the order of their tests, and what is handed back with a refusal.
use Rattle.std.specs.Prelude.{◌≡◌, refl, Bool, true, false, List, [], ◌∷◌, map, ℕ, ℤ, pos}
use Rattle.calculus.specs.Terms.{term}
use Rattle.calculus.specs.Model.{Model}
use Rattle.calculus.specs.Refusal.{Result, Returned}
use Rattle.calculus.specs.Operations.{Ends, Integral}
use Rattle.calculus.specs.Calls.{call_constant, call_variable, call_negate, call_sweep, call_range, call_integral}
use Rattle.calculus.specs.Calls.{call_evaluate, call_antiderivative, call_add, call_subtract, call_multiply}
use Rattle.calculus.specs.Calls.{call_substitute, call_sound, returned_model, returned_ends, returned_integral}
use Rattle.calculus.specs.Computing.{calls}
use Rattle.calculus.specs.Forms.{at_key, at_long_key, model, ends, minus, mixed, line, forms}
use Rattle.calculus.specs.Edges.{one_term, one_long_term, terms_from}

-- what a call hands back
pub data HandedBack : Type 0 where
  of_model : Returned Model → HandedBack
  of_ends : Returned Ends → HandedBack
  of_integral : Returned Integral → HandedBack

-- a row of the table: its number, what the call hands back, and what it must be
pub record CallEdge : Type 0 where
  pub number : ℕ
  pub given : HandedBack
  pub wanted : HandedBack

-- ---- short forms
-- a refusal or 0, its place, and a value
unfoldable pub back : {A : Type 0} → (refusal place : ℕ) → A → Returned A
back r i a = record { number = r; place = i; value = a }

-- a call that gives a model
unfoldable pub gives : (number : ℕ) → Result Model → Model → CallEdge
gives i c m = record { number = i; given = of_model (returned_model c); wanted = of_model (back 0 0 m) }

-- a call that is refused: the zero model, and its n is 1
unfoldable pub refuses : (number : ℕ) → Result Model → (refusal place : ℕ) → CallEdge
refuses i c r p = record {
  number = i;
  given = of_model (returned_model c);
  wanted = of_model (back r p (model 1 0 []));
}

-- a call that gives ends
unfoldable pub gives_ends : (number : ℕ) → Result Ends → Ends → CallEdge
gives_ends i c e = record { number = i; given = of_ends (returned_ends c); wanted = of_ends (back 0 0 e) }

-- a call for ends that is refused, at place 0: both are 0
unfoldable pub refuses_ends : (number : ℕ) → Result Ends → (refusal : ℕ) → CallEdge
refuses_ends i c r = record {
  number = i;
  given = of_ends (returned_ends c);
  wanted = of_ends (back r 0 (ends (pos 0) (pos 0)));
}

-- a call for an integral that is refused, at place 0: both ends, q and r are 0
unfoldable pub refuses_integral : (number : ℕ) → Result Integral → (refusal : ℕ) → CallEdge
refuses_integral i c r = record {
  number = i;
  given = of_integral (returned_integral c);
  wanted = of_integral (back r 0 (record { ends = ends (pos 0) (pos 0); exact = mixed (pos 0) 0 }));
}

-- a coefficient 0 breaks a rule
unfoldable pub bad : Model
bad = one_term 1 0x1000 (pos 0)

-- x^3
unfoldable pub cube : Model
cube = one_term 1 0x3000 (pos 1048576)

-- xy, in two variables
unfoldable pub two_variables : Model
two_variables = one_term 2 0x1100 (pos 1048576)

-- just outside the box
unfoldable pub outside : Model
outside = one_term 1 0x0000 (pos 1048577)

-- c + x in n variables, in units of 1/U
unfoldable pub near_limit : (n c : ℕ) → Model
near_limit n c = model n 0 (at_key n 0x0000 (pos c) ∷ at_key n 0x1000 (pos 1) ∷ [])

-- the constant a times the constant b
unfoldable pub times : (a b : ℤ) → Result Model
times a b = call_multiply 1 (one_term 1 0x0000 a) (one_term 1 0x0000 b)

-- the constant c with radius 1
unfoldable pub about : ℤ → Model
about c = model 1 1 (at_key 1 0x0000 c ∷ [])

-- a + b x^2 with radius e, in units of 1/U
unfoldable pub constant_and_square : (a e b : ℕ) → Model
constant_and_square a e b = model 1 e (at_key 1 0x0000 (pos a) ∷ at_key 1 0x2000 (pos b) ∷ [])

-- b x^2 - a, in units of 1/U
unfoldable pub square_minus : (a b : ℕ) → Model
square_minus a b = model 1 0 (at_key 1 0x0000 (minus a) ∷ at_key 1 0x2000 (pos b) ∷ [])

-- the antiderivative of c x with order 2
unfoldable pub integrated : ℤ → Result Model
integrated c = call_antiderivative 2 1 (one_term 1 0x1000 c)

-- c x^2 with a radius
unfoldable pub square : (e : ℕ) → ℤ → Model
square e c = model 1 e (at_key 1 0x2000 c ∷ [])

-- 6 x8 + 4 x5 + 8 x1 in eight variables, in units of 1/U
unfoldable pub long_line : Model
long_line = model 8 0
    (at_long_key 8 0x00000001 (pos 6) ∷ at_long_key 8 0x00001000 (pos 4) ∷ at_long_key 8 0x10000000 (pos 8) ∷ [])

-- a point of eight coordinates: the first one, three zeros, and the last four
unfoldable pub point : (a e f g h : ℤ) → List ℤ
point a e f g h = a ∷ pos 0 ∷ pos 0 ∷ pos 0 ∷ e ∷ f ∷ g ∷ h ∷ []

-- ---- the tables, by operation; the line is 5 + 3x
-- each call hands back what its row says
abbrev pub Hold : List CallEdge → Type 0
Hold rows = map (λ r. r.given) rows ≡ map (λ r. r.wanted) rows

-- what they open
unfoldable pub call_forms : Unit {0}
unfolding
    calls forms one_term one_long_term terms_from
    back gives refuses gives_ends refuses_ends refuses_integral bad cube two_variables outside near_limit times about
    constant_and_square square_minus integrated square long_line point
call_forms = tt

-- constants and variables
unfoldable pub constant_edges : List CallEdge
constant_edges =
    -- 3 before 6
    refuses 1 (call_constant 0 (pos 1073741825)) 3 0
    ∷ refuses 1 (call_variable 9 10) 3 0
    ∷ refuses 1 (call_constant 9 (pos 1)) 3 0
    -- 6
    ∷ refuses 2 (call_constant 4 (minus 1073741825)) 6 0
    ∷ refuses 2 (call_variable 2 3) 6 0
    ∷ gives 2 (call_variable 4 4) (one_term 4 0x0001 (pos 1048576))
    ∷ gives 2 (call_variable 8 8) (one_long_term 8 0x00000001 (pos 1048576))
    ∷ refuses 2 (call_variable 8 9) 6 0
    ∷ []

pub constant_edges_hold : Hold constant_edges
unfolding call_forms constant_edges
constant_edges_hold = refl

-- sweep and negate, and the rules of a model
unfoldable pub unary_edges : List CallEdge
unary_edges =
    -- 5 before 6
    refuses 3 (call_sweep (minus 1) bad) 5 0
    ∷ refuses 3 (call_sweep (minus 1) line) 6 0
    ∷ gives 3 (call_sweep (pos 1073741824) line) (model 1 3 (at_key 1 0x0000 (pos 5) ∷ []))
    -- a model's own n counts under 5, and so do its span and keys that do not rise
    ∷ refuses 4 (call_negate (model 0 0 [])) 5 0
    ∷ refuses 4 (call_negate (model 9 0 [])) 5 0
    ∷ gives 4 (call_negate (model 8 0 [])) (model 8 0 [])
    ∷ refuses 4 (call_negate (model 1 1073741825 [])) 5 0
    ∷ refuses 4 (call_negate (model 1 0 (at_key 1 0x1000 (pos 1) ∷ at_key 1 0x1000 (pos 1) ∷ []))) 5 0
    -- no order is taken: degrees go up to 15
    ∷ gives 4 (call_negate (one_term 1 0xF000 (pos 1))) (one_term 1 0xF000 (minus 1))
    ∷ refuses 4 (call_negate (model 1 0 (term (pos 1) (16 ∷ []) ∷ []))) 5 0
    ∷ []

pub unary_edges_hold : Hold unary_edges
unfolding call_forms unary_edges
unary_edges_hold = refl

-- the tests of two models, in their order
unfoldable pub operand_edges : List CallEdge
operand_edges =
    -- 3 before 5
    refuses 5 (call_multiply 0 bad bad) 3 0
    ∷ refuses 5 (call_substitute 16 1 bad bad) 3 0
    -- 5 at place 0, then 5 at place 1, then 10
    ∷ refuses 6 (call_add bad bad) 5 0
    ∷ refuses 6 (call_add line (model 9 0 [])) 5 1
    ∷ refuses 6 (call_add line two_variables) 10 0
    ∷ refuses 6 (call_subtract two_variables line) 10 0
    ∷ refuses 6 (call_multiply 2 line two_variables) 10 0
    -- then 6, then 9
    ∷ refuses 7 (call_substitute 2 3 line two_variables) 10 0
    ∷ refuses 7 (call_substitute 2 2 line outside) 6 0
    ∷ refuses 7 (call_substitute 2 0 line outside) 6 0
    ∷ refuses 7 (call_substitute 2 1 line outside) 9 0
    -- the order applies to both models
    ∷ refuses 8 (call_multiply 2 cube line) 5 0
    ∷ refuses 8 (call_multiply 2 line cube) 5 1
    ∷ gives 8 (call_multiply 3 line cube) (model 1 3 (at_key 1 0x3000 (pos 5) ∷ []))
    ∷ refuses 8 (call_substitute 2 1 cube line) 5 0
    ∷ refuses 8 (call_substitute 2 1 line cube) 5 1
    ∷ []

pub operand_edges_hold : Hold operand_edges
unfolding call_forms operand_edges
operand_edges_hold = refl

-- sums
unfoldable pub addition_edges : List CallEdge
addition_edges =
    -- 65 terms and a span above 2^30: 8 before 7
    refuses 10 (call_add (model 2 0 (terms_from 0 64 (pos 16777216))) (one_term 2 0x8000 (pos 1073741824))) 8 0
    ∷ refuses 10 (call_add (model 1 1073741824 []) (model 1 1 [])) 7 0
    ∷ gives 10 (call_add (model 1 1073741823 []) (model 1 1 [])) (model 1 1073741824 [])
    ∷ []

pub addition_edges_hold : Hold addition_edges
unfolding call_forms addition_edges
addition_edges_hold = refl

-- products
unfoldable pub product_edges : List CallEdge
product_edges =
    -- halfway goes to the even coefficient: not away from 0 (1, 5), not toward it (3), not up (-3), not down (-1)
    gives 15 (times (pos 1) (pos 524288)) (model 1 1 []) ∷ gives 15 (times (minus 1) (pos 524288)) (model 1 1 [])
    ∷ gives 15 (times (pos 3) (pos 524288)) (about (pos 2)) ∷ gives 15 (times (minus 3) (pos 524288)) (about (minus 2))
    ∷ gives 15 (times (pos 5) (pos 524288)) (about (pos 2)) ∷ gives 15 (times (minus 5) (pos 524288)) (about (minus 2))
    -- z just below halfway, there and just above it
    ∷ gives 16 (times (pos 1) (pos 524287)) (model 1 1 []) ∷ gives 16 (times (minus 1) (pos 524287)) (model 1 1 [])
    ∷ gives 16 (times (pos 1) (pos 524288)) (model 1 1 []) ∷ gives 16 (times (pos 524288) (minus 1)) (model 1 1 [])
    ∷ gives 16 (times (pos 1) (pos 524289)) (about (pos 1)) ∷ gives 16 (times (minus 1) (pos 524289)) (about (minus 1))
    ∷ []

pub product_edges_hold : Hold product_edges
unfolding call_forms product_edges
product_edges_hold = refl

-- ranges
unfoldable pub range_edges : List CallEdge
range_edges =
    -- the range: every exponent counts, and not the degree: xy, x^2 y, x^2 y^2
    gives_ends 17 (call_range (one_term 2 0x1100 (pos 7))) (ends (minus 7) (pos 7))
    ∷ gives_ends 17 (call_range (one_term 2 0x2100 (pos 7))) (ends (minus 7) (pos 7))
    ∷ gives_ends 17 (call_range (one_term 2 0x2200 (pos 7))) (ends (pos 0) (pos 7))
    -- an even power below 0: -x^2
    ∷ gives_ends 18 (call_range (one_term 1 0x2000 (minus 7))) (ends (minus 7) (pos 0))
    -- the constant is not among them: 5 + 3x^2, 5 alone, -5 alone
    ∷ gives_ends 19 (call_range (constant_and_square 5 0 3)) (ends (pos 5) (pos 8))
    ∷ gives_ends 19 (call_range (one_term 1 0x0000 (pos 5))) (ends (pos 5) (pos 5))
    ∷ gives_ends 19 (call_range (one_term 1 0x0000 (minus 5))) (ends (minus 5) (minus 5))
    -- each term by itself: 3x + 4x^2
    ∷ gives_ends 20 (call_range (model 1 0 (at_key 1 0x1000 (pos 3) ∷ at_key 1 0x2000 (pos 4) ∷ [])))
    (ends (minus 3) (pos 7))
    -- the radius counts on both sides: alone, and beside x^2
    ∷ gives_ends 21 (call_range (model 1 3 [])) (ends (minus 3) (pos 3))
    ∷ gives_ends 21 (call_range (constant_and_square 5 2 3)) (ends (pos 3) (pos 10))
    ∷ []

pub range_edges_hold : Hold range_edges
unfolding call_forms range_edges
range_edges_hold = refl

-- substitutions
unfoldable pub substitution_edges : List CallEdge
substitution_edges =
    -- and holds inside a substitution: y^2/2 put in for x in xy
    gives 9 (call_substitute 2 1 two_variables (one_term 2 0x0200 (pos 524288))) (model 2 524288 [])
    -- 9 by this range: 2x^2 - 1 put in for x, then reaching one unit too high, then one too low
    ∷ gives 22 (call_substitute 2 1 (one_term 1 0x1000 (pos 1048576)) (square_minus 1048576 2097152))
    (square_minus 1048576 2097152)
    ∷ refuses 22 (call_substitute 2 1 (one_term 1 0x1000 (pos 1048576)) (square_minus 1048576 2097153)) 9 0
    ∷ refuses 22 (call_substitute 2 1 (one_term 1 0x1000 (pos 1048576)) (square_minus 1048577 2097152)) 9 0
    ∷ []

pub substitution_edges_hold : Hold substitution_edges
unfolding call_forms substitution_edges
substitution_edges_hold = refl

-- antiderivatives
unfoldable pub antiderivative_edges : List CallEdge
antiderivative_edges =
    -- an antiderivative divides by the new exponent, here 2, halfway to the even; what is not exact costs 1
    gives 23 (integrated (pos 1)) (model 1 1 []) ∷ gives 23 (integrated (minus 1)) (model 1 1 [])
    ∷ gives 23 (integrated (pos 2)) (square 0 (pos 1)) ∷ gives 23 (integrated (minus 2)) (square 0 (minus 1))
    ∷ gives 23 (integrated (pos 3)) (square 1 (pos 2)) ∷ gives 23 (integrated (minus 3)) (square 1 (minus 2))
    ∷ gives 23 (integrated (pos 5)) (square 1 (pos 2)) ∷ gives 23 (integrated (minus 5)) (square 1 (minus 2))
    -- below and above halfway, here of 3; one that rounds to zero costs 1 as the others do
    ∷ gives 24 (call_antiderivative 3 1 (one_term 1 0x2000 (pos 1))) (model 1 1 [])
    ∷ gives 24 (call_antiderivative 3 1 (one_term 1 0x2000 (minus 2))) (model 1 1 (at_key 1 0x3000 (minus 1) ∷ []))
    ∷ gives 24 (call_antiderivative 3 1 (one_term 1 0x2000 (pos 3))) (one_term 1 0x3000 (pos 1))
    -- exponent 14 at order 15, and exponent 15: degree 16 is above every order
    ∷ gives 25 (call_antiderivative 15 1 (one_term 1 0xE000 (pos 30))) (one_term 1 0xF000 (pos 2))
    ∷ gives 25 (call_antiderivative 15 1 (one_term 1 0xF000 (pos 16))) (model 1 1 [])
    ∷ gives 25 (call_antiderivative 15 1 (one_term 1 0xF000 (minus 17))) (model 1 2 [])
    -- the new degree is compared with the order, and what is swept is rounded up, of both signs: 5/3 and 5/2
    ∷ gives 26 (call_antiderivative 2 1 (model 2 0 (at_key 2 0x1100 (minus 5) ∷ at_key 2 0x2000 (pos 5) ∷ [])))
    (model 2 5 [])
    ∷ gives 26 (call_antiderivative 3 1 (model 2 0 (at_key 2 0x1100 (minus 5) ∷ at_key 2 0x2000 (pos 5) ∷ [])))
    (model 2 2 (at_key 2 0x2100 (minus 2) ∷ at_key 2 0x3000 (pos 2) ∷ []))
    -- each by itself: 3/2 and 4/3 give 2 and 2, where their sum would give 3
    ∷ gives 26 (call_antiderivative 2 1 (model 2 0 (at_key 2 0x1100 (pos 3) ∷ at_key 2 0x2000 (pos 4) ∷ [])))
    (model 2 4 [])
    -- a radius only; a variable that does not occur; the old radius stays
    ∷ gives 27 (call_antiderivative 1 1 (model 1 7 [])) (model 1 7 [])
    ∷ gives 27 (call_antiderivative 2 1 (one_term 2 0x0100 (pos 7))) (one_term 2 0x1100 (pos 7))
    ∷ gives 27 (call_antiderivative 2 2 (model 2 7 (at_key 2 0x0100 (pos 7) ∷ [])))
    (model 2 8 (at_key 2 0x0200 (pos 4) ∷ []))
    -- 3, then 5 with the order, then 6; never 7, even at the largest span
    ∷ refuses 28 (call_antiderivative 0 9 bad) 3 0
    ∷ refuses 28 (call_antiderivative 16 9 bad) 3 0
    ∷ refuses 28 (call_antiderivative 2 9 bad) 5 0
    ∷ refuses 28 (call_antiderivative 2 9 cube) 5 0
    ∷ refuses 28 (call_antiderivative 3 0 cube) 6 0
    ∷ refuses 28 (call_antiderivative 3 2 cube) 6 0
    ∷ gives 28 (call_antiderivative 3 1 cube) (model 1 262144 [])
    ∷ gives 28 (call_antiderivative 2 1 (model 1 1073741821 (at_key 1 0x1000 (pos 3) ∷ [])))
    (model 1 1073741822 (at_key 1 0x2000 (pos 2) ∷ []))
    ∷ []

pub antiderivative_edges_hold : Hold antiderivative_edges
unfolding call_forms antiderivative_edges
antiderivative_edges_hold = refl

-- ends that are refused, and evaluations
unfoldable pub evaluation_edges : List CallEdge
evaluation_edges =
    -- 5 for ends
    refuses_ends 11 (call_range bad) 5
    ∷ refuses_integral 11 (call_integral bad) 5
    -- evaluation: 5, then 6 above n, then 9 among the first n
    ∷ refuses_ends 12 (call_evaluate (pos 1048577 ∷ pos 1 ∷ []) bad) 5
    ∷ refuses_ends 12 (call_evaluate (pos 1048577 ∷ pos 1 ∷ []) line) 6
    ∷ refuses_ends 12 (call_evaluate (pos 0 ∷ pos 0 ∷ pos 1 ∷ []) line) 6
    ∷ refuses_ends 12 (call_evaluate (pos 1048577 ∷ pos 0 ∷ []) line) 9
    ∷ refuses_ends 12 (call_evaluate (minus 1048577 ∷ pos 0 ∷ []) line) 9
    ∷ gives_ends 12 (call_evaluate (pos 1048576 ∷ pos 0 ∷ []) line) (ends (pos 8) (pos 8))
    ∷ gives_ends 12 (call_evaluate (minus 1048576 ∷ pos 0 ∷ []) line) (ends (pos 2) (pos 2))
    -- 7 inside evaluation: at U - 1 the product is rounded to 1 with radius 1
    ∷ refuses_ends 13 (call_evaluate (pos 1048575 ∷ []) (near_limit 1 1073741823)) 7
    ∷ gives_ends 13 (call_evaluate (pos 1048575 ∷ []) (near_limit 1 1073741822))
    (ends (pos 1073741822) (pos 1073741824))
    -- 9 for any coordinate comes before it
    ∷ refuses_ends 14 (call_evaluate (pos 1048575 ∷ pos 1048577 ∷ []) (near_limit 2 1073741823)) 9
    -- at eight coordinates, 1 for x1 and -1/2 for x5 and x8: 8 - 2 - 3
    ∷ gives_ends 29 (call_evaluate (point (pos 1048576) (minus 524288) (pos 7) (minus 9) (minus 524288)) long_line)
    (ends (pos 3) (pos 3))
    -- 6 for each of the coordinates 5 to 8 above n, 9 for each of them outside the box
    ∷ refuses_ends 30 (call_evaluate (point (pos 0) (pos 1) (pos 0) (pos 0) (pos 0)) (model 4 0 [])) 6
    ∷ refuses_ends 30 (call_evaluate (point (pos 0) (pos 0) (pos 1) (pos 0) (pos 0)) (model 5 0 [])) 6
    ∷ refuses_ends 30 (call_evaluate (point (pos 0) (pos 0) (pos 0) (minus 1) (pos 0)) (model 6 0 [])) 6
    ∷ refuses_ends 30 (call_evaluate (point (pos 0) (pos 0) (pos 0) (pos 0) (pos 1)) (model 7 0 [])) 6
    ∷ refuses_ends 30 (call_evaluate (point (pos 0) (pos 1048577) (pos 0) (pos 0) (pos 0)) (model 5 0 [])) 9
    ∷ refuses_ends 30 (call_evaluate (point (pos 0) (pos 0) (minus 1048577) (pos 0) (pos 0)) long_line) 9
    ∷ refuses_ends 30 (call_evaluate (point (pos 0) (pos 0) (pos 0) (pos 1048577) (pos 0)) long_line) 9
    ∷ refuses_ends 30 (call_evaluate (point (pos 0) (pos 0) (pos 0) (pos 0) (minus 1048577)) long_line) 9
    -- which comes before 7, as in row 14
    ∷ refuses_ends 30 (call_evaluate (point (pos 1048575) (pos 1048577) (pos 0) (pos 0) (pos 0))
    (near_limit 5 1073741823)) 9
    ∷ refuses_ends 30 (call_evaluate (point (pos 1048575) (pos 0) (pos 0) (pos 0) (minus 1048577))
    (near_limit 8 1073741823)) 9
    ∷ []

pub evaluation_edges_hold : Hold evaluation_edges
unfolding call_forms evaluation_edges
evaluation_edges_hold = refl

-- variables 5 to 8
unfoldable pub long_key_edges : List CallEdge
long_key_edges =
    -- a product, a substitution, an antiderivative and a range in variables 5 to 8: x5 x8; x1/2 for x8 in that; its
    -- antiderivative in x8; x5 x8, x5^2 x8 and x5^2 x8^2
    gives 31 (call_multiply 2 (one_long_term 8 0x00001000 (pos 1048576)) (one_long_term 8 0x00000001 (pos 7)))
    (one_long_term 8 0x00001001 (pos 7))
    ∷ gives 31 (call_substitute 2 8 (one_long_term 8 0x00001001 (pos 8)) (one_long_term 8 0x10000000 (pos 524288)))
    (one_long_term 8 0x10001000 (pos 4))
    ∷ gives 31 (call_antiderivative 3 8 (one_long_term 8 0x00001001 (pos 8))) (one_long_term 8 0x00001002 (pos 4))
    ∷ gives_ends 31 (call_range (one_long_term 8 0x00001001 (pos 7))) (ends (minus 7) (pos 7))
    ∷ gives_ends 31 (call_range (one_long_term 8 0x00002001 (pos 7))) (ends (minus 7) (pos 7))
    ∷ gives_ends 31 (call_range (one_long_term 8 0x00002002 (pos 7))) (ends (pos 0) (pos 7))
    ∷ []

pub long_key_edges_hold : Hold long_key_edges
unfolding call_forms long_key_edges
long_key_edges_hold = refl

-- ---- whether a model keeps the rules: x^15 y^i with degrees up to d
unfoldable pub sound_to : (d i : ℕ) → Bool
sound_to d i = call_sound d (model 2 0 (term (pos 1) (15 ∷ i ∷ []) ∷ []))

-- the order holds; above 15 no degree is allowed, whatever the order is
pub sound_edges : (sound_to 14 0 ∷ sound_to 15 0 ∷ sound_to 16 0 ∷ sound_to 16 1 ∷ sound_to 255 1 ∷ [])
    ≡ false ∷ true ∷ true ∷ false ∷ false ∷ []
unfolding calls forms sound_to
sound_edges = refl
