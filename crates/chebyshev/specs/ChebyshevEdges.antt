-- Cases at the edges of the calls on curves, from these definitions by computation: a row, and what its call must hand
-- back. The file's name comes before those of the laws, so that a wrong definition is refused here first.
use Rattle.std.specs.Prelude.{◌≡◌, refl, List, [], ◌∷◌, ◌++◌, map, ℕ, ◌+◌, ◌-◌, ℤ, pos, length, replicate}
use Rattle.numbers.specs.Fixed.{U, span_limit}
use Rattle.calculus.specs.Terms.{Terms, term}
use Rattle.calculus.specs.Model.{Model}
use Rattle.calculus.specs.Refusal.{Result, Returned}
use Rattle.calculus.specs.Operations.{Ends}
use Rattle.calculus.specs.Calls.{returned_model, returned_ends}
use Rattle.calculus.specs.Forms.{model, ends, minus, forms}
use Rattle.calculus.specs.CallEdges.{back}
use Rattle.chebyshev.specs.Coefficients.{Row, add_at}
use Rattle.chebyshev.specs.PowerRows.{zeros}
use Rattle.chebyshev.specs.Curve.{Curve}
use Rattle.chebyshev.specs.CurveCalls.{call_negate, call_range, call_add, call_subtract, call_multiply}
use Rattle.chebyshev.specs.CurveCalls.{call_to_powers, call_from_powers, returned_curve}
use Rattle.chebyshev.specs.Computing.{curve_calls}

-- what a call hands back
pub data HandedBack : Type 0 where
  of_curve : Returned Curve → HandedBack
  of_model : Returned Model → HandedBack
  of_ends : Returned Ends → HandedBack

-- a row of the table: its number, what the call hands back, and what it must be
pub record CurveEdge : Type 0 where
  pub number : ℕ
  pub given : HandedBack
  pub wanted : HandedBack

-- ---- short forms
-- the first coefficients, zeros after them, and a radius
unfoldable pub curve : Row → (radius : ℕ) → Curve
curve l e = record { coefficients = l ++ replicate (16 - length l) (pos 0); radius = e }

-- the coefficient c at T_k alone
unfoldable pub at_degree : (k : ℕ) (c : ℤ) → Curve
at_degree k c = record { coefficients = add_at k c zeros; radius = 0 }

-- two coefficients alone
unfoldable pub at_degrees : (k : ℕ) (c : ℤ) (l : ℕ) (d : ℤ) (radius : ℕ) → Curve
at_degrees k c l d e = record { coefficients = add_at k c (add_at l d zeros); radius = e }

-- the term c x^k in one variable
unfoldable pub power : (k : ℕ) (c : ℤ) → Terms
power k c = term c (k ∷ []) ∷ []

-- the largest constant
unfoldable pub full : Curve
full = curve (pos span_limit ∷ []) 0

-- the same with a radius of 1: over the span
unfoldable pub over : Curve
over = curve (pos span_limit ∷ []) 1

-- 1 to 16
unfoldable pub counting : Row
counting =
    pos 1 ∷ pos 2 ∷ pos 3 ∷ pos 4 ∷ pos 5 ∷ pos 6 ∷ pos 7 ∷ pos 8
    ∷ pos 9 ∷ pos 10 ∷ pos 11 ∷ pos 12 ∷ pos 13 ∷ pos 14 ∷ pos 15 ∷ pos 16 ∷ []

-- a call that gives a curve
unfoldable pub gives : (number : ℕ) → Result Curve → Curve → CurveEdge
gives i c r = record { number = i; given = of_curve (returned_curve c); wanted = of_curve (back 0 0 r) }

-- a call for a curve that is refused: all zeros
unfoldable pub refuses : (number : ℕ) → Result Curve → (refusal place : ℕ) → CurveEdge
refuses i c r p = record { number = i; given = of_curve (returned_curve c); wanted = of_curve (back r p (curve [] 0)) }

-- a call that gives a model in one variable
unfoldable pub gives_powers : (number : ℕ) → Result Model → (radius : ℕ) → Terms → CurveEdge
gives_powers i c e p = record {
  number = i;
  given = of_model (returned_model c);
  wanted = of_model (back 0 0 (model 1 e p));
}

-- a call for a model that is refused, at place 0: the zero model, and its n is 1
unfoldable pub refuses_powers : (number : ℕ) → Result Model → (refusal : ℕ) → CurveEdge
refuses_powers i c r = record {
  number = i;
  given = of_model (returned_model c);
  wanted = of_model (back r 0 (model 1 0 []));
}

-- a call that gives ends
unfoldable pub gives_ends : (number : ℕ) → Result Ends → (low high : ℤ) → CurveEdge
gives_ends i c l h = record { number = i; given = of_ends (returned_ends c); wanted = of_ends (back 0 0 (ends l h)) }

-- a call for ends that is refused, at place 0: both are 0
unfoldable pub refuses_ends : (number : ℕ) → Result Ends → (refusal : ℕ) → CurveEdge
refuses_ends i c r = record {
  number = i;
  given = of_ends (returned_ends c);
  wanted = of_ends (back r 0 (ends (pos 0) (pos 0)));
}

-- ---- the rows
-- all that they are written with
unfoldable pub row_forms : Unit {0}
unfolding
    curve_calls forms back curve at_degree at_degrees power full over counting
    gives refuses gives_powers refuses_powers gives_ends refuses_ends
row_forms = tt

-- every call of a table hands back what it must
abbrev pub Hold : List CurveEdge → Type 0
Hold l = map (λ e. e.given) l ≡ map (λ e. e.wanted) l

-- tests of one and of two curves, negatives, sums, differences
unfoldable pub sums_edges : List CurveEdge
sums_edges =
    -- a span above 2^30 gets 5: at place 0, at place 1, and at place 0 where both are; a span of 2^30 is one
    refuses 1 (call_negate over) 5 0
    ∷ refuses 2 (call_add full over) 5 1
    ∷ refuses 3 (call_multiply over over) 5 0
    ∷ refuses 4 (call_subtract over full) 5 0
    ∷ refuses_ends 5 (call_range over) 5
    ∷ refuses_powers 6 (call_to_powers over) 5
    ∷ gives 7 (call_negate full) (curve (minus span_limit ∷ []) 0)
    -- radii count
    ∷ refuses 8 (call_add (curve [] span_limit) (curve [] 1)) 7 0
    -- sums and differences above 2^30 get 7, after both 5
    ∷ refuses 9 (call_add full full) 7 0
    ∷ refuses 10 (call_subtract full (curve (minus 1 ∷ []) 0)) 7 0
    ∷ gives 11 (call_subtract full full) (curve [] 0)
    ∷ gives 12 (call_add (curve (pos 5 ∷ minus 3 ∷ []) 2) (curve (pos 1 ∷ pos 3 ∷ pos 4 ∷ []) 3))
    (curve (pos 6 ∷ pos 0 ∷ pos 4 ∷ []) 5)
    ∷ gives 13 (call_subtract (curve (pos 5 ∷ minus 3 ∷ []) 2) (curve (pos 1 ∷ pos 3 ∷ pos 4 ∷ []) 3))
    (curve (pos 4 ∷ minus 6 ∷ minus 4 ∷ []) 5)
    ∷ []

pub sums_hold : Hold sums_edges
unfolding row_forms sums_edges
sums_hold = refl

-- products of two curves, exact but for what is above degree 15
unfoldable pub products_edges : List CurveEdge
products_edges =
    -- T_0 × T_0, T_1 × T_1, T_15 × T_15: T_30 goes into the radius
    gives 14 (call_multiply (at_degree 0 (pos U)) (at_degree 0 (pos U))) (at_degree 0 (pos U))
    ∷ gives 15 (call_multiply (at_degree 1 (pos U)) (at_degree 1 (pos U))) (at_degrees 0 (pos 524288) 2 (pos 524288) 0)
    ∷ gives 16 (call_multiply (at_degree 15 (pos U)) (at_degree 15 (pos U))) (curve (pos 524288 ∷ []) 524288)
    -- T_0 × T_i, from either side: each T_i once
    ∷ gives 17 (call_multiply (at_degree 0 (pos U)) (curve counting 0)) (curve counting 0)
    ∷ gives 18 (call_multiply (curve counting 0) (at_degree 0 (pos U))) (curve counting 0)
    -- T_3 × T_5 and T_5 × T_3
    ∷ gives 19 (call_multiply (at_degree 3 (pos U)) (at_degree 5 (pos U))) (at_degrees 2 (pos 524288) 8 (pos 524288) 0)
    ∷ gives 20 (call_multiply (at_degree 5 (pos U)) (at_degree 3 (pos U))) (at_degrees 2 (pos 524288) 8 (pos 524288) 0)
    -- T_8 × T_8: T_16 is the first that goes into the radius; T_7 × T_8: T_15 is the last that is kept
    ∷ gives 59 (call_multiply (at_degree 8 (pos U)) (at_degree 8 (pos U))) (curve (pos 524288 ∷ []) 524288)
    ∷ gives 60 (call_multiply (at_degree 7 (pos U)) (at_degree 8 (pos U))) (at_degrees 1 (pos 524288) 15 (pos 524288) 0)
    ∷ []

pub products_hold : Hold products_edges
unfolding row_forms products_edges
products_hold = refl

-- products that are rounded
unfoldable pub rounding_edges : List CurveEdge
rounding_edges =
    -- halves go to the even coefficient, on both sides of 0; two halves make a whole unit of radius
    gives 21 (call_multiply (at_degree 1 (pos 1)) (at_degree 1 (pos U))) (curve [] 1)
    ∷ gives 22 (call_multiply (at_degree 1 (minus 1)) (at_degree 1 (pos U))) (curve [] 1)
    ∷ gives 23 (call_multiply (at_degree 1 (pos 3)) (at_degree 1 (pos U))) (at_degrees 0 (pos 2) 2 (pos 2) 1)
    ∷ gives 24 (call_multiply (at_degree 1 (minus 3)) (at_degree 1 (pos U))) (at_degrees 0 (minus 2) 2 (minus 2) 1)
    ∷ gives 25 (call_multiply (at_degree 1 (pos 5)) (at_degree 1 (pos U))) (at_degrees 0 (pos 2) 2 (pos 2) 1)
    ∷ gives 26 (call_multiply (at_degree 1 (minus 5)) (at_degree 1 (pos U))) (at_degrees 0 (minus 2) 2 (minus 2) 1)
    -- rounded after collecting: two halves meet at T_0, at T_1 and at T_3, and one half is lost at T_2 and at T_4
    ∷ gives 27 (call_multiply (at_degrees 1 (pos 1) 2 (pos 1) 0) (at_degrees 1 (pos U) 2 (pos U) 0))
    (curve (pos 1 ∷ pos 1 ∷ pos 0 ∷ pos 1 ∷ []) 1)
    -- T_9² - T_7² as a product: T_16 cancels and adds nothing, T_18 does not
    ∷ gives 28 (call_multiply (at_degrees 7 (pos U) 9 (pos U) 0) (at_degrees 7 (minus U) 9 (pos U) 0))
    (curve (replicate 14 (pos 0) ++ minus 524288 ∷ []) 524288)
    ∷ []

pub rounding_hold : Hold rounding_edges
unfolding row_forms rounding_edges
rounding_hold = refl

-- the radius of a product, and its span
unfoldable pub radius_edges : List CurveEdge
radius_edges =
    -- radii 2 and 3 without coefficients; each radius with the other's coefficients
    gives 29 (call_multiply (curve [] 2) (curve [] 3)) (curve [] 1)
    ∷ gives 30 (call_multiply (curve (pos U ∷ minus U ∷ []) 0) (curve [] 3)) (curve [] 6)
    ∷ gives 31 (call_multiply (curve [] 3) (curve (pos U ∷ minus U ∷ []) 0)) (curve [] 6)
    -- rounded up once: residuals of 1/4 and 1/4 with a small cross term, and with 1/4 above degree 15
    ∷ gives 32 (call_multiply (at_degree 1 (pos 1)) (curve (pos 0 ∷ pos 524288 ∷ []) 1)) (curve [] 1)
    ∷ gives 32 (call_multiply (at_degree 15 (pos 1)) (at_degree 15 (pos 524288))) (curve [] 1)
    -- a product over the span gets 7
    ∷ refuses 33 (call_multiply full (curve (pos U ∷ pos 1 ∷ []) 0)) 7 0
    ∷ gives 34 (call_multiply full (at_degree 0 (pos U))) full
    ∷ []

pub radius_hold : Hold radius_edges
unfolding row_forms radius_edges
radius_hold = refl

-- ranges
unfoldable pub ranges_edges : List CurveEdge
ranges_edges =
    -- the range: the constant counts, the sizes of all others do, and even degrees are not treated apart
    gives_ends 35 (call_range (curve (pos 4 ∷ minus 2 ∷ pos 1 ∷ []) 1)) (pos 0) (pos 8)
    ∷ gives_ends 36 (call_range (at_degree 2 (pos 3))) (minus 3) (pos 3)
    ∷ gives_ends 37 (call_range (at_degree 15 (minus 3))) (minus 3) (pos 3)
    ∷ gives_ends 38 (call_range (curve (minus 7 ∷ []) 0)) (minus 7) (minus 7)
    ∷ []

pub ranges_hold : Hold ranges_edges
unfolding row_forms ranges_edges
ranges_hold = refl

-- to powers
unfoldable pub in_powers_edges : List CurveEdge
in_powers_edges =
    -- to powers: zeros are dropped, the radius stays
    gives_powers 39 (call_to_powers (curve [] 5)) 5 []
    ∷ gives_powers 40 (call_to_powers (curve (pos 1 ∷ pos 0 ∷ pos 1 ∷ []) 5)) 5 (power 2 (pos 2))
    ∷ gives_powers 41 (call_to_powers (at_degree 3 (pos U))) 0 (power 1 (minus 3145728) ++ power 3 (pos 4194304))
    -- T_15 has 275,807 in powers: 3,893 units are within the span, one more is not
    ∷ gives_powers 42 (call_to_powers (at_degree 15 (pos 3893))) 0
    (power 1 (minus 58395) ++ power 3 (pos 2180080) ++ power 5 (minus 23544864) ++ power 7 (pos 112118400)
    ++ power 9 (minus 274067200) ++ power 11 (pos 358778880) ++ power 13 (minus 239185920)
    ++ power 15 (pos 63782912))
    ∷ refuses_powers 43 (call_to_powers (at_degree 15 (pos 3894))) 7
    -- the radius counts too, once: 3,893 units of T_15 leave 25,173
    ∷ gives_powers 61 (call_to_powers (curve (pos (span_limit - 1) ∷ []) 1)) 1 (power 0 (pos (span_limit - 1)))
    ∷ refuses_powers 62 (call_to_powers (at_degrees 15 (pos 3893) 0 (pos 0) 25174)) 7
    ∷ []

pub in_powers_hold : Hold in_powers_edges
unfolding row_forms in_powers_edges
in_powers_hold = refl

-- back from powers
unfoldable pub back_again_edges : List CurveEdge
back_again_edges =
    -- back: x^15 is exact where its coefficient is a multiple of 2^14, and one unit of it is all radius
    gives 44 (call_from_powers (model 1 0 (power 15 (pos 16384))))
    (curve (pos 0 ∷ pos 6435 ∷ pos 0 ∷ pos 5005 ∷ pos 0 ∷ pos 3003 ∷ pos 0 ∷ pos 1365 ∷ pos 0 ∷ pos 455 ∷ pos 0
    ∷ pos 105 ∷ pos 0 ∷ pos 15 ∷ pos 0 ∷ pos 1 ∷ []) 0)
    ∷ gives 45 (call_from_powers (model 1 0 (power 15 (pos 1)))) (curve [] 1)
    ∷ gives 46 (call_from_powers (model 1 4 [])) (curve [] 4)
    -- halves go to the even coefficient
    ∷ gives 47 (call_from_powers (model 1 0 (power 2 (pos 1)))) (curve [] 1)
    ∷ gives 48 (call_from_powers (model 1 0 (power 2 (pos 3)))) (at_degrees 0 (pos 2) 2 (pos 2) 1)
    ∷ gives 49 (call_from_powers (model 1 0 (power 2 (minus 3)))) (at_degrees 0 (minus 2) 2 (minus 2) 1)
    -- a large tie: -28738940.5 at T_2; the others leave 3/8 and 1/8
    ∷ gives 50 (call_from_powers (model 1 12345 (power 2 (minus 63182362) ++ power 4 (pos 5704481))))
    (curve (minus 29452001 ∷ pos 0 ∷ minus 28738940 ∷ pos 0 ∷ pos 713060 ∷ []) 12346)
    -- 7 by rounding alone: both halves of 2^30 - 1 go up
    ∷ refuses 51 (call_from_powers (model 1 0 (power 2 (pos (span_limit - 1))))) 7 0
    ∷ gives 52 (call_from_powers (model 1 0 (power 2 (pos span_limit))))
    (at_degrees 0 (pos 536870912) 2 (pos 536870912) 0)
    -- two variables get 13, but not before 5: a zero coefficient breaks a rule, and so does n = 0
    ∷ refuses 53 (call_from_powers (model 2 0 (term (pos 3) (2 ∷ 0 ∷ []) ∷ []))) 13 0
    ∷ refuses 54 (call_from_powers (model 2 0 (term (pos 0) (2 ∷ 0 ∷ []) ∷ []))) 5 0
    ∷ refuses 55 (call_from_powers (model 8 0 [])) 13 0
    ∷ refuses 56 (call_from_powers (model 0 0 [])) 5 0
    ∷ refuses 57 (call_from_powers (model 1 (span_limit + 1) [])) 5 0
    ∷ refuses 58 (call_from_powers (model 1 0 (power 16 (pos 1)))) 5 0
    ∷ []

pub back_again_hold : Hold back_again_edges
unfolding row_forms back_again_edges
back_again_hold = refl
