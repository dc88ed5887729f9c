-- The operations on models, each with its refusals.
use Rattle.std.specs.Prelude.{Bool, true, false, not, ◌&&◌, List, [], ◌∷◌, ◌++◌, ℕ, zero, suc, ◌+◌, ◌-◌, ◌*◌, ◌/◌, ◌%◌, ◌^◌, max, eqb, leb, ltb, ℤ, pos, neg_ℤ, ◌+ℤ◌, ◌-ℤ◌, ◌*ℤ◌, nat_abs, length}
use Rattle.std.specs.Int.Signed.{le_z}
use Rattle.numbers.specs.algebra.IntegerRing.{ℤR}
use Rattle.polynomial.specs.Polynomial.{product, exponent, without, raise}
use Rattle.polynomial.specs.Integral.{all_even, divisor}
use Rattle.numbers.specs.Division.{floor, ceiling, remainder, divided_up, nearest}
use Rattle.numbers.specs.Fixed.{U, span_limit, round, residual, round_up}
use Rattle.calculus.specs.Monomial.{degree, zeros, single, index_of}
use Rattle.calculus.specs.Terms.{Terms, term, select, sum_ℕ, sum_ℤ, size, map_coefficients, map_terms}
use Rattle.calculus.specs.Terms.{map_monomials, drop_zeros, collect}
use Rattle.calculus.specs.Model.{Model, one_model, most_degree, most_terms, span}
use Rattle.calculus.specs.Refusal.{over_span, too_many_terms, leaves_box, uncertified, Answer, accepted, require}
use Rattle.calculus.specs.Refusal.{◌then◌}

-- after every sum and product: 8 for more than 64 terms, then 7 for a span above 2^30
unfoldable pub limited : Model → Answer Model
limited m =
    require (leb (length m.terms) most_terms) too_many_terms
    (require (leb (span m) span_limit) over_span
    (accepted m))

-- ---- constant, variable, negate, add, subtract
-- one term of key 0, or none if v is 0
unfoldable pub constant : (n : ℕ) (v : ℤ) → Model
constant n v = record { vars = n; radius = 0; terms = drop_zeros (term v (zeros n) ∷ []) }

-- one term, coefficient U
unfoldable pub variable : (n i : ℕ) → Model
variable n i = record { vars = n; radius = 0; terms = term (pos U) (single n i) ∷ [] }

-- all signs turned
unfoldable pub negate : Model → Model
negate f = record { vars = f.vars; radius = f.radius; terms = map_coefficients neg_ℤ f.terms }

-- coefficients of equal monomials added, zeros dropped, radii added
unfoldable pub add : (f g : Model) → Answer Model
add f g = limited (record {
  vars = f.vars;
  radius = f.radius + g.radius;
  terms = drop_zeros (collect (f.terms ++ g.terms));
})

-- add the negated second
unfoldable pub subtract : (f g : Model) → Answer Model
subtract f g = add f (negate g)

-- ---- multiply, with order d
-- z for each monomial: the sum of all products of one coefficient from each side that meet there
unfoldable pub products : (f g : Model) → Terms
products f g = collect (product ℤR f.terms g.terms)

-- of degree at most d
unfoldable pub within_order : (d : ℕ) → Terms → Terms
within_order d = select (λ k z. leb (degree k) d)

-- of degree above d
unfoldable pub above_order : (d : ℕ) → Terms → Terms
above_order d = select (λ k z. not (leb (degree k) d))

-- degree at most d: the coefficient becomes c, which is z / U rounded
unfoldable pub kept : (d : ℕ) → Terms → Terms
kept d zs = map_coefficients round (within_order d zs)

-- and |z - c × U| goes into E
unfoldable pub rounding : (d : ℕ) → Terms → ℕ
rounding d zs = sum_ℕ (λ k z. residual z) (within_order d zs)

-- degree above d: |z| goes into E
unfoldable pub swept : (d : ℕ) → Terms → ℕ
swept d zs = size (above_order d zs)

-- added to E: A × e2, B × e1 and e1 × e2
unfoldable pub carried : (f g : Model) → ℕ
carried f g = size f.terms * g.radius + size g.terms * f.radius + f.radius * g.radius

-- E
unfoldable pub error : (d : ℕ) (f g : Model) → ℕ
error d f g = carried f g + rounding d (products f g) + swept d (products f g)

-- by how much the new radius times U exceeds E
unfoldable pub slack : (d : ℕ) (f g : Model) → ℕ
slack d f g = U * round_up (error d f g) - error d f g

-- new radius: E / U rounded up; zero coefficients are dropped
unfoldable pub multiply : (d : ℕ) (f g : Model) → Answer Model
multiply d f g = limited (record {
  vars = f.vars;
  radius = round_up (error d f g);
  terms = drop_zeros (kept d (products f g));
})

-- ---- range
-- the ends of a range or an integral
pub record Ends : Type 0 where
  pub low : ℤ
  pub high : ℤ

-- both 0
unfoldable pub zero_ends : Ends
zero_ends = record { low = pos 0; high = pos 0 }

-- the monomial of key 0
unfoldable pub is_constant : List ℕ → Bool
is_constant k = eqb (degree k) 0

-- the constant coefficient
unfoldable pub constant_part : Model → ℤ
constant_part m = sum_ℤ (λ k c. c) (select (λ k c. is_constant k) m.terms)

-- all exponents are even: such a term, if it is not the constant, counts as lying between 0 and c; any other between
-- -|c| and |c|
unfoldable pub even_powers : List ℕ → Bool
even_powers k = all_even (length k) k

-- so it can lie below 0 unless it is even and c is not below 0
unfoldable pub can_fall : List ℕ → ℤ → Bool
can_fall k c = not (is_constant k) && not (even_powers k && le_z (pos 0) c)

-- and above 0 unless it is even and c is not above 0
unfoldable pub can_rise : List ℕ → ℤ → Bool
can_rise k c = not (is_constant k) && not (even_powers k && le_z c (pos 0))

-- the sum of the |c| that can lie below 0, and e
unfoldable pub below : Model → ℕ
below m = size (select can_fall m.terms) + m.radius

-- the sum of the |c| that can lie above 0, and e
unfoldable pub above : Model → ℕ
above m = size (select can_rise m.terms) + m.radius

-- the constant coefficient, minus the one sum and plus the other
unfoldable pub range : Model → Ends
range m = record { low = constant_part m -ℤ pos (below m); high = constant_part m +ℤ pos (above m) }

-- ---- substitute g for variable i in f, with order d
-- the range lies from -U to U
unfoldable pub range_in_box : Model → Bool
range_in_box g = le_z (neg_ℤ (pos U)) (range g).low && le_z (range g).high (pos U)

-- K: the largest exponent of variable i
unfoldable pub largest_exponent : (i : ℕ) → Terms → ℕ
largest_exponent i [] = 0
largest_exponent i (t ∷ p) = max (exponent (index_of i) t.exponents) (largest_exponent i p)

-- what multiplies the k-th power of variable i
unfoldable pub part_terms : (i k : ℕ) → Terms → Terms
part_terms i k p = map_monomials (without (index_of i)) (select (λ j c. eqb (exponent (index_of i) j) k) p)

-- f_k, radius 0
unfoldable pub part : (i k : ℕ) (f : Model) → Model
part i k f = record { vars = f.vars; radius = 0; terms = part_terms i k f.terms }

-- h holds the powers from k up; for each power below, downwards: multiply by g with order d, add its part
unfoldable pub horner : (d i : ℕ) (f g : Model) (k : ℕ) → Model → Answer Model
horner d i f g zero h = accepted h
horner d i f g (suc k) h = multiply d h g then (λ p. add p (part i k f)) then horner d i f g k

-- e added to the radius
unfoldable pub widen : (e : ℕ) → Model → Answer Model
widen e m = limited (record { vars = m.vars; radius = m.radius + e; terms = m.terms })

-- the range of g must lie in the box; start with f_K, go down to f_0; last, add the radius of f
unfoldable pub substitute : (d i : ℕ) (f g : Model) → Answer Model
substitute d i f g =
    let K = largest_exponent i f.terms in
    require (range_in_box g) leaves_box (horner d i f g K (part i K f) then widen f.radius)

-- ---- sweep, with threshold t
-- a term other than the constant one with |c| at most t
unfoldable pub is_small : (t : ℕ) → List ℕ → ℤ → Bool
is_small t k c = not (is_constant k) && leb (nat_abs c) t

-- such terms dropped and their |c| added to the radius
unfoldable pub sweep : (t : ℕ) → Model → Model
sweep t f = record {
  vars = f.vars;
  radius = f.radius + size (select (is_small t) f.terms);
  terms = select (λ k c. not (is_small t k c)) f.terms;
}

-- ---- integral over the box, term by term
-- a term with any odd exponent gives 0, others c × 2^n divided by the product of (exponent + 1), each rounded by a rule
unfoldable pub integral_sum : (ℤ → ℕ → ℤ) → Model → ℤ
integral_sum rule m =
    sum_ℤ (λ k c. rule (c *ℤ pos (2 ^ m.vars)) (divisor m.vars k)) (select (λ k c. all_even m.vars k) m.terms)

-- low: each rounded down, minus 2^n × e; high: each rounded up, plus 2^n × e
unfoldable pub term_by_term : Model → Ends
term_by_term m = record {
  low = integral_sum floor m -ℤ pos (2 ^ m.vars * m.radius);
  high = integral_sum ceiling m +ℤ pos (2 ^ m.vars * m.radius);
}

-- ---- integral over the box, with its remainder (request 7)
-- it serves every even term of degree at most 15 in four variables
unfoldable pub common_denominator : ℕ
common_denominator = 212837625

-- up to so many variables
abbrev pub exact_vars : ℕ
exact_vars = 4

-- whether it serves models in n variables: above, the term-by-term rule stays (request 9)
unfoldable pub has_exact : (n : ℕ) → Bool
has_exact n = leb n exact_vars

-- the polynomial part's integral times that: a term with any odd exponent gives 0, others c × 2^n × that divided by the
-- product of (exponent + 1), which leaves nothing
unfoldable pub integral_parts : Model → ℤ
integral_parts m =
    sum_ℤ (λ k c. c *ℤ pos (2 ^ m.vars * (common_denominator / divisor m.vars k)))
    (select (λ k c. all_even m.vars k) m.terms)

-- q and r: the number q + r / 212,837,625
pub record Mixed : Type 0 where
  pub quotient : ℤ
  pub remainder : ℕ

-- both 0
unfoldable pub zero_mixed : Mixed
zero_mixed = record { quotient = pos 0; remainder = 0 }

-- the polynomial part's integral, in units: q is rounded down, r from 0 to 212,837,624
unfoldable pub mixed_part : Model → Mixed
mixed_part m = record {
  quotient = floor (integral_parts m) common_denominator;
  remainder = remainder (integral_parts m) common_denominator;
}

-- above four variables q and r are 0
unfoldable pub exact_part : Model → Mixed
exact_part m = elim (has_exact m.vars) [ true ↦ mixed_part m | false ↦ zero_mixed ]

-- 1 if r is not 0
unfoldable pub one_if_any : ℕ → ℕ
one_if_any r = elim (eqb r 0) [ true ↦ 0 | false ↦ 1 ]

-- low: q - 2^n × e; high: q + 2^n × e, plus 1 if r is not 0
unfoldable pub exact_ends : Model → Ends
exact_ends m = record {
  low = (mixed_part m).quotient -ℤ pos (2 ^ m.vars * m.radius);
  high = (mixed_part m).quotient +ℤ pos (2 ^ m.vars * m.radius) +ℤ pos (one_if_any (mixed_part m).remainder);
}

-- above four variables the ends of the term-by-term rule
unfoldable pub integral : Model → Ends
integral m = elim (has_exact m.vars) [ true ↦ exact_ends m | false ↦ term_by_term m ]

-- what a call answers: the ends, and the polynomial part's integral with its remainder
pub record Integral : Type 0 where
  pub ends : Ends
  pub exact : Mixed

-- both 0
unfoldable pub zero_integral : Integral
zero_integral = record { ends = zero_ends; exact = zero_mixed }

-- of a model
unfoldable pub whole_integral : Model → Integral
whole_integral m = record { ends = integral m; exact = exact_part m }

-- ---- evaluate at whole numbers X_1 .. X_n, standing for X_i/U
-- the constants X_i, X_(i+1), .. put in for variables i, i + 1, .., order 15
unfoldable pub put_constants : (i : ℕ) → List ℤ → Model → Answer Model
put_constants i [] m = accepted m
put_constants i (X ∷ Xs) m = substitute most_degree i m (constant m.vars X) then put_constants (suc i) Xs

-- the range of what is left
unfoldable pub evaluate : List ℤ → Model → Answer Ends
evaluate Xs m = put_constants 1 Xs m then (λ r. accepted (range r))

-- ---- quotient f / g, checked from a proposal h, w, with order d (request 1)
-- used without its radius
unfoldable pub bare : Model → Model
bare m = record { vars = m.vars; radius = 0; terms = m.terms }

-- w × (g × h - f)
unfoldable pub defect : (d : ℕ) (f g h w : Model) → Answer Model
defect d f g h w = multiply d g (bare h) then (λ p. subtract p f) then multiply d (bare w)

-- 1 - w × g
unfoldable pub deviation : (d : ℕ) (g w : Model) → Answer Model
deviation d g w = multiply d (bare w) g then subtract (one_model g.vars)

-- the largest size of the ends of a range
unfoldable pub largest_end : Ends → ℕ
largest_end e = max (nat_abs e.low) (nat_abs e.high)

-- beta, mu: that of a form's range
unfoldable pub largest_value : Model → ℕ
largest_value m = largest_end (range m)

-- beta × U / (U - mu) rounded up
unfoldable pub quotient_radius : (beta mu : ℕ) → ℕ
quotient_radius beta mu = divided_up (beta * U) (U - mu)

-- 12 when mu is U or more; the polynomial of h with that radius, then 7 for its own span
unfoldable pub certified : (h : Model) (beta mu : ℕ) → Answer Model
certified h beta mu = require (ltb mu U) uncertified (widen (quotient_radius beta mu) (bare h))

-- the two forms are worked out in this order
unfoldable pub quotient : (d : ℕ) (f g h w : Model) → Answer Model
quotient d f g h w =
    defect d f g h w then (λ y. deviation d g w then (λ z. certified h (largest_value y) (largest_value z)))

-- ---- antiderivative in variable i, zero wherever that variable is 0, with order d (request 4)
-- the terms of f with the exponent of variable i one higher, their coefficients as they were
unfoldable pub raised : (i : ℕ) → Model → Terms
raised i f = map_monomials (raise (index_of i)) f.terms

-- c divided by k, the exponent of variable i, to the nearest with ties to even
unfoldable pub divided : (i : ℕ) → Terms → Terms
divided i = map_terms (λ j c. nearest c (exponent (index_of i) j))

-- k does not divide c
unfoldable pub is_inexact : (i : ℕ) → List ℕ → ℤ → Bool
is_inexact i j c = not (eqb (nat_abs c % exponent (index_of i) j) 0)

-- 1 for each inexact division among terms whose new degree is at most d, those that round to zero included
unfoldable pub growth_rounding : (d i : ℕ) → Model → ℕ
growth_rounding d i f = sum_ℕ (λ j c. 1) (select (is_inexact i) (within_order d (raised i f)))

-- |c| / k rounded up for each term above d, which is swept
unfoldable pub growth_swept : (d i : ℕ) → Model → ℕ
growth_swept d i f = sum_ℕ (λ j c. divided_up (nat_abs c) (exponent (index_of i) j)) (above_order d (raised i f))

-- zeros dropped; the radius grows by both
unfoldable pub antiderivative : (d i : ℕ) → Model → Model
antiderivative d i f = record {
  vars = f.vars;
  radius = f.radius + growth_rounding d i f + growth_swept d i f;
  terms = drop_zeros (divided i (within_order d (raised i f)));
}
