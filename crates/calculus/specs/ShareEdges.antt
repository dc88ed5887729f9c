-- Books with the rows that they report: shares that stand alone and beside others, and rows that are zeros.
use Rattle.std.specs.Prelude.{◌≡◌, refl, List, [], ◌∷◌, map, ℕ, ◌*◌, ℤ, pos, get_or, replicate}
use Rattle.numbers.specs.Fixed.{U}
use Rattle.calculus.specs.Model.{Model}
use Rattle.calculus.specs.Book.{Step, input, constant, negate, add, subtract, multiply, substitute}
use Rattle.calculus.specs.Book.{sweep, quotient, antiderivative, Book}
use Rattle.calculus.specs.Shares.{Shares, no_shares, all_rows, shares_rows}
use Rattle.calculus.specs.Computing.{reports}
use Rattle.calculus.specs.Forms.{at_key, model, book, minus, forms}

-- a row of the table: a book, and the rows that it must report before those of zeros
pub record ShareEdge : Type 0 where
  pub book : Book
  pub rows : List Shares

-- ---- short forms
-- carried, rounding, swept, slack
unfoldable pub shares : (carried rounding swept slack : ℕ) → Shares
shares c r s k = record { carried = c; rounding = r; swept = s; slack = k }

-- a book of order d in one variable, and its rows
unfoldable pub row_of : (d : ℕ) → List Model → List Step → List Shares → ShareEdge
row_of d ms l rows = record { book = book 1 d ms l; rows = rows }

-- a constant with a radius
unfoldable pub flat : (e : ℕ) (c : ℤ) → Model
flat e c = model 1 e (at_key 1 0x0000 c ∷ [])

-- c + b x with a radius
unfoldable pub sloped : (e : ℕ) (c b : ℤ) → Model
sloped e c b = model 1 e (at_key 1 0x0000 c ∷ at_key 1 0x1000 b ∷ [])

-- the product of two models at order d: what the inputs carry, and the row of the product
unfoldable pub product_row : (d : ℕ) (f g : Model) → Shares → ShareEdge
product_row d f g s = row_of d (f ∷ g ∷ []) (input 0 ∷ input 1 ∷ multiply 0 1 ∷ [])
    (shares (U * f.radius) 0 0 0 ∷ shares (U * g.radius) 0 0 0 ∷ s ∷ [])

-- g in the place of x in f, at order 2
unfoldable pub substitution_row : (f g : Model) → Shares → ShareEdge
substitution_row f g s = row_of 2 (f ∷ g ∷ []) (input 0 ∷ input 1 ∷ substitute 0 1 1 ∷ [])
    (shares (U * f.radius) 0 0 0 ∷ shares (U * g.radius) 0 0 0 ∷ s ∷ [])

-- ---- the table
unfoldable pub share_edges : List ShareEdge
share_edges =
    -- products with one share alone: A × e2, B × e1, e1 × e2, rounding, swept
    product_row 1 (flat 0 (pos 1048576)) (flat 5 (pos 1048576)) (shares 5242880 0 0 0)
    ∷ product_row 1 (flat 3 (pos 1048576)) (flat 0 (pos 1048576)) (shares 3145728 0 0 0)
    ∷ product_row 1 (model 1 1024 []) (model 1 1024 []) (shares 1048576 0 0 0)
    ∷ product_row 1 (sloped 0 (pos 1) (pos 1)) (flat 0 (pos 524288)) (shares 0 1048576 0 0)
    ∷ product_row 1 (model 1 0 (at_key 1 0x1000 (pos 1048576) ∷ [])) (model 1 0 (at_key 1 0x1000 (pos 1048576) ∷ []))
    (shares 0 0 1099511627776 0)
    -- each beside slack
    ∷ product_row 1 (model 1 1 []) (model 1 1 []) (shares 1 0 0 1048575)
    ∷ product_row 1 (flat 0 (pos 1)) (flat 0 (pos 524288)) (shares 0 524288 0 524288)
    ∷ product_row 1 (model 1 0 (at_key 1 0x1000 (pos 1) ∷ [])) (model 1 0 (at_key 1 0x1000 (minus 1) ∷ []))
    (shares 0 0 1 1048575)
    -- all four: A = 5, B = 12, e1 = 1, e2 = 2; z is 21, -1 and, above the order, -10
    ∷ product_row 1 (sloped 1 (pos 3) (pos 2)) (sloped 2 (pos 7) (minus 5)) (shares 24 22 10 1048520)
    ∷ product_row 2 (sloped 1 (pos 3) (pos 2)) (sloped 2 (pos 7) (pos 5)) (shares 24 60 0 1048492)
    -- nothing at all
    ∷ product_row 1 (model 1 0 []) (flat 7 (pos 9)) (shares 0 0 0 0)
    -- a substitution without the variable makes no product; with one; with two, of which it reports the last
    ∷ substitution_row (flat 3 (pos 9)) (flat 1 (pos 5)) (shares 3145728 0 0 0)
    ∷ substitution_row (model 1 1 (at_key 1 0x1000 (pos 524288) ∷ [])) (flat 2 (pos 3)) (shares 2097152 524288 0 524288)
    ∷ substitution_row (model 1 4 (at_key 1 0x2000 (pos 1048576) ∷ [])) (flat 1 (pos 524288))
    (shares 5242881 0 0 1048575)
    -- with three, and with two of which the last has all four shares
    ∷ row_of 3 (model 1 4 (at_key 1 0x3000 (pos 1048576) ∷ []) ∷ flat 1 (pos 524288) ∷ [])
    (input 0 ∷ input 1 ∷ substitute 0 1 1 ∷ [])
    (shares 4194304 0 0 0 ∷ shares 1048576 0 0 0 ∷ shares 5505026 0 0 786430 ∷ [])
    ∷ substitution_row (model 1 1 (at_key 1 0x2000 (pos 1048576) ∷ []))
    (model 1 2 (at_key 1 0x0000 (pos 1) ∷ at_key 1 0x2000 (pos 524288) ∷ []))
    (shares 3145736 1 274877906944 1048567)
    -- a sweep: the old radius, and what is dropped, which at 2 is nothing
    ∷ row_of 2 (model 1 4 (at_key 1 0x0000 (pos 2) ∷ at_key 1 0x1000 (minus 3) ∷ at_key 1 0x2000 (pos 5) ∷ []) ∷ [])
    (input 0 ∷ sweep 0 (pos 3) ∷ sweep 0 (pos 5) ∷ sweep 0 (pos 2) ∷ [])
    (shares 4194304 0 0 0 ∷ shares 4194304 0 3145728 0 ∷ shares 4194304 0 8388608 0 ∷ shares 4194304 0 0 0 ∷ [])
    -- running litres: 3x gives one inexact division, 5x^2 is swept as 2
    ∷ row_of 2 (model 1 1 (at_key 1 0x1000 (pos 3) ∷ at_key 1 0x2000 (pos 5) ∷ []) ∷ [])
    (input 0 ∷ antiderivative 0 1 ∷ [])
    (shares 1048576 0 0 0 ∷ shares 1048576 1048576 2097152 0 ∷ [])
    -- x / 2 rounds to 0: it is rounded, and not swept
    ∷ row_of 2 (model 1 1 (at_key 1 0x1000 (pos 1) ∷ []) ∷ []) (input 0 ∷ antiderivative 0 1 ∷ [])
    (shares 1048576 0 0 0 ∷ shares 1048576 1048576 0 0 ∷ [])
    -- all carried: a sign, a sum, a quotient with the radius 1, and a difference
    ∷ row_of 1 (flat 1 (pos 1048576) ∷ [])
    (input 0 ∷ negate 0 ∷ add 0 0 ∷ constant (pos 1048576) ∷ constant (pos 1048575) ∷ quotient 3 3 4 3
    ∷ subtract 0 1 ∷ [])
    (shares 1048576 0 0 0 ∷ shares 1048576 0 0 0 ∷ shares 2097152 0 0 0 ∷ no_shares ∷ no_shares
    ∷ shares 1048576 0 0 0 ∷ shares 2097152 0 0 0 ∷ [])
    -- the third step leaves the span: it reports zeros, and so does the fourth
    ∷ row_of 1 (flat 1 (pos 1073741823) ∷ [])
    (input 0 ∷ negate 0 ∷ add 0 0 ∷ negate 0 ∷ [])
    (shares 1048576 0 0 0 ∷ shares 1048576 0 0 0 ∷ [])
    -- a product that is refused
    ∷ row_of 1 (flat 1 (pos 1073741823) ∷ []) (input 0 ∷ multiply 0 0 ∷ [])
    (shares 1048576 0 0 0 ∷ [])
    -- substitutions that are refused: by 9, and after their product by the last addition of the radius of f, which is 7
    ∷ row_of 1 (model 1 3 (at_key 1 0x1000 (pos 1) ∷ []) ∷ flat 1 (pos 1048576) ∷ [])
    (input 0 ∷ input 1 ∷ substitute 0 1 1 ∷ negate 0 ∷ [])
    (shares 3145728 0 0 0 ∷ shares 1048576 0 0 0 ∷ [])
    ∷ row_of 1 (model 1 1073741823 (at_key 1 0x1000 (pos 1) ∷ []) ∷ flat 1 (pos 1048575) ∷ [])
    (input 0 ∷ input 1 ∷ substitute 0 1 1 ∷ negate 1 ∷ [])
    (shares (U * 1073741823) 0 0 0 ∷ shares 1048576 0 0 0 ∷ [])
    -- a model with a coefficient 0, which is 5; a step that names itself, which is 6; an order that is none, which is 3
    ∷ row_of 1 (flat 1 (pos 0) ∷ []) (input 0 ∷ []) []
    ∷ row_of 1 (flat 1 (pos 1) ∷ []) (input 0 ∷ negate 1 ∷ []) []
    ∷ row_of 0 (flat 1 (pos 1) ∷ []) (input 0 ∷ []) []
    -- 64 steps
    ∷ row_of 1 (flat 1 (pos 1) ∷ []) (replicate 64 (input 0)) (replicate 64 (shares 1048576 0 0 0)) ∷ []

-- the short forms, for facts that compute
unfoldable pub share_forms : Unit {0}
unfolding forms shares row_of flat sloped product_row substitution_row share_edges
share_forms = tt

-- the row of the first step of each book
pub first_rows_stand : map (λ e. get_or (shares_rows e.book) 0 no_shares) share_edges
    ≡ map (λ e. get_or e.rows 0 no_shares) share_edges
unfolding reports share_forms
first_rows_stand = refl

-- the row of the third, which most of them are about
pub third_rows_stand : map (λ e. get_or (shares_rows e.book) 2 no_shares) share_edges
    ≡ map (λ e. get_or e.rows 2 no_shares) share_edges
unfolding reports share_forms
third_rows_stand = refl

-- each book reports its rows, with zeros after them
pub shares_stand :
    map (λ e. shares_rows e.book) share_edges ≡ map (λ e. all_rows e.rows) share_edges
unfolding reports share_forms
shares_stand = refl
