-- Short forms for tables of samples and edge cases.
use Rattle.std.specs.Prelude.{List, [], ◌∷◌, ℕ, ◌*◌, ℤ, pos, neg_ℤ}
use Rattle.polynomial.specs.Polynomial.{Term}
use Rattle.calculus.specs.Key.{key_width, short_key, key_exponents}
use Rattle.calculus.specs.Terms.{Terms}
use Rattle.calculus.specs.Model.{Model}
use Rattle.calculus.specs.Refusal.{Result, done}
use Rattle.calculus.specs.Operations.{Ends, Mixed}
use Rattle.calculus.specs.Book.{Step, Book, Summary}

-- the coefficient c at a key of n variables
unfoldable pub at_long_key : (n key : ℕ) → ℤ → Term ℤ
at_long_key n key c = record { coefficient = c; exponents = key_exponents key_width n key }

-- at a short key
unfoldable pub at_key : (n key : ℕ) → ℤ → Term ℤ
at_key n key = at_long_key n (key * short_key)

-- a model
unfoldable pub model : (n radius : ℕ) → Terms → Model
model n e p = record { vars = n; radius = e; terms = p }

-- a book of order d
unfoldable pub book : (n d : ℕ) → List Model → List Step → Book
book n d ms l = record { vars = n; order = d; models = ms; steps = l }

-- from low to high
unfoldable pub ends : ℤ → ℤ → Ends
ends l h = record { low = l; high = h }

-- minus a natural number
unfoldable pub minus : ℕ → ℤ
minus n = neg_ℤ (pos n)

-- q and r
unfoldable pub mixed : ℤ → ℕ → Mixed
mixed q r = record { quotient = q; remainder = r }

-- accepted, with a model, its range, its integral, q and r
unfoldable pub gives : Model → Ends → Ends → Mixed → Result Summary
gives m r i x = done (record { model = m; range = r; integral = i; exact = x })

-- 5 + 3x
unfoldable pub line : Model
line = model 1 0 (at_key 1 0x0000 (pos 5) ∷ at_key 1 0x1000 (pos 3) ∷ [])

-- all of them, for facts that compute
unfoldable pub forms : Unit {0}
unfolding at_long_key at_key model book ends minus mixed gives line
forms = tt
