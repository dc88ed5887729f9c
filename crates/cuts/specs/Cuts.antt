-- Narrower ranges by cutting the box (request 11): a variable is cut into 2^k equal pieces.
use Rattle.std.specs.Prelude.{true, false, [], ◌∷◌, ℕ, zero, suc, ◌+◌, ◌-◌, ◌*◌, ◌/◌, ◌^◌, leb, ℤ, pos, neg_ℤ, ◌+ℤ◌}
use Rattle.std.specs.Int.Signed.{le_z}
use Rattle.numbers.specs.Fixed.{U}
use Rattle.calculus.specs.Monomial.{zeros, single}
use Rattle.calculus.specs.Terms.{term, drop_zeros}
use Rattle.calculus.specs.Model.{Model, sound}
use Rattle.calculus.specs.Refusal.{bad_limits, bad_model, bad_step, cut_too_deep, Answer, accepted, ◌then◌}
use Rattle.calculus.specs.Refusal.{Result, done, at_place, require_at, ◌followed_by◌}
use Rattle.calculus.specs.Operations.{Ends, range, substitute}
use Rattle.calculus.specs.Tests.{order_sound, variable_sound}

-- ---- two pairs of ends
-- the smaller of two numbers
unfoldable pub smaller : ℤ → ℤ → ℤ
smaller a b = elim (le_z a b) [ true ↦ a | false ↦ b ]

-- the larger
unfoldable pub larger : ℤ → ℤ → ℤ
larger a b = elim (le_z a b) [ true ↦ b | false ↦ a ]

-- from the smaller low end to the larger high end
unfoldable pub hull : Ends → Ends → Ends
hull e f = record { low = smaller e.low f.low; high = larger e.high f.high }

-- what both cover: from the larger low end to the smaller high end
unfoldable pub overlap : Ends → Ends → Ends
overlap e f = record { low = larger e.low f.low; high = smaller e.high f.high }

-- ---- the pieces of a variable
-- k is at most 6
unfoldable pub most_depth : ℕ
most_depth = 6

-- half the width of a piece: 2^(20-k), which is U / 2^k
unfoldable pub half_width : (k : ℕ) → ℕ
half_width k = U / 2 ^ k

-- the middle of piece j, from 0: -U + (2j + 1) × 2^(20-k)
unfoldable pub piece_middle : (k j : ℕ) → ℤ
piece_middle k j = neg_ℤ (pos U) +ℤ pos ((2 * j + 1) * half_width k)

-- what is put in for variable i of n: that constant plus 2^(20-k) times the variable; a constant of 0 gives no term
unfoldable pub piece : (n i k j : ℕ) → Model
piece n i k j = record {
  vars = n;
  radius = 0;
  terms = drop_zeros (term (piece_middle k j) (zeros n) ∷ term (pos (half_width k)) (single n i) ∷ []);
}

-- ---- the cut range of f, with order d
-- the range over piece j
unfoldable pub piece_range : (d i k : ℕ) (f : Model) (j : ℕ) → Answer Ends
piece_range d i k f j = substitute d i f (piece f.vars i k j) then (λ m. accepted (range m))

-- h covers the pieces before j; then the next c pieces, of which the first that is refused gives j as place
unfoldable pub hull_from : (d i k : ℕ) (f : Model) (j c : ℕ) → Ends → Result Ends
hull_from d i k f j zero h = done h
hull_from d i k f j (suc c) h =
    at_place j (piece_range d i k f j) followed_by (λ e. hull_from d i k f (suc j) c (hull h e))

-- from the smallest low end to the largest high end of the 2^k pieces
unfoldable pub pieces_hull : (d i k : ℕ) (f : Model) → Result Ends
pieces_hull d i k f = at_place 0 (piece_range d i k f 0) followed_by hull_from d i k f 1 (2 ^ k - 1)

-- its overlap with the undivided range
unfoldable pub cut_range : (d i k : ℕ) (f : Model) → Result Ends
cut_range d i k f = pieces_hull d i k f followed_by (λ h. done (overlap (range f) h))

-- ---- the call
-- 3, 5 with the order, 6, 14, then the first refused piece
unfoldable pub call_cut_range : (d i k : ℕ) (f : Model) → Result Ends
call_cut_range d i k f =
    require_at 0 (order_sound d) bad_limits
    (require_at 0 (sound d f) bad_model
    (require_at 0 (variable_sound f.vars i) bad_step
    (require_at 0 (leb k most_depth) cut_too_deep
    (cut_range d i k f))))
