-- What is claimed of the cut range; CutClaimProof proves it of every accepted call (`cut_claim`), that the pieces are
-- all of the box (`in_a_piece`), that depth 0 answers the range (`uncut`), and that no call is refused with 9
-- (`never_leaves`). It rests on the definitions that claim/Claim names, and on Cuts.
use Rattle.std.specs.Prelude.{◌≡◌, ℕ, ◌^◌, ◌<◌, pos, ◌≤ℤ◌}
use Rattle.algebra.specs.Ordered.{abs}
use Rattle.algebra.proofs.Rational.{ℚ, ◌+ℚ◌, ◌*ℚ◌, whole, ◌≤ℚ◌}
use Rattle.algebra.proofs.RationalOrder.{ℚO}
use Rattle.numbers.specs.Fixed.{U}
use Rattle.calculus.specs.Model.{Model, Point, InBox, Within}
use Rattle.calculus.specs.Operations.{Ends, range}
use Rattle.calculus.specs.Functions.{Function, Lies}
use Rattle.cuts.specs.Cuts.{half_width, piece_middle}

-- of a model f whose cut range is e
pub record CutClaim (f : Model) (e : Ends) : Type 0 where
  -- every function within the model stays inside: at every point of the box its value times U is at least the low and
  -- at most the high end
  pub stays_inside : (F : Function) → Within F f → (x : Point) → InBox f.vars x → Lies (F x) e
  -- the answer lies inside the undivided range
  pub low_inside : (range f).low ≤ℤ e.low
  pub high_inside : e.high ≤ℤ (range f).high
  -- and is not empty
  pub not_empty : e.low ≤ℤ e.high

-- of a coordinate y: it lies in a piece, there are a j and a fraction t from -1 to 1 at which that piece is y
pub record InAPiece (k : ℕ) (y : ℚ) : Type 0 where
  pub j : ℕ
  pub t : ℚ
  pub is_piece : j < 2 ^ k
  pub in_box : abs ℚO t ≤ℚ whole (pos 1)
  pub is_there : whole (pos U) *ℚ y ≡ whole (piece_middle k j) +ℚ whole (pos (half_width k)) *ℚ t
