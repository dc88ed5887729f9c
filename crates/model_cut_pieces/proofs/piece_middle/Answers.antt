use mathlib.Core.Path.{◌≡◌, sym, ◌∙◌, ap, ap₂, subst}
use Prim.Native.Nat.{ℕ, ◌+◌, ◌*◌, ◌^◌, ◌≤◌, ◌<◌}
use native.Mathlib.Omega.{arith}
use borrow.Author.Rules.{rules}
use lib.IntN.{ℤ, pos, neg_ℤ, ◌+ℤ◌, nat_abs}
use mir.Syntax.{w64}
use mir.Val.{to_z, of_z}
use Rattle.algebra.specs.Integer.{natAbs_neg}
use Rattle.numbers.specs.Fixed.{U}
use Rattle.numbers.proofs.FixedLaws.{U_within, span_fits}
use Rattle.fixed.specs.MachineLaws.{answered}
use Rattle.cuts.specs.Cuts.{half_width, piece_middle}
use Rattle.model_cut_pieces.specs.PieceStructLaws.{few_pieces, odd_room}
use Rattle.model_cut_pieces.proofs.piece_middle.Goals as goal
use Rattle.model_cut_pieces.proofs.piece_middle.Goals.{After-negated-left}

-- the left end of the box, and how far from it the middle lies
module _ (c : After-negated-left) where
  abbrev odd : ℕ
  odd = 2 * c.args.j + 1

  left_is : to_z w64 (of_z w64 c.negated-left.result) ≡ neg_ℤ (pos U)
  left_is = let u = c.unit-unit in
      answered c.negated-left.type_inv c.negated-left.ensures ∙ ap neg_ℤ (answered u.type_inv u.ensures)

  right_is : odd * c.half_width-width.result ≡ odd * half_width c.args.k
  right_is = ap (λ w. odd * w) c.half_width-width.ensures

  right_room : odd * half_width c.args.k ≤ 2 * U
  right_room = odd_room c.args.k c.args.j c.requires.k_le_most_depth c.requires.j_bound

pub negated-left-requires : goal.negated-left-requires
negated-left-requires c = subst (λ z. nat_abs z < 2 ^ 63) (sym (answered c.unit-unit.type_inv c.unit-unit.ensures))
    (omega (arith, U_within, span_fits))

pub overflow_mul-odd : goal.overflow_mul-odd
overflow_mul-odd c = omega (arith, c.requires.j_bound, few_pieces c.args.k c.requires.k_le_most_depth)

pub overflow_add-odd : goal.overflow_add-odd
overflow_add-odd c = omega (arith, c.requires.j_bound, few_pieces c.args.k c.requires.k_le_most_depth)

pub overflow_mul-odd-2 : goal.overflow_mul-odd-2
overflow_mul-odd-2 c = omega (arith, right_is c, right_room c, U_within, span_fits)

pub signed-right-requires : goal.signed-right-requires
signed-right-requires c = omega (arith, right_is c, right_room c, U_within, span_fits)

pub sum-requires : goal.sum-requires
sum-requires c = omega (
  arith,
  ap nat_abs (left_is (goal.at.sum-requires c).After-negated-left),
  natAbs_neg (pos U),
  ap nat_abs (answered c.signed-right.type_inv c.signed-right.ensures),
  right_is (goal.at.sum-requires c).After-negated-left,
  right_room (goal.at.sum-requires c).After-negated-left,
  U_within,
  span_fits,
)

pub returns : goal.returns
unfolding piece_middle
returns c =
    answered c.sum.type_inv c.sum.ensures
    ∙ ap₂ ◌+ℤ◌ (left_is (goal.at.returns c).After-negated-left) (answered c.signed-right.type_inv c.signed-right.ensures
    ∙ ap pos (right_is (goal.at.returns c).After-negated-left))
