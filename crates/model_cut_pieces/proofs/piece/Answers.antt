use mathlib.Core.Path.{◌≡◌, sym, ◌∙◌, ap, ap₂}
use mathlib.Core.Bool.{true, false}
use mathlib.Core.List.{◌∷◌, []}
use Prim.Native.Nat.{ℕ, ◌≤◌, ◌<◌}
use native.Mathlib.Omega.{arith}
use borrow.Author.Rules.{rules}
use lib.IntN.{ℤ, pos}
use mir.Syntax.{w64}
use mir.Val.{to_z, of_z}
use Rattle.numbers.proofs.FixedLaws.{U_within, span_fits}
use Rattle.fixed.specs.MachineLaws.{answered}
use Rattle.calculus.specs.Terms.{is_nonzero}
use Rattle.calculus.specs.Model.{most_terms}
use Rattle.model_keys.specs.Keys.{key_raised}
use Rattle.model_keys.specs.KeyExponentLaws.{zero_raisable}
use Rattle.model_types.specs.Arrays.{padded}
use Rattle.model_types.specs.ModelStruct.{pad, of_terms}
use Rattle.model_types.specs.ZeroTestLaws.{zero_bits, nonzero_bits}
use Rattle.cuts.specs.Cuts.{half_width, piece_middle}
use Rattle.model_cut_pieces.specs.PieceStructLaws.{width_room, packed_line, packed_both}
use Rattle.model_cut_pieces.proofs.piece.Goals as goal
use Rattle.model_cut_pieces.proofs.piece.Goals.{After-raised-key}

-- the numbers of a piece
module _ (c : After-raised-key) where
  middle_is : to_z w64 (of_z w64 c.piece_middle-middle.result)
      ≡ piece_middle c.args.k c.args.j
  middle_is = let m = c.piece_middle-middle in answered m.type_inv m.ensures

  width_is : to_z w64 (of_z w64 c.signed-width.result) ≡ pos (half_width c.args.k)
  width_is =
      let w = c.signed-width in
      answered w.type_inv w.ensures ∙ ap pos c.half_width.ensures

pub signed-width-requires : goal.signed-width-requires
signed-width-requires c =
    omega (arith, c.half_width.ensures, width_room c.args.k c.requires.k_le_most_depth, U_within, span_fits)

pub raised-key-requires : goal.raised-key-requires
raised-key-requires c =
    zero_raisable c.args.i (record {
      first = c.requires.le_i.0;
      last = omega (
        arith,
        c.requires.le_i.1,
        c.requires.le_i.2,
      );
    })

pub returns-then-middle-eq0 : goal.returns-then-middle-eq0
unfolding padded most_terms
returns-then-middle-eq0 c =
    let m = c.piece_middle-middle in
    let none = sym (ap is_nonzero m.ensures) ∙ zero_bits (record { sfits = m.type_inv }) c.if-middle-eq0.true in
    ap₂ (λ z y. of_terms c.args.n 1 0 (pad (record { key = z; coefficient = y } ∷ [])))
    c.raised-key.ensures (width_is (goal.at.returns-then-middle-eq0 c).After-raised-key)
    ∙ sym (packed_line c.args.n c.args.i c.args.k c.args.j
    c.requires.le_i.0 c.requires.le_i.1 c.requires.k_le_most_depth c.requires.j_bound c.requires.le_i.2 none)

pub returns : goal.returns
unfolding padded most_terms
returns c =
    let some = sym (ap is_nonzero c.piece_middle-middle.ensures) ∙ nonzero_bits _ c.if-middle-eq0.false in
    ap (λ x. of_terms c.args.n 2 0 (pad (record { key = 0; coefficient = x }
    ∷ record { key = c.raised-key.result; coefficient = to_z w64 (of_z w64 c.signed-width.result) } ∷ [])))
    (middle_is (goal.at.returns c).After-raised-key)
    ∙ ap₂ (λ z y. of_terms c.args.n 2 0
    (pad (record { key = 0; coefficient = piece_middle c.args.k c.args.j }
    ∷ record { key = z; coefficient = y } ∷ [])))
    c.raised-key.ensures (width_is (goal.at.returns c).After-raised-key)
    ∙ sym (packed_both c.args.n c.args.i c.args.k c.args.j
    c.requires.le_i.0 c.requires.le_i.1 c.requires.k_le_most_depth c.requires.j_bound c.requires.le_i.2 some)
