use mathlib.Core.Path.{◌≡◌, sym, ◌∙◌, ap}
use borrow.Author.Rules.{rules}
use Rattle.calculus.specs.Model as C
use Rattle.calculus.specs.Refusal.{at_place}
use Rattle.calculus.specs.Operations.{substitute}
use Rattle.model_types.specs.declared.Model.{Model}
use Rattle.model_types.specs.ModelStruct.{view, pack, answer}
use Rattle.model_types.specs.ModelStructLaws.{limits}
use Rattle.cuts.specs.Cuts.{piece}
use Rattle.model_cut_pieces.specs.PieceRangeLaws.{piece_substitution, piece_room, piece_taken, piece_accepted}
use Rattle.model_cut_pieces.specs.PieceRangeLaws.{piece_refused}
use Rattle.model_cut_pieces.proofs.piece_range.Goals as goal

pub piece-g-requires : goal.piece-g-requires
piece-g-requires c =
    record {
      le_i = (
        c.requires.cutting.first,
        c.requires.cutting.last,
        (limits c.args.d c.args.f c.requires.cutting.model).width,
      );
      k_le_most_depth = c.requires.cutting.depth;
      j_bound = c.requires.j_bound;
    }

pub substituted-a-requires : goal.substituted-a-requires
substituted-a-requires c =
    record {
      substitution = piece_substitution c.requires.cutting c.requires.j_bound c.piece-g.ensures;
      scratch_room = piece_room c.requires.cutting c.requires.j_bound c.piece-g.ensures c.requires.scratch_room;
    }

pub range_of-requires : goal.range_of-requires
range_of-requires c =
    piece_taken c.requires.cutting c.requires.j_bound c.piece-g.ensures c.substituted-a.ensures c.in-Ok.is

pub returns-in-Ok : goal.returns-in-Ok
returns-in-Ok c =
    piece_accepted c.requires.cutting c.requires.j_bound c.piece-g.ensures c.substituted-a.ensures
    c.in-Ok.is c.range_of.ensures

pub returns-in-Err : goal.returns-in-Err
returns-in-Err c =
    piece_refused c.requires.cutting c.requires.j_bound c.piece-g.ensures c.substituted-a.ensures
    c.in-Err.is c.refuse_bounds.ensures
