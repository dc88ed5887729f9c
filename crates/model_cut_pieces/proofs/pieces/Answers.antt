use borrow.Author.Rules.{rules}
use Rattle.cuts.specs.Cuts.{most_depth}
use Rattle.model_cut_pieces.specs.PieceStructLaws.{shifted}
use Rattle.model_cut_pieces.proofs.pieces.Goals as goal

pub overflow_shl-result : goal.overflow_shl-result
unfolding most_depth
overflow_shl-result c = search rules

pub returns : goal.returns
returns c = shifted c.args.k c.requires
