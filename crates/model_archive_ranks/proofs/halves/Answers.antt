-- `model_archive_ranks::halves`: the table is the enumeration, by one computed test.
use mathlib.Core.Path.{refl}
use Rattle.calculus.specs.Key.{encode}
use Rattle.calculus.specs.Model.{most_degree}
use Rattle.archive.specs.Ranks.{count_up, in_turn, monomials, rank_width, short_keys}
use Rattle.model_archive_ranks.proofs.halves.Goals as goal

pub returns : goal.returns
unfolding count_up in_turn monomials rank_width short_keys most_degree encode
returns c = refl
