-- `model_archive_ranks::key_at` reads the first half of a key.
use mathlib.Core.Path.{◌≡◌, refl, sym, ◌∙◌, ap, subst}
use Prim.Native.Nat.{◌*◌, ◌<◌}
use native.Mathlib.Omega.{arith}
use lib.ListN.{length, get_or}
use mir.Syntax.{w32}
use borrow.Author.Rules.{rules, Fits-under}
use Rattle.calculus.specs.Key.{encode}
use Rattle.calculus.specs.Model.{most_degree}
use Rattle.archive.specs.Ranks.{count_up, in_turn, monomials, rank_width, short_keys}
use Rattle.archive.specs.RankLaws.{key_beyond, key_shifted, short_below, shifted_below, count_is}
use Rattle.model_archive_ranks.proofs.key_at.Goals as goal

long : length short_keys ≡ 3876
unfolding count_up in_turn monomials rank_width short_keys most_degree encode
long = refl

pub bounds-halves-rank : goal.bounds-halves-rank
bounds-halves-rank c = omega (arith, c.if-rank-lt-RANKS.true, ap length c.requires, long)

pub overflow_cast-result : goal.overflow_cast-result
overflow_cast-result c =
    Fits-under w32 _ 65536 (subst (λ l. get_or l c.args.rank 0 < 65536) (sym c.requires)
    (short_below c.args.rank c.if-rank-lt-RANKS.true)) tt

pub overflow_mul-result : goal.overflow_mul-result
overflow_mul-result c =
    Fits-under w32 _ 4294967296 (subst (λ l. get_or l c.args.rank 0 * 65536 < 4294967296) (sym c.requires)
    (shifted_below c.args.rank c.if-rank-lt-RANKS.true)) tt

pub returns-then-rank-lt-RANKS : goal.returns-then-rank-lt-RANKS
returns-then-rank-lt-RANKS c =
    ap (λ l. get_or l c.args.rank 0 * 65536) c.requires ∙ sym (key_shifted c.args.rank)

pub returns-else-rank-lt-RANKS : goal.returns-else-rank-lt-RANKS
returns-else-rank-lt-RANKS c = sym (key_beyond _ (omega (arith, c.if-rank-lt-RANKS.false, count_is)))
