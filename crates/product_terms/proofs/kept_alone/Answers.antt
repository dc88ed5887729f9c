-- `kept_alone` chooses between one pass and sums.
use Rattle.product_own_room.specs.product_room.ProductTermsLaws.{first_one, second_one, none_kept}
use Rattle.product_rising.specs.OneTermLaws.{turned_gathered}
use Rattle.product_terms.proofs.kept_alone.Goals as goal

-- where the first or the second factor is one term
pub one_times-requires : goal.one_times-requires
one_times-requires c =
    record {
      one_ready = first_one c.requires.held_factors c.if-na-eq1.true;
      room = none_kept c.requires.kept_room;
    }

pub returns-then-na-eq1 : goal.returns-then-na-eq1
returns-then-na-eq1 c =
    rw c.if-na-eq1.true c.one_times.ensures

pub one_times-requires-then-nb-eq1 : goal.one_times-requires-then-nb-eq1
one_times-requires-then-nb-eq1 c =
    record {
      one_ready = second_one c.requires.held_factors c.if-nb-eq1.true;
      room = none_kept c.requires.kept_room;
    }

pub returns-then-nb-eq1 : goal.returns-then-nb-eq1
returns-then-nb-eq1 c =
    rw c.if-nb-eq1.true (turned_gathered (second_one c.requires.held_factors c.if-nb-eq1.true)
    c.one_times-then-nb-eq1.ensures)
