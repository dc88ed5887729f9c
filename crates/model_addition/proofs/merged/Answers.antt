-- `merged` hands on slices of 64 places, which have those that a count names.
use borrow.Author.Rules.{rules}
use Rattle.model_addition.specs.MergePassLaws.{from_rooms}
use Rattle.model_addition.proofs.merged.Goals as goal

pub merged_slices-requires : goal.merged_slices-requires
merged_slices-requires c = record {
  sum_from = from_rooms c.requires.sum_of;
  room = c.requires.room;
}

pub returns : goal.returns
returns c =
    record {
      terms = λ w. c.merged_slices.ensures.terms (from_rooms w);
      clear = c.merged_slices.ensures.clear;
    }
