-- `head_tested` makes tests 1 to 4 in order.
use mathlib.Core.Path.{◌≡◌, sym, ◌∙◌, subst}
use mathlib.Core.Bool.{true}
use mathlib.Core.List.{List}
use Prim.Native.Nat.{ℕ, ◌≤◌, ◌<◌}
use native.Mathlib.Omega.{arith}
use borrow.Author.Rules.{rules}
use borrow.Author.Tests.{not-true, not-false}
use lib.Dec.{T}
use lib.ListN.{length}
use Rattle.calculus.specs.Model.{between}
use Rattle.calculus.specs.Refusal.{bad_length, bad_mark, bad_limits, bad_offset}
use Rattle.model_types.specs.ModelStruct.{refusal}
use Rattle.format.specs.Format.{shortest, longest}
use Rattle.sheet_book.specs.TestedLaws.{verdict_done, verdict_stopped}
use Rattle.sheet_decode.specs.declared.Trailer.{Trailer}
use Rattle.sheet_tests.specs.HeadedLaws.{length_range, length_fault, mark_fault, limits_fault, offset_fault}
use Rattle.sheet_tests.specs.HeadedLaws.{head_sound}
use Rattle.sheet_tests.proofs.head_tested.Goals as goal
use Rattle.sheet_tests.proofs.head_tested.Goals.{After-trailer_sound-within, Else-not-length_sound}

-- ---- what is known after test 1
module _ (c : Else-not-length_sound) where
  abbrev sheet : List ℕ
  sheet = c.args.sheet.now

  test_1 : between shortest longest (length sheet) ≡ true
  test_1 = sym c.length_sound.ensures ∙ c.if-not-length_sound.false

  long : 16 ≤ length sheet
  long = (length_range _ (subst T (sym test_1) tt)).0

-- and of the trailer
module _ (c : After-trailer_sound-within) where
  abbrev trailer : Trailer
  trailer = c.trailer_at-t.result

  steps_small : trailer.steps < 256
  steps_small = c.struct_known-1.given.1.1.1.0.fits

  offset_small : trailer.offset < 65536
  offset_small = c.struct_known-1.given.1.1.1.1.0.fits

pub returns-then-not-length_sound : goal.returns-then-not-length_sound
unfolding refusal
returns-then-not-length_sound c =
    sym (verdict_stopped _ bad_length 0
    (length_fault _ (sym c.length_sound.ensures ∙ c.if-not-length_sound.true)))

pub overflow_sub-length : goal.overflow_sub-length
overflow_sub-length c = omega (arith, long c)

pub trailer_at-t-requires : goal.trailer_at-t-requires
trailer_at-t-requires c = omega (arith, long c)

pub returns-then-not-marked : goal.returns-then-not-marked
unfolding refusal
returns-then-not-marked c =
    sym (verdict_stopped _ bad_mark 0
    (mark_fault _ _ c.trailer_at-t.ensures (test_1 (goal.at.returns-then-not-marked c).Else-not-length_sound)
    (c.if-not-marked.true)))

pub returns-then-not-within : goal.returns-then-not-within
unfolding refusal
returns-then-not-within c =
    sym (verdict_stopped _ bad_limits 0
    (limits_fault _ _ c.trailer_at-t.ensures (test_1 (goal.at.returns-then-not-within c).Else-not-length_sound)
    (c.if-not-marked.false)
    (sym c.trailer_sound-within.ensures ∙ c.if-not-within.true)))

pub overflow_mul-end : goal.overflow_mul-end
overflow_mul-end c = omega (
  arith,
  steps_small (goal.at.overflow_mul-end c).After-trailer_sound-within,
  offset_small (goal.at.overflow_mul-end c).After-trailer_sound-within,
)

pub overflow_add-end : goal.overflow_add-end
overflow_add-end c = omega (
  arith,
  steps_small (goal.at.overflow_add-end c).After-trailer_sound-within,
  offset_small (goal.at.overflow_add-end c).After-trailer_sound-within,
)

pub overflow_add-end-2 : goal.overflow_add-end-2
overflow_add-end-2 c = omega (
  arith,
  steps_small (goal.at.overflow_add-end-2 c).After-trailer_sound-within,
  offset_small (goal.at.overflow_add-end-2 c).After-trailer_sound-within,
)

pub returns-then-end-length : goal.returns-then-end-length
unfolding refusal
returns-then-end-length c =
    sym (verdict_stopped _ bad_offset 0
    (offset_fault _ _ c.trailer_at-t.ensures (test_1 (goal.at.returns-then-end-length c).Else-not-length_sound)
    (c.if-not-marked.false)
    (sym c.trailer_sound-within.ensures ∙ c.if-not-within.false) c.if-end-length.true))

pub returns : goal.returns
returns c =
    sym (verdict_done _ _
    (head_sound _ _ c.trailer_at-t.ensures (test_1 (goal.at.returns c).Else-not-length_sound) (c.if-not-marked.false)
    (sym c.trailer_sound-within.ensures ∙ c.if-not-within.false) c.if-end-length.false))
