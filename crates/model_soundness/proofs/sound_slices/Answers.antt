-- `sound_slices` is the test of all rules: terms that pass leave the rest to decide, and the span is known as far as
-- the cap.
use mathlib.Core.Path.{◌≡◌, sym, ◌∙◌, ap}
use mathlib.Core.Bool.{true}
use Prim.Native.Nat.{ℕ, ◌≤◌, ◌<◌, ◌+◌}
use native.Mathlib.Omega.{arith}
use lib.IntN.{ℤ, pos, nat_abs}
use lib.ListN.{length, get_or}
use mir.Facts.{to_z-of_z}
use mir.Syntax.{w32, w64}
use mir.Val.{Fits, to_z, of_z}
use Rattle.numbers.specs.Fixed.{capped}
use Rattle.calculus.specs.Key.{key_limit}
use Rattle.calculus_laws.specs.MonomialKeyLaws.{word_key}
use Rattle.calculus.specs.Model.{most_terms}
use Rattle.calculus.specs.Tests.{vars_sound}
use Rattle.model_types.specs.ModelStruct.{term_sound}
use Rattle.model_types.specs.ModelStructLaws.{vars_range}
use Rattle.model_soundness.specs.SliceSoundLaws.{borrowed_places, slices_vars_not, slices_many_not, slices_first}
use Rattle.model_soundness.specs.SliceSoundLaws.{slices_end, slices_iteration, slices_not}
use Rattle.model_soundness.proofs.sound_slices.Goals as goal
use Rattle.model_soundness.proofs.sound_slices.Goals.{After-c-1, After-term_sound, Else-count-gt-MOST_TERMS}

-- what is known of n and the count
module _ (c : Else-count-gt-MOST_TERMS) where
  vars_hold : vars_sound c.args.n ≡ true
  vars_hold = sym c.vars_sound.ensures ∙ c.if-not-vars_sound.false

  few : c.args.count ≤ most_terms
  unfolding most_terms
  few = c.if-count-gt-MOST_TERMS.false

  long : (c.args.count ≤ length c.args.keys.now)
      × (c.args.count ≤ length c.args.coefficients.now)
  long = borrowed_places _ _ _ c.requires few

-- and of the term at hand
module _ (c : After-c-1) where
  abbrev key_at : ℕ
  key_at = get_or c.args.keys.now c.loop-i.i 0

  abbrev coefficient_at : ℤ
  coefficient_at = get_or c.args.coefficients.now c.loop-i.i (pos 0)

  key_word : Fits w32 key_at
  key_word = c.shared_slice_known-in-loop-i-1.given c.loop-i.i

  key_small : key_at < key_limit
  key_small = word_key _ key_word.fits

  read_back : to_z w64 (of_z w64 coefficient_at) ≡ coefficient_at
  read_back = to_z-of_z {w = w64} (record { sfits = c.c-1.given })

tested : (c : After-term_sound)
    → term_sound c.args.n c.args.d
    c.loop-i.least (key_at (record {
      before = c.before.before;
      type_inv = record
          { keys = c.shared_slice_known-in-loop-i-1.given };
    }))
    (coefficient_at (record {
      before = c.before.before;
      type_inv = record
          { keys = c.shared_slice_known-in-loop-i-1.given };
    }))
    ≡ c.term_sound.result
tested c = sym (c.term_sound.ensures ∙ ap (term_sound _ _ _ _)
    (read_back (record {
      before = c.before.before;
      type_inv = record
          { keys = c.shared_slice_known-in-loop-i-1.given };
    })))

pub returns-then-not-vars_sound : goal.returns-then-not-vars_sound
returns-then-not-vars_sound c = sym (slices_vars_not _ _ _ _ _ _ (sym c.vars_sound.ensures ∙ c.if-not-vars_sound.true))

pub returns-then-count-gt-MOST_TERMS : goal.returns-then-count-gt-MOST_TERMS
unfolding most_terms
returns-then-count-gt-MOST_TERMS c = sym (slices_many_not _ _ _ _ _ _ c.if-count-gt-MOST_TERMS.true)

pub loop-i-init : goal.loop-i-init
loop-i-init c = slices_first _ _ _ _ _ _ (vars_hold c) (few c)

pub bounds-keys-i : goal.bounds-keys-i
bounds-keys-i c = omega (arith, (long (goal.at.bounds-keys-i c).Else-count-gt-MOST_TERMS).0)

pub bounds-coefficients-i : goal.bounds-coefficients-i
bounds-coefficients-i c = omega (arith, (long (goal.at.bounds-coefficients-i c).Else-count-gt-MOST_TERMS).1)

pub term_sound-requires : goal.term_sound-requires
term_sound-requires c = vars_range _ (vars_hold (goal.at.term_sound-requires c).Else-count-gt-MOST_TERMS)

pub returns-then-not-term_sound : goal.returns-then-not-term_sound
returns-then-not-term_sound c =
    sym
    (slices_not _ _ _ _ _ _ (vars_hold (goal.at.returns-then-not-term_sound c).Else-count-gt-MOST_TERMS)
    (few (goal.at.returns-then-not-term_sound c).Else-count-gt-MOST_TERMS) _ _ _ c.loop-i.invariant
    (omega arith)
    (long (goal.at.returns-then-not-term_sound c).Else-count-gt-MOST_TERMS).0
    (long (goal.at.returns-then-not-term_sound c).Else-count-gt-MOST_TERMS).1
    (key_small (goal.at.returns-then-not-term_sound c).After-c-1)
    (tested (goal.at.returns-then-not-term_sound c).After-term_sound ∙ c.if-not-term_sound.true))

pub loop-i-preserved : goal.loop-i-preserved
loop-i-preserved c =
    slices_iteration _ _ _ _ _ _ (vars_hold (goal.at.loop-i-preserved c).Else-count-gt-MOST_TERMS)
    (few (goal.at.loop-i-preserved c).Else-count-gt-MOST_TERMS) _ _ _ c.loop-i.invariant
    (omega arith)
    (long (goal.at.loop-i-preserved c).Else-count-gt-MOST_TERMS).0
    (long (goal.at.loop-i-preserved c).Else-count-gt-MOST_TERMS).1
    (key_small (goal.at.loop-i-preserved c).After-c-1) (tested (goal.at.loop-i-preserved c).After-term_sound
    ∙ c.if-not-term_sound.false)
    c.capped_sum-span.result
    (c.capped_sum-span.ensures
    ∙ ap (λ x. capped (c.loop-i.span + x)) (c.magnitude.ensures
    ∙ ap nat_abs (read_back (goal.at.loop-i-preserved c).After-c-1)))

pub returns : goal.returns
returns c =
    c.within_span.ensures
    ∙ slices_end _ _ _ _ _ _ (vars_hold (goal.at.returns c).Else-count-gt-MOST_TERMS)
    (few (goal.at.returns c).Else-count-gt-MOST_TERMS) _ _ _ c.loop-i.invariant (omega arith)
