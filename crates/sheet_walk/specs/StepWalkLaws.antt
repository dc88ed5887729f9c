-- The loop over steps: what it holds, and one law for its start, an iteration, its way out and its end.
use Rattle.std.specs.Prelude.{◌≡◌, Bool, true, List, ℕ, ◌+◌, ◌*◌, ◌≤◌, ◌<◌, length, get_or, drop}
use Rattle.std.proofs.Common.{sym, ◌∙◌, ap, arith, drop-drop}
use Rattle.std.proofs.Math.Bool.{false}
use Rattle.format.specs.HeldBook.{HeldStep}
use Rattle.format.specs.Format.{read_step, read_steps}
use Rattle.format.specs.Fields.{fields_sound}
use Rattle.format.specs.ReadLoopLaws.{read_step_at}
use Rattle.format.proofs.WriteBackLaws.{length_read_steps}
use Rattle.sheet_book.specs.declared.Step.{Step}
use Rattle.sheet_book.specs.BookStruct.{held_step, stored_step}
use Rattle.sheet_book.specs.BookStructLaws.{held_stored_step}
use Rattle.sheet_book.specs.FailingLaws.{Walked, walked_first, walked_iteration, walked_found, walked_end}
use Rattle.sheet_walk.specs.Walk.{steps_walked}

-- ---- before step k
pub record StepsSoFar (s : List ℕ) (offset n m count at k : ℕ) : Type 0 where
  pub placed : at ≡ offset + 8 * k
  pub walked : Walked (fields_sound n m) (read_steps count (drop offset s)) k

pub steps_first : (s : List ℕ) (offset n m count : ℕ) → StepsSoFar s offset n m count offset 0
steps_first s offset n m count = record {
  placed = omega arith;
  walked = walked_first (fields_sound n m) (read_steps count (drop offset s));
}

module _ (s : List ℕ) (offset n m count at k : ℕ) (h : StepsSoFar s offset n m count at k) where
  abbrev all : List HeldStep
  all = read_steps count (drop offset s)

  pub steps_most : k ≤ count
  steps_most = omega (arith, h.walked.within, length_read_steps count (drop offset s))

  pub steps_end : count ≤ k → k ≡ steps_walked n m count (drop offset s)
  unfolding steps_walked
  steps_end l = walked_end h.walked (omega (arith, length_read_steps count (drop offset s)))

  module _ (l : k < count) (step : Step) (e : step ≡ stored_step (read_step (drop at s))) where
    abbrev pub read : HeldStep
    read = read_step (drop at s)

    pub steps_inside : k < length all
    steps_inside = omega (arith, length_read_steps count (drop offset s))

    -- it is number k of all
    pub steps_here : get_or all k read ≡ read
    steps_here = read_step_at count k (drop offset s) read l
        ∙ ap read_step (drop-drop (8 * k) offset s ∙ ap (λ j. drop j s) (sym h.placed))

    tested : (b : Bool) → fields_sound n m k (held_step step) ≡ b → fields_sound n m k (get_or all k read) ≡ b
    tested b t = ap (fields_sound n m k) (steps_here ∙ sym (held_stored_step read) ∙ ap held_step (sym e)) ∙ t

    pub steps_bad : fields_sound n m k (held_step step) ≡ false → k ≡ steps_walked n m count (drop offset s)
    unfolding steps_walked
    steps_bad t = walked_found h.walked read steps_inside (tested false t)

    pub steps_iteration : fields_sound n m k (held_step step) ≡ true → StepsSoFar s offset n m count (at + 8) (k + 1)
    steps_iteration t = record {
      placed = omega (arith, h.placed);
      walked = walked_iteration h.walked read steps_inside (tested true t);
    }
