-- The book that a read answers, from what the walks keep.
use Rattle.std.specs.Prelude.{◌≡◌, refl, List, map, ℕ, ◌+◌, ◌*◌, ◌≤◌, ◌<◌, T, length, take, drop}
use Rattle.std.proofs.Common.{◌∙◌, arith, take_all}
use Rattle.std.proofs.Math.Path.{ap}
use Rattle.calculus.specs.Book.{most_models, most_steps}
use Rattle.std.specs.Prelude.{Ok}
use Rattle.model_types.specs.Arrays.{padded}
use Rattle.format.specs.Format.{trailer_sound, read_steps, read_records}
use Rattle.format.proofs.WriteBackLaws.{length_read_steps}
use Rattle.sheet_book.specs.BookStruct.{no_model, no_step, stored_model, stored_step, stored_book, read_answer}
use Rattle.sheet_decode.specs.declared.Trailer.{Trailer}
use Rattle.sheet_decode.specs.Trailer.{held_trailer}
use Rattle.sheet_read_walk.specs.sheet_walk.declared.ModelsWalked.{ModelsWalked}
use Rattle.sheet_read_walk.specs.sheet_walk.Walk.{models_walked, steps_walked}
use Rattle.sheet_tests.specs.RecordTestLaws.{gone, all_passed, whole_sheet}
use Rattle.sheet_read_walk.specs.declared.ModelsRead.{ModelsRead}
use Rattle.sheet_read_walk.specs.declared.StepsRead.{StepsRead}
use Rattle.sheet_read_walk.specs.KeptRecords.{models_read, steps_read}

-- ---- how far the walks go that keep the records
-- over models
abbrev pub as_walked : ModelsRead → ModelsWalked
as_walked w = record { place = w.place; end = w.end }

pub models_far : (n d c : ℕ) (s : List ℕ) (w : ModelsRead) → w ≡ models_read n d c s
    → as_walked w ≡ models_walked n d c s
unfolding models_read models_walked
models_far n d c s w e = ap as_walked e

-- over steps
pub steps_far : (n m c : ℕ) (s : List ℕ) (v : StepsRead) → v ≡ steps_read n m c s → v.place ≡ steps_walked n m c s
unfolding steps_read
steps_far n m c s v e = ap (λ (x : StepsRead). x.place) e

-- ---- all is read
module _ (s : List ℕ) (t : Trailer) (h : T (trailer_sound (held_trailer t)))
    (e : t.offset + 8 * t.steps + 8 ≡ length s) (w : ModelsRead)
    (is : w ≡ models_read t.n t.d t.models (take t.offset s)) (l : t.models ≤ w.place)
    (g : t.offset ≤ w.end) (v : StepsRead)
    (on : v ≡ steps_read t.n t.models t.steps (drop t.offset s)) where
  models_are : w.models ≡ padded no_model most_models (map stored_model (gone s t h e).passed)
  unfolding models_read
  models_are = ap (λ (x : ModelsRead). x.models) is

  steps_are : t.steps ≤ v.place
      → v.steps ≡ padded no_step most_steps (map stored_step (read_steps t.steps (drop t.offset s)))
  unfolding steps_read
  steps_are f = ap (λ (x : StepsRead). x.steps) on
      ∙ ap (λ x. padded no_step most_steps (map stored_step x)) (take_all
      (steps_walked t.n t.models t.steps (drop t.offset s)) (read_steps t.steps (drop t.offset s))
      (omega (arith, steps_far _ _ _ _ v on, length_read_steps t.steps (drop t.offset s))))

  pub whole_answer : t.steps ≤ v.place
      → record {
        book = record {
          n = t.n;
          d = t.d;
          model_count = t.models;
          step_count = t.steps;
          models = w.models;
          steps = v.steps;
        };
        verdict = Ok tt;
      } ≡ read_answer (read_records s (held_trailer t))
  unfolding read_answer stored_book
  whole_answer f =
      rw (
        whole_sheet s t h e (as_walked w) (models_far _ _ _ _ w is) l g _ (steps_far _ _ _ _ v on) f,
        models_are,
        steps_are f,
        all_passed s t h e (as_walked w) (models_far _ _ _ _ w is) l,
        length_read_steps t.steps (drop t.offset s),
      )
