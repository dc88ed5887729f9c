-- What storing answers and leaves in the buffer, case by case.
use Rattle.std.specs.Prelude.{◌≡◌, Bool, true, false, List, ◌++◌, ℕ, ◌+◌, ◌*◌, ◌<◌, ◌≤◌, leb, length, drop}
use Rattle.std.proofs.Math.Path.{refl, ap}
use Rattle.std.proofs.Common.{sym, ◌∙◌, subst, arith, le→leb}
use Rattle.std.proofs.Math.Dec.{T}
use Rattle.std.proofs.lemmas.Bool.{lt-leb}
use Rattle.std.proofs.lemmas.List.Edits.{sets}
use Rattle.calculus.specs.Model.{Model, most_degree, between, sound}
use Rattle.calculus.specs.Refusal as R
use Rattle.calculus.specs.Refusal.{done, stopped, require_at, bad_limits, bad_model, short_buffer, returned}
use Rattle.calculus.specs.Refusal.{◌followed_by◌}
use Rattle.calculus_laws.specs.RefusalLaws.{require_at_passed}
use Rattle.format.specs.WriteLoopLaws.{sets_front}
use Rattle.model_types.specs.declared.Refusal.TheVariants.{BadLimits, BadModel, ShortBuffer}
use Rattle.std.specs.Prelude.{Ok, Err}
use Rattle.model_types.specs.ModelStruct.{refused_at}
use Rattle.model_types.specs.ModelStruct.{refusal}
use Rattle.model_archive.specs.declared.Stored.{Stored}
use Rattle.model_archive.specs.StoredStruct.{store_answer}
use Rattle.archive.specs.Ranks.{rank_width}
use Rattle.archive.specs.Archive.{model_stored, store, stored}
use Rattle.archive.proofs.ArchiveLaws.{length_stored}

-- an answer and a buffer that are those of storing
pub record Outcome (m : Model) (entry : List ℕ) (answer : Stored) (exit : List ℕ) : Type 0 where
  pub answers : answer ≡ store_answer (store m entry)
  pub leaves : exit ≡ (stored m entry).value.buffer

module _ (m : Model) (entry : List ℕ) where
  is_refused : (q : R.Refusal) → store m entry ≡ stopped q 0
      → Outcome m entry (record { length = 0; verdict = Err (refused_at (refusal q) 0) }) entry
  unfolding stored store_answer ◌followed_by◌ returned
  is_refused q e = record { answers = rw e; leaves = rw e }

  is_accepted : (s : List ℕ) → store m entry ≡ done s
      → Outcome m entry (record { length = length s; verdict = Ok tt }) (s ++ drop (length s) entry)
  unfolding stored store_answer ◌followed_by◌ returned
  is_accepted s e = record { answers = rw e; leaves = rw e }

  same_vars : between 1 4 m.vars ≡ between 1 rank_width m.vars
  unfolding rank_width
  same_vars = refl

  pub not_vars : between 1 4 m.vars ≡ false
      → Outcome m entry (record { length = 0; verdict = Err (refused_at BadLimits 0) }) entry
  unfolding store refusal require_at
  not_vars e = is_refused bad_limits (rw (sym same_vars ∙ e))

  pub not_sound : between 1 4 m.vars ≡ true → sound most_degree m ≡ false
      → Outcome m entry (record { length = 0; verdict = Err (refused_at BadModel 0) }) entry
  unfolding store refusal require_at
  not_sound v e = is_refused bad_model (rw (sym same_vars ∙ v, e))

  module _ (v : between 1 4 m.vars ≡ true) (h : T (sound most_degree m)) where
    passes : store m entry
        ≡ require_at 0 (leb (length (model_stored m)) (length entry)) short_buffer (done (model_stored m))
    unfolding store
    passes = require_at_passed 0 (between 1 rank_width m.vars) bad_limits _
        (subst T (sym (sym same_vars ∙ v)) tt)
        ∙ require_at_passed 0 (sound most_degree m) bad_model _ h

    pub too_short : length entry < 6 + 6 * length m.terms
        → Outcome m entry (record { length = 0; verdict = Err (refused_at ShortBuffer 0) }) entry
    unfolding refusal
    too_short l = is_refused short_buffer (passes
        ∙ ap (λ t. require_at 0 t short_buffer (done (model_stored m)))
        (lt-leb (length (model_stored m)) (length entry) (omega (arith, length_stored m h)))
        ∙ unfold require_at in refl)

    pub long_enough : 6 + 6 * length m.terms ≤ length entry → (exit : List ℕ) → exit ≡ sets entry 0 (model_stored m)
        → Outcome m entry (record { length = 6 + 6 * length m.terms; verdict = Ok tt }) exit
    long_enough l exit e = rw (e, sets_front (model_stored m) entry room, ← length_stored m h)
        (is_accepted (model_stored m) (passes
        ∙ require_at_passed 0 (leb (length (model_stored m)) (length entry)) short_buffer _
        (le→leb (length (model_stored m)) (length entry) room)))
      where
        room : length (model_stored m) ≤ length entry
        room = omega (arith, length_stored m h)
