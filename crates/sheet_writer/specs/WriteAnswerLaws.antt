-- The struct of a write's outcome hands back document 01's number, place and length, for every case of the outcome.
use Rattle.std.specs.Prelude.{◌≡◌, List, ◌++◌, ℕ, length, drop}
use Rattle.std.proofs.Math.Path.{refl, ap}
use Rattle.calculus.specs.Refusal as R
use Rattle.calculus.specs.Refusal.{Result, done, stopped, returned, ◌followed_by◌}
use Rattle.model_types.specs.ModelStruct.{verdict_number, verdict_place}
use Rattle.model_types.specs.ModelStructLaws.{cause_refusal}
use Rattle.format.specs.HeldBook.{HeldBook}
use Rattle.format.specs.Format as F
use Rattle.format.specs.Format.{write, written}
use Rattle.sheet_book.specs.BookStruct.{write_answer}

-- what is handed back of a result
abbrev back : (buffer : List ℕ) → Result (List ℕ) → R.Returned F.Written
back buffer r = returned (record { length = 0; buffer = buffer })
    (r followed_by (λ s. done (record { length = length s; buffer = s ++ drop (length s) buffer })))

module _ (h : HeldBook) (buffer : List ℕ) where
  pub write_number : verdict_number (write_answer (write h buffer)).verdict ≡ (written h buffer).number
  unfolding written
  write_number = go (write h buffer)
    where
      go : (r : Result (List ℕ)) → verdict_number (write_answer r).verdict ≡ (back buffer r).number
      go (done s) = unfold write_answer verdict_number returned ◌followed_by◌ in refl
      go (stopped q i) = unfold write_answer verdict_number returned ◌followed_by◌ in ap R.number (cause_refusal q)

  pub write_place : verdict_place (write_answer (write h buffer)).verdict ≡ (written h buffer).place
  unfolding written
  write_place = go (write h buffer)
    where
      go : (r : Result (List ℕ)) → verdict_place (write_answer r).verdict ≡ (back buffer r).place
      go (done s) = unfold write_answer verdict_place returned ◌followed_by◌ in refl
      go (stopped q i) = unfold write_answer verdict_place returned ◌followed_by◌ in refl

  pub write_length : (write_answer (write h buffer)).length ≡ (written h buffer).value.length
  unfolding written
  write_length = go (write h buffer)
    where
      go : (r : Result (List ℕ)) → (write_answer r).length ≡ (back buffer r).value.length
      go (done s) = unfold write_answer returned ◌followed_by◌ in refl
      go (stopped q i) = unfold write_answer returned ◌followed_by◌ in refl
