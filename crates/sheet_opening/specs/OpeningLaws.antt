-- Laws of opening, from the verdict of a read; the number of records.
use Rattle.std.specs.Prelude.{◌≡◌, refl, drop}
use Rattle.std.proofs.Math.Path.{sym, ap, ap₂}
use Rattle.std.proofs.Common.{◌∙◌, subst, arith}
use mathlib.Core.List.{List, []}
use Prim.Native.Nat.{ℕ, zero, suc, ◌+◌, ◌-◌, ◌≤◌, ◌<◌}
use Rattle.std.proofs.Math.ListN.{length, length-append}
use Rattle.calculus.specs.Refusal.{number, Result, done, stopped, ◌followed_by◌, returned}
use Rattle.model_types.specs.declared.Refusal.{Refusal}
use Rattle.std.specs.Prelude.{Ok, Err}
use Rattle.model_types.specs.ModelStruct.{refused_at}
use Rattle.model_types.specs.ModelStruct.{verdict_number, verdict_place}
use Rattle.model_types.specs.ModelStructLaws.{cause_refusal}
use Rattle.format.specs.Bytes.{AllBytes}
use Rattle.format.specs.HeldBook.{HeldBook}
use Rattle.format.specs.Format as F
use Rattle.format.specs.Format.{shortest, trailer_length, model_length, trailer_of, read_trailer, read}
use Rattle.format.specs.Format.{model_records, step_records, records, opened, returned_records}
use Rattle.format.proofs.ReadBackLaws.{sheet_shortest}
use Rattle.format.proofs.WriteBackLaws.{read_passes, read_sheet}
use Rattle.sheet_book.specs.BookStruct.{verdict}
use Rattle.sheet_book.specs.TestedLaws.{accepted_done, refused_stopped}
use Rattle.sheet_decode.specs.declared.Trailer.{Trailer}
use Rattle.sheet_decode.specs.Trailer.{stored_trailer}
use Rattle.sheet_opening.specs.Opening.{start_of, start, start_answer}

-- ---- opening
-- a read and an opening have the same verdict
same_verdict : (r : Result HeldBook) (l : List (List ℕ)) → verdict r ≡ verdict (r followed_by (λ h. done l))
unfolding verdict ◌followed_by◌
same_verdict (done h) l = refl
same_verdict (stopped r i) l = refl

pub read_verdict : (s : List ℕ) → verdict (read s) ≡ verdict (opened s)
unfolding opened
read_verdict s = same_verdict (read s) (records s)

verdict_numbers : {A : Type 0} (if_refused : A) (r : Result A)
    → verdict_number (verdict r) ≡ (returned if_refused r).number
unfolding verdict verdict_number returned
verdict_numbers a (done b) = refl
verdict_numbers a (stopped r i) = ap number (cause_refusal r)

verdict_places : {A : Type 0} (if_refused : A) (r : Result A)
    → verdict_place (verdict r) ≡ (returned if_refused r).place
unfolding verdict verdict_place returned
verdict_places a (done b) = refl
verdict_places a (stopped r i) = refl

-- THEOREM: the verdict says the number of document 01's table, and the place
pub opening_number : (s : List ℕ) → verdict_number (verdict (opened s)) ≡ (returned_records s).number
unfolding returned_records
opening_number s = verdict_numbers [] (opened s)

pub opening_place : (s : List ℕ) → verdict_place (verdict (opened s)) ≡ (returned_records s).place
unfolding returned_records
opening_place s = verdict_places [] (opened s)

accepted_at : {A : Type 0} (r : Result A) (end : ℕ) → verdict r ≡ Ok tt → start_of r end ≡ 0
unfolding start_of
accepted_at r end h = ap (λ r. start_of r end) (accepted_done r h).is

ends_at : {A : Type 0} (r : Result A) (end : ℕ) (x : Refusal) (i : ℕ) → verdict r ≡ Err (refused_at x i)
    → start_of r end ≡ end
unfolding start_of
ends_at r end x i h = ap (λ r. start_of r end) (refused_stopped r x i h)

module _ (s : List ℕ) where
  pub start_accepted : verdict (opened s) ≡ Ok tt → record { at = 0; verdict = Ok tt } ≡ start_answer s
  unfolding start
  start_accepted h = ap₂ (λ a v. record { at = a; verdict = v }) (sym (accepted_at (opened s) (length s) h)) (sym h)

  pub start_refused : (x : Refusal) (i : ℕ) → verdict (opened s) ≡ Err (refused_at x i)
      → record { at = length s; verdict = Err (refused_at x i) } ≡ start_answer s
  unfolding start
  start_refused x i h =
      ap₂ (λ a v. record { at = a; verdict = v }) (sym (ends_at (opened s) (length s) x i h)) (sym h)

-- a sheet that is accepted has a book
pub record HasBook (s : List ℕ) : Type 0 where
  pub book : HeldBook
  pub is_read : read s ≡ done book

pub has_book : (s : List ℕ) → verdict (read s) ≡ Ok tt → HasBook s
has_book s v = let d = accepted_done (read s) v in record { book = d.value; is_read = d.is }

-- and is long enough for a trailer
pub long_enough : (s : List ℕ) → AllBytes s → HasBook s → 16 ≤ length s
unfolding shortest
long_enough s y b = subst (λ x. 16 ≤ length x) (read_sheet s b.book b.is_read y)
    (sheet_shortest b.book (read_passes s b.book b.is_read))

pub accepted_long : (s : List ℕ) → AllBytes s → verdict (read s) ≡ Ok tt → 16 ≤ length s
accepted_long s y v = long_enough s y (has_book s v)

-- ---- the number of records
length_models : (n c : ℕ) (s : List ℕ) → length (model_records n c s) ≡ c
unfolding model_records
length_models n zero s = refl
length_models n (suc c) s = ap suc (length_models n c (drop (model_length n s) s))

length_steps : (c : ℕ) (s : List ℕ) → length (step_records c s) ≡ c
unfolding step_records
length_steps zero s = refl
length_steps (suc c) s = ap suc (length_steps c (drop 8 s))

module _ (s : List ℕ) where
  abbrev said : F.Trailer
  said = read_trailer (trailer_of s)

  records_said : length (records s) ≡ said.models + said.steps
  unfolding records
  records_said = length-append (model_records said.n said.models s) _
      ∙ ap₂ ◌+◌ (length_models said.n said.models s) (length_steps said.steps _)

  value_done : (r : Result HeldBook) (h : HeldBook) → r ≡ done h
      → (returned [] (r followed_by (λ h. done (records s)))).value ≡ records s
  unfolding returned ◌followed_by◌
  value_done r h e = ap (λ r. (returned [] (r followed_by (λ h. done (records s)))).value) e

  -- an accepted sheet hands out its records
  pub value_accepted : HasBook s → (returned_records s).value ≡ records s
  unfolding returned_records opened
  value_accepted b = value_done (read s) b.book b.is_read

  -- a refused one none
  pub value_refused : (x : Refusal) (i : ℕ) → verdict (read s) ≡ Err (refused_at x i) → (returned_records s).value ≡ []
  unfolding returned_records opened returned ◌followed_by◌
  value_refused x i v =
      ap (λ r. (returned [] (r followed_by (λ h. done (records s)))).value) (refused_stopped (read s) x i v)

  -- their number stands in the trailer
  pub count_accepted : HasBook s
      → (t : Trailer) → t ≡ stored_trailer (read_trailer (drop (length s - trailer_length) s))
      → t.models + t.steps ≡ length (returned_records s).value
  unfolding trailer_of stored_trailer
  count_accepted b t e =
      ap (λ (t : Trailer). t.models + t.steps) e ∙ sym (ap length (value_accepted b) ∙ records_said)
