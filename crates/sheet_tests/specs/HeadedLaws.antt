-- Tests 1 to 4: one law for each way out, and what a verdict on them says of a read.
use Rattle.std.specs.Prelude.{◌≡◌, refl, Bool, true, false, List, ℕ, ◌+◌, ◌*◌, ◌-◌, ◌≤◌, T, eqb, length, drop}
use Rattle.std.proofs.Common.{sym, ◌∙◌, subst, eq-eqb, ne_eqb}
use Rattle.std.proofs.Math.Path.{ap}
use Rattle.std.proofs.Math.Dec.{eqb→eq}
use Rattle.calculus.specs.Model.{between}
use Rattle.calculus.specs.Refusal.{bad_length, bad_mark, bad_limits, bad_offset}
use Rattle.calculus.specs.Refusal.{Refusal, Result, done, stopped, require_at, ◌followed_by◌}
use Rattle.calculus_laws.specs.RefusalLaws.{require_at_passed, passed_at}
use Rattle.calculus_laws.specs.BookLaws.{between_low, between_high}
use Rattle.model_types.specs.declared.Refusal as D
use Rattle.std.specs.Prelude.{Ok, Err}
use Rattle.model_types.specs.ModelStruct.{refused_at}
use Rattle.model_types.specs.ModelStruct.{verdict, cause}
use Rattle.format.specs.Format as F
use Rattle.format.specs.Format.{shortest, longest, trailer_sound, trailer_of, read_trailer, read_records, read}
use Rattle.format.specs.ReadLoopLaws.{refused}
use Rattle.model_types.specs.ModelStructLaws.{refusal_cause}
use Rattle.sheet_book.specs.TestedLaws.{verdict_stopped, accepted_done, refused_stopped}
use Rattle.sheet_decode.specs.declared.Trailer.{Trailer}
use Rattle.sheet_decode.specs.Trailer.{stored_trailer, held_trailer}
use Rattle.sheet_tests.specs.Headed.{headed}

pub passes : {A : Type 0} (i : ℕ) (c : Bool) (r : Refusal) (a : Result A) → c ≡ true → require_at i c r a ≡ a
passes i c r a e = require_at_passed i c r a (subst T (sym e) tt)

-- what stops four tests stops all that follows them
four_first : {A B : Type 0} (a b c d : Bool) (t : A) (r : Result B)
    → (require_at 0 a bad_length (require_at 0 b bad_mark (require_at 0 c bad_limits
    (require_at 0 d bad_offset (done t)))) followed_by (λ t. r))
    ≡ require_at 0 a bad_length (require_at 0 b bad_mark (require_at 0 c bad_limits (require_at 0 d bad_offset r)))
unfolding require_at ◌followed_by◌
four_first true true true true t r = refl
four_first true true true false t r = refl
four_first true true false d t r = refl
four_first true false c d t r = refl
four_first false b c d t r = refl

four_stopped : {A B : Type 0} (a b c d : Bool) (t : A) (r : Result B) (q : Refusal) (i : ℕ)
    → require_at 0 a bad_length (require_at 0 b bad_mark (require_at 0 c bad_limits
    (require_at 0 d bad_offset (done t)))) ≡ stopped q i
    → require_at 0 a bad_length (require_at 0 b bad_mark (require_at 0 c bad_limits (require_at 0 d bad_offset r)))
    ≡ stopped q i
unfolding ◌followed_by◌
four_stopped a b c d t r q i e = sym (four_first a b c d t r) ∙ ap (λ x. x followed_by (λ t. r)) e

-- test 1
pub length_range : (l : ℕ) → T (between shortest longest l) → (16 ≤ l) × (l ≤ 8792)
unfolding shortest longest
length_range l h = (between_low 16 8792 l h, between_high 16 8792 l h)

module _ (s : List ℕ) where
  pub length_fault : between shortest longest (length s) ≡ false → headed s ≡ stopped bad_length 0
  unfolding headed
  length_fault h = refused 0 (between shortest longest (length s)) bad_length _ h

  -- the trailer that is read
  module _ (t : Trailer) (is : t ≡ stored_trailer (read_trailer (drop (length s - 8) s))) where
    abbrev limited : Bool
    limited = trailer_sound (held_trailer t)

    says : read_trailer (trailer_of s) ≡ held_trailer t
    unfolding trailer_of stored_trailer held_trailer
    says = ap held_trailer (sym is)

    -- tests 2 to 4, and tests 3 and 4
    abbrev from_3 : Result F.Trailer
    from_3 = require_at 0 (limited) bad_limits
        (require_at 0 (eqb (t.offset + 8 * t.steps + 8) (length s)) bad_offset (done (held_trailer t)))

    by_trailer : headed s ≡ require_at 0 (between shortest longest (length s)) bad_length
        (require_at 0 t.marked bad_mark from_3)
    unfolding headed held_trailer
    by_trailer = ap (λ (x : F.Trailer). require_at 0 (between shortest longest (length s)) bad_length
        (require_at 0 x.marked bad_mark
        (require_at 0 (trailer_sound x) bad_limits
        (require_at 0 (eqb (x.offset + 8 * x.steps + 8) (length s)) bad_offset (done x))))) says

    module _ (h : between shortest longest (length s) ≡ true) where
      to_2 : headed s ≡ require_at 0 t.marked bad_mark from_3
      to_2 = by_trailer ∙ passes 0 (between shortest longest (length s)) bad_length _ h

      pub mark_fault : t.marked ≡ false → headed s ≡ stopped bad_mark 0
      mark_fault e = to_2 ∙ refused 0 t.marked bad_mark _ e

      module _ (m : t.marked ≡ true) where
        to_3 : headed s ≡ from_3
        to_3 = to_2 ∙ passes 0 t.marked bad_mark _ m

        pub limits_fault : limited ≡ false → headed s ≡ stopped bad_limits 0
        limits_fault e = to_3 ∙ refused 0 (limited) bad_limits _ e

        pub offset_fault : limited ≡ true → (t.offset + 8 * t.steps + 8 ≡ length s → ⊥)
            → headed s ≡ stopped bad_offset 0
        offset_fault e f = to_3 ∙ passes 0 (limited) bad_limits _ e
            ∙ refused 0 (eqb (t.offset + 8 * t.steps + 8) (length s)) bad_offset _ (ne_eqb _ _ f)

        pub head_sound : limited ≡ true → t.offset + 8 * t.steps + 8 ≡ length s
            → headed s ≡ done (held_trailer t)
        head_sound e f = to_3 ∙ passes 0 (limited) bad_limits _ e
            ∙ passes 0 (eqb (t.offset + 8 * t.steps + 8) (length s)) bad_offset _ (eq-eqb _ _ f)

  -- ---- a verdict on them
  -- accepted: the sheet has a length in its range,
  head_range : verdict (headed s) ≡ Ok tt → (16 ≤ length s) × (length s ≤ 8792)
  unfolding headed
  head_range v =
      let d = accepted_done (headed s) v in
      length_range (length s) (passed_at 0 (between shortest longest (length s)) bad_length _ d.value d.is).test

  pub head_long : verdict (headed s) ≡ Ok tt → 16 ≤ length s
  head_long v = (head_range v).0

  -- its trailer has limits and an offset that pass, and the read goes on
  pub record HeadPasses (t : Trailer) : Type 0 where
    pub limits : T (trailer_sound (held_trailer t))
    pub fits : t.offset + 8 * t.steps + 8 ≡ length s
    pub goes_on : read s ≡ read_records s (held_trailer t)

  pub head_passes : verdict (headed s) ≡ Ok tt → (t : Trailer)
      → t ≡ stored_trailer (read_trailer (drop (length s - 8) s)) → HeadPasses t
  unfolding read held_trailer
  head_passes v t is =
      let d = accepted_done (headed s) v in
      let one = passed_at 0 (between shortest longest (length s)) bad_length _ d.value
      (sym (by_trailer t is) ∙ d.is) in
      let two = passed_at 0 t.marked bad_mark _ d.value one.result in
      let three = passed_at 0 (limited t is) bad_limits _ d.value two.result in
      let four = passed_at 0 (eqb (t.offset + 8 * t.steps + 8) (length s)) bad_offset _ d.value three.result in
      record {
        limits = three.test;
        fits = eqb→eq (t.offset + 8 * t.steps + 8) (length s) four.test;
        goes_on = require_at_passed 0 (between shortest longest (length s)) bad_length _ one.test
            ∙ ap (λ (x : F.Trailer). require_at 0 x.marked bad_mark (read_records s x)) (says t is)
            ∙ require_at_passed 0 t.marked bad_mark _ two.test;
      }

  -- refused: so is the read
  pub head_refused : (x : D.Refusal) (i : ℕ) → verdict (headed s) ≡ Err (refused_at x i) → read s ≡ stopped (cause x) i
  unfolding headed read read_records
  head_refused x i v = four_stopped _ _ _ _ _ _ (cause x) i (refused_stopped (headed s) x i v)

  pub same_refusal : (x : D.Refusal) (i : ℕ) → verdict (headed s) ≡ Err (refused_at x i) → Err (refused_at x i)
      ≡ verdict (read s)
  same_refusal x i v = ap (λ y. Err (refused_at y i)) (sym (refusal_cause x))
      ∙ sym (verdict_stopped (read s) (cause x) i (head_refused x i v))
