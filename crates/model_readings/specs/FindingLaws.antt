-- What each way out of an iteration finds.
use Rattle.std.specs.Prelude.{◌≡◌, refl, Bool, true, false, ◌||◌, List, [], ◌∷◌, ℕ, zero, suc, ◌≤◌, ◌<◌, min, max, leb, ℤ, pos, length, take, drop}
use Rattle.std.proofs.Common.{sym, ◌∙◌, ap, ap₂, subst, arith, le-leb, take_all}
use Rattle.std.proofs.Math.Option.{Option, none, some}
use Rattle.std.proofs.Math.Decide.{dec_le}
use Rattle.std.proofs.lemmas.Bool.{lt-leb}
use Rattle.std.specs.Int.Signed.{le_z, lt_z}
use Rattle.calculus.specs.Key.{key_width}
use Rattle.calculus.specs.Model as C
use Rattle.calculus.specs.Model.{most_degree, sound}
use Rattle.calculus.specs.Refusal.{bad_model, bad_step, leaves_box, bad_reading, Result, done, stopped, require_at}
use Rattle.calculus.specs.Refusal.{◌followed_by◌, at_place}
use Rattle.calculus.specs.Refusal as Rf
use Rattle.calculus.specs.Operations as Op
use Rattle.calculus.specs.Operations.{Ends}
use Rattle.calculus.specs.Tests.{all_zero, all_in_unit}
use Rattle.readings.specs.Readings as R
use Rattle.readings.specs.Readings.{in_order, contradicts, with_place, held}
use Rattle.model_types.specs.declared.Model.{Model}
use Rattle.model_types.specs.declared.Reading.{Reading}
use Rattle.model_types.specs.declared.Bounds.{Bounds}
use Rattle.model_types.specs.declared.Refusal.{Refusal}
use Rattle.model_types.specs.ModelStruct.{Verdict}
use Rattle.std.specs.Prelude.{Ok, Err}
use Rattle.model_types.specs.ModelStruct.{view, refusal, cause, bounds}
use Rattle.model_types.specs.ModelStructLaws.{cause_refusal}
use Rattle.model_call_tests.specs.Admission.{at_point}
use Rattle.model_readings.specs.ReadingStruct.{view_reading, finding}
use Rattle.model_readings.specs.RowIterations.{check_order, check_unused, check_within, check, found_in, phase_of}
use Rattle.model_readings.specs.declared.Phase.TheVariants.{Evaluation}

-- ---- the tests of one reading
module _ (i : ℕ) (r : R.Reading) where
  pub order_holds : in_order r ≡ true → finding (done none) ≡ finding (check_order i r)
  unfolding check_order require_at
  order_holds e = rw e

  pub order_fails : in_order r ≡ false → finding (stopped bad_reading i) ≡ finding (check_order i r)
  unfolding check_order require_at
  order_fails e = rw e

  module _ (n : ℕ) where
    pub unused_holds : all_zero (drop n r.point) ≡ true → finding (done none) ≡ finding (check_unused n i r)
    unfolding check_unused require_at
    unused_holds e = rw e

    pub unused_fails : all_zero (drop n r.point) ≡ false → finding (stopped bad_step i) ≡ finding
        (check_unused n i r)
    unfolding check_unused require_at
    unused_fails e = rw e

    pub within_holds : all_in_unit (take n r.point) ≡ true → finding (done none) ≡ finding (check_within n i r)
    unfolding check_within require_at
    within_holds e = rw e

    pub within_fails : all_in_unit (take n r.point) ≡ false → finding (stopped leaves_box i) ≡ finding
        (check_within n i r)
    unfolding check_within require_at
    within_fails e = rw e

-- there are eight coordinates
pub drop_eight : (n : ℕ) (xs : List ℤ) → length xs ≡ 8 → drop (min n key_width) xs ≡ drop n xs
unfolding key_width
drop_eight n xs e = go (dec_le n 8)
  where
    none_left : (n : ℕ) (l : List ℤ) → length l ≤ n → drop n l ≡ []
    none_left zero [] h = refl
    none_left (suc n) [] h = refl
    none_left zero (x ∷ l) h = absurd (omega arith)
    none_left (suc n) (x ∷ l) h = none_left n l (omega arith)

    go : Dec (n ≤ 8) → drop (min n 8) xs ≡ drop n xs
    go (yes h) = let m : min n 8 ≡ n = omega arith in ap (λ i. drop i xs) m
    go (no h) = let m : min n 8 ≡ 8 = omega arith in
        ap (λ i. drop i xs) m ∙ none_left 8 xs (omega arith) ∙ sym (none_left n xs (omega arith))

pub take_eight : (n : ℕ) (xs : List ℤ) → length xs ≡ 8 → take (min n key_width) xs ≡ take n xs
unfolding key_width
take_eight n xs e = go (dec_le n 8)
  where
    go : Dec (n ≤ 8) → take (min n 8) xs ≡ take n xs
    go (yes h) = let m : min n 8 ≡ n = omega arith in ap (λ i. take i xs) m
    go (no h) = let m : min n 8 ≡ 8 = omega arith in
        ap (λ i. take i xs) m ∙ take_all 8 xs (omega arith) ∙ sym (take_all n xs (omega arith))

-- ---- the phases
-- its case finds what its number does
pub phase_found : (p i : ℕ) (f : C.Model) (r : R.Reading) → found_in (phase_of p) i f r ≡ check p i f r
unfolding check found_in phase_of
phase_found zero i f r = refl
phase_found (suc zero) i f r = refl
phase_found (suc (suc zero)) i f r = refl
phase_found (suc (suc (suc p))) i f r = refl

-- any number but the first three is one of the last phase
pub last_is_evaluation : (p : ℕ) → (p ≡ 0 → ⊥) → (p ≡ 1 → ⊥) → (p ≡ 2 → ⊥) → phase_of p ≡ Evaluation
unfolding phase_of
last_is_evaluation zero a b c = absurd (a refl)
last_is_evaluation (suc zero) a b c = absurd (b refl)
last_is_evaluation (suc (suc zero)) a b c = absurd (c refl)
last_is_evaluation (suc (suc (suc p))) a b c = refl
