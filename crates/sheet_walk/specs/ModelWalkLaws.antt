-- The record at a place and the loop over models: what holds of them, and one law for each way out of a test, for the
-- loop's start, an iteration and its end.
use Rattle.std.specs.Prelude.{◌≡◌, Bool, ◌&&◌, ℕ, zero, suc, ◌+◌, ◌*◌, ◌-◌, ◌≤◌, ◌<◌, min, ℤ, pos, drop, replicate, Option, Some, None}
use Rattle.std.proofs.Math.Path.{refl, sym, ap, ap₂}
use Rattle.std.proofs.Common.{◌∙◌, subst, arith, length-append, drop-drop, le-leb, leb-false}
use Rattle.std.proofs.Math.Bool.{true, false, cond}
use mathlib.Core.List.{List, [], ◌∷◌, ◌++◌}
use Rattle.std.proofs.Math.Dec.{T, leb, leb→le}
use Rattle.std.proofs.Math.ListN.{length, length-drop}
use Rattle.std.proofs.lemmas.Bool.{lt-leb}
use Rattle.calculus.specs.Model.{most_terms, sound}
use Rattle.model_types.specs.ModelStruct.{view}
use Rattle.model_slices.specs.HandedModels.{handed, borrowed, over}
use Rattle.format.specs.Bytes.{byte, u32}
use Rattle.format.specs.HeldBook.{HeldTerm, HeldModel, view_model}
use Rattle.format.specs.Format.{term_length, read_terms, read_model, model_length}
use Rattle.format.specs.ReadLoopLaws.{model_at_least, and_false}
use Rattle.sheet_book.specs.BookStruct.{stored_model}
use Rattle.sheet_walk.specs.Walk.{held_keys, held_coefficients, record_sound, record_taken, RecordRead}
use Rattle.sheet_walk.specs.Walk.{Walk, walk, models_walked}
use Rattle.sheet_walk.specs.TermWalkLaws.{length_at, many_terms, terms_here, read_view, read_struct}

-- slices with all places have those that a count names
pub borrowed_long : (count k z : ℕ) → most_terms ≤ k → most_terms ≤ z → borrowed count k z ≡ true
unfolding borrowed
borrowed_long count k z a b =
    rw (le-leb (min count most_terms) k (omega arith), le-leb (min count most_terms) z (omega arith))

-- ---- the record at the head
module _ (n d : ℕ) (s : List ℕ) where
  -- by its test
  taken_not : record_sound n d s ≡ false → record_taken n d s ≡ None
  unfolding record_taken
  taken_not h = ap (λ b. cond b (Some (model_length n s)) None) h

  taken_all : record_sound n d s ≡ true → record_taken n d s ≡ Some (model_length n s)
  unfolding record_taken
  taken_all h = ap (λ b. cond b (Some (model_length n s)) None) h

  -- and back
  pub taken_none : None ≡ record_taken n d s → record_sound n d s ≡ false
  taken_none e = by_test (record_sound n d s) refl
    where
      by_test : (b : Bool) → record_sound n d s ≡ b → record_sound n d s ≡ false
      by_test false h = h
      by_test true h = let z : None ≡ Some (model_length n s) = e ∙ taken_all h in cc

  pub taken_some : (taken : ℕ) → Some taken ≡ record_taken n d s → record_sound n d s ≡ true
  taken_some taken e = by_test (record_sound n d s) refl
    where
      by_test : (b : Bool) → record_sound n d s ≡ b → record_sound n d s ≡ true
      by_test false h = let z : Some taken ≡ None = e ∙ taken_not h in cc
      by_test true h = h

  -- those of one that passes
  pub taken_length : (taken : ℕ) → Some taken ≡ record_taken n d s → taken ≡ model_length n s
  taken_length taken e = let z : Some taken ≡ Some (model_length n s) = e ∙ taken_all (taken_some taken e) in cc

  -- one that passes fits
  pub sound_fits : record_sound n d s ≡ true → model_length n s ≤ length s
  unfolding record_sound
  sound_fits h = first (leb (model_length n s) (length s)) refl
    where
      first : (b : Bool) → leb (model_length n s) (length s) ≡ b → model_length n s ≤ length s
      first true e = leb→le (model_length n s) (length s) (subst T (sym e) tt)
      first false e =
          let z : false ≡ true = sym (ap (λ b. b && sound d (view_model (read_model n s))) e) ∙ h in
          absurd (subst T (sym z) tt)

  -- what is read of a faulty one
  faulty : (ks ks₂ : List ℕ) (cs cs₂ : List ℤ) → record_sound n d s ≡ false → RecordRead n d s ks ks₂ cs cs₂ None
  faulty ks ks₂ cs cs₂ h = record {
    taken_is = sym (taken_not h);
    keys_are = λ t. absurd (subst T (sym t ∙ h) tt);
    coefficients_are = λ t. absurd (subst T (sym t ∙ h) tt);
  }

-- ---- the record at a place
module _ (n d at : ℕ) (s : List ℕ) (ks ks₂ : List ℕ) (cs cs₂ : List ℤ) where
  -- it does not fit,
  no_room : length s - at < model_length n (drop at s) → RecordRead n d (drop at s) ks ks₂ cs cs₂ None
  unfolding record_sound
  no_room h =
      let l : length (drop at s) < model_length n (drop at s) = omega (arith, length-drop at s) in
      faulty n d (drop at s) ks ks₂ cs cs₂ (rw (lt-leb (model_length n (drop at s)) (length (drop at s)) l))

  -- as one of fewer bytes than the least record,
  pub no_head : length s - at < 5 → RecordRead n d (drop at s) ks ks₂ cs cs₂ None
  no_head h = no_room (omega (arith, model_at_least n (drop at s)))

  module _ (total : ℕ) (e : total ≡ byte (at + 4) s) where
    -- or its terms do not,
    pub no_terms : length s - at < 5 + term_length n * total → RecordRead n d (drop at s) ks ks₂ cs cs₂ None
    no_terms h = no_room (omega (arith, h, length_at s n at, ap (λ c. term_length n * c) e))

    -- or its model breaks a rule:
    breaks : sound d (view_model (read_model n (drop at s))) ≡ false → RecordRead n d (drop at s) ks ks₂ cs cs₂ None
    unfolding record_sound
    breaks h = faulty n d (drop at s) ks ks₂ cs cs₂
        (and_false (leb (model_length n (drop at s)) (length (drop at s))) _ h)

    -- too many terms,
    pub too_many : most_terms < total → RecordRead n d (drop at s) ks ks₂ cs cs₂ None
    too_many h = breaks (many_terms s n at d (omega arith))

    -- or another one, by its terms in two slices
    module _ (radius : ℕ) (r : radius ≡ u32 (drop at s)) (few : total ≤ most_terms)
        (k : ks₂ ≡ over (held_keys (read_terms n total (drop (at + 5) s))) ks)
        (c : cs₂ ≡ over (held_coefficients (read_terms n total (drop (at + 5) s))) cs) where
      in_slices : sound d (view (handed n total radius ks₂ cs₂)) ≡ sound d (view_model (read_model n (drop at s)))
      in_slices = ap₂ (λ x y. sound d (view (handed n total radius x y))) k c
          ∙ ap (sound d) (read_view s n at total radius e r (omega arith) ks cs)

      pub unsound : sound d (view (handed n total radius ks₂ cs₂)) ≡ false
          → RecordRead n d (drop at s) ks ks₂ cs cs₂ None
      unsound h = breaks (sym in_slices ∙ h)

      -- else it passes
      pub passes : 5 + term_length n * total ≤ length s - at → sound d (view (handed n total radius ks₂ cs₂)) ≡ true
          → RecordRead n d (drop at s) ks ks₂ cs cs₂ (Some (5 + term_length n * total))
      unfolding record_sound
      passes l h =
          let room : model_length n (drop at s) ≤ length (drop at s) =
          omega (arith, l, length-drop at s, length_at s n at, ap (λ c. term_length n * c) e) in
          let holds : sound d (view_model (read_model n (drop at s))) ≡ true = sym in_slices ∙ h in
          let all : record_sound n d (drop at s) ≡ true =
          rw (le-leb (model_length n (drop at s)) (length (drop at s)) room, holds) in
          record {
            taken_is = ap (λ c. Some (5 + term_length n * c)) e
                ∙ sym (taken_all n d (drop at s) all ∙ ap Some (length_at s n at));
            keys_are = λ t. k ∙ ap (λ (l : List HeldTerm). over (held_keys l) ks) (terms_here s n at total e);
            coefficients_are = λ t.
                c ∙ ap (λ (l : List HeldTerm). over (held_coefficients l) cs) (terms_here s n at total e);
          }

-- one that passes has not too many terms
pub sound_few : (n d at : ℕ) (s : List ℕ) → record_sound n d (drop at s) ≡ true → byte (at + 4) s ≤ most_terms
unfolding record_sound
sound_few n d at s h = by_test (leb (byte (at + 4) s) most_terms) refl
  where
    by_test : (b : Bool) → leb (byte (at + 4) s) most_terms ≡ b → byte (at + 4) s ≤ most_terms
    by_test true e = leb→le (byte (at + 4) s) most_terms (subst T (sym e) tt)
    by_test false e = absurd (subst T (sym h ∙ and_false (leb (model_length n (drop at s)) (length (drop at s))) _
        (many_terms s n at d (leb-false (byte (at + 4) s) most_terms e))) tt)

-- ---- a record that was read and passed
module _ (n d at : ℕ) (s : List ℕ) {ks ks₂ : List ℕ} {cs cs₂ : List ℤ} {taken : ℕ}
    (h : RecordRead n d (drop at s) ks ks₂ cs cs₂ (Some taken)) where
  pub read_passed : record_sound n d (drop at s) ≡ true
  read_passed = taken_some n d (drop at s) taken h.taken_is

  -- its first bytes are there
  pub head_inside : at ≤ length s → at + 5 ≤ length s
  head_inside l = omega (
    arith,
    model_at_least n (drop at s),
    sound_fits n d (drop at s) read_passed,
    length-drop at s,
    l,
  )

  -- from zeros on, two arrays are those of its struct
  pub struct_read : ks ≡ replicate most_terms 0 → cs ≡ replicate most_terms (pos 0) → (total radius : ℕ)
      → total ≡ byte (at + 4) s → radius ≡ u32 (drop at s)
      → record { n = n; count = total; radius = radius; keys = ks₂; coefficients = cs₂ }
      ≡ stored_model (read_model n (drop at s))
  struct_read a b total radius e r =
      ap₂ (λ (k : List ℕ) (c : List ℤ). record {
        n = n;
        count = total;
        radius = radius;
        keys = k;
        coefficients = c;
      })
      (h.keys_are read_passed ∙ ap (over (held_keys (read_model n (drop at s)).terms)) a)
      (h.coefficients_are read_passed ∙ ap (over (held_coefficients (read_model n (drop at s)).terms)) b)
      ∙ read_struct s n at total radius e r (sound_few n d at s read_passed)

-- ---- a walk by the record at the head
walk_stop : (n d : ℕ) (before : List HeldModel) (c : ℕ) (s : List ℕ) → record_sound n d s ≡ false
    → walk n d before c s ≡ record { passed = before; left = s }
unfolding walk
walk_stop n d before zero s h = refl
walk_stop n d before (suc c) s h = rw (h, walk)

walk_on : (n d : ℕ) (before : List HeldModel) (c : ℕ) (s : List ℕ) → record_sound n d s ≡ true
    → walk n d before (suc c) s ≡ walk n d (before ++ (read_model n s ∷ [])) c (drop (model_length n s) s)
unfolding walk
walk_on n d before c s h = rw (h, walk)

walk_end : (n d : ℕ) (before : List HeldModel) (s : List ℕ)
    → walk n d before 0 s ≡ record { passed = before; left = s }
unfolding walk
walk_end n d before s = refl

-- ---- before model k: `before` are those read
pub record ModelsSoFar (s : List ℕ) (n d count : ℕ) (before : List HeldModel) (at k : ℕ) : Type 0 where
  pub number : length before ≡ k
  pub most : k ≤ count
  pub within : at ≤ length s
  pub rest : walk n d before (count - k) (drop at s) ≡ walk n d [] count s

pub models_first : (s : List ℕ) (n d count : ℕ) → ModelsSoFar s n d count [] 0 0
models_first s n d count = record {
  number = refl;
  most = omega arith;
  within = omega arith;
  rest = let e : count - 0 ≡ count = omega arith in ap (λ c. walk n d [] c s) e;
}

module _ (s : List ℕ) (n d count : ℕ) (before : List HeldModel) (at k : ℕ)
    (h : ModelsSoFar s n d count before at k) where
  -- the walk ends here
  abbrev pub Ends : Type 0
  Ends = walk n d [] count s ≡ record { passed = before; left = drop at s }

  stop : record_sound n d (drop at s) ≡ false → Ends
  stop f = sym h.rest ∙ walk_stop n d before (count - k) (drop at s) f

  -- at the first fault,
  pub models_fault : None ≡ record_taken n d (drop at s) → Ends
  models_fault e = stop (taken_none n d (drop at s) e)

  -- after the last
  pub models_end : count ≤ k → Ends
  models_end l =
      let e : count - k ≡ 0 = omega arith in
      sym h.rest ∙ ap (λ c. walk n d before c (drop at s)) e ∙ walk_end n d before (drop at s)

  -- an iteration
  pub models_iteration : k < count → (taken : ℕ) → Some taken ≡ record_taken n d (drop at s)
      → ModelsSoFar s n d count (before ++ (read_model n (drop at s) ∷ [])) (at + taken) (k + 1)
  models_iteration l taken e = record {
    number = omega (arith, length-append before (read ∷ []), h.number);
    most = omega arith;
    within = omega (arith, whole, sound_fits n d (drop at s) passed, length-drop at s, h.within);
    rest =
        let c : count - k ≡ suc (count - (k + 1)) = omega arith in
        ap (λ r. walk n d (before ++ (read ∷ [])) (count - (k + 1)) r)
        (ap (λ j. drop (at + j) s) whole ∙ sym (drop-drop (model_length n (drop at s)) at s))
        ∙ sym (walk_on n d before (count - (k + 1)) (drop at s) passed)
        ∙ ap (λ j. walk n d before j (drop at s)) (sym c) ∙ h.rest;
  }
    where
      read : HeldModel
      read = read_model n (drop at s)

      passed : record_sound n d (drop at s) ≡ true
      passed = taken_some n d (drop at s) taken e

      whole : taken ≡ model_length n (drop at s)
      whole = taken_length n d (drop at s) taken e

  -- how far the walk goes where it ends
  pub walk_place : Ends → k ≡ length (walk n d [] count s).passed
  walk_place f = sym (ap (λ (w : Walk). length w.passed) f ∙ h.number)

  pub walk_after : Ends → at ≡ length s - length (walk n d [] count s).left
  walk_after f =
      let e : length s - (length s - at) ≡ at = omega (arith, h.within) in
      sym (ap (λ (w : Walk). length s - length w.left) f ∙ ap (λ j. length s - j) (length-drop at s) ∙ e)

-- ---- the same, of the loop that keeps nothing
pub record ModelsPassed (s : List ℕ) (n d count : ℕ) (ks : List ℕ) (cs : List ℤ) (at k : ℕ) : Type 0 where
  pub before : List HeldModel
  pub so_far : ModelsSoFar s n d count before at k
  pub keys_long : length ks ≡ most_terms
  pub coefficients_long : length cs ≡ most_terms

module _ {s : List ℕ} {n d count : ℕ} {ks : List ℕ} {cs : List ℤ} {at k : ℕ}
    (h : ModelsPassed s n d count ks cs at k) where
  -- what the code answers when it leaves the loop
  pub models_answer : Ends s n d count h.before at k h.so_far
      → record { place = k; end = at } ≡ models_walked n d count s
  unfolding models_walked
  models_answer f = ap₂ (λ p e. record { place = p; end = e })
      (walk_place s n d count h.before at k h.so_far f) (walk_after s n d count h.before at k h.so_far f)
