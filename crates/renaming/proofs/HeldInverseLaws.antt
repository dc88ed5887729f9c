-- The book of a sheet renamed and renamed back is the book, and renaming keeps the length of the sheet.
use Rattle.std.specs.Prelude.{◌≡◌, Bool, ◌&&◌, eqb, length}
use Rattle.std.proofs.Math.Path.{refl, sym, ap, ap₂}
use Rattle.std.proofs.Common.{◌∙◌, subst, arith}
use Rattle.std.proofs.Math.Bool.{true, false, cond}
use mathlib.Core.List.{List, [], ◌∷◌, map}
use Rattle.std.proofs.Math.Option.{Option, some, none}
use Prim.Native.Nat.{ℕ, zero, suc, ◌+◌, ◌*◌, ◌≤◌, ◌<◌}
use Rattle.std.proofs.Math.Dec.{T, ltb}
use Rattle.std.proofs.Math.IntN.{nat_abs}
use Rattle.std.proofs.Math.ListN.{length-map, length-append, get_elem?}
use Rattle.calculus.specs.Key.{key_width, key_limit}
use Rattle.calculus_laws.specs.MonomialKeyLaws.{key_monomial, fits_key, fits_below}
use Rattle.calculus.specs.Terms.{Terms, every}
use Rattle.calculus.specs.Model.{fits}
use Rattle.calculus.specs.Refusal.{all_from}
use Rattle.calculus.specs.Tests.{variable_sound}
use Rattle.calculus.specs.Book.{Step, variable, substitute, antiderivative, Book, step_sound}
use Rattle.calculus_laws.specs.TestLaws.{and_left, and_right}
use Rattle.calculus_laws.specs.TermsLaws.{every_head, every_tail}
use Rattle.calculus_laws.specs.SoundLaws.{Canonical}
use Rattle.format.specs.Bytes.{join}
use Rattle.format.specs.HeldBook.{HeldTerm, HeldModel, HeldStep, HeldBook, view_held_term, view_model, form, forms}
use Rattle.format.specs.HeldBook.{step_of, view_step, outline, outline_of, held_model_sound, held_step_sound}
use Rattle.format.specs.HeldBook.{HeldPasses}
use Rattle.format.specs.HeldBookLaws.{StandsFor, stands_for}
use Rattle.format.specs.Format.{head_length, term_length, step_length, trailer_length, model_bytes, models_bytes}
use Rattle.format.specs.Format.{sheet_bytes}
use Rattle.format.proofs.ReadBackLaws.{length_model, sheet_length}
use Rattle.renaming.specs.Reordering.{Reordering, inverse, rename_variable, rename_terms, held_term}
use Rattle.renaming.specs.Reordering.{names_variable, rename_held_model, rename_field, rename_held_step}
use Rattle.renaming.specs.Reordering.{rename_held}
use Rattle.renaming.proofs.RenamedTermsLaws.{InOrder, length_renamed}
use Rattle.renaming.proofs.InverseLaws.{map_there_and_back, variable_back, terms_back}
use Rattle.renaming.proofs.RenamedHeldLaws.{few, low, same_n, held_canonical, viewed_in_order, renamed_viewed}
use Rattle.renaming.proofs.RenamedHeldLaws.{held_renamed_passes}

-- ---- terms
-- a term whose monomial fits is that of the monomial's key
held_view : (n d : ℕ) → n ≤ key_width → d < 16 → (l : List HeldTerm)
    → T (every (λ k c. fits n d k) (map (view_held_term n) l)) → map held_term (map (view_held_term n) l) ≡ l
unfolding view_held_term held_term
held_view n d ln ld [] h = refl
held_view n d ln ld (t ∷ l) h = ap₂ ◌∷◌
    (ap (λ z. record { key = z; coefficient = t.coefficient }) (key_monomial n t.key ln inside))
    (held_view n d ln ld l (every_tail (λ k c. fits n d k) (view_held_term n t) _ h))
  where
    inside : t.key < key_limit
    inside = fits_below n t.key
        (fits_key n d t.key ln ld (every_head (λ k c. fits n d k) (view_held_term n t) _ h))

-- ---- steps
-- a form whose other fields are 0 is the step that is found
form_is : (u : ℕ) (s t : Step) → step_of (some (form u s)) ≡ some t → s ≡ t
unfolding step_of
form_is u s t e = go (eqb u 0) e
  where
    go : (b : Bool) → elim b as (λ b. Option Step) [ true ↦ some s | false ↦ none ] ≡ some t → s ≡ t
    go true e = cc
    go false e = let z : ◌≡◌ {A = ℕ} 0 1 = cc in absurd (omega arith)

-- and a code beyond the last has none
none_is : {A : Type 0} (t : Step) → step_of none ≡ some t → A
unfolding step_of
none_is t e = let z : ◌≡◌ {A = ℕ} 0 1 = cc in absurd (omega arith)

module _ (b : Book) (ρ : Reordering b.vars) (i : ℕ) (s : HeldStep) (t : Step) (h : T (step_sound b i t)) where
  -- what the form of a code asks of the fields
  asked : (u : ℕ) (r : Step) → step_of (some (form u r)) ≡ some t → T (step_sound b i r)
  asked u r e = subst (λ q. T (step_sound b i q)) (sym (form_is u r t e)) h

  -- so a field that names a variable names one of n
  field_sound : (c : ℕ) → step_of (get_elem? (forms s) c) ≡ some t → T (names_variable c)
      → T (variable_sound b.vars s.v)
  unfolding forms names_variable step_sound
  field_sound zero e q = absurd q
  field_sound (suc zero) e q = absurd q
  field_sound (suc (suc zero)) e q = asked (s.a + s.b + nat_abs s.value) (variable s.v) e
  field_sound (suc (suc (suc zero))) e q = absurd q
  field_sound (suc (suc (suc (suc zero)))) e q = absurd q
  field_sound (suc (suc (suc (suc (suc zero))))) e q = absurd q
  field_sound (suc (suc (suc (suc (suc (suc zero)))))) e q = absurd q
  field_sound (suc (suc (suc (suc (suc (suc (suc zero))))))) e q = and_right (ltb s.a i && ltb s.b i) _
      (asked (nat_abs s.value) (substitute s.a s.b s.v) e)
  field_sound (suc (suc (suc (suc (suc (suc (suc (suc zero)))))))) e q = absurd q
  field_sound (suc (suc (suc (suc (suc (suc (suc (suc (suc zero))))))))) e q = absurd q
  field_sound (suc (suc (suc (suc (suc (suc (suc (suc (suc (suc zero)))))))))) e q = and_right (ltb s.a i) _
      (asked (s.b + nat_abs s.value) (antiderivative s.a s.v) e)
  field_sound (suc (suc (suc (suc (suc (suc (suc (suc (suc (suc (suc c))))))))))) e q = none_is t e

  field_back : (c : ℕ) → step_of (get_elem? (forms s) c) ≡ some t
      → rename_field (inverse ρ) c (rename_field ρ c s.v) ≡ s.v
  unfolding rename_field
  field_back c e = go (names_variable c) (field_sound c e)
    where
      go : (q : Bool) → (T q → T (variable_sound b.vars s.v))
          → cond q (rename_variable (inverse ρ) (cond q (rename_variable ρ s.v) s.v))
          (cond q (rename_variable ρ s.v) s.v) ≡ s.v
      go true k = variable_back ρ s.v (k tt)
      go false k = refl

-- ---- the book
module _ (h : HeldBook) (p : HeldPasses h) (ρ : Reordering h.n) where
  -- the terms of a model that passes
  module _ (m : HeldModel) (t : T (held_model_sound (outline_of h) m)) where
    abbrev old : Terms
    old = map (view_held_term m.n) m.terms

    c : Canonical h.n h.d (view_model m)
    c = held_canonical h p ρ m t

    in_order : InOrder h.n old
    in_order = viewed_in_order ρ h.d m (few h p ρ) (low h p ρ) (same_n h p ρ m t) c

    held_back : map held_term old ≡ m.terms
    held_back = held_view m.n h.d (rw (same_n h p ρ m t) (few h p ρ)) (low h p ρ) m.terms
        (subst (λ k. T (every (λ j c. fits k h.d j) old)) (sym (same_n h p ρ m t)) fitting)
      where
        fitting : T (every (λ j c. fits h.n h.d j) old)
        fitting = unfold view_model in c.fitting

    terms_there_and_back : map held_term (rename_terms (inverse ρ)
        (map (view_held_term m.n) (map held_term (rename_terms ρ old)))) ≡ m.terms
    unfolding view_model
    terms_there_and_back = ap (λ q. map held_term (rename_terms (inverse ρ) q))
        (renamed_viewed ρ h.d m (few h p ρ) (low h p ρ) (same_n h p ρ m t) c)
        ∙ ap (map held_term) (terms_back ρ old in_order c.nonzero_terms) ∙ held_back

    model_there_and_back : rename_held_model (inverse ρ) (rename_held_model ρ m) ≡ m
    unfolding rename_held_model
    model_there_and_back = λ i. record { n = m.n; radius = m.radius; terms = terms_there_and_back i }

    -- as many as before
    count_renamed : length (rename_held_model ρ m).terms ≡ length m.terms
    unfolding rename_held_model
    count_renamed = length-map (rename_terms ρ old) held_term ∙ length_renamed ρ old in_order
        ∙ length-map m.terms (view_held_term m.n)

  step_there_and_back : (i : ℕ) (s : HeldStep) → T (held_step_sound (outline_of h) i s)
      → rename_held_step (inverse ρ) (rename_held_step ρ s) ≡ s
  step_there_and_back i s t = go (stands_for (outline_of h) i s t)
    where
      go : StandsFor (outline_of h) i s → rename_held_step (inverse ρ) (rename_held_step ρ s) ≡ s
      go f = unfold rename_held_step in
          (let same : rename_field (inverse ρ) s.code (rename_field ρ s.code s.v) ≡ s.v
          = field_of f.step f.passes f.is_view in
          (λ j. record { code = s.code; a = s.a; b = s.b; v = same j; value = s.value }))
        where
          field_of : (r : Step) → T (step_sound (outline_of h) i r) → view_step s ≡ some r
              → rename_field (inverse ρ) s.code (rename_field ρ s.code s.v) ≡ s.v
          field_of r k e = unfold outline_of outline view_step in field_back (outline_of h) ρ i s r k s.code e

  pub held_there_and_back : rename_held (inverse ρ) (rename_held ρ h) ≡ h
  unfolding rename_held
  held_there_and_back = ap₂ (λ ms l. record { n = h.n; d = h.d; models = ms; steps = l })
      (map_there_and_back (rename_held_model ρ) (rename_held_model (inverse ρ)) 0
      (λ i. held_model_sound (outline_of h)) h.models (λ i m t. model_there_and_back m t) p.models)
      (map_there_and_back (rename_held_step ρ) (rename_held_step (inverse ρ)) 0
      (held_step_sound (outline_of h)) h.steps step_there_and_back p.steps)

  -- ---- lengths
  model_length_renamed : (m : HeldModel) → T (held_model_sound (outline_of h) m)
      → length (model_bytes (rename_held_model ρ m)) ≡ length (model_bytes m)
  model_length_renamed m t = length_model (rename_held_model ρ m)
      ∙ ap₂ (λ n k. head_length + term_length n * k) vars_same (count_renamed m t)
      ∙ sym (length_model m)
    where
      vars_same : (rename_held_model ρ m).n ≡ m.n
      vars_same = unfold rename_held_model in refl

  models_length_renamed : (i : ℕ) (l : List HeldModel) → T (all_from i (λ i. held_model_sound (outline_of h)) l)
      → length (join (map model_bytes (map (rename_held_model ρ) l))) ≡ length (join (map model_bytes l))
  unfolding all_from join
  models_length_renamed i [] t = refl
  models_length_renamed i (m ∷ l) t = length-append (model_bytes (rename_held_model ρ m)) _
      ∙ ap₂ ◌+◌ (model_length_renamed m (and_left (held_model_sound (outline_of h) m) _ t))
      (models_length_renamed (suc i) l (and_right (held_model_sound (outline_of h) m) _ t))
      ∙ sym (length-append (model_bytes m) _)

  pub sheet_length_renamed : length (sheet_bytes (rename_held ρ h)) ≡ length (sheet_bytes h)
  sheet_length_renamed = sheet_length (rename_held ρ h) (held_renamed_passes h p ρ)
      ∙ ap₂ (λ a k. a + step_length * k + trailer_length) models steps ∙ sym (sheet_length h p)
    where
      models : length (models_bytes (rename_held ρ h)) ≡ length (models_bytes h)
      models = unfold rename_held models_bytes in models_length_renamed 0 h.models p.models

      steps : length (rename_held ρ h).steps ≡ length h.steps
      steps = unfold rename_held in length-map h.steps (rename_held_step ρ)
