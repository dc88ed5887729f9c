-- A renamed held book stands for the renamed book, and passes the tests.
use Rattle.std.proofs.Math.Path.{◌≡◌, refl, sym, ap, ap₂}
use Rattle.std.proofs.Common.{◌∙◌, subst, arith}
use Rattle.std.specs.Prelude.{Bool, eqb}
use Rattle.std.proofs.Math.Bool.{true, false}
use mathlib.Core.List.{List, [], ◌∷◌, map}
use Rattle.std.proofs.Math.Option.{Option, some, none}
use Prim.Native.Nat.{ℕ, zero, suc, ◌+◌, ◌≤◌, ◌<◌}
use Rattle.std.proofs.Math.Dec.{T}
use Rattle.std.proofs.Math.IntN.{nat_abs}
use Rattle.std.proofs.lemmas.List.{length-map}
use Rattle.std.proofs.Math.ListN.{get_elem?}
use Rattle.algebra.specs.Integer.{minus}
use Rattle.calculus.specs.Key.{key_width, key, monomial_of}
use Rattle.calculus_laws.specs.KeyLaws.{below_degree}
use Rattle.calculus_laws.specs.MonomialKeyLaws.{monomial_key}
use Rattle.calculus.specs.Terms.{Terms, every}
use Rattle.calculus.specs.Model.{fits, sound}
use Rattle.calculus.specs.Refusal.{all_from}
use Rattle.calculus.specs.Tests.{vars_sound}
use Rattle.calculus.specs.Book.{Step, input, constant, variable, negate, add, subtract, multiply, substitute, sweep}
use Rattle.calculus.specs.Book.{quotient, antiderivative, Book, model_sound, step_sound}
use Rattle.calculus_laws.specs.TestLaws.{and_left, and_right, both}
use Rattle.calculus_laws.specs.TermsLaws.{every_head, every_tail}
use Rattle.calculus_laws.specs.FitsLaws.{fits_length, fits_degree}
use Rattle.calculus_laws.specs.SoundLaws.{Canonical, sound_parts}
use Rattle.calculus_laws.specs.BookLaws.{model_vars}
use Rattle.calculus_laws.specs.BookSoundLaws.{vars_pass}
use Rattle.format.specs.Fields as F
use Rattle.format.specs.HeldBook.{HeldModel, HeldStep, HeldBook, view_held_term, view_model, form, forms, step_of}
use Rattle.format.specs.HeldBook.{view_step, view_steps, view_book, outline, outline_of, held_model_sound}
use Rattle.format.specs.HeldBook.{held_step_sound, HeldPasses}
use Rattle.format.specs.HeldBookLaws.{StandsFor, stands_for, view_more, view_passes}
use Rattle.format.proofs.ReadBackLaws.{limits}
use Rattle.renaming.specs.Reordering.{Reordering, rename_terms, rename_model, rename_step, rename_book, held_term}
use Rattle.renaming.specs.Reordering.{names_variable, rename_held_model, rename_field, rename_held_step}
use Rattle.renaming.specs.Reordering.{rename_held}
use Rattle.renaming.proofs.RenamedTermsLaws.{InOrder}
use Rattle.renaming.proofs.RenamedModelLaws.{canonical_in_order, canonical_renamed}
use Rattle.renaming.proofs.RenamedTestLaws.{all_from_map, rules_renamed, step_sound_renamed}

-- the codes whose field v is renamed are those whose field v test 6 takes for a variable
pub names_agree : (code : ℕ) → names_variable code ≡ F.names_variable code
unfolding names_variable F.names_variable
names_agree code = refl

-- ---- terms
-- a monomial that fits is that of its key
view_key : (n d : ℕ) (k : List ℕ) → n ≤ key_width → d < 16 → T (fits n d k) → monomial_of n (key key_width k) ≡ k
view_key n d k l s h = ap (λ i. monomial_of i (key key_width k)) (sym (fits_length n d k h))
    ∙ monomial_key k (omega (arith, fits_length n d k h)) (below_degree 16 k (omega (arith, fits_degree n d k h)))

-- terms that fit are those that their keys stand for
view_held : (n d : ℕ) → n ≤ key_width → d < 16 → (p : Terms) → T (every (λ k c. fits n d k) p)
    → map (view_held_term n) (map held_term p) ≡ p
unfolding view_held_term held_term
view_held n d l s [] h = refl
view_held n d l s (t ∷ p) h = ap₂ ◌∷◌
    (ap (λ k. record { coefficient = t.coefficient; exponents = k })
    (view_key n d t.exponents l s (every_head (λ k c. fits n d k) t p h)))
    (view_held n d l s p (every_tail (λ k c. fits n d k) t p h))

module _ {n : ℕ} (ρ : Reordering n) where
  -- ---- models
  module _ (d : ℕ) (m : HeldModel) (l : n ≤ key_width) (s : d < 16) (e : m.n ≡ n)
      (c : Canonical n d (view_model m)) where
    -- its terms
    abbrev pub viewed : Terms
    viewed = map (view_held_term m.n) m.terms

    pub viewed_in_order : InOrder n viewed
    unfolding view_model
    viewed_in_order = canonical_in_order c

    -- renamed, they are those of their keys
    pub renamed_viewed : map (view_held_term m.n) (map held_term (rename_terms ρ viewed)) ≡ rename_terms ρ viewed
    renamed_viewed = ap (λ k. map (view_held_term k) (map held_term (rename_terms ρ viewed))) e
        ∙ view_held n d l s (rename_terms ρ viewed) fitting
      where
        fitting : T (every (λ k c. fits n d k) (rename_terms ρ viewed))
        fitting = unfold view_model rename_model in (canonical_renamed ρ d (view_model m) c).fitting

    pub view_model_renamed : view_model (rename_held_model ρ m) ≡ rename_model ρ (view_model m)
    unfolding view_model rename_held_model rename_model
    view_model_renamed = λ i. record { vars = m.n; radius = m.radius; terms = renamed_viewed i }

  -- ---- steps
  -- a form whose other fields are 0 is renamed
  form_renamed : (u : ℕ) (s t : Step) → step_of (some (form u s)) ≡ some t
      → step_of (some (form u (rename_step ρ s))) ≡ some (rename_step ρ t)
  unfolding step_of
  form_renamed u s t e = go (eqb u 0) e
    where
      go : (b : Bool) → elim b as (λ b. Option Step) [ true ↦ some s | false ↦ none ] ≡ some t
          → elim b as (λ b. Option Step) [ true ↦ some (rename_step ρ s) | false ↦ none ] ≡ some (rename_step ρ t)
      go true e = cc
      go false e = let z : ◌≡◌ {A = ℕ} 0 1 = cc in absurd (omega arith)

  -- a code beyond the last has none
  none_renamed : (t : Step) → step_of none ≡ some t → step_of none ≡ some (rename_step ρ t)
  unfolding step_of
  none_renamed t e = let z : ◌≡◌ {A = ℕ} 0 1 = cc in absurd (omega arith)

  -- the fields of a step with the code c
  renamed_fields : ℕ → HeldStep → HeldStep
  renamed_fields c s = record { code = s.code; a = s.a; b = s.b; v = rename_field ρ c s.v; value = s.value }

  by_code : (s : HeldStep) (t : Step) (c : ℕ) → step_of (get_elem? (forms s) c) ≡ some t
      → step_of (get_elem? (forms (renamed_fields c s)) c) ≡ some (rename_step ρ t)
  unfolding forms names_variable rename_field rename_step renamed_fields
  by_code s t zero e = form_renamed (s.b + s.v + nat_abs s.value) (input s.a) t e
  by_code s t (suc zero) e = form_renamed (s.a + s.b + s.v) (constant s.value) t e
  by_code s t (suc (suc zero)) e =
      form_renamed (s.a + s.b + nat_abs s.value) (variable s.v) t e
  by_code s t (suc (suc (suc zero))) e =
      form_renamed (s.b + s.v + nat_abs s.value) (negate s.a) t e
  by_code s t (suc (suc (suc (suc zero)))) e =
      form_renamed (s.v + nat_abs s.value) (add s.a s.b) t e
  by_code s t (suc (suc (suc (suc (suc zero))))) e =
      form_renamed (s.v + nat_abs s.value) (subtract s.a s.b) t e
  by_code s t (suc (suc (suc (suc (suc (suc zero)))))) e =
      form_renamed (s.v + nat_abs s.value) (multiply s.a s.b) t e
  by_code s t (suc (suc (suc (suc (suc (suc (suc zero))))))) e =
      form_renamed (nat_abs s.value) (substitute s.a s.b s.v) t e
  by_code s t (suc (suc (suc (suc (suc (suc (suc (suc zero)))))))) e =
      form_renamed (s.b + s.v) (sweep s.a s.value) t e
  by_code s t (suc (suc (suc (suc (suc (suc (suc (suc (suc zero))))))))) e =
      form_renamed (minus s.value) (quotient s.a s.b s.v (nat_abs s.value)) t e
  by_code s t (suc (suc (suc (suc (suc (suc (suc (suc (suc (suc zero)))))))))) e =
      form_renamed (s.b + nat_abs s.value) (antiderivative s.a s.v) t e
  by_code s t (suc (suc (suc (suc (suc (suc (suc (suc (suc (suc (suc c))))))))))) e = none_renamed t e

  -- a step stands for the renamed step
  pub view_step_renamed : (s : HeldStep) (t : Step) → view_step s ≡ some t
      → view_step (rename_held_step ρ s) ≡ some (rename_step ρ t)
  unfolding view_step rename_held_step renamed_fields
  view_step_renamed s t e = by_code s t s.code e

-- ---- the book
module _ (h : HeldBook) (p : HeldPasses h) (ρ : Reordering h.n) where
  abbrev pub o : Book
  o = outline_of h

  -- n, d and the two counts stay
  outline_renamed : outline_of (rename_held ρ h) ≡ outline_of h
  unfolding outline_of rename_held
  outline_renamed = ap₂ (outline h.n h.d) (length-map h.models (rename_held_model ρ))
      (length-map h.steps (rename_held_step ρ))

  pub few : h.n ≤ key_width
  few = (limits h p).n_high

  pub low : h.d < 16
  low = let e = (limits h p).d_high in omega arith

  -- a model that passes stands for the renamed one, which passes
  module _ (m : HeldModel) (t : T (held_model_sound o m)) where
    pub same_n : m.n ≡ h.n
    unfolding held_model_sound view_model outline_of outline
    same_n = model_vars o (view_model m) t

    rules : T (sound h.d (view_model m))
    unfolding held_model_sound model_sound outline_of outline
    rules = and_right (eqb (view_model m).vars h.n) _ t

    pub held_canonical : Canonical h.n h.d (view_model m)
    held_canonical = subst (λ k. Canonical k h.d (view_model m)) vars (sound_parts h.d (view_model m) rules).0
      where
        vars : (view_model m).vars ≡ h.n
        vars = unfold view_model in same_n

    model_back : view_model (rename_held_model ρ m) ≡ rename_model ρ (view_model m)
    model_back = view_model_renamed ρ h.d m few low same_n held_canonical

    model_passes : T (held_model_sound o (rename_held_model ρ m))
    unfolding held_model_sound model_sound outline_of outline
    model_passes = rw model_back (both (eqb (rename_model ρ (view_model m)).vars h.n) _
        (unfold rename_model in and_left (eqb (view_model m).vars h.n) _ t)
        (rules_renamed ρ h.d (view_model m) in_range (unfold view_model in same_n) rules))
      where
        in_range : T (vars_sound h.n)
        in_range = unfold view_book in vars_pass (view_book h) (view_passes h p)

  step_passes : (i : ℕ) (s : HeldStep) → T (held_step_sound o i s) → T (held_step_sound o i (rename_held_step ρ s))
  step_passes i s t = go (stands_for o i s t)
    where
      go : StandsFor o i s → T (held_step_sound o i (rename_held_step ρ s))
      go f = unfold held_step_sound in
          (subst (λ u. T (elim u as (λ u. Bool) [ some r ↦ step_sound o i r | none ↦ false ]))
          (sym (view_step_renamed ρ s f.step f.is_view))
          (unfold outline_of outline in step_sound_renamed o ρ i f.step f.passes))

  pub held_renamed_passes : HeldPasses (rename_held ρ h)
  held_renamed_passes = record {
    limits = rw outline_renamed p.limits;
    models = rw outline_renamed (unfold rename_held in all_from_map (rename_held_model ρ) 0 (λ i. held_model_sound o)
        (λ i. held_model_sound o) h.models (λ i m t. model_passes m t) p.models);
    steps = rw outline_renamed (unfold rename_held in all_from_map (rename_held_step ρ) 0 (held_step_sound o)
        (held_step_sound o) h.steps step_passes p.steps);
  }

  -- ---- and what it stands for
  models_back : (i : ℕ) (l : List HeldModel) → T (all_from i (λ i. held_model_sound o) l)
      → map view_model (map (rename_held_model ρ) l) ≡ map (rename_model ρ) (map view_model l)
  unfolding all_from
  models_back i [] t = refl
  models_back i (m ∷ l) t = ap₂ ◌∷◌ (model_back m (and_left (held_model_sound o m) _ t))
      (models_back (suc i) l (and_right (held_model_sound o m) _ t))

  steps_back : (i : ℕ) (l : List HeldStep) → T (all_from i (held_step_sound o) l)
      → view_steps (map (rename_held_step ρ) l) ≡ map (rename_step ρ) (view_steps l)
  unfolding all_from
  steps_back i [] t = unfold view_steps in refl
  steps_back i (s ∷ l) t = go (stands_for o i s (and_left (held_step_sound o i s) _ t))
      (steps_back (suc i) l (and_right (held_step_sound o i s) _ t))
    where
      go : StandsFor o i s → view_steps (map (rename_held_step ρ) l) ≡ map (rename_step ρ) (view_steps l)
          → view_steps (map (rename_held_step ρ) (s ∷ l)) ≡ map (rename_step ρ) (view_steps (s ∷ l))
      go f ih = view_more (rename_held_step ρ s) (rename_step ρ f.step) (map (rename_held_step ρ) l)
          (view_step_renamed ρ s f.step f.is_view)
          ∙ ap (rename_step ρ f.step ∷◌) ih ∙ sym (ap (map (rename_step ρ)) (view_more s f.step l f.is_view))

  pub view_book_renamed : view_book (rename_held ρ h) ≡ rename_book ρ (view_book h)
  unfolding view_book rename_held rename_book
  view_book_renamed = ap₂ (λ ms l. record { vars = h.n; order = h.d; models = ms; steps = l })
      (models_back 0 h.models p.models) (steps_back 0 h.steps p.steps)
