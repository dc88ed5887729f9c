-- Laws of books in memory: what was stored is held again, and a model is the same in both views.
use Rattle.std.specs.Prelude.{◌≡◌, refl, List, [], ◌∷◌, map, ℕ, length}
use Rattle.std.proofs.Common.{◌∙◌, ap, ap₂}
use Rattle.std.proofs.lemmas.List.{length-map}
use Rattle.calculus.specs.Model.{most_terms}
use Rattle.calculus.specs.Book.{most_models, most_steps}
use Rattle.model_types.specs.declared.Model.{Model}
use Rattle.model_types.specs.Arrays.{first_places, padded}
use Rattle.model_types.specs.ArrayLaws.{first_padded}
use Rattle.model_types.specs.ModelStruct as H
use Rattle.model_types.specs.ModelStruct.{zero_term, places, listed, pad, view}
use Rattle.model_types.specs.PairedLaws.{paired_of}
use Rattle.format.specs.HeldBook.{HeldModel, HeldStep, HeldBook, view_held_term, view_model}
use Rattle.sheet_book.specs.BookStruct.{no_model, no_step, held_term, held_model, held_step, held_book}
use Rattle.sheet_book.specs.BookStruct.{stored_term, stored_model, stored_step, stored_book}

-- ---- any list
pub map-∘ : {A B C : Type 0} (f : A → B) (g : B → C) (h : A → C) → ((x : A) → g (f x) ≡ h x) → (l : List A)
    → map g (map f l) ≡ map h l
map-∘ f g h e [] = refl
map-∘ f g h e (x ∷ l) = ap₂ ◌∷◌ (e x) (map-∘ f g h e l)

pub map_id : {A B : Type 0} (f : A → B) (g : B → A) → ((x : A) → g (f x) ≡ x) → (l : List A) → map g (map f l) ≡ l
map_id f g e [] = refl
map_id f g e (x ∷ l) = ap₂ ◌∷◌ (e x) (map_id f g e l)

-- what was mapped and padded, looked at and mapped back
stored_back : {A B : Type 0} (zeros : B) (size : ℕ) (f : A → B) (g : B → A) → ((x : A) → g (f x) ≡ x) → (l : List A)
    → map g (first_places zeros (length l) (padded zeros size (map f l))) ≡ l
stored_back zeros size f g e l =
    ap (λ c. map g (first_places zeros c (padded zeros size (map f l))))
    (let s : length l ≡ length (map f l) = rw (length-map l f) in s)
    ∙ ap (map g) (first_padded zeros size (map f l)) ∙ map_id f g e l

-- ---- what was stored is held again
pub held_stored_model : (m : HeldModel) → held_model (stored_model m) ≡ m
unfolding held_model stored_model held_term stored_term
held_stored_model m = ap (λ l. record { n = m.n; radius = m.radius; terms = l })
    (ap (λ l. map held_term (places (length m.terms) l)) (paired_of (pad (map stored_term m.terms)))
    ∙ stored_back zero_term most_terms stored_term held_term (λ t. refl) m.terms)

pub held_stored_step : (s : HeldStep) → held_step (stored_step s) ≡ s
unfolding held_step stored_step
held_stored_step s = refl

pub held_stored : (h : HeldBook) → held_book (stored_book h) ≡ h
unfolding held_book stored_book
held_stored h = ap₂ (λ l k. record { n = h.n; d = h.d; models = l; steps = k })
    (stored_back no_model most_models stored_model held_model held_stored_model h.models)
    (stored_back no_step most_steps stored_step held_step held_stored_step h.steps)

-- ---- a model is viewed alike from a struct and from what the struct holds
pub view_held_model : (m : Model) → view_model (held_model m) ≡ view m
unfolding view_model held_model held_term view H.view_term view_held_term
view_held_model m = ap (λ l. record { vars = m.n; radius = m.radius; terms = l })
    (map-∘ held_term (view_held_term m.n) (H.view_term m.n) (λ t. refl) (places m.count (listed m)))
