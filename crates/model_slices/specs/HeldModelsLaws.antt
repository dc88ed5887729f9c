-- A model that lies in slices: what stands at a place, and one more term stored.
use Rattle.std.specs.Prelude.{◌≡◌, refl, ℕ, zero, suc, ◌+◌, ◌≤◌, ◌<◌, ℤ, pos, take, set}
use Rattle.std.proofs.Math.Path.{sym, ap}
use Rattle.std.proofs.Common.{◌∙◌, ap₂, add-one, arith, length-set, get_or-set_same}
use mathlib.Core.List.{List, [], ◌∷◌, ◌++◌, map}
use Rattle.std.proofs.Math.ListN.{length, get_or, get_or-append}
use Rattle.calculus.specs.Model.{most_terms}
use Rattle.model_types.specs.declared.Term.{Term}
use Rattle.model_types.specs.declared.Model.{Model}
use Rattle.model_types.specs.Arrays.{padded}
use Rattle.model_types.specs.ArrayLaws.{length_padded}
use Rattle.model_types.specs.ModelStruct.{zero_term, view_term, view, pad, paired, listed, of_terms}
use Rattle.model_types.specs.ModelStructLaws.{view_is}
use Rattle.model_types.specs.PairedLaws.{paired_of, length_paired, listed_next, listed_struct}
use Rattle.model_slices.specs.HandedModels.{terms_of}
use Rattle.model_slices.specs.HandedModelsLaws.{terms_more, length_terms, handed_more}
use Rattle.model_slices.specs.HeldModels.{held, model_places, Room, Clear}

-- a slice has a place for each term
pub all_places : model_places ≡ most_terms
unfolding most_terms
all_places = refl

-- a term by its key and its coefficient
abbrev pub pair : ℕ → ℤ → Term
pair k c = record { key = k; coefficient = c }

-- ---- the terms of two slices
pair_at : (n i : ℕ) (ks : List ℕ) (cs : List ℤ) → i < n → i < length ks → i < length cs
    → get_or (terms_of n ks cs) i zero_term ≡ pair (get_or ks i 0) (get_or cs i (pos 0))
unfolding terms_of
pair_at zero i ks cs h l m = absurd (omega arith)
pair_at (suc n) i [] cs h l m = absurd (omega arith)
pair_at (suc n) i (k ∷ ks) [] h l m = absurd (omega arith)
pair_at (suc n) zero (k ∷ ks) (c ∷ cs) h l m = refl
pair_at (suc n) (suc i) (k ∷ ks) (c ∷ cs) h l m = pair_at n i ks cs (omega arith) (omega arith) (omega arith)

-- a store after them
terms_before : (n : ℕ) (ks : List ℕ) (cs : List ℤ) (k : ℕ) (c : ℤ)
    → terms_of n (set ks n k) (set cs n c) ≡ terms_of n ks cs
unfolding terms_of
terms_before zero ks cs k c = refl
terms_before (suc n) [] cs k c = refl
terms_before (suc n) (x ∷ ks) [] k c = refl
terms_before (suc n) (x ∷ ks) (z ∷ cs) k c =
    ap (λ (r : List Term). pair x z ∷ r) (terms_before n ks cs k c)

-- ---- the struct
module _ (n count radius : ℕ) (ks : List ℕ) (cs : List ℤ) (room : Room ks cs) (few : count ≤ most_terms) where
  -- its places
  pub held_listed : listed (held n count radius ks cs) ≡ pad (terms_of count ks cs)
  unfolding held
  held_listed = paired_of (pad (terms_of count ks cs))

  pub held_long : length (listed (held n count radius ks cs)) ≡ most_terms
  unfolding most_terms
  held_long =
      let l = length_terms count ks cs (omega (arith, room.keys)) (omega (arith, room.coefficients)) in
      ap length held_listed ∙ length_padded zero_term most_terms (terms_of count ks cs) (omega (arith, l))

  pub held_whole : count ≤ length (listed (held n count radius ks cs))
  held_whole = omega (arith, held_long)

  pub held_at : (i : ℕ) → i < count
      → get_or (listed (held n count radius ks cs)) i zero_term ≡ pair (get_or ks i 0) (get_or cs i (pos 0))
  unfolding padded most_terms
  held_at i h =
      let l = length_terms count ks cs (omega (arith, room.keys)) (omega (arith, room.coefficients)) in
      ap (λ (p : List Term). get_or p i zero_term) held_listed
      ∙ get_or-append (terms_of count ks cs) _ zero_term i (omega (arith, l))
      ∙ pair_at count i ks cs h (omega (arith, room.keys)) (omega (arith, room.coefficients))

-- one more
pub stored_more : (count : ℕ) (ks : List ℕ) (cs : List ℤ) (k : ℕ) (c : ℤ) → Room ks cs → count < most_terms
    → set (pad (terms_of count ks cs)) count (pair k c)
    ≡ pad (terms_of (count + 1) (set ks count k) (set cs count c))
unfolding most_terms
stored_more count ks cs k c r h =
    ap₂ (λ (l : List Term) (t : Term). set (pad l) count t) (sym (terms_before count ks cs k c))
    (sym (ap₂ pair (get_or-set_same ks count k 0 (omega (arith, r.keys)))
    (get_or-set_same cs count c (pos 0) (omega (arith, r.coefficients)))))
    ∙ handed_more count (set ks count k) (set cs count c)
    (omega (arith, r.keys, length-set ks count k)) (omega (arith, r.coefficients, length-set cs count c)) h

pub room_still : {ks : List ℕ} {cs : List ℤ} (i : ℕ) (k : ℕ) (c : ℤ) → Room ks cs → Room (set ks i k) (set cs i c)
room_still {ks = ks} {cs = cs} i k c r = record {
  keys = length-set ks i k ∙ r.keys;
  coefficients = length-set cs i c ∙ r.coefficients;
}

-- a term copied after others
pub copied_more : (i : ℕ) (ks ks₂ : List ℕ) (cs cs₂ : List ℤ) → i < length ks → i < length cs → Room ks₂ cs₂ → i < 64
    → terms_of i ks₂ cs₂ ≡ terms_of i ks cs
    → terms_of (i + 1) (set ks₂ i (get_or ks i 0)) (set cs₂ i (get_or cs i (pos 0))) ≡ terms_of (i + 1) ks cs
copied_more i ks ks₂ cs cs₂ h l r k e =
    next i (set ks₂ i (get_or ks i 0)) (set cs₂ i (get_or cs i (pos 0)))
    (omega (arith, length-set ks₂ i (get_or ks i 0), r.keys))
    (omega (arith, length-set cs₂ i (get_or cs i (pos 0)), r.coefficients))
    ∙ ap₂ (λ (p : List Term) (t : Term). p ++ (t ∷ [])) (terms_before i ks₂ cs₂ _ _ ∙ e)
    (ap₂ pair (get_or-set_same ks₂ i (get_or ks i 0) 0 (omega (arith, r.keys)))
    (get_or-set_same cs₂ i (get_or cs i (pos 0)) (pos 0) (omega (arith, r.coefficients))))
    ∙ sym (next i ks cs h l)
  where
    next : (i : ℕ) (ks : List ℕ) (cs : List ℤ) → i < length ks → i < length cs
        → terms_of (i + 1) ks cs ≡ terms_of i ks cs ++ (pair (get_or ks i 0) (get_or cs i (pos 0)) ∷ [])
    next i ks cs h l = ap (λ j. terms_of j ks cs) (add-one i) ∙ terms_more i ks cs h l

-- so models with the same terms are the same
pub held_same : (n count radius : ℕ) (ks ks₂ : List ℕ) (cs cs₂ : List ℤ) → terms_of count ks₂ cs₂ ≡ terms_of count ks cs
    → held n count radius ks₂ cs₂ ≡ held n count radius ks cs
unfolding held
held_same n count radius ks ks₂ cs cs₂ e =
    ap (λ (l : List Term). of_terms n count radius (pad l)) e

-- ---- a struct lends its arrays
terms_first : (i : ℕ) (ks : List ℕ) (cs : List ℤ) → terms_of i ks cs ≡ take i (paired ks cs)
unfolding terms_of paired
terms_first zero ks cs = refl
terms_first (suc i) [] cs = refl
terms_first (suc i) (k ∷ ks) [] = refl
terms_first (suc i) (k ∷ ks) (c ∷ cs) = ap (λ (r : List Term). pair k c ∷ r) (terms_first i ks cs)

take_front : (i : ℕ) (l r : List Term) → length l ≡ i → take i (l ++ r) ≡ l
take_front zero [] r e = refl
take_front zero (t ∷ l) r e = absurd (omega arith)
take_front (suc i) [] r e = absurd (omega arith)
take_front (suc i) (t ∷ l) r e = ap (λ (s : List Term). t ∷ s) (take_front i l r (omega arith))

module _ (m : Model) (room : Room m.keys m.coefficients) (few : m.count ≤ most_terms) where
  -- they hold the model that it holds
  pub own_view : view (held m.n m.count m.radius m.keys m.coefficients) ≡ view m
  unfolding held padded most_terms
  own_view =
      let l = length_terms m.count m.keys m.coefficients (omega (arith, room.keys))
      (omega (arith, room.coefficients)) in
      let long = length_paired m.keys m.coefficients (room.keys ∙ sym room.coefficients) in
      view_is _ (held_whole m.n m.count m.radius m.keys m.coefficients room few)
      ∙ ap (λ (p : List Term). record { vars = m.n; radius = m.radius; terms = map (view_term m.n) p })
      (ap (take m.count) (held_listed m.n m.count m.radius m.keys m.coefficients room few)
      ∙ take_front m.count (terms_of m.count m.keys m.coefficients) _ l
      ∙ terms_first m.count m.keys m.coefficients)
      ∙ sym (view_is m (omega (arith, long, room.keys)))

-- ---- arrays for a struct
-- one more term leaves zeros after it
pub clear_more : {count : ℕ} {ks : List ℕ} {cs : List ℤ} (k : ℕ) (c : ℤ) → Clear count ks cs → Room ks cs
    → count < most_terms → Clear (count + 1) (set ks count k) (set cs count c)
clear_more {count = count} {ks = ks} {cs = cs} k c h r l = listed_next h count k c (stored_more count ks cs k c r l)

-- so the struct of the arrays is the one that they hold
pub clear_struct : {count : ℕ} {ks : List ℕ} {cs : List ℤ} (n radius : ℕ) → Clear count ks cs
    → record { n = n; count = count; radius = radius; keys = ks; coefficients = cs } ≡ held n count radius ks cs
unfolding held
clear_struct n radius h = listed_struct h n _ radius
