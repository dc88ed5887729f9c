-- Laws of terms in two slices, of arrays filled from them, and of a slice overwritten.
use Rattle.std.specs.Prelude.{◌≡◌, refl, true, ◌&&◌, List, [], ◌∷◌, ◌++◌, map, T, leb, ℤ, pos, take, drop, get_or, set, replicate}
use Rattle.std.proofs.Common.{sym, ◌∙◌, ap, subst, append_assoc, add-one, leb→le, length-take-le}
use Rattle.std.proofs.lemmas.List.{map-append, length-map}
use Prim.Native.Nat.{ℕ, zero, suc, ◌+◌, ◌-◌, ◌≤◌, ◌<◌, min}
use native.Mathlib.Omega.{arith}
use Rattle.std.proofs.Math.ListN.{length, length-append}
use Rattle.std.proofs.Math.Seq.{set_at, drop-cons}
use Rattle.calculus.specs.Model.{most_terms}
use Rattle.calculus_laws.specs.TestLaws.{and_left, and_right}
use Rattle.model_types.specs.declared.Term.{Term}
use Rattle.model_types.specs.Arrays.{first_places, padded}
use Rattle.model_types.specs.ModelStruct.{zero_term, places, pad, view_term, view, listed, of_terms}
use Rattle.model_types.specs.ModelStruct.{paired, keys_of, coefficients_of}
use Rattle.model_types.specs.ModelStructLaws.{pad_more, take_more}
use Rattle.model_types.specs.PairedLaws.{Listed, paired_of}
use Rattle.model_slices.specs.HandedModels.{terms_of, handed, over, answer_numbers, model_room}

-- ---- terms of two slices
pub terms_more : (i : ℕ) (ks : List ℕ) (cs : List ℤ) → i < length ks → i < length cs
    → terms_of (suc i) ks cs ≡ terms_of i ks cs ++
    (record { key = get_or ks i 0; coefficient = get_or cs i (pos 0) } ∷ [])
unfolding terms_of
terms_more i [] cs h l = absurd (omega arith)
terms_more i (k ∷ ks) [] h l = absurd (omega arith)
terms_more zero (k ∷ ks) (c ∷ cs) h l = refl
terms_more (suc i) (k ∷ ks) (c ∷ cs) h l =
    ap (λ (r : List Term). record { key = k; coefficient = c } ∷ r) (terms_more i ks cs (omega arith) (omega arith))

pub length_terms : (i : ℕ) (ks : List ℕ) (cs : List ℤ) → i ≤ length ks → i ≤ length cs → length (terms_of i ks cs) ≡ i
unfolding terms_of
length_terms zero ks cs h l = refl
length_terms (suc i) [] cs h l = absurd (omega arith)
length_terms (suc i) (k ∷ ks) [] h l = absurd (omega arith)
length_terms (suc i) (k ∷ ks) (c ∷ cs) h l = ap suc (length_terms i ks cs (omega arith) (omega arith))

-- an iteration of a loop that builds a model
pub handed_more : (i : ℕ) (ks : List ℕ) (cs : List ℤ) → i < length ks → i < length cs → i < most_terms
    → set (pad (terms_of i ks cs)) i (record { key = get_or ks i 0; coefficient = get_or cs i (pos 0) })
    ≡ pad (terms_of (i + 1) ks cs)
handed_more i ks cs h l m =
    pad_more (terms_of i ks cs) i _ (length_terms i ks cs (omega arith) (omega arith)) m
    ∙ rw (add-one, terms_more i ks cs h l)

-- no more terms than both slices have
pub terms_end : (i n : ℕ) (ks : List ℕ) (cs : List ℤ) → i ≡ min n (min (length ks) (length cs))
    → terms_of i ks cs ≡ terms_of n ks cs
unfolding terms_of
terms_end zero zero ks cs e = refl
terms_end (suc i) zero ks cs e = absurd (omega arith)
terms_end zero (suc n) [] cs e = refl
terms_end (suc i) (suc n) [] cs e = absurd (omega arith)
terms_end zero (suc n) (k ∷ ks) [] e = refl
terms_end (suc i) (suc n) (k ∷ ks) [] e = absurd (omega arith)
terms_end zero (suc n) (k ∷ ks) (c ∷ cs) e = absurd (omega arith)
terms_end (suc i) (suc n) (k ∷ ks) (c ∷ cs) e =
    ap (λ (r : List Term). record { key = k; coefficient = c } ∷ r) (terms_end i n ks cs (omega arith))

-- places that are looked at hold what they hold, whether zeros stand after them or nothing
first_zeros : (c n : ℕ) → places c (replicate n zero_term) ≡ places c []
unfolding first_places
first_zeros zero n = refl
first_zeros (suc c) zero = refl
first_zeros (suc c) (suc n) = ap (λ (r : List Term). zero_term ∷ r) (first_zeros c n)

first_after : (c n : ℕ) (l : List Term) → places c (l ++ replicate n zero_term) ≡ places c l
unfolding first_places
first_after zero n l = refl
first_after (suc c) n [] = first_zeros (suc c) n
first_after (suc c) n (x ∷ l) = ap (λ (r : List Term). x ∷ r) (first_after c n l)

first_pad : (c : ℕ) (l : List Term) → places c (pad l) ≡ places c l
unfolding padded
first_pad c l = first_after c (most_terms - length l) l

-- so terms beyond a count may be left out
first_terms : (c i n : ℕ) (ks : List ℕ) (cs : List ℤ) → i ≡ min (min c n) (min (length ks) (length cs))
    → places c (terms_of i ks cs) ≡ places c (terms_of n ks cs)
unfolding first_places terms_of
first_terms zero i n ks cs e = refl
first_terms (suc c) zero zero ks cs e = refl
first_terms (suc c) (suc i) zero ks cs e = absurd (omega arith)
first_terms (suc c) zero (suc n) [] cs e = refl
first_terms (suc c) (suc i) (suc n) [] cs e = absurd (omega arith)
first_terms (suc c) zero (suc n) (k ∷ ks) [] e = refl
first_terms (suc c) (suc i) (suc n) (k ∷ ks) [] e = absurd (omega arith)
first_terms (suc c) zero (suc n) (k ∷ ks) (x ∷ cs) e = absurd (omega arith)
first_terms (suc c) (suc i) (suc n) (k ∷ ks) (x ∷ cs) e =
    ap (λ (r : List Term). record { key = k; coefficient = x } ∷ r) (first_terms c i n ks cs (omega arith))

-- the terms of all places of the struct
pub listed_handed : (n c e : ℕ) (ks : List ℕ) (cs : List ℤ)
    → listed (handed n c e ks cs) ≡ pad (terms_of most_terms ks cs)
unfolding handed
listed_handed n c e ks cs = paired_of (pad (terms_of most_terms ks cs))

-- the first terms of two arrays
pub terms_paired : (i : ℕ) (ks : List ℕ) (cs : List ℤ) → terms_of i ks cs ≡ take i (paired ks cs)
unfolding terms_of paired
terms_paired zero ks cs = refl
terms_paired (suc i) [] cs = refl
terms_paired (suc i) (k ∷ ks) [] = refl
terms_paired (suc i) (k ∷ ks) (c ∷ cs) =
    ap (λ (r : List Term). record { key = k; coefficient = c } ∷ r) (terms_paired i ks cs)

-- the model that is taken is the one that is handed over
pub taken_view : (n c e i : ℕ) (ks : List ℕ) (cs : List ℤ) → i ≡ min (min c most_terms) (min (length ks) (length cs))
    → view (of_terms n c e (pad (terms_of i ks cs))) ≡ view (handed n c e ks cs)
unfolding view handed
taken_view n c e i ks cs h =
    ap
    (λ (r : List Term). record { vars = n; radius = e; terms = map (view_term n) r })
    (ap (places c) (paired_of (pad (terms_of i ks cs)))
    ∙ first_pad c (terms_of i ks cs)
    ∙ first_terms c i most_terms ks cs h
    ∙ sym (ap (places c) (listed_handed n c e ks cs) ∙ first_pad c (terms_of most_terms ks cs)))

-- ---- a slice overwritten
module _ {A : Type 0} (d : A) where
  -- a store after what was overwritten
  pub over_more : (l k : List A) (i : ℕ) (x : A) → length l ≡ i → i < length k
      → set (over l k) i x ≡ over (l ++ (x ∷ [])) k
  unfolding over
  over_more l k i x e h =
      let n : length (l ++ (x ∷ [])) ≡ suc i = length-append l (x ∷ []) ∙ omega arith in
      rw (e, n, drop-cons k i d h, set_at l (get_or k i d) (drop (suc i) k) x i e, append_assoc)

  -- an iteration of the loop that stores an array
  pub stored_more : (l k : List A) (i : ℕ) → i < length l → i < length k
      → set (over (take i l) k) i (get_or l i d) ≡ over (take (i + 1) l) k
  stored_more l k i h w =
      over_more (take i l) k i _ (length-take-le i l (omega arith)) w
      ∙ ap (λ r. over r k) (sym (take_more l i d h))

-- zeros overwritten
zeros_left : {A : Type 0} (z : A) (n m : ℕ) → drop n (replicate m z) ≡ replicate (m - n) z
zeros_left z zero m = let e : m - 0 ≡ m = omega arith in rw e
zeros_left z (suc n) zero = let e : 0 - suc n ≡ 0 = omega arith in rw e
zeros_left z (suc n) (suc m) = let e : suc m - suc n ≡ m - n = omega arith in rw e (zeros_left z n m)

pub over_zeros : {A : Type 0} (z : A) (m : ℕ) (l : List A) → over l (replicate m z) ≡ padded z m l
unfolding over padded
over_zeros z m l = ap (λ r. l ++ r) (zeros_left z (length l) m)

-- ---- arrays of the first terms
keys_first : (i : ℕ) (ks : List ℕ) (cs : List ℤ) → i ≤ length ks → i ≤ length cs
    → keys_of (terms_of i ks cs) ≡ take i ks
unfolding terms_of
keys_first zero ks cs h l = refl
keys_first (suc i) [] cs h l = absurd (omega arith)
keys_first (suc i) (k ∷ ks) [] h l = absurd (omega arith)
keys_first (suc i) (k ∷ ks) (c ∷ cs) h l = ap (λ (r : List ℕ). k ∷ r) (keys_first i ks cs (omega arith) (omega arith))

coefficients_first : (i : ℕ) (ks : List ℕ) (cs : List ℤ) → i ≤ length ks → i ≤ length cs
    → coefficients_of (terms_of i ks cs) ≡ take i cs
unfolding terms_of
coefficients_first zero ks cs h l = refl
coefficients_first (suc i) [] cs h l = absurd (omega arith)
coefficients_first (suc i) (k ∷ ks) [] h l = absurd (omega arith)
coefficients_first (suc i) (k ∷ ks) (c ∷ cs) h l =
    ap (λ (r : List ℤ). c ∷ r) (coefficients_first i ks cs (omega arith) (omega arith))

-- an image of a list with zeros after it
map_zeros : {A B : Type 0} (f : A → B) (z : A) (n : ℕ) → map f (replicate n z) ≡ replicate n (f z)
map_zeros f z zero = refl
map_zeros f z (suc n) = ap (λ r. f z ∷ r) (map_zeros f z n)

map_padded : {B : Type 0} (f : Term → B) (l : List Term) → map f (pad l) ≡ padded (f zero_term) most_terms (map f l)
unfolding padded
map_padded f l = map-append f l _ ∙ ap (λ r. map f l ++ r)
    (map_zeros f zero_term (most_terms - length l)
    ∙ ap (λ n. replicate (most_terms - n) (f zero_term)) (sym (length-map l f)))

-- zeros, with the first keys and coefficients of two slices over them
pub filled_listed : (i : ℕ) (ks : List ℕ) (cs : List ℤ) → i ≤ length ks → i ≤ length cs
    → Listed (over (take i ks) (replicate most_terms 0)) (over (take i cs) (replicate most_terms (pos 0)))
    (pad (terms_of i ks cs))
filled_listed i ks cs h l = record {
  keys_are = over_zeros 0 most_terms (take i ks) ∙ ap (padded 0 most_terms) (sym (keys_first i ks cs h l))
      ∙ sym (map_padded (λ t. t.key) (terms_of i ks cs));
  coefficients_are = over_zeros (pos 0) most_terms (take i cs)
      ∙ ap (padded (pos 0) most_terms) (sym (coefficients_first i ks cs h l))
      ∙ sym (map_padded (λ t. t.coefficient) (terms_of i ks cs));
}

-- two stores
pub over_two : {A : Type 0} (l : List A) (a b : A) → 2 ≤ length l → set (set l 0 a) 1 b ≡ over (a ∷ b ∷ []) l
unfolding over
over_two [] a b h = absurd (omega arith)
over_two (y ∷ []) a b h = absurd (omega arith)
over_two (y ∷ z ∷ l) a b h = refl

-- four stores
pub over_four : {A : Type 0} (l : List A) (a b c e : A) → 4 ≤ length l
    → set (set (set (set l 0 a) 1 b) 2 c) 3 e ≡ over (a ∷ b ∷ c ∷ e ∷ []) l
unfolding over
over_four [] a b c e h = absurd (omega arith)
over_four (w ∷ []) a b c e h = absurd (omega arith)
over_four (w ∷ x ∷ []) a b c e h = absurd (omega arith)
over_four (w ∷ x ∷ y ∷ []) a b c e h = absurd (omega arith)
over_four (w ∷ x ∷ y ∷ z ∷ l) a b c e h = refl

-- six stores
pub over_six : {A : Type 0} (l : List A) (a b c e f g : A) → 6 ≤ length l
    → set (set (set (set (set (set l 0 a) 1 b) 2 c) 3 e) 4 f) 5 g ≡ over (a ∷ b ∷ c ∷ e ∷ f ∷ g ∷ []) l
unfolding over
over_six [] a b c e f g h = absurd (omega arith)
over_six (u ∷ []) a b c e f g h = absurd (omega arith)
over_six (u ∷ v ∷ []) a b c e f g h = absurd (omega arith)
over_six (u ∷ v ∷ w ∷ []) a b c e f g h = absurd (omega arith)
over_six (u ∷ v ∷ w ∷ x ∷ []) a b c e f g h = absurd (omega arith)
over_six (u ∷ v ∷ w ∷ x ∷ y ∷ []) a b c e f g h = absurd (omega arith)
over_six (u ∷ v ∷ w ∷ x ∷ y ∷ z ∷ l) a b c e f g h = refl

-- ---- room for an answer
pub room_parts : (k z n : ℕ) → T (model_room k z n) → (most_terms ≤ k) × (most_terms ≤ z) × (answer_numbers ≤ n)
unfolding model_room
room_parts k z n r =
    let l = and_left (leb most_terms k && leb most_terms z) (leb answer_numbers n) r in (
      leb→le most_terms k (and_left (leb most_terms k) (leb most_terms z) l),
      leb→le most_terms z (and_right (leb most_terms k) (leb most_terms z) l),
      leb→le answer_numbers n (and_right (leb most_terms k && leb most_terms z) (leb answer_numbers n) r),
    )

pub room : (k z n : ℕ) → model_room k z n ≡ true → (most_terms ≤ k) × (most_terms ≤ z) × (answer_numbers ≤ n)
room k z n h = room_parts k z n (subst T (sym h) tt)
