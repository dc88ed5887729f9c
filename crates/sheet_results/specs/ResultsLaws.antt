-- Laws of models and results in flat slices: a struct that is put at a place stands there, all others stay, and the
-- slices keep their room.
use Rattle.std.specs.Prelude.{◌≡◌, ◌≢◌, ℤ, pos, get_or, set, replicate}
use Rattle.std.proofs.Math.Path.{refl, sym, ap, ap₂}
use Rattle.std.proofs.Common.{◌∙◌, take_all, drop-drop, get_or-set_same, get_or-set_other}
use mathlib.Core.List.{List, [], ◌∷◌, ◌++◌, map, append-nil}
use Prim.Native.Nat.{ℕ, zero, suc, ◌+◌, ◌*◌, ◌-◌, ◌≤◌, ◌<◌, min}
use Rattle.std.proofs.Math.Decide.{dec_lt, ℕ_discrete}
use native.Mathlib.Omega.{arith}
use Rattle.std.proofs.Math.ListN.{length, take, drop, length-append, length-set, length-take, length-drop}
use Rattle.std.proofs.lemmas.List.{length-replicate, drop-append-le}
use Rattle.std.proofs.Math.Seq.{drop-length, length-take-le, drop_at, take-append-le, drop-append_seam}
use Rattle.calculus.specs.Model.{most_terms, zero_model}
use Rattle.calculus_laws.specs.FilledLaws.{filled_at}
use Rattle.model_types.specs.declared.Term.{Term}
use Rattle.model_types.specs.declared.Model.{Model}
use Rattle.model_types.specs.Arrays.{first_places}
use Rattle.model_types.specs.ArrayLaws.{first_take, first_padded}
use Rattle.model_types.specs.ModelStruct.{zero_term, paired, listed, of_terms, view_term, pad, view, pack}
use Rattle.model_types.specs.PairedLaws.{paired_of}
use Rattle.model_slices.specs.HandedModels.{terms_of, handed, over}
use Rattle.model_slices.specs.HandedModelsLaws.{taken_view}
use Rattle.model_types.specs.declared.Refusal.{Refusal}
use Rattle.model_types.specs.declared.Accounted.{Accounted}
use Rattle.std.specs.Prelude.{Ok, Err}
use Rattle.model_types.specs.ModelStruct.{refused_at}
use Rattle.sheet_results.specs.Results.{Results, results, Roomy, held_result, spliced, with_result, with_row}
use Rattle.sheet_results.specs.Results.{unless, settled_results, settled_rows}

-- ---- a part of a list replaced
module _ {A : Type 0} where
  -- the part from a on
  pub part_all : (a : ℕ) (xs : List A) → take (length xs - a) (drop a xs) ≡ drop a xs
  part_all a xs = take_all (length xs - a) (drop a xs) (omega (arith, length-drop a xs))

  -- what a slice holds when its part from a on comes back
  pub spliced_part : (a : ℕ) (new xs : List A) {ys : List A} → a ≤ length xs
      → ys ≡ over new (take (length xs - a) (drop a xs))
      → take a xs ++ (ys ++ drop (length xs - a) (drop a xs)) ≡ spliced a new xs
  unfolding spliced
  spliced_part a new xs h e =
      let none : drop (length xs - a) (drop a xs) ≡ [] =
      ap (λ n. drop n (drop a xs)) (sym (length-drop a xs)) ∙ drop-length (drop a xs) in
      ap (λ r. take a xs ++ (r ++ drop (length xs - a) (drop a xs))) (e ∙ ap (over new) (part_all a xs))
      ∙ ap (λ r. take a xs ++ (over new (drop a xs) ++ r)) none
      ∙ ap (λ r. take a xs ++ r) (append-nil (over new (drop a xs)))

  pub length_spliced : (a : ℕ) (new xs : List A) → a + length new ≤ length xs
      → length (spliced a new xs) ≡ length xs
  unfolding spliced over
  length_spliced a new xs h =
      let p = length-append (take a xs) (new ++ drop (length new) (drop a xs)) in
      let q = length-append new (drop (length new) (drop a xs)) in
      let r = length-drop (length new) (drop a xs) in
      let s = length-drop a xs in
      let t = length-take-le a xs (omega arith) in
      omega (arith, p, q, r, s, t)

  -- from the place on: what was put, and the rest
  pub spliced_from : (a : ℕ) (new xs : List A) → a ≤ length xs → drop a (spliced a new xs) ≡ over new (drop a xs)
  unfolding spliced
  spliced_from a new xs h = drop_at (take a xs) (over new (drop a xs)) a (length-take-le a xs h)

  -- before it: what was there
  pub spliced_before : (a b k : ℕ) (new xs : List A) → b + k ≤ a → a ≤ length xs
      → take k (drop b (spliced a new xs)) ≡ take k (drop b xs)
  unfolding spliced
  spliced_before a b k new xs h l =
      let n = length-take-le a xs l in
      ap (take k) (drop-append-le b (take a xs) (over new (drop a xs)) (omega (arith, n)))
      ∙ take-append-le k (drop b (take a xs)) (over new (drop a xs)) (omega (arith, n, length-drop b (take a xs)))
      ∙ cut b a xs (omega arith)
    where
      cut : (b a : ℕ) (xs : List A) → b + k ≤ a → take k (drop b (take a xs)) ≡ take k (drop b xs)
      cut zero a xs h = front k a xs (omega arith)
        where
          front : (k a : ℕ) (xs : List A) → k ≤ a → take k (take a xs) ≡ take k xs
          front zero a xs h = refl
          front (suc k) zero xs h = absurd (omega arith)
          front (suc k) (suc a) [] h = refl
          front (suc k) (suc a) (x ∷ xs) h = ap (λ l. x ∷ l) (front k a xs (omega arith))
      cut (suc b) zero xs h = absurd (omega arith)
      cut (suc b) (suc a) [] h = refl
      cut (suc b) (suc a) (x ∷ xs) h = cut b a xs (omega arith)

  -- three parts of a list
  dropped : (a n e b : ℕ) (xs : List A) → b ≡ a + n + e → drop b xs ≡ drop e (drop n (drop a xs))
  dropped a n e b xs h =
      ap (λ k. drop k xs) h ∙ sym (drop-drop e (a + n) xs) ∙ ap (drop e) (sym (drop-drop n a xs))

  -- after it: what was there
  pub spliced_after : (a b : ℕ) (new xs : List A) → a + length new ≤ b → a ≤ length xs
      → drop b (spliced a new xs) ≡ drop b xs
  unfolding over
  spliced_after a b new xs h l =
      let e : b ≡ a + length new + (b - (a + length new)) = omega (arith, h) in
      dropped a (length new) (b - (a + length new)) b (spliced a new xs) e
      ∙ ap (λ r. drop (b - (a + length new)) (drop (length new) r)) (spliced_from a new xs l)
      ∙ ap (drop (b - (a + length new))) (drop-append_seam new (drop (length new) (drop a xs)))
      ∙ sym (dropped a (length new) (b - (a + length new)) b xs e)

-- ---- terms of two slices
-- only as many of both matter
terms_taken : (n : ℕ) (ks : List ℕ) (cs : List ℤ) → terms_of n ks cs ≡ terms_of n (take n ks) (take n cs)
unfolding terms_of
terms_taken zero ks cs = refl
terms_taken (suc n) [] cs = refl
terms_taken (suc n) (k ∷ ks) [] = refl
terms_taken (suc n) (k ∷ ks) (c ∷ cs) =
    ap (λ (r : List Term). record { key = k; coefficient = c } ∷ r) (terms_taken n ks cs)

-- those of two arrays that were put
terms_put : (n : ℕ) (ks kt : List ℕ) (cs ct : List ℤ) → n ≤ length (paired ks cs)
    → terms_of n (take n ks ++ kt) (take n cs ++ ct) ≡ take n (paired ks cs)
unfolding terms_of paired
terms_put zero ks kt cs ct h = refl
terms_put (suc n) [] kt cs ct h = absurd (omega arith)
terms_put (suc n) (k ∷ ks) kt [] ct h = absurd (omega arith)
terms_put (suc n) (k ∷ ks) kt (c ∷ cs) ct h =
    ap (λ (r : List Term). record { key = k; coefficient = c } ∷ r) (terms_put n ks kt cs ct (omega arith))

-- two arrays have as many as both hold
keys_long_as : (ks : List ℕ) (cs : List ℤ) → length (paired ks cs) ≤ length ks
unfolding paired
keys_long_as [] cs = omega arith
keys_long_as (k ∷ ks) [] = omega arith
keys_long_as (k ∷ ks) (c ∷ cs) = omega (arith, keys_long_as ks cs)

coefficients_long_as : (ks : List ℕ) (cs : List ℤ) → length (paired ks cs) ≤ length cs
unfolding paired
coefficients_long_as [] cs = omega arith
coefficients_long_as (k ∷ ks) [] = omega arith
coefficients_long_as (k ∷ ks) (c ∷ cs) = omega (arith, coefficients_long_as ks cs)

-- ---- a struct put at a place
module _ (n : ℕ) (k : Model) (i : ℕ) {places : ℕ} {m : Results} (r : Roomy places m) (l : i < places) where
  -- the terms that its count names
  abbrev named : List Term
  named = take k.count (listed k)

  -- their keys
  abbrev named_keys : List ℕ
  named_keys = take k.count k.keys

  -- and their coefficients
  abbrev named_coefficients : List ℤ
  named_coefficients = take k.count k.coefficients

  -- as long as there are so many
  module _ (w : k.count ≤ length (listed k)) where
    named_long : length named ≡ k.count
    named_long = length-take-le k.count (listed k) w

    keys_long : length named_keys ≡ k.count
    keys_long = length-take-le k.count k.keys (omega (arith, keys_long_as k.keys k.coefficients))

    coefficients_long : length named_coefficients ≡ k.count
    coefficients_long = length-take-le k.count k.coefficients
        (omega (arith, coefficients_long_as k.keys k.coefficients))

    -- it is seen by them alone
    named_view : view (of_terms k.n k.count k.radius (pad named)) ≡ view k
    unfolding view
    named_view = ap (λ (l : List Term). record { vars = k.n; radius = k.radius; terms = map (view_term k.n) l })
        (ap (first_places zero_term k.count) (paired_of (pad named))
        ∙ ap (λ c. first_places zero_term c (pad named)) (sym named_long) ∙ first_padded zero_term most_terms named
        ∙ sym (first_take zero_term k.count (listed k) w))

    terms_here : terms_of k.count
        (drop (most_terms * i) (spliced (most_terms * i) named_keys m.keys))
        (drop (most_terms * i) (spliced (most_terms * i) named_coefficients m.coefficients)) ≡ named
    unfolding over most_terms
    terms_here =
        ap₂ (terms_of k.count)
        (spliced_from (most_terms * i) named_keys m.keys (omega (arith, r.keys_long)))
        (spliced_from (most_terms * i) named_coefficients m.coefficients (omega (arith, r.coefficients_long)))
        ∙ terms_put k.count k.keys _ k.coefficients _ w

    -- it stands there
    pub result_here : k.n ≡ n → k.count ≤ most_terms → view (held_result n (with_result k i m) i) ≡ view k
    unfolding held_result with_result most_terms
    result_here e f =
        ap₂ (λ (c e : ℕ). view (handed n c e
        (drop (most_terms * i) (spliced (most_terms * i) named_keys m.keys))
        (drop (most_terms * i) (spliced (most_terms * i) named_coefficients m.coefficients))))
        (get_or-set_same m.counts i k.count 0 (omega (arith, r.counts_long)))
        (get_or-set_same m.radii i k.radius 0 (omega (arith, r.radii_long)))
        ∙ sym (taken_view n k.count k.radius k.count _ _ short)
        ∙ ap₂ (λ (n : ℕ) (t : List Term). view (of_terms n k.count k.radius (pad t)))
        (sym e) terms_here
        ∙ named_view
      where
        short : k.count ≡ min (min k.count most_terms)
            (min (length (drop (most_terms * i) (spliced (most_terms * i) named_keys m.keys)))
            (length (drop (most_terms * i) (spliced (most_terms * i) named_coefficients m.coefficients))))
        short =
            let x = length-drop (most_terms * i) (spliced (most_terms * i) named_keys m.keys) in
            let y = length-drop (most_terms * i) (spliced (most_terms * i) named_coefficients m.coefficients) in
            let p = length_spliced (most_terms * i) named_keys m.keys
            (omega (arith, r.keys_long, keys_long)) in
            let q = length_spliced (most_terms * i) named_coefficients m.coefficients
            (omega (arith, r.coefficients_long, coefficients_long)) in
            omega (arith, x, y, p, q, r.keys_long, r.coefficients_long, f, l)

  -- what stands at another place of a list stays
  kept_elsewhere : {A : Type 0} (new xs : List A) → length new ≤ most_terms → most_terms * places ≤ length xs
      → (j : ℕ) → j ≢ i
      → take most_terms (drop (most_terms * j) (spliced (most_terms * i) new xs))
      ≡ take most_terms (drop (most_terms * j) xs)
  unfolding most_terms
  kept_elsewhere new xs f h j o = elim (dec_lt j i) [
    | yes b ↦ spliced_before (64 * i) (64 * j) 64 new xs (omega (arith, b)) (omega (arith, h, l))
    | no b ↦ ap (take 64) (spliced_after (64 * i) (64 * j) new xs
        (let e : i < j = above (omega (arith, b)) in omega (arith, e, f)) (omega (arith, h, l)))
  ]
    where
      above : i ≤ j → i < j
      above p = elim (ℕ_discrete i j) [
        | yes e ↦ absurd (o (sym e))
        | no e ↦ omega (arith, p, e)
      ]

  -- all others stay
  pub result_other : k.count ≤ most_terms → (j : ℕ) → j ≢ i → held_result n (with_result k i m) j ≡ held_result n m j
  unfolding held_result with_result handed
  result_other f j o =
      ap₂ (λ (c e : ℕ). of_terms n c e (pad (terms_of most_terms
      (drop (most_terms * j) (spliced (most_terms * i) named_keys m.keys))
      (drop (most_terms * j) (spliced (most_terms * i) named_coefficients m.coefficients)))))
      (get_or-set_other m.counts i j k.count 0 o) (get_or-set_other m.radii i j k.radius 0 o)
      ∙ ap (λ (t : List Term). of_terms n (get_or m.counts j 0) (get_or m.radii j 0) (pad t))
      (terms_taken most_terms _ _
      ∙ ap₂ (terms_of most_terms)
      (kept_elsewhere named_keys m.keys (omega (arith, f, length-take k.count k.keys)) r.keys_long j o)
      (kept_elsewhere named_coefficients m.coefficients
      (omega (arith, f, length-take k.count k.coefficients)) r.coefficients_long j o)
      ∙ sym (terms_taken most_terms _ _))

  -- no count is above the most
  still_few : k.count ≤ most_terms → (j : ℕ) → get_or (set m.counts i k.count) j 0 ≤ most_terms
  still_few f j = elim (ℕ_discrete j i) [
    | yes e ↦
        let g : get_or (set m.counts i k.count) j 0 ≡ k.count =
        ap (λ j. get_or (set m.counts i k.count) j 0) e
        ∙ get_or-set_same m.counts i k.count 0 (omega (arith, r.counts_long)) in
        omega (arith, g)
    | no o ↦ omega (arith, get_or-set_other m.counts i j k.count 0 o, r.few j)
  ]

  -- and the slices keep their room
  pub roomy_still : k.count ≤ most_terms → k.count ≤ length (listed k) → Roomy places (with_result k i m)
  unfolding with_result most_terms
  roomy_still f w = record {
    keys_long =
        let p = length_spliced (64 * i) named_keys m.keys (omega (arith, r.keys_long, keys_long w, f, l)) in
        omega (arith, p, r.keys_long);
    coefficients_long =
        let p = length_spliced (64 * i) named_coefficients m.coefficients
        (omega (arith, r.coefficients_long, coefficients_long w, f, l)) in
        omega (arith, p, r.coefficients_long);
    counts_long = omega (arith, length-set m.counts i k.count, r.counts_long);
    radii_long = omega (arith, length-set m.radii i k.radius, r.radii_long);
    few = still_few f;
  }

-- ---- fewer places
pub roomy_less : {a b : ℕ} {m : Results} → Roomy a m → b ≤ a → Roomy b m
unfolding most_terms
roomy_less r h = record {
  keys_long = omega (arith, r.keys_long, h);
  coefficients_long = omega (arith, r.coefficients_long, h);
  counts_long = omega (arith, r.counts_long, h);
  radii_long = omega (arith, r.radii_long, h);
  few = r.few;
}

-- ---- slices of zeros
pub roomy_zeros : (k z c r places : ℕ) → most_terms * places ≤ k → most_terms * places ≤ z → places ≤ c → places ≤ r
    → Roomy places (results (replicate k 0) (replicate z (pos 0)) (replicate c 0) (replicate r 0))
roomy_zeros k z c r places a b d e = record {
  keys_long = omega (arith, length-replicate {A = ℕ} k 0, a);
  coefficients_long = omega (arith, length-replicate z (pos 0), b);
  counts_long = omega (arith, length-replicate {A = ℕ} c 0, d);
  radii_long = omega (arith, length-replicate {A = ℕ} r 0, e);
  few = λ j. omega (arith, filled_at {A = ℕ} 0 c j);
}

-- ---- the struct at a place, taken out
module _ {places : ℕ} {m : Results} (r : Roomy places m) {j : ℕ} (l : j < places) where
  -- by the terms that its count names
  pub taken_end : (n i : ℕ) → i ≡ get_or m.counts j 0
      → view (of_terms n (get_or m.counts j 0) (get_or m.radii j 0)
      (pad (terms_of i (drop (most_terms * j) m.keys) (drop (most_terms * j) m.coefficients))))
      ≡ view (held_result n m j)
  unfolding held_result most_terms
  taken_end n i e = taken_view n _ _ i _ _
      (omega (
        arith,
        e,
        r.few j,
        r.keys_long,
        length-drop (most_terms * j) m.keys,
        r.coefficients_long,
        length-drop (most_terms * j) m.coefficients,
      ))

-- ---- an answer put down
module _ (c : Accounted) (i : ℕ) (m : Results) (l : List ℕ) where
  -- that is accepted
  module _ (e : c.answer.verdict ≡ Ok tt) where
    pub settled_put : settled_results c i m ≡ with_result c.answer.model i m
    unfolding settled_results unless
    settled_put = ap (λ v. unless v (with_result c.answer.model i m) m) e

    pub settled_row : settled_rows c i l ≡ with_row c.shares i l
    unfolding settled_rows unless
    settled_row = ap (λ v. unless v (with_row c.shares i l) l) e

  -- that is refused
  module _ {r : Refusal} {p : ℕ} (e : c.answer.verdict ≡ Err (refused_at r p)) where
    pub settled_kept : settled_results c i m ≡ m
    unfolding settled_results unless
    settled_kept = ap (λ v. unless v (with_result c.answer.model i m) m) e

    pub settled_row_kept : settled_rows c i l ≡ l
    unfolding settled_rows unless
    settled_row_kept = ap (λ v. unless v (with_row c.shares i l) l) e

-- ---- the zero model in memory
pub zero_view : (n : ℕ) → view (pack (zero_model n)) ≡ zero_model n
unfolding view pack zero_model first_places
zero_view n = refl

-- ---- the terms that a count names, of 64
pub take_least : {A : Type 0} (c i : ℕ) (ts : List A) → i ≡ min c 64 → length ts ≡ 64 → take i ts ≡ take c ts
take_least c i ts e w = elim (dec_lt c 65) [
  | yes l ↦ let q : i ≡ c = omega (arith, e, l) in ap (λ n. take n ts) q
  | no l ↦ take_all i ts (omega (arith, e, l, w)) ∙ sym (take_all c ts (omega (arith, l, w)))
]
