-- One pass over two slices decides the rules on the model that lies in them, and a struct lies in its own arrays.
use Rattle.std.specs.Prelude.{◌≡◌, refl, true, false, ℕ, zero, suc, ◌+◌, ◌-◌, ◌≤◌, ◌<◌, min, T, leb, ℤ, pos, length, replicate}
use Rattle.std.proofs.Common.{sym, ◌∙◌, arith, le-leb, leb→le, length-append}
use Rattle.std.proofs.Math.Path.{ap, subst}
use mathlib.Core.List.{List, [], ◌∷◌, ◌++◌, append-nil}
use Rattle.std.proofs.Math.IntN.{nat_abs}
use Rattle.std.proofs.Math.ListN.{get_or}
use Rattle.std.proofs.lemmas.List.{length-replicate}
use Rattle.calculus.specs.Key.{key_limit}
use Rattle.numbers.specs.Fixed.{span_limit, capped}
use Rattle.calculus.specs.Model.{most_terms, sound}
use Rattle.calculus.specs.Tests.{vars_sound}
use Rattle.calculus_laws.specs.TestLaws.{and_left, and_right}
use Rattle.model_types.specs.declared.Term.{Term}
use Rattle.model_types.specs.declared.Model.{Model}
use Rattle.model_types.specs.Arrays.{padded}
use Rattle.model_types.specs.ModelStruct.{zero_term, paired, pad, view, listed, of_terms, term_sound}
use Rattle.model_types.specs.PairedLaws.{length_paired, listed_own, listed_struct}
use Rattle.model_slices.specs.HandedModels.{terms_of, handed, borrowed}
use Rattle.model_slices.specs.HandedModelsLaws.{listed_handed}
use Rattle.model_soundness.specs.SoundPassLaws.{Passed, vars_not, many_not, passed_first, passed_end}
use Rattle.model_soundness.specs.SoundPassLaws.{passed_iteration}
use Rattle.model_soundness.specs.SoundPassLaws.{passed_not}

-- ---- the places that a count names
pub borrowed_places : (count k z : ℕ) → borrowed count k z ≡ true → count ≤ most_terms → (count ≤ k) × (count ≤ z)
unfolding borrowed
borrowed_places count k z h f =
    let named = leb (min count most_terms) k in
    let t = subst T (sym h) tt in
    let l = leb→le (min count most_terms) k (and_left named _ t) in
    let m = leb→le (min count most_terms) z (and_right named _ t) in
    (omega arith, omega arith)

-- ---- the terms of two slices, and zeros after them
at_place : (n i : ℕ) (ks : List ℕ) (cs : List ℤ) (l : List Term) → i < n → i < length ks → i < length cs
    → get_or (terms_of n ks cs ++ l) i zero_term ≡ record { key = get_or ks i 0; coefficient = get_or cs i (pos 0) }
unfolding terms_of
at_place zero i ks cs l h k z = absurd (omega arith)
at_place (suc n) i [] cs l h k z = absurd (omega arith)
at_place (suc n) i (x ∷ ks) [] l h k z = absurd (omega arith)
at_place (suc n) zero (x ∷ ks) (c ∷ cs) l h k z = refl
at_place (suc n) (suc i) (x ∷ ks) (c ∷ cs) l h k z = at_place n i ks cs l (omega arith) (omega arith) (omega arith)

all_places : (l : List Term) → most_terms ≤ length (pad l)
unfolding padded
all_places l = simp (length-append, length-replicate) (omega arith)

-- ---- the model that lies in two slices
module _ (d n count radius : ℕ) (ks : List ℕ) (cs : List ℤ) where
  abbrev held : Model
  held = handed n count radius ks cs

  pub slices_vars_not : vars_sound n ≡ false → sound d (view held) ≡ false
  unfolding handed
  slices_vars_not h = vars_not d held h

  pub slices_many_not : most_terms < count → sound d (view held) ≡ false
  unfolding handed
  slices_many_not h = many_not d held h

  module _ (v : vars_sound n ≡ true) (f : count ≤ most_terms) where
    long : count ≤ length (listed held)
    long = rw (listed_handed n count radius ks cs) (omega (arith, all_places (terms_of most_terms ks cs)))

    pub slices_first : Passed d held radius 0 0
    unfolding handed
    slices_first = passed_first d held v f long

    module _ (total least i : ℕ) (h : Passed d held total least i) where
      pub slices_end : count ≤ i → leb total span_limit ≡ sound d (view held)
      unfolding handed
      slices_end l = passed_end d held v f long total least i h l

      module _ (l : i < count) (k : count ≤ length ks) (z : count ≤ length cs) (small : get_or ks i 0 < key_limit) where
        here : get_or (listed held) i zero_term ≡ record { key = get_or ks i 0; coefficient = get_or cs i (pos 0) }
        unfolding padded
        here = ap (λ (r : List Term). get_or r i zero_term) (listed_handed n count radius ks cs)
            ∙ at_place most_terms i ks cs _ (omega arith) (omega arith) (omega arith)

        small_here : (get_or (listed held) i zero_term).key < key_limit
        small_here = subst (λ (t : Term). t.key < key_limit) (sym here) small

        pub slices_iteration : term_sound n d least (get_or ks i 0) (get_or cs i (pos 0)) ≡ true
            → (next : ℕ) → next ≡ capped (total + nat_abs (get_or cs i (pos 0)))
            → Passed d held next (get_or ks i 0 + 1) (i + 1)
        unfolding handed
        slices_iteration t next e =
            subst (λ (x : Term). Passed d held next (x.key + 1) (i + 1)) here
            (passed_iteration d held v f long total least i h l small_here
            (subst (λ (x : Term). term_sound n d least x.key x.coefficient ≡ true) (sym here) t) next
            (subst (λ (x : Term). next ≡ capped (total + nat_abs x.coefficient)) (sym here) e))

        pub slices_not : term_sound n d least (get_or ks i 0) (get_or cs i (pos 0)) ≡ false
            → sound d (view held) ≡ false
        unfolding handed
        slices_not t =
            passed_not d held v f long total least i h l small_here
            (subst (λ (x : Term). term_sound n d least x.key x.coefficient ≡ false) (sym here) t)

-- ---- a struct's own arrays
terms_all : (ks : List ℕ) (cs : List ℤ) → terms_of (length ks) ks cs ≡ paired ks cs
unfolding terms_of paired
terms_all [] cs = refl
terms_all (k ∷ ks) [] = refl
terms_all (k ∷ ks) (c ∷ cs) = ap (λ (r : List Term). record { key = k; coefficient = c } ∷ r) (terms_all ks cs)

pad_all : (l : List Term) → length l ≡ most_terms → pad l ≡ l
unfolding padded
pad_all l e =
    let none : most_terms - length l ≡ 0 = omega arith in
    ap (λ (n : ℕ). l ++ replicate n zero_term) none ∙ append-nil l

-- have every place that a count may name
pub borrowed_own : (count k z : ℕ) → k ≡ most_terms → z ≡ most_terms → borrowed count k z ≡ true
unfolding borrowed
borrowed_own count k z e f =
    rw (le-leb (min count most_terms) k (omega arith), le-leb (min count most_terms) z (omega arith))

-- and handed over they are the struct again
pub handed_own : (m : Model) → length m.keys ≡ most_terms → length m.coefficients ≡ most_terms
    → handed m.n m.count m.radius m.keys m.coefficients ≡ m
unfolding handed
handed_own m k z =
    let own = paired m.keys m.coefficients in
    let even = k ∙ sym z in
    ap (of_terms m.n m.count m.radius)
    (ap (λ n. pad (terms_of n m.keys m.coefficients)) (sym k) ∙ ap pad (terms_all m.keys m.coefficients)
    ∙ pad_all own (length_paired _ _ even ∙ k))
    ∙ sym (listed_struct (listed_own m.keys m.coefficients even) m.n m.count m.radius)
