-- Terms by wide keys, packed: one more that is stored, all of them in a struct, and the struct of a model's.
use Rattle.std.specs.Prelude.{◌≡◌, T, ℤ, pos, set, drop, replicate}
use Rattle.std.proofs.Math.Path.{refl, sym, ap, ap₂, subst}
use Rattle.std.proofs.Common.{◌∙◌, add-one, arith}
use mathlib.Core.List.{List, [], ◌∷◌, ◌++◌, map, map-append}
use Prim.Native.Nat.{ℕ, zero, suc, ◌+◌, ◌-◌, ◌≤◌, ◌<◌}
use Rattle.std.proofs.Math.ListN.{length, get_or, length-map}
use Rattle.std.proofs.lemmas.List.{set-get_or}
use Rattle.polynomial.specs.Polynomial.{exponent}
use Rattle.calculus.specs.Key.{key_width, Below}
use Rattle.calculus_laws.specs.KeyLaws.{below_degree}
use Rattle.calculus.specs.Terms.{Terms, every, map_monomials}
use Rattle.calculus_laws.specs.TermsLaws.{every_head, every_tail}
use Rattle.calculus.specs.Model.{most_terms, most_degree, fits}
use Rattle.calculus_laws.specs.FitsLaws.{fits_length, fits_degree}
use Rattle.model_keys.specs.Keys.{wide_exponents, narrowed}
use Rattle.model_keys.specs.WideKeyLaws.{narrowed_key, exponents_below}
use Rattle.model_types.specs.declared.Term.{Term}
use Rattle.model_types.specs.Arrays.{padded}
use Rattle.model_types.specs.ModelStruct.{zero_term, pack_term, pad, pack, of_terms}
use Rattle.model_types.specs.PairedLaws.{Listed}
use Rattle.model_slices.specs.HandedModels.{over}
use Rattle.model_slices.specs.HandedModelsLaws.{over_more}
use Rattle.product_sums.specs.TermArrays.{at_key, none, terms}
use Rattle.product_sums.specs.TermArrayLaws.{terms_length, terms_at, terms_push}
use Rattle.product_sums.specs.Wide.{wide, wide_terms}
use Rattle.product_sums.specs.WideLaws.{wide_length}
use Rattle.product_answer.specs.PackedTerms.{narrowed_term, PackReady, narrow_keys, narrow_coefficients, packed}

-- ---- one term more
module _ (keys : List ℕ) (cs : List ℤ) where
  pub terms_more : (i : ℕ) → i < length keys → i < length cs
      → terms (i + 1) keys cs ≡ terms i keys cs ++ (at_key (get_or keys i 0) (get_or cs i (pos 0)) ∷ [])
  terms_more i h l =
      ap (λ j. terms j keys cs) (add-one i)
      ∙ ap₂ (λ k c. terms (suc i) k c) (sym (set-get_or keys i 0)) (sym (set-get_or cs i (pos 0)))
      ∙ terms_push i keys cs (get_or keys i 0) (get_or cs i (pos 0)) h l

  module _ {A : Type 0} (f : Term → A) where
    -- what a function makes of the first terms
    unfoldable pub images : ℕ → List A
    images i = map f (map narrowed_term (terms i keys cs))

    pub images_long : (i : ℕ) → i ≤ length keys → i ≤ length cs → length (images i) ≡ i
    unfolding images
    images_long i h l =
        length-map (map narrowed_term (terms i keys cs)) f ∙ length-map (terms i keys cs) narrowed_term
        ∙ terms_length i keys cs h l

    image_more : (d : A) (i : ℕ) (k : List A) → i < length keys → i < length cs → i < length k
        → set (over (images i) k) i (f (narrowed_term (at_key (get_or keys i 0) (get_or cs i (pos 0)))))
        ≡ over (images (i + 1)) k
    unfolding images
    image_more d i k h l m =
        over_more d (images i) k i _ (images_long i (omega arith) (omega arith)) m
        ∙ ap (λ r. over r k)
        (sym (ap (λ p. map f (map narrowed_term p)) (terms_more i h l)
        ∙ ap (map f) (map-append narrowed_term (terms i keys cs) _)
        ∙ map-append f (map narrowed_term (terms i keys cs)) _))

  pub keys_more : (i : ℕ) (k : List ℕ) → i < length keys → i < length cs → i < length k
      → set (over (narrow_keys (terms i keys cs)) k) i (narrowed (get_or keys i 0))
      ≡ over (narrow_keys (terms (i + 1) keys cs)) k
  unfolding narrow_keys images narrowed_term exponent
  keys_more = image_more (λ t. t.key) 0

  pub coefficients_more : (i : ℕ) (k : List ℤ) → i < length keys → i < length cs → i < length k
      → set (over (narrow_coefficients (terms i keys cs)) k) i (get_or cs i (pos 0))
      ≡ over (narrow_coefficients (terms (i + 1) keys cs)) k
  unfolding narrow_coefficients images narrowed_term
  coefficients_more = image_more (λ t. t.coefficient) (pos 0)

-- ---- all of them, over zeros
map_zeros : {A : Type 0} (f : Term → A) (n : ℕ) → map f (replicate n zero_term) ≡ replicate n (f zero_term)
map_zeros f zero = refl
map_zeros f (suc n) = ap (λ l. f zero_term ∷ l) (map_zeros f n)

pub map_padded : {A : Type 0} (f : Term → A) (n : ℕ) (l : List Term)
    → map f (padded zero_term n l) ≡ padded (f zero_term) n (map f l)
unfolding padded
map_padded f n l =
    map-append f l (replicate (n - length l) zero_term)
    ∙ ap (λ r. map f l ++ r)
    (map_zeros f (n - length l) ∙ ap (λ c. replicate (n - c) (f zero_term)) (sym (length-map l f)))

drop_zeros : {A : Type 0} (z : A) (i n : ℕ) → i ≤ n → drop i (replicate n z) ≡ replicate (n - i) z
drop_zeros z zero n h =
    let e : n ≡ n - 0 = omega arith in
    ap (λ j. replicate j z) e
drop_zeros z (suc i) zero h = absurd (omega arith)
drop_zeros z (suc i) (suc n) h =
    let e : n - i ≡ suc n - suc i = omega arith in
    drop_zeros z i n (omega arith) ∙ ap (λ j. replicate j z) e

over_zeros : {A : Type 0} (z : A) (n : ℕ) (l : List A) → length l ≤ n → over l (replicate n z) ≡ padded z n l
unfolding over padded
over_zeros z n l h = ap (λ r. l ++ r) (drop_zeros z (length l) n h)

module _ {count : ℕ} {keys : List ℕ} {cs : List ℤ} (h : PackReady count keys cs) where
  over_all : {A : Type 0} (f : Term → A) → over (images keys cs f count) (replicate most_terms (f zero_term))
      ≡ map f (pad (map narrowed_term (terms count keys cs)))
  unfolding images
  over_all f =
      over_zeros (f zero_term) most_terms (images keys cs f count)
      (omega (arith, h.few, images_long keys cs f count h.keys_long h.coefficients_long))
      ∙ sym (map_padded f most_terms (map narrowed_term (terms count keys cs)))

  -- two arrays of zeros that they were stored in
  pub packed_arrays : {out_keys : List ℕ} {out : List ℤ}
      → out_keys ≡ over (narrow_keys (terms count keys cs)) (replicate most_terms 0)
      → out ≡ over (narrow_coefficients (terms count keys cs)) (replicate most_terms (pos 0))
      → Listed out_keys out (pad (map narrowed_term (terms count keys cs)))
  unfolding images narrow_keys narrow_coefficients
  packed_arrays k c = record {
    keys_are = k ∙ over_all (λ t. t.key);
    coefficients_are = c ∙ over_all (λ t. t.coefficient);
  }

-- ---- the struct of terms in n variables and of degrees up to d, by their wide keys
module _ (n d : ℕ) (width : n ≤ key_width) (low : d ≤ most_degree) where
  module _ (k : List ℕ) (h : T (fits n d k)) where
    short : length k ≤ key_width
    short = omega (arith, fits_length n d k h)

    below : Below 16 k
    unfolding most_degree
    below = below_degree 16 k (omega (arith, fits_degree n d k h))

  narrowed_wide : (p : Terms) → T (every (λ k c. fits n d k) p) → map narrowed_term (wide_terms p) ≡ map pack_term p
  unfolding wide_terms map_monomials wide narrowed_term pack_term exponent
  narrowed_wide [] h = refl
  narrowed_wide (t ∷ p) h =
      let k = t.exponents in
      let f = every_head (λ k c. fits n d k) t p h in
      ap₂ ◌∷◌ (ap (λ z. record { key = z; coefficient = t.coefficient }) (narrowed_key k (below k f) (short k f)))
      (narrowed_wide p (every_tail (λ k c. fits n d k) t p h))

  pub packed_wide : (e : ℕ) (p : Terms) → T (every (λ k c. fits n d k) p)
      → packed n e (wide_terms p) ≡ pack (record { vars = n; radius = e; terms = p })
  unfolding packed pack
  packed_wide e p h = ap₂ (λ (c : ℕ) (l : List Term). of_terms n c e (pad l))
      (wide_length p) (narrowed_wide p h)

  exponents_at : (p : Terms) (i : ℕ) → T (every (λ k c. fits n d k) p) → i < length p
      → Below 16 (wide_exponents (exponent 0 (get_or (wide_terms p) i none).exponents))
  unfolding wide_terms map_monomials wide exponent
  exponents_at [] i h l = absurd (omega arith)
  exponents_at (t ∷ p) zero h l =
      let f = every_head (λ k c. fits n d k) t p h in
      exponents_below t.exponents (below t.exponents f) (short t.exponents f)
  exponents_at (t ∷ p) (suc i) h l = exponents_at p i (every_tail (λ k c. fits n d k) t p h) (omega arith)

  pub pack_ready : (p : Terms) (count : ℕ) (keys : List ℕ) (coefficients : List ℤ) → T (every (λ k c. fits n d k) p)
      → terms count keys coefficients ≡ wide_terms p → count ≤ most_terms → count ≤ length keys
      → count ≤ length coefficients → PackReady count keys coefficients
  unfolding exponent
  pack_ready p count keys coefficients h e few lk lc = record {
    few = few;
    keys_long = lk;
    coefficients_long = lc;
    small = λ i l. subst (λ t. Below 16 (wide_exponents (exponent 0 t.exponents)))
        (ap (λ q. get_or q i none) (sym e) ∙ terms_at count keys coefficients i l lk lc)
        (exponents_at p i h (omega (arith, terms_length count keys coefficients lk lc, ap length e, wide_length p)));
  }
