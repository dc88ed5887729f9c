-- Terms put through a change of monomials: what it does to products, selections, sums by monomial and order.
use Rattle.std.specs.Prelude.{◌≡◌, ℕ, ℤ, ◌+ℤ◌, ◌*ℤ◌}
use Rattle.std.proofs.Math.Path.{refl, sym, ap, ap₂}
use Rattle.std.proofs.Common.{◌∙◌}
use Rattle.std.proofs.Math.Bool.{Bool, true, false}
use mathlib.Core.List.{List, [], ◌∷◌, ◌++◌}
use Rattle.std.proofs.Math.Dec.{T}
use Rattle.algebra.specs.Lexicographic.{same, less}
use Rattle.algebra.specs.IntegerRing.{ℤR}
use Rattle.polynomial.specs.Polynomial.{Term, add_exponents, times, product}
use Rattle.calculus.specs.Terms.{Terms, term, every, select, map_coefficients, map_monomials, rising_from, rising}
use Rattle.calculus_laws.specs.TestLaws.{and_left, and_right, both}
use Rattle.calculus_laws.specs.TermsLaws.{on_monomials, every_head, every_tail}
use Rattle.product_sums.specs.TermArrays.{accumulated}
use Rattle.product_sums.specs.AccumulatedLaws.{every_accumulated}
use Rattle.product_sums.specs.Insertion.{inserted, sorted_into}
use Rattle.product_sums.specs.SortLaws.{every_sorted}
use Rattle.product_sums.specs.ProductSums.{accumulated_all}

-- one of two lists of terms, as tests that agree would have it
either : Bool → Terms → Terms → Terms
either b p q = elim b [ true ↦ p | false ↦ q ]

either_agree : (b c : Bool) (p q r s : Terms) → b ≡ c → p ≡ r → q ≡ s → either b p q ≡ either c r s
either_agree b c p q r s e f g = rw (e, f, g)

-- tests that agree on the monomials that stand select the same
pub select_agree : (fit f g : List ℕ → Bool) → ((k : List ℕ) → T (fit k) → f k ≡ g k)
    → (p : Terms) → T (every (on_monomials fit) p) → select (λ k c. f k) p ≡ select (λ k c. g k) p
unfolding select either
select_agree fit f g a [] h = refl
select_agree fit f g a (t ∷ p) h =
    let r = select_agree fit f g a p (every_tail (on_monomials fit) t p h) in
    either_agree (f t.exponents) (g t.exponents) _ _ _ _ (a t.exponents (every_head (on_monomials fit) t p h))
    (ap (λ (q : Terms). t ∷ q) r) r

module _ (u : List ℕ → List ℕ) where
  abbrev change : Term ℤ → Term ℤ
  change t = term t.coefficient (u t.exponents)

  change_either : (b : Bool) (p q : Terms)
      → map_monomials u (either b p q) ≡ either b (map_monomials u p) (map_monomials u q)
  unfolding either
  change_either true p q = refl
  change_either false p q = refl

  -- ---- with no more asked of it
  pub change_append : (p q : Terms) → map_monomials u (p ++ q) ≡ map_monomials u p ++ map_monomials u q
  unfolding map_monomials
  change_append [] q = refl
  change_append (t ∷ p) q = ap (λ (l : Terms). change t ∷ l) (change_append p q)

  pub select_change : (f : List ℕ → ℤ → Bool) (p : Terms)
      → select f (map_monomials u p) ≡ map_monomials u (select (λ k c. f (u k) c) p)
  unfolding select map_monomials either
  select_change f [] = refl
  select_change f (t ∷ p) =
      either_agree b b _ _ _ _ refl (ap (λ (q : Terms). change t ∷ q) (select_change f p)) (select_change f p)
      ∙ sym (change_either b (t ∷ select (λ k c. f (u k) c) p) (select (λ k c. f (u k) c) p))
    where
      b : Bool
      b = f (u t.exponents) t.coefficient

  pub map_change : (v : ℤ → ℤ) (p : Terms)
      → map_coefficients v (map_monomials u p) ≡ map_monomials u (map_coefficients v p)
  unfolding map_coefficients map_monomials
  map_change v [] = refl
  map_change v (t ∷ p) = ap (λ (q : Terms). term (v t.coefficient) (u t.exponents) ∷ q) (map_change v p)

  -- ---- if it keeps products
  module _ (additive : (k l : List ℕ) → u (add_exponents k l) ≡ add_exponents (u k) (u l)) where
    times_change : (t : Term ℤ) (q : Terms) → times ℤR (change t) (map_monomials u q) ≡ map_monomials u (times ℤR t q)
    unfolding times map_monomials
    times_change t [] = refl
    times_change t (s ∷ q) =
        ap₂ ◌∷◌ (ap (term (t.coefficient *ℤ s.coefficient)) (sym (additive t.exponents s.exponents)))
        (times_change t q)

    pub product_change : (p q : Terms)
        → product ℤR (map_monomials u p) (map_monomials u q) ≡ map_monomials u (product ℤR p q)
    unfolding product map_monomials
    product_change [] q = refl
    product_change (t ∷ p) q =
        ap₂ ◌++◌ (times_change t q) (product_change p q) ∙ sym (change_append (times ℤR t q) (product ℤR p q))

  -- ---- if it tells monomials that fit apart
  module _ (fit : List ℕ → Bool) (apart : (k l : List ℕ) → T (fit k) → T (fit l) → same (u k) (u l) ≡ same k l) where
    abbrev Fitting : Terms → Type 0
    Fitting p = T (every (on_monomials fit) p)

    accumulated_change : (t : Term ℤ) (p : Terms) → T (fit t.exponents) → Fitting p
        → accumulated (change t) (map_monomials u p) ≡ map_monomials u (accumulated t p)
    unfolding accumulated map_monomials either
    accumulated_change t [] h g = refl
    accumulated_change t (s ∷ p) h g =
        either_agree (same (u t.exponents) (u s.exponents)) b _ _ _ _
        (apart t.exponents s.exponents h (every_head (on_monomials fit) s p g)) refl
        (ap (λ (q : Terms). change s ∷ q) (accumulated_change t p h (every_tail (on_monomials fit) s p g)))
        ∙ sym (change_either b (term (t.coefficient +ℤ s.coefficient) s.exponents ∷ p) (s ∷ accumulated t p))
      where
        b : Bool
        b = same t.exponents s.exponents

    pub accumulated_all_change : (p q : Terms) → Fitting p → Fitting q
        → accumulated_all (map_monomials u p) (map_monomials u q) ≡ map_monomials u (accumulated_all p q)
    unfolding accumulated_all map_monomials
    accumulated_all_change p [] h g = refl
    accumulated_all_change p (t ∷ q) h g =
        let f = every_head (on_monomials fit) t q g in
        ap (λ (r : Terms). accumulated_all r (map_monomials u q)) (accumulated_change t p f h)
        ∙ accumulated_all_change (accumulated t p) q (every_accumulated t fit p f h)
        (every_tail (on_monomials fit) t q g)

  -- ---- if it keeps their order
  module _ (fit : List ℕ → Bool) (order : (k l : List ℕ) → T (fit k) → T (fit l) → less (u k) (u l) ≡ less k l) where
    inserted_change : (t : Term ℤ) (p : Terms) → T (fit t.exponents) → T (every (on_monomials fit) p)
        → inserted (change t) (map_monomials u p) ≡ map_monomials u (inserted t p)
    unfolding inserted map_monomials either
    inserted_change t [] h g = refl
    inserted_change t (s ∷ p) h g =
        either_agree (less (u t.exponents) (u s.exponents)) b _ _ _ _ (order t.exponents s.exponents h f)
        (ap (λ (q : Terms). change t ∷ q) (inserted_change s p f (every_tail (on_monomials fit) s p g)))
        (ap (λ (q : Terms). change s ∷ q) (inserted_change t p h (every_tail (on_monomials fit) s p g)))
        ∙ sym (change_either b (t ∷ inserted s p) (s ∷ inserted t p))
      where
        f : T (fit s.exponents)
        f = every_head (on_monomials fit) s p g

        b : Bool
        b = less t.exponents s.exponents

    pub sorted_change : (p q : Terms) → T (every (on_monomials fit) p) → T (every (on_monomials fit) q)
        → sorted_into (map_monomials u p) (map_monomials u q) ≡ map_monomials u (sorted_into p q)
    unfolding sorted_into map_monomials
    sorted_change p [] h g = refl
    sorted_change p (t ∷ q) h g =
        ap (inserted (change t)) (sorted_change p q h (every_tail (on_monomials fit) t q g))
        ∙ inserted_change t (sorted_into p q) (every_head (on_monomials fit) t q g)
        (every_sorted (on_monomials fit) p q h (every_tail (on_monomials fit) t q g))

    -- those that rise still do
    rising_from_change : (k : List ℕ) (p : Terms) → T (fit k) → T (every (on_monomials fit) p)
        → T (rising_from k p) → T (rising_from (u k) (map_monomials u p))
    unfolding rising_from map_monomials
    rising_from_change k [] f h r = tt
    rising_from_change k (t ∷ p) f h r =
        let g = every_head (on_monomials fit) t p h in
        both (less (u k) (u t.exponents)) _
        (rw (order k t.exponents f g) (and_left (less k t.exponents) _ r))
        (rising_from_change t.exponents p g (every_tail (on_monomials fit) t p h)
        (and_right (less k t.exponents) _ r))

    pub rising_change : (p : Terms) → T (every (on_monomials fit) p) → T (rising p) → T (rising (map_monomials u p))
    unfolding rising map_monomials
    rising_change [] h r = tt
    rising_change (t ∷ p) h r =
        rising_from_change t.exponents p (every_head (on_monomials fit) t p h)
        (every_tail (on_monomials fit) t p h) r
