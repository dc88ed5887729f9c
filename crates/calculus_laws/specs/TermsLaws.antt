-- What selecting, mapping, collecting and multiplying do to the tests of terms: every, rising and nonzero.
use Rattle.std.specs.Prelude.{◌≡◌, Bool, true, false, not, ℕ, suc, ◌≤◌, eqb, ℤ, pos, negsuc, ◌+ℤ◌, nat_abs, length}
use Rattle.std.proofs.Common.{ap, eqb→eq}
use mathlib.Core.List.{List, [], ◌∷◌, ◌++◌}
use native.Mathlib.Omega.{arith}
use Rattle.std.proofs.Math.Dec.{T}
use Rattle.algebra.specs.LexicographicLaws.{same_ok, less_trans, less_total}
use Rattle.algebra.specs.IntegerRing.{ℤR}
use Rattle.polynomial.specs.Polynomial.{Term, add_exponents, times, product}
use Rattle.calculus.specs.Monomial.{same, less}
use Rattle.calculus.specs.Terms.{Terms, term, every, select, map_coefficients, map_terms, map_monomials}
use Rattle.calculus.specs.Terms.{rising_from, rising, is_nonzero, nonzero, drop_zeros, insert, collect}
use Rattle.calculus_laws.specs.TestLaws.{and_left, and_right, both}

-- ---- by cases
-- a term is selected or not
pub by_select : (P : Terms → Type 0) (f : List ℕ → ℤ → Bool) (t : Term ℤ) (p : Terms)
    → (T (f t.exponents t.coefficient) → P (t ∷ select f p))
    → (T (not (f t.exponents t.coefficient)) → P (select f p)) → P (select f (t ∷ p))
unfolding select
by_select P f t p = go (f t.exponents t.coefficient)
  where
    go : (b : Bool) → (T b → P (t ∷ select f p)) → (T (not b) → P (select f p))
        → P (elim b as (λ b. Terms) [ true ↦ t ∷ select f p | false ↦ select f p ])
    go true in-it out-of-it = in-it tt
    go false in-it out-of-it = out-of-it tt

-- a term is added to the first, put before it, or put in after it
pub by_insert : (P : Terms → Type 0) (t s : Term ℤ) (p : Terms)
    → (t.exponents ≡ s.exponents → P (term (t.coefficient +ℤ s.coefficient) s.exponents ∷ p))
    → (T (less t.exponents s.exponents) → P (t ∷ (s ∷ p)))
    → (T (less s.exponents t.exponents) → P (s ∷ insert t p)) → P (insert t (s ∷ p))
unfolding insert
by_insert P t s p = go (same t.exponents s.exponents) (less t.exponents s.exponents)
    (same_ok t.exponents s.exponents) (λ h. h) (less_total t.exponents s.exponents)
  where
    joined : Term ℤ
    joined = term (t.coefficient +ℤ s.coefficient) s.exponents

    go : (b c : Bool) → (T b → t.exponents ≡ s.exponents) → (T c → T (less t.exponents s.exponents))
        → (T (not b) → T (not c) → T (less s.exponents t.exponents))
        → (t.exponents ≡ s.exponents → P (joined ∷ p)) → (T (less t.exponents s.exponents) → P (t ∷ (s ∷ p)))
        → (T (less s.exponents t.exponents) → P (s ∷ insert t p))
        → P (elim b as (λ b. Terms) [
          | true ↦ joined ∷ p
          | false ↦ elim c as (λ c. Terms) [ true ↦ t ∷ (s ∷ p) | false ↦ s ∷ insert t p ]
        ])
    go true c e l g at before after = at (e tt)
    go false true e l g at before after = before (l tt)
    go false false e l g at before after = after (g tt tt)

-- ---- every
module _ (f : List ℕ → ℤ → Bool) where
  pub every_head : (t : Term ℤ) (p : Terms) → T (every f (t ∷ p)) → T (f t.exponents t.coefficient)
  unfolding every
  every_head t p h = and_left (f t.exponents t.coefficient) _ h

  pub every_tail : (t : Term ℤ) (p : Terms) → T (every f (t ∷ p)) → T (every f p)
  unfolding every
  every_tail t p h = and_right (f t.exponents t.coefficient) _ h

  pub every_nil : T (every f [])
  unfolding every
  every_nil = tt

  pub every_cons : (t : Term ℤ) (p : Terms) → T (f t.exponents t.coefficient) → T (every f p)
      → T (every f (t ∷ p))
  unfolding every
  every_cons t p h k = both (f t.exponents t.coefficient) _ h k

  pub every-++ : (p q : Terms) → T (every f p) → T (every f q) → T (every f (p ++ q))
  every-++ [] q h k = k
  every-++ (t ∷ p) q h k = every_cons t (p ++ q) (every_head t p h) (every-++ p q (every_tail t p h) k)

  -- of those selected
  pub every_select : (g : List ℕ → ℤ → Bool) (p : Terms) → T (every f p) → T (every f (select g p))
  every_select g [] h = unfold select in h
  every_select g (t ∷ p) h = go (every_select g p (every_tail t p h))
    where
      go : T (every f (select g p)) → T (every f (select g (t ∷ p)))
      go ih = by_select (λ q. T (every f q)) g t p (λ y. every_cons t _ (every_head t p h) ih) (λ n. ih)

  -- those selected by the test itself
  pub every_selected : (p : Terms) → T (every f (select f p))
  every_selected [] = unfold select in every_nil
  every_selected (t ∷ p) = go (every_selected p)
    where
      go : T (every f (select f p)) → T (every f (select f (t ∷ p)))
      go ih = by_select (λ q. T (every f q)) f t p (λ y. every_cons t _ y ih) (λ n. ih)

  pub every_implies : (g : List ℕ → ℤ → Bool) → ((k : List ℕ) (c : ℤ) → T (f k c) → T (g k c))
      → (p : Terms) → T (every f p) → T (every g p)
  unfolding every
  every_implies g i [] h = tt
  every_implies g i (t ∷ p) h =
      both (g t.exponents t.coefficient) _ (i _ _ (every_head t p h)) (every_implies g i p (every_tail t p h))

  -- two tests together
  pub every_both : (g h : List ℕ → ℤ → Bool) → ((k : List ℕ) (c : ℤ) → T (f k c) → T (g k c) → T (h k c))
      → (p : Terms) → T (every f p) → T (every g p) → T (every h p)
  unfolding every
  every_both g h i [] a b = tt
  every_both g h i (t ∷ p) a b = both (h t.exponents t.coefficient) _
      (i _ _ (every_head t p a) (and_left (g t.exponents t.coefficient) _ b))
      (every_both g h i p (every_tail t p a) (and_right (g t.exponents t.coefficient) _ b))

  pub every_map_coefficients : (u : ℤ → ℤ) → ((k : List ℕ) (c : ℤ) → T (f k c) → T (f k (u c)))
      → (p : Terms) → T (every f p) → T (every f (map_coefficients u p))
  unfolding map_coefficients
  every_map_coefficients u i [] h = h
  every_map_coefficients u i (t ∷ p) h =
      every_cons _ _ (i _ _ (every_head t p h)) (every_map_coefficients u i p (every_tail t p h))

  pub every_map_terms : (u : List ℕ → ℤ → ℤ) → ((k : List ℕ) (c : ℤ) → T (f k c) → T (f k (u k c)))
      → (p : Terms) → T (every f p) → T (every f (map_terms u p))
  unfolding map_terms
  every_map_terms u i [] h = h
  every_map_terms u i (t ∷ p) h =
      every_cons _ _ (i _ _ (every_head t p h)) (every_map_terms u i p (every_tail t p h))

  pub every_map_monomials : (u : List ℕ → List ℕ) → ((k : List ℕ) (c : ℤ) → T (f k c) → T (f (u k) c))
      → (p : Terms) → T (every f p) → T (every f (map_monomials u p))
  unfolding map_monomials
  every_map_monomials u i [] h = h
  every_map_monomials u i (t ∷ p) h =
      every_cons _ _ (i _ _ (every_head t p h)) (every_map_monomials u i p (every_tail t p h))

-- of a test of monomials alone
module _ (f : List ℕ → Bool) where
  abbrev pub on_monomials : List ℕ → ℤ → Bool
  on_monomials k c = f k

  every_insert : (t : Term ℤ) (p : Terms) → T (f t.exponents) → T (every on_monomials p)
      → T (every on_monomials (insert t p))
  every_insert t [] h k = unfold insert in every_cons on_monomials t [] h k
  every_insert t (s ∷ p) h k = go (every_insert t p h (every_tail on_monomials s p k))
    where
      head : T (f s.exponents)
      head = every_head on_monomials s p k

      go : T (every on_monomials (insert t p)) → T (every on_monomials (insert t (s ∷ p)))
      go ih = by_insert (λ q. T (every on_monomials q)) t s p
          (λ e. every_cons on_monomials _ p head (every_tail on_monomials s p k))
          (λ l. every_cons on_monomials t _ h k) (λ l. every_cons on_monomials s _ head ih)

  pub every_collect : (p : Terms) → T (every on_monomials p) → T (every on_monomials (collect p))
  unfolding collect
  every_collect [] h = h
  every_collect (t ∷ p) h =
      every_insert t (collect p) (every_head on_monomials t p h) (every_collect p (every_tail on_monomials t p h))

-- of products: if a product of monomials that pass f passes g
module _ (f g : List ℕ → Bool) (j : (k l : List ℕ) → T (f k) → T (f l) → T (g (add_exponents k l))) where
  every_times : (t : Term ℤ) (q : Terms) → T (f t.exponents) → T (every (on_monomials f) q)
      → T (every (on_monomials g) (times ℤR t q))
  unfolding times
  every_times t [] h e = every_nil (on_monomials g)
  every_times t (s ∷ q) h e =
      every_cons (on_monomials g) _ _ (j t.exponents s.exponents h (every_head (on_monomials f) s q e))
      (every_times t q h (every_tail (on_monomials f) s q e))

  pub every_product : (p q : Terms) → T (every (on_monomials f) p) → T (every (on_monomials f) q)
      → T (every (on_monomials g) (product ℤR p q))
  unfolding product
  every_product [] q h e = every_nil (on_monomials g)
  every_product (t ∷ p) q h e =
      every-++ (on_monomials g) (times ℤR t q) (product ℤR p q) (every_times t q (every_head (on_monomials f) t p h) e)
      (every_product p q (every_tail (on_monomials f) t p h) e)

-- no more terms than before
pub length_select : (f : List ℕ → ℤ → Bool) (p : Terms) → length (select f p) ≤ length p
length_select f [] = unfold select in omega arith
length_select f (t ∷ p) = go (length_select f p)
  where
    go : length (select f p) ≤ length p → length (select f (t ∷ p)) ≤ suc (length p)
    go h = by_select (λ q. length q ≤ suc (length p)) f t p (λ y. omega arith) (λ n. omega arith)

-- ---- rising
pub rising_head : (j : List ℕ) (t : Term ℤ) (p : Terms) → T (rising_from j (t ∷ p)) → T (less j t.exponents)
unfolding rising_from
rising_head j t p h = and_left (less j t.exponents) _ h

pub rising_rest : (j : List ℕ) (t : Term ℤ) (p : Terms) → T (rising_from j (t ∷ p)) → T (rising_from t.exponents p)
unfolding rising_from
rising_rest j t p h = and_right (less j t.exponents) _ h

pub rising_cons : (j : List ℕ) (t : Term ℤ) (p : Terms)
    → T (less j t.exponents) → T (rising_from t.exponents p) → T (rising_from j (t ∷ p))
unfolding rising_from
rising_cons j t p h k = both (less j t.exponents) _ h k

-- from above a smaller monomial
pub rising_below : (j k : List ℕ) (p : Terms) → T (less j k) → T (rising_from k p) → T (rising_from j p)
rising_below j k [] l h = unfold rising_from in tt
rising_below j k (t ∷ p) l h =
    rising_cons j t p (less_trans j k t.exponents l (rising_head k t p h)) (rising_rest k t p h)

-- from above any monomial
pub rising_any : (k : List ℕ) (p : Terms) → T (rising_from k p) → T (rising p)
unfolding rising
rising_any k [] h = tt
rising_any k (t ∷ p) h = rising_rest k t p h

module _ (f : List ℕ → ℤ → Bool) where
  pub rising_from_select : (j : List ℕ) (p : Terms) → T (rising_from j p) → T (rising_from j (select f p))
  rising_from_select j [] h = unfold select in h
  rising_from_select j (t ∷ p) h = go (rising_from_select t.exponents p (rising_rest j t p h))
    where
      go : T (rising_from t.exponents (select f p)) → T (rising_from j (select f (t ∷ p)))
      go ih = by_select (λ q. T (rising_from j q)) f t p (λ y. rising_cons j t _ (rising_head j t p h) ih)
          (λ n. rising_below j t.exponents _ (rising_head j t p h) ih)

  pub rising_select : (p : Terms) → T (rising p) → T (rising (select f p))
  unfolding rising
  rising_select [] h = unfold select in tt
  rising_select (t ∷ p) h = by_select (λ q. T (rising q)) f t p (λ y. rising_from_select t.exponents p h)
      (λ n. rising_any t.exponents _ (rising_from_select t.exponents p h))

module _ (u : ℤ → ℤ) where
  rising_from_map : (j : List ℕ) (p : Terms) → T (rising_from j p) → T (rising_from j (map_coefficients u p))
  unfolding map_coefficients
  rising_from_map j [] h = h
  rising_from_map j (t ∷ p) h =
      rising_cons j _ _ (rising_head j t p h) (rising_from_map t.exponents p (rising_rest j t p h))

  pub rising_map_coefficients : (p : Terms) → T (rising p) → T (rising (map_coefficients u p))
  unfolding map_coefficients rising
  rising_map_coefficients [] h = h
  rising_map_coefficients (t ∷ p) h = rising_from_map t.exponents p h

module _ (u : List ℕ → ℤ → ℤ) where
  rising_from_map_terms : (j : List ℕ) (p : Terms) → T (rising_from j p) → T (rising_from j (map_terms u p))
  unfolding map_terms
  rising_from_map_terms j [] h = h
  rising_from_map_terms j (t ∷ p) h =
      rising_cons j _ _ (rising_head j t p h) (rising_from_map_terms t.exponents p (rising_rest j t p h))

  pub rising_map_terms : (p : Terms) → T (rising p) → T (rising (map_terms u p))
  unfolding map_terms rising
  rising_map_terms [] h = h
  rising_map_terms (t ∷ p) h = rising_from_map_terms t.exponents p h

-- where u keeps the order of the monomials that pass f, it keeps terms rising whose monomials pass
module _ (f : List ℕ → Bool) (u : List ℕ → List ℕ)
    (keeps : (j k : List ℕ) → T (f j) → T (f k) → T (less j k) → T (less (u j) (u k))) where
  rising_from_moved : (j : List ℕ) (p : Terms) → T (f j) → T (every (on_monomials f) p) → T (rising_from j p)
      → T (rising_from (u j) (map_monomials u p))
  unfolding map_monomials
  rising_from_moved j [] t e h = unfold rising_from in tt
  rising_from_moved j (s ∷ p) t e h = rising_cons (u j) _ _
      (keeps j s.exponents t (every_head (on_monomials f) s p e) (rising_head j s p h))
      (rising_from_moved s.exponents p (every_head (on_monomials f) s p e) (every_tail (on_monomials f) s p e)
      (rising_rest j s p h))

  pub rising_map_monomials : (p : Terms) → T (every (on_monomials f) p) → T (rising p)
      → T (rising (map_monomials u p))
  unfolding map_monomials rising
  rising_map_monomials [] e h = tt
  rising_map_monomials (t ∷ p) e h = rising_from_moved t.exponents p (every_head (on_monomials f) t p e)
      (every_tail (on_monomials f) t p e) h

rising_from_insert : (j : List ℕ) (t : Term ℤ) (p : Terms)
    → T (rising_from j p) → T (less j t.exponents) → T (rising_from j (insert t p))
rising_from_insert j t [] h l = unfold insert in rising_cons j t [] l (unfold rising_from in tt)
rising_from_insert j t (s ∷ p) h l = go (rising_from_insert s.exponents t p (rising_rest j s p h))
  where
    go : (T (less s.exponents t.exponents) → T (rising_from s.exponents (insert t p)))
        → T (rising_from j (insert t (s ∷ p)))
    go ih = by_insert (λ q. T (rising_from j q)) t s p
        (λ e. rising_cons j _ p (rising_head j s p h) (rising_rest j s p h))
        (λ m. rising_cons j t _ l (rising_cons t.exponents s p m (rising_rest j s p h)))
        (λ m. rising_cons j s _ (rising_head j s p h) (ih m))

rising_insert : (t : Term ℤ) (p : Terms) → T (rising p) → T (rising (insert t p))
unfolding rising
rising_insert t [] h = unfold insert rising_from in tt
rising_insert t (s ∷ p) h = by_insert (λ q. T (rising q)) t s p (λ e. h) (λ m. rising_cons t.exponents s p m h)
    (λ m. rising_from_insert s.exponents t p h m)

-- collecting puts the monomials in order
pub rising_collect : (p : Terms) → T (rising (collect p))
unfolding collect rising
rising_collect [] = tt
rising_collect (t ∷ p) = rising_insert t (collect p) (rising_collect p)

-- ---- nonzero
pub zero_coefficient : (c : ℤ) → T (not (is_nonzero c)) → c ≡ pos 0
unfolding is_nonzero
zero_coefficient c h = no_size c (eqb→eq (nat_abs c) 0 (twice (eqb (nat_abs c) 0) h))
  where
    twice : (b : Bool) → T (not (not b)) → T b
    twice true h = tt
    twice false h = h

    no_size : (c : ℤ) → nat_abs c ≡ 0 → c ≡ pos 0
    no_size (pos n) e = ap pos e
    no_size (negsuc n) e = absurd (omega arith)

pub nonzero_drop_zeros : (p : Terms) → T (nonzero (drop_zeros p))
unfolding nonzero drop_zeros
nonzero_drop_zeros p = every_selected (λ k c. is_nonzero c) p
