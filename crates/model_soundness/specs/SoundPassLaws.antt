-- One pass over the terms of a struct decides the rules on its terms.
use Rattle.std.specs.Prelude.{◌≡◌, Bool, ◌&&◌, ℕ, ◌+◌, ◌≤◌, ◌<◌, ℤ, nat_abs, length, take, drop, get_or}
use Rattle.std.proofs.Math.Path.{refl, sym, ap}
use Rattle.std.proofs.Common.{◌∙◌, subst, add-one, arith}
use Rattle.std.proofs.Math.Bool.{true, false}
use mathlib.Core.List.{List, [], ◌∷◌, map}
use borrow.Author.Tests.{le-leb, lt-leb}
use Rattle.std.proofs.Math.Dec.{T, leb, leb-zero}
use Rattle.polynomial.specs.Polynomial as P
use Rattle.calculus.specs.Monomial.{less}
use Rattle.calculus.specs.Key.{key_width, key_limit, key_fits, monomial_of}
use Rattle.numbers.specs.Fixed.{span_limit, capped}
use Rattle.numbers.proofs.FixedLaws.{capped_more, capped_within}
use Rattle.calculus.specs.Terms.{Terms, every, is_nonzero, nonzero, rising_from, rising, sum_over, size}
use Rattle.calculus.specs.Model.{most_vars, most_terms, between, span, fits, sound}
use Rattle.calculus.specs.Tests.{vars_sound}
use Rattle.calculus_laws.specs.TestLaws.{and_left, and_right}
use Rattle.model_types.specs.declared.Term.{Term}
use Rattle.model_types.specs.declared.Model.{Model}
use Rattle.model_types.specs.ModelStruct.{zero_term, view_term, view, term_sound, listed}
use Rattle.calculus.specs.Key.{key_degree}
use Rattle.calculus_laws.specs.MonomialKeyLaws.{fits_monomial, less_monomials, above_empty}
use Rattle.model_types.specs.ModelStructLaws.{vars_range, read, size_more, length_read, length_view, view_is, rest_more}
use Rattle.model_types.specs.ModelStructLaws.{rest_end}

-- ---- tests in another order
sorted : (a b c x y z : Bool) → a && x && (b && y) && (c && z) ≡ a && b && c && (x && y && z)
sorted true true true x y z = refl
sorted true true false true true z = refl
sorted true true false true false z = refl
sorted true true false false y z = refl
sorted true false c true y z = refl
sorted true false c false y z = refl
sorted false b c x y z = refl

-- s counts only where b holds, and there it is q
by_key : (a q b e s : Bool) → (T b → s ≡ q) → b && e && a && s ≡ a && q && b && e
by_key a q true e s f = ap (λ r. e && a && r) (f tt) ∙ turned a q e
  where
    turned : (a q e : Bool) → e && a && q ≡ a && q && true && e
    turned true true true = refl
    turned true true false = refl
    turned true false true = refl
    turned true false false = refl
    turned false q true = refl
    turned false q false = refl
by_key true true false e s f = refl
by_key true false false e s f = refl
by_key false q false e s f = refl

module _ (n d : ℕ) where
  -- the rules on terms whose monomials rise from above k
  unfoldable pub rest_sound : List ℕ → Terms → Bool
  rest_sound k p = every (λ j c. fits n d j) p && nonzero p && rising_from k p

  -- all terms: every monomial in n variables is above the empty list
  rising_all : (l : List Term) → 1 ≤ n → rising (map (view_term n) l) ≡ rising_from [] (map (view_term n) l)
  unfolding rising rising_from view_term
  rising_all [] h = refl
  rising_all (t ∷ l) h = ap (λ b. b && rising_from (monomial_of n t.key) (map (view_term n) l))
      (sym (above_empty n t.key h))

  pub all_sound : (c : ℕ) (ts : List Term) → 1 ≤ n
      → every (λ j c. fits n d j) (read n c ts) && nonzero (read n c ts) && rising (read n c ts)
      ≡ rest_sound [] (read n c ts)
  unfolding rest_sound
  all_sound c ts h = ap (λ b. every (λ j c. fits n d j) (read n c ts) && nonzero (read n c ts) && b)
      (rising_all (take c ts) h)

  -- one term and the others
  rest_cons : (k : List ℕ) (t : P.Term ℤ) (p : Terms) → rest_sound k (t ∷ p)
      ≡ fits n d t.exponents && is_nonzero t.coefficient && less k t.exponents && rest_sound t.exponents p
  unfolding rest_sound every nonzero rising_from
  rest_cons k t p = sorted (fits n d t.exponents) (is_nonzero t.coefficient) (less k t.exponents) _ _ _

  rest_nil : (k : List ℕ) → rest_sound k [] ≡ true
  unfolding rest_sound every nonzero rising_from
  rest_nil k = refl

-- ---- all rules of a struct
module _ (d : ℕ) (m : Model) where
  pub vars_not : vars_sound m.n ≡ false → sound d (view m) ≡ false
  unfolding sound view vars_sound
  vars_not h = rw h

  pub many_not : most_terms < m.count → sound d (view m) ≡ false
  unfolding sound
  many_not h = rw (length_view m, lt-leb m.count most_terms h) (both_not (between 1 most_vars (view m).vars))
    where
      both_not : (a : Bool) → a && false && every (λ k c. fits (view m).vars d k) (view m).terms
          && nonzero (view m).terms && rising (view m).terms && leb (span (view m)) span_limit ≡ false
      both_not true = refl
      both_not false = refl

  pub by_terms : vars_sound m.n ≡ true → m.count ≤ most_terms → m.count ≤ length (listed m)
      → sound d (view m)
      ≡ rest_sound m.n d [] (read m.n m.count (listed m))
      && leb (size (read m.n m.count (listed m)) + m.radius) span_limit
  by_terms v f w = ap (sound d) (view_is m w)
      ∙ passing m.n m.radius (read m.n m.count (listed m)) v
      (omega (arith, length_read m.n m.count (listed m) w))
      ∙ ap (λ b. b && leb (size (read m.n m.count (listed m)) + m.radius) span_limit)
      (all_sound m.n d m.count (listed m) (vars_range m.n v).0)
    where
      passing : (n e : ℕ) (p : Terms) → vars_sound n ≡ true → length p ≤ most_terms
          → sound d (record { vars = n; radius = e; terms = p })
          ≡ every (λ k c. fits n d k) p && nonzero p && rising p && leb (size p + e) span_limit
      passing n e p v f = unfold sound span vars_sound in rw (v, le-leb (length p) most_terms f)

  -- ---- the terms one after the other
  abbrev terms : Terms
  terms = read m.n m.count (listed m)

  -- before place i: what is left decides for all, monomials are above the last one read where their keys are at least
  -- `least`, and the span is known as far as the cap
  pub record Passed (total least i : ℕ) : Type 0 where
    pub within : i ≤ m.count
    pub last : List ℕ
    pub rest : rest_sound m.n d [] terms ≡ rest_sound m.n d last (drop i terms)
    pub above : (z : ℕ) → T (key_fits key_width m.n z) → less last (monomial_of m.n z) ≡ leb least z
    pub sum : capped total ≡ capped (size (read m.n i (listed m)) + m.radius)

  module _ (v : vars_sound m.n ≡ true) (f : m.count ≤ most_terms) (w : m.count ≤ length (listed m)) where
    pub passed_first : Passed m.radius 0 0
    unfolding size sum_over
    passed_first = record {
      within = omega arith;
      last = [];
      rest = refl;
      above = λ z t. above_empty m.n z (vars_range m.n v).0 ∙ sym (leb-zero z);
      sum = ap capped (omega arith);
    }

    module _ (total least i : ℕ) (h : Passed total least i) where
      -- at the end the span decides
      pub passed_end : m.count ≤ i → leb total span_limit ≡ sound d (view m)
      passed_end l =
          let e : i ≡ m.count = omega (arith, h.within) in
          sym (capped_within total) ∙ ap (λ s. leb s span_limit) h.sum ∙ capped_within _
          ∙ ap (λ j. leb (size (read m.n j (listed m)) + m.radius) span_limit) e
          ∙ ap (λ b. b && leb (size terms + m.radius) span_limit) (sym (all_pass l)) ∙ sym (by_terms v f w)
        where
          all_pass : m.count ≤ i → rest_sound m.n d [] terms ≡ true
          all_pass l = h.rest ∙ ap (rest_sound m.n d h.last) (rest_end m.n m.count (listed m) w i l)
              ∙ rest_nil m.n d h.last

      -- an iteration, for a key of 32 bits
      module _ (l : i < m.count) (small : (get_or (listed m) i zero_term).key < key_limit) where
        abbrev key_at : ℕ
        key_at = (get_or (listed m) i zero_term).key

        abbrev coefficient_at : ℤ
        coefficient_at = (get_or (listed m) i zero_term).coefficient

        abbrev after : Bool
        after = rest_sound m.n d (monomial_of m.n key_at) (drop (i + 1) terms)

        -- its test, and the rest after it
        passed_rest : rest_sound m.n d [] terms ≡ term_sound m.n d least key_at coefficient_at && after
        unfolding view_term term_sound
        passed_rest = h.rest ∙ ap (rest_sound m.n d h.last) (rest_more m.n m.count (listed m) w i l)
            ∙ rest_cons m.n d h.last _ _
            ∙ ap (λ b. b && after)
            (ap (λ b. b && is_nonzero coefficient_at && less h.last (monomial_of m.n key_at))
            (fits_monomial m.n d key_at (vars_range m.n v).1 small)
            ∙ by_key (is_nonzero coefficient_at) (leb least key_at) (key_fits key_width m.n key_at) _ _
            (h.above key_at))

        fits_at : term_sound m.n d least key_at coefficient_at ≡ true → T (key_fits key_width m.n key_at)
        unfolding term_sound
        fits_at t =
            let before = is_nonzero coefficient_at && leb least key_at in
            and_right before (key_fits key_width m.n key_at)
            (and_left (before && key_fits key_width m.n key_at) (leb (key_degree key_at) d) (subst T (sym t) tt))

        pub passed_iteration : term_sound m.n d least key_at coefficient_at ≡ true
            → (next : ℕ) → next ≡ capped (total + nat_abs coefficient_at) → Passed next (key_at + 1) (i + 1)
        passed_iteration t next e = record {
          within = omega arith;
          last = monomial_of m.n key_at;
          rest = passed_rest ∙ ap (λ b. b && after) t;
          above = λ z g. less_monomials m.n key_at z (vars_range m.n v).1 (fits_at t) g
              ∙ ap (λ j. leb j z) (sym (add-one key_at));
          sum = ap capped e ∙ capped_more total _ (nat_abs coefficient_at) h.sum
              ∙ ap capped (omega (arith, size_more m.n i (listed m) (omega arith)));
        }

        pub passed_not : term_sound m.n d least key_at coefficient_at ≡ false → sound d (view m) ≡ false
        passed_not t = by_terms v f w
            ∙ ap (λ b. b && leb (size terms + m.radius) span_limit) (passed_rest ∙ ap (λ b. b && after) t)
