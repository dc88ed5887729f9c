-- At depth 0 the answer is the range: a variable put in for itself gives the model back.
use Rattle.std.specs.Prelude.{◌≡◌, Bool, true, false, not, ℤ, ◌+ℤ◌, ◌-ℤ◌, ◌*ℤ◌, length, ◌⊎◌}
use Rattle.std.proofs.Math.Path.{refl, sym, ap, ap₂, subst}
use Rattle.std.proofs.Common.{◌∙◌, T_not, eqb→eq, inl, inr}
use mathlib.Core.List.{List, [], ◌∷◌}
use Prim.Native.Nat.{ℕ, zero, suc, ◌+◌, ◌-◌, ◌≤◌, ◌<◌}
use native.Mathlib.Omega.{arith}
use Rattle.std.proofs.Math.Dec.{T, eqb, leb, eqb_refl, leb→le, nleb→lt, le→leb}
use Rattle.std.proofs.Math.IntN.{pos, nat_abs, +ℤ_idl, +ℤ_idr}
use Rattle.std.proofs.Math.ListN.{length-map}
use Rattle.algebra.specs.LexicographicLaws.{less_cons, cons_less}
use Rattle.algebra.specs.RingLaws.{zero-*}
use Rattle.algebra.specs.IntegerRing.{ℤR}
use Rattle.polynomial.specs.Polynomial.{add_exponents, exponent, without, raise, replace, times, product}
use Rattle.numbers.specs.Fixed.{U, span_limit, round, residual, round_up}
use Rattle.numbers.proofs.FixedLaws.{U_pos, round_is, residual_is}
use Rattle.numbers.proofs.NearestLaws.{nearest_exact}
use Rattle.numbers.specs.Computing.{numbers}
use Rattle.calculus.specs.Monomial.{degree, zeros, single, index_of, less}
use Rattle.calculus_laws.specs.MonomialLaws.{length_replace, degree_raise, less_raise}
use Rattle.calculus.specs.Terms.{Terms, term, every, select, sum_over, sum_ℕ, size, map_coefficients, map_monomials}
use Rattle.calculus.specs.Terms.{is_nonzero, nonzero, rising, drop_zeros, distinct}
use Rattle.calculus_laws.specs.TermsLaws.{by_select, every_head, every_tail, every_nil, every_cons, every_select}
use Rattle.calculus_laws.specs.TermsLaws.{every_implies, every_both, every_selected, every_map_monomials, length_select}
use Rattle.calculus_laws.specs.TermsLaws.{rising_select}
use Rattle.calculus_laws.specs.TermsLaws.{rising_map_monomials, rising_map_coefficients, every_map_coefficients}
use Rattle.calculus.specs.Model.{Model, most_terms, span, fits, sound}
use Rattle.calculus_laws.specs.FitsLaws.{fits_length, fits_degree}
use Rattle.calculus.specs.Refusal.{too_many_terms, over_span, leaves_box, Answer, accepted, ◌then◌, done, at_place}
use Rattle.calculus.specs.Refusal.{◌followed_by◌}
use Rattle.calculus_laws.specs.RefusalLaws.{require_passed}
use Rattle.calculus.specs.Operations.{limited, variable, add, products, within_order, above_order, rounding, swept}
use Rattle.calculus.specs.Operations.{carried}
use Rattle.calculus.specs.Operations.{error, multiply, range_in_box, largest_exponent, part_terms, part, horner, widen}
use Rattle.calculus.specs.Operations.{Ends, range, substitute}
use Rattle.calculus_laws.specs.SumLaws.{ℕ_addition, ℤ_addition, if_so, if_ℤ, sum_select, sum_map_monomials, sum_both}
use Rattle.calculus_laws.specs.SumLaws.{sum_cong, sum_split, sum_map_coefficients}
use Rattle.calculus_laws.specs.CanonicalLaws.{at_monomial, coefficient_at, coefficient_nil, coefficient_map}
use Rattle.calculus_laws.specs.CanonicalLaws.{coefficient_select, rising_distinct, canonical_unique}
use Rattle.calculus_laws.specs.ProductLaws.{kept_coefficient, product_terms, sum_terms, rounding_same, swept_same}
use Rattle.calculus_laws.specs.ProductLaws.{products_distinct, products_coefficients}
use Rattle.calculus_laws.specs.SoundLaws.{Canonical, Sound, sound_parts, part_canonical}
use Rattle.std.specs.Int.Signed.{le_z}
use Rattle.cuts.specs.Cuts.{smaller, larger, overlap, most_depth, half_width, piece_middle, piece}
use Rattle.cuts.specs.Cuts.{piece_range, hull_from, pieces_hull, cut_range}
use Rattle.cuts.proofs.PieceLaws.{piece_in_box}

-- ---- one exponent put in another's place
raise_put : (v a : ℕ) (j : List ℕ) → v < length j → raise v (replace v a j) ≡ replace v (suc a) j
unfolding raise replace
raise_put v a [] h = absurd (omega arith)
raise_put zero a (e ∷ j) h = refl
raise_put (suc v) a (e ∷ j) h = ap (λ l. e ∷ l) (raise_put v a j (omega arith))

without_put : (v : ℕ) (j : List ℕ) → without v j ≡ replace v 0 j
unfolding without replace
without_put v [] = refl
without_put zero (e ∷ j) = refl
without_put (suc v) (e ∷ j) = ap (λ l. e ∷ l) (without_put v j)

put_back : (v : ℕ) (j : List ℕ) → replace v (exponent v j) j ≡ j
unfolding exponent replace
put_back v [] = refl
put_back zero (e ∷ j) = refl
put_back (suc v) (e ∷ j) = ap (λ l. e ∷ l) (put_back v j)

-- one that is not 0 is there
there : (v : ℕ) (j : List ℕ) → 0 < exponent v j → v < length j
unfolding exponent
there v [] h = absurd (omega arith)
there zero (e ∷ j) h = omega arith
there (suc v) (e ∷ j) h = let l = there v j h in omega arith

-- ---- the exponent of a variable k lower
module _ (v : ℕ) where
  abbrev down : ℕ → List ℕ → List ℕ
  down k j = replace v (exponent v j - k) j

  raised_down : (k : ℕ) (j : List ℕ) → suc k ≤ exponent v j → raise v (down (suc k) j) ≡ down k j
  raised_down k j h = raise_put v (exponent v j - suc k) j (there v j (omega arith))
      ∙ ap (λ a. replace v a j) (let e : suc (exponent v j - suc k) ≡ exponent v j - k = omega arith in e)

  without_down : (k : ℕ) (j : List ℕ) → exponent v j ≡ k → without v j ≡ down k j
  without_down k j h = without_put v j
      ∙ ap (λ a. replace v a j) (let e : 0 ≡ exponent v j - k = omega arith in e)

  down_none : (j : List ℕ) → down 0 j ≡ j
  down_none j = ap (λ a. replace v a j) (let e : exponent v j - 0 ≡ exponent v j = omega arith in e) ∙ put_back v j

degree_down : (v k : ℕ) (j : List ℕ) → k ≤ exponent v j → degree (down v k j) + k ≡ degree j
unfolding degree replace exponent
degree_down v k [] h = omega arith
degree_down zero k (e ∷ j) h = omega arith
degree_down (suc v) k (e ∷ j) h = let l = degree_down v k j h in omega arith

less_down : (v k : ℕ) (j l : List ℕ) → k ≤ exponent v j → k ≤ exponent v l → T (less j l)
    → T (less (down v k j) (down v k l))
unfolding replace exponent
less_down v k [] [] a b h = absurd h
less_down zero k [] (y ∷ l) a b h = tt
less_down (suc v) k [] (y ∷ l) a b h = tt
less_down v k (x ∷ j) [] a b h = absurd h
less_down zero k (x ∷ j) (y ∷ l) a b h = cons_less (x - k) (y - k) j l (go (less_cons x y j l h))
  where
    go : (x < y) ⊎ ((x ≡ y) × T (less j l)) → (x - k < y - k) ⊎ ((x - k ≡ y - k) × T (less j l))
    go (inl g) = inl (omega arith)
    go (inr g) = inr (ap (λ z. z - k) g.0, g.1)
less_down (suc v) k (x ∷ j) (y ∷ l) a b h = cons_less x y (down v k j) (down v k l)
    (go (less_cons x y j l h) (less_down v k j l a b))
  where
    go : (x < y) ⊎ ((x ≡ y) × T (less j l)) → (T (less j l) → T (less (down v k j) (down v k l)))
        → (x < y) ⊎ ((x ≡ y) × T (less (down v k j) (down v k l)))
    go (inl g) f = inl g
    go (inr g) f = inr (g.0, f g.1)

-- ---- the terms with at least the power k of the variable, that power taken off
module _ (v k : ℕ) where
  unfoldable pub upper : Terms → Terms
  upper p = map_monomials (down v k) (select (λ j c. leb k (exponent v j)) p)

  upper_rising : (p : Terms) → T (rising p) → T (rising (upper p))
  unfolding upper
  upper_rising p h = rising_map_monomials (λ j. leb k (exponent v j)) (down v k)
      (λ j l a b. less_down v k j l (leb→le k (exponent v j) a) (leb→le k (exponent v l) b)) _
      (every_selected (λ j c. leb k (exponent v j)) p)
      (rising_select (λ j c. leb k (exponent v j)) p h)

  upper_nonzero : (p : Terms) → T (nonzero p) → T (nonzero (upper p))
  unfolding upper nonzero
  upper_nonzero p h = every_map_monomials (λ j c. is_nonzero c) (down v k) (λ j c t. t) _
      (every_select (λ j c. is_nonzero c) (λ j c. leb k (exponent v j)) p h)

  upper_length : (p : Terms) → length (upper p) ≤ length p
  unfolding upper map_monomials
  upper_length p = omega (
    arith,
    length_select (λ j c. leb k (exponent v j)) p,
    length-map (select (λ j c. leb k (exponent v j)) p) (λ t. term t.coefficient (down v k t.exponents)),
  )

  upper_size : (p : Terms) → size (upper p) ≤ size p
  unfolding upper size
  upper_size p = omega (
    arith,
    sum_map_monomials ℕ_addition (λ j c. nat_abs c) (down v k) (select (λ j c. leb k (exponent v j)) p),
    sum_split ℕ_addition (λ j c. nat_abs c) (λ j c. leb k (exponent v j)) p,
  )

  -- their coefficients, from the terms as they were
  abbrev upper_share : List ℕ → List ℕ → ℤ → ℤ
  upper_share l j c = if_ℤ (leb k (exponent v j)) (at_monomial l (down v k j) c)

  upper_coefficient : (l : List ℕ) (p : Terms) → coefficient_at (upper p) l ≡ sum_over ◌+ℤ◌ (pos 0) (upper_share l) p
  unfolding upper coefficient_at
  upper_coefficient l p = sum_map_monomials ℤ_addition (at_monomial l) (down v k) _
      ∙ sum_select ℤ_addition (λ j c. at_monomial l (down v k j) c) (λ j c. leb k (exponent v j)) p

-- none, for k above the largest exponent
upper_none : (i K : ℕ) (p : Terms) → largest_exponent i p ≤ K → upper (index_of i) (suc K) p ≡ []
unfolding upper largest_exponent
upper_none i K p h = ap (map_monomials (down (index_of i) (suc K))) (none p h) ∙ (unfold map_monomials in refl)
  where
    none : (p : Terms) → largest_exponent i p ≤ K → select (λ j c. leb (suc K) (exponent (index_of i) j)) p ≡ []
    none [] h = unfold select in refl
    none (t ∷ p) h = go (none p)
      where
        go : (largest_exponent i p ≤ K → select (λ j c. leb (suc K) (exponent (index_of i) j)) p ≡ [])
            → select (λ j c. leb (suc K) (exponent (index_of i) j)) (t ∷ p) ≡ []
        go ih = by_select (λ q. q ≡ []) (λ j c. leb (suc K) (exponent (index_of i) j)) t p
            (λ y. absurd (let l = leb→le (suc K) (exponent (index_of i) t.exponents) y in omega arith))
            (λ y. ih (omega arith))

-- ---- one step of Horner's rule
module _ (i k : ℕ) where
  abbrev v : ℕ
  v = index_of i

  -- the powers above k with one more of the variable
  abbrev lifted : Terms → Terms
  lifted p = map_monomials (raise v) (upper v (suc k) p)

  -- what one term gives them, and the part of the power k
  lifted_share : List ℕ → List ℕ → ℤ → ℤ
  lifted_share l j c = if_ℤ (leb (suc k) (exponent v j)) (at_monomial l (raise v (down v (suc k) j)) c)

  part_share : List ℕ → List ℕ → ℤ → ℤ
  part_share l j c = if_ℤ (eqb (exponent v j) k) (at_monomial l (without v j) c)

  lifted_coefficient : (l : List ℕ) (p : Terms)
      → coefficient_at (lifted p) l ≡ sum_over ◌+ℤ◌ (pos 0) (lifted_share l) p
  unfolding coefficient_at upper lifted_share
  lifted_coefficient l p = sum_map_monomials ℤ_addition (at_monomial l) (raise v) _
      ∙ sum_map_monomials ℤ_addition (λ j c. at_monomial l (raise v j) c) (down v (suc k)) _
      ∙ sum_select ℤ_addition (λ j c. at_monomial l (raise v (down v (suc k) j)) c)
      (λ j c. leb (suc k) (exponent v j)) p

  part_coefficient : (l : List ℕ) (p : Terms)
      → coefficient_at (part_terms i k p) l ≡ sum_over ◌+ℤ◌ (pos 0) (part_share l) p
  unfolding coefficient_at part_terms part_share
  part_coefficient l p = sum_map_monomials ℤ_addition (at_monomial l) (without v) _
      ∙ sum_select ℤ_addition (λ j c. at_monomial l (without v j) c) (λ j c. eqb (exponent v j) k) p

  -- together they are the powers from k on
  share_step : (l j : List ℕ) (c : ℤ) → upper_share v k l j c ≡ lifted_share l j c +ℤ part_share l j c
  unfolding lifted_share part_share if_so
  share_step l j c = go (leb k e) (leb (suc k) e) (eqb e k) (leb→le k e) (nleb→lt k e) (leb→le (suc k) e)
      (nleb→lt (suc k) e) (eqb→eq e k) (λ q. subst (λ z. T (eqb z k)) (sym q) (eqb_refl k))
    where
      e : ℕ
      e = exponent v j

      a : List ℕ → ℤ
      a m = at_monomial l m c

      go : (x y z : Bool) → (T x → k ≤ e) → (T (not x) → e < k) → (T y → suc k ≤ e)
          → (T (not y) → e < suc k) → (T z → e ≡ k) → (e ≡ k → T z)
          → if_ℤ x (a (down v k j)) ≡ if_ℤ y (a (raise v (down v (suc k) j))) +ℤ if_ℤ z (a (without v j))
      go true true true f f' g g' h h' = absurd (let p = g tt in let q = h tt in omega arith)
      go true true false f f' g g' h h' = ap a (sym (raised_down v k j (g tt))) ∙ sym (+ℤ_idr _)
      go true false true f f' g g' h h' = ap a (sym (without_down v k j (h tt))) ∙ sym (+ℤ_idl _)
      go true false false f f' g g' h h' = absurd (h' (let p = f tt in let q = g' tt in omega arith))
      go false true z f f' g g' h h' = absurd (let p = f' tt in let q = g tt in omega arith)
      go false false true f f' g g' h h' = absurd (let p = f' tt in let q = h tt in omega arith)
      go false false false f f' g g' h h' = refl

  coefficient_step : (p : Terms) (l : List ℕ) → coefficient_at (upper v k p) l
      ≡ coefficient_at (lifted p) l +ℤ coefficient_at (part_terms i k p) l
  coefficient_step p l = upper_coefficient v k l p
      ∙ sum_cong ℤ_addition (upper_share v k l) (λ j c. lifted_share l j c +ℤ part_share l j c) (share_step l) p
      ∙ sym (sum_both ℤ_addition (lifted_share l) (part_share l) p)
      ∙ ap₂ ◌+ℤ◌ (sym (lifted_coefficient l p)) (sym (part_coefficient l p))

-- ---- a product with the variable
add_zeros : (j : List ℕ) → add_exponents j (zeros (length j)) ≡ j
unfolding add_exponents zeros
add_zeros [] = refl
add_zeros (e ∷ j) = ap₂ ◌∷◌ (let h : e + 0 ≡ e = omega arith in h) (add_zeros j)

add_one_there : (v : ℕ) (j : List ℕ) → v < length j → add_exponents j (replace v 1 (zeros (length j))) ≡ raise v j
unfolding add_exponents zeros replace raise
add_one_there v [] h = absurd (omega arith)
add_one_there zero (e ∷ j) h = ap₂ ◌∷◌ (let g : e + 1 ≡ suc e = omega arith in g) (add_zeros j)
add_one_there (suc v) (e ∷ j) h =
    ap₂ ◌∷◌ (let g : e + 0 ≡ e = omega arith in g) (add_one_there v j (omega arith))

times_U : ℤ → ℤ
times_U c = c *ℤ pos U

round_times : (c : ℤ) → round (times_U c) ≡ c
unfolding times_U
round_times c = round_is (c *ℤ pos U) ∙ nearest_exact c U U_pos

residual_times : (c : ℤ) → residual (times_U c) ≡ 0
unfolding times_U
residual_times c = residual_is (c *ℤ pos U) ∙ ap (λ z. nat_abs (c *ℤ pos U -ℤ z *ℤ pos U)) (round_times c)
    ∙ ap nat_abs (ℤR.+-neg (c *ℤ pos U))

times_zero : times_U (pos 0) ≡ pos 0
unfolding times_U
times_zero = zero-* ℤR (pos U)

round_up_none : round_up 0 ≡ 0
unfolding numbers
round_up_none = refl

module _ (n i : ℕ) (hv : index_of i < n) where
  -- n exponents
  abbrev long : List ℕ → Bool
  long j = eqb (length j) n

  single_long : (j : List ℕ) → length j ≡ n → add_exponents j (single n i) ≡ raise (index_of i) j
  unfolding single
  single_long j h = ap (λ m. add_exponents j (replace (index_of i) 1 (zeros m))) (sym h)
      ∙ add_one_there (index_of i) j (omega arith)

  product_single : (p : Terms) → T (every (λ j c. long j) p)
      → product ℤR p (term (pos U) (single n i) ∷ []) ≡ map_coefficients times_U (map_monomials (raise (index_of i)) p)
  unfolding product times map_coefficients map_monomials times_U
  product_single [] h = refl
  product_single (t ∷ p) h = ap₂ (λ j q. term (t.coefficient *ℤ pos U) j ∷ q)
      (single_long t.exponents (eqb→eq (length t.exponents) n (every_head (λ j c. long j) t p h)))
      (product_single p (every_tail (λ j c. long j) t p h))

-- ---- terms that all pass a test
select_every : (f : List ℕ → ℤ → Bool) (p : Terms) → T (every f p) → select f p ≡ p
select_every f [] h = unfold select in refl
select_every f (t ∷ p) h = go (select_every f p (every_tail f t p h))
  where
    go : select f p ≡ p → select f (t ∷ p) ≡ t ∷ p
    go ih = by_select (λ q. q ≡ t ∷ p) f t p (λ y. ap (λ q. t ∷ q) ih)
        (λ y. absurd (T_not (f t.exponents t.coefficient) y (every_head f t p h)))

select_none : (f : List ℕ → ℤ → Bool) (p : Terms) → T (every f p) → select (λ k c. not (f k c)) p ≡ []
select_none f [] h = unfold select in refl
select_none f (t ∷ p) h = go (select_none f p (every_tail f t p h))
  where
    go : select (λ k c. not (f k c)) p ≡ [] → select (λ k c. not (f k c)) (t ∷ p) ≡ []
    go ih = by_select (λ q. q ≡ []) (λ k c. not (f k c)) t p
        (λ y. absurd (T_not (f t.exponents t.coefficient) y (every_head f t p h)))
        (λ y. ih)

every_moved : (f : List ℕ → Bool) (u : List ℕ → List ℕ) (p : Terms) → T (every (λ j c. f (u j)) p)
    → T (every (λ j c. f j) (map_monomials u p))
unfolding map_monomials
every_moved f u [] h = every_nil (λ j c. f j)
every_moved f u (t ∷ p) h = every_cons (λ j c. f j) _ _ (every_head (λ j c. f (u j)) t p h)
    (every_moved f u p (every_tail (λ j c. f (u j)) t p h))

-- the power 0 and all above are all terms
upper_all : (v : ℕ) (p : Terms) → upper v 0 p ≡ p
unfolding upper
upper_all v p = ap (map_monomials (down v 0)) (select_every (λ j c. leb 0 (exponent v j)) p (any p)) ∙ same p
  where
    any : (p : Terms) → T (every (λ j c. leb 0 (exponent v j)) p)
    any [] = every_nil (λ j c. leb 0 (exponent v j))
    any (t ∷ p) = every_cons (λ j c. leb 0 (exponent v j)) t p
        (le→leb 0 (exponent v t.exponents) (omega arith)) (any p)

    same : (p : Terms) → map_monomials (down v 0) p ≡ p
    same [] = unfold map_monomials in refl
    same (t ∷ p) = go (same p)
      where
        go : map_monomials (down v 0) p ≡ p → map_monomials (down v 0) (t ∷ p) ≡ t ∷ p
        go ih = unfold map_monomials in
            (ap₂ (λ j q. term t.coefficient j ∷ q) (down_none v t.exponents) ih)

sum_zero : (p : Terms) → sum_ℕ (λ k c. 0) p ≡ 0
unfolding sum_over
sum_zero [] = refl
sum_zero (t ∷ p) = let h = sum_zero p in omega arith

limited_passed : (m : Model) → length m.terms ≤ most_terms → span m ≤ span_limit → limited m ≡ accepted m
unfolding limited
limited_passed m h g = require_passed (leb (length m.terms) most_terms) too_many_terms _ (le→leb _ most_terms h)
    ∙ require_passed (leb (span m) span_limit) over_span _ (le→leb (span m) span_limit g)

-- a model without a radius
abbrev bare_model : ℕ → Terms → Model
bare_model n p = record { vars = n; radius = 0; terms = p }

-- ---- the product of the variable and terms that have room for one more power of it
module _ (n d i : ℕ) (hv : index_of i < n) (q : Terms) (rq : T (rising q)) (nq : T (nonzero q))
    (lq : T (every (λ j c. long n i hv j) q)) (wq : T (every (λ j c. leb (degree (raise (index_of i) j)) d) q))
    (cq : length q ≤ most_terms) (sq : size q ≤ span_limit) where
  moved : Terms
  moved = map_monomials (raise (index_of i)) q

  long_there : (j : List ℕ) → T (eqb (length j) n) → index_of i < length j
  long_there j h = let e = eqb→eq (length j) n h in omega arith

  moved_rising : T (rising moved)
  unfolding moved
  moved_rising = rising_map_monomials (long n i hv) (raise (index_of i))
      (λ j l a b. less_raise (index_of i) j l (long_there j a) (long_there l b)) q lq rq

  moved_nonzero : T (nonzero moved)
  unfolding moved nonzero
  moved_nonzero = every_map_monomials (λ j c. is_nonzero c) (raise (index_of i)) (λ j c t. t) q nq

  moved_within : T (every (λ j c. leb (degree j) d) moved)
  unfolding moved
  moved_within = every_moved (λ j. leb (degree j) d) (raise (index_of i)) q wq

  moved_product : product ℤR q (variable n i).terms ≡ map_coefficients times_U moved
  unfolding moved variable
  moved_product = product_single n i hv q lq

  moved_coefficient : (l : List ℕ) → coefficient_at moved l
      ≡ kept_coefficient d l (coefficient_at (product ℤR q (variable n i).terms) l)
  moved_coefficient l = ap (λ p. coefficient_at p l) (sym (select_every (λ j c. leb (degree j) d) moved moved_within))
      ∙ coefficient_select (λ j. leb (degree j) d) moved l
      ∙ ap (if_ℤ (leb (degree l) d)) (sym (round_times (coefficient_at moved l)))
      ∙ ap (kept_coefficient d l)
      (sym (ap (λ p. coefficient_at p l) moved_product
      ∙ coefficient_map times_U times_zero moved (rising_distinct moved moved_rising) l))

  abbrev with_x : Terms
  with_x = products (bare_model n q) (variable n i)

  with_x_same : (l : List ℕ) → coefficient_at with_x l ≡ coefficient_at (map_coefficients times_U moved) l
  with_x_same l = products_coefficients (bare_model n q) (variable n i) l ∙ ap (λ p. coefficient_at p l) moved_product

  scaled_distinct : T (distinct (map_coefficients times_U moved))
  scaled_distinct = rising_distinct _ (rising_map_coefficients times_U moved moved_rising)

  scaled_within : T (every (λ j c. leb (degree j) d) (map_coefficients times_U moved))
  scaled_within = every_map_coefficients (λ j c. leb (degree j) d) times_U (λ j c t. t) moved moved_within

  nothing_rounded : rounding d (map_coefficients times_U moved) ≡ 0
  unfolding rounding within_order
  nothing_rounded = ap (sum_ℕ (λ k z. residual z)) (select_every (λ j c. leb (degree j) d) _ scaled_within)
      ∙ sum_map_coefficients ℕ_addition (λ k z. residual z) times_U moved
      ∙ sum_cong ℕ_addition _ _ (λ k c. residual_times c) moved ∙ sum_zero moved

  nothing_swept : swept d (map_coefficients times_U moved) ≡ 0
  unfolding swept above_order
  nothing_swept = ap size (select_none (λ j c. leb (degree j) d) _ scaled_within) ∙ (unfold size sum_over in refl)

  no_error : error d (bare_model n q) (variable n i) ≡ 0
  unfolding error carried variable
  no_error = omega (
    arith,
    rounding_same with_x _ (products_distinct (bare_model n q) (variable n i)) scaled_distinct with_x_same d,
    swept_same with_x _ (products_distinct (bare_model n q) (variable n i)) scaled_distinct with_x_same d,
    nothing_rounded,
    nothing_swept,
  )

  moved_length : length moved ≤ most_terms
  unfolding moved map_monomials
  moved_length = omega (arith, length-map q (λ t. term t.coefficient (raise (index_of i) t.exponents)))

  moved_size : size moved ≤ span_limit
  unfolding moved size
  moved_size = omega (arith, sum_map_monomials ℕ_addition (λ j c. nat_abs c) (raise (index_of i)) q)

  times_variable : multiply d (bare_model n q) (variable n i) ≡ accepted (bare_model n moved)
  unfolding multiply span
  times_variable = ap₂ (λ e p. limited (record { vars = n; radius = e; terms = p }))
      (ap round_up no_error ∙ round_up_none)
      (sym (product_terms d (bare_model n q) (variable n i) moved moved_rising moved_nonzero moved_coefficient))
      ∙ limited_passed (bare_model n moved) moved_length (omega (arith, moved_size))

-- ---- all steps
module _ (d i : ℕ) (f : Model) (hf : T (sound d f)) (hv : index_of i < f.vars) where
  parts : Sound f.vars d f
  parts = sound_parts d f hf

  abbrev p : Terms
  p = f.terms

  -- the powers from k on, as a model
  abbrev from : ℕ → Model
  from k = bare_model f.vars (upper (index_of i) k p)

  upper_long : (k : ℕ) (p : Terms) → T (every (λ j c. fits f.vars d j) p)
      → T (every (λ j c. long f.vars i hv j) (upper (index_of i) k p))
  unfolding upper
  upper_long k p h = every_moved (long f.vars i hv) (down (index_of i) k) _
      (every_implies (λ j c. fits f.vars d j) (λ j c. long f.vars i hv (down (index_of i) k j))
      (λ j c t. subst (λ m. T (eqb m f.vars)) (sym (length_replace (index_of i) _ j ∙ fits_length f.vars d j t))
      (eqb_refl f.vars)) _
      (every_select (λ j c. fits f.vars d j) (λ j c. leb k (exponent (index_of i) j)) p h))

  upper_room : (k : ℕ) (p : Terms) → T (every (λ j c. fits f.vars d j) p)
      → T (every (λ j c. leb (degree (raise (index_of i) j)) d) (upper (index_of i) (suc k) p))
  unfolding upper
  upper_room k p h = every_moved (λ j. leb (degree (raise (index_of i) j)) d) (down (index_of i) (suc k)) _
      (every_both (λ j c. fits f.vars d j) (λ j c. leb (suc k) (exponent (index_of i) j))
      (λ j c. leb (degree (raise (index_of i) (down (index_of i) (suc k) j))) d)
      (λ j c s t. le→leb _ d (omega (
        arith,
        degree_raise (index_of i) (down (index_of i) (suc k) j),
        degree_down (index_of i) (suc k) j (leb→le (suc k) (exponent (index_of i) j) t),
        fits_degree f.vars d j s,
      ))) _
      (every_select (λ j c. fits f.vars d j) (λ j c. leb (suc k) (exponent (index_of i) j)) p h)
      (every_selected (λ j c. leb (suc k) (exponent (index_of i) j)) p))

  small : size p ≤ span_limit
  unfolding span
  small = let s = parts.1.small_span in omega arith

  step : (k : ℕ) → (multiply d (from (suc k)) (variable f.vars i) then (λ m. add m (part i k f))) ≡ accepted (from k)
  unfolding ◌then◌ add part span moved
  step k = ap (λ (a : Answer Model). a then (λ m. add m (part i k f)))
      (times_variable f.vars d i hv (upper (index_of i) (suc k) p)
      (upper_rising (index_of i) (suc k) p parts.0.rising_terms)
      (upper_nonzero (index_of i) (suc k) p parts.0.nonzero_terms)
      (upper_long (suc k) p parts.0.fitting) (upper_room k p parts.0.fitting)
      (omega (arith, upper_length (index_of i) (suc k) p, parts.1.count))
      (omega (arith, upper_size (index_of i) (suc k) p, small)))
      ∙ ap (λ q. limited (bare_model f.vars q))
      (sym (sum_terms (lifted i k p) (part_terms i k p) (upper (index_of i) k p)
      (upper_rising (index_of i) k p parts.0.rising_terms)
      (upper_nonzero (index_of i) k p parts.0.nonzero_terms) (coefficient_step i k p)))
      ∙ limited_passed (from k)
      (omega (arith, upper_length (index_of i) k p, parts.1.count))
      (omega (arith, upper_size (index_of i) k p, small))

  steps : (k : ℕ) → horner d i f (variable f.vars i) k (from k) ≡ accepted (from 0)
  unfolding horner ◌then◌
  steps zero = refl
  steps (suc k) = ap (λ (a : Answer Model). a then horner d i f (variable f.vars i) k) (step k) ∙ steps k

  top : part i (largest_exponent i p) f ≡ from (largest_exponent i p)
  unfolding part
  top = ap (bare_model f.vars) (canonical_unique (part_terms i K p) (upper (index_of i) K p)
      parted.rising_terms (upper_rising (index_of i) K p parts.0.rising_terms)
      parted.nonzero_terms (upper_nonzero (index_of i) K p parts.0.nonzero_terms)
      (λ l. sym (coefficient_step i K p l ∙ ap (λ z. z +ℤ coefficient_at (part_terms i K p) l) (above l) ∙ +ℤ_idl _)))
    where
      K : ℕ
      K = largest_exponent i p

      parted : Canonical f.vars d (part i K f)
      parted = part_canonical f.vars d i K f parts.0

      above : (l : List ℕ) → coefficient_at (lifted i K p) l ≡ pos 0
      above l = ap (λ q. coefficient_at (map_monomials (raise (index_of i)) q) l) (upper_none i K p (omega arith))
          ∙ (unfold map_monomials in coefficient_nil l)

  -- the variable put in for itself gives the model back
  pub substitute_self : T (range_in_box (variable f.vars i)) → substitute d i f (variable f.vars i) ≡ accepted f
  unfolding substitute ◌then◌ widen
  substitute_self h = require_passed (range_in_box (variable f.vars i)) leaves_box _ h
      ∙ ap (λ (m : Model). horner d i f (variable f.vars i) (largest_exponent i p) m then widen f.radius) top
      ∙ ap (λ (a : Answer Model). a then widen f.radius) (steps (largest_exponent i p))
      ∙ ap₂ (λ e q. limited (record { vars = f.vars; radius = e; terms = q }))
      (let e : 0 + f.radius ≡ f.radius = omega arith in e) (upper_all (index_of i) p)
      ∙ limited_passed f parts.1.count parts.1.small_span

-- ---- depth 0
-- its one piece is the variable
pub uncut_piece : (n i : ℕ) → piece n i 0 0 ≡ variable n i
unfolding numbers piece piece_middle half_width variable drop_zeros select is_nonzero
uncut_piece n i = refl

overlap_self : (e : Ends) → overlap e e ≡ e
unfolding overlap larger smaller
overlap_self e = ap₂ (λ l h. record { low = l; high = h }) (go (le_z e.low e.low) e.low)
    (go (le_z e.high e.high) e.high)
  where
    go : (b : Bool) (z : ℤ) → elim b as (λ b. ℤ) [ true ↦ z | false ↦ z ] ≡ z
    go true z = refl
    go false z = refl

pub cut_range_none : (d i : ℕ) (f : Model) → T (sound d f) → index_of i < f.vars → cut_range d i 0 f ≡ done (range f)
unfolding cut_range pieces_hull hull_from piece_range at_place ◌then◌ ◌followed_by◌
cut_range_none d i f h v =
    ap (λ (a : Answer Model). at_place 0 (a then (λ m. accepted (range m))) followed_by (λ e. done e)
    followed_by (λ e. done (overlap (range f) e)))
    (ap (substitute d i f) (uncut_piece f.vars i)
    ∙ substitute_self d i f h v
    (subst (λ m. T (range_in_box m)) (uncut_piece f.vars i)
    (piece_in_box f.vars i 0 0 (unfold most_depth in (omega arith)) (omega arith))))
    ∙ ap done (overlap_self (range f))
