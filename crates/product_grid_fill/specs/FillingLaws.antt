-- Sums in a grid: none yet, one more term, and terms after others.
use Rattle.std.specs.Prelude.{◌≡◌, refl, ◌⊎◌, not, List, [], ◌∷◌, ◌++◌, ℕ, suc, ◌+◌, ◌*◌, ◌^◌, ◌<◌, ◌≤◌, T, ℤ, pos, nat_abs, ◌+ℤ◌, ◌*ℤ◌, length, get_or, set, take, drop}
use Rattle.std.proofs.Common.{sym, ◌∙◌, ap, inl, inr, mul-le-mul_left, mul-le-mul_right, arith, take-append-drop, get_or-set_same, get_or-set_other, take-suc}
use Rattle.std.proofs.Math.Decide.{ℕ_discrete}
use Rattle.std.proofs.Math.Dec.{not_T}
use Rattle.std.proofs.Math.IntN.{+ℤ_assoc, +ℤ_comm, +ℤ_idl, +ℤ_idr}
use Rattle.algebra.specs.Integer.{natAbs_add}
use Rattle.algebra.specs.IntegerRing.{ℤR}
use Rattle.algebra.specs.Lexicographic.{same}
use Rattle.algebra.specs.LexicographicLaws.{same_ok, same_refl}
use Rattle.polynomial.specs.Polynomial.{Term, add_exponents, times, product}
use Rattle.calculus.specs.Terms.{Terms, term, sum_over, size}
use Rattle.calculus_laws.specs.CanonicalLaws.{coefficient_at, coefficient_nil, coefficient_cons, coefficient-++, share}
use Rattle.calculus_laws.specs.CanonicalLaws.{share_here, share_elsewhere}
use Rattle.calculus_laws.specs.LoopLaws.{times_snoc, product_snoc}
use Rattle.model_keys.specs.Keys.{wide_degree}
use Rattle.product_sums.specs.ProductsLaws.{size_append, size_times, size_product}
use Rattle.product_sums.specs.TermArrays.{at_key, none, terms}
use Rattle.product_sums.specs.TermArrayLaws.{terms_length, terms_at}
use Rattle.product_grid_index.specs.declared.Sides.{Sides}
use Rattle.product_grid_index.specs.Grid.{place, Gridded}
use Rattle.product_grid_index.specs.GridPlaceLaws.{place_apart}
use Rattle.product_grid_index.specs.DegreeLaws.{degree_byte}
use Rattle.product_grid_fill.specs.Filling.{Marked, Filled, RowFits, AllFit, SummedUp}

-- ---- sizes
pub size_one : (t : Term ℤ) → size (t ∷ []) ≡ nat_abs t.coefficient
unfolding size sum_over
size_one t = omega arith

pub size_take : (p : Terms) (i : ℕ) → size (take i p) ≤ size p
size_take p i =
    let e : size p ≡ size (take i p) + size (drop i p) =
    ap size (sym (take-append-drop i p)) ∙ size_append (take i p) (drop i p) in
    omega arith

-- ---- one key
coefficient_one : (k : List ℕ) (t : Term ℤ) → coefficient_at (t ∷ []) k ≡ share k t
coefficient_one k t = coefficient_cons k t [] ∙ rw (coefficient_nil k) (+ℤ_idr (share k t))

other_key : (k l : ℕ) → (k ≡ l → ⊥) → T (not (same (k ∷ []) (l ∷ [])))
other_key k l n = not_T (same (k ∷ []) (l ∷ [])) (λ h.
    let e : k ∷ [] ≡ l ∷ [] = same_ok (k ∷ []) (l ∷ []) h in
    let f : k ≡ l = cc in n f)

-- ---- sums
-- nothing is added yet
pub filled_none : (s : Sides) (sums : List ℤ) (degrees : List ℕ) → Marked s sums degrees
    → Filled s sums [] sums degrees
filled_none s sums degrees m = record {
  added = λ k g. rw (coefficient_nil (k ∷ [])) (sym (+ℤ_idr (get_or sums (place s k) (pos 0))));
  grown = λ i h. omega arith;
  marked = m;
}

-- one more degree is short
short_more : (l : List ℕ) (p x : ℕ) → p < length l → x < 2 ^ 8 → ((i : ℕ) → get_or l i 0 < 2 ^ 8)
    → (i : ℕ) → get_or (set l p x) i 0 < 2 ^ 8
short_more l p x h b f i = elim (ℕ_discrete i p) [
  | yes c ↦ rw (c, get_or-set_same l p x 0 h) b
  | no c ↦ rw (get_or-set_other l p i x 0 c) (f i)
]

-- one more term
module _ (s : Sides) (before : List ℤ) (q : Terms) (sums : List ℤ) (degrees : List ℕ)
    (f : Filled s before q sums degrees) (sums_room : s.size ≤ length sums) (degrees_room : s.size ≤ length degrees)
    (key : ℕ) (z v : ℤ) (g : Gridded s key) (p : ℕ) (at : p ≡ place s key) (e : v ≡ z +ℤ get_or sums p (pos 0))
    (degree : ℕ) (own : degree ≡ wide_degree key) where
  abbrev t : Term ℤ
  t = at_key key z

  abbrev new_sums : List ℤ
  new_sums = set sums p v

  inside : p < s.size
  inside = rw at g.below

  sum_there : get_or new_sums p (pos 0) ≡ v
  sum_there = get_or-set_same sums p v (pos 0) (omega (arith, inside))

  coefficient_more : (k : List ℕ) → coefficient_at (q ++ (t ∷ [])) k ≡ coefficient_at q k +ℤ share k t
  coefficient_more k =
      coefficient-++ k q (t ∷ []) ∙ ap (λ x. coefficient_at q k +ℤ x) (coefficient_one k t)

  added_more : (k : ℕ) → Gridded s k
      → get_or new_sums (place s k) (pos 0) ≡ get_or before (place s k) (pos 0) +ℤ coefficient_at (q ++ (t ∷ []))
      (k ∷ [])
  added_more k x = elim (ℕ_discrete (place s k) p) [
    | yes c ↦
        let w : k ≡ key = place_apart s k key x g (c ∙ at) in
        let here : share (k ∷ []) t ≡ z = share_here (k ∷ []) t (rw w (same_refl (key ∷ []))) in
        rw (coefficient_more (k ∷ []), here, c, sum_there, e)
        (ap (λ y. z +ℤ y) (rw c at (f.added k x))
        ∙ +ℤ_comm z (get_or before p (pos 0) +ℤ coefficient_at q (k ∷ []))
        ∙ +ℤ_assoc (get_or before p (pos 0)) (coefficient_at q (k ∷ [])) z)
    | no c ↦
        let away : share (k ∷ []) t ≡ pos 0 =
        share_elsewhere (k ∷ []) t (other_key k key (λ w. c (ap (place s) w ∙ sym at))) in
        rw (coefficient_more (k ∷ []), away, get_or-set_other sums p (place s k) v (pos 0) c, +ℤ_idr) (f.added k x)
  ]

  grown_more : (i : ℕ) → i < s.size
      → nat_abs (get_or new_sums i (pos 0)) ≤ nat_abs (get_or before i (pos 0)) + size (q ++ (t ∷ []))
  grown_more i h =
      let n : size (q ++ (t ∷ [])) ≡ size q + nat_abs z = size_append q (t ∷ []) ∙ ap (λ x. size q + x) (size_one t) in
      elim (ℕ_discrete i p) [
        | yes c ↦ rw (c, sum_there, e)
            (omega (arith, n, natAbs_add z (get_or sums p (pos 0)), rw c at (f.grown i h)))
        | no c ↦ rw (get_or-set_other sums p i v (pos 0) c) (omega (arith, n, f.grown i h))
      ]

  abbrev new_degrees : List ℕ
  new_degrees = set degrees p degree

  told_more : (k : ℕ) → Gridded s k
      → (get_or new_sums (place s k) (pos 0) ≡ pos 0) ⊎ (get_or new_degrees (place s k) 0 ≡ wide_degree k)
  told_more k x = elim (ℕ_discrete (place s k) p) [
    | yes c ↦
        let w : k ≡ key = place_apart s k key x g (c ∙ at) in
        inr (rw (c, get_or-set_same degrees p degree 0 (omega (arith, inside)), w) own)
    | no c ↦
        rw (get_or-set_other sums p (place s k) v (pos 0) c, get_or-set_other degrees p (place s k) degree 0 c)
        (f.marked.told k x)
  ]

  pub filled_more : Filled s before (q ++ (t ∷ [])) (set sums p v) (set degrees p degree)
  filled_more = record {
    added = added_more;
    grown = grown_more;
    marked = record {
      short =
          short_more degrees p degree (omega (arith, inside)) (rw own (degree_byte key)) f.marked.short;
      told = told_more;
    };
  }

-- terms after others
pub filled_after : (s : Sides) (before mid : List ℤ) (marks : List ℕ) (q r : Terms) (sums : List ℤ) (degrees : List ℕ)
    → Filled s before q mid marks → Filled s mid r sums degrees → Filled s before (q ++ r) sums degrees
filled_after s before mid marks q r sums degrees f g = record {
  added = λ k x.
      g.added k x
      ∙ ap (λ y. y +ℤ coefficient_at r (k ∷ [])) (f.added k x)
      ∙ +ℤ_assoc (get_or before (place s k) (pos 0)) (coefficient_at q (k ∷ [])) (coefficient_at r (k ∷ []))
      ∙ ap (λ y. get_or before (place s k) (pos 0) +ℤ y) (sym (coefficient-++ (k ∷ []) q r));
  grown = λ i h. omega (arith, f.grown i h, g.grown i h, size_append q r);
  marked = g.marked;
}

-- ---- a row of products, term by term
module _ (t : Term ℤ) (bs : Terms) (j : ℕ) (b : Term ℤ) (e : take (suc j) bs ≡ take j bs ++ (b ∷ [])) where
  abbrev made : Term ℤ
  made = term (t.coefficient *ℤ b.coefficient) (add_exponents t.exponents b.exponents)

  pub times_more : times ℤR t (take (suc j) bs) ≡ times ℤR t (take j bs) ++ (made ∷ [])
  times_more = ap (times ℤR t) e ∙ times_snoc t (take j bs) b

  -- it is no more than the whole row
  pub times_most : size (times ℤR t (take j bs)) + nat_abs made.coefficient ≤ size (times ℤR t bs)
  times_most =
      let n : size (times ℤR t (take (suc j) bs)) ≡ size (times ℤR t (take j bs)) + nat_abs made.coefficient =
      ap size times_more
      ∙ size_append (times ℤR t (take j bs)) (made ∷ [])
      ∙ ap (λ x. size (times ℤR t (take j bs)) + x) (size_one made) in
      let m : nat_abs t.coefficient * size (take (suc j) bs) ≤ nat_abs t.coefficient * size bs =
      mul-le-mul_left (nat_abs t.coefficient) (size_take bs (suc j)) in
      omega (arith, n, m, size_times t (take (suc j) bs), size_times t bs)

-- ---- all products, row by row
-- sums that are all 0: nothing is added to none
pub filled_first : (s : Sides) (sums : List ℤ) (degrees : List ℕ)
    → ((i : ℕ) → i < s.size → get_or sums i (pos 0) ≡ pos 0) → ((i : ℕ) → get_or degrees i 0 < 2 ^ 8)
    → Filled s [] [] sums degrees
filled_first s sums degrees z b = record {
  added = λ k g. z (place s k) g.below ∙ rw (coefficient_nil (k ∷ [])) refl;
  grown = λ i h. rw (z i h) (omega arith);
  marked = record { short = b; told = λ k g. inl (z (place s k) g.below) };
}

pub filled_last : (s : Sides) (p : Terms) (sums : List ℤ) (degrees : List ℕ) → Filled s [] p sums degrees
    → SummedUp s p sums degrees
filled_last s p sums degrees f = record {
  sum = λ k g. f.added k g ∙ +ℤ_idl (coefficient_at p (k ∷ []));
  marked = f.marked;
}

module _ (firsts seconds : Terms) (i : ℕ) (t : Term ℤ) (e : take (suc i) firsts ≡ take i firsts ++ (t ∷ [])) where
  pub products_more : product ℤR (take (suc i) firsts) seconds
      ≡ product ℤR (take i firsts) seconds ++ times ℤR t seconds
  products_more = ap (λ p. product ℤR p seconds) e ∙ product_snoc (take i firsts) seconds t

  pub products_most : size (product ℤR (take i firsts) seconds) + size (times ℤR t seconds)
      ≤ size (product ℤR firsts seconds)
  products_most =
      let n = ap size products_more ∙ size_append (product ℤR (take i firsts) seconds) (times ℤR t seconds) in
      let m : size (take (suc i) firsts) * size seconds ≤ size firsts * size seconds =
      mul-le-mul_right (size seconds) (size_take firsts (suc i)) in
      omega (arith, n, m, size_product (take (suc i) firsts) seconds, size_product firsts seconds)

-- the row of term i: what it asks, once the rows before it are added
module _ {zeros : List ℤ} {marks : List ℕ} {ca : List ℤ} {ia : List ℕ} {na : ℕ} {cb : List ℤ} {ib : List ℕ} {nb : ℕ}
    (w : AllFit zeros marks ca ia na cb ib nb) (i : ℕ) (iteration : i < na) (sums : List ℤ) (degrees : List ℕ) where
  abbrev firsts : Terms
  firsts = terms na w.ka ca

  abbrev seconds : Terms
  seconds = terms nb w.kb cb

  abbrev here : Term ℤ
  here = at_key (get_or w.ka i 0) (get_or ca i (pos 0))

  pub next_first : take (suc i) (terms na w.ka ca) ≡ take i (terms na w.ka ca) ++ (here ∷ [])
  next_first =
      let long = terms_length na w.ka ca w.first_keys w.first_coefficients in
      take-suc firsts i none (omega (arith, iteration))
      ∙ ap (λ t. take i firsts ++ (t ∷ [])) (terms_at na w.ka ca i iteration w.first_keys w.first_coefficients)

  unfoldable pub row_fits : Filled w.sides [] (product ℤR (take i (terms na w.ka ca)) (terms nb w.kb cb))
      sums degrees
      → length sums ≡ length zeros → length degrees ≡ length marks
      → RowFits sums degrees (get_or ia i 0) (get_or ca i (pos 0)) cb ib nb
  row_fits f long wide = record {
    sides = w.sides;
    key = get_or w.ka i 0;
    kb = w.kb;
    few_places = w.few_places;
    sums_room = omega (arith, w.sums_room, long);
    degrees_room = omega (arith, w.degrees_room, wide);
    keys_long = w.second_keys;
    coefficients_long = w.second_coefficients;
    words_long = w.second_words;
    gridded = λ j h. w.gridded i j iteration h;
    words = λ j h. w.words i j iteration h;
    marked = f.marked;
    small = λ j h. omega (arith, f.grown j h, products_most firsts seconds i here next_first, w.small);
  }
