-- The answer of a product of two sound models: what its steps ask, and what they come to.
use Rattle.std.specs.Prelude.{◌≡◌, List, ℕ, ◌+◌, ◌*◌, ◌^◌, ◌≤◌, ◌<◌, T, ℤ, length}
use Rattle.std.proofs.Math.Path.{refl, sym}
use Rattle.std.proofs.Common.{◌∙◌, ap, ap₂, subst, arith}
use Rattle.std.proofs.Math.Decide.{dec_le}
use Rattle.numbers.specs.Fixed.{round_up}
use Rattle.calculus.specs.Key.{key_width}
use Rattle.calculus.specs.Terms.{every, drop_zeros}
use Rattle.calculus.specs.Model as C
use Rattle.calculus.specs.Model.{most_terms, most_degree, fits}
use Rattle.calculus.specs.Refusal as R
use Rattle.calculus.specs.Refusal.{too_many_terms, refused, stopped, at_place}
use Rattle.calculus.specs.Operations.{limited, products, kept, rounding, swept, error, carried, multiply}
use Rattle.calculus.specs.Shares as S
use Rattle.calculus.specs.Shares.{product_shares, shares_of}
use Rattle.calculus_laws.specs.FitsLaws.{kept_fits}
use Rattle.calculus_laws.specs.SoundLaws.{sound_parts}
use Rattle.model_types.specs.declared.Model.{Model}
use Rattle.model_types.specs.declared.Answer.{Answer}
use Rattle.model_types.specs.declared.Shares.{Shares}
use Rattle.model_types.specs.declared.Accounted.{Accounted}
use Rattle.model_types.specs.ModelStruct.{view, pack, answer}
use Rattle.model_types.specs.ModelStructLaws.{vars_range, sound_vars, view_pack}
use Rattle.model_types.specs.SharesStruct.{stored_shares, accounted, unless_refused}
use Rattle.model_types.specs.SharesStructLaws.{accounted_by}
use Rattle.model_limits.specs.Limits.{Packed}
use Rattle.model_limits.specs.LimitLaws.{limited_many, pack_packed}
use Rattle.product_sums.specs.TermArrays.{terms}
use Rattle.product_sums.specs.declared.Gathered.{Gathered}
use Rattle.product_sums.specs.Wide.{wide_terms}
use Rattle.product_sums.specs.Kept.{counted}
use Rattle.product_sums.specs.GatherLaws.{counted_few, counted_many}
use Rattle.product_sums.specs.ProductSums.{gathered_product}
use Rattle.product_answer.specs.PackedTerms.{PackReady, packed}
use Rattle.product_answer.specs.PackedTermsLaws.{packed_wide, pack_ready}
use Rattle.product_answer.specs.CollectedProduct.{Product}
use Rattle.product_answer.specs.ErrorShares.{error_shares}
use Rattle.product_answer.specs.ErrorLaws.{error_fits, shares_are}

-- ---- a count, or one more than the most terms
few_terms : (c a b : ℕ) → (counted c a b).count ≤ most_terms → c ≤ most_terms
few_terms c a b l = go (dec_le c most_terms)
  where
    go : Dec (c ≤ most_terms) → c ≤ most_terms
    go (yes h) = h
    go (no h) = absurd (omega (arith, ap (λ (r : Gathered). r.count) (counted_many c a b (omega arith))))

many_terms : (c a b : ℕ) → most_terms < (counted c a b).count → most_terms < c
many_terms c a b l = go (dec_le c most_terms)
  where
    go : Dec (c ≤ most_terms) → most_terms < c
    go (yes h) = absurd (omega (arith, ap (λ (r : Gathered). r.count) (counted_few c a b h)))
    go (no h) = omega arith

-- ---- the carried share of equal parts
same_sum : {a₀ a₁ d₀ d₁ b₀ b₁ e₀ e₁ : ℕ} → a₀ ≡ a₁ → d₀ ≡ d₁ → b₀ ≡ b₁ → e₀ ≡ e₁
    → a₀ * e₀ + b₀ * d₀ + d₀ * e₀ ≡ a₁ * e₁ + b₁ * d₁ + d₁ * e₁
same_sum a d b e = rw (a, d, b, e) refl

-- ---- beside a refusal it does not matter which shares there were
stopped_any : (q : R.Refusal) (s : C.Model → S.Shares) (y : Shares)
    → record {
      answer = answer (at_place 0 (refused q));
      shares = unless_refused (answer (at_place 0 (refused q))).verdict y;
    } ≡ accounted (refused q) s
unfolding accounted answer at_place unless_refused shares_of
stopped_any q s y = refl

refused_any : (o : R.Answer C.Model) (q : R.Refusal) (s : C.Model → S.Shares) (y : Shares) {x : Answer} {z : Shares}
    → x ≡ answer (at_place 0 o) → z ≡ unless_refused x.verdict y → o ≡ refused q
    → record { answer = x; shares = z } ≡ accounted o s
refused_any o q s y {x} hx hz e =
    let h : x ≡ answer (at_place 0 (refused q)) = hx ∙ ap (λ o. answer (at_place 0 o)) e in
    ap₂ both h (hz ∙ ap (λ x. unless_refused x.verdict y) h) ∙ stopped_any q s y ∙ ap (λ o. accounted o s) (sym e)
  where
    both : Answer → Shares → Accounted
    both x z = record { answer = x; shares = z }

module _ {n a e1 b e2 : ℕ} {r : Gathered} {keys : List ℕ} {coefficients : List ℤ}
    (w : Product n a e1 b e2 r keys coefficients) where
  -- ---- the factors
  abbrev d : ℕ
  d = w.order

  abbrev f : C.Model
  f = w.first

  abbrev g : C.Model
  g = w.second

  first_fitting : T (every (λ k c. fits f.vars d k) f.terms)
  first_fitting = (sound_parts d f w.first_sound).0.fitting

  same_vars : f.vars ≡ g.vars
  same_vars = sym w.first_vars ∙ w.second_vars

  second_fitting : T (every (λ k c. fits f.vars d k) g.terms)
  second_fitting = subst (λ v. T (every (λ k c. fits v d k) g.terms)) (sym same_vars)
      (sound_parts d g w.second_sound).0.fitting

  width : f.vars ≤ key_width
  width = (vars_range f.vars (sound_vars d f w.first_sound)).1

  below : d < 16
  unfolding most_degree
  below = omega (arith, w.low)

  -- ---- the product before the limits
  abbrev product : C.Model
  product = record {
    vars = f.vars;
    radius = round_up (error d f g);
    terms = drop_zeros (kept d (products f g));
  }

  multiply_limited : multiply d f g ≡ limited product
  unfolding multiply
  multiply_limited = refl

  product_fits : T (every (λ k c. fits f.vars d k) product.terms)
  product_fits = kept_fits f.vars d f g first_fitting second_fitting

  small : error d f g < 2 ^ 63
  small = error_fits d f g (sound_parts d f w.first_sound).1.small_span
      (sound_parts d g w.second_sound).1.small_span

  -- ---- what the collector answers
  abbrev count : ℕ
  count = length product.terms

  abbrev rounded : ℕ
  rounded = rounding d (products f g)

  abbrev above : ℕ
  above = swept d (products f g)

  answered : r ≡ counted count rounded above
  unfolding gathered_product
  answered = w.answered.answered

  many_refused : most_terms < r.count → multiply d f g ≡ refused too_many_terms
  many_refused l = multiply_limited ∙ limited_many product (many_terms count rounded above (rw answered at l))

  -- more than 64 terms
  pub too_many : most_terms < r.count → answer (stopped too_many_terms 0) ≡ answer (at_place 0 (multiply d f g))
  unfolding at_place
  too_many l = sym (ap (λ m. answer (at_place 0 m)) (many_refused l))

  -- ---- E as it is summed
  carried_is : a * e2 + b * e1 + e1 * e2 ≡ carried f g
  unfolding carried
  carried_is = same_sum w.first_size w.first_radius w.second_size w.second_radius

  pub carried_fits : a * e2 + b * e1 + e1 * e2 < 2 ^ 63
  unfolding error
  carried_fits = omega (arith, carried_is, small)

  -- the other shares are answered, or none are
  gathered_le : r.rounding + r.swept ≤ rounded + above
  gathered_le = go (dec_le count most_terms)
    where
      go : Dec (count ≤ most_terms) → r.rounding + r.swept ≤ rounded + above
      go (yes h) =
          let e : r ≡ record { count = count; rounding = rounded; swept = above }
          = answered ∙ counted_few count rounded above h in
          omega (arith, ap (λ (s : Gathered). s.rounding) e, ap (λ (s : Gathered). s.swept) e)
      go (no h) =
          let e : r ≡ record { count = most_terms + 1; rounding = 0; swept = 0 }
          = answered ∙ counted_many count rounded above (omega arith) in
          omega (arith, ap (λ (s : Gathered). s.rounding) e, ap (λ (s : Gathered). s.swept) e)

  pub E_fits : (old : ℕ) → old ≡ a * e2 + b * e1 + e1 * e2 → old + r.rounding + r.swept < 2 ^ 63
  unfolding error
  E_fits old ro = omega (arith, ro, carried_is, gathered_le, small)

  -- ---- no more than 64 terms
  module _ (l : r.count ≤ most_terms) where
    few : count ≤ most_terms
    few = few_terms count rounded above (rw answered at l)

    gathered : r ≡ record { count = count; rounding = rounded; swept = above }
    gathered = answered ∙ counted_few count rounded above few

    rounding_is : r.rounding ≡ rounded
    rounding_is = ap (λ (s : Gathered). s.rounding) gathered

    swept_is : r.swept ≡ above
    swept_is = ap (λ (s : Gathered). s.swept) gathered

    held : terms r.count keys coefficients ≡ wide_terms product.terms
    held = w.answered.terms few

    pub kept_ready : PackReady r.count keys coefficients
    kept_ready = pack_ready f.vars d width w.low product.terms r.count keys coefficients
        product_fits held l (omega (arith, w.keys_room)) (omega (arith, w.coefficients_room))

    module _ (old : ℕ) (ro : old ≡ a * e2 + b * e1 + e1 * e2) where
      E_is : old + r.rounding + r.swept ≡ error d f g
      unfolding error
      E_is = omega (arith, ro, carried_is, rounding_is, swept_is)

      shares_is : error_shares old r.rounding r.swept ≡ product_shares d f g
      shares_is = ap (λ c. error_shares c r.rounding r.swept) (ro ∙ carried_is)
          ∙ ap₂ (error_shares (carried f g)) rounding_is swept_is ∙ shares_are d f g

      -- the struct that comes to the limits
      module _ (e : ℕ) (s : Model) (re : e ≡ round_up (old + r.rounding + r.swept))
          (rs : s ≡ packed n e (terms r.count keys coefficients)) where
        struct_is : s ≡ pack product
        struct_is = rs ∙ ap (λ i. packed i e (terms r.count keys coefficients)) w.first_vars
            ∙ ap₂ (packed f.vars) (re ∙ ap round_up E_is) held
            ∙ packed_wide f.vars d width w.low product.radius product.terms product_fits

        pub struct_packed : Packed s
        struct_packed = subst Packed (sym struct_is) (pack_packed d product below width product_fits few)

        pub struct_answer : answer (at_place 0 (limited (view s))) ≡ answer (at_place 0 (multiply d f g))
        struct_answer = ap (λ m. answer (at_place 0 m))
            (ap limited (ap view struct_is ∙ view_pack d product below width product_fits) ∙ sym multiply_limited)

  -- ---- the answer with its shares
  module _ (old : ℕ) (ro : old ≡ a * e2 + b * e1 + e1 * e2) {x : Answer} {y z : Shares}
      (hx : x ≡ answer (at_place 0 (multiply d f g)))
      (hy : y ≡ stored_shares (error_shares old r.rounding r.swept))
      (hz : z ≡ unless_refused x.verdict y) where
    pub product_accounted : record { answer = x; shares = z } ≡ accounted (multiply d f g) (λ m. product_shares d f g)
    product_accounted = go (dec_le r.count most_terms)
      where
        go : Dec (r.count ≤ most_terms)
            → record { answer = x; shares = z } ≡ accounted (multiply d f g) (λ m. product_shares d f g)
        go (yes l) = accounted_by (multiply d f g) (product_shares d f g) hx
            (hz ∙ ap (unless_refused x.verdict) (hy ∙ ap stored_shares (shares_is l old ro)))
        go (no l) = refused_any (multiply d f g) too_many_terms _ y hx hz (many_refused (omega arith))
