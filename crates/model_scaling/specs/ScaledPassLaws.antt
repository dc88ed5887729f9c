-- The pass over the terms: one iteration keeps or drops a term, and adds to E.
use Rattle.std.specs.Prelude.{◌≡◌, refl, Bool, true, false, not, List, [], ◌∷◌, ◌++◌, map, ℕ, ◌+◌, ◌*◌, ◌^◌, ◌≤◌, ◌<◌, T, ℤ, ◌*ℤ◌, nat_abs, length, get_or, set}
use Rattle.std.proofs.Math.Path.{sym, ap₂}
use Rattle.std.proofs.Common.{◌∙◌, ap, subst, mul-le-mul, lit<, length-append}
use native.Mathlib.Omega.{arith}
use Rattle.std.proofs.Math.ListN.{length-map}
use Rattle.polynomial.specs.Polynomial as P
use Rattle.numbers.specs.Fixed.{U, span_limit, residual}
use Rattle.numbers.proofs.FixedLaws.{residual_le, span_fits, U_within, span_square_fits}
use Rattle.calculus.specs.Key.{key_limit}
use Rattle.calculus.specs.Terms.{Terms, term, select, sum_over, sum_ℕ, size, map_coefficients, is_nonzero, drop_zeros}
use Rattle.calculus_laws.specs.TermsLaws.{length_select}
use Rattle.calculus_laws.specs.SumLaws.{ℕ_addition}
use Rattle.calculus.specs.Model as C
use Rattle.calculus.specs.Model.{most_degree, most_terms, span}
use Rattle.calculus_laws.specs.MonomialKeyLaws.{fits_below}
use Rattle.model_types.specs.declared.Term.{Term}
use Rattle.model_types.specs.declared.Model.{Model}
use Rattle.model_types.specs.ModelStruct.{zero_term, view_term, view, pack_term, pad, pack, listed, of_terms}
use Rattle.model_types.specs.ModelStructLaws.{read, term_at, length_read, view_terms, map_more, sum_more}
use Rattle.model_types.specs.ModelStructLaws.{select_in, select_out, packed_more, within_span, pack_view_term}
use Rattle.model_types.specs.ModelStructLaws.{Limits, limits, key_fits_at}
use Rattle.model_scaling.specs.Scaling.{scaled_coefficient, scaled_residual, scaled_terms, scaled_error}
use Rattle.model_scaling.specs.Scaling.{scaled_pass, Scalable}

-- a term with what its coefficient becomes
abbrev new_term : ℤ → P.Term ℤ → P.Term ℤ
new_term X t = term (scaled_coefficient X t.coefficient) t.exponents

pass_terms : (X : ℤ) (m : C.Model) → (scaled_pass X m).terms ≡ drop_zeros (map (new_term X) m.terms)
unfolding scaled_pass scaled_terms map_coefficients
pass_terms X m = refl

pass_error : (X : ℤ) (f : Model) → (scaled_pass X (view f)).radius
    ≡ nat_abs X * f.radius + sum_ℕ (λ k c. scaled_residual X c) (view f).terms
unfolding scaled_pass scaled_error view
pass_error X f = refl

-- ---- a model in memory
module _ (f : Model) where
  -- the terms before j, and the term at j
  abbrev before : ℕ → Terms
  before j = read f.n j (listed f)

  abbrev at : ℕ → Term
  at j = get_or (listed f) j zero_term

  abbrev next : ℕ → P.Term ℤ
  next j = term_at f.n j (listed f)

module _ (X : ℤ) (f : Model) where
  -- what becomes of the terms before j
  abbrev turned : ℕ → Terms
  turned j = map (new_term X) (before f j)

  -- what is there after j terms
  pub record Gathered (out : List Term) (count error j : ℕ) : Type 0 where
    pub within : j ≤ f.count
    pub stored : out ≡ pad (map pack_term (drop_zeros (turned j)))
    pub counted : count ≡ length (drop_zeros (turned j))
    pub grown : error ≡ nat_abs X * f.radius + sum_ℕ (λ k c. scaled_residual X c) (before f j)
    pub bounded : error ≤ nat_abs X * f.radius + j * 2147483648

-- two numbers within the span limit multiply to less than 2^61
product_small : (a b : ℕ) → a ≤ span_limit → b ≤ span_limit → a * b < 2 ^ 61
product_small a b h k =
    let p : a * b ≤ span_limit * span_limit = mul-le-mul h k in
    omega (arith, span_square_fits)

module _ {X : ℤ} {f : Model} (s : Scalable X f) (w : f.count ≤ length (listed f)) where
  pub known : Limits f
  known = limits most_degree f s.model

  constant_small : nat_abs X ≤ span_limit
  constant_small = omega (arith, s.small, U_within)

  radius_small : f.radius ≤ span_limit
  unfolding span view
  radius_small = omega (arith, known.small)

  -- |X| × e
  pub carried_small : nat_abs X * f.radius < 2 ^ 61
  carried_small = product_small (nat_abs X) f.radius constant_small radius_small

  module _ (j : ℕ) (h : j < f.count) where
    pub product_fits : nat_abs (at f j).coefficient * nat_abs X < 2 ^ 63
    product_fits =
        let c : nat_abs (at f j).coefficient ≤ span_limit = omega (arith, known.small, within_span f j w h) in
        omega (arith, product_small (nat_abs (at f j).coefficient) (nat_abs X) c constant_small)

    pub residual_small : scaled_residual X (at f j).coefficient ≤ 2147483648
    unfolding scaled_residual
    residual_small = omega (arith, residual_le ((at f j).coefficient *ℤ X), U_within, span_fits)

    -- the term as it is stored
    term_packed : (t : Term) → t.key ≡ (at f j).key → t.coefficient ≡ scaled_coefficient X (at f j).coefficient
        → t ≡ pack_term (new_term X (next f j))
    unfolding most_degree
    term_packed t a b =
        ap₂ (λ (z : ℕ) (c : ℤ). record { key = z; coefficient = c }) a b
        ∙ sym (ap (λ (t : Term). record { key = t.key; coefficient = scaled_coefficient X t.coefficient })
        (pack_view_term f.n (at f j) known.width below))
        ∙ (unfold pack_term view_term in refl)
      where
        below : (at f j).key < key_limit
        below = fits_below f.n (at f j).key (key_fits_at most_degree f j (omega arith) s.model w h)

  pub gathered_first : {e : ℕ} → e ≡ nat_abs X * f.radius → Gathered X f (pad []) 0 e 0
  unfolding drop_zeros select sum_over
  gathered_first q = record {
    within = omega arith;
    stored = refl;
    counted = refl;
    grown = omega arith;
    bounded = omega arith;
  }

  module _ {out : List Term} {count error j : ℕ} (g : Gathered X f out count error j) where
    -- there is room
    pub gathered_room : count ≤ j
    unfolding drop_zeros
    gathered_room = omega (
      arith,
      g.counted,
      length_select (λ k c. is_nonzero c) (turned X f j),
      length-map (before f j) (new_term X),
      length_read f.n j (listed f) (omega (arith, g.within)),
    )

    pub gathered_end : f.count ≤ j
        → of_terms f.n count error out ≡ pack (scaled_pass X (view f))
    gathered_end l =
        ap₂ (λ (c : ℕ) (o : List Term). of_terms f.n c error o)
        (g.counted ∙ ap length (sym same)) (g.stored ∙ ap (λ p. pad (map pack_term p)) (sym same))
        ∙ packed error_is
      where
        e : j ≡ f.count
        e = omega (arith, g.within)

        all : (view f).terms ≡ before f j
        all = view_terms f w ∙ ap (before f) (sym e)

        same : (scaled_pass X (view f)).terms ≡ drop_zeros (turned X f j)
        same = pass_terms X (view f) ∙ ap (λ p. drop_zeros (map (new_term X) p)) all

        error_is : error ≡ (scaled_pass X (view f)).radius
        error_is = g.grown ∙ sym (pass_error X f
            ∙ ap (λ p. nat_abs X * f.radius + sum_ℕ (λ k c. scaled_residual X c) p) all)

        -- the pass, with r in the place of E
        whole : ℕ → Model
        whole r =
            of_terms f.n (length (scaled_pass X (view f)).terms) r
            (pad (map pack_term (scaled_pass X (view f)).terms))

        packed : {r : ℕ} → r ≡ (scaled_pass X (view f)).radius → whole r ≡ pack (scaled_pass X (view f))
        packed q = ap whole q ∙ (unfold pack scaled_pass view in refl)

    module _ (h : j < f.count) where
      -- E stays below 2^62
      pub gathered_within : error + scaled_residual X (at f j).coefficient < 2 ^ 62
      unfolding most_terms
      gathered_within = omega (arith, g.bounded, carried_small, residual_small j h, known.few, g.within)

      more_grown : {r : ℕ} → r ≡ error + scaled_residual X (at f j).coefficient
          → r ≡ nat_abs X * f.radius + sum_ℕ (λ k c. scaled_residual X c) (before f (j + 1))
      unfolding view_term
      more_grown e = omega (
        arith,
        e,
        g.grown,
        sum_more f.n j (listed f) (omega arith) ℕ_addition (λ k c. scaled_residual X c),
      )

      more_bounded : {r : ℕ} → r ≡ error + scaled_residual X (at f j).coefficient
          → r ≤ nat_abs X * f.radius + (j + 1) * 2147483648
      more_bounded e = omega (arith, e, g.bounded, residual_small j h)

      more_turned : turned X f (j + 1) ≡ turned X f j ++ (new_term X (next f j) ∷ [])
      more_turned = map_more f.n j (listed f) (omega arith) (new_term X)

      -- a coefficient that is not 0 is kept
      pub gathered_keep : {r : ℕ} → r ≡ error + scaled_residual X (at f j).coefficient
          → T (is_nonzero (scaled_coefficient X (at f j).coefficient)) → j < most_terms
          → {t : Term} → t.key ≡ (at f j).key → t.coefficient ≡ scaled_coefficient X (at f j).coefficient
          → Gathered X f (set out count t) (count + 1) r (j + 1)
      gathered_keep e z k {t} a b = record {
        within = omega arith;
        stored = ap₂ (λ o t. set o count t) g.stored (term_packed j h t a b)
            ∙ packed_more (drop_zeros (turned X f j)) count _ (sym g.counted) (omega (arith, gathered_room))
            ∙ ap (λ p. pad (map pack_term p)) (sym kept);
        counted = ap (λ c. c + 1) g.counted ∙ sym (ap length kept ∙ length-append (drop_zeros (turned X f j)) _);
        grown = more_grown e;
        bounded = more_bounded e;
      }
        where
          kept : drop_zeros (turned X f (j + 1)) ≡ drop_zeros (turned X f j) ++ (new_term X (next f j) ∷ [])
          kept = ap drop_zeros more_turned ∙ (unfold drop_zeros view_term in
              select_in (λ k c. is_nonzero c) (turned X f j) (new_term X (next f j)) z)

      -- and 0 is dropped
      pub gathered_drop : {r : ℕ} → r ≡ error + scaled_residual X (at f j).coefficient
          → T (not (is_nonzero (scaled_coefficient X (at f j).coefficient)))
          → Gathered X f out count r (j + 1)
      gathered_drop e z = record {
        within = omega arith;
        stored = g.stored ∙ ap (λ p. pad (map pack_term p)) (sym dropped);
        counted = g.counted ∙ ap length (sym dropped);
        grown = more_grown e;
        bounded = more_bounded e;
      }
        where
          dropped : drop_zeros (turned X f (j + 1)) ≡ drop_zeros (turned X f j)
          dropped = ap drop_zeros more_turned ∙ (unfold drop_zeros view_term in
              select_out (λ k c. is_nonzero c) (turned X f j) (new_term X (next f j)) z)
