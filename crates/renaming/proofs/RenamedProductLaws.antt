-- The product of renamed models is the renamed product, with the same radius or the same refusal.
use Rattle.std.proofs.Math.Path.{◌≡◌, sym, ap, ap₂}
use Rattle.std.specs.Prelude.{refl, T, ◌*ℤ◌, length}
use Rattle.std.proofs.Common.{◌∙◌, eqb→eq}
use Rattle.std.proofs.Math.Bool.{Bool}
use mathlib.Core.List.{List}
use Prim.Native.Nat.{ℕ, ◌+◌, ◌*◌}
use Rattle.std.proofs.Math.Dec.{leb}
use Rattle.std.proofs.Math.IntN.{ℤ, nat_abs}
use Rattle.algebra.specs.IntegerRing.{ℤR}
use Rattle.polynomial.specs.Polynomial.{add_exponents, product}
use Rattle.numbers.specs.Fixed.{round, residual, round_up}
use Rattle.calculus.specs.Monomial.{degree}
use Rattle.calculus.specs.Terms.{Terms, select, size, is_nonzero, distinct, drop_zeros}
use Rattle.calculus.specs.Model.{Model}
use Rattle.calculus.specs.Operations.{limited, products, within_order, above_order, kept, rounding, swept, carried}
use Rattle.calculus.specs.Operations.{error, multiply}
use Rattle.calculus_laws.specs.MonomialLaws.{length_plus}
use Rattle.calculus_laws.specs.TermsLaws.{every_select, every_map_coefficients, every_collect, every_product}
use Rattle.calculus_laws.specs.TermsLaws.{nonzero_drop_zeros}
use Rattle.calculus_laws.specs.SumLaws.{ℕ_addition, ℤ_addition, if_so, sum, sum_select, sum_cong, sum_map_coefficients}
use Rattle.calculus_laws.specs.CanonicalLaws.{at_monomial, coefficient_at, SameCoefficients, coefficient_drop_zeros}
use Rattle.calculus_laws.specs.CanonicalLaws.{rising_distinct}
use Rattle.calculus_laws.specs.ProductLaws.{rounding_same, swept_same, products_rising, products_distinct}
use Rattle.calculus_laws.specs.ProductLaws.{products_coefficients, kept_coefficient, coefficient_kept, kept_rising}
use Rattle.renaming.specs.Reordering.{Reordering, rename, rename_terms, rename_model}
use Rattle.renaming.specs.RenamedAnswerLaws.{rename_answer}
use Rattle.renaming.proofs.RenamedMonomialLaws.{rename_add}
use Rattle.renaming.proofs.SymmetryLaws.{degree_renamed}
use Rattle.renaming.specs.TermSumLaws.{sum_agree, with_term, sum_product}
use Rattle.renaming.proofs.RenamedTermsLaws.{long, Long, InOrder, Symmetric, sum_renamed, sum_select_symmetric}
use Rattle.renaming.proofs.RenamedTermsLaws.{size_renamed, renamed_in_order, renamed_at, coefficient_renamed}
use Rattle.renaming.proofs.RenamedTermsLaws.{renamed_unique}
use Rattle.renaming.proofs.RenamedModelLaws.{model_renamed, limited_renamed}
use Rattle.renaming.proofs.RenamedOperationLaws.{renamed_at_drop_zeros, renamed_at_collect}

-- products of monomials in n variables are such again
long_product : (n : ℕ) (k l : List ℕ) → T (long n k) → T (long n l) → T (long n (add_exponents k l))
long_product n k l h g = rw (length_plus k l (eqb→eq (length k) n h ∙ sym (eqb→eq (length l) n g))) g

module _ {n : ℕ} (ρ : Reordering n) where
  -- what an order keeps is symmetric
  order_symmetric : (d : ℕ) → Symmetric ρ (λ k c. leb (degree k) d)
  order_symmetric d k c e = ap (λ a. leb a d) (degree_renamed ρ k e)

  -- ---- the coefficients of all products
  product_coefficients : (p q : Terms) → InOrder n p → InOrder n q → (k : List ℕ)
      → coefficient_at (product ℤR (rename_terms ρ p) (rename_terms ρ q)) k ≡ renamed_at ρ k (product ℤR p q)
  unfolding coefficient_at
  product_coefficients p q h g k = sum_product ℤ_addition (at_monomial k) (rename_terms ρ p) (rename_terms ρ q)
      ∙ sum_renamed ρ p h ℤ_addition
      (λ a c. sum ℤ_addition (with_term ℤ_addition (at_monomial k) a c) (rename_terms ρ q))
      ∙ sum_cong ℤ_addition
      (λ a c. sum ℤ_addition (with_term ℤ_addition (at_monomial k) (rename ρ a) c) (rename_terms ρ q))
      (λ a c. sum ℤ_addition (with_term ℤ_addition renamed a c) q) inner p
      ∙ sym (sum_product ℤ_addition renamed p q)
    where
      renamed : List ℕ → ℤ → ℤ
      renamed j c = at_monomial k (rename ρ j) c

      inner : (a : List ℕ) (c : ℤ)
          → sum ℤ_addition (with_term ℤ_addition (at_monomial k) (rename ρ a) c) (rename_terms ρ q)
          ≡ sum ℤ_addition (with_term ℤ_addition renamed a c) q
      inner a c = sum_renamed ρ q g ℤ_addition (with_term ℤ_addition (at_monomial k) (rename ρ a) c)
          ∙ sum_cong ℤ_addition (λ b e. at_monomial k (add_exponents (rename ρ a) (rename ρ b)) (c *ℤ e))
          (λ b e. at_monomial k (rename ρ (add_exponents a b)) (c *ℤ e))
          (λ b e. ap (λ j. at_monomial k j (c *ℤ e)) (sym (rename_add ρ a b))) q

  module _ (f g : Model) (h : InOrder n f.terms) (k : InOrder n g.terms) where
    products_long : Long n (products f g)
    unfolding products
    products_long = every_collect (long n) _
        (every_product (long n) (long n) (long_product n) f.terms g.terms h.all_long k.all_long)

    products_in_order : InOrder n (products f g)
    products_in_order = record { all_long = products_long; all_rising = products_rising f g }

    -- the products of renamed models, and the renamed products
    abbrev new : Terms
    new = products (rename_model ρ f) (rename_model ρ g)

    abbrev old : Terms
    old = rename_terms ρ (products f g)

    products_renamed : SameCoefficients new old
    unfolding products rename_model
    products_renamed j = products_coefficients (rename_model ρ f) (rename_model ρ g) j
        ∙ product_coefficients f.terms g.terms h k j
        ∙ sym (renamed_at_collect ρ j (product ℤR f.terms g.terms))
        ∙ sym (coefficient_renamed ρ j (products f g))

    new_distinct : T (distinct new)
    new_distinct = products_distinct (rename_model ρ f) (rename_model ρ g)

    old_distinct : T (distinct old)
    old_distinct = rising_distinct old (renamed_in_order ρ (products f g) products_in_order).all_rising

    -- ---- the radius
    pub rounding_renamed : (d : ℕ) → rounding d new ≡ rounding d (products f g)
    rounding_renamed d = rounding_same new old new_distinct old_distinct products_renamed d
        ∙ (unfold rounding within_order in sum_select_symmetric ρ (products f g) products_in_order ℕ_addition
        (λ k z. residual z) (λ k c e. refl) (λ k z. leb (degree k) d) (order_symmetric d))

    pub swept_renamed : (d : ℕ) → swept d new ≡ swept d (products f g)
    swept_renamed d = swept_same new old new_distinct old_distinct products_renamed d
        ∙ (unfold swept above_order size in sum_select_symmetric ρ (products f g) products_in_order ℕ_addition
        (λ k z. nat_abs z) (λ k c e. refl) _ (λ k c e. rw (order_symmetric d k c e)))

    pub carried_renamed : carried (rename_model ρ f) (rename_model ρ g) ≡ carried f g
    unfolding carried rename_model
    carried_renamed = ap₂ (λ a b. a * g.radius + b * f.radius + f.radius * g.radius)
        (size_renamed ρ f.terms h) (size_renamed ρ g.terms k)

    pub error_renamed : (d : ℕ) → error d (rename_model ρ f) (rename_model ρ g) ≡ error d f g
    unfolding error
    error_renamed d = ap₂ ◌+◌ (ap₂ ◌+◌ carried_renamed (rounding_renamed d)) (swept_renamed d)

    -- ---- the terms
    kept_in_order : (d : ℕ) → InOrder n (drop_zeros (kept d (products f g)))
    kept_in_order d = record {
      all_long = unfold drop_zeros kept within_order in every_select (λ k c. long n k) (λ k c. is_nonzero c) _
          (every_map_coefficients (λ k c. long n k) round (λ k c t. t) _
          (every_select (λ k c. long n k) (λ k z. leb (degree k) d) _ products_long));
      all_rising = kept_rising d (products f g) (products_rising f g);
    }

    -- what is kept of the renamed products has the coefficients of what is kept, renamed
    kept_coefficients : (d : ℕ) (j : List ℕ) → coefficient_at (kept d old) j ≡ renamed_at ρ j (kept d (products f g))
    unfolding coefficient_at kept within_order
    kept_coefficients d j = sum_map_coefficients ℤ_addition (at_monomial j) round (select order old)
        ∙ sum_select ℤ_addition (λ i z. at_monomial j i (round z)) order old
        ∙ sum_renamed ρ (products f g) products_in_order ℤ_addition
        (λ i z. if_so ℤ_addition (order i z) (at_monomial j i (round z)))
        ∙ sum_agree ℤ_addition (λ k c. long n k)
        (λ i z. if_so ℤ_addition (order (rename ρ i) z) (at_monomial j (rename ρ i) (round z)))
        (λ i z. if_so ℤ_addition (order i z) (at_monomial j (rename ρ i) (round z)))
        (λ i z t. ap (λ b. if_so ℤ_addition b (at_monomial j (rename ρ i) (round z)))
        (order_symmetric d i z (eqb→eq (length i) n t))) (products f g) products_long
        ∙ sym (sum_select ℤ_addition (λ i z. at_monomial j (rename ρ i) (round z)) order (products f g))
        ∙ sym (sum_map_coefficients ℤ_addition (λ i z. at_monomial j (rename ρ i) z) round
        (select order (products f g)))
      where
        order : List ℕ → ℤ → Bool
        order k z = leb (degree k) d

    kept_renamed : (d : ℕ) → drop_zeros (kept d new) ≡ rename_terms ρ (drop_zeros (kept d (products f g)))
    kept_renamed d = renamed_unique ρ (drop_zeros (kept d (products f g))) (kept_in_order d)
        (nonzero_drop_zeros (kept d (products f g))) (drop_zeros (kept d new))
        (kept_rising d new (products_rising (rename_model ρ f) (rename_model ρ g))) (nonzero_drop_zeros (kept d new))
        (λ j. coefficient_drop_zeros j (kept d new) ∙ coefficient_kept d new new_distinct j
        ∙ ap (kept_coefficient d j) (products_renamed j) ∙ sym (coefficient_kept d old old_distinct j)
        ∙ kept_coefficients d j ∙ sym (renamed_at_drop_zeros ρ j (kept d (products f g))))

    -- ---- the product
    pub multiply_renamed : (d : ℕ) → multiply d (rename_model ρ f) (rename_model ρ g) ≡ rename_answer ρ (multiply d f g)
    unfolding multiply
    multiply_renamed d = ap limited same ∙ limited_renamed ρ _ (kept_in_order d)
      where
        same : ◌≡◌ {A = Model} (record {
          vars = (rename_model ρ f).vars;
          radius = round_up (error d (rename_model ρ f) (rename_model ρ g));
          terms = drop_zeros (kept d new);
        }) (rename_model ρ (record {
          vars = f.vars;
          radius = round_up (error d f g);
          terms = drop_zeros (kept d (products f g));
        }))
        same = unfold rename_model in
            model_renamed ρ f.vars _ _ _ _ (ap round_up (error_renamed d)) (kept_renamed d)
