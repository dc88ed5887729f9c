-- Each operation on renamed models gives the renamed answer: constant, variable, negate, add, subtract, sweep.
use Rattle.std.specs.Prelude.{◌≡◌, ◌&&◌, ℕ, ◌+◌, ◌<◌, ℤ, pos, ◌+ℤ◌, nat_abs}
use Rattle.std.proofs.Math.Path.{refl, sym, ap}
use Rattle.std.proofs.Common.{◌∙◌, ap₂}
use Rattle.std.proofs.Math.Bool.{not}
use mathlib.Core.List.{List, [], ◌∷◌, ◌++◌}
use Rattle.std.proofs.Math.Dec.{leb}
use Rattle.std.proofs.Math.IntN.{neg_ℤ}
use Rattle.numbers.specs.Fixed.{U}
use Rattle.calculus.specs.Monomial.{zeros, index_of, single}
use Rattle.calculus.specs.Terms.{Terms, term, select, map_coefficients, map_monomials, is_nonzero, drop_zeros, insert}
use Rattle.calculus.specs.Terms.{collect}
use Rattle.calculus.specs.Model.{Model, zero_model}
use Rattle.calculus.specs.Operations.{limited, constant, variable, negate, add, subtract, is_small, sweep}
use Rattle.calculus_laws.specs.TermsLaws.{by_select, every_select, every_collect, every-++, nonzero_drop_zeros}
use Rattle.calculus_laws.specs.SumLaws.{ℤ_addition, if_so_nothing, sum-++, sum_drop_zeros, sum_collect}
use Rattle.calculus_laws.specs.SumLaws.{sum_map_coefficients}
use Rattle.calculus_laws.specs.CanonicalLaws.{at_monomial, at_additive, coefficient_at, coefficient-++}
use Rattle.calculus_laws.specs.CanonicalLaws.{canonical_rising, canonical_coefficients}
use Rattle.calculus_laws.specs.SoundLaws.{Canonical, negate_canonical}
use Rattle.renaming.specs.Reordering.{Reordering, rename, rename_variable, rename_terms, rename_model}
use Rattle.renaming.specs.RenamedAnswerLaws.{rename_answer}
use Rattle.renaming.proofs.RenamedMonomialLaws.{rename_zeros, rename_single}
use Rattle.renaming.proofs.RenamedTermsLaws.{long, InOrder, Symmetric, sum_renamed, renamed_at}
use Rattle.renaming.proofs.RenamedTermsLaws.{coefficient_renamed, renamed_unique, select_renamed}
use Rattle.renaming.proofs.RenamedModelLaws.{canonical_in_order, canonical_renamed, model_renamed, limited_renamed}
use Rattle.renaming.proofs.RenamedModelLaws.{constant_symmetric, selected_size}

module _ {n : ℕ} (ρ : Reordering n) where
  -- ---- constant and variable
  none_renamed : rename_terms ρ [] ≡ []
  unfolding rename_terms map_monomials collect
  none_renamed = refl

  pub zero_renamed : zero_model n ≡ rename_model ρ (zero_model n)
  unfolding zero_model
  zero_renamed = model_renamed ρ n 0 0 _ _ refl (sym none_renamed)

  one_renamed : (c : ℤ) (k : List ℕ) → rename_terms ρ (term c k ∷ []) ≡ term c (rename ρ k) ∷ []
  unfolding rename_terms map_monomials collect insert
  one_renamed c k = refl

  pub constant_renamed : (v : ℤ) → constant n v ≡ rename_model ρ (constant n v)
  unfolding constant drop_zeros
  constant_renamed v = model_renamed ρ n 0 0 _ _ refl
      (by_select (λ q. q ≡ rename_terms ρ q) (λ k c. is_nonzero c) (term v (zeros n)) []
      (λ y. unfold select in (ap (λ k. term v k ∷ []) (sym (rename_zeros ρ)) ∙ sym (one_renamed v (zeros n))))
      (λ z. unfold select in sym none_renamed))

  pub variable_renamed : (v : ℕ) → index_of v < n → variable n (rename_variable ρ v) ≡ rename_model ρ (variable n v)
  unfolding variable
  variable_renamed v h = model_renamed ρ n 0 0 _ _ refl
      (ap (λ k. term (pos U) k ∷ []) (sym (rename_single ρ v h)) ∙ sym (one_renamed (pos U) (single n v)))

  -- ---- negate
  pub negate_renamed : (d : ℕ) (f : Model) → Canonical n d f → negate (rename_model ρ f) ≡ rename_model ρ (negate f)
  negate_renamed d f h = unfold negate rename_model in model_renamed ρ f.vars f.radius f.radius _ _ refl
      (unfold negate rename_model in renamed_unique ρ _ (canonical_in_order after) after.nonzero_terms _
      turned.rising_terms turned.nonzero_terms coefficients)
    where
      after : Canonical n d (negate f)
      after = negate_canonical n d f h

      turned : Canonical n d (negate (rename_model ρ f))
      turned = negate_canonical n d (rename_model ρ f) (canonical_renamed ρ d f h)

      coefficients : (k : List ℕ) → coefficient_at (map_coefficients neg_ℤ (rename_terms ρ f.terms)) k
          ≡ renamed_at ρ k (map_coefficients neg_ℤ f.terms)
      coefficients k = unfold coefficient_at in
          (sum_map_coefficients ℤ_addition (at_monomial k) neg_ℤ (rename_terms ρ f.terms)
          ∙ sum_renamed ρ f.terms (canonical_in_order h) ℤ_addition (λ j c. at_monomial k j (neg_ℤ c))
          ∙ sym (sum_map_coefficients ℤ_addition (λ j c. at_monomial k (rename ρ j) c) neg_ℤ f.terms))

  -- ---- add and subtract
  -- dropping zeros keeps each coefficient, and so does collecting
  pub renamed_at_drop_zeros : (k : List ℕ) (p : Terms) → renamed_at ρ k (drop_zeros p) ≡ renamed_at ρ k p
  renamed_at_drop_zeros k p = sum_drop_zeros ℤ_addition (λ j c. at_monomial k (rename ρ j) c)
      (λ j. if_so_nothing ℤ_addition _) p

  pub renamed_at_collect : (k : List ℕ) (p : Terms) → renamed_at ρ k (collect p) ≡ renamed_at ρ k p
  renamed_at_collect k p = sum_collect ℤ_addition (λ j c. at_monomial k (rename ρ j) c)
      (λ j c d. at_additive k (rename ρ j) c d) p

  sum_in_order : (p q : Terms) → InOrder n p → InOrder n q → InOrder n (drop_zeros (collect (p ++ q)))
  sum_in_order p q h g = record {
    all_long = unfold drop_zeros in every_select (λ k c. long n k) (λ k c. is_nonzero c) _
        (every_collect (long n) _ (every-++ (λ k c. long n k) p q h.all_long g.all_long));
    all_rising = canonical_rising (p ++ q);
  }

  sum_terms_renamed : (p q : Terms) → InOrder n p → InOrder n q
      → drop_zeros (collect (rename_terms ρ p ++ rename_terms ρ q)) ≡ rename_terms ρ (drop_zeros (collect (p ++ q)))
  sum_terms_renamed p q h g = renamed_unique ρ (drop_zeros (collect (p ++ q))) (sum_in_order p q h g)
      (nonzero_drop_zeros (collect (p ++ q))) _ (canonical_rising (rename_terms ρ p ++ rename_terms ρ q))
      (nonzero_drop_zeros (collect (rename_terms ρ p ++ rename_terms ρ q)))
      (λ k. canonical_coefficients (rename_terms ρ p ++ rename_terms ρ q) k
      ∙ coefficient-++ k (rename_terms ρ p) (rename_terms ρ q)
      ∙ ap₂ ◌+ℤ◌ (coefficient_renamed ρ k p) (coefficient_renamed ρ k q)
      ∙ sym (sum-++ ℤ_addition (λ j c. at_monomial k (rename ρ j) c) p q)
      ∙ sym (renamed_at_drop_zeros k (collect (p ++ q)) ∙ renamed_at_collect k (p ++ q)))

  pub add_renamed : (f g : Model) → InOrder n f.terms → InOrder n g.terms
      → add (rename_model ρ f) (rename_model ρ g) ≡ rename_answer ρ (add f g)
  unfolding add rename_model
  add_renamed f g h k = ap limited
      (model_renamed ρ f.vars (f.radius + g.radius) (f.radius + g.radius) _ _ refl
      (sum_terms_renamed f.terms g.terms h k))
      ∙ limited_renamed ρ _ (sum_in_order f.terms g.terms h k)

  pub subtract_renamed : (d : ℕ) (f g : Model) → Canonical n d f → Canonical n d g
      → subtract (rename_model ρ f) (rename_model ρ g) ≡ rename_answer ρ (subtract f g)
  unfolding subtract
  subtract_renamed d f g h k = ap (add (rename_model ρ f)) (negate_renamed d g k)
      ∙ add_renamed f (negate g) (canonical_in_order h) (canonical_in_order (negate_canonical n d g k))

  -- ---- sweep
  pub small_symmetric : (t : ℕ) → Symmetric ρ (is_small t)
  unfolding is_small
  small_symmetric t k c e = ap (λ b. not b && leb (nat_abs c) t) (constant_symmetric ρ k c e)

  pub sweep_renamed : (d t : ℕ) (f : Model) → Canonical n d f → sweep t (rename_model ρ f) ≡ rename_model ρ (sweep t f)
  unfolding sweep
  sweep_renamed d t f h = unfold rename_model in model_renamed ρ f.vars _ _ _ _
      (ap (f.radius +◌) (selected_size ρ (is_small t) (small_symmetric t) f (canonical_in_order h)))
      (select_renamed ρ (λ k c. not (is_small t k c)) (λ k c e. ap not (small_symmetric t k c e)) f.terms
      (canonical_in_order h) h.nonzero_terms)
