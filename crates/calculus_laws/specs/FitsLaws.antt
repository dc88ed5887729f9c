-- Monomials that fit: n exponents and degree at most d. What order d keeps of a product fits again.
use Rattle.std.specs.Prelude.{◌≡◌, Bool, List, ℕ, ◌≤◌, T, eqb, length}
use Rattle.std.proofs.Common.{sym, ◌∙◌, arith, le→leb}
use Rattle.std.proofs.Math.Dec.{leb, eqb→eq, eqb_refl, leb→le}
use Rattle.polynomial.specs.Polynomial.{add_exponents}
use Rattle.numbers.specs.Fixed.{round}
use Rattle.calculus.specs.Monomial.{degree}
use Rattle.calculus.specs.Terms.{Terms, every, is_nonzero, drop_zeros}
use Rattle.calculus.specs.Model.{Model, fits}
use Rattle.calculus.specs.Operations.{products, within_order, kept}
use Rattle.calculus_laws.specs.TestLaws.{and_left, and_right, both}
use Rattle.calculus_laws.specs.MonomialLaws.{length_plus}
use Rattle.calculus_laws.specs.TermsLaws.{every_implies, every_both, every_select, every_selected}
use Rattle.calculus_laws.specs.TermsLaws.{every_map_coefficients, every_collect, every_product}

module _ (n : ℕ) where
  -- n exponents
  abbrev long : List ℕ → Bool
  long k = eqb (length k) n

  long_product : (k l : List ℕ) → T (long k) → T (long l) → T (long (add_exponents k l))
  long_product k l h g = rw (length_plus k l (eqb→eq (length k) n h ∙ sym (eqb→eq (length l) n g))) g

  module _ (d : ℕ) where
    -- all monomials fit
    abbrev pub Fitting : Terms → Type 0
    Fitting p = T (every (λ k c. fits n d k) p)

    pub fits_by : (k : List ℕ) → length k ≡ n → degree k ≤ d → T (fits n d k)
    unfolding fits
    fits_by k h g = both (long k) _ (rw h (eqb_refl n)) (le→leb (degree k) d g)

    pub fits_length : (k : List ℕ) → T (fits n d k) → length k ≡ n
    unfolding fits
    fits_length k h = eqb→eq (length k) n (and_left (long k) _ h)

    pub fits_degree : (k : List ℕ) → T (fits n d k) → degree k ≤ d
    unfolding fits
    fits_degree k h = leb→le (degree k) d (and_right (long k) _ h)

    long_terms : (p : Terms) → Fitting p → T (every (λ k c. long k) p)
    long_terms p = every_implies (λ k c. fits n d k) (λ k c. long k) (λ k c t. rw (fits_length k t) (eqb_refl n)) p

    -- what is kept of a product
    pub kept_fits : (f g : Model) → Fitting f.terms → Fitting g.terms
        → Fitting (drop_zeros (kept d (products f g)))
    unfolding drop_zeros kept within_order products
    kept_fits f g hf hg =
        every_select (λ k c. fits n d k) (λ k c. is_nonzero c) _
        (every_map_coefficients (λ k c. fits n d k) round (λ k c t. t) _
        (every_both (λ k c. long k) (λ k c. leb (degree k) d) (λ k c. fits n d k)
        (λ k c s t. fits_by k (eqb→eq (length k) n s) (leb→le (degree k) d t)) _
        (every_select (λ k c. long k) (λ k c. leb (degree k) d) _
        (every_collect long _
        (every_product long long long_product f.terms g.terms
        (long_terms f.terms hf) (long_terms g.terms hg))))
        (every_selected (λ k c. leb (degree k) d) _)))

  -- what fits an order fits a larger one
  pub fits_more : (d e : ℕ) (p : Terms) → d ≤ e → Fitting d p → Fitting e p
  fits_more d e p l = every_implies (λ k c. fits n d k) (λ k c. fits n e k)
      (λ k c t. fits_by e k (fits_length d k t) (omega (arith, fits_degree d k t))) p
