-- The operations give sound models.
use Rattle.std.specs.Prelude.{◌≡◌, refl, Bool, true, not, ◌&&◌, leb, ℤ, pos, negsuc, length}
use Rattle.std.proofs.Math.Path.{sym}
use Rattle.std.proofs.Common.{◌∙◌, ap, ne_eqb, eqb→eq, le→leb}
use mathlib.Core.List.{List, [], ◌∷◌, ◌++◌}
use Prim.Native.Nat.{ℕ, zero, suc, ◌+◌, ◌≤◌, ◌<◌}
use native.Mathlib.Omega.{arith}
use Rattle.std.proofs.Math.Dec.{T, eqb, eqb_refl, leb→le, lit≤}
use Rattle.std.proofs.Math.IntN.{neg_ℤ, nat_abs}
use Rattle.polynomial.specs.Polynomial.{exponent, without, raise}
use Rattle.numbers.specs.Fixed.{U, span_limit}
use Rattle.numbers.proofs.FixedLaws.{U_pos, U_within}
use Rattle.calculus.specs.Monomial.{degree, zeros, index_of, single}
use Rattle.calculus.specs.Terms.{Terms, term, every, select, sum_over, size, map_monomials}
use Rattle.calculus.specs.Terms.{rising_from, rising, is_nonzero, nonzero, drop_zeros, collect}
use Rattle.calculus.specs.Model.{Model, zero_model, one_model, most_vars, most_terms, between, span, fits, sound}
use Rattle.calculus.specs.Refusal.{over_span, too_many_terms, leaves_box, uncertified, accepted}
use Rattle.calculus.specs.Operations.{limited, constant, variable, negate, add, subtract, products}
use Rattle.calculus.specs.Operations.{kept, multiply, range_in_box, largest_exponent, part_terms, part, horner}
use Rattle.calculus.specs.Operations.{widen, substitute, is_small, sweep, bare, certified, quotient, raised}
use Rattle.calculus.specs.Operations.{divided}
use Rattle.calculus.specs.Operations.{within_order, growth_rounding, growth_swept, antiderivative}
use Rattle.calculus_laws.specs.TestLaws.{and_left, and_right, both}
use Rattle.calculus_laws.specs.RefusalLaws.{IfAccepted, holds, require_accepted, require_passed, then_accepted}
use Rattle.calculus_laws.specs.RefusalLaws.{weaken}
use Rattle.calculus_laws.specs.RefusalLaws.{always}
use Rattle.calculus_laws.specs.MonomialLaws.{length_zeros, length_single, length_without, degree_zeros}
use Rattle.calculus_laws.specs.MonomialLaws.{degree_single, degree_without, less_without, length_raise}
use Rattle.calculus_laws.specs.MonomialLaws.{less_raise}
use Rattle.calculus_laws.specs.TermsLaws.{by_select, length_select, every_nil, every_cons, every-++}
use Rattle.calculus_laws.specs.TermsLaws.{every_select, every_selected, every_implies, every_both}
use Rattle.calculus_laws.specs.TermsLaws.{every_map_coefficients}
use Rattle.calculus_laws.specs.TermsLaws.{every_map_monomials, every_map_terms, every_collect, rising_head}
use Rattle.calculus_laws.specs.TermsLaws.{rising_rest}
use Rattle.calculus_laws.specs.TermsLaws.{rising_cons, rising_below, rising_any, rising_select}
use Rattle.calculus_laws.specs.TermsLaws.{rising_map_coefficients, rising_map_terms, rising_map_monomials}
use Rattle.calculus_laws.specs.TermsLaws.{nonzero_drop_zeros}
use Rattle.calculus_laws.specs.FitsLaws.{fits_by, fits_length, fits_degree, kept_fits}
use Rattle.calculus_laws.specs.SumLaws.{ℕ_addition, sum_split}
use Rattle.calculus_laws.specs.GrowthLaws.{antiderivative_length, growth_le}
use Rattle.calculus_laws.specs.CanonicalLaws.{canonical_rising}
use Rattle.calculus_laws.specs.TurnedLaws.{size_turned, length_turned}
use Rattle.calculus_laws.specs.ProductLaws.{products_rising, kept_rising}

-- ---- the rules of a model, in two parts
-- terms in canonical form, in n variables and of degrees up to d
pub record Canonical (n d : ℕ) (m : Model) : Type 0 where
  pub vars : m.vars ≡ n
  pub fitting : T (every (λ k c. fits n d k) m.terms)
  pub nonzero_terms : T (nonzero m.terms)
  pub rising_terms : T (rising m.terms)

-- and the limits
pub record Bounded (m : Model) : Type 0 where
  pub count : length m.terms ≤ most_terms
  pub small_span : span m ≤ span_limit

abbrev pub Sound : (n d : ℕ) → Model → Type 0
Sound n d m = Canonical n d m × Bounded m

-- the test says both
module _ (d : ℕ) (m : Model) where
  v : Bool
  v = between 1 most_vars m.vars

  c : Bool
  c = leb (length m.terms) most_terms

  f : Bool
  f = every (λ k c. fits m.vars d k) m.terms

  z : Bool
  z = nonzero m.terms

  r : Bool
  r = rising m.terms

  s : Bool
  s = leb (span m) span_limit

  pub sound_parts : T (sound d m) → Sound m.vars d m
  unfolding sound v c f z r s
  sound_parts h = (
    record {
      vars = refl;
      fitting = and_right (v && c) f (and_left (v && c && f) z rising_before);
      nonzero_terms = and_right (v && c && f) z rising_before;
      rising_terms = and_right (v && c && f && z) r span_before;
    },
    record {
      count = leb→le (length m.terms) most_terms
          (and_right v c (and_left (v && c) f (and_left (v && c && f) z rising_before)));
      small_span = leb→le (span m) span_limit (and_right (v && c && f && z && r) s h);
    },
  )
    where
      span_before : T (v && c && f && z && r)
      span_before = and_left (v && c && f && z && r) s h

      rising_before : T (v && c && f && z)
      rising_before = and_left (v && c && f && z) r span_before

  pub sound_vars : T (sound d m) → T (between 1 most_vars m.vars)
  unfolding sound v c f z r s
  sound_vars h = and_left v c (and_left (v && c) f (and_left (v && c && f) z (and_left (v && c && f && z) r
      (and_left (v && c && f && z && r) s h))))

  pub parts_sound : T (between 1 most_vars m.vars) → Sound m.vars d m → T (sound d m)
  unfolding sound v c f z r s
  parts_sound b h = both (v && c && f && z && r) s
      (both (v && c && f && z) r (both (v && c && f) z (both (v && c) f (both v c b
      (le→leb (length m.terms) most_terms h.1.count)) h.0.fitting) h.0.nonzero_terms)
      h.0.rising_terms)
      (le→leb (span m) span_limit h.1.small_span)

-- what the limits accept keeps them
pub limited_bounded : {P : Model → Type 0} (m : Model) → P m → IfAccepted (λ r. P r × Bounded r) (limited m)
unfolding limited
limited_bounded m h = require_accepted (leb (length m.terms) most_terms) too_many_terms _
    (λ t. require_accepted (leb (span m) span_limit) over_span _
    (λ s. holds (
      h,
      record {
        count = leb→le (length m.terms) most_terms t;
        small_span = leb→le
            (span m) span_limit s;
      },
    )))

-- an antiderivative keeps the limits: no coefficient is larger than it was, and what is lost goes into the radius
antiderivative_bounded : (d i : ℕ) (f : Model) → Bounded f → Bounded (antiderivative d i f)
antiderivative_bounded d i f h = record {
  count = let e = antiderivative_length d i f in let c = h.count in omega arith;
  small_span = within h.small_span (growth_le d i f);
}
  where
    within : span f ≤ span_limit
        → size (antiderivative d i f).terms + (growth_rounding d i f + growth_swept d i f) ≤ size f.terms
        → span (antiderivative d i f) ≤ span_limit
    within c e = unfold span antiderivative in omega arith

-- so the limits would refuse none: neither 8 nor 7 can happen
pub antiderivative_limits : (d i : ℕ) (f : Model) → Bounded f
    → limited (antiderivative d i f) ≡ accepted (antiderivative d i f)
unfolding limited
antiderivative_limits d i f h =
    require_passed (leb (length m.terms) most_terms) too_many_terms _
    (le→leb (length m.terms) most_terms b.count)
    ∙ require_passed (leb (span m) span_limit) over_span _ (le→leb (span m) span_limit b.small_span)
  where
    m : Model
    m = antiderivative d i f

    b : Bounded m
    b = antiderivative_bounded d i f h

-- U is not 0
U_nonzero : is_nonzero (pos U) ≡ true
unfolding is_nonzero
U_nonzero = ap not (ne_eqb U 0 (λ e. omega (arith, U_pos)))

-- a model of at most one term
one_term : (n d : ℕ) (c : ℤ) (k : List ℕ) → T (fits n d k) → nat_abs c ≤ span_limit → T (is_nonzero c)
    → Sound n d (record { vars = n; radius = 0; terms = term c k ∷ [] })
one_term n d c k h l z = (
  record {
    vars = refl;
    fitting = every_cons (λ k c. fits n d k) (term c k) [] h (every_nil (λ k c. fits n d k));
    nonzero_terms = unfold nonzero in every_cons (λ k c. is_nonzero c) (term c k) [] z
        (every_nil (λ k c. is_nonzero c));
    rising_terms = unfold rising rising_from in tt;
  },
  record { count = unfold most_terms in lit≤ tt; small_span = unfold span size sum_over in omega arith },
)

pub zero_sound : (n d : ℕ) → Sound n d (zero_model n)
unfolding zero_model
zero_sound n d = (
  record {
    vars = refl;
    fitting = every_nil (λ k c. fits n d k);
    nonzero_terms = unfold nonzero in every_nil (λ k c. is_nonzero c);
    rising_terms = unfold rising in tt;
  },
  record { count = unfold most_terms in lit≤ tt; small_span = unfold span size sum_over in omega arith },
)

-- ---- the terms that multiply one power of a variable, without it
module _ (i k : ℕ) where
  abbrev chosen : Terms → Terms
  chosen = select (λ j c. eqb (exponent i j) k)

  rising_from_without : (j : List ℕ) (p : Terms) → exponent i j ≡ k → T (rising_from j p)
      → T (rising_from (without i j) (map_monomials (without i) (chosen p)))
  unfolding map_monomials
  rising_from_without j [] e h = unfold select rising_from in tt
  rising_from_without j (t ∷ p) e h = go (λ e'. rising_from_without t.exponents p e' (rising_rest j t p h))
      (rising_from_without j p e (rising_below j t.exponents p (rising_head j t p h) (rising_rest j t p h)))
    where
      go : (exponent i t.exponents ≡ k
          → T (rising_from (without i t.exponents) (map_monomials (without i) (chosen p))))
          → T (rising_from (without i j) (map_monomials (without i) (chosen p)))
          → T (rising_from (without i j) (map_monomials (without i) (chosen (t ∷ p))))
      go f g = by_select (λ q. T (rising_from (without i j) (map_monomials (without i) q)))
          (λ j c. eqb (exponent i j) k) t p
          (λ y. rising_cons (without i j) _ _
          (less_without i j t.exponents (e ∙ sym (eqb→eq _ k y)) (rising_head j t p h))
          (f (eqb→eq _ k y)))
          (λ n. g)

  rising_without : (p : Terms) → T (rising p) → T (rising (map_monomials (without i) (chosen p)))
  unfolding map_monomials rising
  rising_without [] h = unfold select in tt
  rising_without (t ∷ p) h = go (rising_without p (rising_any t.exponents p h))
    where
      go : T (rising (map_monomials (without i) (chosen p))) → T (rising (map_monomials (without i) (chosen (t ∷ p))))
      go g = by_select (λ q. T (rising (map_monomials (without i) q))) (λ j c. eqb (exponent i j) k) t p
          (λ y. rising_from_without t.exponents p (eqb→eq _ k y) h) (λ n. g)

-- ---- each operation
module _ (n d : ℕ) where
  pub constant_sound : (v : ℤ) → nat_abs v ≤ span_limit → Sound n d (constant n v)
  unfolding constant drop_zeros
  constant_sound v h = by_select (λ p. Sound n d (record { vars = n; radius = 0; terms = p }))
      (λ k c. is_nonzero c) (term v (zeros n)) []
      (λ y. empty (λ p. Sound n d (record { vars = n; radius = 0; terms = term v (zeros n) ∷ p }))
      (one_term n d v (zeros n) here h y))
      (λ e. empty (λ p. Sound n d (record { vars = n; radius = 0; terms = p })) (unfold zero_model in zero_sound n d))
    where
      here : T (fits n d (zeros n))
      here = fits_by n d (zeros n) (length_zeros n) (let e = degree_zeros n in omega arith)

      empty : (P : Terms → Type 0) → P [] → P (select (λ k c. is_nonzero c) [])
      empty P p = unfold select in p

  pub variable_sound : (i : ℕ) → 1 ≤ d → Sound n d (variable n i)
  unfolding variable
  variable_sound i h = one_term n d (pos U) (single n i)
      (fits_by n d (single n i) (length_single n i) (let e = degree_single n i in omega arith))
      U_within (rw U_nonzero tt)

  pub negate_canonical : (f : Model) → Canonical n d f → Canonical n d (negate f)
  unfolding negate nonzero
  negate_canonical f h = record {
    vars = h.vars;
    fitting = every_map_coefficients (λ k c. fits n d k) neg_ℤ (λ k c t. t) f.terms h.fitting;
    nonzero_terms = every_map_coefficients (λ k c. is_nonzero c) neg_ℤ (λ k c t. turned c t) f.terms
        h.nonzero_terms;
    rising_terms = rising_map_coefficients neg_ℤ f.terms h.rising_terms;
  }
    where
      turned : (c : ℤ) → T (is_nonzero c) → T (is_nonzero (neg_ℤ c))
      turned (pos zero) h = h
      turned (pos (suc n)) h = unfold is_nonzero in (unfold is_nonzero in h)
      turned (negsuc n) h = unfold is_nonzero in h

  pub negate_sound : (f : Model) → Sound n d f → Sound n d (negate f)
  negate_sound f h = (negate_canonical f h.0, bounds)
    where
      bounds : Bounded (negate f)
      bounds = unfold negate span in record {
        count = let e = length_turned f.terms in let c = h.1.count in omega arith;
        small_span = let e = size_turned f.terms in let c = h.1.small_span in omega arith;
      }

  pub add_sound : (f g : Model) → Canonical n d f → Canonical n d g → IfAccepted (Sound n d) (add f g)
  unfolding add
  add_sound f g hf hg = limited_bounded {P = Canonical n d} _ (record {
    vars = hf.vars;
    fitting = unfold drop_zeros in every_select (λ k c. fits n d k) (λ k c. is_nonzero c) _
        (every_collect (fits n d) _ (every-++ (λ k c. fits n d k) f.terms g.terms hf.fitting hg.fitting));
    nonzero_terms = nonzero_drop_zeros (collect (f.terms ++ g.terms));
    rising_terms = canonical_rising (f.terms ++ g.terms);
  })

  pub subtract_sound : (f g : Model) → Canonical n d f → Canonical n d g → IfAccepted (Sound n d) (subtract f g)
  unfolding subtract
  subtract_sound f g hf hg = add_sound f (negate g) hf (negate_canonical g hg)

  -- ---- multiply
  pub multiply_sound : (f g : Model) → Canonical n d f → Canonical n d g → IfAccepted (Sound n d) (multiply d f g)
  unfolding multiply
  multiply_sound f g hf hg = limited_bounded {P = Canonical n d} _ (record {
    vars = hf.vars;
    fitting = kept_fits n d f g hf.fitting hg.fitting;
    nonzero_terms = nonzero_drop_zeros (kept d (products f g));
    rising_terms = kept_rising d (products f g) (products_rising f g);
  })

  -- ---- substitute
  fits_without : (i : ℕ) (k : List ℕ) → T (fits n d k) → T (fits n d (without i k))
  fits_without i k h = fits_by n d (without i k) (length_without i k ∙ fits_length n d k h)
      (let e = fits_degree n d k h in let f = degree_without i k in omega arith)

  pub part_canonical : (i k : ℕ) (f : Model) → Canonical n d f → Canonical n d (part i k f)
  unfolding part part_terms nonzero
  part_canonical i k f h = record {
    vars = h.vars;
    fitting = every_map_monomials (λ k c. fits n d k) (without (index_of i)) (λ k c t. fits_without (index_of i) k t) _
        (every_select (λ k c. fits n d k) _ f.terms h.fitting);
    nonzero_terms = every_map_monomials (λ k c. is_nonzero c) (without (index_of i)) (λ k c t. t) _
        (every_select (λ k c. is_nonzero c) _ f.terms h.nonzero_terms);
    rising_terms = rising_without (index_of i) k f.terms h.rising_terms;
  }

  pub horner_canonical : (i : ℕ) (f g : Model) → Canonical n d f → Canonical n d g
      → (k : ℕ) (h : Model) → Canonical n d h
      → IfAccepted (Canonical n d) (horner d i f g k h)
  unfolding horner
  horner_canonical i f g hf hg zero h c = holds c
  horner_canonical i f g hf hg (suc k) h c = then_accepted
      (then_accepted (multiply_sound h g c hg)
      (λ p hp. weaken (λ r hr. hr.0) (add_sound p (part i k f) hp.0 (part_canonical i k f hf))))
      (λ r hr. horner_canonical i f g hf hg k r hr)

  widen_sound : (e : ℕ) (f : Model) → Canonical n d f → IfAccepted (Sound n d) (widen e f)
  unfolding widen
  widen_sound e f h = limited_bounded {P = Canonical n d} _ (record {
    vars = h.vars;
    fitting = h.fitting;
    nonzero_terms = h.nonzero_terms;
    rising_terms = h.rising_terms;
  })

  pub substitute_sound : (i : ℕ) (f g : Model) → Canonical n d f → Canonical n d g
      → IfAccepted (Sound n d) (substitute d i f g)
  unfolding substitute
  substitute_sound i f g hf hg = require_accepted (range_in_box g) leaves_box _ (λ t. then_accepted
      (horner_canonical i f g hf hg (largest_exponent i f.terms) _
      (part_canonical i (largest_exponent i f.terms) f hf))
      (λ r hr. widen_sound f.radius r hr))

  -- ---- quotient: the polynomial is that of h
  pub bare_canonical : (f : Model) → Canonical n d f → Canonical n d (bare f)
  unfolding bare
  bare_canonical f h = record {
    vars = h.vars;
    fitting = h.fitting;
    nonzero_terms = h.nonzero_terms;
    rising_terms = h.rising_terms;
  }

  pub bare_sound : (f : Model) → Sound n d f → Sound n d (bare f)
  bare_sound f h = (bare_canonical f h.0, bounds)
    where
      bounds : Bounded (bare f)
      bounds = unfold bare span in record {
        count = h.1.count;
        small_span = let c = h.1.small_span in omega arith;
      }

  pub quotient_sound : (f g h w : Model) → Canonical n d h → IfAccepted (Sound n d) (quotient d f g h w)
  unfolding quotient certified
  quotient_sound f g h w c = then_accepted (always (tt {0}) _) (λ y _. then_accepted (always (tt {0}) _) (λ z _.
      require_accepted _ uncertified _ (λ t. widen_sound _ (bare h) (bare_canonical h c))))

  -- ---- sweep: what is dropped goes into the radius, so that the span stays
  pub sweep_sound : (t : ℕ) (f : Model) → Sound n d f → Sound n d (sweep t f)
  sweep_sound t f h = (canonical, bounds)
    where
      large : List ℕ → ℤ → Bool
      large k c = not (is_small t k c)

      canonical : Canonical n d (sweep t f)
      canonical = unfold sweep nonzero in record {
        vars = h.0.vars;
        fitting = every_select (λ k c. fits n d k) large f.terms h.0.fitting;
        nonzero_terms = every_select (λ k c. is_nonzero c) large f.terms h.0.nonzero_terms;
        rising_terms = rising_select large f.terms h.0.rising_terms;
      }

      split : size f.terms ≡ size (select (is_small t) f.terms) + size (select large f.terms)
      split = unfold size in sum_split ℕ_addition (λ k c. nat_abs c) (is_small t) f.terms

      bounds : Bounded (sweep t f)
      bounds = unfold sweep span in record {
        count = let e = length_select large f.terms in let c = h.1.count in omega arith;
        small_span = let e = split in let c = h.1.small_span in omega arith;
      }

  -- ---- antiderivative
  raised_length : (i : ℕ) → index_of i < n → (f : Model) → Canonical n d f
      → T (every (λ k c. eqb (length k) n) (raised i f))
  unfolding raised
  raised_length i l f h = every_map_monomials (λ k c. eqb (length k) n) (raise (index_of i))
      (λ k c t. rw (length_raise (index_of i) k (rw (eqb→eq (length k) n t) l)) t) f.terms
      (every_implies (λ k c. fits n d k) (λ k c. eqb (length k) n)
      (λ k c t. rw (fits_length n d k t) (eqb_refl n)) f.terms h.fitting)

  raised_rising : (i : ℕ) → index_of i < n → (f : Model) → Canonical n d f → T (rising (raised i f))
  unfolding raised
  raised_rising i l f h = rising_map_monomials (fits n d) (raise (index_of i))
      (λ j k s t q. less_raise (index_of i) j k (rw (fits_length n d j s) l) (rw (fits_length n d k t) l) q)
      f.terms h.fitting h.rising_terms

  pub antiderivative_sound : (i : ℕ) → index_of i < n → (f : Model) → Sound n d f → Sound n d (antiderivative d i f)
  antiderivative_sound i l f h = (canonical, antiderivative_bounded d i f h.1)
    where
      inside : List ℕ → ℤ → Bool
      inside k c = leb (degree k) d

      canonical : Canonical n d (antiderivative d i f)
      canonical = record {
        vars = unfold antiderivative in h.0.vars;
        fitting = unfold antiderivative drop_zeros divided within_order in
            every_select (λ k c. fits n d k) (λ k c. is_nonzero c) _
            (every_map_terms (λ k c. fits n d k) _ (λ k c t. t) _
            (every_both (λ k c. eqb (length k) n) inside (λ k c. fits n d k)
            (λ k c s t. fits_by n d k (eqb→eq (length k) n s) (leb→le (degree k) d t)) _
            (every_select (λ k c. eqb (length k) n) inside _ (raised_length i l f h.0))
            (every_selected inside _)));
        nonzero_terms = unfold antiderivative in nonzero_drop_zeros _;
        rising_terms = unfold antiderivative drop_zeros divided within_order in
            rising_select (λ k c. is_nonzero c) _ (rising_map_terms _ _
            (rising_select inside _ (raised_rising i l f h.0)));
      }

-- the model of 1 is the constant 1
pub one_constant : (n : ℕ) → one_model n ≡ constant n (pos U)
unfolding one_model constant drop_zeros select
one_constant n = by_select (λ p. one_model n ≡ record { vars = n; radius = 0; terms = p })
    (λ k c. is_nonzero c) (term (pos U) (zeros n)) [] (λ y. refl) (λ z. absurd (rw U_nonzero at z))
