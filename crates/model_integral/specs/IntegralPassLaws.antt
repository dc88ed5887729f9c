-- A loop that adds up what the terms with even exponents give, of a model that lies in slices.
use Rattle.std.specs.Prelude.{◌≡◌, Bool, true, false, List, ℕ, ◌+◌, ◌≤◌, ◌<◌, ℤ, pos, ◌+ℤ◌, length, get_or}
use Rattle.std.proofs.Common.{sym, ◌∙◌}
use Rattle.std.proofs.Math.Path.{ap, subst}
use native.Mathlib.Omega.{arith}
use Rattle.std.proofs.Math.Dec.{T}
use Rattle.std.proofs.Math.IntN.{nat_abs}
use Rattle.polynomial.specs.Integral.{all_even, divisor}
use Rattle.numbers.specs.Fixed.{span_limit}
use Rattle.calculus.specs.Key.{key_width, key_fits, monomial_of}
use Rattle.calculus.specs.Terms.{Terms, select, sum_ℕ, sum_ℤ, size}
use Rattle.calculus_laws.specs.SumLaws.{ℤ_addition}
use Rattle.calculus.specs.Model.{most_degree, most_terms}
use Rattle.model_keys.specs.Keys.{key_even, key_divisor}
use Rattle.model_keys.specs.KeyIntegralLaws.{even_monomial, divisor_monomial}
use Rattle.model_types.specs.declared.Term.{Term}
use Rattle.model_types.specs.declared.Model.{Model}
use Rattle.model_types.specs.ModelStruct.{zero_term, view, view_term, listed}
use Rattle.model_types.specs.ModelStructLaws.{read, Limits, key_fits_at, Summed, summed_first, summed_end}
use Rattle.model_types.specs.ModelStructLaws.{summed_more, summed_same, sum_room, within_span, read_within_span}
use Rattle.model_slices.specs.HeldModels.{held}
use Rattle.model_slices.specs.HeldModelsLaws.{pair}
use Rattle.model_places.specs.SlicePlacesLaws.{places_at}
use Rattle.model_places.specs.LeftModels.{Lies}
use Rattle.model_places.specs.LeftModelsLaws.{lies_limits, lies_few, lies_long}
use Rattle.model_integral.specs.IntegralTerms.{TermsIn}

module _ {n count : ℕ} {ks : List ℕ} {cs : List ℤ} (w : TermsIn n count ks cs) where
  abbrev pub integrand : Model
  integrand = held n count w.radius ks cs

  abbrev lies : Lies count w.radius ks cs
  lies = record { vars = n; places = w.places; model = w.model }

  known : Limits integrand
  known = lies_limits lies

  pub few : count ≤ most_terms
  few = lies_few lies

  pub some : 1 ≤ n
  unfolding held
  some = known.some

  pub width : n ≤ key_width
  unfolding held
  width = known.width

  long : integrand.count ≤ length (listed integrand)
  unfolding held
  long = lies_long lies

  -- all its terms
  abbrev pub terms : Terms
  terms = read n count (listed integrand)

  pub terms_small : size terms ≤ span_limit
  unfolding held
  terms_small = omega (arith, known.small, read_within_span integrand count long (omega arith))

  -- ---- one of them
  module _ (i : ℕ) (l : i < count) where
    at_is : get_or (listed integrand) i zero_term ≡ pair (get_or ks i 0) (get_or cs i (pos 0))
    at_is = places_at n count w.radius ks cs w.places i l

    pub coefficient_small : nat_abs (get_or cs i (pos 0)) ≤ span_limit
    unfolding held
    coefficient_small = omega (
      arith,
      known.small,
      within_span integrand i long l,
      ap (λ (t : Term). nat_abs t.coefficient) at_is,
    )

    fits_at : T (key_fits key_width n (get_or ks i 0))
    unfolding held
    fits_at = subst (λ (t : Term). T (key_fits key_width n t.key)) at_is
        (key_fits_at most_degree integrand i (omega arith) w.model long l)

    -- its monomial
    abbrev pub powers : List ℕ
    powers = monomial_of n (get_or ks i 0)

    pub even_at : all_even n powers ≡ key_even (get_or ks i 0)
    even_at = even_monomial n (get_or ks i 0) width fits_at

    pub divisor_at : divisor n powers ≡ key_divisor (get_or ks i 0)
    divisor_at = divisor_monomial n (get_or ks i 0) width fits_at

  -- ---- the sums
  module _ (g : List ℕ → ℤ → ℤ) where
    -- of what the first i terms give
    abbrev pub EvenSum : (total : ℤ) (i : ℕ) → Type 0
    EvenSum total i = Summed ℤ_addition g (λ k c. all_even n k) integrand total i

    pub even_first : EvenSum (pos 0) 0
    even_first = summed_first ℤ_addition g (λ k c. all_even n k) integrand long

    module _ {total : ℤ} {i : ℕ} (s : EvenSum total i) where
      pub even_end : count ≤ i → total ≡ sum_ℤ g (select (λ k c. all_even n k) (view integrand).terms)
      unfolding held
      even_end l = summed_end ℤ_addition g (λ k c. all_even n k) integrand long total i s l

      module _ (l : i < count) where
        given : g (view_term n (get_or (listed integrand) i zero_term)).exponents
            (view_term n (get_or (listed integrand) i zero_term)).coefficient ≡ g (powers i l) (get_or cs i (pos 0))
        unfolding view_term
        given = ap (λ (t : Term). g (monomial_of n t.key) t.coefficient) (at_is i l)

        tested : {b : Bool} → key_even (get_or ks i 0) ≡ b
            → all_even n (view_term n (get_or (listed integrand) i zero_term)).exponents ≡ b
        unfolding view_term
        tested e = ap (λ (t : Term). all_even n (monomial_of n t.key)) (at_is i l) ∙ even_at i l ∙ e

        -- there is room for the next one
        pub even_room : nat_abs total + nat_abs (g (powers i l) (get_or cs i (pos 0))) ≤ sum_ℕ (λ k c. nat_abs (g k c))
            terms
        unfolding held
        even_room = omega (
          arith,
          ap nat_abs s.sum,
          ap nat_abs given,
          sum_room (λ k c. all_even n k) g n i count (listed integrand) l (omega (arith, long)),
        )

        pub even_more : key_even (get_or ks i 0) ≡ true → {next : ℤ}
            → next ≡ total +ℤ g (powers i l) (get_or cs i (pos 0)) → EvenSum next (i + 1)
        unfolding held
        even_more e {next = next} q =
            summed_more ℤ_addition g (λ k c. all_even n k) integrand long total i s l (tested e) next
            (q ∙ ap (λ x. total +ℤ x) (sym given))

        pub even_same : key_even (get_or ks i 0) ≡ false → EvenSum total (i + 1)
        unfolding held
        even_same e = summed_same ℤ_addition g (λ k c. all_even n k) integrand long total i s l (tested e)
