-- Renamed models: they are sound as before, and their limits, ranges and integrals are those of before.
use Rattle.std.specs.Prelude.{◌≡◌, refl, ◌&&◌, List, ℕ, ◌+◌, ◌*◌, ◌/◌, ◌^◌, ◌+ℤ◌, ◌-ℤ◌, ◌*ℤ◌, length}
use Rattle.std.proofs.Math.Path.{sym, ap, ap₂}
use Rattle.std.proofs.Common.{◌∙◌, arith}
use Rattle.std.proofs.Math.Bool.{Bool, true, false, not}
use Rattle.std.proofs.Math.Dec.{eqb, leb, eqb_refl}
use Rattle.std.proofs.Math.IntN.{ℤ, pos, nat_abs}
use Rattle.std.specs.Int.Signed.{le_z}
use Rattle.polynomial.specs.Integral.{all_even, divisor}
use Rattle.numbers.specs.Fixed.{span_limit}
use Rattle.numbers.specs.Division.{floor, ceiling, remainder}
use Rattle.calculus.specs.Terms.{Terms, select, sum_ℤ, size}
use Rattle.calculus.specs.Model.{Model, most_terms, span, fits}
use Rattle.calculus.specs.Refusal.{accepted, require, over_span, too_many_terms}
use Rattle.calculus.specs.Operations.{limited, is_constant, constant_part, even_powers, can_fall, can_rise, below}
use Rattle.calculus.specs.Operations.{above, range, range_in_box, widen, integral_sum, term_by_term, largest_end}
use Rattle.calculus.specs.Operations.{common_denominator, has_exact, integral_parts, Mixed, zero_mixed, mixed_part}
use Rattle.calculus.specs.Operations.{exact_part, one_if_any, Ends, exact_ends, integral}
use Rattle.calculus.specs.Operations.{largest_value}
use Rattle.calculus_laws.specs.TermsLaws.{every_implies}
use Rattle.calculus_laws.specs.FitsLaws.{fits_length}
use Rattle.calculus_laws.specs.SumLaws.{ℕ_addition, ℤ_addition}
use Rattle.calculus_laws.specs.SoundLaws.{Canonical, Bounded, Sound}
use Rattle.renaming.specs.Reordering.{Reordering, rename, rename_terms, rename_model}
use Rattle.renaming.specs.RenamedAnswerLaws.{rename_answer, require_renamed}
use Rattle.renaming.proofs.RenamedMonomialLaws.{length_rename}
use Rattle.renaming.proofs.SymmetryLaws.{degree_renamed, all_even_renamed, divisor_renamed}
use Rattle.renaming.proofs.RenamedTermsLaws.{InOrder, long, Symmetric, sum_select_symmetric, every_symmetric}
use Rattle.renaming.proofs.RenamedTermsLaws.{length_renamed, size_renamed, renamed_nonzero, renamed_in_order}

-- the terms of a canonical model are in order
pub canonical_in_order : {n d : ℕ} {m : Model} → Canonical n d m → InOrder n m.terms
canonical_in_order {n} {d} {m} h = record {
  all_long = every_implies (λ k c. fits n d k) (λ k c. long n k) (λ k c t. rw (fits_length n d k t) (eqb_refl n))
      m.terms h.fitting;
  all_rising = h.rising_terms;
}

module _ {n : ℕ} (ρ : Reordering n) where
  -- ---- a model is renamed if its terms are
  pub model_renamed : (v e e' : ℕ) (p p' : Terms) → e' ≡ e → p' ≡ rename_terms ρ p
      → ◌≡◌ {A = Model} (record { vars = v; radius = e'; terms = p' })
      (rename_model ρ (record { vars = v; radius = e; terms = p }))
  unfolding rename_model
  model_renamed v e e' p p' h g = λ i. record { vars = v; radius = h i; terms = g i }

  -- ---- soundness
  fits_symmetric : (d : ℕ) → Symmetric ρ (λ k c. fits n d k)
  unfolding fits
  fits_symmetric d k c e = ap₂ (λ a b. eqb a n && leb b d) (length_rename ρ k ∙ sym e) (degree_renamed ρ k e)

  pub canonical_renamed : (d : ℕ) (m : Model) → Canonical n d m → Canonical n d (rename_model ρ m)
  unfolding rename_model
  canonical_renamed d m h = record {
    vars = h.vars;
    fitting = rw (every_symmetric ρ m.terms (canonical_in_order h) (λ k c. fits n d k) (fits_symmetric d))
        h.fitting;
    nonzero_terms = renamed_nonzero ρ m.terms (canonical_in_order h) h.nonzero_terms;
    rising_terms = (renamed_in_order ρ m.terms (canonical_in_order h)).all_rising;
  }

  module _ (m : Model) (h : InOrder n m.terms) where
    pub span_renamed : span (rename_model ρ m) ≡ span m
    unfolding span rename_model
    span_renamed = ap (◌+ m.radius) (size_renamed ρ m.terms h)

    count_renamed : length (rename_model ρ m).terms ≡ length m.terms
    unfolding rename_model
    count_renamed = length_renamed ρ m.terms h

    pub bounded_renamed : Bounded m → Bounded (rename_model ρ m)
    bounded_renamed b = record {
      count = omega (arith, count_renamed, b.count);
      small_span = omega (arith, span_renamed, b.small_span);
    }

    -- the limits accept and refuse as before
    pub limited_renamed : limited (rename_model ρ m) ≡ rename_answer ρ (limited m)
    unfolding limited rename_answer
    limited_renamed = ap₂ (λ a b. require (leb a most_terms) too_many_terms
        (require (leb b span_limit) over_span (accepted (rename_model ρ m)))) count_renamed span_renamed
        ∙ ap (require few too_many_terms) (require_renamed ρ (leb (span m) span_limit) over_span (accepted m))
        ∙ require_renamed ρ few too_many_terms _
      where
        few : Bool
        few = leb (length m.terms) most_terms

  pub sound_renamed : (d : ℕ) (m : Model) → Sound n d m → Sound n d (rename_model ρ m)
  sound_renamed d m s =
      (canonical_renamed d m s.0, bounded_renamed m (canonical_in_order s.0) s.1)

  -- a wider radius is accepted and refused as before
  pub widen_renamed : (e : ℕ) (m : Model) → InOrder n m.terms
      → widen e (rename_model ρ m) ≡ rename_answer ρ (widen e m)
  unfolding widen rename_model
  widen_renamed e m h =
      limited_renamed (record { vars = m.vars; radius = m.radius + e; terms = m.terms }) h

  -- ---- the range
  pub constant_symmetric : Symmetric ρ (λ k c. is_constant k)
  unfolding is_constant
  constant_symmetric k c e = ap (λ a. eqb a 0) (degree_renamed ρ k e)

  constant_part_renamed : (m : Model) → InOrder n m.terms → constant_part (rename_model ρ m) ≡ constant_part m
  unfolding constant_part rename_model
  constant_part_renamed m h = sum_select_symmetric ρ m.terms h ℤ_addition (λ k c. c) (λ k c e. refl)
      (λ k c. is_constant k) constant_symmetric

  even_powers_renamed : (k : List ℕ) → length k ≡ n → even_powers (rename ρ k) ≡ even_powers k
  unfolding even_powers
  even_powers_renamed k e = ap (λ a. all_even a (rename ρ k)) (length_rename ρ k) ∙ all_even_renamed ρ k
      ∙ ap (λ a. all_even a k) (sym e)

  fall_symmetric : Symmetric ρ can_fall
  unfolding can_fall
  fall_symmetric k c e = ap₂ (λ a b. not a && not (b && le_z (pos 0) c)) (constant_symmetric k c e)
      (even_powers_renamed k e)

  rise_symmetric : Symmetric ρ can_rise
  unfolding can_rise
  rise_symmetric k c e = ap₂ (λ a b. not a && not (b && le_z c (pos 0))) (constant_symmetric k c e)
      (even_powers_renamed k e)

  -- the sum of the |c| that a symmetric test selects
  pub selected_size : (f : List ℕ → ℤ → Bool) → Symmetric ρ f → (m : Model) → InOrder n m.terms
      → size (select f (rename_terms ρ m.terms)) ≡ size (select f m.terms)
  unfolding size
  selected_size f s m h = sum_select_symmetric ρ m.terms h ℕ_addition (λ k c. nat_abs c) (λ k c e. refl) f s

  below_renamed : (m : Model) → InOrder n m.terms → below (rename_model ρ m) ≡ below m
  unfolding below rename_model
  below_renamed m h = ap (◌+ m.radius) (selected_size can_fall fall_symmetric m h)

  above_renamed : (m : Model) → InOrder n m.terms → above (rename_model ρ m) ≡ above m
  unfolding above rename_model
  above_renamed m h = ap (◌+ m.radius) (selected_size can_rise rise_symmetric m h)

  pub range_renamed : (m : Model) → InOrder n m.terms → range (rename_model ρ m) ≡ range m
  unfolding range
  range_renamed m h = rw (constant_part_renamed m h, below_renamed m h, above_renamed m h)

  pub largest_value_renamed : (m : Model) → InOrder n m.terms → largest_value (rename_model ρ m) ≡ largest_value m
  unfolding largest_value
  largest_value_renamed m h = ap largest_end (range_renamed m h)

  pub range_in_box_renamed : (m : Model) → InOrder n m.terms → range_in_box (rename_model ρ m) ≡ range_in_box m
  unfolding range_in_box
  range_in_box_renamed m h = rw (range_renamed m h)

  -- ---- the integral
  -- a sum over the terms whose exponents are all even, of what asks only for the divisor
  even_sum_renamed : (rule : ℤ → ℕ → ℤ) (m : Model) → m.vars ≡ n → InOrder n m.terms
      → sum_ℤ (λ k c. rule c (divisor m.vars k)) (select (λ k c. all_even m.vars k) (rename_terms ρ m.terms))
      ≡ sum_ℤ (λ k c. rule c (divisor m.vars k)) (select (λ k c. all_even m.vars k) m.terms)
  even_sum_renamed rule m v h = sum_select_symmetric ρ m.terms h ℤ_addition
      (λ k c. rule c (divisor m.vars k)) (λ k c e. ap (rule c) (rw v (divisor_renamed ρ k)))
      (λ k c. all_even m.vars k) (λ k c e. rw v (all_even_renamed ρ k))

  -- with its remainder, over one denominator
  mixed_part_renamed : (m : Model) → m.vars ≡ n → InOrder n m.terms
      → mixed_part (rename_model ρ m) ≡ mixed_part m
  unfolding mixed_part integral_parts rename_model
  mixed_part_renamed m v h = ap
      (λ z. record { quotient = floor z common_denominator; remainder = remainder z common_denominator })
      (even_sum_renamed (λ c d. c *ℤ pos (2 ^ m.vars * (common_denominator / d))) m v h)

  -- above four variables 0
  pub exact_part_renamed : (m : Model) → m.vars ≡ n → InOrder n m.terms
      → exact_part (rename_model ρ m) ≡ exact_part m
  unfolding exact_part rename_model
  exact_part_renamed m v h =
      ap (λ x. elim (has_exact m.vars) as (λ b. Mixed) [ true ↦ x | false ↦ zero_mixed ]) (mixed_part_renamed m v h)

  exact_ends_renamed : (m : Model) → m.vars ≡ n → InOrder n m.terms
      → exact_ends (rename_model ρ m) ≡ exact_ends m
  exact_ends_renamed m v h = unfold exact_ends rename_model in
      ap (λ x. record { low = x.quotient -ℤ around; high = x.quotient +ℤ around +ℤ pos (one_if_any x.remainder) })
      (unfold rename_model in mixed_part_renamed m v h)
    where
      around : ℤ
      around = pos (2 ^ m.vars * m.radius)

  -- term by term
  pub term_by_term_renamed : (m : Model) → m.vars ≡ n → InOrder n m.terms
      → term_by_term (rename_model ρ m) ≡ term_by_term m
  unfolding term_by_term integral_sum rename_model
  term_by_term_renamed m v h = ap₂ (λ low high. record { low = low -ℤ around; high = high +ℤ around })
      (even_sum_renamed (λ c d. floor (c *ℤ pos (2 ^ m.vars)) d) m v h)
      (even_sum_renamed (λ c d. ceiling (c *ℤ pos (2 ^ m.vars)) d) m v h)
    where
      around : ℤ
      around = pos (2 ^ m.vars * m.radius)

  -- by the number of variables
  pub integral_renamed : (m : Model) → m.vars ≡ n → InOrder n m.terms → integral (rename_model ρ m) ≡ integral m
  unfolding integral rename_model
  integral_renamed m v h = ap₂ (λ x y. elim (has_exact m.vars) as (λ b. Ends) [ true ↦ x | false ↦ y ])
      (exact_ends_renamed m v h) (term_by_term_renamed m v h)
