-- A loop that counts what the terms add to the three parts of a range.
use Rattle.std.specs.Prelude.{◌≡◌, refl, Bool, true, false, ◌&&◌, List, ℕ, ◌+◌, ◌≤◌, ◌<◌, T, eqb, ℤ, pos, ◌+ℤ◌, length, get_or}
use Rattle.std.proofs.Common.{sym, ◌∙◌}
use Rattle.std.proofs.Math.Path.{ap, ap₂}
use Rattle.std.proofs.Math.Bool.{not}
use native.Mathlib.Omega.{arith}
use Rattle.std.proofs.Math.IntN.{nat_abs}
use Rattle.std.specs.Int.Signed.{le_z}
use Rattle.calculus.specs.Key.{key_width, key_fits, monomial_of}
use Rattle.calculus_laws.specs.MonomialKeyLaws.{fits_below, constant_monomial}
use Rattle.calculus.specs.Terms.{size}
use Rattle.calculus_laws.specs.SumLaws.{ℕ_addition, ℤ_addition, if_ℤ, if_so}
use Rattle.calculus.specs.Model.{most_degree, span, sound}
use Rattle.calculus.specs.Operations.{is_constant, constant_part, even_powers, can_fall, can_rise, below, above}
use Rattle.model_keys.specs.Keys.{key_even}
use Rattle.model_keys.specs.KeyIntegralLaws.{even_exponents}
use Rattle.model_types.specs.declared.Model.{Model}
use Rattle.model_types.specs.declared.Term.{Term}
use Rattle.model_types.specs.ModelStruct.{zero_term, view, view_term, listed}
use Rattle.model_types.specs.ModelStructLaws.{read, limits, key_fits_at, Summed, summed_first, summed_end}
use Rattle.model_types.specs.ModelStructLaws.{summed_iteration, sum_room, sum_select_le, read_within_span}
use Rattle.model_range.specs.KeyRange.{key_steady, key_fall, key_rise}

-- the sums over the first i terms
pub record Counted (m : Model) (middle : ℤ) (below above i : ℕ) : Type 0 where
  pub in_middle : Summed ℤ_addition (λ k c. c) (λ k c. is_constant k) m middle i
  pub in_below : Summed ℕ_addition (λ k c. nat_abs c) can_fall m below i
  pub in_above : Summed ℕ_addition (λ k c. nat_abs c) can_rise m above i

-- a coefficient or 0 is no larger than the coefficient
part_size : (b : Bool) (c : ℤ) → nat_abs (if_ℤ b c) ≤ nat_abs c
unfolding if_so
part_size true c = omega arith
part_size false c = omega arith

module _ (m : Model) (h : T (sound most_degree (view m))) (w : m.count ≤ length (listed m)) where
  pub counted_first : Counted m (pos 0) 0 0 0
  counted_first = record {
    in_middle = summed_first ℤ_addition _ _ m w;
    in_below = summed_first ℕ_addition _ _ m w;
    in_above = summed_first ℕ_addition _ _ m w;
  }

  -- a sum of sizes is within the span, with the radius
  sizes_small : (f : List ℕ → ℤ → Bool) (total i : ℕ) → Summed ℕ_addition (λ k c. nat_abs c) f m total i
      → total + m.radius ≤ span (view m)
  unfolding size
  sizes_small f total i s = omega (
    arith,
    s.sum,
    sum_select_le (λ k c. nat_abs c) f (read m.n i (listed m)),
    read_within_span m i w s.within,
  )

  module _ (z : ℤ) (b a i : ℕ) (s : Counted m z b a i) where
    pub middle_end : m.count ≤ i → z ≡ constant_part (view m)
    unfolding constant_part
    middle_end l = summed_end ℤ_addition _ _ m w z i s.in_middle l

    pub below_end : m.count ≤ i → b + m.radius ≡ below (view m)
    unfolding below size view
    below_end l = ap (λ x. x + m.radius) (summed_end ℕ_addition _ _ m w b i s.in_below l)

    pub above_end : m.count ≤ i → a + m.radius ≡ above (view m)
    unfolding above size view
    above_end l = ap (λ x. x + m.radius) (summed_end ℕ_addition _ _ m w a i s.in_above l)

    module _ (l : i < m.count) where
      abbrev at : Term
      at = get_or (listed m) i zero_term

      fits : T (key_fits key_width m.n at.key)
      fits = key_fits_at most_degree m i (omega arith) h w l

      constant_key : is_constant (monomial_of m.n at.key) ≡ eqb at.key 0
      constant_key = constant_monomial m.n at.key (limits most_degree m h).width
          (fits_below m.n at.key fits)

      even_key : even_powers (monomial_of m.n at.key) ≡ key_even at.key
      unfolding even_powers
      even_key = even_exponents m.n at.key (limits most_degree m h).width fits

      -- the coefficient fits beside the sum
      pub steady_room : nat_abs z + nat_abs (key_steady at.key at.coefficient) ≤ span (view m)
      unfolding key_steady size view_term
      steady_room = omega (
        arith,
        ap nat_abs s.in_middle.sum,
        part_size (eqb at.key 0) at.coefficient,
        sum_room (λ k c. is_constant k) (λ k c. c) m.n i m.count (listed m) l (omega arith),
        read_within_span m m.count w (omega arith),
      )

      pub counted_iteration : (z' : ℤ) (b' a' : ℕ) → z' ≡ z +ℤ key_steady at.key at.coefficient
          → b' ≡ b + key_fall at.key at.coefficient → a' ≡ a + key_rise at.key at.coefficient
          → Counted m z' b' a' (i + 1)
      unfolding key_steady key_fall key_rise can_fall can_rise view_term
      counted_iteration z' b' a' ez eb ea = record {
        in_middle = summed_iteration ℤ_addition _ _ m w z i s.in_middle l z'
            (ez ∙ ap (λ t. z +ℤ if_ℤ t at.coefficient) (sym constant_key));
        in_below = summed_iteration ℕ_addition _ _ m w b i s.in_below l b'
            (eb ∙ ap₂ (λ t e. b + if_so ℕ_addition (not t && not (e && le_z (pos 0) at.coefficient))
            (nat_abs at.coefficient)) (sym constant_key) (sym even_key));
        in_above = summed_iteration ℕ_addition _ _ m w a i s.in_above l a'
            (ea ∙ ap₂ (λ t e. a + if_so ℕ_addition (not t && not (e && le_z at.coefficient (pos 0)))
            (nat_abs at.coefficient)) (sym constant_key) (sym even_key));
      }

      -- so what is below and above with this term is within the span too
      pub fall_room : b + key_fall at.key at.coefficient ≤ span (view m)
      fall_room = omega (arith, sizes_small can_fall _ (i + 1) (counted_iteration _ _ _ refl refl refl).in_below)

      pub rise_room : a + key_rise at.key at.coefficient ≤ span (view m)
      rise_room = omega (arith, sizes_small can_rise _ (i + 1) (counted_iteration _ _ _ refl refl refl).in_above)
