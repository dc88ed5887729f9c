-- Facts beside the range. It cannot be narrower: both ends of one even power are attained. And books that the symmetric
-- range refused, a substitution and a quotient, run, with everything that the claim asks for. First, what comes of the
-- range alone: not every answer meets the claim.
use Rattle.std.specs.Prelude.{◌≡◌, Bool, ◌&&◌, [], ◌∷◌, ltb, ℤ, negsuc, ◌+ℤ◌, nat_abs}
use Rattle.std.proofs.Math.Path.{refl, ap, ap₂, subst}
use Rattle.std.proofs.Common.{sym, ◌∙◌}
use Rattle.std.proofs.Math.Bool.{true, false, not}
use Prim.Native.Nat.{ℕ, zero, suc, ◌+◌, ◌≤◌}
use native.Mathlib.Omega.{arith}
use borrow.Author.Tests.{ne_eqb}
use Rattle.std.proofs.Math.Dec.{leb-zero, leb-suc-zero}
use Rattle.std.proofs.Math.IntN.{pos, neg_ℤ}
use Rattle.std.specs.Int.Signed.{le_z}
use Rattle.algebra.specs.Ring.{pow}
use Rattle.algebra.specs.RingLaws.{zero-+, zero-*, pow_one}
use Rattle.algebra.specs.RingSolver.{𝟎, 𝟏, ◌⊞◌, ◌⊠◌, ring}
use Rattle.algebra.specs.Ordered.{abs}
use Rattle.algebra.specs.IntegerRing.{ℤR}
use Rattle.algebra.proofs.Rational.{◌+ℚ◌, ◌*ℚ◌, whole}
use Rattle.algebra.proofs.RationalRing.{ℚR}
use Rattle.algebra.proofs.RationalOrder.{ℚO}
use Rattle.algebra.proofs.RationalLaws.{≤-whole}
use Rattle.polynomial.specs.Polynomial.{monomial}
use Rattle.polynomial.specs.Box.{none, more}
use Rattle.polynomial.specs.Integral.{even, first, rest, all_even}
use Rattle.numbers.specs.Fixed.{U}
use Rattle.calculus.specs.Monomial.{degree}
use Rattle.calculus.specs.Terms.{term, sum_over}
use Rattle.calculus.specs.Model.{Model, zero_model, one_model, ◌-ℚ◌, Point, InBox, value, Within}
use Rattle.calculus.specs.Refusal.{accepted, done}
use Rattle.calculus.specs.Operations.{Ends, zero_ends, zero_mixed, is_constant, constant_part, even_powers, can_fall, can_rise, below}
use Rattle.calculus.specs.Operations.{above, range, deviation, largest_end}
use Rattle.calculus.specs.Book.{input, constant, variable, multiply, substitute, quotient, Book, summary, run}
use Rattle.calculus.specs.Functions.{Function, Lies}
use Rattle.claim.specs.Outcome.{functions}
use Rattle.claim.specs.Claim.{Given, Claim}
use Rattle.calculus.specs.Forms.{at_key, model, book, ends, minus, forms}
use Rattle.calculus.specs.Computing.{runs}
use Rattle.claim.specs.Computing.{promises}
use Rattle.calculus.specs.SymmetricRange.{variation, symmetric_range, symmetric_in_box}
use Rattle.calculus_laws.specs.UnitLaws.{natural, natural_≤, natural_nonneg, abs_whole}
use Rattle.calculus_laws.specs.ValueLaws.{scaled_value, Near, U_value, near_at, abs_zero}
use Rattle.calculus_laws.specs.SumLaws.{ℕ_addition, if_ℤ, if_so}
use Rattle.calculus_laws.specs.RangeLaws.{steady_sum, below_sum, above_sum}
use Rattle.calculus_laws.specs.RangeInsideLaws.{Inside}
use Rattle.claim.proofs.ClaimFacts.{one_step, range_refutes}
use Rattle.claim.proofs.ClaimProof.{claim}
use Rattle.claim.proofs.JumpFacts.{Jump, jumping, jumping_within, left, left_inside}
use Rattle.calculus_laws.specs.ChainLaws.{◌≤≤◌, ◌≡≤◌, ◌≤≡◌, equal}
open ℚR use {+-neg}

-- ---- the zero model with ends 0 is not the answer to every book
pub claim_refuted : Claim (one_step 1 [])
    (record { model = zero_model 1; range = zero_ends; integral = zero_ends; exact = zero_mixed })
    → ⊥
claim_refuted = range_refutes 1 (zero_model 1) zero_ends zero_mixed

-- ---- both ends of one even power are attained
-- c x^e, in units of 1/U, radius 0
unfoldable pub power : (c : ℤ) (e : ℕ) → Model
power c e = record { vars = 1; radius = 0; terms = term c (e ∷ []) ∷ [] }

-- the smaller of 0 and c
unfoldable pub smaller : ℤ → ℤ
smaller (pos n) = pos 0
smaller (negsuc n) = negsuc n

-- the larger of 0 and c
unfoldable pub larger : ℤ → ℤ
larger (pos n) = pos n
larger (negsuc n) = pos 0

-- U times the value of the model's own polynomial is z at a point of the box
pub record Attained (m : Model) (z : ℤ) : Type 0 where
  pub point : Point
  pub inside : InBox m.vars point
  pub reached : natural U *ℚ value m point ≡ whole z

zero_power : (e : ℕ) → 1 ≤ e → pow ℚR (natural 0) e ≡ natural 0
unfolding pow
zero_power zero l = absurd (omega arith)
zero_power (suc e) l = zero-* ℚR (pow ℚR (natural 0) e)

-- a model's own polynomial is within it
value_within : (m : Model) → Within (value m) m
unfolding Within Near
value_within m x b = near_at m x (value m x)
    (ap (λ v. abs ℚO (v -ℚ scaled_value m.terms x)) (U_value m x) ∙ ap (abs ℚO) (+-neg _)
    ≡≤ abs_zero
    ≤≤ natural_nonneg m.radius)

module _ (e : ℕ) (some : 1 ≤ e) (h : even e ≡ true) where
  not_constant : is_constant (e ∷ []) ≡ false
  unfolding is_constant degree
  not_constant = ne_eqb (e + 0) 0 (λ z. omega (arith, some, z))

  all_are_even : even_powers (e ∷ []) ≡ true
  unfolding even_powers all_even first rest
  all_are_even = ap (λ b. elim b as (λ b. Bool) [ true ↦ true | false ↦ false ]) h

  -- its range is from the one to the other
  no_constant : (c : ℤ) → constant_part (power c e) ≡ pos 0
  unfolding power sum_over if_so
  no_constant c = steady_sum (power c e) ∙ ap (λ a. if_ℤ a c +ℤ pos 0) not_constant

  falls : (c : ℤ) → below (power c e) ≡ if_so ℕ_addition (not (le_z (pos 0) c)) (nat_abs c) + 0 + 0
  unfolding power sum_over can_fall
  falls c = below_sum (power c e)
      ∙ ap₂ (λ a b. if_so ℕ_addition (not a && not (b && le_z (pos 0) c)) (nat_abs c) + 0 + 0) not_constant all_are_even

  rises : (c : ℤ) → above (power c e) ≡ if_so ℕ_addition (not (le_z c (pos 0))) (nat_abs c) + 0 + 0
  unfolding power sum_over can_rise
  rises c = above_sum (power c e)
      ∙ ap₂ (λ a b. if_so ℕ_addition (not a && not (b && le_z c (pos 0))) (nat_abs c) + 0 + 0) not_constant all_are_even

  pub power_range : (c : ℤ) → range (power c e) ≡ record { low = smaller c; high = larger c }
  unfolding range smaller larger if_so
  power_range (pos zero) = rw (no_constant (pos 0), falls (pos 0), rises (pos 0)) refl
  power_range (pos (suc n)) =
      let z : 0 + (suc n + 0 + 0) ≡ suc n = omega arith in
      rw (
        no_constant (pos (suc n)),
        falls (pos (suc n)),
        rises (pos (suc n)),
        leb-zero (suc n),
        leb-suc-zero n,
      )
      (ap (λ i. record { low = pos 0; high = pos i }) z)
  power_range (negsuc n) =
      let z : suc n + 0 + 0 ≡ suc n = omega arith in
      rw (no_constant (negsuc n), falls (negsuc n), rises (negsuc n))
      (ap (λ i. record { low = pos 0 +ℤ neg_ℤ (pos i); high = pos 0 }) z
      ∙ ap (λ l. record { low = l; high = pos 0 }) (zero-+ ℤR (negsuc n)))

  -- at 0 its value is 0, at 1 it is c
  at_zero : (c : ℤ) → Attained (power c e) (pos 0)
  unfolding power scaled_value sum_over monomial
  at_zero c = record {
    point = natural 0 ∷ [];
    inside = more (abs_zero ≤≤ natural_≤ 0 1 (omega arith)) none;
    reached = U_value (power c e) (natural 0 ∷ [])
        ∙ ap (λ p. whole c *ℚ (p *ℚ natural 1) +ℚ natural 0) (zero_power e some)
        ∙ ring 1 ℚR (λ c. c ⊠ (𝟎 ⊠ 𝟏) ⊞ 𝟎) (λ c. 𝟎) refl (whole c);
  }

  at_one : (c : ℤ) → Attained (power c e) c
  unfolding power scaled_value sum_over monomial
  at_one c = record {
    point = natural 1 ∷ [];
    inside = more (equal (abs_whole (pos 1))) none;
    reached = U_value (power c e) (natural 1 ∷ []) ∙ ap (λ p. whole c *ℚ (p *ℚ natural 1) +ℚ natural 0) (pow_one ℚR e)
        ∙ ring 1 ℚR (λ c. c ⊠ (𝟏 ⊠ 𝟏) ⊞ 𝟎) (λ c. c) refl (whole c);
  }

  -- both ends of its range are attained
  pub low_attained : (c : ℤ) → Attained (power c e) (range (power c e)).low
  unfolding smaller
  low_attained c = subst (λ (r : Ends). Attained (power c e) r.low) (sym (power_range c)) (go c)
    where
      go : (c : ℤ) → Attained (power c e) (smaller c)
      go (pos n) = at_zero (pos n)
      go (negsuc n) = at_one (negsuc n)

  pub high_attained : (c : ℤ) → Attained (power c e) (range (power c e)).high
  unfolding larger
  high_attained c = subst (λ (r : Ends). Attained (power c e) r.high) (sym (power_range c)) (go c)
    where
      go : (c : ℤ) → Attained (power c e) (larger c)
      go (pos n) = at_one (pos n)
      go (negsuc n) = at_zero (negsuc n)

  -- so ends that hold every function within the model hold its range
  pub power_narrowest : (c : ℤ) (r : Ends)
      → ((f : Function) → Within f (power c e) → (x : Point) → InBox 1 x → Lies (f x) r)
      → Inside (range (power c e)) r
  power_narrowest c r hold = record {
    low = ≤-whole r.low _
        ((hold (value m) (value_within m) l.point (unfold power in l.inside)).from ≤≡ l.reached);
    high = ≤-whole _ r.high
        (sym u.reached ≡≤ (hold (value m) (value_within m) u.point (unfold power in u.inside)).to);
  }
    where
      m : Model
      m = power c e

      l : Attained m (range m).low
      l = low_attained c

      u : Attained m (range m).high
      u = high_attained c

-- ---- a book that the symmetric range refused with 9
-- 2x^2 - 1, made so much smaller that with the radius 3 it just stays in the box
unfoldable pub folding : Model
folding = model 1 3 (at_key 1 0x0000 (minus 1048573) ∷ at_key 1 0x2000 (pos 2097146) ∷ [])

-- a function within it, put in for x in x^2
unfoldable pub folded : Book
folded = book 1 4 (folding ∷ []) (variable 1 ∷ multiply 0 0 ∷ input 0 ∷ substitute 1 2 1 ∷ [])

-- its result: 1 - 4x^2 + 4x^4, smaller by as much, radius 19
unfoldable pub folded_result : Model
folded_result = model 1 19
    (at_key 1 0x0000 (pos 1048570) ∷ at_key 1 0x2000 (minus 4194280) ∷ at_key 1 0x4000 (pos 4194280) ∷ [])

-- by the symmetric range what is put in reaches below -U and leaves the box
pub folding_refused : symmetric_in_box folding ≡ false
unfolding runs forms symmetric_in_box symmetric_range variation folding
folding_refused = refl

-- it reaches from -U to U
pub folding_range : range folding ≡ ends (minus U) (pos U)
unfolding runs forms folding
folding_range = refl

-- and the book runs to its end
pub folded_runs : run folded ≡ done (summary folded_result)
unfolding runs forms folding folded folded_result
folded_runs = refl

-- so the claim holds of it
pub folded_claim : Claim folded (summary folded_result)
folded_claim = claim folded (summary folded_result) folded_runs

-- and what it asks for is there: functions within the model, also such as are no polynomials, and a point
pub folded_given : (j : Jump) → Given folded (functions (jumping j folded)) left
folded_given j = record {
  inputs = jumping_within j folded;
  as_promised = unfold promises folded forms in tt;
  point = unfold folded forms in left_inside;
}

-- ---- a book that it refused with 12
-- 7/4 - 3/2 x^2, from 1/4 to 7/4: what is divided by
unfoldable pub bending : Model
bending = model 1 0 (at_key 1 0x0000 (pos 1835008) ∷ at_key 1 0x2000 (minus 1572864) ∷ [])

-- a function of at most 3/U divided by it; the proposal is 0 for the quotient and 1 for the inverse
unfoldable pub bent : Book
bent = book 1 2 (model 1 3 [] ∷ bending ∷ [])
    (input 0 ∷ input 1 ∷ constant (pos 0) ∷ constant (pos U) ∷ quotient 0 1 2 3 ∷ [])

-- 1 - w g, which is -3/4 + 3/2 x^2, from -3/4 to 3/4
unfoldable pub bent_form : Model
bent_form = model 1 0 (at_key 1 0x0000 (minus 786432) ∷ at_key 1 0x2000 (pos 1572864) ∷ [])

-- the result: no terms, radius 3 × U / (U - 3/4 U)
unfoldable pub bent_result : Model
bent_result = model 1 12 []

-- its second form
pub bent_deviates : deviation 2 bending (one_model 1) ≡ accepted bent_form
unfolding runs forms bending bent_form
bent_deviates = refl

-- by the symmetric range that form reaches the unit, so that mu certifies nothing
pub bent_refused : ltb (largest_end (symmetric_range bent_form)) U ≡ false
unfolding runs forms symmetric_range variation bent_form
bent_refused = refl

-- and the book runs to its end
pub bent_runs : run bent ≡ done (summary bent_result)
unfolding runs forms bending bent bent_result
bent_runs = refl

-- so the claim holds of it
pub bent_claim : Claim bent (summary bent_result)
bent_claim = claim bent (summary bent_result) bent_runs

-- and what it asks for is there
pub bent_given : (j : Jump) → Given bent (functions (jumping j bent)) left
bent_given j = record {
  inputs = jumping_within j bent;
  as_promised = unfold promises bent forms in tt;
  point = unfold bent forms in left_inside;
}
