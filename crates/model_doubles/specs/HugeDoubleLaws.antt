-- A double that is so large that it exceeds the span by itself: 7 without computing.
use Rattle.std.specs.Prelude.{◌≡◌, refl, true, [], ◌∷◌, ℕ, ◌+◌, ◌-◌, ◌*◌, ◌^◌, ◌<◌, Float, ℤ}
use Rattle.std.proofs.Math.Path.{sym, ap}
use Rattle.std.proofs.Common.{◌∙◌, subst, lit<, pow-add, pow_pos}
use Rattle.std.proofs.Math.Nat as NatL
use native.Mathlib.Omega.{arith}
use Rattle.std.proofs.lemmas.Bool.{lt-leb}
use Rattle.std.proofs.Math.IntN.{nat_abs}
use Rattle.algebra.specs.IntegerRing.{ℤR}
use Rattle.numbers.specs.Division.{nearest}
use Rattle.numbers.proofs.DivisionLaws.{divided_up_ok}
use Rattle.numbers.proofs.NearestLaws.{nearest_exact}
use Rattle.numbers.specs.Fixed.{U, span_limit}
use Rattle.numbers.proofs.FixedLaws.{span_four_bytes}
use Rattle.calculus.specs.Terms.{term, size, sum_over}
use Rattle.calculus_laws.specs.SumLaws.{ℕ_addition, sum_drop_zeros}
use Rattle.calculus.specs.Model.{span}
use Rattle.calculus.specs.Refusal.{refused, over_span, require}
use Rattle.calculus.specs.Operations.{limited}
use Rattle.doubles.specs.Doubles.{signed, coefficient, radius_up, model_of}
use Rattle.doubles.specs.DoubleBits.{smallest_in_one}
use Rattle.doubles.specs.ExactFractionLaws.{signed_size, coefficient_is, radius_is}
use Rattle.model_limits.specs.LimitLaws.{limited_few}
use Rattle.model_doubles.specs.declared.Parts.{Parts}
use Rattle.model_doubles.specs.DoubleParts.{Worth, point}
use Rattle.model_doubles.specs.ScaledPartsLaws.{U_point}
use Rattle.model_doubles.specs.ThreeTermLaws.{few}

module _ (x : Float) (p : Parts) (w : Worth x p) (f : p.finite ≡ true) (h : point < p.places) where
  -- U times the value is a whole number
  whole_number : ℕ
  whole_number = p.digits * 2 ^ (p.places - point)

  is_whole : p.digits * 2 ^ p.places * U * 1 ≡ whole_number * smallest_in_one
  unfolding whole_number
  is_whole =
      let k : p.places ≡ p.places - point + point = omega arith in
      NatL.mul-one (p.digits * 2 ^ p.places * U)
      ∙ NatL.mul_assoc p.digits (2 ^ p.places) U
      ∙ ap (λ i. p.digits * i) (ap (λ i. 2 ^ i * U) k ∙ ap (λ i. i * U) (pow-add 2 (p.places - point) point)
      ∙ NatL.mul_assoc (2 ^ (p.places - point)) (2 ^ point) U
      ∙ ap (λ i. 2 ^ (p.places - point) * i) (NatL.mul_comm (2 ^ point) U ∙ U_point))
      ∙ sym (NatL.mul_assoc p.digits (2 ^ (p.places - point)) smallest_in_one)

  -- above the span limit
  large : span_limit < whole_number
  unfolding whole_number
  large = omega (
    arith,
    span_four_bytes,
    w.leading (omega arith),
    NatL.mul-le-mul_left p.digits (pow_pos (p.places - point)),
  )

  pub huge_coefficient : span_limit < nat_abs (coefficient x)
  huge_coefficient = subst (λ i. span_limit < i) (sym (ap nat_abs
      (coefficient_is _ smallest_in_one whole_number 1 (pow_pos 1074) (lit< tt) is_whole x p.negative (w.value f)
      ∙ ap (λ z. nearest z 1) (sym (ℤR.*-one (signed p.negative whole_number)))
      ∙ nearest_exact (signed p.negative whole_number) 1 (lit< tt))
      ∙ signed_size p.negative whole_number)) large

  pub huge_radius : span_limit < radius_up x
  huge_radius = omega (
    arith,
    large,
    radius_is _ smallest_in_one whole_number 1 (pow_pos 1074) (lit< tt) is_whole x p.negative (w.value f),
    divided_up_ok whole_number 1 (lit< tt),
  )

-- ---- the span of the model
module _ (c0 c1 c2 : ℤ) (e : ℕ) where
  pub span_of : span (model_of c0 c1 c2 e) ≡ nat_abs c0 + (nat_abs c1 + (nat_abs c2 + 0)) + e
  unfolding span model_of size sum_over
  span_of = ap (λ s. s + e) (sum_drop_zeros ℕ_addition (λ k c. nat_abs c) (λ k. refl)
      (term c0 (0 ∷ []) ∷ term c1 (1 ∷ []) ∷ term c2 (2 ∷ []) ∷ []))

  pub over : span_limit < nat_abs c0 + nat_abs c1 + nat_abs c2 + e → limited (model_of c0 c1 c2 e) ≡ refused over_span
  unfolding require
  over l = limited_few (model_of c0 c1 c2 e) (few c0 c1 c2 e)
      ∙ rw (lt-leb (span (model_of c0 c1 c2 e)) span_limit (omega (arith, span_of)))
