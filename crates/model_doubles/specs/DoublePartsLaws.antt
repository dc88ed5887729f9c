-- What the parts of a double are worth, by the kit's account of IEEE 754.
use Rattle.std.specs.Prelude.{◌≡◌, refl, Bool, true, false, cond, not, ℕ, T, Float}
use Rattle.std.proofs.Common.{sym, ◌∙◌, subst, arith, lit<}
use Rattle.std.specs.Float.{nan, inf, fin, binary64}
use Rattle.std.specs.Float.Ieee.{is_nan, ne, fits, to_bits, of_bits}
use Rattle.std.specs.Float.Ieee.Bits.{of_bits-to_bits}
use Rattle.std.specs.Float.Ieee.Compare.{differs_from_itself, nan_differs}
use Rattle.doubles.specs.Doubles.{is_finite}
use Rattle.doubles.specs.DoubleBits.{all_ones, sign_bit, digits, places}
use Rattle.doubles.proofs.ExactBitsLaws.{bits_finite, bits_value, bits_few, bits_leading}
use Rattle.model_doubles.specs.DoubleParts.{not_finite, parts_of_bits, Worth}

clash : false ≡ true → ⊥
clash e = subst (λ b. T (not b)) e tt

-- ---- what is not finite
nothing : (x : Float) → is_finite x ≡ false → Worth x not_finite
nothing x h = record {
  finite_same = sym h;
  few = lit< tt;
  leading = λ l. absurd (omega arith);
  value = λ e. absurd (clash e);
}

pub worth_of_nan : (x : Float) → ne x x ≡ true → Worth x not_finite
unfolding is_finite
worth_of_nan x h =
    subst (λ (v : Float). Worth v not_finite) (sym (differs_from_itself x (subst T (sym h) tt))) (nothing nan refl)

pub no_nan : (x : Float) → ne x x ≡ false → is_nan x ≡ false
unfolding is_nan
no_nan nan h = absurd (clash (sym h ∙ nan_differs))
no_nan (inf s) h = refl
no_nan (fin s m e) h = refl

-- ---- of any bits
bits_worth : (b : ℕ) → Worth (of_bits binary64 b) (parts_of_bits b)
bits_worth b = go (all_ones b) refl
  where
    go : (y : Bool) → all_ones b ≡ y → Worth (of_bits binary64 b) (cond y not_finite
        (record { finite = true; negative = sign_bit b; digits = digits b; places = places b }))
    go true e = nothing _ (subst (λ y. is_finite (of_bits binary64 b) ≡ not y) e (bits_finite b))
    go false e = record {
      finite_same = sym (subst (λ y. is_finite (of_bits binary64 b) ≡ not y) e (bits_finite b));
      few = bits_few b;
      leading = bits_leading b;
      value = λ f. bits_value b e;
    }

-- a double's bits are worth the double
pub worth_of_bits : (x : Float) → T (fits binary64 x) → Worth x (parts_of_bits (to_bits binary64 x))
worth_of_bits x f =
    subst (λ (v : Float). Worth v (parts_of_bits (to_bits binary64 x))) (of_bits-to_bits binary64 x f) (bits_worth _)
