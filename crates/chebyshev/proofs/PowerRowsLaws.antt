-- The values of the rows, and of sums of multiples of them.
use Rattle.std.specs.Prelude.{◌≡◌, pos, length}
use Rattle.std.proofs.Math.Path.{refl, sym, ap, ap₂}
use Rattle.std.proofs.Common.{◌∙◌, arith}
use mathlib.Core.List.{List, [], ◌∷◌}
use Prim.Native.Nat.{ℕ, zero, suc}
use Prim.Native.Nat as N
use Rattle.algebra.specs.Ring.{Ring, pow}
use Rattle.chebyshev.specs.RingIntegers.{int}
use Rattle.algebra.specs.RingLaws.{nat_zero, nat_one, nat_add}
use Rattle.chebyshev.specs.RingIntegersLaws.{int_pos}
use Rattle.algebra.specs.RingSolver.{𝟎, 𝟏, ◌⊞◌, ◌⊟◌, ◌⊠◌, ring}
use Rattle.chebyshev.specs.Recurrence.{chebyshev}
use Rattle.chebyshev.specs.RecurrenceLaws.{chebyshev_zero, chebyshev_one, chebyshev_next}
use Rattle.chebyshev.specs.Coefficients.{Row, scale, value}
use Rattle.chebyshev.proofs.CoefficientsLaws.{value_nil, value_cons, value_sum, value_scale, value_negated}
use Rattle.chebyshev.proofs.CoefficientsLaws.{value_zeros, value_shifted}
use Rattle.chebyshev.specs.PowerRows.{places, zeros, powers_of, rows_from, combine}

module _ (R : Ring) where
  open R use {Carrier, 0#, 1#, ◌+◌, ◌*◌, neg, +-zero, *-one}

  infixl 60 ◌+◌
  infixl 70 ◌*◌
  int_one : int R (pos 1) ≡ 1#
  int_one = int_pos R 1 ∙ nat_one R

  int_two : int R (pos 2) ≡ 1# + 1#
  int_two = int_pos R 2 ∙ nat_add R 1 1 ∙ ap₂ ◌+◌ (nat_one R) (nat_one R)

  int_none : int R (pos 0) ≡ 0#
  int_none = int_pos R 0 ∙ nat_zero R

  pub zeros_value : (w : ℕ → Carrier) → value R w 0 zeros ≡ 0#
  unfolding zeros
  zeros_value w = value_zeros R w 0 places

  -- x times a row
  times_x : (x : Carrier) (p : Row) → value R (pow R x) 0 (pos 0 ∷ p) ≡ x * value R (pow R x) 0 p
  times_x x p = value_cons R (pow R x) 0 (pos 0) p
      ∙ ap₂ (λ c v. c * pow R x 0 + v) int_none (value_shifted R x 0 p)
      ∙ ring 2 R (λ w v. 𝟎 ⊠ w ⊞ v) (λ w v. v) refl (pow R x 0) (x * value R (pow R x) 0 p)

  -- the row of the constant 1
  one_value : (x : Carrier) → value R (pow R x) 0 (pos 1 ∷ []) ≡ 1#
  unfolding value pow
  one_value x = ap (λ c. c * 1# + 0#) int_one ∙ ring 0 R (𝟏 ⊠ 𝟏 ⊞ 𝟎) 𝟏 refl

  -- the row of T_k has its value
  pub powers_of_value : (x : Carrier) (k : ℕ) → value R (pow R x) 0 (powers_of k) ≡ chebyshev R x k
  unfolding powers_of
  powers_of_value x zero = one_value x ∙ sym (chebyshev_zero R x)
  powers_of_value x (suc zero) = times_x x (pos 1 ∷ []) ∙ ap (λ v. x * v) (one_value x) ∙ *-one x
      ∙ sym (chebyshev_one R x)
  powers_of_value x (suc (suc k)) = value_sum R (pow R x) 0 (scale (pos 2) (pos 0 ∷ powers_of (suc k))) _
      ∙ ap₂ ◌+◌ (value_scale R (pow R x) 0 (pos 2) _ ∙ ap₂ ◌*◌ int_two (times_x x (powers_of (suc k))))
      (value_negated R (pow R x) 0 (powers_of k))
      ∙ ap₂ (λ t u. (1# + 1#) * (x * t) + neg u) (powers_of_value x (suc k)) (powers_of_value x k)
      ∙ ring 3 R (λ x t u. (𝟏 ⊞ 𝟏) ⊠ (x ⊠ t) ⊟ u) (λ x t u. x ⊠ t ⊞ x ⊠ t ⊟ u) refl x _ _
      ∙ sym (chebyshev_next R x k)

  -- row k, degrees from k on, is worth s v_k, its own coefficients standing at w
  pub data Worth (w v : ℕ → Carrier) (s : Carrier) : ℕ → List Row → Type 0 where
    none : {k : ℕ} → Worth w v s k []
    more : {k : ℕ} {r : Row} {rows : List Row} → value R w 0 r ≡ s * v k → Worth w v s (suc k) rows
        → Worth w v s k (r ∷ rows)

  -- then the combined row is worth s times what the coefficients are worth
  pub combine_value : (w v : ℕ → Carrier) (s : Carrier) (k : ℕ) (cs : Row) (rows : List Row) → Worth w v s k rows
      → N.◌≤◌ (length cs) (length rows) → value R w 0 (combine cs rows) ≡ s * value R v k cs
  unfolding combine
  combine_value w v s k [] rows h l = zeros_value w
      ∙ ring 1 R (λ s. 𝟎) (λ s. s ⊠ 𝟎) refl s ∙ ap (λ z. s * z) (sym (value_nil R v k))
  combine_value w v s k (c ∷ cs) [] h l = absurd (omega arith)
  combine_value w v s k (c ∷ cs) (r ∷ rows) (more e h) l = value_sum R w 0 (scale c r) _
      ∙ ap₂ ◌+◌ (value_scale R w 0 c r ∙ ap (λ z. int R c * z) e)
      (combine_value w v s (suc k) cs rows h (omega arith))
      ∙ ring 4 R (λ c s v t. c ⊠ (s ⊠ v) ⊞ s ⊠ t) (λ c s v t. s ⊠ (c ⊠ v ⊞ t)) refl _ _ _ _
      ∙ ap (λ z. s * z) (sym (value_cons R v k c cs))

  -- the rows by the recurrence
  pub rows_worth : (x : Carrier) (k n : ℕ) → Worth (pow R x) (chebyshev R x) 1# k (rows_from k n)
  unfolding rows_from
  rows_worth x k zero = none
  rows_worth x k (suc n) = more (value_sum R (pow R x) 0 (powers_of k) zeros
      ∙ ap₂ ◌+◌ (powers_of_value x k) (zeros_value (pow R x))
      ∙ ring 1 R (λ t. t ⊞ 𝟎) (λ t. 𝟏 ⊠ t) refl _) (rows_worth x (suc k) n)
