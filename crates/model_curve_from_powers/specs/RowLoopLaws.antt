-- The terms of a model put into a row, from the last one down.
use Rattle.std.specs.Prelude.{◌≡◌, refl, true, false, ℕ, zero, suc, ◌+◌, ◌*◌, ◌-◌, ◌/◌, ◌^◌, ◌≤◌, ◌<◌, T, eqb, ℤ, nat_abs, ◌+ℤ◌, ◌-ℤ◌, ◌*ℤ◌, drop, get_or}
use Rattle.std.proofs.Math.Path.{sym, ap, ap₂}
use Rattle.std.proofs.Common.{◌∙◌}
use mathlib.Core.List.{List, [], ◌∷◌, ◌++◌, map}
use native.Mathlib.Omega.{arith}
use Rattle.std.proofs.Math.IntN.{pos}
use Rattle.std.proofs.Math.ListN.{length, take, set, replicate, length-set}
use Rattle.polynomial.specs.Polynomial.{exponent}
use Rattle.numbers.specs.Fixed.{span_limit}
use Rattle.numbers.proofs.FixedLaws.{span_four_bytes}
use Rattle.numbers.specs.Division.{nearest, divided_up}
use Rattle.calculus.specs.Key.{monomial_of}
use Rattle.calculus.specs.Terms.{Terms, sum_over}
use Rattle.calculus.specs.Terms as P
use Rattle.calculus.specs.Model as M
use Rattle.calculus.specs.Model.{most_degree}
use Rattle.calculus_laws.specs.SoundLaws.{sound_parts}
use Rattle.calculus.specs.Refusal.{stopped, bad_model, not_one_variable, at_place, require_at}
use Rattle.chebyshev.specs.Coefficients.{Row, size, add_at}
use Rattle.chebyshev.specs.PowerRows.{places, zeros, combine}
use Rattle.chebyshev.proofs.RowLengthLaws.{from_powers_length}
use Rattle.chebyshev.specs.Tables.{power_table, power_scale}
use Rattle.chebyshev.specs.CurveOperations.{row_of, rounded, residuals, swept, limited_curve, from_powers, in_chebyshev}
use Rattle.chebyshev.specs.CurveCalls.{call_from_powers}
use Rattle.model_types.specs.Arrays.{padded}
use Rattle.model_types.specs.declared.Model.{Model}
use Rattle.model_types.specs.ModelStruct.{view, view_term, zero_term, listed}
use Rattle.model_types.specs.ModelStructLaws.{Limits, limits, read, rest_more, rest_end, view_terms, within_span}
use Rattle.model_types.specs.ModelStructLaws.{read_within_span}
use Rattle.model_types.specs.CurveStruct.{curve_answer}
use Rattle.model_curve_multiplication.specs.CollectLaws.{entry_le, add_at_set, add_at_size}
use Rattle.model_curve_rows.specs.SmallRowsLaws.{from_powers_size}

-- ---- sizes
zeros_size : (n : ℕ) → size (replicate n (pos 0)) ≡ 0
unfolding size
zeros_size zero = refl
zeros_size (suc n) = omega (arith, zeros_size n)

row_size : (p : Terms) → size (row_of p) ≤ P.size p
unfolding row_of P.size sum_over zeros
row_size [] = omega (arith, zeros_size places)
row_size (t ∷ p) = omega (arith, row_size p, add_at_size (exponent 0 t.exponents) t.coefficient (row_of p))

terms_drop : (i : ℕ) (p : Terms) → P.size (drop i p) ≤ P.size p
unfolding P.size sum_over
terms_drop zero p = omega arith
terms_drop (suc i) [] = omega arith
terms_drop (suc i) (t ∷ p) = omega (arith, terms_drop i p)

-- ---- the loop
pub record Rowed (m : Model) (out : Row) (i : ℕ) : Type 0 where
  pub within : i ≤ m.count
  pub made : out ≡ row_of (drop i (read m.n m.count (listed m)))
  pub long : length out ≡ 16

module _ (m : Model) (s : T (M.sound most_degree (view m))) (w : m.count ≤ length (listed m)) where
  known : Limits m
  known = limits most_degree m s

  pub rowed_first : Rowed m (replicate 16 (pos 0)) m.count
  unfolding row_of zeros places
  rowed_first = record {
    within = omega arith;
    made = ap row_of (sym (rest_end m.n m.count (listed m) w m.count (omega arith)));
    long = refl;
  }

  rows_small_here : (i : ℕ) → size (row_of (drop i (read m.n m.count (listed m)))) < 2 ^ 31
  rows_small_here i = omega (
    arith,
    row_size (drop i (read m.n m.count (listed m))),
    terms_drop i (read m.n m.count (listed m)),
    read_within_span m m.count w (omega arith),
    known.small,
    span_four_bytes,
  )

  module _ (out : Row) (i : ℕ) (h : Rowed m out i) (p : 0 < i) where
    abbrev c : ℤ
    c = (get_or (listed m) (i - 1) zero_term).coefficient

    abbrev z : ℕ
    z = (get_or (listed m) (i - 1) zero_term).key

    pub rowed_room : (j : ℕ) → nat_abs c + nat_abs (get_or out j (pos 0)) < 2 ^ 63
    rowed_room j = omega (
      arith,
      within_span m (i - 1) w (omega (arith, h.within)),
      known.small,
      span_four_bytes,
      entry_le out j,
      ap size h.made,
      rows_small_here i,
    )

    -- k is the exponent of the term's key
    pub rowed_iteration : (k : ℕ) → ((n : ℕ) → 1 ≤ n → exponent 0 (monomial_of n z) ≡ k) → k < 16
        → (x : ℤ) → x ≡ c +ℤ get_or out k (pos 0) → Rowed m (set out k x) (i - 1)
    unfolding row_of view_term
    rowed_iteration k g l x e =
        let q : i - 1 + 1 ≡ i = omega arith in
        record {
          within = omega (arith, h.within);
          made = ap (λ x. set out k x) e ∙ add_at_set k c out (omega (arith, h.long))
              ∙ ap (λ r. add_at k c r) (h.made ∙ ap (λ n. row_of (drop n (read m.n m.count (listed m)))) (sym q))
              ∙ ap (λ n. add_at n c (row_of (drop (i - 1 + 1) (read m.n m.count (listed m)))))
              (sym (g m.n known.some))
              ∙ ap row_of (sym (rest_more m.n m.count (listed m) w (i - 1) (omega (arith, h.within))));
          long = length-set out k x ∙ h.long;
        }

  pub rowed_end : (out : Row) (i : ℕ) → Rowed m out i → i ≤ 0 → out ≡ row_of (view m).terms
  rowed_end out i h l =
      let z : i ≡ 0 = omega arith in
      h.made ∙ ap (λ n. row_of (drop n (read m.n m.count (listed m)))) z ∙ ap row_of (sym (view_terms m w))

-- ---- rounding does not see zeros above degree 15
take_front : (l r : Row) → take (length l) (l ++ r) ≡ take (length l) l
take_front [] r = refl
take_front (a ∷ l) r = ap (λ l. a ∷ l) (take_front l r)

drop_front : (l r : Row) → drop (length l) (l ++ r) ≡ r
drop_front [] r = refl
drop_front (a ∷ l) r = drop_front l r

drop_own : (l : Row) → drop (length l) l ≡ []
drop_own [] = refl
drop_own (a ∷ l) = drop_own l

append_size : (l : Row) (n : ℕ) → size (l ++ replicate n (pos 0)) ≡ size l
unfolding size
append_size [] n = zeros_size n
append_size (a ∷ l) n = omega (arith, append_size l n)

module _ (l : Row) (w : length l ≡ 16) (d e : ℕ) where
  kept_same : take 16 (padded (pos 0) 31 l) ≡ take 16 l
  unfolding padded
  kept_same = ap (λ n. take n (l ++ replicate (31 - length l) (pos 0))) (sym w) ∙ take_front l _ ∙ ap (λ n. take n l) w

  above_same : size (drop 16 (padded (pos 0) 31 l)) ≡ size (drop 16 l)
  unfolding padded size
  above_same =
      ap (λ n. size (drop n (l ++ replicate (31 - length l) (pos 0)))) (sym w) ∙ ap size (drop_front l _)
      ∙ zeros_size (31 - length l) ∙ sym (ap (λ n. size (drop n l)) (sym w) ∙ ap size (drop_own l))

  pub rounded_padded : rounded d e (padded (pos 0) 31 l) ≡ rounded d e l
  unfolding rounded residuals swept places
  rounded_padded = ap₂
      (λ t s. record {
        coefficients = map (λ a. nearest a d) t;
        radius = divided_up (e + size (map (λ a. a -ℤ nearest a d *ℤ pos d) t) + s) d;
      })
      kept_same above_same

-- ---- the sizes of a sound model's numbers
pub row_of_small : (m : M.Model) → T (M.sound most_degree m) → size (row_of m.terms) + m.radius < 2 ^ 31
unfolding M.span
row_of_small m s = omega (arith, row_size m.terms, (sound_parts most_degree m s).1.small_span, span_four_bytes)

pub degrees_small : (r : Row) → size r < 2 ^ 31 → size (padded (pos 0) 31 (combine r power_table)) ≤ 2 ^ 52
unfolding padded places
degrees_small r s = omega (
  arith,
  append_size (combine r power_table) (31 - length (combine r power_table)),
  from_powers_size r,
)

pub scale_is : 16384 ≡ power_scale
unfolding power_scale
scale_is = refl

-- ---- the call
module _ (m : M.Model) where
  pub model_unsound : M.sound most_degree m ≡ false
      → curve_answer (stopped bad_model 0) ≡ curve_answer (call_from_powers m)
  unfolding call_from_powers require_at
  model_unsound t = rw t

  pub more_variables : M.sound most_degree m ≡ true → eqb m.vars 1 ≡ false
      → curve_answer (stopped not_one_variable 0) ≡ curve_answer (call_from_powers m)
  unfolding call_from_powers require_at
  more_variables t u = rw (t, u)

  pub one_variable : M.sound most_degree m ≡ true → eqb m.vars 1 ≡ true
      → curve_answer (at_place 0 (limited_curve
      (rounded power_scale (power_scale * m.radius) (combine (row_of m.terms) power_table))))
      ≡ curve_answer (call_from_powers m)
  unfolding call_from_powers require_at from_powers in_chebyshev
  one_variable t u = rw (t, u)

pub vars_view : (m : Model) → (view m).vars ≡ m.n
unfolding view
vars_view m = refl

pub radius_view : (m : Model) → (view m).radius ≡ m.radius
unfolding view
radius_view m = refl
