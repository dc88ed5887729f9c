-- The pieces in numbers and in memory: how many there are, where they lie, and the struct of what is put in.
use Rattle.std.specs.Prelude.{◌≡◌, refl, true, false, [], ◌∷◌, map, ℕ, zero, suc, ◌+◌, ◌-◌, ◌*◌, ◌%◌, ◌^◌, ◌≤◌, ◌<◌, length}
use Rattle.std.proofs.Common.{sym, ◌∙◌, arith, ne_eqb, T_not, lit<, lit≤}
use Rattle.std.proofs.Math.Path.{ap, ap₂, subst}
use Rattle.std.proofs.Math.Bool.{not}
use Rattle.std.proofs.Math.Nat as NatL
use Rattle.std.proofs.Math.Dec.{T}
use Rattle.std.proofs.Math.IntN.{pos}
use Rattle.numbers.specs.Fixed.{U}
use Rattle.numbers.proofs.FixedLaws.{U_within}
use Rattle.polynomial.specs.Polynomial.{replace}
use Rattle.calculus.specs.Monomial.{zeros, single, index_of, less}
use Rattle.calculus_laws.specs.MonomialLaws.{length_zeros, length_single, degree_zeros, degree_single}
use Rattle.calculus.specs.Key.{key_width, key_limit}
use Rattle.calculus_laws.specs.MonomialKeyLaws.{monomial_zero, monomial_variable}
use Rattle.calculus.specs.Terms.{Terms, term, select, is_nonzero, drop_zeros, rising_from, rising}
use Rattle.calculus_laws.specs.TermsLaws.{by_select, length_select, rising_select, nonzero_drop_zeros, every_select}
use Rattle.calculus_laws.specs.TermsLaws.{every_cons, every_nil}
use Rattle.calculus_laws.specs.TestLaws.{both}
use Rattle.calculus.specs.Model.{most_terms, fits, span}
use Rattle.calculus_laws.specs.FitsLaws.{fits_by}
use Rattle.calculus_laws.specs.SoundLaws.{Sound}
use Rattle.model_keys.specs.Keys.{key_raised}
use Rattle.model_types.specs.declared.Term.{Term}
use Rattle.model_types.specs.declared.Model.{Model}
use Rattle.model_types.specs.ModelStruct.{pack, pack_term, pad, of_terms}
use Rattle.model_types.specs.ModelStructLaws.{pack_key}
use Rattle.cuts.specs.Cuts.{most_depth, half_width, piece_middle, piece}
use Rattle.cuts.proofs.PieceLaws.{width_pos, middle_le, piece_size, last_inside}

-- ---- numbers
pub shifted : (k : ℕ) → k ≤ most_depth → 1 * 2 ^ k % 2 ^ 64 ≡ 2 ^ k
unfolding most_depth
shifted zero h = refl
shifted (suc zero) h = refl
shifted (suc (suc zero)) h = refl
shifted (suc (suc (suc zero))) h = refl
shifted (suc (suc (suc (suc zero)))) h = refl
shifted (suc (suc (suc (suc (suc zero))))) h = refl
shifted (suc (suc (suc (suc (suc (suc zero)))))) h = refl
shifted (suc (suc (suc (suc (suc (suc (suc k))))))) h = absurd (omega arith)

pub few_pieces : (k : ℕ) → k ≤ most_depth → 2 ^ k ≤ 64
unfolding most_depth
few_pieces zero h = lit≤ tt
few_pieces (suc zero) h = lit≤ tt
few_pieces (suc (suc zero)) h = lit≤ tt
few_pieces (suc (suc (suc zero))) h = lit≤ tt
few_pieces (suc (suc (suc (suc zero)))) h = lit≤ tt
few_pieces (suc (suc (suc (suc (suc zero))))) h = lit≤ tt
few_pieces (suc (suc (suc (suc (suc (suc zero)))))) h = lit≤ tt
few_pieces (suc (suc (suc (suc (suc (suc (suc k))))))) h = absurd (omega arith)

pub odd_room : (k j : ℕ) → k ≤ most_depth → j < 2 ^ k → (2 * j + 1) * half_width k ≤ 2 * U
odd_room k j hk hj =
    let m = last_inside k j hk hj in
    let b : suc j * half_width k ≡ j * half_width k + half_width k = NatL.suc-mul j (half_width k) in
    let c : (2 * j + 1) * half_width k ≡ 2 * (j * half_width k) + half_width k = omega arith in
    omega arith

pub width_room : (k : ℕ) → k ≤ most_depth → half_width k ≤ U
width_room k hk =
    let m = last_inside k 0 hk (NatL.one-le-pow k 2 (omega arith)) in
    omega arith

-- ---- keys of the constant and of a variable
power_below : (i : ℕ) → 1 ≤ i → 16 ^ (key_width - i) < key_limit
unfolding key_limit key_width
power_below zero h = absurd (omega arith)
power_below (suc zero) h = lit< tt
power_below (suc (suc zero)) h = lit< tt
power_below (suc (suc (suc zero))) h = lit< tt
power_below (suc (suc (suc (suc zero)))) h = lit< tt
power_below (suc (suc (suc (suc (suc zero))))) h = lit< tt
power_below (suc (suc (suc (suc (suc (suc zero)))))) h = lit< tt
power_below (suc (suc (suc (suc (suc (suc (suc zero))))))) h = lit< tt
power_below (suc (suc (suc (suc (suc (suc (suc (suc i)))))))) h =
    let last : 0 ≡ 8 - (suc (suc (suc (suc (suc (suc (suc (suc i)))))))) = omega arith in
    subst (λ e. 16 ^ e < 16 ^ 8) last (lit< tt)

zero_below : 0 < key_limit
unfolding key_limit key_width
zero_below = lit< tt

less_replace : (v n : ℕ) → v < n → T (less (zeros n) (replace v 1 (zeros n)))
unfolding zeros replace
less_replace v zero h = absurd (omega arith)
less_replace zero (suc n) h = tt
less_replace (suc v) (suc n) h = less_replace v n (omega arith)

zeros_single : (n i : ℕ) → 1 ≤ i → i ≤ n → T (less (zeros n) (single n i))
unfolding single index_of
zeros_single n zero h l = absurd (omega arith)
zeros_single n (suc i) h l = less_replace i n (omega arith)

module _ (n i k j : ℕ) (hi : 1 ≤ i) (li : i ≤ n) (hk : k ≤ most_depth) (hj : j < 2 ^ k) where
  -- half the width times the variable
  abbrev part_line : Terms
  part_line = term (pos (half_width k)) (single n i) ∷ []

  -- with the middle before it, which may be 0
  abbrev pub both_terms : Terms
  both_terms = term (piece_middle k j) (zeros n) ∷ part_line

  -- ---- a piece is sound
  pub piece_sound : (d : ℕ) → 1 ≤ d → Sound n d (piece n i k j)
  unfolding piece drop_zeros span
  piece_sound d hd = (
    record {
      vars = refl;
      fitting = every_select (λ l c. fits n d l) (λ l c. is_nonzero c) both_terms
          (every_cons (λ l c. fits n d l) _ _ (fits_by n d (zeros n) (length_zeros n) (omega (arith, degree_zeros n)))
          (every_cons (λ l c. fits n d l) _ _
          (fits_by n d (single n i) (length_single n i) (omega (arith, degree_single n i)))
          (every_nil (λ l c. fits n d l))));
      nonzero_terms = nonzero_drop_zeros both_terms;
      rising_terms = rising_select (λ l c. is_nonzero c) both_terms (two_rising (zeros_single n i hi li));
    },
    record {
      count = unfold most_terms in omega (arith, length_select (λ l c. is_nonzero c) both_terms);
      small_span = omega (arith, piece_size k j hk hj n i, middle_le k j hk hj, U_within);
    },
  )
    where
      two_rising : T (less (zeros n) (single n i)) → T (rising both_terms)
      two_rising h = unfold rising rising_from in both (less (zeros n) (single n i)) _ h tt

  -- ---- its struct
  abbrev middle_term : Term
  middle_term = record { key = 0; coefficient = piece_middle k j }

  abbrev line_term : Term
  line_term = record { key = key_raised i 0; coefficient = pos (half_width k) }

  width_nonzero : T (is_nonzero (pos (half_width k)))
  unfolding is_nonzero
  width_nonzero = subst T (sym (ap not (ne_eqb (half_width k) 0 (λ e. let w = width_pos k hk in omega arith)))) tt

  line_packed : n ≤ key_width → pack_term (term (pos (half_width k)) (single n i)) ≡ line_term
  unfolding key_raised
  line_packed w = ap (λ l. pack_term (term (pos (half_width k)) l)) (sym (monomial_variable n i hi li w))
      ∙ pack_key n (16 ^ (key_width - i)) (pos (half_width k)) w (power_below i hi)
      ∙ ap (λ z. record { key = z; coefficient = pos (half_width k) }) (omega arith)

  middle_packed : n ≤ key_width → pack_term (term (piece_middle k j) (zeros n)) ≡ middle_term
  middle_packed w = ap (λ l. pack_term (term (piece_middle k j) l)) (sym (monomial_zero n w))
      ∙ pack_key n 0 (piece_middle k j) w zero_below

  line_left : select (λ l c. is_nonzero c) part_line ≡ part_line
  line_left = by_select (λ q. q ≡ part_line) (λ l c. is_nonzero c)
      (term (pos (half_width k)) (single n i)) [] (λ y. unfold select in refl)
      (λ y. absurd (T_not (is_nonzero (pos (half_width k))) y width_nonzero))

  one_left : is_nonzero (piece_middle k j) ≡ false → drop_zeros both_terms ≡ part_line
  unfolding drop_zeros
  one_left h = by_select (λ q. q ≡ part_line) (λ l c. is_nonzero c)
      (term (piece_middle k j) (zeros n)) part_line (λ y. absurd (subst T h y)) (λ y. line_left)

  both_left : is_nonzero (piece_middle k j) ≡ true → drop_zeros both_terms ≡ both_terms
  unfolding drop_zeros
  both_left h = by_select (λ q. q ≡ both_terms) (λ l c. is_nonzero c)
      (term (piece_middle k j) (zeros n)) part_line
      (λ y. ap (λ q. term (piece_middle k j) (zeros n) ∷ q) line_left)
      (λ y. absurd (T_not (is_nonzero (piece_middle k j)) y (subst T (sym h) tt)))

  -- the struct of terms, and those with one and two terms
  abbrev packed_terms : Terms → Model
  packed_terms p = of_terms n (length p) 0 (pad (map pack_term p))

  abbrev pub one_packed : Term → Model
  one_packed t = of_terms n 1 0 (pad (t ∷ []))

  abbrev pub two_packed : Term → Term → Model
  two_packed s t = of_terms n 2 0 (pad (s ∷ t ∷ []))

  pub packed_line : n ≤ key_width → is_nonzero (piece_middle k j) ≡ false
      → pack (piece n i k j) ≡ one_packed line_term
  unfolding piece pack
  packed_line w h = ap packed_terms (one_left h) ∙ ap one_packed (line_packed w)

  pub packed_both : n ≤ key_width → is_nonzero (piece_middle k j) ≡ true
      → pack (piece n i k j) ≡ two_packed middle_term line_term
  unfolding piece pack
  packed_both w h = ap packed_terms (both_left h) ∙ ap₂ two_packed (middle_packed w) (line_packed w)
