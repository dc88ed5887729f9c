-- The pieces: they stay in the box, and together they are all of it.
use Rattle.std.specs.Prelude.{◌≡◌, [], ◌∷◌, ◌⊎◌, T, ℤ, neg_ℤ, ◌+ℤ◌, ◌-ℤ◌, ◌≤ℤ◌}
use Rattle.std.proofs.Math.Path.{refl, sym, ap, ap₂, subst₂}
use Rattle.std.proofs.Common.{◌∙◌, subst, inl, inr}
use Prim.Native.Nat.{ℕ, zero, suc, ◌+◌, ◌-◌, ◌*◌, ◌^◌, ◌≤◌, ◌<◌}
use native.Mathlib.Omega.{arith}
use Rattle.std.proofs.Math.Nat as NatL
use Rattle.std.proofs.Math.IntN.{pos, nat_abs}
use Rattle.std.specs.Int.Signed.{le_z}
use Rattle.algebra.specs.Integer.{Is, is, is_add, is_neg, is_nat, natAbs_bound, natAbs_add, natAbs_neg, natAbs_parts}
use Rattle.algebra.specs.IntegerRing.{of_le}
use Rattle.algebra.specs.RingLaws.{one-*}
use Rattle.algebra.specs.RingSolver.{𝟎, 𝟏, ◌⊞◌, ◌⊟◌, ◌⊠◌, ⊝◌, ring}
use Rattle.algebra.specs.Ordered.{abs}
use Rattle.algebra.specs.OrderedLaws.{abs_le, le_abs, neg_le_abs, +-mono, *-mono, neg_mono}
use Rattle.algebra.specs.FieldLaws.{reciprocal_nonneg}
use Rattle.algebra.proofs.Rational.{ℚ, ◌+ℚ◌, ◌*ℚ◌, negℚ, whole, ◌≤ℚ◌, reciprocal, ◌÷◌}
use Rattle.algebra.proofs.RationalRing.{ℚR}
use Rattle.algebra.proofs.RationalOrder.{ℚO}
use Rattle.algebra.proofs.RationalField.{ℚF}
use Rattle.algebra.proofs.RationalLaws.{whole-+, whole_neg, whole_reciprocal, ÷-back}
use Rattle.polynomial.proofs.BoxLaws.{box_length}
use Rattle.numbers.specs.Fixed.{U}
use Rattle.numbers.specs.Computing.{numbers}
use Rattle.calculus.specs.Monomial.{zeros, index_of}
use Rattle.calculus_laws.specs.MonomialLaws.{degree_zeros, monomial_constant, monomial_single}
use Rattle.calculus.specs.Terms.{Terms, select, sum_over, sum_ℤ, size}
use Rattle.calculus.specs.Model.{Model, ◌-ℚ◌, Point, InBox}
use Rattle.calculus.specs.Operations.{is_constant, constant_part, below, above, range, range_in_box}
use Rattle.calculus.specs.SymmetricRange.{variation}
use Rattle.calculus_laws.specs.RangeInsideLaws.{below_varies, above_varies}
use Rattle.calculus.specs.Functions.{coordinate}
use Rattle.calculus_laws.specs.TestLaws.{both}
use Rattle.calculus_laws.specs.SumLaws.{ℕ_addition, sum_cons, sum_nil, sum_split, sum_drop_zeros}
use Rattle.calculus_laws.specs.UnitLaws.{natural, natural-+}
use Rattle.calculus_laws.specs.ValueLaws.{Near, scaled_nil, scaled_cons, scaled_drop_zeros}
use Rattle.calculus_laws.specs.EnclosureLaws.{exact_near}
use Rattle.calculus_laws.specs.ChainLaws.{◌≤≤◌, ◌≡≤◌, ◌≤≡◌}
use Rattle.cuts.specs.Edges.{cuts}
use Rattle.cuts.specs.Cuts.{most_depth, half_width, piece_middle, piece}
open ℚR use {*-one, +-zero}

-- ---- widths: the 2^k pieces of width 2 × 2^(20-k) make up the box
pub width_all : (k : ℕ) → k ≤ most_depth → 2 ^ k * half_width k ≡ U
unfolding cuts
width_all zero h = refl
width_all (suc zero) h = refl
width_all (suc (suc zero)) h = refl
width_all (suc (suc (suc zero))) h = refl
width_all (suc (suc (suc (suc zero)))) h = refl
width_all (suc (suc (suc (suc (suc zero))))) h = refl
width_all (suc (suc (suc (suc (suc (suc zero)))))) h = refl
width_all (suc (suc (suc (suc (suc (suc (suc k))))))) h = absurd (omega arith)

pub width_pos : (k : ℕ) → k ≤ most_depth → 1 ≤ half_width k
unfolding numbers
width_pos k h = go (half_width k) (width_all k h)
  where
    go : (w : ℕ) → 2 ^ k * w ≡ U → 1 ≤ w
    go zero e = absurd (let z : 2 ^ k * 0 ≡ 0 = NatL.mul-zero (2 ^ k) in omega arith)
    go (suc w) e = omega arith

-- the right end of piece j is inside
pub last_inside : (k j : ℕ) → k ≤ most_depth → j < 2 ^ k → suc j * half_width k ≤ U
last_inside k j h l = subst (λ u. suc j * half_width k ≤ u) (width_all k h) (NatL.mul-le-mul_right (half_width k) l)

module _ (k j : ℕ) (hk : k ≤ most_depth) (hj : j < 2 ^ k) where
  abbrev w : ℕ
  w = half_width k

  middle_is : Is (piece_middle k j) ((2 * j + 1) * w) U
  unfolding piece_middle
  middle_is = is_shift_to (is_add (is_neg (is_nat U)) (is_nat ((2 * j + 1) * half_width k)))
    where
      is_shift_to : Is (neg_ℤ (pos U) +ℤ pos ((2 * j + 1) * half_width k)) (0 + (2 * j + 1) * half_width k) (U + 0)
          → Is (neg_ℤ (pos U) +ℤ pos ((2 * j + 1) * half_width k)) ((2 * j + 1) * half_width k) U
      is_shift_to h = subst₂ (Is (neg_ℤ (pos U) +ℤ pos ((2 * j + 1) * half_width k))) (omega arith) (omega arith) h

  -- |middle| and the width are at most U together
  pub middle_le : nat_abs (piece_middle k j) + w ≤ U
  middle_le = let a = last_inside k j hk hj in
      let b : suc j * half_width k ≡ j * half_width k + half_width k = NatL.suc-mul j (half_width k) in
      let c : (2 * j + 1) * half_width k ≡ 2 * (j * half_width k) + half_width k = (omega arith) in
      let m = natAbs_bound middle_is (U - half_width k) (omega arith) (omega arith) in omega arith

  module _ (n v : ℕ) where
    pub piece_size : size (piece n v k j).terms ≡ nat_abs (piece_middle k j) + w
    unfolding piece size
    piece_size = sum_drop_zeros ℕ_addition (λ k c. nat_abs c) (λ k. refl) _
        ∙ sum_cons ℕ_addition (λ k c. nat_abs c) _ _
        ∙ ap (λ z. nat_abs (piece_middle k j) + z) (sum_cons ℕ_addition (λ k c. nat_abs c) _ _
        ∙ ap (λ z. half_width k + z) (sum_nil ℕ_addition (λ k c. nat_abs c)) ∙ omega arith)

-- ---- ends of size at most U lie from -U to U
sum_size : (p : Terms) → nat_abs (sum_ℤ (λ k c. c) p) ≤ size p
unfolding size sum_over
sum_size [] = omega arith
sum_size (t ∷ p) = omega (arith, natAbs_add t.coefficient (sum_ℤ (λ k c. c) p), sum_size p)

range_size : (m : Model) → m.radius ≡ 0 → nat_abs (constant_part m) + variation m ≤ size m.terms
unfolding constant_part variation size
range_size m r = omega (
  arith,
  sum_size (select (λ k c. is_constant k) m.terms),
  sum_split ℕ_addition (λ k c. nat_abs c) (λ k c. is_constant k) m.terms,
)

not_below : (z : ℤ) (n : ℕ) → nat_abs z ≤ n → neg_ℤ (pos n) ≤ℤ z
not_below z n h = of_le (is_neg (is_nat n)) (is z) (omega (arith, natAbs_parts z))

not_above : (z : ℤ) (n : ℕ) → nat_abs z ≤ n → z ≤ℤ pos n
not_above z n h = of_le (is z) (is_nat n) (omega (arith, natAbs_parts z))

small_in_box : (m : Model) → m.radius ≡ 0 → size m.terms ≤ U → T (range_in_box m)
unfolding range_in_box range
small_in_box m r h = both (le_z (neg_ℤ (pos U)) (range m).low) _
    (not_below (constant_part m -ℤ pos (below m)) U
    (omega (
      arith,
      natAbs_add (constant_part m) (neg_ℤ (pos (below m))),
      natAbs_neg (pos (below m)),
      below_varies m,
      range_size m r,
    ))).le
    (not_above (constant_part m +ℤ pos (above m)) U
    (omega (arith, natAbs_add (constant_part m) (pos (above m)), above_varies m, range_size m r))).le

-- a piece stays in the box, so that its substitution is never refused with 9
pub piece_in_box : (n v k j : ℕ) → k ≤ most_depth → j < 2 ^ k → T (range_in_box (piece n v k j))
piece_in_box n v k j hk hj = small_in_box (piece n v k j) (unfold piece in refl)
    (omega (arith, piece_size k j hk hj n v, middle_le k j hk hj))

-- ---- each fraction from -1 to 1 is the value of a piece at a fraction from -1 to 1
-- n x ≤ n y gives x ≤ y
cancel : (n : ℕ) → 1 ≤ n → (x y : ℚ) → natural n *ℚ x ≤ℚ natural n *ℚ y → x ≤ℚ y
cancel n l x y h = sym (back x) ≡≤ *-mono ℚO (reciprocal_nonneg ℚF n l) h ≤≡ back y
  where
    back : (z : ℚ) → natural n *ℚ z *ℚ reciprocal n ≡ z
    back z = ring 3 ℚR (λ u z v. u ⊠ z ⊠ v) (λ u z v. (u ⊠ v) ⊠ z) refl (natural n) z (reciprocal n)
        ∙ ap (λ w. w *ℚ z) (whole_reciprocal n l) ∙ one-* ℚR z

-- the left end of piece j, in units
unfoldable pub edge : (k j : ℕ) → ℚ
edge k j = natural (2 * j * half_width k) -ℚ natural U

pub record Cut (k : ℕ) (a : ℚ) : Type 0 where
  pub j : ℕ
  pub inside : j < 2 ^ k
  pub left : edge k j ≤ℚ a
  pub right : a ≤ℚ edge k (suc j)

-- found from the last piece down
find : (k : ℕ) (a : ℚ) → edge k 0 ≤ℚ a → (m : ℕ) → m ≤ 2 ^ k → 1 ≤ m → a ≤ℚ edge k m → Cut k a
find k a l zero h p r = absurd (omega arith)
find k a l (suc zero) h p r = record { j = 0; inside = h; left = l; right = r }
find k a l (suc (suc m)) h p r = go (ℚO.≤-total a (edge k (suc m))) (find k a l (suc m))
  where
    go : a ≤ℚ edge k (suc m) ⊎ edge k (suc m) ≤ℚ a
        → (suc m ≤ 2 ^ k → 1 ≤ suc m → a ≤ℚ edge k (suc m) → Cut k a) → Cut k a
    go (inl e) f = f (omega arith) (omega arith) e
    go (inr e) f = record { j = suc m; inside = h; left = e; right = r }

-- where a is from -U to U
pub find_cut : (k : ℕ) → k ≤ most_depth → (a : ℚ) → abs ℚO a ≤ℚ natural U → Cut k a
find_cut k hk a h = find k a first (2 ^ k) (omega arith) (NatL.one-le-pow k 2 (omega arith)) last
  where
    first : edge k 0 ≤ℚ a
    first = unfold edge in (ap (λ n. natural n -ℚ natural U) (let z : 2 * 0 * half_width k ≡ 0 = omega arith in z)
        ∙ ring 1 ℚR (λ u. 𝟎 ⊟ u) (λ u. ⊝ u) refl (natural U)
        ≡≤ neg_mono ℚO (neg_le_abs ℚO a ≤≤ h)
        ≤≡ ring 1 ℚR (λ a. ⊝ (⊝ a)) (λ a. a) refl a)

    all : 2 * 2 ^ k * half_width k ≡ U + U
    all = NatL.mul_assoc 2 (2 ^ k) (half_width k) ∙ ap (λ z. 2 * z) (width_all k hk) ∙ omega arith

    last : a ≤ℚ edge k (2 ^ k)
    last = unfold edge in (le_abs ℚO a ≤≤ h
        ≤≡ ring 1 ℚR (λ u. u) (λ u. u ⊞ u ⊟ u) refl (natural U)
        ∙ ap (λ z. z -ℚ natural U) (sym (ap natural all ∙ natural-+ U U)))

-- ---- inside a piece: a is its middle and the width times t, with t from -1 to 1
module _ (k : ℕ) (hk : k ≤ most_depth) (a : ℚ) (c : Cut k a) where
  middle : ℚ
  middle = whole (piece_middle k c.j)

  pub place_in : ℚ
  place_in = (a -ℚ middle) ÷ half_width k

  middle_value : middle ≡ natural (2 * c.j * half_width k) +ℚ natural (half_width k) -ℚ natural U
  unfolding middle piece_middle
  middle_value = whole-+ (neg_ℤ (pos U)) (pos ((2 * c.j + 1) * half_width k))
      ∙ ap₂ ◌+ℚ◌ (whole_neg (pos U))
      (ap natural (let z : (2 * c.j + 1) * half_width k ≡ 2 * c.j * half_width k + half_width k = omega arith in z)
      ∙ natural-+ _ _)
      ∙ ring 3 ℚR (λ u x w. ⊝ u ⊞ (x ⊞ w)) (λ u x w. x ⊞ w ⊟ u) refl (natural U) _ _

  place_back : natural (half_width k) *ℚ place_in ≡ a -ℚ middle
  unfolding place_in
  place_back = ÷-back (a -ℚ middle) (half_width k) (width_pos k hk)

  pub place_value : whole (piece_middle k c.j) +ℚ natural (half_width k) *ℚ place_in ≡ a
  unfolding middle
  place_value = ap (λ z. middle +ℚ z) place_back ∙ ring 2 ℚR (λ m a. m ⊞ (a ⊟ m)) (λ m a. a) refl middle a

  right_edge : edge k (suc c.j)
      ≡ natural (2 * c.j * half_width k) +ℚ natural (half_width k) +ℚ natural (half_width k) -ℚ natural U
  unfolding edge
  right_edge = ap (λ z. z -ℚ natural U)
      (ap natural (let z : 2 * suc c.j * half_width k ≡ 2 * c.j * half_width k + half_width k + half_width k
      = omega arith in z)
      ∙ natural-+ _ _ ∙ ap (λ z. z +ℚ natural (half_width k)) (natural-+ _ _))

  pub place_inside : abs ℚO place_in ≤ℚ natural 1
  place_inside = abs_le ℚO
      (cancel (half_width k) (width_pos k hk) place_in (natural 1)
      (place_back
      ≡≤ +-mono ℚO c.right (ℚO.≤-refl (negℚ middle))
      ≤≡ ap₂ (λ e m. e -ℚ m) right_edge middle_value
      ∙ ring 3 ℚR (λ x w u. x ⊞ w ⊞ w ⊟ u ⊟ (x ⊞ w ⊟ u)) (λ x w u. w ⊠ 𝟏) refl _ (natural (half_width k)) (natural U)))
      (cancel (half_width k) (width_pos k hk) (negℚ place_in) (natural 1)
      (ring 2 ℚR (λ w t. w ⊠ (⊝ t)) (λ w t. ⊝ (w ⊠ t)) refl (natural (half_width k)) place_in
      ∙ ap negℚ place_back ∙ ring 2 ℚR (λ a m. ⊝ (a ⊟ m)) (λ a m. m ⊞ (⊝ a)) refl a middle
      ≡≤ +-mono ℚO (ℚO.≤-refl middle) (neg_mono ℚO c.left)
      ≤≡ ap (λ m. m -ℚ edge k c.j) middle_value ∙ (unfold edge in
      ring 3 ℚR (λ x w u. x ⊞ w ⊟ u ⊟ (x ⊟ u)) (λ x w u. w ⊠ 𝟏) refl _ (natural (half_width k)) (natural U))))

  -- so where coordinate v is t, a / U is the value of the piece
  pub piece_near : (n v : ℕ) {x : Point} (y : ℚ) → index_of v < n → InBox n x → coordinate v x ≡ place_in
      → natural U *ℚ y ≡ a → Near (piece n v k c.j) x y
  unfolding piece middle
  piece_near n v {x} y h b e s = exact_near _ x y refl (s ∙ sym place_value
      ∙ sym (scaled_drop_zeros x _ ∙ scaled_cons x _ _
      ∙ ap₂ ◌+ℚ◌
      (ap (λ z. whole (piece_middle k c.j) *ℚ z) (monomial_constant (zeros n) x (degree_zeros n)) ∙ *-one _)
      (scaled_cons x _ _ ∙ ap₂ ◌+ℚ◌
      (ap (λ z. natural (half_width k) *ℚ z)
      (monomial_single n v x h (subst (λ i. index_of v < i) (sym (box_length ℚO b)) h) ∙ e))
      (scaled_nil x) ∙ +-zero _)))
