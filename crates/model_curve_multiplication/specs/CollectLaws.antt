-- Products collected pair by pair, from the last pair down: one pair more, and the sizes.
use Rattle.std.specs.Prelude.{◌≡◌, refl, true, false, List, [], ◌∷◌, ℕ, zero, suc, ◌+◌, ◌*◌, ◌-◌, ◌/◌, ◌%◌, ◌^◌, ◌≤◌, ◌<◌, T, ℤ, pos, nat_abs, ◌+ℤ◌, ◌*ℤ◌, length, get_or, set, replicate}
use Rattle.std.proofs.Math.Path.{sym}
use Rattle.std.proofs.Common.{◌∙◌, ap, ap₂, subst, length-set}
use Rattle.std.proofs.Math.Nat as NatL
use native.Mathlib.Omega.{arith}
use Rattle.std.proofs.Math.ListN.{drop}
use Rattle.algebra.specs.Integer.{natAbs_add, nat_abs_mul}
use Rattle.numbers.specs.Computing.{numbers}
use Rattle.numbers.specs.Fixed.{U, span_limit}
use Rattle.calculus.specs.Refusal.{stopped, bad_model, at_place, require_at}
use Rattle.model_types.specs.CurveStruct.{curve_answer}
use Rattle.chebyshev.specs.CurveCalls.{call_multiply, require_two}
use Rattle.chebyshev.specs.Recurrence.{apart}
use Rattle.chebyshev.specs.Coefficients.{Row, size, add_at, products_of, products_from}
use Rattle.chebyshev.specs.Curve as C
use Rattle.chebyshev.specs.Curve.{sound, span}
use Rattle.chebyshev.proofs.RowLengthLaws.{add_at_length}
use Rattle.chebyshev.proofs.CurveSoundLaws.{sound_span}
use Rattle.chebyshev.specs.CurveOperations.{products, carried, variation, rounded, multiply, multiplied, limited_curve}
use Rattle.model_curve_range.specs.CurveRangeLaws.{size_drop, drop_le, all_parts, sizes_small}

-- ---- rows
pub entry_le : (l : Row) (i : ℕ) → nat_abs (get_or l i (pos 0)) ≤ size l
unfolding size
entry_le [] i = omega arith
entry_le (a ∷ l) zero = omega arith
entry_le (a ∷ l) (suc i) = omega (arith, entry_le l i)

drop_more : (l : Row) (i : ℕ) → i < length l → drop i l ≡ get_or l i (pos 0) ∷ drop (suc i) l
drop_more [] i h = absurd (omega arith)
drop_more (a ∷ l) zero h = refl
drop_more (a ∷ l) (suc i) h = drop_more l i (omega arith)

drop_none : (l : Row) → drop (length l) l ≡ []
drop_none [] = refl
drop_none (a ∷ l) = drop_none l

pub add_at_set : (k : ℕ) (v : ℤ) (l : Row) → k < length l → set l k (v +ℤ get_or l k (pos 0)) ≡ add_at k v l
unfolding add_at
add_at_set k v [] h = absurd (omega arith)
add_at_set zero v (a ∷ l) h = refl
add_at_set (suc k) v (a ∷ l) h = ap (λ l. a ∷ l) (add_at_set k v l (omega arith))

-- ---- sizes
pub add_at_size : (k : ℕ) (v : ℤ) (l : Row) → size (add_at k v l) ≤ nat_abs v + size l
unfolding add_at size
add_at_size zero v [] = omega arith
add_at_size zero v (a ∷ l) = omega (arith, natAbs_add v a)
add_at_size (suc k) v [] = omega (arith, add_at_size k v [])
add_at_size (suc k) v (a ∷ l) = omega (arith, add_at_size k v l)

of_size : (i : ℕ) (a : ℤ) (j : ℕ) (g z : Row) → size (products_of i a j g z) ≤ 2 * (nat_abs a * size g) + size z
unfolding products_of size
of_size i a j [] z = omega arith
of_size i a j (b ∷ g) z = omega (
  arith,
  of_size i a (suc j) g z,
  nat_abs_mul a b,
  add_at_size (apart i j) (a *ℤ b) (products_of i a (suc j) g z),
  add_at_size (i + j) (a *ℤ b) (add_at (apart i j) (a *ℤ b) (products_of i a (suc j) g z)),
)

from_size : (i : ℕ) (f g z : Row) → size (products_from i f g z) ≤ 2 * (size f * size g) + size z
unfolding products_from size
from_size i [] g z = omega arith
from_size i (a ∷ f) g z = omega (
  arith,
  from_size (suc i) f g z,
  of_size i a 0 g (products_from (suc i) f g z),
)

zeros_size : (n : ℕ) → size (replicate n (pos 0)) ≡ 0
unfolding size
zeros_size zero = refl
zeros_size (suc n) = omega (arith, zeros_size n)

-- ---- the length stays
products_of_long : (i : ℕ) (a : ℤ) (j : ℕ) (g z : Row) → i + j + length g ≤ length z
    → length (products_of i a j g z) ≡ length z
unfolding products_of
products_of_long i a j [] z h = refl
products_of_long i a j (b ∷ g) z h =
    let rest : length (products_of i a (suc j) g z) ≡ length z = products_of_long i a (suc j) g z (omega arith) in
    let near = add_at_length (apart i j) (a *ℤ b) (products_of i a (suc j) g z) (apart_inside i j _ (omega arith)) in
    add_at_length (i + j) (a *ℤ b) (add_at (apart i j) (a *ℤ b) (products_of i a (suc j) g z)) (omega arith)
    ∙ near ∙ rest
  where
    apart_inside : (i j n : ℕ) → i + j < n → apart i j < n
    apart_inside i j n l = unfold apart in omega arith

-- ---- one degree i of the first factor, with the coefficient a: j degrees of the second are left
pub record Adding (i : ℕ) (a : ℤ) (g z₀ z : Row) (j : ℕ) : Type 0 where
  pub most : j ≤ 16
  pub made : z ≡ products_of i a j (drop j g) z₀
  pub long : length z ≡ 31

module _ (i : ℕ) (a : ℤ) (g z₀ : Row) (h : i < 16) (w : length g ≡ 16)
    (s : 2 * (nat_abs a * size g) + size z₀ < 2 ^ 63) where
  pub adding_first : length z₀ ≡ 31 → Adding i a g z₀ z₀ 16
  unfolding products_of
  adding_first l = record {
    most = omega arith;
    made = sym (ap (λ r. products_of i a 16 r z₀) (ap (λ n. drop n g) (sym w) ∙ drop_none g));
    long = l;
  }

  module _ (z : Row) (j : ℕ) (c : Adding i a g z₀ z j) (p : 0 < j) where
    abbrev k : ℕ
    k = j - 1

    abbrev v : ℤ
    v = a *ℤ get_or g k (pos 0)

    below : suc k ≡ j
    below = omega arith

    pub inside : k < 16
    inside = omega (arith, c.most)

    v_size : nat_abs v ≡ nat_abs a * nat_abs (get_or g k (pos 0))
    v_size = nat_abs_mul a (get_or g k (pos 0))

    -- twice this product and what is there already fit
    room : 2 * nat_abs v + size z < 2 ^ 63
    room =
        let rest = ap (λ n. nat_abs a * n) (size_drop g k (omega (arith, c.most, w))) in
        let less = NatL.mul-le-mul_left (nat_abs a) (drop_le g k) in
        let same = ap (λ n. nat_abs a * size (drop n g)) below in
        omega (arith, v_size, ap size c.made, of_size i a j (drop j g) z₀, s)

    pub product_room : nat_abs a * nat_abs (get_or g k (pos 0)) < 2 ^ 63
    product_room = omega (arith, room, v_size)

    module _ (near : ℕ) (ne : near ≡ apart i k) where
      pub near_inside : near < 31
      unfolding apart
      near_inside = omega (arith, ne, inside)

      pub near_room : nat_abs v + nat_abs (get_or z near (pos 0)) < 2 ^ 63
      near_room = omega (arith, room, entry_le z near)

      module _ (x : ℤ) (e : x ≡ v +ℤ get_or z near (pos 0)) where
        abbrev next : Row
        next = set z near x

        next_is : next ≡ add_at (apart i k) v z
        next_is = ap (λ x. set z near x) e ∙ add_at_set near v z (omega (arith, near_inside, c.long))
            ∙ ap (λ k. add_at k v z) ne

        pub next_long : length next ≡ 31
        next_long = length-set z near x ∙ c.long

        pub far_room : nat_abs v + nat_abs (get_or next (i + k) (pos 0)) < 2 ^ 63
        far_room = omega (
          arith,
          room,
          entry_le next (i + k),
          ap size next_is,
          add_at_size (apart i k) v z,
        )

        pub adding_iteration : (y : ℤ) → y ≡ v +ℤ get_or next (i + k) (pos 0) → Adding i a g z₀ (set next (i + k) y) k
        adding_iteration y q = record {
          most = omega (arith, c.most);
          made = ap (λ y. set next (i + k) y) q
              ∙ add_at_set (i + k) v next (omega (arith, inside, next_long))
              ∙ ap (λ l. add_at (i + k) v l) (next_is ∙ ap (λ l. add_at (apart i k) v l) at_hand)
              ∙ one_more;
          long = length-set next (i + k) y ∙ next_long;
        }
          where
            at_hand : z ≡ products_of i a (suc k) (drop (suc k) g) z₀
            at_hand = c.made ∙ ap (λ n. products_of i a n (drop n g) z₀) (sym below)

            one_more : add_at (i + k) v (add_at (apart i k) v (products_of i a (suc k) (drop (suc k) g) z₀))
                ≡ products_of i a k (drop k g) z₀
            one_more = unfold products_of in
                sym (ap (λ l. products_of i a k l z₀) (drop_more g k (omega (arith, inside, w))))

  pub adding_end : (z : Row) (j : ℕ) → Adding i a g z₀ z j → j ≤ 0 → z ≡ products_of i a 0 g z₀
  adding_end z j c p =
      let e : j ≡ 0 = omega arith in c.made ∙ ap (λ n. products_of i a n (drop n g) z₀) e

-- ---- all degrees of the first factor: i of them are left
pub record Collecting (f g z : Row) (i : ℕ) : Type 0 where
  pub most : i ≤ 16
  pub made : z ≡ products_from i (drop i f) g (replicate 31 (pos 0))
  pub long : length z ≡ 31

module _ (f g : Row) (u : length f ≡ 16) (w : length g ≡ 16) (s : size f * size g < 2 ^ 61) where
  pub collecting_first : Collecting f g (replicate 31 (pos 0)) 16
  unfolding products_from
  collecting_first = record {
    most = omega arith;
    made = sym (ap (λ l. products_from 16 l g (replicate 31 (pos 0))) (ap (λ n. drop n f) (sym u) ∙ drop_none f));
    long = refl;
  }

  module _ (z : Row) (i : ℕ) (c : Collecting f g z i) (p : 0 < i) where
    abbrev degree : ℕ
    degree = i - 1

    abbrev first : ℤ
    first = get_or f degree (pos 0)

    one_below : suc degree ≡ i
    one_below = omega arith

    pub collecting_room : 2 * (nat_abs first * size g) + size z < 2 ^ 63
    collecting_room =
        let rest = ap (λ n. n * size g) (size_drop f degree (omega (arith, c.most, u))) in
        let less = NatL.mul-le-mul_right (size g) (drop_le f degree) in
        let same = ap (λ n. size (drop n f) * size g) one_below in
        omega (
          arith,
          s,
          ap size c.made,
          from_size i (drop i f) g (replicate 31 (pos 0)),
          zeros_size 31,
        )

    pub collecting_iteration : (y : Row) → y ≡ products_of degree first 0 g z → Collecting f g y degree
    collecting_iteration y e = record {
      most = omega (arith, c.most);
      made = e ∙ ap (λ z. products_of degree first 0 g z)
          (c.made ∙ ap (λ n. products_from n (drop n f) g (replicate 31 (pos 0))) (sym one_below)) ∙ one_more;
      long = ap length e ∙ products_of_long degree first 0 g z (omega (arith, c.most, w, c.long)) ∙ c.long;
    }
      where
        one_more : products_of degree first 0 g
            (products_from (suc degree) (drop (suc degree) f) g (replicate 31 (pos 0)))
            ≡ products_from degree (drop degree f) g (replicate 31 (pos 0))
        one_more = unfold products_from in
            sym (ap (λ l. products_from degree l g (replicate 31 (pos 0)))
            (drop_more f degree (omega (arith, c.most, u))))

  pub collecting_end : (z : Row) (i : ℕ) → Collecting f g z i → i ≤ 0
      → z ≡ products_from 0 f g (replicate 31 (pos 0))
  collecting_end z i c p =
      let e : i ≡ 0 = omega arith in
      c.made ∙ ap (λ n. products_from n (drop n f) g (replicate 31 (pos 0))) e

-- ---- two sound curves
limit_square : span_limit * span_limit ≤ 2 ^ 60
unfolding numbers
limit_square = omega arith

pub spans_product : (f g : C.Curve) → T (sound f) → T (sound g) → span f * span g ≤ 2 ^ 60
spans_product f g s t = omega (
  arith,
  limit_square,
  NatL.mul-le-mul_right (span g) (sound_span f s),
  NatL.mul-le-mul_left span_limit (sound_span g t),
)

pub sizes_product : (f g : C.Curve) → T (sound f) → T (sound g)
    → size f.coefficients * size g.coefficients < 2 ^ 61
unfolding span
sizes_product f g s t = omega (arith, spans_product f g s t)

pub span_parts : (c : C.Curve) → length c.coefficients ≡ 16
    → nat_abs (get_or c.coefficients 0 (pos 0)) + variation c ≡ span c
unfolding span variation
span_parts c w = omega (arith, all_parts c.coefficients w)

pub span_small : (c : C.Curve) → T (sound c) → span c < 2 ^ 31
unfolding span
span_small c s = sizes_small c s

pub size_rest : (c : C.Curve) (n : ℕ) → n ≡ span c → n - c.radius ≡ size c.coefficients
unfolding span
size_rest c n e = omega arith

pub radius_le : (c : C.Curve) → c.radius ≤ span c
unfolding span
radius_le c = omega arith

-- the size of all collected products, and twice the cross terms
pub products_size : (f g : C.Curve) → T (sound f) → T (sound g)
    → 2 * carried f g + size (products f g) ≤ 2 ^ 61
unfolding span carried products
products_size f g s t = omega (
  arith,
  spans_product f g s t,
  from_size 0 f.coefficients g.coefficients (replicate 31 (pos 0)),
  zeros_size 31,
)

pub carried_small : (f g : C.Curve) → T (sound f) → T (sound g) → 2 * carried f g ≤ 2 ^ 61
carried_small f g s t = omega (arith, products_size f g s t)

pub carried_is : (f g : C.Curve) → (a b : ℕ) → a ≡ span f → b ≡ size g.coefficients
    → 2 * (a * g.radius + b * f.radius) ≡ 2 * carried f g
unfolding span carried
carried_is f g a b p q = omega (arith, ap (λ n. n * g.radius) p, ap (λ n. n * f.radius) q)

pub two_units : 2097152 ≡ 2 * U
unfolding numbers
two_units = refl

-- ---- the call
module _ (f g : C.Curve) where
  pub factor_unsound : sound f ≡ false → curve_answer (stopped bad_model 0) ≡ curve_answer (call_multiply f g)
  unfolding call_multiply require_two require_at
  factor_unsound t = rw t

  pub other_unsound : sound f ≡ true → sound g ≡ false
      → curve_answer (stopped bad_model 1) ≡ curve_answer (call_multiply f g)
  unfolding call_multiply require_two require_at
  other_unsound t u = rw (t, u)

  pub factors_sound : sound f ≡ true → sound g ≡ true
      → curve_answer (at_place 0 (limited_curve (rounded (2 * U) (2 * carried f g) (products f g))))
      ≡ curve_answer (call_multiply f g)
  unfolding call_multiply require_two require_at multiply multiplied
  factors_sound t u = rw (t, u)
