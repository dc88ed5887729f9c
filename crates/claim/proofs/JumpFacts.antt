-- Facts beside the claim with functions that are no polynomials: each is that of its model on one half of the box and
-- differs from it by the whole radius on the other. Through a product, a substitution and a sweep the claim encloses
-- what comes of them, and they refute an answer whose radius lacks the input's, or the size of the term swept away. Of
-- a substitution that leaves the box no answer meets the claim.
use Rattle.std.specs.Prelude.{◌≡◌, Bool, true, false, ℕ, zero, suc, ◌+◌, ◌*◌, ◌≤◌, leb, ℤ, negsuc, ◌-ℤ◌, nat_abs, ◌≤ℤ◌}
use Rattle.std.proofs.Math.Path.{refl, ap}
use Rattle.std.proofs.Common.{sym, ◌∙◌, ap₂, leb→le, le→leb}
use mathlib.Core.List.{List, [], ◌∷◌}
use native.Mathlib.Omega.{arith}
use Rattle.std.proofs.Math.IntN.{pos}
use Rattle.std.specs.Int.Signed.{le_z_yes}
use Rattle.algebra.specs.Ring.{pow}
use Rattle.algebra.specs.RingLaws.{zero-*, *-zero}
use Rattle.algebra.specs.RingSolver.{𝟎, 𝟏, ◌⊞◌, ◌⊟◌, ◌⊠◌, ⊝◌, ring}
use Rattle.algebra.specs.Ordered.{abs}
use Rattle.algebra.specs.OrderedLaws.{abs_pos, abs_nonneg, abs_neg_eq, abs_prod, triangle, +-mono}
use Rattle.algebra.specs.Fraction.{one_more, at_most, over_1}
use Rattle.algebra.proofs.Rational.{ℚ, ◌+ℚ◌, ◌*ℚ◌, negℚ, leℚ, leℚ_class, whole, ◌≤ℚ◌, reciprocal}
use Rattle.algebra.proofs.RationalRing.{ℚR}
use Rattle.algebra.proofs.RationalOrder.{ℚO, ≤ℚ_refl, class_≤}
use Rattle.algebra.proofs.RationalField.{ℚF, archimedean}
use Rattle.algebra.specs.FieldLaws.{reciprocal_nonneg}
use Rattle.algebra.proofs.RationalLaws.{≤-whole, whole-+, whole-*, whole_neg, reciprocal_class}
use Rattle.polynomial.specs.Polynomial as P
use Rattle.polynomial.specs.Polynomial.{monomial, eval, replace}
use Rattle.polynomial.specs.Box.{none, more}
use Rattle.polynomial.proofs.BoxLaws.{monomial_le}
use Rattle.numbers.specs.Fixed.{U}
use Rattle.numbers.proofs.FixedLaws.{U_suc}
use Rattle.calculus.specs.Monomial.{index_of}
use Rattle.calculus.specs.Model.{Model, zero_model, ◌/U, ◌-ℚ◌, distance, Point, InBox, polynomial, value, At}
use Rattle.calculus.specs.Model.{Within}
use Rattle.calculus.specs.Refusal.{done}
use Rattle.calculus.specs.Operations.{Ends, Mixed}
use Rattle.calculus.specs.Book.{input, constant, variable, negate, add, multiply, substitute, sweep, Book}
use Rattle.calculus.specs.Book.{model_of, Summary, summary, last, run}
use Rattle.calculus.specs.Functions.{Function, 0ℚ, coordinate, with_coordinate, ℚPolynomial, value_of}
use Rattle.claim.specs.Outcome.{Inputs, functions, input_outcome, step_value, step_outcome, outcome_of}
use Rattle.claim.specs.Outcome.{outcomes_after, outcomes, outcome}
use Rattle.claim.specs.Claim.{AllWithin, Given, Claim}
use Rattle.calculus.specs.Computing.{runs}
use Rattle.claim.specs.Computing.{promises}
use Rattle.calculus_laws.specs.UnitLaws.{natural, natural_≤, abs_whole, U_times, U_times_≤}
use Rattle.calculus_laws.specs.ValueLaws.{Near, at_near, abs_zero}
use Rattle.calculus_laws.specs.EnclosureLaws.{zero_near}
use Rattle.calculus_laws.specs.ChainLaws.{◌≤≤◌, ◌≡≤◌, ◌≤≡◌, equal}
use Rattle.claim.proofs.ClaimFacts.{own, own_within, own_polynomial, radius_nonneg, origin, origin_inside, false_≤, both_near}
use Rattle.claim.proofs.ClaimProof.{claim}
open ℚR use {+-neg}

-- ---- the functions
-- by how much such a function differs from the polynomial of a model where coordinate 1 is above 0
pub data Jump : Type 0 where
  up down : Jump

-- the whole radius, up or down
unfoldable pub height : Jump → Model → ℚ
height up m = pos m.radius /U
height down m = negℚ (pos m.radius /U)

-- the polynomial of the model that step a names, moved up or down by that much (AntiderivativeFacts asks what comes of
-- it: in a file of its own, so that an edit of this definition fails there and not here)
unfoldable pub shifted : Jump → Book → ℕ → ℚPolynomial
shifted j b a = P.sum ℚR (own_polynomial b a) (P.constant ℚR (height j (model_of b a)))

-- the polynomial of model a, and the same by that much higher where coordinate 1 is above 0
unfoldable pub jumping : Jump → Book → ℕ → Function
jumping j b a x = elim (leℚ (coordinate 1 x) 0ℚ) [
  | true ↦ own b a x
  | false ↦ own b a x +ℚ height j (model_of b a)
]

pub height_fits : (j : Jump) (m : Model) → abs ℚO (height j m) ≤ℚ pos m.radius /U
unfolding height
height_fits up m = equal (abs_pos ℚO (radius_nonneg m.radius))
height_fits down m = abs_neg_eq ℚO _ ≡≤ equal (abs_pos ℚO (radius_nonneg m.radius))

-- they are within the models of every book
pub jumping_within : (j : Jump) (b : Book) → AllWithin b (functions (jumping j b))
unfolding AllWithin Within jumping input_outcome
jumping_within j b a h x hx = go (leℚ (coordinate 1 x) 0ℚ)
  where
    m : Model
    m = model_of b a

    go : (t : Bool) → At m x (elim t [ true ↦ own b a x | false ↦ own b a x +ℚ height j m ])
    go true = own_within b a h x hx
    go false = unfold At distance own in (ap (abs ℚO) (ring 2 ℚR (λ v e. v ⊞ e ⊟ v) (λ v e. e) refl
        (value m x) (height j m)) ≡≤ height_fits j m)

-- ---- where they are looked at
-- -1, a point of the box
unfoldable pub left : Point
left = whole (negsuc 0) ∷ []

pub left_inside : InBox 1 left
unfolding left
left_inside = more (equal (abs_whole (negsuc 0))) none

-- 1 is above 0
pub one_above : leℚ (natural 1) 0ℚ ≡ false
unfolding at_most over_1 one_more whole
one_above = leℚ_class (over_1 (pos 1)) (over_1 (pos 0))

-- ---- the book: F(-x) (-x) + 5x/U, with the term 5x swept away; F is within a model without terms, radius 3
unfoldable pub woven : Book
woven = record {
  vars = 1;
  order = 1;
  models = record { vars = 1; radius = 3; terms = [] } ∷ [];
  steps = input 0 ∷ variable 1 ∷ multiply 0 1 ∷ negate 1 ∷ substitute 2 3 1
      ∷ constant (pos 5) ∷ multiply 1 5 ∷ add 4 6 ∷ sweep 7 (pos 5) ∷ [];
}

-- its result: no terms, radius 3 + 5
unfoldable pub woven_result : Model
woven_result = record { vars = 1; radius = 8; terms = [] }

pub woven_runs : run woven ≡ done (summary woven_result)
unfolding runs woven woven_result
woven_runs = refl

-- the outcome with such functions, at the point -1
unfoldable pub woven_outcome : Jump → ℚ
woven_outcome j = (outcome (functions (jumping j woven)) woven.steps).at left

pub given : (j : Jump) → Given woven (functions (jumping j woven)) left
given j = record {
  inputs = jumping_within j woven;
  as_promised = unfold promises woven in tt;
  point = unfold woven in left_inside;
}

-- times U it is F(1) - 5 at the point -1, with 3 or -3 for F(1)
module _ (j : Jump) where
  abbrev e : ℚ
  e = height j (record { vars = 1; radius = 3; terms = [] })

  -- above 0 the function is higher by the jump
  above : Bool → ℚ
  above t = elim t [ true ↦ 0ℚ | false ↦ 0ℚ +ℚ e ]

  at_left : woven_outcome j ≡ (0ℚ +ℚ e) *ℚ natural 1 +ℚ whole (negsuc 0) *ℚ pos 5 /U
  unfolding woven_outcome woven left outcome outcomes outcomes_after step_outcome step_value input_outcome
      outcome_of last with_coordinate coordinate index_of replace jumping own model_of value polynomial eval above
  at_left = ap (λ y. jumping j woven 0 (y ∷ []) *ℚ y +ℚ whole (negsuc 0) *ℚ pos 5 /U) (sym (whole_neg (negsuc 0)))
      ∙ ap (λ t. above t *ℚ natural 1 +ℚ whole (negsuc 0) *ℚ pos 5 /U) one_above

  scaled : (z : ℤ) → natural U *ℚ e ≡ whole z → natural U *ℚ woven_outcome j ≡ whole (z -ℤ pos 5)
  scaled z h = ap (λ w. natural U *ℚ w) at_left
      ∙ ring 5 ℚR (λ u e o m c. u ⊠ ((𝟎 ⊞ e) ⊠ o ⊞ m ⊠ c)) (λ u e o m c. (u ⊠ e) ⊠ o ⊞ m ⊠ (u ⊠ c)) refl
      (natural U) e (natural 1) (whole (negsuc 0)) (pos 5 /U)
      ∙ ap₂ (λ a c. a *ℚ natural 1 +ℚ whole (negsuc 0) *ℚ c) h (U_times (pos 5))
      ∙ ap₂ ◌+ℚ◌ (ℚR.*-one (whole z)) (sym (whole-* (negsuc 0) (pos 5)))
      ∙ sym (whole-+ z (negsuc 4))

pub outcome_up : natural U *ℚ woven_outcome up ≡ whole (negsuc 1)
unfolding height
outcome_up = scaled up (pos 3) (U_times (pos 3))

pub outcome_down : natural U *ℚ woven_outcome down ≡ whole (negsuc 7)
unfolding height
outcome_down = scaled down (negsuc 2) (ring 2 ℚR (λ u a. u ⊠ ⊝ a) (λ u a. ⊝ (u ⊠ a)) refl (natural U) (pos 3 /U)
    ∙ ap negℚ (U_times (pos 3)) ∙ sym (whole_neg (pos 3)))

-- ---- what the claim says of them
-- the outcome lies within the radius 8 of the result; downwards it reaches it
pub woven_claimed : (j : Jump) → At woven_result left (woven_outcome j)
unfolding woven_outcome summary
woven_claimed j =
    (claim woven (summary woven_result) woven_runs).within_radius (functions (jumping j woven)) left (given j)

-- the low end of a range is at most -8
pub low_end : (s : Summary) → Claim woven s → s.range.low ≤ℤ negsuc 7
unfolding woven_outcome
low_end s c = ≤-whole s.range.low (negsuc 7)
    ((c.in_range (functions (jumping down woven)) left (given down)).from ≤≡ outcome_down)

near : (s : Summary) → Claim woven s → (j : Jump) → Near s.model left (woven_outcome j)
unfolding woven_outcome
near s c j = at_near s.model left (woven_outcome j) (c.within_radius (functions (jumping j woven)) left (given j))

-- |z| ≤ n, of fractions and so of whole numbers
pub bounded : (z : ℤ) (n : ℕ) (y : ℚ) → y ≡ whole z → abs ℚO y ≤ℚ natural n → nat_abs z ≤ n
bounded z n y e h = leb→le (nat_abs z) n (≤-whole (pos (nat_abs z)) (pos n)
    (sym (abs_whole z) ≡≤ ap (abs ℚO) (sym e) ≡≤ h)).le

-- whatever its terms are, an answer has at least the radius of the input
pub input_radius : (s : Summary) → Claim woven s → 3 ≤ s.model.radius
input_radius s c = let h : 6 ≤ s.model.radius + s.model.radius = bounded (pos 6) _ _ apart
    (both_near s.model s.model left _ _ refl (near s c up) (near s c down)) in omega arith
  where
    apart : natural U *ℚ woven_outcome up -ℚ natural U *ℚ woven_outcome down ≡ whole (pos 6)
    apart = ap₂ ◌-ℚ◌ outcome_up outcome_down ∙ ap (λ z. whole (negsuc 1) +ℚ z) (sym (whole_neg (negsuc 7)))
        ∙ sym (whole-+ (negsuc 1) (pos 8))

-- without terms it has at least that and the size of the term swept away
pub swept_radius : (s : Summary) → s.model.terms ≡ [] → Claim woven s → 8 ≤ s.model.radius
swept_radius s e c = let h : 8 ≤ s.model.radius + 0 = unfold zero_model in bounded (negsuc 7) _ _ apart
    (both_near s.model (zero_model 1) left _ 0ℚ e (near s c down) (zero_near 1 left)) in omega arith
  where
    apart : natural U *ℚ woven_outcome down -ℚ natural U *ℚ 0ℚ ≡ whole (negsuc 7)
    apart = ring 2 ℚR (λ u y. u ⊠ y ⊟ u ⊠ 𝟎) (λ u y. u ⊠ y) refl (natural U) (woven_outcome down) ∙ outcome_down

-- so these answers are refuted: the radius without the input's, and without the term's
pub without_input_refuted : (r i : Ends) (x : Mixed)
    → Claim woven (record {
      model = record { vars = 1; radius = 5; terms = [] };
      range = r;
      integral = i;
      exact = x;
    })
    → ⊥
without_input_refuted r i x c = omega (arith, swept_radius _ refl c)

pub without_swept_refuted : (r i : Ends) (x : Mixed)
    → Claim woven (record {
      model = record { vars = 1; radius = 3; terms = [] };
      range = r;
      integral = i;
      exact = x;
    })
    → ⊥
without_swept_refuted r i x c = omega (arith, swept_radius _ refl c)

-- ---- these functions are no polynomials
-- the sum of all |c|
steepness : ℚPolynomial → ℚ
steepness [] = 0ℚ
steepness (t ∷ q) = abs ℚO t.coefficient +ℚ steepness q

-- from 0 to x a monomial changes by at most |x|
monomial_changes : (k : List ℕ) (x : ℚ) → abs ℚO x ≤ℚ natural 1
    → abs ℚO (monomial ℚR k (x ∷ []) -ℚ monomial ℚR k (0ℚ ∷ [])) ≤ℚ abs ℚO x
unfolding monomial pow
monomial_changes [] x h = ap (abs ℚO) (+-neg _) ≡≤ abs_zero ≤≤ abs_nonneg ℚO x
monomial_changes (zero ∷ k) x h = ap (abs ℚO) (+-neg _) ≡≤ abs_zero ≤≤ abs_nonneg ℚO x
monomial_changes (suc i ∷ k) x h = ap (abs ℚO)
    (ring 4 ℚR (λ x p m z. x ⊠ p ⊠ m ⊟ 𝟎 ⊠ z ⊠ m) (λ x p m z. x ⊠ (p ⊠ m)) refl
    x (pow ℚR x i) (monomial ℚR k []) (pow ℚR 0ℚ i))
    ≡≤ abs_prod ℚO x _ (≤ℚ_refl (abs ℚO x)) (monomial_le ℚO (i ∷ k) (more h none))
    ≤≡ ℚR.*-one (abs ℚO x)

-- and a polynomial by at most that many times |x|
changes : (q : ℚPolynomial) (x : ℚ) → abs ℚO x ≤ℚ natural 1
    → abs ℚO (eval ℚR q (x ∷ []) -ℚ eval ℚR q (0ℚ ∷ [])) ≤ℚ steepness q *ℚ abs ℚO x
unfolding eval steepness
changes [] x h = ap (abs ℚO) (+-neg _) ≡≤ abs_zero ≤≡ sym (zero-* ℚR (abs ℚO x))
changes (t ∷ q) x h = ap (abs ℚO)
    (ring 5 ℚR (λ c m v n w. c ⊠ m ⊞ v ⊟ (c ⊠ n ⊞ w)) (λ c m v n w. c ⊠ (m ⊟ n) ⊞ (v ⊟ w)) refl
    t.coefficient (monomial ℚR t.exponents (x ∷ [])) (eval ℚR q (x ∷ []))
    (monomial ℚR t.exponents (0ℚ ∷ [])) (eval ℚR q (0ℚ ∷ [])))
    ≡≤ triangle ℚO _ _
    ≤≤ +-mono ℚO (abs_prod ℚO t.coefficient _ (≤ℚ_refl _) (monomial_changes t.exponents x h)) (changes q x h)
    ≤≡ sym (ℚR.dist _ _ _)

-- 1/n, for n from 1, is in the box and above 0
part_above : (k : ℕ) → leℚ (reciprocal (suc k)) 0ℚ ≡ false
unfolding at_most over_1 one_more whole
part_above k = let z : 0 * suc k ≡ 0 = omega arith in
    ap (λ x. leℚ x 0ℚ) (reciprocal_class k) ∙ leℚ_class _ (over_1 (pos 0)) ∙ ap (leb 1) z

part_inside : (k : ℕ) → abs ℚO (reciprocal (suc k)) ≤ℚ natural 1
unfolding over_1 one_more whole
part_inside k = abs_pos ℚO (reciprocal_nonneg ℚF (suc k) (omega arith)) ≡≤ reciprocal_class k
    ≡≤ class_≤ _ (over_1 (pos 1)) (le_z_yes (le→leb 1 (1 * suc k) (omega arith)))

zero_below : leℚ 0ℚ 0ℚ ≡ true
unfolding at_most over_1 one_more whole
zero_below = leℚ_class (over_1 (pos 0)) (over_1 (pos 0))

-- F is 0 at 0 and 3/U at 1/n, however large n is
pub no_polynomial : (q : ℚPolynomial) → ((x : Point) → InBox 1 x → value_of q x ≡ jumping up woven 0 x) → ⊥
unfolding woven jumping own model_of value polynomial eval height coordinate index_of above value_of
no_polynomial q h = false_≤ 3 0 (omega arith) (sym (U_times (pos 3))
    ≡≤ U_times_≤ (archimedean (pos 3 /U) (steepness q) small) ≤≡ *-zero ℚR (natural U))
  where
    at_zero : eval ℚR q (0ℚ ∷ []) ≡ 0ℚ
    at_zero = h (0ℚ ∷ []) (more (abs_zero ≤≤ natural_≤ 0 1 (omega arith)) none) ∙ ap (above up) zero_below

    at_part : (k : ℕ) → eval ℚR q (reciprocal (suc k) ∷ []) ≡ 0ℚ +ℚ pos 3 /U
    at_part k = h (reciprocal (suc k) ∷ []) (more (part_inside k) none) ∙ ap (above up) (part_above k)

    small : (n : ℕ) → 1 ≤ n → pos 3 /U ≤ℚ steepness q *ℚ reciprocal n
    small zero l = absurd (omega arith)
    small (suc k) l = sym (abs_pos ℚO (radius_nonneg 3))
        ≡≤ ap (abs ℚO) (ring 1 ℚR (λ e. e) (λ e. 𝟎 ⊞ e ⊟ 𝟎) refl (pos 3 /U) ∙ sym (ap₂ ◌-ℚ◌ (at_part k) at_zero))
        ≡≤ changes q (reciprocal (suc k)) (part_inside k)
        ≤≡ ap (λ z. steepness q *ℚ z) (abs_pos ℚO (reciprocal_nonneg ℚF (suc k) (omega arith)))

-- ---- a substitution asks for another point
-- 0 put in for x in x
unfoldable pub put_zero : Book
put_zero = record {
  vars = 1;
  order = 1;
  models = [];
  steps = variable 1 ∷ constant (pos 0) ∷ substitute 0 1 1 ∷ [];
}

pub put_zero_runs : run put_zero ≡ done (summary (zero_model 1))
unfolding runs put_zero
put_zero_runs = refl

-- if the outcome of step 0 were taken at the point as it is, the claim would be false of this accepted book
pub same_point_refuted : ((I : Inputs) (x : Point) → Given put_zero I x
    → At (zero_model 1) x ((outcome_of (outcomes I put_zero.steps) 0).at x)) → ⊥
unfolding put_zero outcomes outcomes_after step_outcome step_value outcome_of coordinate index_of
same_point_refuted h = let k : U ≤ 0 = unfold zero_model in bounded (pos U) 0 _ apart
    (both_near (zero_model 1) (zero_model 1) right _ 0ℚ refl (at_near (zero_model 1) right _ at) (zero_near 1 right)) in
    omega (arith, U_suc)
  where
    right : Point
    right = natural 1 ∷ []

    at : At (zero_model 1) right (natural 1)
    at = h (functions (own put_zero)) right (record {
      inputs = own_within put_zero;
      as_promised = unfold promises in tt;
      point = more (equal (abs_whole (pos 1))) none;
    })

    apart : natural U *ℚ natural 1 -ℚ natural U *ℚ 0ℚ ≡ natural U
    apart = ring 1 ℚR (λ u. u ⊠ 𝟏 ⊟ u ⊠ 𝟎) (λ u. u) refl (natural U)

-- and this point is one of the box: where 2x is put in for x the claim holds of no answer, whatever the last step is
-- and however many other variables there are
unfoldable pub put_twice : (others : ℕ) → Book
put_twice v = record {
  vars = suc v;
  order = 1;
  models = [];
  steps = variable 1 ∷ add 0 0 ∷ substitute 0 1 1 ∷ constant (pos 0) ∷ [];
}

first_coordinate : (n : ℕ) (y : ℚ) (x : Point) → InBox (suc n) (y ∷ x) → abs ℚO y ≤ℚ natural 1
first_coordinate n y x (more h r) = h

pub outside_refuted : (v : ℕ) (s : Summary) → Claim (put_twice v) s → ⊥
unfolding put_twice outcomes outcomes_after step_outcome step_value outcome_of coordinate with_coordinate index_of
    replace
outside_refuted v s c = let k : 2 ≤ 1 = bounded (pos 2) 1 _ (sym (whole-+ (pos 1) (pos 1)))
    (first_coordinate v (natural 1 +ℚ natural 1) (origin v) stays) in omega arith
  where
    stays : InBox (suc v) ((natural 1 +ℚ natural 1) ∷ origin v)
    stays = c.stays_in_box (functions (own (put_twice v))) (natural 1 ∷ origin v) (record {
      inputs = own_within (put_twice v);
      as_promised = unfold promises in tt;
      point = more (equal (abs_whole (pos 1))) (origin_inside v);
    }) 2 0 1 1 refl
