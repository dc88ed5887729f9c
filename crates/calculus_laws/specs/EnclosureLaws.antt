-- Each operation encloses: what is within the operands gives what is within the result. All at one point.
use Rattle.std.specs.Prelude.{◌≡◌, refl, not, List, [], ◌∷◌, ◌++◌, ℕ, ◌+◌, ◌<◌, leb, ℤ, pos, length}
use Rattle.std.proofs.Math.Path.{sym, ap, ap₂}
use Rattle.std.proofs.Common.{◌∙◌, subst}
use native.Mathlib.Omega.{arith}
use Rattle.algebra.specs.RingSolver.{𝟎, ◌⊞◌, ◌⊟◌, ◌⊠◌, ⊝◌, ring}
use Rattle.algebra.specs.Ordered.{abs}
use Rattle.algebra.specs.OrderedLaws.{abs_neg_eq, triangle, +-mono, enclose_mul}
use Rattle.algebra.proofs.Rational.{ℚ, ◌+ℚ◌, ◌*ℚ◌, negℚ, whole, ◌≤ℚ◌}
use Rattle.algebra.proofs.RationalRing.{ℚR}
use Rattle.algebra.proofs.RationalOrder.{ℚO}
use Rattle.polynomial.specs.Polynomial.{monomial}
use Rattle.polynomial.proofs.BoxLaws.{box_length}
use Rattle.numbers.specs.Fixed.{U, span_limit}
use Rattle.numbers.proofs.FixedLaws.{round_up_ok}
use Rattle.calculus.specs.Monomial.{degree, zeros, index_of, single}
use Rattle.calculus.specs.Terms.{Terms, term, select, size, drop_zeros, collect}
use Rattle.calculus.specs.Model.{Model, zero_model, one_model, most_terms, span, ◌/U, ◌-ℚ◌, Point, InBox}
use Rattle.calculus.specs.Refusal.{over_span, too_many_terms}
use Rattle.calculus.specs.Operations.{limited, constant, variable, negate, add, subtract, products, within_order}
use Rattle.calculus.specs.Operations.{above_order, carried, rounding, swept, error, kept, multiply, is_small}
use Rattle.calculus.specs.Operations.{sweep}
use Rattle.calculus.specs.Functions.{0ℚ, coordinate}
use Rattle.calculus_laws.specs.RefusalLaws.{IfAccepted, holds, require_accepted}
use Rattle.calculus_laws.specs.MonomialLaws.{degree_zeros, monomial_constant, monomial_single}
use Rattle.calculus_laws.specs.UnitLaws.{natural, natural-+, natural-*, natural_≤, U_times, U_cancel, U_abs}
use Rattle.calculus_laws.specs.ValueLaws.{scaled_value, Near, scaled_nil, scaled_cons, scaled-++, scaled_split}
use Rattle.calculus_laws.specs.ValueLaws.{scaled_drop_zeros, scaled_collect, scaled_negated, scaled_products}
use Rattle.calculus_laws.specs.ValueLaws.{abs_zero, sum_≤, scaled_≤, rounded_≤}
use Rattle.calculus_laws.specs.ChainLaws.{◌≤≤◌, ◌≡≤◌, ◌≤≡◌}
open ℚR use {+-zero, +-neg}

-- ---- the limits change nothing that is accepted
pub limited_accepted : {P : Model → Type 0} (m : Model) → P m → IfAccepted P (limited m)
unfolding limited
limited_accepted m h = require_accepted (leb (length m.terms) most_terms) too_many_terms _
    (λ t. require_accepted (leb (span m) span_limit) over_span _ (λ s. holds h))

-- ---- radius 0
pub exact_near : (m : Model) (x : Point) (y : ℚ) → m.radius ≡ 0 → natural U *ℚ y ≡ scaled_value m.terms x
    → Near m x y
unfolding Near
exact_near m x y hr h = ap (abs ℚO) (ap (λ z. z -ℚ scaled_value m.terms x) h ∙ +-neg _)
    ≡≤ abs_zero
    ≤≡ ap natural (sym hr)

pub zero_near : (n : ℕ) (x : Point) → Near (zero_model n) x 0ℚ
unfolding zero_model
zero_near n x = exact_near _ x 0ℚ refl (ring 1 ℚR (λ u. u ⊠ 𝟎) (λ u. 𝟎) refl (natural U) ∙ sym (scaled_nil x))

-- the value of one term
scaled_one : (c : ℤ) (k : List ℕ) (x : Point) → scaled_value (term c k ∷ []) x ≡ whole c *ℚ monomial ℚR k x
scaled_one c k x = scaled_cons x (term c k) [] ∙ ap (λ z. whole c *ℚ monomial ℚR k x +ℚ z) (scaled_nil x) ∙ +-zero _

pub constant_near : (n : ℕ) (v : ℤ) (x : Point) → Near (constant n v) x (v /U)
unfolding constant
constant_near n v x = exact_near _ x _ refl
    (U_times v ∙ sym (scaled_drop_zeros x (term v (zeros n) ∷ []) ∙ scaled_one v (zeros n) x
    ∙ ap (λ z. whole v *ℚ z) (monomial_constant (zeros n) x (degree_zeros n)) ∙ ℚR.*-one (whole v)))

pub one_near : (n : ℕ) (x : Point) → Near (one_model n) x (natural 1)
unfolding one_model
one_near n x = exact_near _ x (natural 1) refl (sym (scaled_one (pos U) (zeros n) x
    ∙ ap (λ z. natural U *ℚ z) (monomial_constant (zeros n) x (degree_zeros n))))

pub variable_near : (n v : ℕ) {x : Point} → index_of v < n → InBox n x → Near (variable n v) x (coordinate v x)
unfolding variable
variable_near n v {x} h b = exact_near _ x _ refl (sym (scaled_one (pos U) (single n v) x
    ∙ ap (λ z. natural U *ℚ z) (monomial_single n v x h (subst (λ k. index_of v < k) (sym (box_length ℚO b)) h))))

-- ---- negate, add, subtract
pub negate_near : (f : Model) (x : Point) (y : ℚ) → Near f x y → Near (negate f) x (negℚ y)
unfolding Near negate
negate_near f x y h = ap (abs ℚO)
    (ap (λ z. natural U *ℚ negℚ y -ℚ z) (scaled_negated x f.terms)
    ∙ ring 3 ℚR (λ u y v. u ⊠ (⊝ y) ⊟ (⊝ v)) (λ u y v. ⊝ (u ⊠ y ⊟ v)) refl (natural U) y (scaled_value f.terms x))
    ∙ abs_neg_eq ℚO _
    ≡≤ h

pub add_near : (f g : Model) (x : Point) (y z : ℚ) → Near f x y → Near g x z
    → IfAccepted (λ r. Near r x (y +ℚ z)) (add f g)
unfolding Near add
add_near f g x y z hf hg = limited_accepted {P = λ r. Near r x (y +ℚ z)} _
    (ap (abs ℚO) (ap (λ v. natural U *ℚ (y +ℚ z) -ℚ v) sum ∙ apart)
    ≡≤ sum_≤ _ _ _ _ hf hg)
  where
    vf : ℚ
    vf = scaled_value f.terms x

    vg : ℚ
    vg = scaled_value g.terms x

    sum : scaled_value (drop_zeros (collect (f.terms ++ g.terms))) x ≡ vf +ℚ vg
    sum = scaled_drop_zeros x _ ∙ scaled_collect x (f.terms ++ g.terms) ∙ scaled-++ x f.terms g.terms

    apart : natural U *ℚ (y +ℚ z) -ℚ (vf +ℚ vg) ≡ natural U *ℚ y -ℚ vf +ℚ (natural U *ℚ z -ℚ vg)
    apart = ring 5 ℚR (λ u y z a b. u ⊠ (y ⊞ z) ⊟ (a ⊞ b)) (λ u y z a b. (u ⊠ y ⊟ a) ⊞ (u ⊠ z ⊟ b)) refl
        (natural U) y z vf vg

pub subtract_near : (f g : Model) (x : Point) (y z : ℚ) → Near f x y → Near g x z
    → IfAccepted (λ r. Near r x (y -ℚ z)) (subtract f g)
unfolding subtract
subtract_near f g x y z hf hg = add_near f (negate g) x y (negℚ z) hf (negate_near g x z hg)

-- ---- multiply
-- what rounding and sweeping change is at most their shares
kept_≤ : (d : ℕ) (zs : Terms) {n : ℕ} {x : Point} → InBox n x
    → abs ℚO (scaled_value zs x -ℚ natural U *ℚ scaled_value (kept d zs) x)
    ≤ℚ natural (rounding d zs + swept d zs)
unfolding kept rounding swept within_order above_order
kept_≤ d zs {x = x} b = ap (abs ℚO)
    (ap (λ v. v -ℚ natural U *ℚ w) (scaled_split x (λ k z. leb (degree k) d) zs)
    ∙ ring 3 ℚR (λ a h w. a ⊞ h ⊟ w) (λ a h w. (a ⊟ w) ⊞ h) refl _ _ (natural U *ℚ w))
    ≡≤ sum_≤ _ _ _ _ (rounded_≤ b _) (scaled_≤ b _)
  where
    w : ℚ
    w = scaled_value (kept d zs) x

pub multiply_near : (d : ℕ) (f g : Model) {n : ℕ} {x : Point} (y z : ℚ) → InBox n x → Near f x y → Near g x z
    → IfAccepted (λ r. Near r x (y *ℚ z)) (multiply d f g)
unfolding Near multiply
multiply_near d f g {x = x} y z b hf hg = limited_accepted {P = λ r. Near r x (y *ℚ z)} _ (U_cancel _ _
    (sym (U_abs _) ∙ ap (abs ℚO) apart
    ≡≤ triangle ℚO _ _
    ≤≤ +-mono ℚO (enclose_mul ℚO (natural U *ℚ y) vf (natural U *ℚ z) vg hf hg (scaled_≤ b f.terms)
    (scaled_≤ b g.terms)) (kept_≤ d zs b)
    ≤≤ shares
    ≡≤ natural_≤ _ _ (round_up_ok (error d f g))
    ≤≡ natural-* U _))
  where
    zs : Terms
    zs = products f g

    vf : ℚ
    vf = scaled_value f.terms x

    vg : ℚ
    vg = scaled_value g.terms x

    w : ℚ
    w = scaled_value (kept d zs) x

    apart : natural U *ℚ (natural U *ℚ (y *ℚ z) -ℚ scaled_value (drop_zeros (kept d zs)) x)
        ≡ (natural U *ℚ y) *ℚ (natural U *ℚ z) -ℚ vf *ℚ vg +ℚ (scaled_value zs x -ℚ natural U *ℚ w)
    apart = ap (λ v. natural U *ℚ (natural U *ℚ (y *ℚ z) -ℚ v)) (scaled_drop_zeros x (kept d zs))
        ∙ ring 6 ℚR (λ u y z w p q. u ⊠ (u ⊠ (y ⊠ z) ⊟ w))
        (λ u y z w p q. (u ⊠ y) ⊠ (u ⊠ z) ⊟ p ⊠ q ⊞ (p ⊠ q ⊟ u ⊠ w)) refl
        (natural U) y z w vf vg
        ∙ ap (λ v. (natural U *ℚ y) *ℚ (natural U *ℚ z) -ℚ vf *ℚ vg +ℚ (v -ℚ natural U *ℚ w))
        (sym (scaled_products x f g))

    shares : natural (size f.terms) *ℚ natural g.radius +ℚ natural (size g.terms) *ℚ natural f.radius
        +ℚ natural f.radius *ℚ natural g.radius +ℚ natural (rounding d zs + swept d zs)
        ≡ natural (error d f g)
    shares = unfold error carried in sym
        (ap natural (N_assoc (carried f g) (rounding d zs) (swept d zs)) ∙ natural-+ _ _
        ∙ ap (λ v. v +ℚ natural (rounding d zs + swept d zs))
        (natural-+ _ _ ∙ ap₂ ◌+ℚ◌ (natural-+ _ _ ∙ ap₂ ◌+ℚ◌ (natural-* _ _) (natural-* _ _)) (natural-* _ _)))
      where
        N_assoc : (a b c : ℕ) → (a + b) + c ≡ a + (b + c)
        N_assoc a b c = omega arith

-- ---- sweep
pub sweep_near : (t : ℕ) (f : Model) {n : ℕ} {x : Point} (y : ℚ) → InBox n x → Near f x y → Near (sweep t f) x y
unfolding Near sweep
sweep_near t f {x = x} y b h = ap (abs ℚO)
    (ring 3 ℚR (λ u s l. u ⊟ l) (λ u s l. (u ⊟ (s ⊞ l)) ⊞ s) refl (natural U *ℚ y) small large
    ∙ ap (λ v. natural U *ℚ y -ℚ v +ℚ small) (sym (scaled_split x (is_small t) f.terms)))
    ≡≤ sum_≤ _ _ _ _ h (scaled_≤ b (select (is_small t) f.terms))
  where
    small : ℚ
    small = scaled_value (select (is_small t) f.terms) x

    large : ℚ
    large = scaled_value (select (λ k c. not (is_small t k c)) f.terms) x
