-- Horner's rule encloses the substitution.
use Rattle.std.specs.Prelude.{◌≡◌, Bool, not, leb, ℤ, length}
use Rattle.std.proofs.Math.Path.{refl, ap, ap₂, subst}
use Rattle.std.proofs.Common.{sym, ◌∙◌, eqb→eq, leb→le}
use Rattle.std.proofs.Math.Bool.{true, false}
use mathlib.Core.List.{List, [], ◌∷◌}
use Prim.Native.Nat.{ℕ, zero, suc, ◌-◌, ◌<◌, ◌≤◌}
use native.Mathlib.Omega.{arith}
use Rattle.std.proofs.Math.Dec.{T, eqb, nleb→lt, eqb_refl}
use Rattle.algebra.specs.Ring.{pow}
use Rattle.algebra.specs.RingSolver.{𝟎, 𝟏, ◌⊞◌, ◌⊟◌, ◌⊠◌, ring}
use Rattle.algebra.specs.Ordered.{abs}
use Rattle.algebra.proofs.Rational.{ℚ, ◌+ℚ◌, ◌*ℚ◌, whole, ◌≤ℚ◌, reciprocal}
use Rattle.algebra.proofs.RationalRing.{ℚR}
use Rattle.algebra.proofs.RationalOrder.{ℚO}
use Rattle.polynomial.specs.Polynomial.{monomial, exponent, without, replace}
use Rattle.polynomial.proofs.PolynomialLaws.{monomial_replace}
use Rattle.polynomial.proofs.BoxLaws.{box_length}
use Rattle.numbers.specs.Fixed.{U}
use Rattle.calculus.specs.Monomial.{index_of}
use Rattle.calculus.specs.Terms.{Terms, sum_over}
use Rattle.calculus.specs.Model.{Model, ◌-ℚ◌, Point, InBox}
use Rattle.calculus.specs.Refusal.{leaves_box}
use Rattle.calculus.specs.Operations.{add, range_in_box, largest_exponent, part_terms, part, horner, widen}
use Rattle.calculus.specs.Operations.{substitute}
use Rattle.calculus.specs.Functions.{with_coordinate}
use Rattle.calculus_laws.specs.RefusalLaws.{IfAccepted, holds, require_accepted, then_accepted}
use Rattle.calculus_laws.specs.SumLaws.{ℚ_addition, if_ℚ, if_so, sum_cong, sum_select, sum_map_monomials}
use Rattle.calculus_laws.specs.UnitLaws.{natural, U_inverse}
use Rattle.calculus_laws.specs.ValueLaws.{term_value, scaled_value, Near, sum_≤}
use Rattle.calculus_laws.specs.EnclosureLaws.{exact_near, limited_accepted, multiply_near, add_near}
use Rattle.calculus_laws.specs.RangeLaws.{in_box_encloses}
use Rattle.calculus_laws.specs.ChainLaws.{◌≡≤◌}
open ℚR use {+-zero, *-assoc}

-- z / U, for any fraction z
abbrev over : ℚ → ℚ
over z = z *ℚ reciprocal U

over_back : (z : ℚ) → natural U *ℚ over z ≡ z
over_back z = ring 3 ℚR (λ u z v. u ⊠ (z ⊠ v)) (λ u z v. (u ⊠ v) ⊠ z) refl (natural U) z (reciprocal U)
    ∙ ap (λ w. w *ℚ z) U_inverse ∙ ring 1 ℚR (λ z. 𝟏 ⊠ z) (λ z. z) refl z

pow_zero : (y : ℚ) → pow ℚR y 0 ≡ natural 1
unfolding pow
pow_zero y = refl

pow-suc : (y : ℚ) (n : ℕ) → pow ℚR y (suc n) ≡ y *ℚ pow ℚR y n
unfolding pow
pow-suc y n = refl

module _ (i : ℕ) (y : ℚ) (x : Point) where
  -- the exponent of variable i
  abbrev e : List ℕ → ℕ
  e j = exponent (index_of i) j

  -- what a term is worth without variable i
  rest_value : List ℕ → ℤ → ℚ
  rest_value j c = whole c *ℚ monomial ℚR (without (index_of i) j) x

  -- ---- tail k: the sum of f_j y^(j - k) over j from k on
  tail_term : ℕ → List ℕ → ℤ → ℚ
  tail_term k j c = if_ℚ (leb k (e j)) (rest_value j c *ℚ pow ℚR y (e j - k))

  tail : ℕ → Terms → ℚ
  tail k p = sum_over ◌+ℚ◌ (natural 0) (tail_term k) p

  -- the share of a term in f_k
  part_term : ℕ → List ℕ → ℤ → ℚ
  part_term k j c = if_ℚ (eqb (e j) k) (rest_value j c)

  part_value : (k : ℕ) (p : Terms) → scaled_value (part_terms i k p) x ≡ sum_over ◌+ℚ◌ (natural 0) (part_term k) p
  unfolding part_terms scaled_value part_term rest_value
  part_value k p = sum_map_monomials ℚ_addition (term_value x) (without (index_of i)) _
      ∙ sum_select ℚ_addition (λ j c. term_value x (without (index_of i) j) c) (λ j c. eqb (e j) k) p

  -- tail k is tail (k + 1) times y plus f_k
  tail_term_step : (k : ℕ) (j : List ℕ) (c : ℤ) → tail_term k j c ≡ tail_term (suc k) j c *ℚ y +ℚ part_term k j c
  unfolding tail_term part_term if_so
  tail_term_step k j c = go (leb k (e j)) (leb (suc k) (e j)) (eqb (e j) k) (leb→le k (e j)) (nleb→lt k (e j))
      (leb→le (suc k) (e j)) (nleb→lt (suc k) (e j)) (eqb→eq (e j) k)
      (λ q. subst (λ z. T (eqb z k)) (sym q) (eqb_refl k))
    where
      r : ℚ
      r = rest_value j c

      go : (a b d : Bool) → (T a → k ≤ e j) → (T (not a) → e j < k) → (T b → suc k ≤ e j)
          → (T (not b) → e j < suc k) → (T d → e j ≡ k) → (e j ≡ k → T d)
          → if_ℚ a (r *ℚ pow ℚR y (e j - k)) ≡ if_ℚ b (r *ℚ pow ℚR y (e j - suc k)) *ℚ y +ℚ if_ℚ d r
      go true true true f f' g g' h h' = absurd (let p = g tt in let q = h tt in omega arith)
      go true true false f f' g g' h h' = ap (λ z. r *ℚ z) (ap (pow ℚR y) (let p = g tt in
          let s : e j - k ≡ suc (e j - suc k) = omega arith in s) ∙ pow-suc y (e j - suc k))
          ∙ ring 3 ℚR (λ r y p. r ⊠ (y ⊠ p)) (λ r y p. r ⊠ p ⊠ y ⊞ 𝟎) refl r y (pow ℚR y (e j - suc k))
      go true false true f f' g g' h h' = ap (λ z. r *ℚ z) (ap (pow ℚR y) (let p = h tt in
          let s : e j - k ≡ 0 = omega arith in s) ∙ pow_zero y)
          ∙ ring 2 ℚR (λ r y. r ⊠ 𝟏) (λ r y. 𝟎 ⊠ y ⊞ r) refl r y
      go true false false f f' g g' h h' = absurd (h' (let p = f tt in let q = g' tt in omega arith))
      go false true d f f' g g' h h' = absurd (let p = f' tt in let q = g tt in omega arith)
      go false false true f f' g g' h h' = absurd (let p = f' tt in let q = h tt in omega arith)
      go false false false f f' g g' h h' = ring 1 ℚR (λ y. 𝟎) (λ y. 𝟎 ⊠ y ⊞ 𝟎) refl y

  tail_sum : (k : ℕ) (p : Terms) → tail k p ≡ tail (suc k) p *ℚ y +ℚ sum_over ◌+ℚ◌ (natural 0) (part_term k) p
  unfolding tail sum_over
  tail_sum k [] = ring 1 ℚR (λ y. 𝟎) (λ y. 𝟎 ⊠ y ⊞ 𝟎) refl y
  tail_sum k (t ∷ p) = ap₂ ◌+ℚ◌ (tail_term_step k t.exponents t.coefficient) (tail_sum k p)
      ∙ ring 5 ℚR (λ a b c d y. a ⊠ y ⊞ b ⊞ (c ⊠ y ⊞ d)) (λ a b c d y. (a ⊞ c) ⊠ y ⊞ (b ⊞ d)) refl
      (tail_term (suc k) t.exponents t.coefficient) (part_term k t.exponents t.coefficient) (tail (suc k) p)
      (sum_over ◌+ℚ◌ (natural 0) (part_term k) p) y

  tail_step : (k : ℕ) (p : Terms) → tail k p ≡ tail (suc k) p *ℚ y +ℚ scaled_value (part_terms i k p) x
  tail_step k p = tail_sum k p ∙ ap (λ z. tail (suc k) p *ℚ y +ℚ z) (sym (part_value k p))

  -- above the largest exponent there is nothing
  tail_above : (k : ℕ) (p : Terms) → largest_exponent i p < k → tail k p ≡ natural 0
  unfolding tail largest_exponent sum_over tail_term
  tail_above k [] h = refl
  tail_above k (t ∷ p) h =
      ap₂ ◌+ℚ◌ (go (leb k (e t.exponents)) _ (leb→le k (e t.exponents))) (tail_above k p (omega arith)) ∙ +-zero _
    where
      go : (a : Bool) (r : ℚ) → (T a → k ≤ e t.exponents) → if_ℚ a r ≡ natural 0
      go true r f = absurd (let q = f tt in omega arith)
      go false r f = unfold if_so in refl

  tail_top : (p : Terms) → tail (largest_exponent i p) p ≡ scaled_value (part_terms i (largest_exponent i p) p) x
  tail_top p = tail_step (largest_exponent i p) p
      ∙ ap (λ z. z *ℚ y +ℚ scaled_value (part_terms i (largest_exponent i p) p) x)
      (tail_above (suc (largest_exponent i p)) p (omega arith))
      ∙ ring 2 ℚR (λ y a. 𝟎 ⊠ y ⊞ a) (λ y a. a) refl y _

  -- from 0 on there is all
  tail_all : (p : Terms) → index_of i < length x → tail 0 p ≡ scaled_value p (with_coordinate i y x)
  unfolding tail scaled_value with_coordinate tail_term rest_value
  tail_all p h = sum_cong ℚ_addition _ _ (λ j c. by_exponent j c (leb 0 (e j)) (nleb→lt 0 (e j))) p
    where
      by_exponent : (j : List ℕ) (c : ℤ) (a : Bool) → (T (not a) → e j < 0)
          → if_ℚ a (whole c *ℚ monomial ℚR (without (index_of i) j) x *ℚ pow ℚR y (e j - 0))
          ≡ term_value (replace (index_of i) y x) j c
      by_exponent j c true f = unfold if_so in
          (ap (λ n. whole c *ℚ monomial ℚR (without (index_of i) j) x *ℚ pow ℚR y n)
          (let s : e j - 0 ≡ e j = omega arith in s) ∙ *-assoc _ _ _
          ∙ ap (λ z. whole c *ℚ z) (sym (monomial_replace ℚR j (index_of i) y x h)))
      by_exponent j c false f = absurd (let q = f tt in omega arith)

  -- ---- the descent
  module _ (d : ℕ) (f g : Model) {n : ℕ} (b : InBox n x) (hg : Near g x y) where
    part_near : (k : ℕ) → Near (part i k f) x (over (scaled_value (part_terms i k f.terms) x))
    unfolding part
    part_near k = exact_near _ x _ refl (over_back _)

    over_step : (k : ℕ) → over (tail (suc k) f.terms) *ℚ y +ℚ over (scaled_value (part_terms i k f.terms) x)
        ≡ over (tail k f.terms)
    over_step k = ring 4 ℚR (λ a u y c. a ⊠ u ⊠ y ⊞ c ⊠ u) (λ a u y c. (a ⊠ y ⊞ c) ⊠ u) refl
        (tail (suc k) f.terms) (reciprocal U) y (scaled_value (part_terms i k f.terms) x)
        ∙ ap over (sym (tail_step k f.terms))

    horner_near : (k : ℕ) (h : Model) → Near h x (over (tail k f.terms))
        → IfAccepted (λ r. Near r x (over (tail 0 f.terms))) (horner d i f g k h)
    unfolding horner
    horner_near zero h l = holds l
    horner_near (suc k) h l = then_accepted
        (then_accepted (multiply_near d h g _ y b l hg)
        (λ p hp. subst (λ z. IfAccepted (λ r. Near r x z) (add p (part i k f)))
        (over_step k) (add_near p (part i k f) x _ _ hp (part_near k))))
        (λ r hr. horner_near k r hr)

    top_near : Near (part i (largest_exponent i f.terms) f) x
        (over (tail (largest_exponent i f.terms) f.terms))
    top_near = subst (λ z. Near (part i (largest_exponent i f.terms) f) x (over z))
        (sym (tail_top f.terms)) (part_near (largest_exponent i f.terms))

    -- the radius of f is added last
    widen_near : (h : Model) (w z : ℚ) → Near h x w → abs ℚO (natural U *ℚ z -ℚ natural U *ℚ w) ≤ℚ natural f.radius
        → IfAccepted (λ r. Near r x z) (widen f.radius h)
    unfolding Near widen
    widen_near h w z l k = limited_accepted {P = λ r. Near r x z} _
        (ap (abs ℚO) (ring 3 ℚR (λ z w a. z ⊟ a) (λ z w a. (w ⊟ a) ⊞ (z ⊟ w)) refl (natural U *ℚ z)
        (natural U *ℚ w) (scaled_value h.terms x))
        ≡≤ sum_≤ _ _ _ _ l k)

    -- z is within f at the point with y for coordinate i, which is in the box where the range of g is
    pub substitute_near : (z : ℚ) → index_of i < n → (abs ℚO y ≤ℚ natural 1 → Near f (with_coordinate i y x) z)
        → IfAccepted (λ r. Near r x z) (substitute d i f g)
    unfolding substitute Near
    substitute_near z l hf = require_accepted (range_in_box g) leaves_box _
        (λ t. then_accepted (horner_near (largest_exponent i f.terms) _ top_near)
        (λ r hr. widen_near r (over (tail 0 f.terms)) z hr
        (subst (λ w. abs ℚO (natural U *ℚ z -ℚ w) ≤ℚ natural f.radius) (sym all) (hf (in_box_encloses g y b t hg)))))
      where
        all : natural U *ℚ over (tail 0 f.terms) ≡ scaled_value f.terms (with_coordinate i y x)
        all = over_back _ ∙ tail_all f.terms (subst (λ k. index_of i < k) (sym (box_length ℚO b)) l)
