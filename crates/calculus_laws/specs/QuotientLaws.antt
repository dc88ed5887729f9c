-- The quotient encloses: where it is accepted, the divisor is not zero and f / g is within the result; at one point.
use Rattle.std.specs.Prelude.{◌≡◌, ◌≢◌, ℕ, ◌+◌, ◌-◌, ◌*◌, ◌<◌, ◌≤◌, ltb, ℤ, pos, nat_abs}
use Rattle.std.proofs.Math.Path.{refl, ap}
use Rattle.std.proofs.Common.{sym, ◌∙◌, ltb→lt, leb→le}
use Rattle.std.proofs.Math.Nat.{le-max_left, le-max_right}
use native.Mathlib.Omega.{arith}
use Rattle.algebra.specs.RingSolver.{𝟎, 𝟏, ◌⊞◌, ◌⊟◌, ◌⊠◌, ⊝◌, ring}
use Rattle.algebra.specs.Ordered.{abs}
use Rattle.algebra.specs.OrderedLaws.{abs_neg_eq, abs_mul, abs_nonneg, abs_le, le_abs, neg_le_abs, triangle}
use Rattle.algebra.specs.OrderedLaws.{+-mono, *-mono, neg_mono}
use Rattle.algebra.specs.FieldLaws.{reciprocal_nonneg}
use Rattle.algebra.proofs.Rational.{ℚ, ◌+ℚ◌, ◌*ℚ◌, negℚ, ◌/ℚ◌, whole, ◌≤ℚ◌, reciprocal}
use Rattle.algebra.proofs.RationalRing.{ℚR}
use Rattle.algebra.proofs.RationalOrder.{ℚO}
use Rattle.algebra.proofs.RationalField.{ℚF}
use Rattle.algebra.proofs.RationalLaws.{/ℚ_back, whole_reciprocal, ≤-whole}
use Rattle.numbers.specs.Division.{divided_up}
use Rattle.numbers.specs.Fixed.{U}
use Rattle.numbers.proofs.DivisionLaws.{divided_up_ok}
use Rattle.calculus.specs.Model.{Model, one_model, ◌-ℚ◌, Point, InBox, value}
use Rattle.calculus.specs.Refusal.{uncertified}
use Rattle.calculus.specs.Operations.{Ends, range, widen, bare, defect, deviation}
use Rattle.calculus.specs.Operations.{largest_end, largest_value, quotient_radius, certified, quotient}
use Rattle.calculus.specs.Functions.{Lies}
use Rattle.calculus_laws.specs.RefusalLaws.{IfAccepted, require_accepted, then_accepted, always}
use Rattle.calculus_laws.specs.UnitLaws.{natural, natural-+, natural-*, natural_≤, abs_whole}
use Rattle.calculus_laws.specs.UnitLaws.{U_abs}
use Rattle.calculus_laws.specs.ValueLaws.{Near, U_value}
use Rattle.calculus_laws.specs.EnclosureLaws.{limited_accepted, exact_near, one_near, subtract_near}
use Rattle.calculus_laws.specs.EnclosureLaws.{multiply_near}
use Rattle.calculus_laws.specs.RangeLaws.{range_encloses}
use Rattle.calculus_laws.specs.ChainLaws.{◌≤≤◌, ◌≡≤◌, ◌≤≡◌}
open ℚO use {≤-refl}
open ℚR use {*-one, *-comm, *-assoc}

-- ---- fractions F, G, H, W: from |U W (G H - F)| ≤ β and |U (1 - W G)| ≤ μ < U
-- a factor from 1 is cancelled
cancel : (k : ℕ) (x y : ℚ) → 0 < k → x *ℚ natural k ≤ℚ y *ℚ natural k → x ≤ℚ y
cancel k x y l h = sym (back x) ≡≤ *-mono ℚO (reciprocal_nonneg ℚF k l) h ≤≡ back y
  where
    back : (z : ℚ) → z *ℚ natural k *ℚ reciprocal k ≡ z
    back z = *-assoc z (natural k) (reciprocal k) ∙ ap (λ w. z *ℚ w) (whole_reciprocal k l) ∙ *-one z

-- G is not zero, for then 1 - W G would be 1
nonzero : (G W : ℚ) (μ : ℕ) → abs ℚO (natural U *ℚ (natural 1 -ℚ W *ℚ G)) ≤ℚ natural μ → μ < U → G ≢ natural 0
nonzero G W μ h small z = omega (arith, leb→le U μ (≤-whole (pos U) (pos μ) (sym at_zero ≡≤ h)).le)
  where
    at_zero : abs ℚO (natural U *ℚ (natural 1 -ℚ W *ℚ G)) ≡ natural U
    at_zero = ap (λ g. abs ℚO (natural U *ℚ (natural 1 -ℚ W *ℚ g))) z
        ∙ ap (abs ℚO) (ring 2 ℚR (λ u w. u ⊠ (𝟏 ⊟ w ⊠ 𝟎)) (λ u w. u) refl (natural U) W) ∙ abs_whole (pos U)

module _ (F G H W : ℚ) (β μ r : ℕ)
    (h1 : abs ℚO (natural U *ℚ (W *ℚ (G *ℚ H -ℚ F))) ≤ℚ natural β)
    (h2 : abs ℚO (natural U *ℚ (natural 1 -ℚ W *ℚ G)) ≤ℚ natural μ)
    (small : μ < U) (large : β * U ≤ (U - μ) * r) where
  abbrev D : ℚ
  D = F /ℚ G -ℚ H

  abbrev y1 : ℚ
  y1 = natural U *ℚ (W *ℚ (G *ℚ H -ℚ F))

  abbrev y2 : ℚ
  y2 = natural U *ℚ (natural 1 -ℚ W *ℚ G)

  -- (1 - W G) D - W (G H - F) is D
  apart : natural U *ℚ D ≡ y2 *ℚ D +ℚ negℚ y1
  apart = ring 5 ℚR (λ u w g h q. u ⊠ (q ⊟ h)) (λ u w g h q. u ⊠ (𝟏 ⊟ w ⊠ g) ⊠ (q ⊟ h) ⊞ ⊝ (u ⊠ (w ⊠ (g ⊠ h ⊟ g ⊠ q))))
      refl (natural U) W G H (F /ℚ G)
      ∙ ap (λ f. natural U *ℚ (natural 1 -ℚ W *ℚ G) *ℚ (F /ℚ G -ℚ H) +ℚ negℚ (natural U *ℚ (W *ℚ (G *ℚ H -ℚ f))))
      (/ℚ_back F G (nonzero G W μ h2 small))

  bound : natural U *ℚ abs ℚO D ≤ℚ natural μ *ℚ abs ℚO D +ℚ natural β
  bound = sym (U_abs D) ∙ ap (abs ℚO) apart
      ≡≤ triangle ℚO _ _
      ≤≤ +-mono ℚO (abs_mul ℚO y2 D ≡≤ *-mono ℚO (abs_nonneg ℚO D) h2) (abs_neg_eq ℚO y1 ≡≤ h1)

  split : natural U ≡ natural (U - μ) +ℚ natural μ
  split = ap natural (let e : U ≡ (U - μ) + μ = omega arith in e) ∙ natural-+ (U - μ) μ

  -- so (U - μ) |D| is at most β
  left : abs ℚO D *ℚ natural (U - μ) ≤ℚ natural β
  left = ring 3 ℚR (λ d k m. d ⊠ k) (λ d k m. (k ⊞ m) ⊠ d ⊟ m ⊠ d) refl (abs ℚO D) (natural (U - μ)) (natural μ)
      ∙ ap (λ u. u *ℚ abs ℚO D -ℚ natural μ *ℚ abs ℚO D) (sym split)
      ≡≤ +-mono ℚO bound (≤-refl _)
      ≤≡ ring 2 ℚR (λ m b. m ⊞ b ⊟ m) (λ m b. b) refl (natural μ *ℚ abs ℚO D) (natural β)

  -- and U |D| at most β U / (U - μ)
  enclosed : abs ℚO (natural U *ℚ D) ≤ℚ natural r
  enclosed = U_abs D ≡≤ cancel (U - μ) _ _ (omega arith)
      (*-assoc (natural U) (abs ℚO D) (natural (U - μ)) ∙ *-comm (natural U) _
      ≡≤ *-mono ℚO (natural_≤ 0 U (omega arith)) left
      ≤≤ sym (natural-* β U)
      ≡≤ natural_≤ _ _ large
      ≤≡ natural-* (U - μ) r ∙ *-comm _ _)

-- ---- what lies in a range is at most its largest end
end_≤ : (z : ℤ) → whole z ≤ℚ natural (nat_abs z)
end_≤ z = le_abs ℚO (whole z) ≤≡ abs_whole z

minus_end_≤ : (z : ℤ) → negℚ (whole z) ≤ℚ natural (nat_abs z)
minus_end_≤ z = neg_le_abs ℚO (whole z) ≤≡ abs_whole z

lies_≤ : (y : ℚ) (e : Ends) → Lies y e → abs ℚO (natural U *ℚ y) ≤ℚ natural (largest_end e)
unfolding largest_end
lies_≤ y e l = abs_le ℚO
    (l.to ≤≤ end_≤ e.high ≤≤ natural_≤ _ _ (le-max_right (nat_abs e.low) (nat_abs e.high)))
    (neg_mono ℚO l.from ≤≤ minus_end_≤ e.low
    ≤≤ natural_≤ _ _ (le-max_left (nat_abs e.low) (nat_abs e.high)))

pub largest_encloses : (m : Model) {n : ℕ} {x : Point} (y : ℚ) → InBox n x → Near m x y
    → abs ℚO (natural U *ℚ y) ≤ℚ natural (largest_value m)
unfolding largest_value
largest_encloses m y b h = lies_≤ y (range m) (range_encloses m y b h)

-- ---- the two forms enclose
module _ (d : ℕ) (f g h w : Model) {n : ℕ} {x : Point} (F G : ℚ) (b : InBox n x) (hf : Near f x F) (hg : Near g x G)
  where
    -- the values of the polynomials of h and w
    abbrev H : ℚ
    H = value h x

    abbrev W : ℚ
    W = value w x

    bare_near : (m : Model) → Near (bare m) x (value m x)
    unfolding bare
    bare_near m = exact_near _ x (value m x) refl (U_value m x)

    defect_near : IfAccepted (λ y. Near y x (W *ℚ (G *ℚ H -ℚ F))) (defect d f g h w)
    unfolding defect
    defect_near = then_accepted (then_accepted (multiply_near d g (bare h) G H b hg (bare_near h))
        (λ p hp. subtract_near p f x (G *ℚ H) F hp hf))
        (λ q hq. multiply_near d (bare w) q W (G *ℚ H -ℚ F) b (bare_near w) hq)

    deviation_near : IfAccepted (λ z. Near z x (natural 1 -ℚ W *ℚ G)) (deviation d g w)
    unfolding deviation
    deviation_near = then_accepted (multiply_near d (bare w) g W G b (bare_near w) hg)
        (λ p hp. subtract_near (one_model g.vars) p x (natural 1) (W *ℚ G) (one_near g.vars x) hp)

    -- ---- the quotient
    certified_near : (β μ : ℕ) → abs ℚO (natural U *ℚ (W *ℚ (G *ℚ H -ℚ F))) ≤ℚ natural β
        → abs ℚO (natural U *ℚ (natural 1 -ℚ W *ℚ G)) ≤ℚ natural μ
        → IfAccepted (λ m. Near m x (F /ℚ G)) (certified h β μ)
    unfolding certified widen bare Near quotient_radius
    certified_near β μ h1 h2 = require_accepted (ltb μ U) uncertified _ (λ t.
        limited_accepted {P = λ m. Near m x (F /ℚ G)}
        (record { vars = h.vars; radius = 0 + quotient_radius β μ; terms = h.terms })
        (ap (λ v. abs ℚO (natural U *ℚ (F /ℚ G) -ℚ v)) (sym (U_value h x))
        ∙ ap (abs ℚO) (ring 3 ℚR (λ u q v. u ⊠ q ⊟ u ⊠ v) (λ u q v. u ⊠ (q ⊟ v)) refl (natural U) (F /ℚ G) H)
        ≡≤ enclosed F G H W β μ (quotient_radius β μ) h1 h2 (ltb→lt μ U t) (covers (ltb→lt μ U t))
        ≤≡ ap natural (let e : quotient_radius β μ ≡ 0 + quotient_radius β μ = omega arith in e)))
      where
        covers : μ < U → β * U ≤ (U - μ) * divided_up (β * U) (U - μ)
        covers l = divided_up_ok (β * U) (U - μ) (omega arith)

    pub quotient_near : IfAccepted (λ m. Near m x (F /ℚ G)) (quotient d f g h w)
    unfolding quotient
    quotient_near = then_accepted defect_near (λ y hy. then_accepted deviation_near (λ z hz.
        certified_near _ _ (largest_encloses y _ b hy) (largest_encloses z _ b hz)))

    -- and what it divides by is not zero
    pub divisor_nonzero : IfAccepted (λ m. G ≢ natural 0) (quotient d f g h w)
    unfolding quotient certified
    divisor_nonzero = then_accepted (always (tt {0}) _) (λ y _. then_accepted deviation_near (λ z hz.
        require_accepted (ltb (largest_value z) U) uncertified _ (λ t.
        always (nonzero G W (largest_value z) (largest_encloses z _ b hz) (ltb→lt (largest_value z) U t)) _)))
