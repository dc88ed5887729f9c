-- A mirrored curve: turning the signs of one factor turns those of the product and leaves its radius, or its refusal.
use Rattle.std.specs.Prelude.{◌≡◌, Bool, [], ◌∷◌, eqb, length}
use Rattle.std.proofs.Math.Path.{refl, ap, ap₂}
use Rattle.std.proofs.Common.{◌∙◌, arith}
use Rattle.std.proofs.Math.Bool.{true, false, not}
use Prim.Native.Nat.{ℕ, ◌+◌, ◌*◌}
use Rattle.std.proofs.Math.Dec.{leb}
use Rattle.std.proofs.Math.IntN.{neg_ℤ}
use Rattle.algebra.specs.Integer.{natAbs_neg}
use Rattle.numbers.specs.Fixed.{span_limit, residual, round, round_up}
use Rattle.numbers.proofs.FixedLaws.{round_neg, residual_neg}
use Rattle.calculus.specs.Monomial.{degree}
use Rattle.calculus.specs.Terms.{Terms, term, sum_ℕ, size, map_coefficients, is_nonzero, drop_zeros, collect}
use Rattle.calculus.specs.Model.{Model, most_terms, span}
use Rattle.calculus.specs.Refusal.{over_span, too_many_terms, Answer, accepted, refused, require, ◌then◌}
use Rattle.calculus.specs.Operations.{limited, negate, products, within_order, above_order, kept, rounding, swept}
use Rattle.calculus.specs.Operations.{carried, error, multiply}
use Rattle.calculus_laws.specs.SumLaws.{ℕ_addition, sum_map_coefficients, sum_cong}
use Rattle.calculus_laws.specs.TurnedLaws.{turned, size_turned, length_turned, turned_twice, select_turned}
use Rattle.calculus_laws.specs.TurnedLaws.{collect_turned, product_turned_first, product_turned_second}

-- ---- z
-- z turns at every monomial
pub products_first : (f g : Model) → products (negate f) g ≡ turned (products f g)
unfolding products negate
products_first f g = ap collect (product_turned_first f.terms g.terms) ∙ collect_turned _

pub products_second : (f g : Model) → products f (negate g) ≡ turned (products f g)
unfolding products negate
products_second f g = ap collect (product_turned_second f.terms g.terms) ∙ collect_turned _

-- ---- what the order keeps and loses
round_turned : (p : Terms) → map_coefficients round (turned p) ≡ turned (map_coefficients round p)
unfolding map_coefficients
round_turned [] = refl
round_turned (t ∷ p) = ap₂ (λ z r. term z t.exponents ∷ r) (round_neg t.coefficient) (round_turned p)

module _ (d : ℕ) (zs : Terms) where
  within_turned : within_order d (turned zs) ≡ turned (within_order d zs)
  unfolding within_order
  within_turned = select_turned (λ k z. leb (degree k) d) (λ k z. refl) zs

  -- the coefficients turn, since the rounding does
  kept_turned : kept d (turned zs) ≡ turned (kept d zs)
  unfolding kept
  kept_turned = ap (map_coefficients round) within_turned ∙ round_turned (within_order d zs)

  -- and as much is lost
  rounding_turned : rounding d (turned zs) ≡ rounding d zs
  unfolding rounding
  rounding_turned = ap (sum_ℕ (λ k z. residual z)) within_turned
      ∙ sum_map_coefficients ℕ_addition (λ k z. residual z) neg_ℤ (within_order d zs)
      ∙ sum_cong ℕ_addition _ (λ k z. residual z) (λ k z. residual_neg z) (within_order d zs)

  swept_turned : swept d (turned zs) ≡ swept d zs
  unfolding swept above_order
  swept_turned = ap size (select_turned (λ k z. not (leb (degree k) d)) (λ k z. refl) zs)
      ∙ size_turned (above_order d zs)

drop_zeros_turned : (p : Terms) → drop_zeros (turned p) ≡ turned (drop_zeros p)
unfolding drop_zeros is_nonzero
drop_zeros_turned p =
    select_turned (λ k c. is_nonzero c) (λ k c. ap (λ n. not (eqb n 0)) (natAbs_neg c)) p

-- ---- answers
-- the model with all signs turned; a refusal stays
unfoldable pub mirrored : Answer Model → Answer Model
mirrored a = a then (λ m. accepted (negate m))

-- turning twice is nothing
pub negate_twice : (f : Model) → negate (negate f) ≡ f
unfolding negate
negate_twice f = ap (λ p. record { vars = f.vars; radius = f.radius; terms = p }) (turned_twice f.terms)

pub mirrored_twice : (a : Answer Model) → mirrored (mirrored a) ≡ a
unfolding mirrored ◌then◌
mirrored_twice (accepted m) = ap accepted (negate_twice m)
mirrored_twice (refused r) = refl

-- the limits do not see the signs
limited_mirrored : (m : Model) → limited (negate m) ≡ mirrored (limited m)
unfolding limited negate span mirrored
limited_mirrored m =
    ap₂ (λ n s. require (leb n most_terms) too_many_terms (require (leb (s + m.radius) span_limit) over_span
    (accepted (negate m)))) (length_turned m.terms) (size_turned m.terms)
    ∙ go (leb (length m.terms) most_terms) (leb (span m) span_limit)
  where
    go : (b c : Bool) → require b too_many_terms (require c over_span (accepted (negate m)))
        ≡ (require b too_many_terms (require c over_span (accepted m)) then (λ m. accepted (negate m)))
    go true true = unfold require ◌then◌ in refl
    go true false = unfold require ◌then◌ in refl
    go false c = unfold require ◌then◌ in refl

-- ---- the product
-- z turned at every monomial, and the same carried: the product is mirrored
module _ (d : ℕ) (f g h k : Model) where
  multiply_turned : f.vars ≡ h.vars → carried f g ≡ carried h k → products f g ≡ turned (products h k)
      → multiply d f g ≡ mirrored (multiply d h k)
  unfolding multiply error negate
  multiply_turned v c z = ap limited (λ i. record {
    vars = v i;
    radius = round_up (radius i);
    terms = terms i;
  }) ∙ limited_mirrored _
    where
      radius : error d f g ≡ error d h k
      radius = ap₂ ◌+◌ (ap₂ ◌+◌ c (ap (rounding d) z ∙ rounding_turned d (products h k)))
          (ap (swept d) z ∙ swept_turned d (products h k))

      terms : drop_zeros (kept d (products f g)) ≡ turned (drop_zeros (kept d (products h k)))
      terms = ap (λ p. drop_zeros (kept d p)) z ∙ ap drop_zeros (kept_turned d (products h k))
          ∙ drop_zeros_turned (kept d (products h k))

module _ (d : ℕ) (f g : Model) where
  -- the first factor turned: the product turned with the same radius, or the same refusal
  pub mirrored_first : multiply d (negate f) g ≡ mirrored (multiply d f g)
  mirrored_first = multiply_turned d (negate f) g f g (unfold negate in refl)
      (unfold carried negate in omega (arith, ap (λ a. a * g.radius) (size_turned f.terms)))
      (products_first f g)

  -- the second
  pub mirrored_second : multiply d f (negate g) ≡ mirrored (multiply d f g)
  mirrored_second = multiply_turned d f (negate g) f g refl
      (unfold carried negate in omega (arith, ap (λ b. b * f.radius) (size_turned g.terms)))
      (products_second f g)

-- both turned: the product stays
pub mirrored_both : (d : ℕ) (f g : Model) → multiply d (negate f) (negate g) ≡ multiply d f g
mirrored_both d f g = mirrored_first d f (negate g) ∙ ap mirrored (mirrored_second d f g) ∙ mirrored_twice _
