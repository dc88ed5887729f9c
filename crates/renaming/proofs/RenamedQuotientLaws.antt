-- The quotient of renamed models, checked from a renamed proposal, is the renamed quotient or the same refusal.
use Rattle.std.specs.Prelude.{◌≡◌, ℕ, ltb, pos}
use Rattle.std.proofs.Math.Path.{refl, ap, ap₂}
use Rattle.std.proofs.Common.{sym, ◌∙◌, subst}
use Rattle.numbers.specs.Fixed.{U}
use Rattle.numbers.proofs.FixedLaws.{U_within}
use Rattle.calculus.specs.Model.{Model, one_model}
use Rattle.calculus.specs.Refusal.{uncertified, Answer, require, ◌then◌}
use Rattle.calculus.specs.Operations.{subtract, multiply, widen, bare, defect, deviation, largest_value}
use Rattle.calculus.specs.Operations.{quotient_radius, certified, quotient}
use Rattle.calculus_laws.specs.RefusalLaws.{IfAccepted, then_accepted}
use Rattle.calculus_laws.specs.SoundLaws.{Canonical, Sound, constant_sound, subtract_sound, multiply_sound}
use Rattle.calculus_laws.specs.SoundLaws.{bare_canonical, one_constant}
use Rattle.renaming.specs.Reordering.{Reordering, rename_model}
use Rattle.renaming.specs.RenamedAnswerLaws.{rename_answer, then_renamed, require_renamed}
use Rattle.renaming.proofs.RenamedModelLaws.{canonical_in_order, widen_renamed, largest_value_renamed}
use Rattle.renaming.proofs.RenamedOperationLaws.{constant_renamed, subtract_renamed}
use Rattle.renaming.proofs.RenamedProductLaws.{multiply_renamed}

module _ {n : ℕ} (ρ : Reordering n) (d : ℕ) where
  bare_renamed : (m : Model) → bare (rename_model ρ m) ≡ rename_model ρ (bare m)
  unfolding bare rename_model
  bare_renamed m = refl

  one_renamed : one_model n ≡ rename_model ρ (one_model n)
  one_renamed = one_constant n ∙ constant_renamed ρ (pos U) ∙ ap (rename_model ρ) (sym (one_constant n))

  product_renamed : (f g : Model) → Canonical n d f → Canonical n d g
      → multiply d (rename_model ρ f) (rename_model ρ g) ≡ rename_answer ρ (multiply d f g)
  product_renamed f g h k = multiply_renamed ρ f g (canonical_in_order h) (canonical_in_order k) d

  module _ (f g h w : Model) (cf : Canonical n d f) (cg : Canonical n d g) (ch : Canonical n d h)
      (cw : Canonical n d w) where
    -- ---- w × (g × h - f)
    first_product : multiply d (rename_model ρ g) (bare (rename_model ρ h)) ≡ rename_answer ρ (multiply d g (bare h))
    first_product = ap (multiply d (rename_model ρ g)) (bare_renamed h)
        ∙ product_renamed g (bare h) cg (bare_canonical n d h ch)

    first_sound : IfAccepted (Sound n d) (multiply d g (bare h))
    first_sound = multiply_sound n d g (bare h) cg (bare_canonical n d h ch)

    -- g × h - f
    difference : Answer Model
    difference = multiply d g (bare h) then (λ p. subtract p f)

    difference_renamed : (multiply d (rename_model ρ g) (bare (rename_model ρ h))
        then (λ p. subtract p (rename_model ρ f))) ≡ rename_answer ρ difference
    unfolding difference
    difference_renamed = ap (λ a. a then (λ p. subtract p (rename_model ρ f))) first_product
        ∙ then_renamed ρ {P = Sound n d} (multiply d g (bare h)) (λ p. subtract p f) _ first_sound
        (λ p s. subtract_renamed ρ d p f s.0 cf)

    difference_sound : IfAccepted (Sound n d) difference
    unfolding difference
    difference_sound = then_accepted first_sound (λ p s. subtract_sound n d p f s.0 cf)

    defect_renamed : defect d (rename_model ρ f) (rename_model ρ g) (rename_model ρ h) (rename_model ρ w)
        ≡ rename_answer ρ (defect d f g h w)
    unfolding defect difference
    defect_renamed = ap₂ (λ a m. a then multiply d m) difference_renamed (bare_renamed w)
        ∙ then_renamed ρ {P = Sound n d} difference (multiply d (bare w)) _ difference_sound
        (λ p s. product_renamed (bare w) p (bare_canonical n d w cw) s.0)

    defect_sound : IfAccepted (Sound n d) (defect d f g h w)
    unfolding defect difference
    defect_sound = then_accepted difference_sound
        (λ p s. multiply_sound n d (bare w) p (bare_canonical n d w cw) s.0)

    -- ---- 1 - w × g
    second_product : multiply d (bare (rename_model ρ w)) (rename_model ρ g) ≡ rename_answer ρ (multiply d (bare w) g)
    second_product = ap (λ m. multiply d m (rename_model ρ g)) (bare_renamed w)
        ∙ product_renamed (bare w) g (bare_canonical n d w cw) cg

    second_sound : IfAccepted (Sound n d) (multiply d (bare w) g)
    second_sound = multiply_sound n d (bare w) g (bare_canonical n d w cw) cg

    -- the model of 1 has the variables of g
    one_of : one_model (rename_model ρ g).vars ≡ rename_model ρ (one_model g.vars)
    unfolding rename_model
    one_of = ap one_model cg.vars ∙ one_renamed ∙ ap (λ v. rename_model ρ (one_model v)) (sym cg.vars)

    one_canonical : Canonical n d (one_model g.vars)
    one_canonical = subst (Canonical n d) (sym (ap one_model cg.vars ∙ one_constant n))
        (constant_sound n d (pos U) U_within).0

    deviation_renamed : deviation d (rename_model ρ g) (rename_model ρ w) ≡ rename_answer ρ (deviation d g w)
    unfolding deviation
    deviation_renamed = ap₂ (λ a m. a then subtract m) second_product one_of
        ∙ then_renamed ρ {P = Sound n d} (multiply d (bare w) g) (subtract (one_model g.vars)) _ second_sound
        (λ p s. subtract_renamed ρ d (one_model g.vars) p one_canonical s.0)

    deviation_sound : IfAccepted (Sound n d) (deviation d g w)
    unfolding deviation
    deviation_sound = then_accepted second_sound
        (λ p s. subtract_sound n d (one_model g.vars) p one_canonical s.0)

    -- ---- the whole
    certified_renamed : (beta mu : ℕ)
        → certified (rename_model ρ h) beta mu ≡ rename_answer ρ (certified h beta mu)
    unfolding certified
    certified_renamed beta mu = ap (require (ltb mu U) uncertified)
        (ap (widen (quotient_radius beta mu)) (bare_renamed h)
        ∙ widen_renamed ρ (quotient_radius beta mu) (bare h) (canonical_in_order (bare_canonical n d h ch)))
        ∙ require_renamed ρ (ltb mu U) uncertified _

    -- beta and mu stay
    checked_renamed : (y z : Model) → Canonical n d y → Canonical n d z
        → certified (rename_model ρ h) (largest_value (rename_model ρ y)) (largest_value (rename_model ρ z))
        ≡ rename_answer ρ (certified h (largest_value y) (largest_value z))
    checked_renamed y z cy cz = ap₂ (certified (rename_model ρ h))
        (largest_value_renamed ρ y (canonical_in_order cy)) (largest_value_renamed ρ z (canonical_in_order cz))
        ∙ certified_renamed (largest_value y) (largest_value z)

    pub quotient_renamed : quotient d (rename_model ρ f) (rename_model ρ g) (rename_model ρ h) (rename_model ρ w)
        ≡ rename_answer ρ (quotient d f g h w)
    unfolding quotient
    quotient_renamed = ap₂ (λ a b. a then (λ y. b then (λ z.
        certified (rename_model ρ h) (largest_value y) (largest_value z)))) defect_renamed deviation_renamed
        ∙ then_renamed ρ {P = Sound n d} (defect d f g h w) _ _ defect_sound (λ y s.
        then_renamed ρ {P = Sound n d} (deviation d g w) _ _ deviation_sound (λ z t.
        checked_renamed y z s.0 t.0))
