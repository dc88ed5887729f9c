-- `push` keeps or sweeps one sum.
use mathlib.Core.Path.{◌≡◌, sym, ◌∙◌, ap}
use mathlib.Core.List.{[], ◌∷◌}
use Prim.Native.Nat.{ℕ, ◌<◌, ◌≤◌}
use native.Mathlib.Omega.{arith}
use lib.IntN.{pos}
use mir.Facts.{to_z-of_z}
use mir.Syntax.{w64}
use mir.Val.{SFits, to_z, of_z}
use Rattle.fixed.specs.declared.Rounded.{Rounded}
use Rattle.numbers.specs.Fixed.{round, residual}
use Rattle.fixed.specs.RoundedStruct.{rounded}
use Rattle.calculus.specs.Model.{most_terms}
use Rattle.model_keys.specs.Keys.{wide_degree}
use Rattle.product_sums.specs.TermArrays.{at_key}
use Rattle.product_sums.specs.KeptTermLaws.{low_rounding, low_swept, low_zero, low_nonzero}
use Rattle.product_sums.specs.KeptTermLaws.{high_rounding, high_swept, high_kept}
use Rattle.product_rising.specs.RisingLaws.{part_nothing, part_late, part_put}
use Rattle.product_rising.proofs.push.Goals as goal
use Rattle.product_rising.proofs.push.Goals.{After-round-rounded, After-struct_told-1}

-- once it is rounded: the coefficient and what is left, as the definitions have them
module _ (r : After-round-rounded) where
  rounded_is : r.round-rounded.result ≡ rounded r.args.z
  rounded_is = rw (to_z-of_z r.ranges.z) at r.round-rounded.ensures

  coefficient_is : r.round-rounded.result.coefficient ≡ round r.args.z
  coefficient_is = ap (λ (q : Rounded). q.coefficient) rounded_is

  residual_is : r.round-rounded.result.residual ≡ residual r.args.z
  residual_is = ap (λ (q : Rounded). q.residual) rounded_is

  abbrev k : ℕ
  k = r.args.key

  low : wide_degree k ≤ r.args.d
  low = omega (arith, r.requires.degree_value, r.if-d-degree.false)

fits_c : (t : After-struct_told-1) → SFits w64 t.round-rounded.result.coefficient
fits_c t = record { sfits = t.struct_told-1.given.0.1 }

pub returns-then-d-degree : goal.returns-then-d-degree
unfolding most_terms
returns-then-d-degree c =
    let a = c.args in
    let high : a.d < wide_degree a.key = omega (arith, c.requires.degree_value, c.if-d-degree.true) in
    part_nothing a.d _ a.n _ _ c.requires.room _ _ (high_rounding a.d a.key a.z high)
    (rw (to_z-of_z c.ranges.z) at c.magnitude.ensures ∙ high_swept a.d a.key a.z high)
    (high_kept a.d a.key a.z high)

pub returns-then-c-eq0 : goal.returns-then-c-eq0
returns-then-c-eq0 c =
    let a = c.args in
    let zero : round a.z ≡ pos 0 =
    sym (coefficient_is (goal.at.returns-then-c-eq0 c).After-round-rounded)
    ∙ sym (to_z-of_z (fits_c (goal.at.returns-then-c-eq0 c).After-struct_told-1)) ∙ ap (to_z w64) c.if-c-eq0.true in
    part_nothing a.d _ a.n _ _ c.requires.room _ _ (residual_is (goal.at.returns-then-c-eq0 c).After-round-rounded
    ∙ low_rounding a.d (k (goal.at.returns-then-c-eq0 c).After-round-rounded) a.z
    (low (goal.at.returns-then-c-eq0 c).After-round-rounded))
    (low_swept a.d (k (goal.at.returns-then-c-eq0 c).After-round-rounded) a.z
    (low (goal.at.returns-then-c-eq0 c).After-round-rounded))
    (low_zero a.d (k (goal.at.returns-then-c-eq0 c).After-round-rounded) a.z
    (low (goal.at.returns-then-c-eq0 c).After-round-rounded) zero)

pub returns-then-n-gt-MOST_TERMS : goal.returns-then-n-gt-MOST_TERMS
unfolding most_terms
returns-then-n-gt-MOST_TERMS c =
    let a = c.args in
    part_late a.d _ a.n _ _ c.requires.room _ _ (residual_is
    (goal.at.returns-then-n-gt-MOST_TERMS c).After-round-rounded
    ∙ low_rounding a.d (k (goal.at.returns-then-n-gt-MOST_TERMS c).After-round-rounded) a.z
    (low (goal.at.returns-then-n-gt-MOST_TERMS c).After-round-rounded))
    (low_swept a.d (k (goal.at.returns-then-n-gt-MOST_TERMS c).After-round-rounded) a.z
    (low (goal.at.returns-then-n-gt-MOST_TERMS c).After-round-rounded)) c.if-n-gt-MOST_TERMS.true

pub bounds-keys-n : goal.bounds-keys-n
unfolding most_terms
bounds-keys-n c =
    omega (arith, c.if-n-gt-MOST_TERMS.false, c.requires.room.kept_room)

pub bounds-coefficients-n : goal.bounds-coefficients-n
unfolding most_terms
bounds-coefficients-n c =
    omega (arith, c.if-n-gt-MOST_TERMS.false, c.requires.room.coefficients_room)

pub returns : goal.returns
unfolding most_terms
returns c =
    let a = c.args in
    let stays : round a.z ≡ pos 0 → ⊥ = λ e. c.if-c-eq0.false
    (ap (of_z w64) (coefficient_is (goal.at.returns c).After-round-rounded ∙ e)) in
    rw (to_z-of_z (fits_c (goal.at.returns c).After-struct_told-1))
    (part_put a.d _ a.n _ _ c.requires.room _ _ (residual_is (goal.at.returns c).After-round-rounded
    ∙ low_rounding a.d (k (goal.at.returns c).After-round-rounded) a.z
    (low (goal.at.returns c).After-round-rounded))
    (low_swept a.d (k (goal.at.returns c).After-round-rounded) a.z (low (goal.at.returns c).After-round-rounded)) _ _
    (omega (arith, c.if-n-gt-MOST_TERMS.false))
    (low_nonzero a.d (k (goal.at.returns c).After-round-rounded) a.z (low (goal.at.returns c).After-round-rounded) stays
    ∙ ap (λ x. at_key (k (goal.at.returns c).After-round-rounded) x ∷ [])
    (sym (coefficient_is (goal.at.returns c).After-round-rounded))))
