-- `rounded` goes over the terms once, and sums what each adds to the radius by rounding.
use mathlib.Core.Path.{◌≡◌, sym, ◌∙◌, ap, ap₂}
use Prim.Native.Nat.{◌+◌, ◌≤◌, ◌<◌}
use native.Mathlib.Omega.{arith}
use borrow.Author.Rules.{rules}
use lib.IntN.{pos}
use lib.ListN.{length, get_or}
use mir.Facts.{to_z-of_z}
use mir.Syntax.{w64}
use mir.Val.{to_z, of_z}
use Rattle.numbers.proofs.FixedLaws.{span_fits}
use Rattle.calculus.specs.Model.{most_terms}
use Rattle.model_types.specs.declared.Term.{Term}
use Rattle.model_types.specs.ModelStruct.{zero_term, listed}
use Rattle.model_types.specs.ModelStructLaws.{limits}
use Rattle.model_types.specs.PairedLaws.{length_paired, key_at, coefficient_at}
use Rattle.model_antiderivative.specs.Antiderivatives.{key_rounding}
use Rattle.model_antiderivative.specs.PassLaws.{known, slot}
use Rattle.model_antiderivative.specs.GrowthShareLaws.{rounded_first, rounded_within, rounded_iteration}
use Rattle.model_antiderivative.specs.GrowthShareLaws.{rounded_end}
use Rattle.model_antiderivative.proofs.rounded.Goals as goal
use Rattle.model_antiderivative.proofs.rounded.Goals.{After-c-1, After-growth_by_rounding-sum, Start}

module _ (c : Start) where
  keys_whole : length c.args.f.keys ≡ 64
  keys_whole = search rules

  coefficients_whole : length c.args.f.coefficients ≡ 64
  coefficients_whole = search rules

  even : length c.args.f.keys ≡ length c.args.f.coefficients
  even = keys_whole ∙ sym coefficients_whole

  whole : length (listed c.args.f) ≡ 64
  whole = length_paired _ _ even ∙ keys_whole

  few : c.args.f.count ≤ 64
  unfolding most_terms
  few = (limits _ _ c.requires.model).few

  long : c.args.f.count ≤ length (listed c.args.f)
  long = omega (arith, few, whole)

pub loop-j-init : goal.loop-j-init
loop-j-init c = rounded_first c.requires (long c)

pub offset_bounds-f-j : goal.offset_bounds-f-j
offset_bounds-f-j c = omega (arith, few (goal.at.offset_bounds-f-j c).Start)

pub bounds-f-j : goal.bounds-f-j
bounds-f-j c = omega (arith, few (goal.at.bounds-f-j c).Start)

pub offset_bounds-f-j-in-loop-j : goal.offset_bounds-f-j-in-loop-j
offset_bounds-f-j-in-loop-j c = omega (arith, few (goal.at.offset_bounds-f-j-in-loop-j c).Start)

pub bounds-f-j-in-loop-j : goal.bounds-f-j-in-loop-j
bounds-f-j-in-loop-j c = omega (arith, few (goal.at.bounds-f-j-in-loop-j c).Start)

-- the term at hand
module _ (c : After-c-1) where
  abbrev at : Term
  at = get_or (listed c.args.f) c.loop-j.j zero_term

  inside : c.loop-j.j < c.args.f.count
  inside = omega arith

  key_is : get_or c.args.f.keys c.loop-j.j 0 ≡ at.key
  key_is = sym (key_at _ _ c.loop-j.j (even c.before.before.before.before))

  read_back : to_z w64 (of_z w64 (get_or c.args.f.coefficients c.loop-j.j (pos 0))) ≡ at.coefficient
  read_back = to_z-of_z {w = w64} (record { sfits = c.c-1.given })
      ∙ sym (coefficient_at _ _ c.loop-j.j (even c.before.before.before.before))

pub growth_by_rounding-sum-requires : goal.growth_by_rounding-sum-requires
growth_by_rounding-sum-requires c = slot c.requires (long (goal.at.growth_by_rounding-sum-requires c).Start)

-- the next sum
next : (c : After-growth_by_rounding-sum)
    → c.loop-j.sum + c.growth_by_rounding-sum.result ≡ c.loop-j.sum
    + key_rounding c.args.d c.args.i (at c.before).key
    (at c.before).coefficient
next c =
    ap (λ g. c.loop-j.sum + g) (c.growth_by_rounding-sum.ensures
    ∙ ap₂ (key_rounding c.args.d c.args.i) (key_is c.before) (read_back c.before))

pub overflow_add-sum : goal.overflow_add-sum
overflow_add-sum c =
    omega (
      arith,
      span_fits,
      (known c.requires (long (goal.at.overflow_add-sum c).Start)).small,
      next c,
      rounded_within c.requires (long (goal.at.overflow_add-sum c).Start) c.loop-j.invariant
          (inside (goal.at.overflow_add-sum c).After-c-1),
    )

pub loop-j-preserved : goal.loop-j-preserved
loop-j-preserved c =
    rounded_iteration c.requires (long (goal.at.loop-j-preserved c).Start) c.loop-j.invariant
    (inside (goal.at.loop-j-preserved c).After-c-1) (next c)

pub returns : goal.returns
returns c =
    rounded_end c.requires (long (goal.at.returns c).Start) c.loop-j.invariant (omega arith)
