-- `by_powers` links each term to the next one of its power, from the last term down.
use mathlib.Core.Path.{◌≡◌, refl, ◌∙◌, ap}
use Prim.Native.Nat.{◌-◌, ◌≤◌, ◌<◌, max}
use native.Mathlib.Omega.{arith}
use lib.ListN.{get_or}
use Rattle.calculus.specs.Key.{key_limit}
use Rattle.calculus.specs.Model.{most_terms}
use Rattle.calculus_laws.specs.MonomialKeyLaws.{word_key}
use Rattle.model_keys.specs.Keys.{key_exponent}
use Rattle.model_powers.specs.PowerPassLaws.{keys_few, keys_slot, largest_first, largest_iteration, largest_end}
use Rattle.model_powers.specs.PowerChainLaws.{exponent_digit, chaining_first, chaining_iteration}
use Rattle.model_powers.specs.PowerChainLaws.{chaining_end}
use Rattle.model_powers.proofs.by_powers.Goals as goal
use Rattle.model_powers.proofs.by_powers.Goals.{After-exponent_of-exponent, In-loop-j, Start}

few : (c : Start) → c.args.count ≤ 64
unfolding most_terms
few c = keys_few c.requires

pub overflow_cast-none : goal.overflow_cast-none
overflow_cast-none c = omega (arith, few (goal.at.overflow_cast-none c).Start)

pub loop-j-init : goal.loop-j-init
loop-j-init c = (chaining_first, λ w. largest_first w, omega arith)

-- an iteration
module _ (c : In-loop-j) where
  some : 0 < c.loop-j.j
  some = omega (arith, c.loop-j-test.true)

  inside : c.loop-j.j ≤ 64
  inside = omega (arith, few c.before.before.before.before, c.loop-j.invariant.0.within)

pub offset_bounds-keys-j : goal.offset_bounds-keys-j
offset_bounds-keys-j c = omega (arith, inside c)

pub bounds-keys-j : goal.bounds-keys-j
bounds-keys-j c =
    omega (
      arith,
      some (goal.at.bounds-keys-j c).In-loop-j,
      inside (goal.at.bounds-keys-j c).In-loop-j,
      c.requires.room.keys,
    )

pub exponent_of-exponent-requires : goal.exponent_of-exponent-requires
exponent_of-exponent-requires c = keys_slot c.requires

-- the exponent at hand
module _ (c : After-exponent_of-exponent) where
  key_small : get_or c.args.keys.now (c.loop-j.j - 1) 0 < key_limit
  key_small = word_key _ (c.shared_slice_known-in-loop-j-1.given (c.loop-j.j - 1)).fits

  is_exponent : c.exponent_of-exponent.result
      ≡ key_exponent c.args.i
      (get_or c.args.keys.now (c.loop-j.j - 1) 0)
  is_exponent = c.exponent_of-exponent.ensures

  low : c.exponent_of-exponent.result < 16
  low = omega (arith, is_exponent, exponent_digit _ (keys_slot c.requires) _ key_small)

pub overflow_cast-e : goal.overflow_cast-e
overflow_cast-e c = omega (arith, low c)

pub bounds-first-e : goal.bounds-first-e
bounds-first-e c = omega (arith, low c)

pub bounds-next-j : goal.bounds-next-j
bounds-next-j c = omega (arith, some (goal.at.bounds-next-j c).In-loop-j, inside (goal.at.bounds-next-j c).In-loop-j)

pub overflow_cast-first : goal.overflow_cast-first
overflow_cast-first c = omega (arith, inside (goal.at.overflow_cast-first c).In-loop-j)

pub bounds-first-e-in-loop-j : goal.bounds-first-e-in-loop-j
bounds-first-e-in-loop-j c = omega (arith, low c)

pub loop-j-preserved : goal.loop-j-preserved
loop-j-preserved c = (
  chaining_iteration c.loop-j.invariant.0 (some (goal.at.loop-j-preserved c).In-loop-j)
      (few (goal.at.loop-j-preserved c).Start) (low (goal.at.loop-j-preserved c).After-exponent_of-exponent)
      (is_exponent (goal.at.loop-j-preserved c).After-exponent_of-exponent) refl,
  λ w. largest_iteration w (c.loop-j.invariant.1 w) (some (goal.at.loop-j-preserved c).In-loop-j)
      (omega (arith, some (goal.at.loop-j-preserved c).In-loop-j, c.loop-j.invariant.0.within))
      (c.max-largest.ensures ∙ ap (max c.loop-j.largest)
      (is_exponent (goal.at.loop-j-preserved c).After-exponent_of-exponent)),
  omega (
    arith,
    c.max-largest.ensures,
    low (goal.at.loop-j-preserved c).After-exponent_of-exponent,
    c.loop-j.invariant.2,
  ),
)

pub returns : goal.returns
returns c = record {
  chained = chaining_end c.loop-j.invariant.0 (omega (arith, c.loop-j-test.false)) c.loop-j.invariant.2;
  largest = λ w. largest_end w (c.loop-j.invariant.1 w) (omega (arith, c.loop-j-test.false));
}
