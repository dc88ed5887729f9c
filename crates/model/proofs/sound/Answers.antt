-- `sound` asks with the lesser of d and 15.
use mathlib.Core.Path.{◌≡◌, ◌∙◌, ap}
use Prim.Native.Nat.{ℕ, ◌<◌, ◌≤◌, min}
use native.Mathlib.Omega.{arith}
use borrow.Author.Rules.{rules}
use Rattle.calculus.specs.Model.{most_degree, sound}
use Rattle.calculus.specs.Calls.{call_sound}
use Rattle.model_types.specs.ModelStruct.{view}
use Rattle.model.proofs.sound.Goals as goal

above : (d : ℕ) → 15 < d → 15 ≡ min d most_degree
unfolding most_degree
above d h = omega (arith, h)

below : (d : ℕ) → d ≤ 15 → d ≡ min d most_degree
unfolding most_degree
below d h = omega (arith, h)

pub returns-then-d-gt-MOST_DEGREE : goal.returns-then-d-gt-MOST_DEGREE
unfolding call_sound
returns-then-d-gt-MOST_DEGREE c =
    c.sound.ensures ∙ ap (λ k. sound k (view c.args.m)) (above _ c.if-d-gt-MOST_DEGREE.true)

pub returns : goal.returns
unfolding call_sound
returns c =
    c.sound-2.ensures ∙ ap (λ k. sound k (view c.args.m)) (below _ c.if-d-gt-MOST_DEGREE.false)
