-- `model_of` puts the three terms one after the other.
use mathlib.Core.Path.{◌≡◌, refl, ◌∙◌, ap}
use Prim.Native.Nat.{◌≤◌}
use native.Mathlib.Omega.{arith}
use borrow.Author.Rules.{rules}
use lib.IntN.{ℤ}
use lib.ListN.{length}
use mir.Facts.{to_z-of_z}
use mir.Syntax.{w64}
use mir.Val.{to_z, of_z}
use Rattle.calculus.specs.Model as C
use Rattle.calculus.specs.Model.{most_terms}
use Rattle.doubles.specs.Doubles.{model_of}
use Rattle.model_types.specs.ModelStruct.{pack}
use Rattle.model_doubles.specs.DoublesStruct.{with_term}
use Rattle.model_doubles.specs.ThreeTermLaws.{empty, packed_empty, room, length_with, vars_with, three}
use Rattle.model_doubles.proofs.model_of.Goals as goal
use Rattle.model_doubles.proofs.model_of.Goals.{After-with_term-constant, After-with_term-linear}

ap₃ : {A : Type 0} (f : ℤ → ℤ → ℤ → A) {a b c x y z : ℤ} → a ≡ x → b ≡ y → c ≡ z → f a b c ≡ f x y z
ap₃ f p q r = λ i. f (p i) (q i) (r i)

-- the first term
module _ (c : After-with_term-constant) where
  abbrev o1 : C.Model
  o1 = with_term 0 (to_z w64 (of_z w64 c.args.c0)) (empty c.args.radius)

  got1 : c.with_term-constant.result ≡ pack o1
  got1 = c.with_term-constant.ensures _ (packed_empty _ _ c.without_terms-empty.ensures)

  few1 : length o1.terms ≤ 1
  few1 = omega (arith, length_with 0 (to_z w64 (of_z w64 c.args.c0)) (empty c.args.radius))

pub with_term-constant-requires : goal.with_term-constant-requires
unfolding most_terms
with_term-constant-requires c =
    let h = room _ (empty 0) (packed_empty _ 0 c.without_terms-empty.ensures) (refl) (omega arith) in record {
      n_value = h.0;
      count_lt_most_terms = h.1;
    }

pub with_term-linear-requires : goal.with_term-linear-requires
unfolding most_terms
with_term-linear-requires c =
    let h = room _ (o1 c) (got1 c) (vars_with 0 _ _) (omega (arith, few1 c)) in record {
      n_value = h.0;
      count_lt_most_terms = h.1;
    }

-- the second one
module _ (c : After-with_term-linear) where
  abbrev o2 : C.Model
  o2 = with_term 268435456 (to_z w64 (of_z w64 c.args.c1)) (o1 c.before)

  got2 : c.with_term-linear.result ≡ pack o2
  got2 = c.with_term-linear.ensures _ (got1 c.before)

  few2 : length o2.terms ≤ 2
  few2 = omega (
    arith,
    few1 c.before,
    length_with 268435456 (to_z w64 (of_z w64 c.args.c1)) (o1 c.before),
  )

pub with_term-requires : goal.with_term-requires
unfolding most_terms
with_term-requires c =
    let h = room _ (o2 c) (got2 c) (vars_with 268435456 _ _ ∙ vars_with 0 _ _) (omega (arith, few2 c)) in record {
      n_value = h.0;
      count_lt_most_terms = h.1;
    }

pub returns : goal.returns
returns c =
    c.with_term.ensures _ (got2 (goal.at.returns c).After-with_term-linear)
    ∙ ap pack (three _ _ _ _)
    ∙ ap pack (ap₃ (λ x y z. model_of x y z c.args.radius)
    (to_z-of_z c.ranges.c0) (to_z-of_z c.ranges.c1) (to_z-of_z c.ranges.c2))
