-- What fewer terms would promise: with the sizes of those left out added to the radius they enclose what the model
-- does.
use Rattle.std.specs.Prelude.{refl, Bool, not, List, ℕ, ◌+◌, ltb, ℤ}
use Rattle.std.proofs.Common.{sym, ◌∙◌, ap}
use Rattle.algebra.specs.RingSolver.{◌⊞◌, ◌⊟◌, ring}
use Rattle.algebra.specs.Ordered.{abs}
use Rattle.algebra.proofs.Rational.{ℚ, ◌+ℚ◌, ◌*ℚ◌}
use Rattle.algebra.proofs.RationalRing.{ℚR}
use Rattle.algebra.proofs.RationalOrder.{ℚO}
use Rattle.numbers.specs.Fixed.{U}
use Rattle.calculus.specs.Terms.{Terms, select, size}
use Rattle.calculus.specs.Model.{Model, ◌-ℚ◌, Point, InBox}
use Rattle.calculus_laws.specs.UnitLaws.{natural}
use Rattle.calculus_laws.specs.ValueLaws.{scaled_value, Near, scaled_split, sum_≤, scaled_≤}
use Rattle.calculus_laws.specs.ChainLaws.{◌≡≤◌}
use Rattle.archive.specs.Archive.{terms_before, first_terms}

-- whether a term is among the first j
abbrev among_first : (j : ℕ) → Terms → List ℕ → ℤ → Bool
among_first j p k z = ltb (terms_before k p) j

-- the first j terms with the sizes of the others added to the radius
unfoldable pub widened : (j : ℕ) → Model → Model
widened j m = record {
  vars = m.vars;
  radius = m.radius + size (select (λ k z. not (among_first j m.terms k z)) m.terms);
  terms = (first_terms j m).terms;
}

-- a value near the model is near that
pub widened_near : (j : ℕ) (m : Model) {n : ℕ} {x : Point} (y : ℚ) → InBox n x → Near m x y → Near (widened j m) x y
unfolding Near widened first_terms
widened_near j m {x = x} y b h = ap (abs ℚO)
    (ring 3 ℚR (λ u k d. u ⊟ k) (λ u k d. (u ⊟ (k ⊞ d)) ⊞ d) refl (natural U *ℚ y) kept dropped
    ∙ ap (λ v. natural U *ℚ y -ℚ v +ℚ dropped) (sym (scaled_split x (among_first j m.terms) m.terms)))
    ≡≤ sum_≤ _ _ _ _ h (scaled_≤ b (select (λ k z. not (among_first j m.terms k z)) m.terms))
  where
    kept : ℚ
    kept = scaled_value (select (among_first j m.terms) m.terms) x

    dropped : ℚ
    dropped = scaled_value (select (λ k z. not (among_first j m.terms k z)) m.terms) x
