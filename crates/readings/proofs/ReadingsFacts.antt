-- Facts beside the claim on readings: what it asks for can be there, and a wrong answer is refuted.
use Rattle.std.specs.Prelude.{◌≡◌, refl, List, [], ◌∷◌, pos, take}
use Rattle.std.proofs.Common.{sym, ◌∙◌, ap, arith}
use Rattle.std.proofs.Math.Option.{some}
use Rattle.algebra.specs.RingSolver.{𝟎, ◌⊟◌, ring}
use Rattle.algebra.specs.Ordered.{abs}
use Rattle.algebra.proofs.Rational.{◌*ℚ◌, whole}
use Rattle.algebra.proofs.RationalRing.{ℚR}
use Rattle.algebra.proofs.RationalOrder.{ℚO}
use Rattle.numbers.specs.Fixed.{U}
use Rattle.calculus.specs.Computing.{calls}
use Rattle.calculus.specs.Model.{Model, ◌/U, ◌-ℚ◌, Within}
use Rattle.calculus.specs.Refusal.{done}
use Rattle.calculus.specs.Functions.{Function}
use Rattle.calculus_laws.specs.UnitLaws.{natural, natural_≤, abs_whole, U_times}
use Rattle.calculus_laws.specs.ValueLaws.{Near, scaled_nil, near_at}
use Rattle.calculus_laws.specs.EvaluateLaws.{point_of}
use Rattle.calculus_laws.specs.ChainLaws.{◌≡≤◌, equal}
use Rattle.readings.specs.Readings.{Reading, most_readings, in_order, contradicts, with_place, held}
use Rattle.readings.specs.Readings.{first_contradicting, call_readings}
use Rattle.readings.proofs.ReadingsLaws.{PassesThrough, Contradicted, contradicted}
use Rattle.readings.specs.Edges.{band}

-- no terms, radius 2: evaluation gives -2 to 2 everywhere
abbrev pub flat : Model
flat = record { vars = 1; radius = 2; terms = [] }

-- a function within it that is 2 units high everywhere
abbrev pub ceiling_of : Function
ceiling_of x = pos 2 /U

pub ceiling_within : Within ceiling_of flat
unfolding Within Near
ceiling_within x b = near_at flat x (ceiling_of x)
    (ap (λ v. abs ℚO (natural U *ℚ pos 2 /U -ℚ v)) (scaled_nil x)
    ∙ ap (λ v. abs ℚO (v -ℚ natural 0)) (U_times (pos 2))
    ∙ ap (abs ℚO) (ring 1 ℚR (λ a. a ⊟ 𝟎) (λ a. a) refl (whole (pos 2)))
    ∙ abs_whole (pos 2)
    ≡≤ natural_≤ 2 2 (omega arith))

-- a row whose second reading contradicts
abbrev pub rows : List Reading
rows = band 2 9 ∷ band 3 9 ∷ []

pub second_contradicts : call_readings flat rows ≡ done (some 1)
unfolding calls most_readings in_order contradicts with_place held first_contradicting call_readings
second_contradicts = refl

-- so the claim holds of it, and its hypotheses are met by this function and this point
pub not_through : PassesThrough (ceiling_of (point_of (take 1 (band 3 9).point))) (band 3 9) → ⊥
not_through = (contradicted flat rows 1 second_contradicts).no_function (band 3 9) ceiling_of ceiling_within
    (omega arith)

-- whoever says that the first one does, whose band the evaluation touches, is refuted: this function passes through it
pub touching_passes : PassesThrough (ceiling_of (point_of (take 1 (band 2 9).point))) (band 2 9)
touching_passes = record {
  from = equal (sym (U_times (pos 2)));
  to = U_times (pos 2) ≡≤ natural_≤ 2 9 (omega arith);
}

pub first_refuted : Contradicted flat rows 0 → ⊥
first_refuted c = c.no_function (band 2 9) ceiling_of ceiling_within (omega arith) touching_passes
