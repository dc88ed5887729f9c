-- Cases at the edges of a row of readings, by computation.
use Rattle.std.specs.Prelude.{◌≡◌, refl, [], ◌∷◌, ◌++◌, ℕ, ℤ, pos, replicate}
use Rattle.std.proofs.Math.Option.{none, some}
use Rattle.calculus.specs.Computing.{calls}
use Rattle.calculus.specs.Terms.{term}
use Rattle.calculus.specs.Model.{Model}
use Rattle.calculus.specs.Forms.{minus}
use Rattle.calculus.specs.Refusal.{bad_model, bad_step, over_span, leaves_box, bad_reading, done, stopped}
use Rattle.readings.specs.Readings.{Reading, most_readings, in_order, contradicts, with_place, held}
use Rattle.readings.specs.Readings.{first_contradicting, call_readings}

-- 5 in one variable, radius 2: every evaluation is 3 to 7
abbrev pub five : Model
five = record { vars = 1; radius = 2; terms = term (pos 5) (0 ∷ []) ∷ [] }

-- 5 in two variables, radius 2
abbrev pub plane : Model
plane = record { vars = 2; radius = 2; terms = term (pos 5) (0 ∷ 0 ∷ []) ∷ [] }

-- in eight
abbrev pub wide : Model
wide = record { vars = 8; radius = 2; terms = term (pos 5) (0 ∷ 0 ∷ 0 ∷ 0 ∷ 0 ∷ 0 ∷ 0 ∷ 0 ∷ []) ∷ [] }

-- 5 times the 15th power, radius 2: 3 to 7 where x is U, -7 to -3 where it is -U
abbrev pub steep : Model
steep = record { vars = 1; radius = 2; terms = term (pos 5) (15 ∷ []) ∷ [] }

-- x, made as small as can be, and so much added that the span is 2^30: at 0 the evaluation is 2^30 - 1, and where x is
-- rounded up to 1 the span is above 2^30
abbrev pub full : Model
full = record { vars = 1; radius = 0; terms = term (pos 1073741823) (0 ∷ []) ∷ term (pos 1) (1 ∷ []) ∷ [] }

-- a coefficient 0 breaks a rule
abbrev pub broken : Model
broken = record { vars = 1; radius = 2; terms = term (pos 0) (0 ∷ []) ∷ [] }

-- a reading with these coordinates 1 and 2
abbrev pub reading_at : (X Y low high : ℤ) → Reading
reading_at X Y low high = record {
  point = X ∷ Y ∷ pos 0 ∷ pos 0 ∷ pos 0 ∷ pos 0 ∷ pos 0 ∷ pos 0 ∷ [];
  low = low;
  high = high;
}

-- at 0
abbrev pub band : (low high : ℕ) → Reading
band low high = reading_at (pos 0) (pos 0) (pos low) (pos high)

-- outside the box
abbrev pub outside : Reading
outside = reading_at (pos 1048577) (pos 0) (pos 5) (pos 5)

-- with a coordinate that is not used
abbrev pub unused : Reading
unused = reading_at (pos 0) (pos 1) (pos 5) (pos 5)

-- outside the box by coordinate 2, which one variable does not use
abbrev pub beside : Reading
beside = reading_at (pos 0) (pos 1048577) (pos 5) (pos 5)

-- with a last coordinate, which only eight variables use
abbrev pub last_at : ℤ → Reading
last_at Z = record {
  point = pos 0 ∷ pos 0 ∷ pos 0 ∷ pos 0 ∷ pos 0 ∷ pos 0 ∷ pos 0 ∷ Z ∷ [];
  low = pos 5;
  high = pos 5;
}

-- where x is U
abbrev pub at_one : (low high : ℤ) → Reading
at_one low high = reading_at (pos 1048576) (pos 0) low high

-- where it is -U
abbrev pub at_minus_one : (low high : ℤ) → Reading
at_minus_one low high = reading_at (minus 1048576) (pos 0) low high

-- with a low value above its high one
abbrev pub crossed : Reading
crossed = band 6 5

-- one that `full` refuses
abbrev pub rounded_up : Reading
rounded_up = reading_at (pos 700000) (pos 0) (pos 0) (pos 0)

-- one that touches `full` at 0
abbrev pub met : Reading
met = band 1073741823 1073741823

-- and one that contradicts it
abbrev pub missed : Reading
missed = band 0 1073741822

pub edges :
    -- an empty row has none
    (call_readings five [] ≡ done none)
    -- ends that touch, below and above, have a number in common; next to them none
    × (call_readings five (band 0 3 ∷ band 7 9 ∷ []) ≡ done none)
    × (call_readings five (band 0 3 ∷ band 0 2 ∷ []) ≡ done (some 1))
    × (call_readings five (band 7 9 ∷ band 8 9 ∷ band 0 2 ∷ []) ≡ done (some 1))
    × (call_readings five (band 0 2 ∷ band 8 9 ∷ []) ≡ done (some 0))
    -- low equal to high, inside, at the ends and next to them
    × (call_readings five (band 5 5 ∷ band 3 3 ∷ band 7 7 ∷ band 8 8 ∷ []) ≡ done (some 3))
    × (call_readings five (band 7 7 ∷ band 2 2 ∷ []) ≡ done (some 1))
    -- a band that holds the evaluation, and one that it holds
    × (call_readings five (band 0 9 ∷ band 4 6 ∷ []) ≡ done none)
    -- 5 comes before all but a long row
    × (call_readings broken (crossed ∷ []) ≡ stopped bad_model 0)
    × (call_readings broken [] ≡ stopped bad_model 0)
    × (call_readings broken (replicate 257 (band 5 5)) ≡ stopped bad_reading 0)
    × (call_readings five (replicate 257 (band 5 5)) ≡ stopped bad_reading 0)
    -- 256 are not too many, and the last one is looked at
    × (call_readings five (replicate 256 (band 5 5)) ≡ done none)
    × (call_readings five (replicate 255 (band 5 5) ++ (band 8 8 ∷ [])) ≡ done (some 255))
    × (call_readings five (replicate 255 (band 5 5) ++ (crossed ∷ [])) ≡ stopped bad_reading 255)
    -- 15 of reading 5 before 6 of reading 0, 6 of reading 7 before 9 of reading 0, 9 of reading 1 before what
    -- contradicts
    × (call_readings five (unused ∷ replicate 4 (band 5 5) ++ (crossed ∷ [])) ≡ stopped bad_reading 5)
    × (call_readings five (outside ∷ replicate 6 (band 5 5) ++ (unused ∷ [])) ≡ stopped bad_step 7)
    × (call_readings five (band 8 9 ∷ outside ∷ []) ≡ stopped leaves_box 1)
    × (call_readings five (band 8 9 ∷ outside ∷ unused ∷ crossed ∷ crossed ∷ []) ≡ stopped bad_reading 3)
    -- n says which coordinates have to be 0 and which in the box
    × (call_readings plane (unused ∷ band 8 9 ∷ []) ≡ done (some 1))
    × (call_readings plane (band 8 9 ∷ beside ∷ []) ≡ stopped leaves_box 1)
    × (call_readings plane (beside ∷ last_at (pos 1) ∷ []) ≡ stopped bad_step 1)
    × (call_readings wide (last_at (pos 1) ∷ band 8 9 ∷ []) ≡ done (some 1))
    × (call_readings wide (band 8 9 ∷ last_at (pos 1048577) ∷ []) ≡ stopped leaves_box 1)
    × (call_readings five (outside ∷ beside ∷ []) ≡ stopped bad_step 1)
    -- values below 0, at the edge of the box, with the highest degree
    × (call_readings steep (at_one (minus 9) (pos 3) ∷ at_minus_one (minus 3) (pos 1) ∷ []) ≡ done none)
    × (call_readings steep (at_minus_one (minus 9) (minus 7) ∷ at_minus_one (minus 2) (pos 1) ∷ []) ≡ done (some 1))
    × (call_readings steep (at_minus_one (minus 9) (minus 8) ∷ []) ≡ done (some 0))
    × (call_readings steep (at_minus_one (minus 4) (minus 5) ∷ []) ≡ stopped bad_reading 0)
    -- 7 of reading 3 is not seen after a contradiction at 2, and is before one at 4
    × (call_readings full (met ∷ met ∷ missed ∷ rounded_up ∷ []) ≡ done (some 2))
    × (call_readings full (met ∷ met ∷ met ∷ rounded_up ∷ missed ∷ []) ≡ stopped over_span 3)
unfolding calls minus most_readings in_order contradicts with_place held first_contradicting call_readings
edges = (
  refl,
  refl,
  refl,
  refl,
  refl,
  refl,
  refl,
  refl,
  refl,
  refl,
  refl,
  refl,
  refl,
  refl,
  refl,
  refl,
  refl,
  refl,
  refl,
  refl,
  refl,
  refl,
  refl,
  refl,
  refl,
  refl,
  refl,
  refl,
  refl,
  refl,
  refl,
)
