-- `reading_of` reads the numbers one after the other.
use Rattle.fixed.specs.MachineLaws.{answered}
use Rattle.c_readings.specs.HandedReadings.{reading_of}
use Rattle.c_readings.proofs.reading_of.Goals as goal

pub returns : goal.returns
unfolding reading_of
returns c =
    rw (
      answered c.coordinate-x1.type_inv c.coordinate-x1.ensures,
      answered c.coordinate-x2.type_inv c.coordinate-x2.ensures,
      answered c.coordinate-x3.type_inv c.coordinate-x3.ensures,
      answered c.coordinate-x4.type_inv c.coordinate-x4.ensures,
      answered c.coordinate-x5.type_inv c.coordinate-x5.ensures,
      answered c.coordinate-x6.type_inv c.coordinate-x6.ensures,
      answered c.coordinate-x7.type_inv c.coordinate-x7.ensures,
      answered c.coordinate-x8.type_inv c.coordinate-x8.ensures,
      answered c.coordinate-low.type_inv c.coordinate-low.ensures,
      answered c.coordinate-high.type_inv c.coordinate-high.ensures,
    )
