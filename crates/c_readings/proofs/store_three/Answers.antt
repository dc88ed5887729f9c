-- `store_three` stores three numbers.
use native.Mathlib.Omega.{arith}
use lib.ListN.{length-set}
use Rattle.c_readings.specs.HandedReadingsLaws.{over_three}
use Rattle.c_readings.proofs.store_three.Goals as goal

pub bounds-numbers-1 : goal.bounds-numbers-1
bounds-numbers-1 c = simp length-set (omega (arith, c.requires))

pub returns : goal.returns
returns c = over_three c.args.numbers.now _ _ _ c.requires
