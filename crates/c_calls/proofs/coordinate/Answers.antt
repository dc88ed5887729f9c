-- `coordinate` reads the element, or answers 0.
use mathlib.Core.Path.{sym}
use native.Mathlib.Omega.{arith}
use lib.IntN.{pos}
use lib.ListN.{get_or-eq_default}
use mir.Facts.{to_z-of_z}
use Rattle.c_calls.specs.CallCodes.{coordinate}
use mir.Syntax.{w64}
use Rattle.c_calls.proofs.coordinate.Goals as goal

pub returns-then-i-point : goal.returns-then-i-point
unfolding coordinate
returns-then-i-point c = to_z-of_z {w = w64} (record { sfits = c.result-1.given })

pub returns : goal.returns
unfolding coordinate
returns c =
    let a = c.args in
    sym (get_or-eq_default a.point.now (pos 0) {n = a.i} (omega (arith, c.if-i-point.false)))
