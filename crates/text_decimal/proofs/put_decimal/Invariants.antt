-- `put_decimal` spells the number into an array from its last digit, then puts what is spelled.
use mathlib.Core.Path.{◌≡◌, refl}
use Prim.Native.Nat.{◌-◌}
use native.Mathlib.Omega.{arith}
use borrow.Author.Rules.{rules}
use lib.ListN.{take, drop, set, length-set}
use Rattle.format.specs.Lines.{decimal}
use Rattle.text_decimal.specs.PutLaws.{put_as, put_length}
use Rattle.text_decimal.specs.DigitsLaws.{Spelled, spelled_none, spelled_more, spelled_all}
use Rattle.text_decimal.proofs.put_decimal.Given as goal

abbrev pub invariant-loop-rest : goal.invariant-loop-rest
invariant-loop-rest l = Spelled l.x l.digits l.first l.rest

abbrev pub decreases-loop-rest : goal.decreases-loop-rest
decreases-loop-rest l = l.rest
