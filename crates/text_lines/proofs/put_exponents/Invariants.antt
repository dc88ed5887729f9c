-- `put_exponents` puts one exponent in each iteration: the invariant is what the first i leave.
use mathlib.Core.Path.{◌≡◌, ap, ◌∙◌}
use Prim.Native.Nat.{◌-◌, ◌<◌}
use native.Mathlib.Omega.{arith}
use borrow.Author.Rules.{rules}
use lib.ListN.{length, get_or}
use Rattle.calculus.specs.Key.{monomial_of}
use Rattle.calculus_laws.specs.MonomialKeyLaws.{monomial_length}
use Rattle.model.specs.OperationLaws.{monomial_place}
use Rattle.text_decimal.specs.Put.{natural}
use Rattle.text_decimal.specs.PutLaws.{put_as, put_length}
use Rattle.text_lines.specs.LineLaws.{Listed, listed_none, listed_room, listed_more, listed_all}
use Rattle.text_lines.proofs.put_exponents.Given as goal

abbrev pub invariant-loop-i : goal.invariant-loop-i
invariant-loop-i l = Listed natural (monomial_of l.n l.key) l.initial.out l.at l.out l.next l.i
