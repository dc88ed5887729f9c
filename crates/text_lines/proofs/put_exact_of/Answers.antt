-- `put_exact_of` puts the line, or nothing.
use mathlib.Core.Path.{◌≡◌, sym, ◌∙◌, ap, subst}
use native.Mathlib.Omega.{arith}
use borrow.Author.Rules.{rules}
use mir.Facts.{to_z-of_z}
use mir.Syntax.{w64}
use mir.Val.{to_z, of_z}
use Rattle.format.specs.Lines.{exact_line}
use Rattle.text_decimal.specs.Put.{Put, Room}
use Rattle.text_decimal.specs.PutLaws.{put_nothing, put_as}
use Rattle.text_lines.specs.LineParts.{mixed}
use Rattle.text_lines.specs.LineLaws.{exact_some, exact_none}
use Rattle.text_lines.proofs.put_exact_of.Goals as goal
use Rattle.text_lines.proofs.put_exact_of.Goals.{Else-n-gt-MOST_EXACT}

pub returns-then-n-gt-MOST_EXACT : goal.returns-then-n-gt-MOST_EXACT
returns-then-n-gt-MOST_EXACT c = put_as (sym (exact_none _ _ c.if-n-gt-MOST_EXACT.true)) put_nothing

-- the line, with the quotient as the call sees it
line_is : (c : Else-n-gt-MOST_EXACT) → let a = c.args in
    exact_line (mixed (to_z w64 (of_z w64 a.quotient)) a.remainder) ≡ exact_line (mixed a.quotient
    a.remainder)
line_is c = ap (λ q. exact_line (mixed q c.args.remainder)) (to_z-of_z c.ranges.quotient)

pub put_exact-requires : goal.put_exact-requires
put_exact-requires c =
    subst (Room c.args.at) (exact_some c.args.n _ (omega (arith, c.if-n-gt-MOST_EXACT.false))
    ∙ sym (line_is (goal.at.put_exact-requires c).Else-n-gt-MOST_EXACT)) c.requires

pub returns : goal.returns
returns c =
    put_as (line_is (goal.at.returns c).Else-n-gt-MOST_EXACT
    ∙ sym (exact_some c.args.n _ (omega (arith, c.if-n-gt-MOST_EXACT.false)))) c.put_exact.ensures
