-- `put_terms` puts the line of one term in each iteration: the invariant is what the first i leave.
use mathlib.Core.Path.{◌≡◌, sym, ap, ap₂, ◌∙◌}
use mathlib.Core.List.{[]}
use Prim.Native.Nat.{◌≤◌, ◌-◌, ◌<◌}
use native.Mathlib.Omega.{arith}
use borrow.Author.Rules.{rules}
use lib.Dec.{T}
use lib.IntN.{pos}
use lib.ListN.{length, get_or}
use mir.Facts.{to_z-of_z}
use mir.Syntax.{w64}
use mir.Val.{to_z, of_z}
use Rattle.calculus.specs.Key.{key_width, key_fits, monomial_of}
use Rattle.calculus.specs.Terms.{term}
use Rattle.calculus.specs.Model.{most_terms, most_degree}
use Rattle.model_types.specs.declared.Term.{Term}
use Rattle.model_types.specs.ModelStruct.{zero_term, listed, view, view_term}
use Rattle.model_types.specs.ModelStructLaws.{Limits, limits, length_view, key_fits_at, term_at}
use Rattle.model_types.specs.PairedLaws.{length_paired, key_at, coefficient_at}
use Rattle.format.specs.Lines.{term_line}
use Rattle.text_decimal.specs.PutLaws.{put_as, put_length}
use Rattle.text_lines.specs.LineLaws.{term_of, Listed, listed_none, listed_room, listed_more, listed_all}
use Rattle.text_lines.proofs.put_terms.Given as goal

abbrev pub invariant-loop-i : goal.invariant-loop-i
invariant-loop-i l = Listed term_line (view l.m).terms l.initial.out l.at l.out l.next l.i
