-- `put_summary` puts the line of the radius, those of the terms, the range, the integral, and quotient and remainder.
use mathlib.Core.Path.{◌≡◌, sym, ap}
use mathlib.Core.List.{List, ◌++◌, map}
use Prim.Native.Nat.{ℕ}
use borrow.Author.Rules.{rules}
use mir.Facts.{to_z-of_z}
use mir.Syntax.{w64}
use mir.Val.{to_z, of_z}
use Rattle.calculus.specs.Book.{Summary}
use Rattle.model_types.specs.ModelStruct.{view}
use Rattle.format.specs.Bytes.{join}
use Rattle.format.specs.Lines.{text, term_line, ends_line, exact_lines, radius_line}
use Rattle.sheet_book.specs.SummaryStruct.{ends_of, exact_of, summary_of}
use Rattle.text_decimal.specs.Put.{Put, Room}
use Rattle.text_decimal.specs.PutLaws.{◌then_put◌, put_as, room_before, room_after}
use Rattle.text_lines.specs.LineParts.{ends, mixed}
use Rattle.text_lines.specs.LineLaws.{lines_pieces, ends_back}
use Rattle.text.proofs.put_summary.Goals as goal
use Rattle.text.proofs.put_summary.Goals.{After-put_ends-last, After-put_ends-next, After-put_exact_of, After-put_radius-radius, After-put_terms-terms, After-struct_told-2-1, After-struct_told-4-1, After-struct_told-5-1, Start}

-- the pieces
module _ (c : Start) where
  abbrev result : Summary
  result = summary_of c.args.summary

  abbrev radius : List ℕ
  radius = radius_line c.args.summary.model.radius

  abbrev terms : List ℕ
  terms = join (map term_line (view c.args.summary.model).terms)

  abbrev range : List ℕ
  range = ends_line (text "range") (ends c.args.summary.range.low c.args.summary.range.high)

  abbrev integral : List ℕ
  integral = ends_line (text "integral") (ends c.args.summary.integral.low c.args.summary.integral.high)

  abbrev exact : List ℕ
  exact = exact_lines c.args.summary.model.n (mixed c.args.summary.exact.quotient
      c.args.summary.exact.remainder)

  whole : Room 0 (radius ++ (terms ++ (range ++ (integral ++ exact))))
  unfolding view summary_of ends_of exact_of
  whole = rw (lines_pieces result) at c.requires.1

-- where each call began
abbrev start₁ : After-put_radius-radius → Start
start₁ c = c.before.before.before.before.before.before.before

abbrev start₂ : After-put_terms-terms → Start
start₂ c = start₁ c.before.before.before.before

abbrev start₃ : After-put_ends-next → Start
start₃ c = start₂ c.before.before.before.before.before.before.before.before

abbrev start₄ : After-put_ends-last → Start
start₄ c = start₃ c.before.before.before.before.before.before.before.before

abbrev start₅ : After-put_exact_of → Start
start₅ c = start₄ c.before.before.before.before.before

-- the ends and the quotient as the calls see them
range_is : (c : After-struct_told-2-1)
    → let s = c.args.summary.range in
    ends (to_z w64 (of_z w64 s.low)) (to_z w64 (of_z w64 s.high)) ≡ ends s.low s.high
range_is c = ends_back c.struct_told-2-1.given.0.1 c.struct_told-2-1.given.1.0.1

integral_is : (c : After-struct_told-4-1)
    → let s = c.args.summary.integral in
    ends (to_z w64 (of_z w64 s.low)) (to_z w64 (of_z w64 s.high)) ≡ ends s.low s.high
integral_is c = ends_back c.struct_told-4-1.given.0.1 c.struct_told-4-1.given.1.0.1

exact_is : (c : After-struct_told-5-1)
    → let s = c.args.summary.exact in
    mixed (to_z w64 (of_z w64 s.quotient)) s.remainder ≡ mixed s.quotient s.remainder
exact_is c = ap (λ q. mixed q c.args.summary.exact.remainder)
    (to_z-of_z {w = w64} (record { sfits = c.struct_told-5-1.given.0.1 }))

-- room after the radius, after the terms, after the range, and after the integral
room₁ : (c : After-put_radius-radius)
    → Room c.put_radius-radius.result (terms (start₁ c) ++
    (range (start₁ c) ++ (integral (start₁ c) ++ exact (start₁ c))))
room₁ c = room_after (radius (start₁ c)) _ (whole (start₁ c)) c.put_radius-radius.ensures

room₂ : (c : After-put_terms-terms)
    → Room c.put_terms-terms.result (range (start₂ c) ++ (integral (start₂ c) ++ exact (start₂ c)))
room₂ c = room_after (terms (start₂ c)) _ (room₁ c.before.before.before.before) c.put_terms-terms.ensures

range_put : (c : After-put_ends-next)
    → let p = c.put_terms-terms in
    Put p.new.out p.result (range (start₃ c)) c.put_ends-next.new.out c.put_ends-next.result
unfolding text
range_put c = put_as (ap (ends_line (text "range"))
    (range_is (record { before = c.before; type_inv = record { range = c.struct_told-2-1.given } })))
    c.put_ends-next.ensures

room₃ : (c : After-put_ends-next) → Room c.put_ends-next.result (integral (start₃ c) ++ exact (start₃ c))
room₃ c =
    room_after (range (start₃ c)) _ (room₂ c.before.before.before.before.before.before.before.before) (range_put c)

integral_put : (c : After-put_ends-last)
    → Put c.put_ends-next.new.out c.put_ends-next.result (integral (start₄ c)) c.put_ends-last.new.out
    c.put_ends-last.result
unfolding text
integral_put c = put_as (ap (ends_line (text "integral"))
    (integral_is (record { before = c.before; type_inv = record { integral = c.struct_told-4-1.given } })))
    c.put_ends-last.ensures

room₄ : (c : After-put_ends-last) → Room c.put_ends-last.result (exact (start₄ c))
room₄ c =
    room_after (integral (start₄ c)) _ (room₃ c.before.before.before.before.before.before.before.before)
    (integral_put c)

exact_put : (c : After-put_exact_of)
    → Put c.put_ends-last.new.out c.put_ends-last.result (exact (start₅ c)) c.put_exact_of.new.out
    c.put_exact_of.result
exact_put c = put_as (ap (exact_lines _) (exact_is
    (record { before = c.before; type_inv = record { exact = c.struct_told-5-1.given } }))) c.put_exact_of.ensures

pub put_radius-radius-requires : goal.put_radius-radius-requires
put_radius-radius-requires c =
    room_before (radius (goal.at.put_radius-radius-requires c).Start) _
    (whole (goal.at.put_radius-radius-requires c).Start)

pub put_terms-terms-requires : goal.put_terms-terms-requires
put_terms-terms-requires c = (
  c.requires.0,
  room_before (terms (goal.at.put_terms-terms-requires c).Start) _
      (room₁ (goal.at.put_terms-terms-requires c).After-put_radius-radius),
)

pub put_ends-next-requires : goal.put_ends-next-requires
unfolding text
put_ends-next-requires c =
    rw (range_is c) (room_before (range (goal.at.put_ends-next-requires c).Start) _
    (room₂ (goal.at.put_ends-next-requires c).After-put_terms-terms))

pub put_ends-last-requires : goal.put_ends-last-requires
unfolding text
put_ends-last-requires c =
    rw (integral_is c) (room_before (integral (goal.at.put_ends-last-requires c).Start) _
    (room₃ (goal.at.put_ends-last-requires c).After-put_ends-next))

pub put_exact_of-requires : goal.put_exact_of-requires
put_exact_of-requires c = rw (exact_is c) (room₄ (goal.at.put_exact_of-requires c).After-put_ends-last)

pub returns : goal.returns
unfolding view summary_of ends_of exact_of
returns c =
    put_as (sym (lines_pieces (result (goal.at.returns c).Start)))
    (c.put_radius-radius.ensures
    then_put (c.put_terms-terms.ensures then_put (range_put (goal.at.returns c).After-put_ends-next then_put
    (integral_put (goal.at.returns c).After-put_ends-last then_put exact_put
    (goal.at.returns c).After-put_exact_of))))
