-- `put_term` puts the word, the exponents, the coefficient and the line's end.
use mathlib.Core.Path.{◌≡◌, sym, ap}
use mathlib.Core.List.{List, ◌++◌, map}
use Prim.Native.Nat.{ℕ}
use borrow.Author.Rules.{rules}
use mir.Facts.{to_z-of_z}
use mir.Syntax.{w64}
use mir.Val.{to_z, of_z}
use Rattle.calculus.specs.Key.{monomial_of}
use Rattle.calculus.specs.Terms.{term}
use Rattle.format.specs.Bytes.{join}
use Rattle.format.specs.Lines.{text}
use Rattle.text_decimal.specs.Put.{Put, Room, natural, integer}
use Rattle.text_decimal.specs.PutLaws.{◌then_put◌, put_as, room_before, room_after}
use Rattle.text_lines.specs.LineLaws.{line_end, term_pieces}
use Rattle.text_lines.proofs.put_term.Goals as goal
use Rattle.text_lines.proofs.put_term.Goals.{After-put_bytes-word, After-put_exponents-exponents, After-put_integer-value, Start}

-- the pieces, and the coefficient as the call sees it
module _ (c : Start) where
  abbrev exponents : List ℕ
  exponents = join (map natural (monomial_of c.args.n c.args.key))

  abbrev coefficient : List ℕ
  coefficient = integer c.args.coefficient

  coefficient_is : integer (to_z w64 (of_z w64 c.args.coefficient)) ≡ coefficient
  coefficient_is = ap integer (to_z-of_z c.ranges.coefficient)

  whole : Room c.args.at (text "term" ++ (exponents ++ (coefficient ++ line_end)))
  whole = rw (term_pieces (term c.args.coefficient (monomial_of c.args.n c.args.key))) at c.requires.room

-- room after the word, after the exponents, and after the coefficient
room₁ : (c : After-put_bytes-word)
    → Room c.put_bytes-word.result (exponents c.before.before.before.before.before ++
    (coefficient c.before.before.before.before.before ++ line_end))
unfolding text
room₁ c = room_after (text "term") _ (whole c.before.before.before.before.before) c.put_bytes-word.ensures

room₂ : (c : After-put_exponents-exponents) → Room c.put_exponents-exponents.result
    (coefficient c.before.before.before.before.before.before.before.before.before ++ line_end)
room₂ c = room_after (exponents c.before.before.before.before.before.before.before.before.before) _
    (room₁ c.before.before.before.before) c.put_exponents-exponents.ensures

coefficient_put : (c : After-put_integer-value)
    → let p = c.put_exponents-exponents in
    Put p.new.out p.result
    (coefficient c.before.before.before.before.before.before.before.before.before.before.before.before.before)
    c.put_integer-value.new.out c.put_integer-value.result
coefficient_put c = put_as
    (coefficient_is c.before.before.before.before.before.before.before.before.before.before.before.before.before)
    c.put_integer-value.ensures

room₃ : (c : After-put_integer-value) → Room c.put_integer-value.result line_end
room₃ c = room_after
    (coefficient c.before.before.before.before.before.before.before.before.before.before.before.before.before) line_end
    (room₂ c.before.before.before.before) (coefficient_put c)

pub put_bytes-word-requires : goal.put_bytes-word-requires
unfolding text
put_bytes-word-requires c = room_before (text "term") _ (whole (goal.at.put_bytes-word-requires c).Start)

pub put_exponents-exponents-requires : goal.put_exponents-exponents-requires
put_exponents-exponents-requires c =
    record {
      key_in = c.requires.key_in;
      room = room_before (exponents (goal.at.put_exponents-exponents-requires c).Start) _
          (room₁ (goal.at.put_exponents-exponents-requires c).After-put_bytes-word);
    }

pub put_integer-value-requires : goal.put_integer-value-requires
put_integer-value-requires c =
    rw (coefficient_is (goal.at.put_integer-value-requires c).Start)
    (room_before (coefficient (goal.at.put_integer-value-requires c).Start) line_end
    (room₂ (goal.at.put_integer-value-requires c).After-put_exponents-exponents))

pub put_byte-requires : goal.put_byte-requires
unfolding text
put_byte-requires c = room₃ (goal.at.put_byte-requires c).After-put_integer-value

pub returns : goal.returns
unfolding text
returns c =
    put_as (sym (term_pieces _))
    (c.put_bytes-word.ensures
    then_put (c.put_exponents-exponents.ensures then_put
    (coefficient_put (goal.at.returns c).After-put_integer-value then_put c.put_byte.ensures)))
