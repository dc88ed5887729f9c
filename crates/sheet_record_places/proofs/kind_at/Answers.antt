-- `kind_at` compares the place with the trailer's and with that of the first step.
use mathlib.Core.Path.{sym}
use native.Mathlib.Omega.{arith}
use Rattle.sheet_record_places.specs.PlacesLaws.{kind_none, kind_model, kind_step}
use borrow.Author.Rules.{rules}
use Rattle.sheet_record_places.proofs.kind_at.Goals as goal

pub returns-then-length-lt-TRAILER_BYTES : goal.returns-then-length-lt-TRAILER_BYTES
returns-then-length-lt-TRAILER_BYTES c = let a = c.args in sym (kind_none a.s.now a.at (omega arith))

pub returns-then-trailer-at : goal.returns-then-trailer-at
returns-then-trailer-at c = let a = c.args in sym (kind_none a.s.now a.at (omega arith))

pub returns-then-first-at : goal.returns-then-first-at
returns-then-first-at c =
    let a = c.args in
    let e = c.first_step-first.ensures in
    sym (kind_step a.s.now a.at (omega arith) (omega arith))

pub returns : goal.returns
returns c =
    let a = c.args in
    let e = c.first_step-first.ensures in
    sym (kind_model a.s.now a.at (omega arith) (omega arith))
