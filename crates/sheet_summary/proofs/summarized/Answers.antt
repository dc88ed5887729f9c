-- `summarized` puts the ends, and quotient and remainder, beside the model.
use mathlib.Core.Path.{◌≡◌, sym, ◌∙◌, ap, ap₂}
use Prim.Native.Nat.{ℕ}
use lib.IntN.{ℤ}
use mir.Facts.{to_z-of_z}
use mir.Syntax.{w64}
use mir.Val.{to_z, of_z}
use Rattle.calculus.specs.Book.{summary}
use Rattle.calculus.specs.Operations.{whole_integral}
use Rattle.model_types.specs.ModelStruct.{bounds, integral_answer}
use Rattle.model_types.specs.declared.Bounds.{Bounds}
use Rattle.model_types.specs.declared.Integral.{Integral}
use Rattle.model_types.specs.declared.Model.{Model}
use Rattle.std.specs.Prelude.{Ok}
use Rattle.sheet_book.specs.declared.Ends.{Ends}
use Rattle.sheet_book.specs.declared.Exact.{Exact}
use Rattle.sheet_book.specs.declared.Summary.{Summary}
use Rattle.sheet_book.specs.SummaryStruct.{stored_ends, stored_exact, run_answer}
use Rattle.sheet_summary.proofs.summarized.Goals as goal

pub range_of-range-requires : goal.range_of-range-requires
range_of-range-requires c = c.requires.0

pub integral_of-integral-requires : goal.integral_of-integral-requires
integral_of-integral-requires c = c.requires.0

-- two ends, q and r, and a summary of them
abbrev ends : ℤ → ℤ → Ends
ends a b = record { low = a; high = b }

abbrev exact : ℤ → ℕ → Exact
exact q r = record { quotient = q; remainder = r }

abbrev beside : Model → Ends → Ends → Exact → Summary
beside m r i x = record { model = m; range = r; integral = i; exact = x; verdict = Ok tt }

beside_is : {m k : Model} {r s i j : Ends} {x y : Exact} → m ≡ k → r ≡ s → i ≡ j → x ≡ y
    → beside m r i x ≡ beside k s j y
beside_is {m = m} {r = r} {s = s} {j = j} {x = x} {y = y} e f g h =
    ap₂ (λ i x. beside m r i x) g h ∙ ap₂ (λ m r. beside m r j y) e f

pub returns : goal.returns
unfolding run_answer stored_ends stored_exact summary bounds integral_answer whole_integral
returns c =
    let r = c.range_of-range in
    let i = c.integral_of-integral in
    let t = c.struct_told-1.given in
    let u = c.struct_told-2-1.given in
    let r_low : to_z w64 (of_z w64 r.result.low) ≡ r.result.low = to_z-of_z {w = w64} (record { sfits = t.0.1 }) in
    let r_high : to_z w64 (of_z w64 r.result.high) ≡ r.result.high = to_z-of_z {w = w64} (record { sfits = t.1.0.1 }) in
    let i_low : to_z w64 (of_z w64 i.result.low) ≡ i.result.low = to_z-of_z {w = w64} (record { sfits = u.0.1 }) in
    let i_high : to_z w64 (of_z w64 i.result.high) ≡ i.result.high = to_z-of_z {w = w64} (record { sfits = u.1.0.1 }) in
    let i_whole : to_z w64 (of_z w64 i.result.quotient) ≡ i.result.quotient =
    to_z-of_z {w = w64} (record { sfits = u.1.1.0.1 }) in
    let of : Bounds → Ends = λ c. ends c.low c.high in
    let around : Integral → Ends = λ c. ends c.low c.high in
    let whole : Integral → Exact = λ c. exact c.quotient c.remainder in
    beside_is (sym c.requires.1) (ap₂ ends r_low r_high ∙ ap of r.ensures)
    (ap₂ ends i_low i_high ∙ ap around i.ensures)
    (ap (λ q. exact q i.result.remainder) i_whole ∙ ap whole i.ensures)
