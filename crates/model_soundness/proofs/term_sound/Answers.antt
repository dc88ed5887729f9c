-- `term_sound` makes a term's tests one after the other.
use mathlib.Core.Path.{◌≡◌, sym, ◌∙◌, ap}
use mathlib.Core.Bool.{true, false, not, ◌&&◌}
use borrow.Author.Tests.{eq-eqb}
use Rattle.std.proofs.Common.{leb}
use Rattle.calculus.specs.Terms.{is_nonzero}
use Rattle.model_types.specs.ModelStruct.{term_sound}
use Rattle.model_types.specs.ZeroTestLaws.{zero_bits, nonzero_bits}
use Rattle.model_soundness.proofs.term_sound.Goals as goal
use Rattle.model_soundness.proofs.term_sound.Goals.{then-coefficient-ne0, else-coefficient-ne0, then-least-key, else-least-key}

pub returns-then-key_fits : goal.returns-then-key_fits
unfolding term_sound
returns-then-key_fits c =
    let first : c.if-coefficient-ne0.value ≡ (is_nonzero c.args.coefficient && leb c.args.least c.args.key) =
    elim c.if-coefficient-ne0.branch [
      | then-coefficient-ne0 u ↦ rw (nonzero_bits _ u.if-coefficient-ne0.true) u.value-is
      | else-coefficient-ne0 u ↦ rw (zero_bits c.ranges.coefficient u.if-coefficient-ne0.false)
          (u.value-is ∙ ap not (eq-eqb _ 0 u.if-coefficient-ne0.false))
    ] in
    elim c.if-least-key.branch [
      | then-least-key w ↦
          let e : (is_nonzero c.args.coefficient && leb c.args.least c.args.key) ≡ true = sym first
          ∙ w.if-least-key.true in
          rw (e, sym w.key_fits.ensures ∙ sym w.value-is ∙ c.if-key_fits.true, c.degree.ensures)
      | else-least-key w ↦ cc
    ]

pub returns-else-key_fits : goal.returns-else-key_fits
unfolding term_sound
returns-else-key_fits c =
    let first : c.if-coefficient-ne0.value ≡ (is_nonzero c.args.coefficient && leb c.args.least c.args.key) =
    elim c.if-coefficient-ne0.branch [
      | then-coefficient-ne0 u ↦ rw (nonzero_bits _ u.if-coefficient-ne0.true) u.value-is
      | else-coefficient-ne0 u ↦ rw (zero_bits c.ranges.coefficient u.if-coefficient-ne0.false)
          (u.value-is ∙ ap not (eq-eqb _ 0 u.if-coefficient-ne0.false))
    ] in
    elim c.if-least-key.branch [
      | then-least-key w ↦
          let e : (is_nonzero c.args.coefficient && leb c.args.least c.args.key) ≡ true = sym first
          ∙ w.if-least-key.true in
          rw (e, sym w.key_fits.ensures ∙ sym w.value-is ∙ c.if-key_fits.false) c.if-key_fits.false
      | else-least-key w ↦
          let e : (is_nonzero c.args.coefficient && leb c.args.least c.args.key) ≡ false = sym first
          ∙ w.if-least-key.false in
          rw e c.if-key_fits.false
    ]
