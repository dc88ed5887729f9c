-- `put_i32` puts the bits of two's complement.
use mathlib.Core.Path.{ap, ◌∙◌}
use borrow.Author.Rules.{rules}
use lib.Seq.{sets}
use mir.Facts.{to_z-of_z}
use Rattle.format.specs.Bytes.{u32_bytes, bits}
use Rattle.model_bytes.proofs.put_i32.Goals as goal

pub returns : goal.returns
returns c =
    let a = c.args in
    c.put_u32.ensures
    ∙ ap (λ x. sets a.buffer.now a.at (u32_bytes x))
    (c.bits_of-u.ensures ∙ ap bits (to_z-of_z c.ranges.z))
