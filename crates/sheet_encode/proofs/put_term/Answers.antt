-- `put_term` puts the key and after it the coefficient.
use mathlib.Core.Path.{◌∙◌, ap₂}
use Prim.Native.Nat.{◌+◌, ◌-◌}
use native.Mathlib.Omega.{arith}
use lib.Seq.{sets}
use mir.Facts.{to_z-of_z}
use Rattle.format.specs.Bytes.{u32_bytes, bits}
use Rattle.format.proofs.KeyBytesLaws.{term_parts, term_least}
use Rattle.sheet_encode.specs.StoreLaws.{term_stores}
use Rattle.sheet_encode.proofs.put_term.Goals as goal

pub put_key-requires : goal.put_key-requires
put_key-requires c = omega (arith, c.requires.n_in_bounds, term_parts c.args.n)

pub overflow_sub-at : goal.overflow_sub-at
overflow_sub-at c =
    omega (arith, c.term_bytes-size.ensures, term_least c.args.n)

pub put_i32-requires : goal.put_i32-requires
put_i32-requires c =
    record {
      z_bound = rw (to_z-of_z c.ranges.coefficient) c.requires.coefficient_bound;
      at_in_bounds = omega (
        arith,
        c.requires.n_in_bounds,
        c.term_bytes-size.ensures,
        term_least c.args.n,
        c.put_key.auto.buffer,
      );
    }

pub returns : goal.returns
returns c =
    let a = c.args in
    c.put_i32.ensures
    ∙ ap₂ (λ l z. sets l (a.at + c.term_bytes-size.result - 4) (u32_bytes (bits z))) c.put_key.ensures
    (to_z-of_z c.ranges.coefficient)
    ∙ term_stores a.buffer.now a.at a.n (record { key = a.key; coefficient = a.coefficient }) _
    (omega (arith, c.term_bytes-size.ensures, term_parts a.n))
