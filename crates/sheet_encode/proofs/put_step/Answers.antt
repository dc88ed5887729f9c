-- `put_step` puts the fields one after the other.
use mathlib.Core.Path.{◌≡◌, ◌∙◌}
use native.Mathlib.Omega.{arith}
use lib.ListN.{length-set}
use mir.Facts.{to_z-of_z}
use mir.Syntax.{w64}
use mir.Val.{to_z, of_z}
use Rattle.sheet_book.specs.BookStruct.{held_step}
use Rattle.sheet_encode.specs.StoreLaws.{step_stores}
use Rattle.sheet_encode.proofs.put_step.Goals as goal
use Rattle.sheet_encode.proofs.put_step.Goals.{After-struct_told-1}

read_back : (c : After-struct_told-1)
    → to_z w64 (of_z w64 c.args.s.value) ≡ c.args.s.value
read_back c = to_z-of_z {w = w64} (record { sfits = c.struct_told-1.given.1.1.1.1.0.1 })

pub bounds-buffer-at-2 : goal.bounds-buffer-at-2
bounds-buffer-at-2 c = simp length-set (omega arith)

pub bounds-buffer-at-3 : goal.bounds-buffer-at-3
bounds-buffer-at-3 c = simp length-set (omega arith)

pub bounds-buffer-at-4 : goal.bounds-buffer-at-4
bounds-buffer-at-4 c = simp length-set (omega arith)

pub put_i32-requires : goal.put_i32-requires
put_i32-requires c = record {
  z_bound = rw (read_back c) c.requires.value_bound;
  at_in_bounds = simp length-set (omega arith);
}

pub shape_of-buffer : goal.shape_of-buffer
shape_of-buffer c = c.put_i32.auto.buffer ∙ simp length-set

pub returns : goal.returns
unfolding held_step
returns c =
    let a = c.args in
    c.put_i32.ensures ∙ rw (read_back (goal.at.returns c).After-struct_told-1)
    (step_stores a.buffer.now a.at (held_step a.s))
