-- `fault_of` makes three comparisons.
use mathlib.Core.Path.{◌≡◌, sym}
use Prim.Native.Nat.{ℕ, ◌≤◌, ◌<◌}
use borrow.Author.Tests.{le-leb, lt-leb}
use Rattle.model_types.specs.declared.Refusal.TheVariants.{BadModel}
use Rattle.std.specs.Prelude.{Err}
use Rattle.model_types.specs.ModelStruct.{refused_at}
use Rattle.sheet_loading.specs.Loading.{fault_of}
use Rattle.sheet_loading.proofs.fault_of.Goals as goal

-- all models pass, and bytes are left
left_over : (p c e o f t : ℕ) → c ≤ p → e < o → fault_of p c e o f t ≡ Err (refused_at BadModel c)
unfolding fault_of
left_over p c e o f t h l = rw (le-leb c p h, lt-leb o e l)

pub returns-then-place-count : goal.returns-then-place-count
unfolding fault_of
returns-then-place-count c = rw (lt-leb _ _ c.if-place-count.true)

pub returns-then-end-offset : goal.returns-then-end-offset
returns-then-end-offset c = sym (left_over _ _ _ _ _ _ c.if-place-count.false c.if-end-offset.true)

pub returns-then-fault-total : goal.returns-then-fault-total
unfolding fault_of
returns-then-fault-total c =
    rw (le-leb _ _ c.if-place-count.false, le-leb _ _ c.if-end-offset.false, lt-leb _ _ c.if-fault-total.true)

pub returns : goal.returns
unfolding fault_of
returns c =
    rw (le-leb _ _ c.if-place-count.false, le-leb _ _ c.if-end-offset.false, le-leb _ _ c.if-fault-total.false)
