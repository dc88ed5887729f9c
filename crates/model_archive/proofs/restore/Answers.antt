use mathlib.Core.Path.{◌≡◌, refl, sym, ◌∙◌, ap, ap₂, subst}
use mathlib.Core.List.{List}
use Prim.Native.Nat.{ℕ, ◌+◌, ◌*◌, ◌≤◌, min}
use native.Mathlib.Omega.{arith}
use native.Mathlib.Nat as NatL
use borrow.Author.Tests.{not-true, not-false}
use lib.Dec.{T}
use lib.ListN.{length, drop}
use Rattle.calculus.specs.Model as C
use Rattle.calculus.specs.Refusal.{stopped, bad_length}
use Rattle.model_types.specs.ModelStruct.{answer, cause}
use Rattle.format.specs.Bytes.{byte, u32}
use Rattle.archive.specs.Ranks.{rank_width}
use Rattle.archive.specs.Archive.{read_all, require_ranks, restored_model, restored}
use Rattle.model_archive_restoring.specs.Restoring.{go_on, last_test}
use Rattle.model_archive_restoring.specs.RestoreLoopLaws.{ranks_passed}
use Rattle.model_archive.specs.RestoringTestsLaws.{too_short, other_length, not_vars, goes_on}
use borrow.Author.Rules.{rules}
use Rattle.model_archive.proofs.restore.Goals as goal

pub returns-then-bytes-lt-HEAD : goal.returns-then-bytes-lt-HEAD
unfolding cause
returns-then-bytes-lt-HEAD c = c.refuse.ensures ∙ ap answer
    (sym (too_short c.args.bytes.now c.args.terms
    c.if-bytes-lt-HEAD.true))

pub overflow_cast-count : goal.overflow_cast-count
overflow_cast-count c = omega (arith, c.shared_slice_known-2-1.given 5)

pub overflow_mul-count : goal.overflow_mul-count
overflow_mul-count c = omega (arith, c.shared_slice_known-2-1.given 5)

pub overflow_add-count : goal.overflow_add-count
overflow_add-count c = omega (arith, c.shared_slice_known-2-1.given 5)

pub returns-then-bytes-count : goal.returns-then-bytes-count
unfolding cause
returns-then-bytes-count c = c.refuse-then-bytes-count.ensures
    ∙ ap answer (sym (other_length c.args.bytes.now
    c.args.terms c.if-bytes-lt-HEAD.false
    c.if-bytes-count.true))

pub returns-then-not-from_one : goal.returns-then-not-from_one
unfolding cause
returns-then-not-from_one c =
    c.refuse-then-not-from_one.ensures ∙ ap answer (sym (not_vars c.args.bytes.now c.args.terms
    c.if-bytes-count.false
    (sym c.from_one.ensures ∙ c.if-not-from_one.true)))

pub ranks_tested-v-requires : goal.ranks_tested-v-requires
ranks_tested-v-requires c =
    omega (
      arith,
      c.min-few.ensures,
      NatL.min-le_right c.args.terms
          (byte 5 c.args.bytes.now),
      c.if-bytes-count.false,
    )

pub restored_model-requires : goal.restored_model-requires
unfolding go_on rank_width
restored_model-requires c =
    let l = read_all c.min-few.result (drop 6 c.args.bytes.now) in record {
      n_value = sym c.from_one.ensures
          ∙ c.if-not-from_one.false;
      few_le_count = omega (
        arith,
        c.min-few.ensures,
        NatL.min-le_right c.args.terms
            (byte 5 c.args.bytes.now),
      );
      s_len = c.if-bytes-count.false;
      t = ranks_passed 0 0 l (c.ranks_tested-v.ensures _
          ∙ ap (λ v. go_on v (stopped bad_length 0)) c.in-Ok.is);
    }

pub returns-in-Err : goal.returns-in-Err
unfolding go_on
returns-in-Err c =
    let M : ℕ → C.Model = λ k. restored_model (byte 0 c.args.bytes.now) (u32 (drop 1 c.args.bytes.now))
    (read_all k (drop 6 c.args.bytes.now)) in
    c.refuse-in-Err.ensures ∙ ap answer (sym (goes_on c.args.bytes.now c.args.terms
    c.if-bytes-count.false
    (sym c.from_one.ensures
    ∙ c.if-not-from_one.false)
    ∙ ap (λ k. require_ranks 0 0 (read_all k (drop 6 c.args.bytes.now))
    (last_test (byte 5 c.args.bytes.now) (M k))) (sym c.min-few.ensures)
    ∙ c.ranks_tested-v.ensures _
    ∙ ap (λ v. go_on v (last_test (byte 5 c.args.bytes.now)
    (M c.min-few.result))) c.in-Err.is))

pub returns-in-Ok : goal.returns-in-Ok
unfolding go_on
returns-in-Ok c =
    let M : ℕ → C.Model = λ k. restored_model (byte 0 c.args.bytes.now) (u32 (drop 1 c.args.bytes.now))
    (read_all k (drop 6 c.args.bytes.now)) in
    c.restored_model.ensures ∙ ap answer
    (sym (goes_on c.args.bytes.now c.args.terms
    c.if-bytes-count.false
    (sym c.from_one.ensures
    ∙ c.if-not-from_one.false)
    ∙ ap (λ k. require_ranks 0 0 (read_all k (drop 6 c.args.bytes.now))
    (last_test (byte 5 c.args.bytes.now) (M k))) (sym c.min-few.ensures)
    ∙ c.ranks_tested-v.ensures _
    ∙ ap (λ v. go_on v (last_test (byte 5 c.args.bytes.now)
    (M c.min-few.result))) c.in-Ok.is))
