-- An evaluation held against a reading: what each way out finds.
use Rattle.std.specs.Prelude.{◌≡◌, refl, Bool, ℕ, ℤ}
use Rattle.std.proofs.Math.Path.{sym, ap}
use Rattle.std.proofs.Common.{◌∙◌, ap₂, subst, arith}
use Rattle.std.proofs.Math.Bool.{true, false, ◌||◌}
use Rattle.std.proofs.Math.Option.{none, some}
use Rattle.std.specs.Int.Signed.{lt_z}
use Rattle.calculus.specs.Refusal.{Result, done, stopped, ◌followed_by◌}
use Rattle.calculus.specs.Operations.{Ends}
use Rattle.readings.specs.Readings as R
use Rattle.readings.specs.Readings.{contradicts, with_place, held}
use Rattle.model_types.specs.declared.Bounds.{Bounds}
use Rattle.model_types.specs.declared.Refusal.{Refusal}
use Rattle.model_types.specs.ModelStruct.{Verdict}
use Rattle.std.specs.Prelude.{Ok, Err}
use Rattle.model_types.specs.ModelStruct.{refused_at}
use Rattle.model_types.specs.ModelStruct.{refusal, cause, bounds}
use Rattle.model_types.specs.ModelStructLaws.{cause_refusal}
use Rattle.model_readings.specs.ReadingStruct.{finding}
use Rattle.model_readings.specs.RowIterations.{judged}

-- ---- what a struct of two ends says of the result that it is
-- 1 for a refusal
tag : Verdict → ℕ
tag (Ok u) = 0
tag (Err r) = 1

the_cause : Verdict → Refusal → Refusal
the_cause (Ok u) d = d
the_cause (Err r) d = r.0

pub accepted_ends : (e : Result Ends) (b : Bounds) → b ≡ bounds e → b.verdict ≡ Ok tt
    → e ≡ done (record { low = b.low; high = b.high })
unfolding bounds tag
accepted_ends (done en) b h v = ap (λ (b : Bounds). done (record { low = b.low; high = b.high })) (sym h)
accepted_ends (stopped c j) b h v = absurd (omega (arith, ap (λ b. tag b.verdict) h, ap tag v))

pub refused_ends : (i : ℕ) (e : Result Ends) (b : Bounds) (c : Refusal) (j : ℕ) → b ≡ bounds e → b.verdict
    ≡ Err (refused_at c j)
    → with_place i e ≡ stopped (cause c) i
unfolding bounds tag the_cause with_place
refused_ends i (done en) b c j h v = absurd (omega (arith, ap (λ b. tag b.verdict) h, ap tag v))
refused_ends i (stopped d k) b c j h v = ap (λ r. stopped r i)
    (sym (cause_refusal d) ∙ ap cause (sym (ap (λ b. the_cause b.verdict c) h) ∙ ap (λ v. the_cause v c) v))

-- ---- the ways out
module _ (i : ℕ) (r : R.Reading) (e : Result Ends) (b : Bounds) (h : b ≡ bounds e) where
  abbrev ends : Ends
  ends = record { low = b.low; high = b.high }

  by_test : b.verdict ≡ Ok tt → (t : Bool) → contradicts r ends ≡ t
      → finding (elim t [ true ↦ done (some i) | false ↦ done none ]) ≡ finding (judged i r e)
  unfolding judged with_place ◌followed_by◌ held
  by_test v t q = sym (ap (λ e. finding (judged i r e)) (accepted_ends e b h v)
      ∙ ap (λ t. finding (elim t [ true ↦ done (some i) | false ↦ done none ])) q)

  pub above_band : b.verdict ≡ Ok tt → lt_z r.high b.low ≡ true → finding (done (some i)) ≡ finding
      (judged i r e)
  unfolding contradicts
  above_band v t = by_test v true (ap (λ x. x || lt_z b.high r.low) t)

  pub below_band : b.verdict ≡ Ok tt → lt_z r.high b.low ≡ false → lt_z b.high r.low ≡ true
      → finding (done (some i)) ≡ finding (judged i r e)
  unfolding contradicts
  below_band v f t = by_test v true (ap₂ ◌||◌ f t)

  pub in_common : b.verdict ≡ Ok tt → lt_z r.high b.low ≡ false → lt_z b.high r.low ≡ false
      → finding (done none) ≡ finding (judged i r e)
  unfolding contradicts
  in_common v f t = by_test v false (ap₂ ◌||◌ f t)

  pub not_evaluated : (c : Refusal) (j : ℕ) → b.verdict ≡ Err (refused_at c j)
      → finding (stopped (cause c) i) ≡ finding (judged i r e)
  unfolding judged ◌followed_by◌
  not_evaluated c j v = ap (λ x. finding (x followed_by held i r (done none))) (sym (refused_ends i e b c j h v))
