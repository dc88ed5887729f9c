-- The limits of a model that lies in slices: what is left when they are tested.
use Rattle.std.proofs.Math.Path.{◌≡◌, ap}
use Rattle.std.proofs.Common.{sym, ◌∙◌, arith}
use Rattle.std.specs.Prelude.{true, false, List, ℕ, leb, ℤ}
use Rattle.numbers.specs.Fixed.{span_limit}
use Rattle.calculus.specs.Model.{span}
use Rattle.calculus.specs.Refusal.{at_place}
use Rattle.calculus.specs.Operations.{limited}
use Rattle.model_slices.specs.model_types.declared.Refusal.TheVariants.{OverSpan}
use Rattle.std.specs.Prelude.{Ok, Err}
use Rattle.model_slices.specs.model_types.ModelStruct.{refused_at}
use Rattle.model_slices.specs.model_types.declared.Answer.{Answer}
use Rattle.model_slices.specs.model_types.ModelStruct.{view, answer, refusal}
use Rattle.model_slices.specs.HeldModels.{held}
use Rattle.model_limits.specs.declared.Left.{Left}
use Rattle.model_limits.specs.Limits.{Packed, LeftIn}
use Rattle.model_limits.specs.LimitLaws.{answer_within, answer_over}

module _ (n count radius : ℕ) (ks : List ℕ) (cs : List ℤ) (p : Packed (held n count radius ks cs)) where
  abbrev tested : Answer
  tested = answer (at_place 0 (limited (view (held n count radius ks cs))))

  pub left_within : leb (span (view (held n count radius ks cs))) span_limit ≡ true
      → LeftIn n (record { count = count; radius = radius; verdict = Ok tt }) ks cs tested
  left_within h = record {
    verdict = ap (λ (a : Answer). a.verdict) (sym (answer_within _ p h));
    model = λ v. ap (λ (a : Answer). a.model) (sym (answer_within _ p h));
  }

  pub left_over : leb (span (view (held n count radius ks cs))) span_limit ≡ false → {r : Left}
      → r.verdict ≡ Err (refused_at OverSpan 0) → LeftIn n r ks cs tested
  unfolding answer refusal
  left_over h e = record {
    verdict = e ∙ ap (λ (a : Answer). a.verdict) (sym (answer_over _ p h));
    model = λ v. let z : ◌≡◌ {A = ℕ} 0 1 = cc in absurd (omega arith);
  }
