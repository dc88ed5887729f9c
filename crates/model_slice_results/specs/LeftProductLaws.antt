-- The product of two models whose terms are left in slices, without its shares.
use Rattle.std.specs.Prelude.{refl, List, ℕ, ℤ}
use Rattle.std.proofs.Common.{◌∙◌, ap}
use Rattle.calculus.specs.Model as C
use Rattle.calculus.specs.Refusal as R
use Rattle.calculus.specs.Refusal.{at_place}
use Rattle.calculus.specs.Shares as S
use Rattle.model_types.specs.declared.Answer.{Answer}
use Rattle.model_types.specs.ModelStruct.{answer}
use Rattle.model_types.specs.SharesStruct.{accounted}
use Rattle.model_types.specs.SharesStructLaws.{accounted_answer}
use Rattle.model_slices.specs.declared.Kept.{Kept}
use Rattle.model_limits.specs.Limits.{LeftIn}
use Rattle.model_horner_product.specs.HornerProduct.{KeptIn}

pub kept_left : {n : ℕ} {k : Kept} {ks : List ℕ} {cs : List ℤ} (a : R.Answer C.Model) (f : C.Model → S.Shares)
    → KeptIn n k ks cs (accounted a f)
    → LeftIn n (record { count = k.count; radius = k.radius; verdict = k.verdict }) ks cs (answer (at_place 0 a))
kept_left a f p =
    let e = accounted_answer a f refl in
    record {
      verdict = p.verdict ∙ ap (λ (a : Answer). a.verdict) e;
      model = λ v. p.model v ∙ ap (λ (a : Answer). a.model) e;
    }
