-- `judged` takes beta from the first form and mu from the second.
use mathlib.Core.Path.{◌≡◌, sym, ◌∙◌, ap₂, subst}
use Prim.Native.Nat.{◌≤◌}
use borrow.Author.Rules.{rules}
use Rattle.numbers.specs.Fixed.{span_limit}
use Rattle.calculus.specs.Refusal.{at_place}
use Rattle.calculus.specs.Operations.{certified}
use Rattle.model_types.specs.ModelStruct.{view, answer}
use Rattle.model_slices.specs.HandedModels.{handed}
use Rattle.model_certificate.specs.CertificateLaws.{largest_small}
use Rattle.model_certificate.proofs.judged.Goals as goal

pub largest_value-beta-requires : goal.largest_value-beta-requires
largest_value-beta-requires c = c.requires.lies

pub largest_value-mu-requires : goal.largest_value-mu-requires
largest_value-mu-requires c = c.requires.lies_2

pub certified-quotient-requires : goal.certified-quotient-requires
certified-quotient-requires c =
    let w = c.requires.lies in record {
      t = c.requires.t;
      count_in_bounds = c.requires.count_in_bounds;
      beta_le_span_limit = subst (λ beta. beta ≤ span_limit) (sym (c.largest_value-beta.ensures w)) (largest_small w);
    }

pub returns : goal.returns
returns c v w =
    let h = view (handed c.args.n c.args.count 0 c.args.keys.now c.args.coefficients.now) in
    let both : c.certified-quotient.result ≡ answer (at_place 0 (certified h c.largest_value-beta.result
    c.largest_value-mu.result)) = c.certified-quotient.ensures in
    both ∙ ap₂ (λ beta mu. answer (at_place 0 (certified h beta mu))) (c.largest_value-beta.ensures v)
    (c.largest_value-mu.ensures w)
