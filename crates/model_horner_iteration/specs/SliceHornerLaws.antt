-- An iteration of Horner's rule over models that lie in slices: what each call asks and leaves.
use Rattle.std.specs.Prelude.{◌≡◌, refl, List, ℕ, ◌+◌, ◌≤◌, ◌<◌, ℤ}
use Rattle.std.proofs.Common.{sym, ◌∙◌, arith}
use Rattle.std.proofs.Math.Path.{ap, subst}
use Rattle.calculus.specs.Refusal.{at_place}
use Rattle.calculus.specs.Operations.{limited, multiply, add}
use Rattle.calculus.specs.Shares.{product_shares}
use Rattle.model_types.specs.declared.Model.{Model}
use Rattle.model_types.specs.declared.Refusal.{Refusal}
use Rattle.model_types.specs.declared.Refusal.TheVariants.{TooManyTerms}
use Rattle.std.specs.Prelude.{Ok, Err}
use Rattle.model_types.specs.ModelStruct.{refused_at}
use Rattle.model_types.specs.declared.Answer.{Answer}
use Rattle.model_types.specs.declared.Shares.{Shares}
use Rattle.model_types.specs.declared.Accounted.{Accounted}
use Rattle.model_types.specs.ModelStruct.{view, answer, refusal}
use Rattle.model_types.specs.SharesStruct.{accounted, unless_refused}
use Rattle.model_slices.specs.declared.Kept.{Kept}
use Rattle.model_slices.specs.HeldModels.{held, Room}
use Rattle.model_limits.specs.declared.Left.{Left}
use Rattle.model_limits.specs.Limits.{Packed, LeftIn}
use Rattle.model_addition.specs.Addition.{Operands, SumOf, SumIn}
use Rattle.model_horner_iteration.specs.HornerIteration.{horner_iteration, Iteration, KeptIn}
use Rattle.model_horner_iteration.specs.HornerIteration.{FactorsOf, IterationOf}
use Rattle.model_horner_iteration.specs.IterationLaws.{product_refused, product_operands, sum_accounted}

-- a refusal that is another answer's too
refused_kept : {n : ℕ} {k : Kept} {a : Accounted} {x : Refusal} {y : ℕ} → k.verdict ≡ Err (refused_at x y)
    → k.verdict ≡ a.answer.verdict → k.shares ≡ a.shares → (ks : List ℕ) (cs : List ℤ) → KeptIn n k ks cs a
refused_kept v e s ks cs = record {
  verdict = e;
  shares = s;
  model = λ t. let z : ◌≡◌ {A = ℕ} 0 1 = cc in absurd (omega arith);
}

module _ {d n c e count radius t : ℕ} {ks ks₂ ks₃ : List ℕ} {cs cs₂ cs₃ : List ℤ}
    (of : IterationOf d n c e ks cs count radius ks₂ cs₂ t ks₃ cs₃) where
  abbrev h : Model
  h = held n c e ks cs

  abbrev g : Model
  g = held n count radius ks₂ cs₂

  abbrev q : Model
  q = held n t 0 ks₃ cs₃

  abbrev w : Iteration d h g q
  w = of.iteration

  abbrev pub iteration_factors : FactorsOf d n c e ks cs count radius ks₂ cs₂
  iteration_factors = record {
    first_room = of.first_room;
    second_room = of.second_room;
    factors = of.iteration.factors;
  }

  -- the product, and the answer
  abbrev pub product : Accounted
  product = accounted (multiply d (view h) (view g)) (λ m. product_shares d (view h) (view g))

  abbrev pub iterated : Accounted
  iterated = accounted (horner_iteration d (view h) (view g) (view q)) (λ m. product_shares d (view h) (view g))

  module _ {k : Kept} (ks₄ : List ℕ) (cs₄ : List ℤ) (p : KeptIn n k ks₄ cs₄ product) where
    abbrev made : Model
    made = held n k.count k.radius ks₄ cs₄

    pub iteration_stops : {x : Refusal} {y : ℕ} → k.verdict ≡ Err (refused_at x y) → (ks₅ : List ℕ) (cs₅ : List ℤ)
        → KeptIn n k ks₅ cs₅ iterated
    iteration_stops v ks₅ cs₅ =
        let same = product_refused w refl (sym p.verdict ∙ v) in
        refused_kept v (p.verdict ∙ ap (λ (a : Accounted). a.answer.verdict) same)
        (p.shares ∙ ap (λ (a : Accounted). a.shares) same) ks₅ cs₅

    module _ (v : k.verdict ≡ Ok tt) where
      accepts : product.answer.verdict ≡ Ok tt
      accepts = sym p.verdict ∙ v

      pub iteration_operands : Operands made q
      iteration_operands = subst (λ m. Operands m q) (sym (p.model v)) (product_operands w refl accepts)

      abbrev pub iteration_sum : Room ks₄ cs₄ → SumOf k.count ks₄ cs₄ t ks₃ cs₃
      iteration_sum room = record {
        vars = n;
        radius1 = k.radius;
        radius2 = 0;
        first_room = room;
        second_room = of.third_room;
        operands = iteration_operands;
      }

      -- the sum, with the product's shares
      abbrev sum : Answer
      sum = answer (at_place 0 (add (view made) (view q)))

      sum_is : record { answer = sum; shares = unless_refused sum.verdict k.shares } ≡ iterated
      sum_is = sum_accounted w refl accepts (ap (λ m. answer (at_place 0 (add (view m) (view q)))) (p.model v))
          (ap (unless_refused sum.verdict) p.shares)

      module _ {total : ℕ} (ks₅ : List ℕ) (cs₅ : List ℤ) (s : SumIn made q n total ks₅ cs₅) where
        pub iteration_many : 64 < total → {r : Kept} → r.verdict ≡ Err (refused_at TooManyTerms 0)
            → r.shares ≡ unless_refused r.verdict k.shares → KeptIn n r ks₅ cs₅ iterated
        unfolding answer refusal
        iteration_many m {r = r} u z =
            let e : r.verdict ≡ sum.verdict = u ∙ ap (λ (a : Answer). a.verdict) (sym (s.many m)) in
            refused_kept u (e ∙ ap (λ (a : Accounted). a.answer.verdict) sum_is)
            (z ∙ ap (λ v. unless_refused v k.shares) e ∙ ap (λ (a : Accounted). a.shares) sum_is) ks₅ cs₅

        same : k.radius + 0 ≡ k.radius
        same = omega arith

        pub iteration_packed : total ≤ 64 → Packed (held n total k.radius ks₅ cs₅)
        unfolding held
        iteration_packed m = subst (λ e. Packed (held n total e ks₅ cs₅)) same (s.packed m)

        pub iteration_end : total ≤ 64 → {l : Left}
            → LeftIn n l ks₅ cs₅ (answer (at_place 0 (limited (view (held n total k.radius ks₅ cs₅)))))
            → {z : Shares} → z ≡ unless_refused l.verdict k.shares
            → KeptIn n (record { count = l.count; radius = l.radius; shares = z; verdict = l.verdict }) ks₅ cs₅
            iterated
        iteration_end m {l = l} a z =
            let b = left m a in
            record {
              verdict = b.verdict ∙ ap (λ (a : Accounted). a.answer.verdict) sum_is;
              shares = z ∙ ap (λ v. unless_refused v k.shares) b.verdict
                  ∙ ap (λ (a : Accounted). a.shares) sum_is;
              model = λ v. b.model v ∙ ap (λ (a : Accounted). a.answer.model) sum_is;
            }
          where
            left : total ≤ 64 → LeftIn n l ks₅ cs₅
                (answer (at_place 0 (limited (view (held n total k.radius ks₅ cs₅)))))
                → LeftIn n l ks₅ cs₅ sum
            left m a = unfold held in subst (LeftIn n l ks₅ cs₅)
                (ap (λ e. answer (at_place 0 (limited (view (held n total e ks₅ cs₅))))) (sym same) ∙ s.sum m) a
