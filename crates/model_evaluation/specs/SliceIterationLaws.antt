-- An iteration of Horner's rule, and a coordinate put in, over models that lie in slices: what each call asks and
-- leaves.
use Rattle.std.specs.Prelude.{◌≡◌, List, ℕ, ◌+◌, ◌-◌, ◌≤◌, ◌<◌, ℤ}
use Rattle.std.proofs.Math.Path.{refl, ap, subst}
use Rattle.std.proofs.Common.{sym, ◌∙◌, arith}
use Rattle.numbers.specs.Fixed.{round_up, capped}
use Rattle.calculus.specs.Model as C
use Rattle.calculus.specs.Model.{most_degree, most_terms}
use Rattle.calculus.specs.Refusal as R
use Rattle.calculus.specs.Refusal.{at_place}
use Rattle.calculus.specs.Operations.{limited, constant, multiply, add, largest_exponent, part, widen, substitute}
use Rattle.model_types.specs.declared.Model.{Model}
use Rattle.model_types.specs.declared.Refusal.{Refusal}
use Rattle.model_types.specs.declared.Refusal.TheVariants.{TooManyTerms}
use Rattle.std.specs.Prelude.{Ok, Err}
use Rattle.model_types.specs.ModelStruct.{refused_at}
use Rattle.model_types.specs.declared.Answer.{Answer}
use Rattle.model_types.specs.ModelStruct.{view, pack, answer, refusal}
use Rattle.model_limits.specs.Limits.{Packed, LeftIn}
use Rattle.model_limits.specs.LimitLaws.{packed_radius, limited_capped}
use Rattle.model_addition.specs.Addition.{Operands, SumOf, SumIn}
use Rattle.model_horner.specs.model_scaling.Scaling.{scaled_pass}
use Rattle.model_horner.specs.model_scaling.ScaledAnswerLaws.{scaled_packed, scaled_answer}
use Rattle.model_limits.specs.declared.Left.{Left}
use Rattle.model_slices.specs.HeldModels.{held, Room}
use Rattle.model_powers.specs.Powers.{KeysOf, PartOf}
use Rattle.model_horner.specs.Held.{ScaleOf}
use Rattle.model_evaluation.specs.Evaluate.{Putting, put_iteration, Iterating, IterationOf, PutOf}
use Rattle.model_evaluation.specs.PutCoordinateLaws as P

-- a refusal that is another answer's too
refused_left : {n : ℕ} {r : Left} {a : Answer} {x : Refusal} {y : ℕ} → r.verdict ≡ Err (refused_at x y)
    → r.verdict ≡ a.verdict → (ks : List ℕ) (cs : List ℤ) → LeftIn n r ks cs a
refused_left v e ks cs = record {
  verdict = e;
  model = λ t. let z : ◌≡◌ {A = ℕ} 0 1 = cc in absurd (omega arith);
}

-- ---- an iteration
module _ {X : ℤ} {c radius d : ℕ} {ks ks₂ : List ℕ} {cs cs₂ : List ℤ}
    (w : IterationOf X c radius ks cs d ks₂ cs₂) where
  abbrev h : Model
  h = held w.vars c radius ks cs

  abbrev q : Model
  q = held w.vars d 0 ks₂ cs₂

  -- the product, and the answer
  abbrev pub product : R.Answer C.Model
  product = multiply most_degree (view h) (constant w.vars X)

  abbrev iterated : Answer
  iterated = answer (at_place 0 (put_iteration w.vars X (view h) (view q)))

  abbrev pub iteration_scale : ScaleOf X c radius ks cs
  iteration_scale = record { vars = w.vars; room = w.first_room; scalable = P.iteration_scalable w.iterating }

  -- the pass, with its radius divided
  module _ (count error : ℕ) (ks₃ : List ℕ) (cs₃ : List ℤ)
      (e : held w.vars count error ks₃ cs₃ ≡ pack (scaled_pass X (view h))) {r : ℕ} (u : r ≡ round_up error) where
    pub product_packed : Packed (held w.vars count r ks₃ cs₃)
    unfolding held
    product_packed = scaled_packed (P.iteration_scalable w.iterating) e u

    pub product_few : count ≤ 64
    unfolding held most_terms
    product_few = product_packed.few

    pub product_left : {f : Left}
        → LeftIn w.vars f ks₃ cs₃ (answer (at_place 0 (limited (view (held w.vars count r ks₃ cs₃)))))
        → LeftIn w.vars f ks₃ cs₃ (answer (at_place 0 product))
    unfolding held
    product_left {f = f} l = subst (λ a. LeftIn w.vars f ks₃ cs₃ (answer (at_place 0 a)))
        (scaled_answer (P.iteration_scalable w.iterating) e u) l

  -- what is left of it
  module _ {f : Left} (ks₃ : List ℕ) (cs₃ : List ℤ) (l : LeftIn w.vars f ks₃ cs₃ (answer (at_place 0 product)))
    where
      pub iteration_stops : {x : Refusal} {y : ℕ} → f.verdict ≡ Err (refused_at x y) → (ks₄ : List ℕ) (cs₄ : List ℤ)
          → LeftIn w.vars f ks₄ cs₄ iterated
      unfolding held
      iteration_stops v ks₄ cs₄ = refused_left v
          (l.verdict ∙ ap (λ (a : Answer). a.verdict) (P.product_refused w.iterating refl (sym l.verdict ∙ v)))
          ks₄ cs₄

      module _ (t : f.verdict ≡ Ok tt) where
        accepts : (answer (at_place 0 product)).verdict ≡ Ok tt
        accepts = sym l.verdict ∙ t

        pub iteration_operands : Operands (held w.vars f.count f.radius ks₃ cs₃) q
        unfolding held
        iteration_operands = subst (λ m. Operands m q) (sym (l.model t))
            (P.product_operands w.iterating refl accepts)

        abbrev pub iteration_sum : Room ks₃ cs₃ → SumOf f.count ks₃ cs₃ d ks₂ cs₂
        iteration_sum room = record {
          vars = w.vars;
          radius1 = f.radius;
          radius2 = 0;
          first_room = room;
          second_room = w.second_room;
          operands = iteration_operands;
        }

        sum_is : answer (at_place 0 (add (view (held w.vars f.count f.radius ks₃ cs₃)) (view q))) ≡ iterated
        unfolding held
        sum_is = ap (λ m. answer (at_place 0 (add (view m) (view q)))) (l.model t)
            ∙ P.sum_answer w.iterating refl accepts refl

        module _ {count : ℕ} (ks₄ : List ℕ) (cs₄ : List ℤ)
            (s : SumIn (held w.vars f.count f.radius ks₃ cs₃) q w.vars count ks₄ cs₄) where
          pub iteration_many : 64 < count → {g : Left} → g.verdict ≡ Err (refused_at TooManyTerms 0)
              → LeftIn w.vars g ks₄ cs₄ iterated
          unfolding answer refusal
          iteration_many m e = refused_left e
              (e ∙ ap (λ (a : Answer). a.verdict) (sym (s.many m) ∙ sum_is)) ks₄ cs₄

          same : f.radius + 0 ≡ f.radius
          same = omega arith

          pub iteration_packed : count ≤ 64 → Packed (held w.vars count f.radius ks₄ cs₄)
          unfolding held
          iteration_packed m = subst (λ e. Packed (held w.vars count e ks₄ cs₄)) same (s.packed m)

          pub iteration_end : count ≤ 64 → {g : Left}
              → LeftIn w.vars g ks₄ cs₄
              (answer (at_place 0 (limited (view (held w.vars count f.radius ks₄ cs₄)))))
              → LeftIn w.vars g ks₄ cs₄ iterated
          unfolding held
          iteration_end m {g = g} z = subst (LeftIn w.vars g ks₄ cs₄)
              (ap (λ e. answer (at_place 0 (limited (view (held w.vars count e ks₄ cs₄))))) (sym same)
              ∙ s.sum m ∙ sum_is) z

-- ---- a coordinate put in
module _ {i : ℕ} {X : ℤ} {count radius : ℕ} {ks : List ℕ} {cs : List ℤ} (w : PutOf i X count radius ks cs) where
  abbrev f : Model
  f = held w.vars count radius ks cs

  abbrev whole : Answer
  whole = answer (at_place 0 (substitute most_degree i (view f) (constant w.vars X)))

  abbrev pub put_keys : KeysOf i count ks
  put_keys = record {
    vars = w.vars;
    radius = radius;
    coefficients = cs;
    room = w.room;
    variable = P.in_variable w.putting;
  }

  abbrev pub put_part : PartOf i count ks cs
  put_part = record { vars = w.vars; radius = radius; room = w.room; variable = P.in_variable w.putting }

  pub put_first : {k : ℕ} → k ≡ largest_exponent i (view f).terms → (c : ℕ) (ks₂ : List ℕ) (cs₂ : List ℤ)
      → held w.vars c 0 ks₂ cs₂ ≡ pack (part i k (view f)) → P.Left i X f k (held w.vars c 0 ks₂ cs₂)
  put_first e c ks₂ cs₂ p = P.left_first w.putting e p

  module _ {k : ℕ} (c e : ℕ) (ks₂ : List ℕ) (cs₂ : List ℤ) (l : P.Left i X f k (held w.vars c e ks₂ cs₂)) where
    pub put_few : c ≤ 64
    unfolding held most_terms
    put_few = (P.left_packed w.putting l).few

    module _ (d : ℕ) (ks₃ : List ℕ) (cs₃ : List ℤ)
        (t : held w.vars d 0 ks₃ cs₃ ≡ pack (part i (k - 1) (view f))) where
      abbrev pub put_iterating : Room ks₂ cs₂ → Room ks₃ cs₃ → IterationOf X c e ks₂ cs₂ d ks₃ cs₃
      put_iterating r s = record {
        vars = w.vars;
        first_room = r;
        second_room = s;
        iterating = P.left_iteration w.putting l t;
      }

      module _ (z : 0 < k) {r : Left} (ks₄ : List ℕ) (cs₄ : List ℤ)
          (a : LeftIn w.vars r ks₄ cs₄ (answer (at_place 0 (put_iteration w.vars X
          (view (held w.vars c e ks₂ cs₂)) (view (held w.vars d 0 ks₃ cs₃)))))) where
        pub put_stops : {x : Refusal} {y : ℕ} → r.verdict ≡ Err (refused_at x y) → LeftIn w.vars r ks₄ cs₄ whole
        unfolding held
        put_stops v = refused_left v
            (a.verdict ∙ ap (λ (b : Answer). b.verdict)
            (P.iteration_refused w.putting l t z refl (sym a.verdict ∙ v))) ks₄ cs₄

        pub put_goes_on : r.verdict ≡ Ok tt
            → P.Left i X f (k - 1) (held w.vars r.count r.radius ks₄ cs₄)
        unfolding held
        put_goes_on v = subst (P.Left i X f (k - 1)) (sym (a.model v))
            (P.iteration_accepted w.putting l t z refl (sym a.verdict ∙ v))

    -- the radius of f
    pub put_packed : (r : ℕ) → Packed (held w.vars c r ks₂ cs₂)
    unfolding held
    put_packed r = packed_radius (held w.vars c e ks₂ cs₂) r (P.left_packed w.putting l)

    pub put_end : k ≤ 0 → {s : ℕ} → s ≡ capped (e + radius) → {r : Left}
        → LeftIn w.vars r ks₂ cs₂ (answer (at_place 0 (limited (view (held w.vars c s ks₂ cs₂)))))
        → LeftIn w.vars r ks₂ cs₂ whole
    unfolding held
    put_end z {s = s} q {r = r} a = subst (LeftIn w.vars r ks₂ cs₂)
        (ap (λ s. answer (at_place 0 (limited (view (held w.vars c s ks₂ cs₂))))) q
        ∙ ap (λ b. answer (at_place 0 b)) widens
        ∙ P.left_end w.putting l z refl) a
      where
        widens : limited (view (held w.vars c (capped (e + radius)) ks₂ cs₂))
            ≡ widen radius (view (held w.vars c e ks₂ cs₂))
        widens = unfold held view widen in limited_capped w.vars (e + radius) _
