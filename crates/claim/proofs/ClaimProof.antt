-- The proof of the claim: along the steps, each outcome so far is within its result.
use Rattle.std.proofs.Math.Path.{◌≡◌, subst}
use Rattle.std.specs.Prelude.{refl, ◌&&◌, T, eqb, nat_abs, length}
use Rattle.std.proofs.Common.{sym, ◌∙◌, arith}
use mathlib.Core.List.{List, [], ◌∷◌, ◌++◌}
use Rattle.std.proofs.Math.Option.{some}
use Prim.Native.Nat.{ℕ, zero, suc, ◌<◌}
use Rattle.std.proofs.Math.Dec.{ltb, ltb→lt}
use Rattle.std.proofs.Math.ListN.{get_elem?}
use Rattle.algebra.proofs.RationalOrder.{ℚO}
use Rattle.polynomial.proofs.BoxLaws.{box_length, box_replace}
use Rattle.calculus.specs.Monomial.{index_of}
use Rattle.calculus.specs.Model.{Model, zero_model, Point, InBox, Within}
use Rattle.calculus.specs.Tests.{variable_sound}
use Rattle.calculus.specs.Refusal.{leaves_box, uncertified, Answer, accepted, done}
use Rattle.calculus.specs.Operations as Op
use Rattle.calculus.specs.Operations.{range, has_exact, integral, range_in_box}
use Rattle.calculus.specs.Book.{Step, input, constant, variable, negate, add, subtract, multiply, substitute}
use Rattle.calculus.specs.Book.{sweep, quotient, antiderivative, Book, model_sound, step_sound, model_of}
use Rattle.calculus.specs.Book.{result_of, run_step, run_steps, Summary, summary, last, run_sound, run}
use Rattle.calculus.specs.Functions.{0ℚ, with_coordinate, ℚPolynomial, value_of, exact_integral, antiderivative_of}
use Rattle.calculus.specs.Functions.{Lies}
use Rattle.claim.specs.Outcome.{Outcome, Inputs, polynomials, input_outcome, step_value, step_outcome}
use Rattle.claim.specs.Outcome.{zero_outcome, outcome_of, outcomes_after, outcomes, outcome, mapped}
use Rattle.claim.specs.Outcome.{value_of_made}
use Rattle.claim.specs.Claim.{AllWithin, Given, IsPolynomial, Claim}
use Rattle.calculus_laws.specs.TestLaws.{and_left, and_right}
use Rattle.calculus_laws.specs.RefusalLaws.{IfAccepted, holds, vacuous, require_accepted, then_accepted, weaken}
use Rattle.calculus_laws.specs.RefusalLaws.{always, IfDone, is_done, if_done, followed_done, placed, constantly}
use Rattle.calculus.specs.Refusal.{all_from}
use Rattle.calculus_laws.specs.ValueLaws.{Near, near_at, at_near}
use Rattle.calculus_laws.specs.EnclosureLaws.{limited_accepted, zero_near, constant_near, variable_near, negate_near}
use Rattle.calculus_laws.specs.EnclosureLaws.{add_near, subtract_near, multiply_near, sweep_near}
use Rattle.calculus_laws.specs.RangeLaws.{range_encloses, in_box_encloses}
use Rattle.calculus_laws.specs.SubstituteLaws.{substitute_near}
use Rattle.calculus_laws.specs.QuotientLaws.{quotient_near, divisor_nonzero}
use Rattle.calculus_laws.specs.AntiderivativeEnclosureLaws.{antiderivative_near}
use Rattle.calculus_laws.specs.BookSoundLaws.{order_high, result_sound}
use Rattle.calculus_laws.specs.ExactIntegralLaws.{Served, sound_served, integral_encloses}
use Rattle.calculus_laws.specs.EachLaws.{Each, nil, each_length, each_snoc, each_at, each_last}
use Rattle.calculus_laws.specs.BookLaws.{Passes, Done, run_done, model_passes, model_vars, variable_inside, Ran}
use Rattle.calculus_laws.specs.BookLaws.{sound_ran, next_number}
use Rattle.claim.proofs.OutcomeLaws.{outcomes_before, polynomial_agrees, outcome_known, Ready, promised_ready}
use Rattle.claim.proofs.OutcomeLaws.{no_quotient_promised}

-- ---- an operation's result has the number of variables of its first operand
add_vars : (f g : Model) → IfAccepted (λ r. r.vars ≡ f.vars) (Op.add f g)
unfolding Op.add
add_vars f g = limited_accepted {P = λ r. r.vars ≡ f.vars} _ refl

multiply_vars : (d : ℕ) (f g : Model) → IfAccepted (λ r. r.vars ≡ f.vars) (Op.multiply d f g)
unfolding Op.multiply
multiply_vars d f g = limited_accepted {P = λ r. r.vars ≡ f.vars} _ refl

horner_vars : (d i : ℕ) (f g : Model) (n k : ℕ) (h : Model) → h.vars ≡ n
    → IfAccepted (λ r. r.vars ≡ n) (Op.horner d i f g k h)
unfolding Op.horner
horner_vars d i f g n zero h e = holds e
horner_vars d i f g n (suc k) h e = then_accepted
    (then_accepted (multiply_vars d h g) (λ p hp. weaken (λ r hr. hr ∙ hp ∙ e) (add_vars p (Op.part i k f))))
    (λ r hr. horner_vars d i f g n k r hr)

substitute_vars : (d i : ℕ) (f g : Model) → IfAccepted (λ r. r.vars ≡ f.vars) (Op.substitute d i f g)
unfolding Op.substitute Op.widen Op.part
substitute_vars d i f g = require_accepted (range_in_box g) leaves_box _ (λ t.
    then_accepted (horner_vars d i f g f.vars (Op.largest_exponent i f.terms) _ refl)
    (λ r hr. limited_accepted {P = λ r. r.vars ≡ f.vars} _ hr))

quotient_vars : (d : ℕ) (f g h w : Model) → IfAccepted (λ r. r.vars ≡ h.vars) (Op.quotient d f g h w)
unfolding Op.quotient Op.certified Op.widen Op.bare
quotient_vars d f g h w = then_accepted (always (tt {0}) _) (λ y _. then_accepted (always (tt {0}) _) (λ z _.
    require_accepted _ uncertified _ (λ t. limited_accepted {P = λ r. r.vars ≡ h.vars} _ refl)))

-- the models of a book are in its variables
input_vars : (b : Book) → Passes b → (a : ℕ) → a < length b.models → (model_of b a).vars ≡ b.vars
input_vars b p a h = model_vars b (model_of b a) (model_passes b p a h)

-- ---- o follows m: a model in n variables that the outcome is within
record Follows (n : ℕ) (o : Outcome) (m : Model) : Type 0 where
  vars : m.vars ≡ n
  near : (x : Point) → InBox n x → Near m x (o.at x)

follows : {n : ℕ} {o : Outcome} {a : Answer Model} → IfAccepted (λ m. m.vars ≡ n) a
    → ((x : Point) → InBox n x → IfAccepted (λ m. Near m x (o.at x)) a) → IfAccepted (Follows n o) a
follows (holds e) h = holds (record { vars = e; near = λ x b. get (h x b) })
  where
    get : {P : Model → Type 0} {m : Model} → IfAccepted P (accepted m) → P m
    get (holds p) = p
follows vacuous h = vacuous

module _ (b : Book) (p : Passes b) (I : Inputs) (hI : AllWithin b I) (ready : Ready b.vars I [] b.steps) where
  abbrev n : ℕ
  n = b.vars

  zero_follows : Follows n zero_outcome (zero_model n)
  unfolding zero_model zero_outcome
  zero_follows = record { vars = refl; near = λ x h. zero_near n x }

  operand : {os : List Outcome} {results : List Model} → Each (Follows n) os results
      → (a : ℕ) → Follows n (outcome_of os a) (result_of b results a)
  unfolding outcome_of result_of
  operand e a = each_at (Follows n) zero_outcome (zero_model n) zero_follows e a

  input_follows : (a : ℕ) → a < length b.models → (x : Point) → InBox n x
      → Near (model_of b a) x ((input_outcome I a).at x)
  unfolding AllWithin Within
  input_follows a h x hx = at_near _ x _ (hI a h x (subst (λ k. InBox k x) (sym (input_vars b p a h)) hx))

  same_vars : {os : List Outcome} {results : List Model} → Each (Follows n) os results → (a : ℕ) {r : Answer Model}
      → IfAccepted (λ m. m.vars ≡ (result_of b results a).vars) r → IfAccepted (λ m. m.vars ≡ n) r
  same_vars e a h = weaken (λ m k. k ∙ (operand e a).vars) h

  -- the antiderivative of an outcome that is a polynomial
  antiderivative_follows : {os : List Outcome} {results : List Model} → Each (Follows n) os results → (a v : ℕ)
      → T (variable_sound n v) → IsPolynomial n (outcome_of os a) → (x : Point) → InBox n x
      → Near (Op.antiderivative b.order v (result_of b results a)) x
      (value_of_made (mapped (antiderivative_of v) (outcome_of os a).polynomial) x)
  unfolding value_of_made mapped antiderivative_of
  antiderivative_follows {os} {results} e a v t p x hx =
      subst (λ q. Near (Op.antiderivative b.order v f) x (value_of_made (mapped (antiderivative_of v) q) x))
      (sym p.made) (antiderivative_near b.order v hx (variable_inside n v t) f p.polynomial
      (λ y hy. subst (Near f y) (p.same y (box_length ℚO hy)) ((operand e a).near y hy)))
    where
      f : Model
      f = result_of b results a

  step_follows : {os : List Outcome} {results : List Model} (i : ℕ) (s : Step) → T (step_sound b i s)
      → ((a v : ℕ) → s ≡ antiderivative a v → IsPolynomial n (outcome_of os a))
      → Each (Follows n) os results → IfAccepted (Follows n (step_outcome I (outcome_of os) s))
      (run_step b (result_of b results) s)
  unfolding step_outcome step_value run_step step_sound with_coordinate Op.constant Op.variable Op.negate Op.subtract
      Op.sweep Op.antiderivative
  step_follows i (input a) t r e = let h = ltb→lt a (length b.models) t in
      holds (record { vars = input_vars b p a h; near = input_follows a h })
  step_follows i (constant c) t r e = holds (record { vars = refl; near = λ x hx. constant_near n c x })
  step_follows i (variable v) t r e = holds
      (record { vars = refl; near = λ x hx. variable_near n v (variable_inside n v t) hx })
  step_follows i (negate a) t r e =
      holds (record { vars = (operand e a).vars; near = λ x hx. negate_near _ x _ ((operand e a).near x hx) })
  step_follows i (add a c) t r e = follows (same_vars e a (add_vars _ _))
      (λ x hx. add_near _ _ x _ _ ((operand e a).near x hx) ((operand e c).near x hx))
  step_follows i (subtract a c) t r e = follows (same_vars e a (add_vars _ _))
      (λ x hx. subtract_near _ _ x _ _ ((operand e a).near x hx) ((operand e c).near x hx))
  step_follows i (multiply a c) t r e = follows (same_vars e a (multiply_vars b.order _ _))
      (λ x hx. multiply_near b.order _ _ _ _ hx ((operand e a).near x hx) ((operand e c).near x hx))
  step_follows {os} {results} i (substitute a c v) t r e = follows (same_vars e a (substitute_vars b.order v _ _))
      (λ x hx. substitute_near v ((outcome_of os c).at x) x b.order (result_of b results a)
      (result_of b results c) hx ((operand e c).near x hx) _
      (variable_inside n v (and_right (ltb a i && ltb c i) _ t))
      (λ hy. (operand e a).near _ (box_replace ℚO (index_of v) _ hy hx)))
  step_follows i (sweep a c) t r e =
      holds (record {
        vars = (operand e a).vars;
        near = λ x hx. sweep_near (nat_abs c) _ _ hx
            ((operand e a).near x hx);
      })
  step_follows i (quotient a c h w) t r e = follows (same_vars e h (quotient_vars b.order _ _ _ _))
      (λ x hx. quotient_near b.order _ _ _ _ _ _ hx ((operand e a).near x hx) ((operand e c).near x hx))
  step_follows i (antiderivative a v) t r e = holds (record {
    vars = (operand e a).vars;
    near = antiderivative_follows e a v (and_right (ltb a i) _ t) (r a v refl);
  })

  -- a substitution that is accepted takes points of the box to points of the box
  substitution_stays : {os : List Outcome} {results : List Model} → Each (Follows n) os results
      → (a c v : ℕ) (x : Point) → InBox n x
      → IfAccepted (λ m. InBox n (with_coordinate v ((outcome_of os c).at x) x))
      (run_step b (result_of b results) (substitute a c v))
  unfolding run_step Op.substitute with_coordinate
  substitution_stays {os} {results} e a c v x hx = require_accepted
      (range_in_box (result_of b results c)) leaves_box _ (λ t.
      always (box_replace ℚO (index_of v) _
      (in_box_encloses (result_of b results c) _ hx t ((operand e c).near x hx)) hx) _)

  -- a quotient that is accepted divides by an outcome that is not zero
  quotient_divides : {os : List Outcome} {results : List Model} → Each (Follows n) os results
      → (a c h w : ℕ) (x : Point) → InBox n x
      → IfAccepted (λ m. (outcome_of os c).at x ≡ 0ℚ → ⊥) (run_step b (result_of b results) (quotient a c h w))
  unfolding run_step
  quotient_divides e a c h w x hx =
      divisor_nonzero b.order _ _ _ _ _ _ hx ((operand e a).near x hx) ((operand e c).near x hx)

  -- ---- along the steps
  first : (i : ℕ) (s : Step) (l : List Step) → T (all_from i (step_sound b) (s ∷ l)) → T (step_sound b i s)
  unfolding all_from
  first i s l h = and_left (step_sound b i s) _ h

  next : (results : List Model) (m : Model) (s : Step) (l : List Step)
      → T (all_from (length results) (step_sound b) (s ∷ l))
      → T (all_from (length (results ++ (m ∷ []))) (step_sound b) l)
  unfolding all_from
  next results m s l h = rw (next_number results m) (and_right (step_sound b (length results) s) _ h)

  run_follows : (l : List Step) (os : List Outcome) (results : List Model)
      → T (all_from (length results) (step_sound b) l) → Ready n I os l
      → Each (Follows n) os results → IfDone (Each (Follows n) (outcomes_after I os l)) (run_steps b results l)
  unfolding outcomes_after run_steps
  run_follows [] os results h r e = is_done e
  run_follows (s ∷ l) os results h (Ready.next w r) e = followed_done
      (placed (length results) (step_follows (length results) s (first (length results) s l h) w e))
      (λ m hm. run_follows l (os ++ (step_outcome I (outcome_of os) s ∷ [])) (results ++ (m ∷ []))
      (next results m s l h) r (each_snoc (Follows n) e hm))

  -- what the step s, where it is accepted, says of the outcome of an earlier step c holds along the run
  module _ (s : Step) (c : ℕ) (P : Outcome → Type 0) (earlier : (i : ℕ) → T (step_sound b i s) → c < i)
      (asked : (os : List Outcome) (results : List Model) → Each (Follows n) os results
      → IfAccepted (λ m. P (outcome_of os c)) (run_step b (result_of b results) s)) where
    run_asked : (l : List Step) (os : List Outcome) (results : List Model)
        → T (all_from (length results) (step_sound b) l) → Ready n I os l
        → Each (Follows n) os results → (i : ℕ) → get_elem? l i ≡ some s
        → IfDone (λ rs. P (outcome_of (outcomes_after I os l) c)) (run_steps b results l)
    unfolding run_steps outcomes_after
    run_asked [] os results h r e i g = let z : ◌≡◌ {A = ℕ} 0 1 = cc in absurd (omega arith)
    run_asked (t ∷ l) os results h r e zero g = followed_done
        (placed (length results)
        (subst (λ t. IfAccepted (λ m. P (outcome_of os c)) (run_step b (result_of b results) t)) (sym is)
        (asked os results e)))
        (λ m hm. constantly (subst P (sym (outcomes_before I os (t ∷ l) c before)) hm) _)
      where
        is : t ≡ s
        is = cc

        before : c < length os
        before = let q = earlier (length results)
            (subst (λ t. T (step_sound b (length results) t)) is (first (length results) t l h)) in
            let k = each_length (Follows n) e in omega arith
    run_asked (t ∷ l) os results h (Ready.next w r) e (suc i) g = followed_done
        (placed (length results) (step_follows (length results) t (first (length results) t l h) w e))
        (λ m hm. run_asked l (os ++ (step_outcome I (outcome_of os) t ∷ [])) (results ++ (m ∷ []))
        (next results m t l h) r (each_snoc (Follows n) e hm) i g)

    all_asked : (r : Summary) → Ran b r → (i : ℕ) → get_elem? b.steps i ≡ some s
        → P (outcome_of (outcomes I b.steps) c)
    unfolding outcomes
    all_asked r ran i g = if_done (run_asked b.steps [] [] p.steps ready nil i g) ran.ran

  -- the last outcome follows the result
  result_follows : (s : Summary) → Ran b s → Follows n (outcome I b.steps) s.model
  unfolding outcome outcomes summary
  result_follows s r = subst
      (λ (t : Summary). Follows n (last zero_outcome (outcomes_after I [] b.steps)) t.model) r.is_summary
      (each_last (Follows n) zero_outcome (zero_model n) zero_follows
      (if_done (run_follows b.steps [] [] p.steps ready nil) r.ran))

  -- every substitution stays in the box
  substitution_before : (i a c v : ℕ) → T (step_sound b i (substitute a c v)) → c < i
  unfolding step_sound
  substitution_before i a c v t = ltb→lt c i (and_right (ltb a i) _ (and_left (ltb a i && ltb c i) _ t))

  substitutions_stay : (s : Summary) → Ran b s → (i a c v : ℕ) → get_elem? b.steps i ≡ some (substitute a c v)
      → (x : Point) → InBox n x → InBox n (with_coordinate v ((outcome_of (outcomes I b.steps) c).at x) x)
  substitutions_stay s r i a c v g x hx = all_asked (substitute a c v) c (λ o. InBox n (with_coordinate v (o.at x) x))
      (λ j. substitution_before j a c v) (λ os rs e. substitution_stays e a c v x hx) s r i g

  -- no quotient divides by zero
  quotient_before : (i a c h w : ℕ) → T (step_sound b i (quotient a c h w)) → c < i
  unfolding step_sound
  quotient_before i a c h w t = ltb→lt c i (and_right (ltb a i) _
      (and_left (ltb a i && ltb c i) _ (and_left (ltb a i && ltb c i && ltb h i) _ t)))

  quotients_divide : (s : Summary) → Ran b s → (i a c h w : ℕ) → get_elem? b.steps i ≡ some (quotient a c h w)
      → (x : Point) → InBox n x → (outcome_of (outcomes I b.steps) c).at x ≡ 0ℚ → ⊥
  quotients_divide s r i a c h w g x hx = all_asked (quotient a c h w) c (λ o. o.at x ≡ 0ℚ → ⊥)
      (λ j. quotient_before j a c h w) (λ os rs e. quotient_divides e a c h w x hx) s r i g

-- ---- the claim
summary_range : (b : Book) (s : Summary) → Ran b s → s.range ≡ range s.model
unfolding summary
summary_range b s r = subst (λ (t : Summary). t.range ≡ range t.model) r.is_summary refl

summary_integral : (b : Book) (s : Summary) → Ran b s → s.integral ≡ integral s.model
unfolding summary
summary_integral b s r = subst (λ (t : Summary). t.integral ≡ integral t.model) r.is_summary refl

-- the denominator serves a result in up to four variables
pub result_served : (b : Book) (s : Summary) → Passes b → run_sound b ≡ done s → T (has_exact s.model.vars)
    → Served s.model
unfolding model_sound
result_served b s p h = sound_served b.order s.model (order_high b p)
    (and_right (eqb s.model.vars b.vars) _ (result_sound b p s h))

-- it holds of every book that passes the tests and whose steps run
pub claim_sound : (b : Book) (s : Summary) → Passes b → run_sound b ≡ done s → Claim b s
claim_sound b s p h = record {
  within_radius = λ I x g. near_at s.model x _ ((result I g.inputs (promise I x g)).near x g.point);
  in_range = λ I x g. subst (Lies ((outcome I b.steps).at x)) (sym (summary_range b s ran))
      (range_encloses s.model _ g.point ((result I g.inputs (promise I x g)).near x g.point));
  stays_in_box = λ I x g i a c v e.
      substitutions_stay b p I g.inputs (promise I x g) s ran i a c v e x g.point;
  never_zero = λ I x g i a c h w e.
      quotients_divide b p I g.inputs (promise I x g) s ran i a c h w e x g.point;
  outcome_is_polynomial = λ Q z. outcome_known Q b p.steps z;
  integral_in_ends = λ Q z hQ q m. integral_of Q q m (result (polynomials Q) hQ
      (promised_ready b (polynomials Q) p.steps (no_quotient_promised Q b z)));
}
  where
    ran : Ran b s
    ran = sound_ran b s h

    promise : (I : Inputs) (x : Point) → Given b I x → Ready b.vars I [] b.steps
    promise I x g = promised_ready b I p.steps g.as_promised

    result : (I : Inputs) → AllWithin b I → Ready b.vars I [] b.steps
        → Follows b.vars (outcome I b.steps) s.model
    result I hI ready = result_follows b p I hI ready s ran

    integral_of : (Q : ℕ → ℚPolynomial) (q : ℚPolynomial) → (outcome (polynomials Q) b.steps).polynomial ≡ some q
        → Follows b.vars (outcome (polynomials Q) b.steps) s.model
        → Lies (exact_integral b.vars q) s.integral
    integral_of Q q m f = subst (Lies (exact_integral b.vars q)) (sym (summary_integral b s ran))
        (subst (λ k. Lies (exact_integral k q) (integral s.model)) f.vars
        (integral_encloses s.model (result_served b s p h) q at))
      where
        at : (x : Point) → InBox s.model.vars x → Near s.model x (value_of q x)
        at x hx = let hx' : InBox b.vars x = subst (λ k. InBox k x) f.vars hx in
            subst (Near s.model x) (polynomial_agrees b (polynomials Q) p.steps q m x (box_length ℚO hx'))
            (f.near x hx')

-- THE CLAIM holds of every accepted book
pub claim : (b : Book) (s : Summary) → run b ≡ done s → Claim b s
claim b s h = claim_sound b s d.passes d.result
  where
    d : Done b (run_sound b) s
    d = run_done b s h
