-- What verdicts of tests say: which tests have passed, and what a call is that makes them first.
use Rattle.std.specs.Prelude.{◌≡◌, refl, ◌&&◌, List, ℕ, ◌≤◌, T, eqb, ℤ, take}
use Rattle.std.proofs.Common.{sym, ◌∙◌, arith, eqb→eq}
use Rattle.std.proofs.Math.Path.{ap}
use Rattle.calculus.specs.Model.{Model, most_degree, sound}
use Rattle.calculus_laws.specs.TestLaws.{and_left, and_right}
use Rattle.calculus_laws.specs.BookLaws.{between_low, between_high}
use Rattle.calculus.specs.Refusal as R
use Rattle.calculus.specs.Refusal.{Result, done, stopped, require_at, ◌followed_by◌}
use Rattle.calculus_laws.specs.RefusalLaws.{passed_at, at_followed}
use Rattle.calculus.specs.Tests.{order_sound, variable_sound, all_in_unit}
use Rattle.calculus.specs.Calls.{require_two, require_four}
use Rattle.model_types.specs.declared.Refusal.{Refusal}
use Rattle.std.specs.Prelude.{Ok, Err}
use Rattle.model_types.specs.declared.Refused.{Refused}
use Rattle.model_types.specs.ModelStruct.{refused_at}
use Rattle.model_types.specs.ModelStruct.{refusal, cause, verdict}
use Rattle.model_types.specs.ModelStructLaws.{refusal_cause, cause_refusal}
use Rattle.model_call_tests.specs.Admission.{Tests, single_model, sweeping, at_point, integrating, two_models}
use Rattle.model_call_tests.specs.Admission.{ordered, substituting, dividing}

-- ---- a verdict's tests
pub accepted_done : (t : Tests) → verdict t ≡ Ok tt → t ≡ done tt
unfolding verdict
accepted_done (done u) e = refl
accepted_done (stopped r i) e = let z : ◌≡◌ {A = ℕ} 0 1 = cc in absurd (omega arith)

pub refused_stopped : (t : Tests) (x : Refusal) (y : ℕ) → verdict t ≡ Err (refused_at x y) → t ≡ stopped (cause x) y
unfolding verdict
refused_stopped (done u) x y e = let z : ◌≡◌ {A = ℕ} 0 1 = cc in absurd (omega arith)
refused_stopped (stopped r i) x y e =
    let both : refused_at (refusal r) i ≡ refused_at x y = cc in
    let same : refusal r ≡ x = ap (λ (p : Refused). p.0) both in
    let place : i ≡ y = ap (λ (p : Refused). p.1) both in
    ap (λ q. stopped q i) (sym (cause_refusal r) ∙ ap cause same) ∙ ap (stopped (cause x)) place

-- ---- a call that makes them first: it goes on, or is refused with them
module _ {A : Type 0} (t : Tests) (a : Result A) where
  pub goes_on : verdict t ≡ Ok tt → (t followed_by (λ u. a)) ≡ a
  unfolding ◌followed_by◌
  goes_on e = ap (λ t. t followed_by (λ u. a)) (accepted_done t e)

  pub is_refused : (x : Refusal) (y : ℕ) → verdict t ≡ Err (refused_at x y) → (t followed_by (λ u. a))
      ≡ stopped (cause x) y
  unfolding ◌followed_by◌
  is_refused x y e = ap (λ t. t followed_by (λ u. a)) (refused_stopped t x y e)

-- what follows the tests of two models follows what comes after them
pub two_followed : {A B : Type 0} (d : ℕ) (m n : Model) (t : Result A) (f : A → Result B)
    → (require_two d m n t followed_by f) ≡ require_two d m n (t followed_by f)
unfolding require_two
two_followed d m n t f = at_followed 0 _ _ _ f ∙ ap (require_at 0 (sound d m) _)
    (at_followed 1 _ _ _ f ∙ ap (require_at 1 (sound d n) _) (at_followed 0 _ _ _ f))

-- and those of four
pub four_followed : {A B : Type 0} (d : ℕ) (m n o p : Model) (t : Result A) (f : A → Result B)
    → (require_four d m n o p t followed_by f) ≡ require_four d m n o p (t followed_by f)
unfolding require_four
four_followed d m n o p t f = at_followed 0 _ _ _ f ∙ ap (require_at 0 (sound d m) _)
    (at_followed 1 _ _ _ f ∙ ap (require_at 1 (sound d n) _)
    (at_followed 2 _ _ _ f ∙ ap (require_at 2 (sound d o) _)
    (at_followed 3 _ _ _ f ∙ ap (require_at 3 (sound d p) _) (at_followed 0 _ _ _ f))))

-- ---- what has passed
pub single_passed : (f : Model) → verdict (single_model f) ≡ Ok tt → T (sound most_degree f)
unfolding single_model
single_passed f e = (passed_at 0 _ _ _ tt (accepted_done (single_model f) e)).test

pub sweeping_passed : (t : ℤ) (f : Model) → verdict (sweeping t f) ≡ Ok tt → T (sound most_degree f)
unfolding sweeping
sweeping_passed t f e = (passed_at 0 _ _ _ tt (accepted_done (sweeping t f) e)).test

-- an evaluation: the model, and the coordinates that it reads
pub record AtPoint (Xs : List ℤ) (f : Model) : Type 0 where
  pub model : T (sound most_degree f)
  pub coordinates : T (all_in_unit (take f.vars Xs))

pub point_passed : (Xs : List ℤ) (f : Model) → verdict (at_point Xs f) ≡ Ok tt → AtPoint Xs f
unfolding at_point
point_passed Xs f e =
    let first = passed_at 0 _ _ _ tt (accepted_done (at_point Xs f) e) in
    let unused = passed_at 0 _ _ _ tt first.result in
    record { model = first.test; coordinates = (passed_at 0 _ _ _ tt unused.result).test }

-- an antiderivative: the order, the model and its variable
pub record Integrating (d i : ℕ) (f : Model) : Type 0 where
  pub order : d ≤ most_degree
  pub model : T (sound d f)
  pub least : 1 ≤ i
  pub most : i ≤ f.vars

pub integrating_passed : (d i : ℕ) (f : Model) → verdict (integrating d i f) ≡ Ok tt → Integrating d i f
unfolding integrating order_sound variable_sound
integrating_passed d i f e =
    let limit = passed_at 0 _ _ _ tt (accepted_done (integrating d i f) e) in
    let model = passed_at 0 _ _ _ tt limit.result in
    let variable = (passed_at 0 _ _ _ tt model.result).test in
    record {
      order = between_high 1 most_degree d limit.test;
      model = model.test;
      least = between_low 1 f.vars i variable;
      most = between_high 1 f.vars i variable;
    }

-- two models: both, and their variables
pub record TwoModels (d : ℕ) (f g : Model) (t : Tests) : Type 0 where
  pub first : T (sound d f)
  pub second : T (sound d g)
  pub vars : f.vars ≡ g.vars
  -- the tests that come after
  pub later : t ≡ done tt

two_done : (d : ℕ) (f g : Model) (t : Tests) → require_two d f g t ≡ done tt → TwoModels d f g t
unfolding require_two
two_done d f g t e =
    let one = passed_at 0 _ _ _ tt e in
    let two = passed_at 1 _ _ _ tt one.result in
    let same = passed_at 0 _ _ _ tt two.result in
    record {
      first = one.test;
      second = two.test;
      vars = eqb→eq f.vars g.vars same.test;
      later = same.result;
    }

pub two_passed : (d : ℕ) (f g : Model) → verdict (two_models d f g) ≡ Ok tt → TwoModels d f g (done tt)
unfolding two_models
two_passed d f g e = two_done d f g (done tt) (accepted_done (two_models d f g) e)

-- an order, and two models
pub record Ordered (d : ℕ) (f g : Model) : Type 0 where
  pub order : d ≤ most_degree
  pub models : TwoModels d f g (done tt)

pub ordered_passed : (d : ℕ) (f g : Model) → verdict (ordered d f g) ≡ Ok tt → Ordered d f g
unfolding ordered order_sound
ordered_passed d f g e =
    let limit = passed_at 0 _ _ _ tt (accepted_done (ordered d f g) e) in
    record { order = between_high 1 most_degree d limit.test; models = two_done d f g (done tt) limit.result }

-- and a variable
pub record Substituting (d i : ℕ) (f g : Model) : Type 0 where
  pub order : d ≤ most_degree
  pub model : T (sound d f)
  pub inner : T (sound d g)
  pub vars : f.vars ≡ g.vars
  pub least : 1 ≤ i
  pub most : i ≤ f.vars

pub substituting_passed : (d i : ℕ) (f g : Model) → verdict (substituting d i f g) ≡ Ok tt → Substituting d i f g
unfolding substituting order_sound variable_sound
substituting_passed d i f g e =
    let limit = passed_at 0 _ _ _ tt (accepted_done (substituting d i f g) e) in
    let two = two_done d f g _ limit.result in
    let variable = (passed_at 0 _ _ _ tt two.later).test in
    record {
      order = between_high 1 most_degree d limit.test;
      model = two.first;
      inner = two.second;
      vars = two.vars;
      least = between_low 1 f.vars i variable;
      most = between_high 1 f.vars i variable;
    }

-- an order, and four models in the same variables
pub record Dividing (d : ℕ) (f g h w : Model) : Type 0 where
  pub order : d ≤ most_degree
  pub first : T (sound d f)
  pub second : T (sound d g)
  pub third : T (sound d h)
  pub fourth : T (sound d w)
  pub second_vars : f.vars ≡ g.vars
  pub third_vars : f.vars ≡ h.vars
  pub fourth_vars : f.vars ≡ w.vars

pub dividing_passed : (d : ℕ) (f g h w : Model) → verdict (dividing d f g h w) ≡ Ok tt → Dividing d f g h w
unfolding dividing order_sound require_four
dividing_passed d f g h w e =
    let limit = passed_at 0 _ _ _ tt (accepted_done (dividing d f g h w) e) in
    let one = passed_at 0 _ _ _ tt limit.result in
    let two = passed_at 1 _ _ _ tt one.result in
    let three = passed_at 2 _ _ _ tt two.result in
    let four = passed_at 3 _ _ _ tt three.result in
    let same = (passed_at 0 _ _ _ tt four.result).test in
    let earlier = and_left (eqb f.vars g.vars && eqb f.vars h.vars) _ same in
    record {
      order = between_high 1 most_degree d limit.test;
      first = one.test;
      second = two.test;
      third = three.test;
      fourth = four.test;
      second_vars = eqb→eq f.vars g.vars (and_left (eqb f.vars g.vars) _ earlier);
      third_vars = eqb→eq f.vars h.vars (and_right (eqb f.vars g.vars) _ earlier);
      fourth_vars = eqb→eq f.vars w.vars
          (and_right (eqb f.vars g.vars && eqb f.vars h.vars) _ same);
    }

-- ---- a substitution's tests are a product's, then that of the variable
pub substituting_is : (d i : ℕ) (f g : Model)
    → substituting d i f g
    ≡ (ordered d f g followed_by (λ u. require_at 0 (variable_sound f.vars i) R.bad_step (done tt)))
unfolding substituting ordered ◌followed_by◌
substituting_is d i f g = sym (at_followed 0 _ _ _ _ ∙ ap (require_at 0 (order_sound d) _) (two_followed d f g _ _))

-- so they are refused with it, and else the variable decides
pub substituting_refused : (d i : ℕ) (f g : Model) (x : Refusal) (y : ℕ) → verdict (ordered d f g)
    ≡ Err (refused_at x y)
    → verdict (substituting d i f g) ≡ Err (refused_at x y)
unfolding verdict
substituting_refused d i f g x y e =
    ap verdict (substituting_is d i f g ∙ is_refused (ordered d f g) _ x y e)
    ∙ ap (λ q. Err (refused_at q y)) (refusal_cause x)

pub by_variable : (d i : ℕ) (f g : Model) → verdict (ordered d f g) ≡ Ok tt
    → substituting d i f g ≡ require_at 0 (variable_sound f.vars i) R.bad_step (done tt)
by_variable d i f g e = substituting_is d i f g ∙ goes_on (ordered d f g) _ e
