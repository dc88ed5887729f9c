-- Laws of one step: what it asks is what its operation asks, what its operation answers, with its shares, is what its
-- code gives, and that is what the book's step gives.
use Rattle.std.proofs.Math.Path.{◌≡◌, refl, sym, ap, ap₂}
use Rattle.std.proofs.Common.{◌∙◌, subst}
use Rattle.std.specs.Prelude.{Bool, true, false, eqb, leb, nat_abs}
use Rattle.std.proofs.Math.Option.{Option, some, none}
use Prim.Native.Nat.{ℕ, zero, suc, ◌≤◌}
use native.Mathlib.Omega.{arith}
use Rattle.std.proofs.Math.Dec.{T}
use Rattle.std.proofs.Math.ListN.{get_elem?}
use Rattle.numbers.specs.Fixed.{span_limit}
use Rattle.calculus.specs.Model as C
use Rattle.calculus.specs.Model.{most_degree, sound, zero_model, span}
use Rattle.calculus.specs.Refusal as R
use Rattle.calculus.specs.Refusal.{accepted, at_place}
use Rattle.calculus.specs.Operations as Op
use Rattle.calculus.specs.Tests.{variable_sound}
use Rattle.calculus_laws.specs.RefusalLaws.{IfAccepted, holds, vacuous, weaken}
use Rattle.calculus_laws.specs.SoundLaws.{Sound, sound_parts, add_sound, subtract_sound}
use Rattle.calculus_laws.specs.BookLaws.{between_low, between_high}
use Rattle.calculus.specs.Book.{Step, Book, last_code, model_of, run_step}
use Rattle.calculus.specs.Shares.{Shares, all_carried, product_shares, step_shares}
use Rattle.model_types.specs.declared.Model.{Model}
use Rattle.model_types.specs.declared.Answer.{Answer}
use Rattle.model_types.specs.declared.Accounted.{Accounted}
use Rattle.model_types.specs.ModelStruct.{view, pack, answer}
use Rattle.model_types.specs.ModelStructLaws.{vars_range}
use Rattle.model_types.specs.ResultLaws.{sound_struct}
use Rattle.model_types.specs.SharesStruct.{accounted}
use Rattle.model.specs.OperationContracts.{Operands, Integrand, Substitution}
use Rattle.model.specs.OperationLaws.{sound_order}
use Rattle.format.specs.HeldBook.{HeldStep, Form, forms, step_of, view_step}
use Rattle.format.specs.Fields.{names_variable}
use Rattle.sheet_step_answers.specs.Answers.{accepted_answer}
use Rattle.sheet_steps.specs.Steps.{input_code, variable_code, negate_code, multiply_code}
use Rattle.sheet_steps.specs.Steps.{substitute_code, sweep_code, quotient_code, antiderivative_code}
use Rattle.sheet_steps.specs.Steps.{one_model, two_results, renumbered, form_answer, code_answer, step_answer}
use Rattle.sheet_steps.specs.Steps.{form_shares, code_shares, step_row, names_second, StepReady, DirectReady}

-- ---- what the operations ask
module _ {n d : ℕ} {s : HeldStep} {f g : Model} (r : StepReady n d s f g) where
  in_range : T (variable_sound n s.v) → (1 ≤ s.v) × (s.v ≤ n)
  unfolding variable_sound
  in_range t = (between_low 1 n s.v t, between_high 1 n s.v t)

  of_variable : s.code ≡ variable_code → (1 ≤ s.v) × (s.v ≤ n)
  unfolding names_variable
  of_variable e = in_range (r.variable (subst (λ c. T (names_variable c)) (sym e) tt))

  into_variable : s.code ≡ substitute_code → (1 ≤ s.v) × (s.v ≤ n)
  unfolding names_variable
  into_variable e = in_range (r.variable (subst (λ c. T (names_variable c)) (sym e) tt))

  along_variable : s.code ≡ antiderivative_code → (1 ≤ s.v) × (s.v ≤ n)
  unfolding names_variable
  along_variable e = in_range (r.variable (subst (λ c. T (names_variable c)) (sym e) tt))

  operands : Operands f g
  operands = record {
    first = sound_order d (view f) r.order r.first;
    second = sound_order d (view g) r.order r.second;
    vars = r.first_vars ∙ sym r.second_vars;
  }

  pub substitution : s.code ≡ substitute_code → Substitution d s.v f g
  substitution e = record {
    order = r.order;
    model = r.first;
    inner = r.second;
    vars = r.first_vars ∙ sym r.second_vars;
    first = (into_variable e).0;
    last = subst (λ i. s.v ≤ i) (sym r.first_vars) (into_variable e).1;
  }

  -- what is swept
  pub swept_sound : T (sound most_degree (view f))
  swept_sound = operands.first

  pub integrand : s.code ≡ antiderivative_code → Integrand d s.v f
  integrand e = record {
    order = r.order;
    model = r.first;
    first = (along_variable e).0;
    last = subst (λ i. s.v ≤ i) (sym r.first_vars) (along_variable e).1;
  }

  -- what a step asks whose result is all carried
  pub direct_ready : (s.code ≡ substitute_code → ⊥) → (s.code ≡ sweep_code → ⊥) → (s.code ≡ antiderivative_code → ⊥)
      → DirectReady n s f g
  direct_ready q t w = record {
    width = (vars_range n r.vars).1;
    code = r.code;
    no_input = r.no_input;
    no_product = r.no_product;
    no_substitution = q;
    no_sweep = t;
    no_quotient = r.no_quotient;
    no_antiderivative = w;
    variable = of_variable;
    operands = operands;
  }

-- ---- from the answer of an operation to that of the step whose code names it
-- what opens for facts about a code
unfoldable pub codes : Unit {0}
unfolding
    forms renumbered one_model two_results form_answer code_answer run_step model_of
    form_shares code_shares step_shares
codes = tt

module _ (n d : ℕ) (s : HeldStep) (m : C.Model) (f g : Model) where
  -- what the step gives
  abbrev given : R.Answer C.Model
  given = step_answer n d s m (view f) (view g)

  -- by its code
  gives : (c : ℕ) → s.code ≡ c → given ≡ code_answer n d s m (view f) (view g) c
  unfolding step_answer
  gives c e = ap (code_answer n d s m (view f) (view g)) e

  -- an operation that cannot be refused
  pub accepted_is : {r : Answer} {h : Model} (c : ℕ) (k : C.Model) → r ≡ accepted_answer h → h ≡ pack k → s.code ≡ c
      → code_answer n d s m (view f) (view g) c ≡ accepted k → r ≡ answer (at_place 0 given)
  unfolding answer at_place
  accepted_is c k e q i h = e ∙ ap accepted_answer q ∙ sym (ap (λ a. answer (at_place 0 a)) (gives c i ∙ h))

  -- one that can
  pub answered_is : {r : Answer} (c : ℕ) (a : R.Answer C.Model) → r ≡ answer (at_place 0 a) → s.code ≡ c
      → code_answer n d s m (view f) (view g) c ≡ a → r ≡ answer (at_place 0 given)
  answered_is c a e i h = e ∙ sym (ap (λ a. answer (at_place 0 a)) (gives c i ∙ h))

  -- the shares of what the step gives
  abbrev row : C.Model → Shares
  row = step_row n d s m (view f) (view g)

  -- by its code
  shared : (c : ℕ) → s.code ≡ c → row ≡ code_shares n d s m (view f) (view g) c
  unfolding step_row
  shared c e = ap (code_shares n d s m (view f) (view g)) e

  -- an operation that answers with its shares
  pub accounted_is : {r : Accounted} (c : ℕ) (a : R.Answer C.Model) (k : C.Model → Shares) → r ≡ accounted a k
      → s.code ≡ c → code_answer n d s m (view f) (view g) c ≡ a
      → code_shares n d s m (view f) (view g) c ≡ k → r ≡ accounted given row
  accounted_is c a k e i h q = e ∙ sym (ap₂ accounted (gives c i ∙ h) (shared c i ∙ q))

  -- any other result is all carried
  carried_code : (c : ℕ) → (c ≡ multiply_code → ⊥) → (c ≡ substitute_code → ⊥) → (c ≡ sweep_code → ⊥)
      → (c ≡ antiderivative_code → ⊥)
      → code_shares n d s m (view f) (view g) c ≡ all_carried
  unfolding codes
  carried_code zero p q t w = refl
  carried_code (suc zero) p q t w = refl
  carried_code (suc (suc zero)) p q t w = refl
  carried_code (suc (suc (suc zero))) p q t w = refl
  carried_code (suc (suc (suc (suc zero)))) p q t w = refl
  carried_code (suc (suc (suc (suc (suc zero))))) p q t w = refl
  carried_code (suc (suc (suc (suc (suc (suc zero)))))) p q t w = absurd (p refl)
  carried_code (suc (suc (suc (suc (suc (suc (suc zero))))))) p q t w = absurd (q refl)
  carried_code (suc (suc (suc (suc (suc (suc (suc (suc zero)))))))) p q t w = absurd (t refl)
  carried_code (suc (suc (suc (suc (suc (suc (suc (suc (suc zero))))))))) p q t w = refl
  carried_code (suc (suc (suc (suc (suc (suc (suc (suc (suc (suc zero)))))))))) p q t w = absurd (w refl)
  carried_code (suc (suc (suc (suc (suc (suc (suc (suc (suc (suc (suc c))))))))))) p q t w = refl

  pub carried_is : {x : Answer} {r : Accounted} (h : DirectReady n s f g)
      → x ≡ answer (at_place 0 given)
      → ((o : R.Answer C.Model) → x ≡ answer (at_place 0 o) → r ≡ accounted o all_carried)
      → r ≡ accounted given row
  unfolding step_row
  carried_is h e k = k given e ∙ ap (accounted given)
      (sym (carried_code s.code h.no_product h.no_substitution h.no_sweep h.no_antiderivative))

-- ---- only what a code names matters to it
module _ (n d : ℕ) (s : HeldStep) (m k f x g y : C.Model) where
  named_by_code : (c : ℕ) → c ≤ last_code → (c ≡ input_code → ⊥) → (c ≡ multiply_code → ⊥) → (c ≡ quotient_code → ⊥)
      → (T (leb negate_code c) → f ≡ x)
      → (T (names_second c) → g ≡ y) → code_answer n d s m f g c ≡ code_answer n d s k x y c
  unfolding codes names_second
  named_by_code zero l z w o e q = absurd (z refl)
  named_by_code (suc zero) l z w o e q = refl
  named_by_code (suc (suc zero)) l z w o e q = refl
  named_by_code (suc (suc (suc zero))) l z w o e q = ap (λ f. code_answer n d s m f g 3) (e tt)
  named_by_code (suc (suc (suc (suc zero)))) l z w o e q = ap₂ (λ f g. code_answer n d s m f g 4) (e tt) (q tt)
  named_by_code (suc (suc (suc (suc (suc zero))))) l z w o e q = ap₂ (λ f g. code_answer n d s m f g 5) (e tt) (q tt)
  named_by_code (suc (suc (suc (suc (suc (suc zero)))))) l z w o e q = absurd (w refl)
  named_by_code (suc (suc (suc (suc (suc (suc (suc zero))))))) l z w o e q = ap₂ (λ f g. code_answer n d s m f g 7)
      (e tt) (q tt)
  named_by_code (suc (suc (suc (suc (suc (suc (suc (suc zero)))))))) l z w o e q = ap (λ f. code_answer n d s m f g
      8) (e tt)
  named_by_code (suc (suc (suc (suc (suc (suc (suc (suc (suc zero))))))))) l z w o e q = absurd (o refl)
  named_by_code (suc (suc (suc (suc (suc (suc (suc (suc (suc (suc zero)))))))))) l z w o e q = ap (λ f. code_answer n
      d s m f g 10) (e tt)
  named_by_code (suc (suc (suc (suc (suc (suc (suc (suc (suc (suc (suc c))))))))))) l z w o e q = absurd (omega
      (arith, l))

  shares_named : (c : ℕ) → c ≤ last_code → (c ≡ input_code → ⊥) → (c ≡ multiply_code → ⊥) → (c ≡ quotient_code → ⊥)
      → (T (leb negate_code c) → f ≡ x)
      → (T (names_second c) → g ≡ y) → code_shares n d s m f g c ≡ code_shares n d s k x y c
  unfolding codes names_second
  shares_named zero l z w o e q = absurd (z refl)
  shares_named (suc zero) l z w o e q = refl
  shares_named (suc (suc zero)) l z w o e q = refl
  shares_named (suc (suc (suc zero))) l z w o e q = refl
  shares_named (suc (suc (suc (suc zero)))) l z w o e q = refl
  shares_named (suc (suc (suc (suc (suc zero))))) l z w o e q = refl
  shares_named (suc (suc (suc (suc (suc (suc zero)))))) l z w o e q = absurd (w refl)
  shares_named (suc (suc (suc (suc (suc (suc (suc zero))))))) l z w o e q = ap₂ (λ f g. code_shares n d s m f g 7) (e
      tt) (q tt)
  shares_named (suc (suc (suc (suc (suc (suc (suc (suc zero)))))))) l z w o e q = ap (λ f. code_shares n d s m f g 8)
      (e tt)
  shares_named (suc (suc (suc (suc (suc (suc (suc (suc (suc zero))))))))) l z w o e q = absurd (o refl)
  shares_named (suc (suc (suc (suc (suc (suc (suc (suc (suc (suc zero)))))))))) l z w o e q = ap (λ f. code_shares n
      d s m f g 10) (e tt)
  shares_named (suc (suc (suc (suc (suc (suc (suc (suc (suc (suc (suc c))))))))))) l z w o e q = absurd (omega
      (arith, l))

  pub only_named : s.code ≤ last_code → (s.code ≡ input_code → ⊥) → (s.code ≡ multiply_code → ⊥)
      → (s.code ≡ quotient_code → ⊥)
      → (T (leb negate_code s.code) → f ≡ x) → (T (names_second s.code) → g ≡ y)
      → step_answer n d s m f g ≡ step_answer n d s k x y
  unfolding step_answer
  only_named = named_by_code s.code

  pub row_named : s.code ≤ last_code → (s.code ≡ input_code → ⊥) → (s.code ≡ multiply_code → ⊥)
      → (s.code ≡ quotient_code → ⊥)
      → (T (leb negate_code s.code) → f ≡ x) → (T (names_second s.code) → g ≡ y)
      → step_row n d s m f g ≡ step_row n d s k x y
  unfolding step_row
  row_named = shares_named s.code

-- ---- what the code of a step gives is what the step of the book gives
-- a form that gives a step gives its own
form_step : (f : Form) (t : Step) → step_of (some f) ≡ some t → f.step ≡ t
unfolding step_of
form_step f t e = go (eqb f.unnamed 0) e
  where
    go : (b : Bool) → (elim b as (λ b. Option Step) [ true ↦ some f.step | false ↦ none ]) ≡ some t → f.step ≡ t
    go true e = cc
    go false e = let z : ◌≡◌ {A = ℕ} 0 1 = cc in absurd (omega arith)

module _ (b : Book) (r : ℕ → C.Model) (s : HeldStep) (t : Step) (m : C.Model) where
  -- each but a quotient; the model matters to an input only
  by_code : (c : ℕ) → step_of (get_elem? (forms s) c) ≡ some t → (c ≡ quotient_code → ⊥)
      → (c ≡ input_code → m ≡ model_of b s.a)
      → code_answer b.vars b.order s m (r s.a) (r s.b) c ≡ run_step b r t
  unfolding codes
  by_code zero h p e = ap accepted (e refl) ∙ ap (run_step b r) (form_step _ t h)
  by_code (suc zero) h p e = ap (run_step b r) (form_step _ t h)
  by_code (suc (suc zero)) h p e = ap (run_step b r) (form_step _ t h)
  by_code (suc (suc (suc zero))) h p e = ap (run_step b r) (form_step _ t h)
  by_code (suc (suc (suc (suc zero)))) h p e = ap (run_step b r) (form_step _ t h)
  by_code (suc (suc (suc (suc (suc zero))))) h p e = ap (run_step b r) (form_step _ t h)
  by_code (suc (suc (suc (suc (suc (suc zero)))))) h p e = ap (run_step b r) (form_step _ t h)
  by_code (suc (suc (suc (suc (suc (suc (suc zero))))))) h p e = ap (run_step b r) (form_step _ t h)
  by_code (suc (suc (suc (suc (suc (suc (suc (suc zero)))))))) h p e = ap (run_step b r) (form_step _ t h)
  by_code (suc (suc (suc (suc (suc (suc (suc (suc (suc zero))))))))) h p e = absurd (p refl)
  by_code (suc (suc (suc (suc (suc (suc (suc (suc (suc (suc zero)))))))))) h p e = ap (run_step b r) (form_step _ t h)
  by_code (suc (suc (suc (suc (suc (suc (suc (suc (suc (suc (suc c))))))))))) h p e = no_form h
    where
      no_form : {A : Type 0} → step_of none ≡ some t → A
      no_form e = unfold step_of in let z : ◌≡◌ {A = ℕ} 0 1 = cc in absurd (omega arith)

  -- what the code gives is what the step of the book gives
  pub step_is : view_step s ≡ some t → (s.code ≡ quotient_code → ⊥) → (s.code ≡ input_code → m ≡ model_of b s.a)
      → step_answer b.vars b.order s m (r s.a) (r s.b) ≡ run_step b r t
  unfolding view_step step_answer
  step_is = by_code s.code

  -- so are the shares
  shares_by_code : (c : ℕ) → step_of (get_elem? (forms s) c) ≡ some t → (c ≡ quotient_code → ⊥)
      → code_shares b.vars b.order s m (r s.a) (r s.b) c ≡ step_shares b r t
  unfolding codes
  shares_by_code zero h p = ap (step_shares b r) (form_step _ t h)
  shares_by_code (suc zero) h p = ap (step_shares b r) (form_step _ t h)
  shares_by_code (suc (suc zero)) h p = ap (step_shares b r) (form_step _ t h)
  shares_by_code (suc (suc (suc zero))) h p = ap (step_shares b r) (form_step _ t h)
  shares_by_code (suc (suc (suc (suc zero)))) h p = ap (step_shares b r) (form_step _ t h)
  shares_by_code (suc (suc (suc (suc (suc zero))))) h p = ap (step_shares b r) (form_step _ t h)
  shares_by_code (suc (suc (suc (suc (suc (suc zero)))))) h p = ap (step_shares b r) (form_step _ t h)
  shares_by_code (suc (suc (suc (suc (suc (suc (suc zero))))))) h p = ap (step_shares b r) (form_step _ t h)
  shares_by_code (suc (suc (suc (suc (suc (suc (suc (suc zero)))))))) h p = ap (step_shares b r) (form_step _ t h)
  shares_by_code (suc (suc (suc (suc (suc (suc (suc (suc (suc zero))))))))) h p = absurd (p refl)
  shares_by_code (suc (suc (suc (suc (suc (suc (suc (suc (suc (suc zero)))))))))) h p =
      ap (step_shares b r) (form_step _ t h)
  shares_by_code (suc (suc (suc (suc (suc (suc (suc (suc (suc (suc (suc c))))))))))) h p = no_form h
    where
      no_form : {A : Type 0} → step_of none ≡ some t → A
      no_form e = unfold step_of in let z : ◌≡◌ {A = ℕ} 0 1 = cc in absurd (omega arith)

  pub row_is : view_step s ≡ some t → (s.code ≡ quotient_code → ⊥)
      → step_row b.vars b.order s m (r s.a) (r s.b) ≡ step_shares b r t
  unfolding view_step step_row
  row_is = shares_by_code s.code

-- ---- an input, a product and a quotient are those of the model or the results that their fields name
module _ (b : Book) (r : ℕ → C.Model) (s : HeldStep) (t : Step) (h : view_step s ≡ some t) where
  -- the form that a code gives
  formed : (c : ℕ) → s.code ≡ c → step_of (get_elem? (forms s) c) ≡ some t
  unfolding view_step
  formed c e = ap (λ c. step_of (get_elem? (forms s) c)) (sym e) ∙ h

  pub input_is : s.code ≡ input_code → accepted (model_of b s.a) ≡ run_step b r t
  unfolding forms run_step
  input_is e = ap (run_step b r) (form_step _ t (formed 0 e))

  pub input_row : s.code ≡ input_code → all_carried ≡ step_shares b r t
  unfolding forms step_shares
  input_row e = ap (step_shares b r) (form_step _ t (formed 0 e))

  pub product_is : s.code ≡ multiply_code → Op.multiply b.order (r s.a) (r s.b) ≡ run_step b r t
  unfolding forms run_step
  product_is e = ap (run_step b r) (form_step _ t (formed 6 e))

  pub product_row : s.code ≡ multiply_code
      → ◌≡◌ {A = C.Model → Shares} (λ m. product_shares b.order (r s.a) (r s.b)) (step_shares b r t)
  unfolding forms step_shares
  product_row e = ap (step_shares b r) (form_step _ t (formed 6 e))

  pub quotient_is : s.code ≡ quotient_code
      → Op.quotient b.order (r s.a) (r s.b) (r s.v) (r (nat_abs s.value)) ≡ run_step b r t
  unfolding forms run_step
  quotient_is e = ap (run_step b r) (form_step _ t (formed 9 e))

  pub quotient_row : s.code ≡ quotient_code → all_carried ≡ step_shares b r t
  unfolding forms step_shares
  quotient_row e = ap (step_shares b r) (form_step _ t (formed 9 e))

-- ---- how large a radius is that is all carried
pub radius_small : {n d : ℕ} (k : C.Model) → Sound n d k → k.radius ≤ span_limit
unfolding span
radius_small k h = omega (arith, h.1.small_span)

-- the radius of an answer, beside a refusal that of the zero model
pub radius_bounded : {a : R.Answer C.Model} {r : Answer} → IfAccepted (λ k. k.radius ≤ span_limit) a
    → r ≡ answer (at_place 0 a) → r.model.radius ≤ span_limit
unfolding answer at_place pack zero_model
radius_bounded (holds h) e = let q = ap (λ r. r.model.radius) e in omega (arith, h, q)
radius_bounded vacuous e = let q = ap (λ r. r.model.radius) e in omega (arith, q)

module _ {n d : ℕ} {s : HeldStep} {f g : Model} (r : StepReady n d s f g) where
  first_sound : Sound n d (view f)
  first_sound = sound_struct f r.first_vars r.first

  second_sound : Sound n d (view g)
  second_sound = sound_struct g r.second_vars r.second

  bounded_code : (m : C.Model) → DirectReady n s f g → (c : ℕ) → s.code ≡ c
      → IfAccepted (λ k. k.radius ≤ span_limit) (code_answer n d s m (view f) (view g) c)
  unfolding codes Op.constant Op.variable Op.negate
  bounded_code m q zero e = absurd (q.no_input e)
  bounded_code m q (suc zero) e = let z : 0 ≤ span_limit = omega arith in holds z
  bounded_code m q (suc (suc zero)) e = let z : 0 ≤ span_limit = omega arith in holds z
  bounded_code m q (suc (suc (suc zero))) e = holds (radius_small (view f) first_sound)
  bounded_code m q (suc (suc (suc (suc zero)))) e =
      weaken radius_small (add_sound n d _ _ first_sound.0 second_sound.0)
  bounded_code m q (suc (suc (suc (suc (suc zero))))) e =
      weaken radius_small (subtract_sound n d _ _ first_sound.0 second_sound.0)
  bounded_code m q (suc (suc (suc (suc (suc (suc zero)))))) e = absurd (q.no_product e)
  bounded_code m q (suc (suc (suc (suc (suc (suc (suc zero))))))) e = absurd (q.no_substitution e)
  bounded_code m q (suc (suc (suc (suc (suc (suc (suc (suc zero)))))))) e = absurd (q.no_sweep e)
  bounded_code m q (suc (suc (suc (suc (suc (suc (suc (suc (suc zero))))))))) e = absurd (q.no_quotient e)
  bounded_code m q (suc (suc (suc (suc (suc (suc (suc (suc (suc (suc zero)))))))))) e = absurd (q.no_antiderivative e)
  bounded_code m q (suc (suc (suc (suc (suc (suc (suc (suc (suc (suc (suc c))))))))))) e =
      absurd (omega (arith, q.code, e))

  pub direct_bounded : {x : Answer} (m : C.Model) → DirectReady n s f g
      → x ≡ answer (at_place 0 (step_answer n d s m (view f) (view g))) → x.model.radius ≤ span_limit
  unfolding step_answer
  direct_bounded m q e = radius_bounded (bounded_code m q s.code refl) e

-- ---- an input, with its radius
pub input_bounded : {k : Model} {r : Answer} (m : Model) → T (sound most_degree (view m)) → k ≡ pack (view m)
    → r ≡ accepted_answer k → r.model.radius ≤ span_limit
unfolding pack
input_bounded m h p e =
    let q = ap (λ r. r.model.radius) e ∙ ap (λ k. k.radius) p in
    omega (arith, q, radius_small (view m) (sound_parts most_degree (view m) h))

pub input_given : {k : Model} {r : Answer} (m : Model) → k ≡ pack (view m) → r ≡ accepted_answer k
    → r ≡ answer (at_place 0 (accepted (view m)))
unfolding answer at_place
input_given m p e = e ∙ ap accepted_answer p
