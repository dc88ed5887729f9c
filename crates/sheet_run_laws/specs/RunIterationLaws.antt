-- One step of a run, for the functions that make it: what it may ask of its operands, and what its answer leads to; and
-- the scratch memory for it.
use Rattle.std.specs.Prelude.{◌≡◌, refl, Bool, true, false, List, ℕ, ◌+◌, ◌*◌, ◌-◌, ◌<◌, ◌≤◌, T, leb, ℤ, nat_abs, take, drop, get_or}
use Rattle.std.proofs.Math.Path.{sym, ap}
use Rattle.std.proofs.Common.{◌∙◌, ap₂, subst, mul-le-mul, arith, length-drop, take_all}
use Rattle.std.proofs.Math.Bool.{cond}
use Rattle.std.proofs.Math.ListN.{length}
use Rattle.numbers.specs.Fixed.{span_limit}
use Rattle.calculus.specs.Model as C
use Rattle.calculus.specs.Model.{most_degree, most_terms, sound, zero_model}
use Rattle.calculus.specs.Refusal as R
use Rattle.calculus.specs.Refusal.{accepted, stopped, at_place}
use Rattle.calculus.specs.Operations.{multiply, quotient}
use Rattle.calculus.specs.Book.{most_models, most_steps}
use Rattle.calculus.specs.Shares.{all_carried, product_shares}
use Rattle.model_types.specs.declared.Model.{Model}
use Rattle.model_types.specs.declared.Refusal.{Refusal}
use Rattle.model_types.specs.ModelStruct.{Verdict}
use Rattle.std.specs.Prelude.{Ok, Err}
use Rattle.model_types.specs.ModelStruct.{refused_at}
use Rattle.model_types.specs.declared.Answer.{Answer}
use Rattle.model_types.specs.declared.Accounted.{Accounted}
use Rattle.model_types.specs.ModelStruct.{view, cause, answer}
use Rattle.model_types.specs.ModelStructLaws.{length_view}
use Rattle.model_types.specs.SharesStruct.{accounted}
use Rattle.model_slices.specs.HandedModels.{handed}
use Rattle.sheet_steps.specs.model.OperationContracts.{Factors, Proposal}
use Rattle.sheet_steps.specs.model.OperationLaws.{fewer_room, copied_proposal, bare_proposal, bare_quotient}
-- the scratch memory still serves as long as the slices keep their lengths
pub use Rattle.sheet_steps.specs.model.OperationLaws.{free_room}
use Rattle.format.specs.HeldBook.{HeldStep, HeldBook}
use Rattle.sheet_results.specs.Results.{Results, Roomy, held_result, settled_results, settled_rows, most_row_numbers}
use Rattle.sheet_results.specs.ResultsLaws.{roomy_less}
use Rattle.sheet_steps.specs.Steps.{negate_code, step_answer, step_row, names_second, StepReady}
use Rattle.sheet_run_laws.specs.declared.StepList.{StepList}
use Rattle.sheet_run_laws.specs.declared.Stop.{Stop}
use Rattle.sheet_run_laws.specs.Run.{input_code, multiply_code, substitute_code, quotient_code}
use Rattle.sheet_run_laws.specs.Run.{Ended, Iterated, Iteration, Proposed, quotient_at}
use Rattle.sheet_run_laws.specs.Run.{ScratchRoom, Served, Counted, Fit}
use Rattle.sheet_run_laws.specs.Run.{most_entries, Begun, Stopped}
use Rattle.sheet_run_laws.specs.RunLaws.{first_place, second_place, third_earlier, fourth_earlier, here_small}
use Rattle.sheet_run_laws.specs.RunLaws.{
  model_place,
  models_few,
  step_ready,
  by_code,
  input_sound,
  by_input,
  factors,
  by_product,
}
use Rattle.sheet_run_laws.specs.RunLaws.{proposal, by_quotient, quotient_bounded, quotient_carried}
use Rattle.sheet_run_laws.specs.RunLaws.{given, step_iterated}

module _ {n d i : ℕ} {s : HeldStep} {m : Results} {flat : List ℕ} (t : Iteration n d i s m flat) where
  -- the book's variables and order are those that are handed over
  into : (P : (n d : ℕ) → Type 0) → P t.held.n t.held.d → P n d
  into P x = subst (λ n. P n d) t.vars (subst (P t.held.n) t.order x)

  out_of : (P : (n d : ℕ) → Type 0) → P n d → P t.held.n t.held.d
  out_of P x = subst (λ n. P n t.held.d) (sym t.vars) (subst (P n) (sym t.order) x)

  -- ---- places
  pub iteration_small : i < most_steps
  iteration_small = here_small t.passes t.at

  -- that of a step's result
  result_room : (j : ℕ) → j < length t.held.steps → Roomy (most_models + j + 1) m
  result_room j h = roomy_less t.so_far.room (omega (arith, h))

  pub iteration_room : Roomy (most_models + i + 1) m
  iteration_room = result_room i t.at.within

  pub iteration_model : s.code ≡ input_code → Roomy (s.a + 1) m
  iteration_model e = roomy_less t.so_far.room
      (omega (arith, model_place t.passes t.at e, models_few t.passes))

  pub iteration_first : (s.code ≡ input_code → ⊥) → Roomy (most_models + s.a + 1) m
  iteration_first z = result_room s.a (first_place t.passes t.at z)

  pub iteration_second : Roomy (most_models + s.b + 1) m
  iteration_second = result_room s.b (second_place t.passes t.at)

  pub iteration_third : s.code ≡ quotient_code → Roomy (most_models + s.v + 1) m
  iteration_third e = result_room s.v (omega (arith, third_earlier t.passes t.at e, t.at.within))

  pub iteration_fourth : s.code ≡ quotient_code → Roomy (most_models + nat_abs s.value + 1) m
  iteration_fourth e = result_room (nat_abs s.value)
      (omega (arith, fourth_earlier t.passes t.at e, t.at.within))

  pub iteration_rows : length flat ≡ most_row_numbers
  iteration_rows = t.so_far.rows_stored.room

  -- the counts that a step asks for
  pub iteration_counted : Counted s m.counts
  iteration_counted = record {
    first = λ e. omega (arith, (iteration_first (λ z. omega (arith, z, e))).counts_long);
    second = λ e. omega (arith, iteration_second.counts_long);
    inner = λ e. omega (arith, iteration_second.counts_long);
    divisor = λ e. omega (arith, iteration_second.counts_long);
    proposed = λ e. omega (arith, (iteration_third e).counts_long);
    inverse = λ e. omega (arith, (iteration_fourth e).counts_long);
    few = t.so_far.room.few;
  }

  -- ---- a step that names at most two results
  module _ (f g : Model)
      (is_first : view f ≡ cond (leb negate_code s.code) (view (held_result n m (most_models + s.a))) (zero_model n))
      (is_second : view g ≡ cond (names_second s.code) (view (held_result n m (most_models + s.b))) (zero_model n))
      (z : s.code ≡ input_code → ⊥) (w : s.code ≡ multiply_code → ⊥) (o : s.code ≡ quotient_code → ⊥) where
    here_first : view f
        ≡ cond (leb negate_code s.code) (view (held_result t.held.n m (most_models + s.a))) (zero_model t.held.n)
    here_first =
        out_of (λ n d. view f
        ≡ cond (leb negate_code s.code) (view (held_result n m (most_models + s.a))) (zero_model n)) is_first

    here_second : view g
        ≡ cond (names_second s.code) (view (held_result t.held.n m (most_models + s.b))) (zero_model t.held.n)
    here_second =
        out_of (λ n d. view g ≡ cond (names_second s.code) (view (held_result n m (most_models + s.b))) (zero_model n))
        is_second

    pub other_ready : StepReady n d s f g
    other_ready = into (λ n d. StepReady n d s f g)
        (step_ready t.passes t.at t.so_far f g here_first here_second z w o)

    -- what a substitution puts in has the count of the result that b names
    inner_count : s.code ≡ substitute_code → get_or m.counts (most_models + s.b) 0 ≡ g.count
    unfolding names_second held_result handed
    inner_count e =
        sym (length_view (held_result n m (most_models + s.b)))
        ∙ ap (λ (c : C.Model). length c.terms)
        (sym (is_second ∙ ap (λ c. cond (names_second c) (view (held_result n m (most_models + s.b))) (zero_model n))
        e))
        ∙ length_view g

    -- so that the scratch memory serves it
    pub other_room : {slots keys : List ℕ} {sums : List ℤ} → Served s m.counts slots keys sums
        → s.code ≡ substitute_code → ScratchRoom (most_terms * g.count) slots keys sums
    other_room {slots} {keys} {sums} r e =
        subst (λ c. ScratchRoom (most_terms * c) slots keys sums) (inner_count e) (r.substitution e)

    pub other_iterated : {r : Accounted} {v : Verdict} {m' : Results} {flat' : List ℕ}
        → ((k : C.Model)
        → r ≡ accounted (step_answer n d s k (view f) (view g)) (step_row n d s k (view f) (view g)))
        → v ≡ r.answer.verdict → m' ≡ settled_results r (most_models + i) m → flat' ≡ settled_rows r i flat
        → Iterated t.held i v m' flat'
    other_iterated {r = r} e = step_iterated t.passes t.at t.so_far
        (by_code t.passes t.at t.so_far f g here_first here_second z w o
        (out_of (λ n d. (k : C.Model)
        → r ≡ accounted (step_answer n d s k (view f) (view g)) (step_row n d s k (view f) (view g))) e))

  -- ---- a product
  module _ (e : s.code ≡ multiply_code) where
    pub iteration_factors : Factors d (held_result n m (most_models + s.a)) (held_result n m (most_models + s.b))
    iteration_factors = into (λ n d. Factors d (held_result n m (most_models + s.a))
        (held_result n m (most_models + s.b)))
        (factors t.passes t.at t.so_far e)

    pub product_iterated : {r : Accounted} {v : Verdict} {m' : Results} {flat' : List ℕ}
        → r ≡ accounted (multiply d (view (held_result n m (most_models + s.a)))
        (view (held_result n m (most_models + s.b))))
        (λ k. product_shares d (view (held_result n m (most_models + s.a)))
        (view (held_result n m (most_models + s.b))))
        → v ≡ r.answer.verdict → m' ≡ settled_results r (most_models + i) m → flat' ≡ settled_rows r i flat
        → Iterated t.held i v m' flat'
    product_iterated {r = r} q = step_iterated t.passes t.at t.so_far
        (by_product t.passes t.at t.so_far e
        (out_of (λ n d. r ≡ accounted (multiply d (view (held_result n m (most_models + s.a))) (view (held_result n m
        (most_models + s.b))))
        (λ k. product_shares d (view (held_result n m (most_models + s.a)))
        (view (held_result n m (most_models + s.b))))) q))

  -- ---- a quotient
  module _ (f g k w : Model) (e : s.code ≡ quotient_code)
      (is_first : view f ≡ view (held_result n m (most_models + s.a)))
      (is_second : view g ≡ view (held_result n m (most_models + s.b)))
      (is_third : view k ≡ view (held_result n m (most_models +
      s.v)))
      (is_fourth : view w ≡ view (held_result n m (most_models + nat_abs s.value))) where
    pub iteration_proposal : Proposal d f g k w
    iteration_proposal = into (λ n d. Proposal d f g k w)
        (proposal t.passes t.at t.so_far f g k w e
        (out_of (λ n d. view f ≡ view (held_result n m (most_models + s.a))) is_first)
        (out_of (λ n d. view g ≡ view (held_result n m (most_models + s.b))) is_second)
        (out_of (λ n d. view k ≡ view (held_result n m (most_models + s.v))) is_third)
        (out_of (λ n d. view w ≡ view (held_result n m (most_models + nat_abs s.value))) is_fourth))

    module _ {q : Answer} (is_quotient : q ≡ answer (at_place 0 (quotient d (view f) (view g) (view k) (view w)))) where
      divided : q ≡ answer (at_place 0 (given t.passes t.at t.so_far))
      divided = by_quotient t.passes t.at t.so_far f g k w e
          (out_of (λ n d. view f ≡ view (held_result n m (most_models + s.a))) is_first)
          (out_of (λ n d. view g ≡ view (held_result n m (most_models + s.b))) is_second)
          (out_of (λ n d. view k ≡ view (held_result n m (most_models + s.v))) is_third)
          (out_of (λ n d. view w ≡ view (held_result n m (most_models + nat_abs s.value))) is_fourth)
          (out_of (λ n d. q ≡ answer (at_place 0 (quotient d (view f) (view g) (view k) (view w)))) is_quotient)

      pub iteration_bounded : q.model.radius ≤ span_limit
      iteration_bounded = quotient_bounded t.passes t.at t.so_far divided

      pub quotient_iterated : {r : Accounted} {v : Verdict} {m' : Results} {flat' : List ℕ}
          → ((a : R.Answer C.Model) → q ≡ answer (at_place 0 a) → r ≡ accounted a all_carried)
          → v ≡ r.answer.verdict → m' ≡ settled_results r (most_models + i) m → flat' ≡ settled_rows r i flat
          → Iterated t.held i v m' flat'
      quotient_iterated x = step_iterated t.passes t.at t.so_far
          (quotient_carried t.passes t.at t.so_far e divided x)

  -- of the results themselves, the last by its number
  module _ (e : s.code ≡ quotient_code) (l : ℕ) (o : l ≡ nat_abs s.value) where
    abbrev first_at : Model
    first_at = held_result n m (most_models + s.a)

    abbrev second_at : Model
    second_at = held_result n m (most_models + s.b)

    abbrev third_at : Model
    third_at = held_result n m (most_models + s.v)

    abbrev fourth_at : Model
    fourth_at = held_result n m (most_models + nat_abs s.value)

    pub iteration_proposed : Proposed n d (most_models + s.a) (most_models + s.b) (most_models + s.v)
        (most_models + l) m
    iteration_proposed = record {
      first = iteration_first (λ z. omega (arith, z, e));
      second = iteration_second;
      third = iteration_third e;
      fourth = subst (λ j. Roomy (most_models + j + 1) m) (sym o) (iteration_fourth e);
      proposal = subst (λ j. Proposal d first_at second_at third_at (held_result n m (most_models + j))) (sym o)
          (iteration_proposal first_at second_at third_at fourth_at e refl refl refl refl);
    }

    module _ {q : Answer} (h : q ≡ answer (quotient_at n d (most_models + s.a) (most_models + s.b)
        (most_models + s.v) (most_models + l) m)) where
      here : q ≡ answer (at_place 0 (quotient d (view first_at) (view second_at) (view third_at) (view fourth_at)))
      unfolding quotient_at
      here = h ∙ ap (λ j. answer (at_place 0 (quotient d (view first_at) (view second_at) (view third_at)
          (view (held_result n m (most_models + j)))))) o

      pub quotient_within : q.model.radius ≤ span_limit
      quotient_within = iteration_bounded first_at second_at third_at fourth_at e refl refl refl refl here

      pub quotient_settled : {r : Accounted} {v : Verdict} {m' : Results} {flat' : List ℕ}
          → ((a : R.Answer C.Model) → q ≡ answer (at_place 0 a) → r ≡ accounted a all_carried)
          → v ≡ r.answer.verdict → m' ≡ settled_results r (most_models + i) m → flat' ≡ settled_rows r i flat
          → Iterated t.held i v m' flat'
      quotient_settled = quotient_iterated first_at second_at third_at fourth_at e refl refl refl refl here

  -- ---- an input
  module _ (k : Model) (e : s.code ≡ input_code) (is_model : view k ≡ view (held_result n m s.a)) where
    here_model : view k ≡ view (held_result t.held.n m s.a)
    here_model = out_of (λ n d. view k ≡ view (held_result n m s.a)) is_model

    pub iteration_input : T (sound most_degree (view k))
    iteration_input = input_sound t.passes t.at t.so_far k e here_model

    pub input_iterated : {r : Accounted} {v : Verdict} {m' : Results} {flat' : List ℕ}
        → r ≡ accounted (accepted (view k)) all_carried
        → v ≡ r.answer.verdict → m' ≡ settled_results r (most_models + i) m → flat' ≡ settled_rows r i flat
        → Iterated t.held i v m' flat'
    input_iterated q = step_iterated t.passes t.at t.so_far
        (by_input t.passes t.at t.so_far k e here_model q)

-- ---- scratch memory
pub fit_served : {s : HeldStep} {room : ℕ} {counts slots keys : List ℕ} {sums : List ℤ} → Fit s room counts
    → ScratchRoom room slots keys sums → Served s counts slots keys sums
fit_served f l = record {
  product = λ e. fewer_room l (f.product e);
  substitution = λ e. fewer_room l (f.substitution e);
  quotient = λ e. fewer_room l (f.quotient e);
}

-- with all the room there is, every step fits
pub products_few : (a b : ℕ) → a ≤ most_terms → b ≤ most_terms → a * b ≤ most_entries
unfolding most_terms
products_few a b p q = mul-le-mul p q

-- ---- the parts of the slices that a result begins
-- all of them
part_all : {A : Type 0} (a : ℕ) (xs : List A) → take (length xs - a) (drop a xs) ≡ drop a xs
part_all a xs = take_all (length xs - a) (drop a xs) (omega (arith, length-drop a xs))

-- the model in them is the result
pub result_part : (n : ℕ) (m : Results) (j : ℕ)
    → handed n (get_or m.counts j 0) (get_or m.radii j 0)
    (take (length m.keys - most_terms * j) (drop (most_terms * j) m.keys))
    (take (length m.coefficients - most_terms * j) (drop (most_terms * j) m.coefficients))
    ≡ held_result n m j
unfolding held_result
result_part n m j = ap₂ (handed n (get_or m.counts j 0) (get_or m.radii j 0)) (part_all (most_terms * j) m.keys)
    (part_all (most_terms * j) m.coefficients)

pub factors_part : (n : ℕ) {d : ℕ} (m : Results) (a b : ℕ) → Factors d (held_result n m a) (held_result n m b)
    → Factors d
    (handed n (get_or m.counts a 0) (get_or m.radii a 0)
    (take (length m.keys - most_terms * a) (drop (most_terms * a) m.keys))
    (take (length m.coefficients - most_terms * a) (drop (most_terms * a) m.coefficients)))
    (handed n (get_or m.counts b 0) (get_or m.radii b 0)
    (take (length m.keys - most_terms * b) (drop (most_terms * b) m.keys))
    (take (length m.coefficients - most_terms * b) (drop (most_terms * b) m.coefficients)))
factors_part n {d} m a b f = both (sym (result_part n m a)) (sym (result_part n m b)) f
  where
    both : {p q v w : Model} → p ≡ v → q ≡ w → Factors d p q → Factors d v w
    both {p = p} {w = w} e o f = subst (λ x. Factors d x w) e (subst (Factors d p) o f)

-- and they have the places that its count names
pub part_holds : {m : Results} (j : ℕ) → Roomy (j + 1) m
    → (get_or m.counts j 0 ≤ length (take (length m.keys - most_terms * j) (drop (most_terms * j) m.keys)))
    × (get_or m.counts j 0 ≤ length (take (length m.coefficients - most_terms * j)
    (drop (most_terms * j) m.coefficients)))
unfolding most_terms
part_holds {m} j r = (
  omega (
    arith,
    r.few j,
    r.keys_long,
    ap length (part_all (most_terms * j) m.keys),
    length-drop (most_terms * j) m.keys,
  ),
  omega (
    arith,
    r.few j,
    r.coefficients_long,
    ap length (part_all (most_terms * j) m.coefficients),
    length-drop (most_terms * j) m.coefficients,
  ),
)

-- ---- the operands of a quotient: a copy of the first, and the parts of the slices that the others begin
-- such a part, in k variables and with another radius
abbrev part_of : (k radius : ℕ) → Results → (j : ℕ) → Model
part_of k radius m j = handed k (get_or m.counts j 0) radius
    (take (length m.keys - most_terms * j) (drop (most_terms * j) m.keys))
    (take (length m.coefficients - most_terms * j) (drop (most_terms * j) m.coefficients))

module _ {n d a b v w : ℕ} {m : Results} (p : Proposed n d a b v w m) (f : Model)
    (e : view f ≡ view (held_result n m a)) where
  copied_vars : f.n ≡ n
  unfolding view held_result handed
  copied_vars = ap (λ (c : C.Model). c.vars) e

  abbrev radius_at : ℕ → ℕ
  radius_at j = get_or m.radii j 0

  in_parts : Proposal d (held_result n m a) (part_of n (radius_at b) m b) (part_of n (radius_at v) m v)
      (part_of n (radius_at w) m w)
  in_parts =
      subst (λ x. Proposal d (held_result n m a) x (part_of n (radius_at v) m v) (part_of n (radius_at w) m w))
      (sym (result_part n m b))
      (subst (λ x. Proposal d (held_result n m a) (held_result n m b) x (part_of n (radius_at w) m w))
      (sym (result_part n m v))
      (subst (λ x. Proposal d (held_result n m a) (held_result n m b) (held_result n m v) x) (sym (result_part n m w))
      p.proposal))

  -- they make up a proposal
  pub parts_proposal : Proposal d f (part_of f.n (radius_at b) m b) (part_of f.n 0 m v) (part_of f.n 0 m w)
  parts_proposal =
      subst (λ k. Proposal d f (part_of k (radius_at b) m b) (part_of k 0 m v) (part_of k 0 m w)) (sym copied_vars)
      (copied_proposal f e (bare_proposal d n _ (radius_at v) _ _ _ (radius_at w) _ _ in_parts))

  -- and have the quotient of the results
  pub parts_quotient : {q : Answer}
      → q ≡ answer (at_place 0 (quotient d (view f) (view (part_of f.n (radius_at b) m b))
      (view (part_of f.n 0 m v)) (view (part_of f.n 0 m w))))
      → q ≡ answer (quotient_at n d a b v w m)
  unfolding quotient_at
  parts_quotient h = h
      ∙ (λ i. answer (at_place 0 (quotient d (e i) (view (part_of (copied_vars i) (radius_at b) m b))
      (view (part_of (copied_vars i) 0 m v)) (view (part_of (copied_vars i) 0 m w)))))
      ∙ ap (λ x. answer (at_place 0 x))
      (bare_quotient d n _ (radius_at v) _ _ _ (radius_at w) _ _ (view (held_result n m a))
      (view (part_of n (radius_at b) m b)))
      ∙ (λ i. answer (at_place 0 (quotient d (view (held_result n m a)) (view (result_part n m b i))
      (view (result_part n m v i)) (view (result_part n m w i)))))

-- ---- where a part of a run stopped
-- no verdict is both
pub not_both : {A : Type 0} {v : Verdict} {x : Refusal} {y : ℕ} → v ≡ Ok tt → v ≡ Err (refused_at x y) → A
not_both p q = let z : ◌≡◌ {A = ℕ} 0 1 = cc in absurd (omega arith)

module _ {h : HeldBook} {l : StepList} {room i : ℕ} {m : Results} {flat : List ℕ} where
  -- before a step that asks more room
  pub stopped_short : Begun h l i m flat → (most_entries ≤ room → ⊥)
      → Stopped h l room (record { at = i; verdict = Ok tt }) m flat
  stopped_short s o = record {
    ended = λ x y e. not_both refl e;
    going = λ e. s;
    whole = λ h e. absurd (o h);
  }

  -- at the end
  pub stopped_whole : Begun h l i m flat → i ≡ l.count
      → Stopped h l room (record { at = i; verdict = Ok tt }) m flat
  stopped_whole s o = record { ended = λ x y e. not_both refl e; going = λ e. s; whole = λ h e. o }

  -- at a refusal
  pub stopped_refused : {v : Verdict} {x : Refusal} {y : ℕ} → v ≡ Err (refused_at x y)
      → ((x : Refusal) (y : ℕ) → v ≡ Err (refused_at x y) → Ended h (stopped (cause x) i) flat)
      → Stopped h l room (record { at = i; verdict = v }) m flat
  stopped_refused q e = record {
    ended = e;
    going = λ p. not_both p q;
    whole = λ h p. not_both p q;
  }

-- with less room, at the end or at a refusal
pub stopped_on : {h : HeldBook} {l : StepList} {room : ℕ} {t : Stop} {m : Results} {flat : List ℕ}
    → Stopped h l room t m flat → (t.verdict ≡ Ok tt → t.at ≡ l.count) → Stopped h l most_entries t m flat
stopped_on s q = record { ended = s.ended; going = s.going; whole = λ h e. q e }

-- no test is both
pub true_false : {t : Bool} → t ≡ true → t ≡ false → ⊥
true_false p q = subst T (sym p ∙ q) tt
