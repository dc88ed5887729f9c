-- The rows of a renamed book are those of the book: its steps have the same shares (request 6).
use Rattle.std.specs.Prelude.{◌≡◌, ◌&&◌, nat_abs, length}
use Rattle.std.proofs.Math.Path.{refl, sym, ap, ap₂, fun_ext}
use Rattle.std.proofs.Common.{◌∙◌}
use mathlib.Core.List.{List, [], ◌∷◌, ◌++◌, map}
use Prim.Native.Nat.{ℕ, zero, suc, ◌-◌, ◌*◌, ◌<◌}
use Rattle.std.proofs.Math.Dec.{T, ltb}
use Rattle.numbers.specs.Fixed.{U, round_up}
use Rattle.calculus.specs.Monomial.{index_of}
use Rattle.calculus.specs.Model.{Model}
use Rattle.calculus.specs.Refusal.{Answer, accepted, refused, ◌then◌, done, all_from}
use Rattle.calculus.specs.Operations.{part, is_small, largest_exponent}
use Rattle.calculus.specs.Operations as Op
use Rattle.calculus.specs.Tests.{variable_sound}
use Rattle.calculus.specs.Book.{Step, input, constant, variable, negate, add, subtract, multiply, substitute, sweep}
use Rattle.calculus.specs.Book.{quotient, antiderivative, Book, step_sound, result_of, run_step}
use Rattle.calculus.specs.Shares.{Shares, no_shares, product_shares, shares_of, horner_shares, carrying}
use Rattle.calculus.specs.Shares.{substitute_shares, grown, sweep_shares, antiderivative_shares, all_carried}
use Rattle.calculus.specs.Shares.{step_shares, rows_of, run_shares, rows_sound, reported, shares_rows}
use Rattle.calculus_laws.specs.TestLaws.{and_left, and_right}
use Rattle.calculus_laws.specs.RefusalLaws.{IfAccepted, holds}
use Rattle.calculus_laws.specs.EachLaws.{All, nil, each_snoc}
use Rattle.calculus_laws.specs.SoundLaws.{Canonical, part_canonical}
use Rattle.calculus_laws.specs.BookLaws.{Passes, tested_passes, variable_inside, next_number}
use Rattle.calculus_laws.specs.BookSoundLaws.{Good, operand, step_good}
use Rattle.renaming.specs.Reordering.{Reordering, rename_variable, rename_model, rename_step, rename_book}
use Rattle.renaming.proofs.RenamedTermsLaws.{InOrder}
use Rattle.renaming.specs.RenamedAnswerLaws.{rename_answer}
use Rattle.renaming.proofs.RenamedModelLaws.{canonical_in_order, selected_size}
use Rattle.renaming.proofs.RenamedOperationLaws.{small_symmetric}
use Rattle.renaming.proofs.RenamedProductLaws.{rounding_renamed, swept_renamed, carried_renamed, error_renamed}
use Rattle.renaming.proofs.RenamedSubstituteLaws.{largest_exponent_renamed, part_renamed, iteration_renamed}
use Rattle.renaming.proofs.RenamedSubstituteLaws.{iteration_canonical}
use Rattle.renaming.proofs.RenamedAntiderivativeLaws.{growth_rounding_renamed, growth_swept_renamed}
use Rattle.renaming.proofs.RenamedTestLaws.{renamed_passes}
use Rattle.renaming.proofs.RenamedRunLaws.{result_of_renamed, step_renamed, map_snoc}

module _ {n : ℕ} (ρ : Reordering n) where
  -- ---- a product
  pub product_shares_renamed : (d : ℕ) (f g : Model) → InOrder n f.terms → InOrder n g.terms
      → product_shares d (rename_model ρ f) (rename_model ρ g) ≡ product_shares d f g
  unfolding product_shares Op.slack
  product_shares_renamed d f g h k = λ i. record {
    carried = carried_renamed ρ f g h k i;
    rounding = rounding_renamed ρ f g h k d i;
    swept = swept_renamed ρ f g h k d i;
    slack = U * round_up (error_renamed ρ f g h k d i) - error_renamed ρ f g h k d i;
  }

  -- ---- a substitution
  -- what an answer leads to
  shares_of_renamed : {P : Model → Type 0} (a : Answer Model) (F F' : Model → Shares) → IfAccepted P a
      → ((m : Model) → P m → F' (rename_model ρ m) ≡ F m) → shares_of (rename_answer ρ a) F' ≡ shares_of a F
  unfolding shares_of rename_answer
  shares_of_renamed (accepted m) F F' (holds h) e = e m h
  shares_of_renamed (refused r) F F' h e = refl

  module _ (i : ℕ) (inside : index_of i < n) (d : ℕ) (f g : Model) (hf : Canonical n d f) (hg : Canonical n d g) where
    horner_shares_renamed : (k : ℕ) (h : Model) (s : Shares) → Canonical n d h
        → horner_shares d (rename_variable ρ i) (rename_model ρ f) (rename_model ρ g) k (rename_model ρ h) s
        ≡ horner_shares d i f g k h s
    unfolding horner_shares
    horner_shares_renamed zero h s c = refl
    horner_shares_renamed (suc k) h s c =
        ap₂ shares_of (iteration_renamed ρ i inside d f g hf hg k h c) refl
        ∙ shares_of_renamed {P = Canonical n d} (Op.multiply d h g then (λ p. Op.add p (part i k f))) _ _
        (iteration_canonical ρ i inside d f g hf hg k h c)
        (λ q cq. horner_shares_renamed k q _ cq ∙ ap (horner_shares d i f g k q)
        (product_shares_renamed d h g (canonical_in_order c) (canonical_in_order hg)))

    pub substitute_shares_renamed : substitute_shares d (rename_variable ρ i) (rename_model ρ f) (rename_model ρ g)
        ≡ substitute_shares d i f g
    unfolding substitute_shares
    substitute_shares_renamed = ap₂ carrying radius scheme
      where
        K : ℕ
        K = largest_exponent i f.terms

        radius : (rename_model ρ f).radius ≡ f.radius
        radius = unfold rename_model in refl

        same_K : largest_exponent (rename_variable ρ i) (rename_model ρ f).terms ≡ K
        same_K = unfold rename_model in largest_exponent_renamed ρ i inside f.terms (canonical_in_order hf)

        scheme : horner_shares d (rename_variable ρ i) (rename_model ρ f) (rename_model ρ g)
            (largest_exponent (rename_variable ρ i) (rename_model ρ f).terms) (part (rename_variable ρ i)
            (largest_exponent (rename_variable ρ i) (rename_model ρ f).terms) (rename_model ρ f)) no_shares
            ≡ horner_shares d i f g K (part i K f) no_shares
        scheme = ap (λ K. horner_shares d (rename_variable ρ i) (rename_model ρ f) (rename_model ρ g) K
            (part (rename_variable ρ i) K (rename_model ρ f)) no_shares) same_K
            ∙ ap (λ h. horner_shares d (rename_variable ρ i) (rename_model ρ f) (rename_model ρ g) K h no_shares)
            (part_renamed ρ i inside d K f hf)
            ∙ horner_shares_renamed K (part i K f) no_shares (part_canonical n d i K f hf)

  -- ---- a sweep, an antiderivative, and what is all carried
  pub sweep_shares_renamed : (t : ℕ) (f : Model) → InOrder n f.terms
      → sweep_shares t (rename_model ρ f) ≡ sweep_shares t f
  unfolding sweep_shares rename_model
  sweep_shares_renamed t f h = ap (grown f.radius 0) (selected_size ρ (is_small t) (small_symmetric ρ t) f h)

  pub antiderivative_shares_renamed : (d v : ℕ) → index_of v < n → (f : Model) → InOrder n f.terms
      → antiderivative_shares d (rename_variable ρ v) (rename_model ρ f) ≡ antiderivative_shares d v f
  antiderivative_shares_renamed d v inside f h = unfold antiderivative_shares rename_model in
      ap₂ (grown f.radius) (growth_rounding_renamed ρ d v inside f h) (growth_swept_renamed ρ d v inside f h)

  pub all_carried_renamed : (m : Model) → all_carried (rename_model ρ m) ≡ all_carried m
  unfolding all_carried rename_model
  all_carried_renamed m = refl

module _ (b : Book) (p : Passes b) (ρ : Reordering b.vars) where
  -- ---- a step
  shares_answer : {results : List Model} (i : ℕ) (s : Step) (m : Model) → T (step_sound b i s)
      → All (Good b p) results
      → step_shares (rename_book ρ b) (λ a. rename_model ρ (result_of b results a)) (rename_step ρ s)
      (rename_model ρ m) ≡ step_shares b (result_of b results) s m
  unfolding step_shares step_sound rename_step rename_book
  shares_answer i (input a) m t g = all_carried_renamed ρ m
  shares_answer i (constant c) m t g = all_carried_renamed ρ m
  shares_answer i (variable v) m t g = all_carried_renamed ρ m
  shares_answer i (negate a) m t g = all_carried_renamed ρ m
  shares_answer i (add a c) m t g = all_carried_renamed ρ m
  shares_answer i (subtract a c) m t g = all_carried_renamed ρ m
  shares_answer i (multiply a c) m t g = product_shares_renamed ρ b.order _ _
      (canonical_in_order (operand b p g a).0) (canonical_in_order (operand b p g c).0)
  shares_answer i (substitute a c v) m t g = substitute_shares_renamed ρ v
      (variable_inside b.vars v (and_right (ltb a i && ltb c i) (variable_sound b.vars v) t)) b.order _ _
      (operand b p g a).0 (operand b p g c).0
  shares_answer i (sweep a c) m t g = sweep_shares_renamed ρ (nat_abs c) _ (canonical_in_order (operand b p g a).0)
  shares_answer i (quotient a c h w) m t g = all_carried_renamed ρ m
  shares_answer i (antiderivative a v) m t g = antiderivative_shares_renamed ρ b.order v
      (variable_inside b.vars v (and_right (ltb a i) (variable_sound b.vars v) t)) _
      (canonical_in_order (operand b p g a).0)

  step_shares_renamed : {results : List Model} (i : ℕ) (s : Step) (m : Model) → T (step_sound b i s)
      → All (Good b p) results
      → step_shares (rename_book ρ b) (result_of (rename_book ρ b) (map (rename_model ρ) results)) (rename_step ρ s)
      (rename_model ρ m) ≡ step_shares b (result_of b results) s m
  step_shares_renamed {results} i s m t g =
      ap (λ r. step_shares (rename_book ρ b) r (rename_step ρ s) (rename_model ρ m))
      (fun_ext (λ a. result_of_renamed b p ρ results a)) ∙ shares_answer i s m t g

  -- ---- the run
  rows_of_renamed : {P : Model → Type 0} (a : Answer Model) (F F' : Model → List Shares) → IfAccepted P a
      → ((m : Model) → P m → F' (rename_model ρ m) ≡ F m) → rows_of (rename_answer ρ a) F' ≡ rows_of a F
  unfolding rows_of rename_answer
  rows_of_renamed (accepted m) F F' (holds h) e = e m h
  rows_of_renamed (refused r) F F' h e = refl

  run_shares_renamed : (l : List Step) (results : List Model) → T (all_from (length results) (step_sound b) l)
      → All (Good b p) results
      → run_shares (rename_book ρ b) (map (rename_model ρ) results) (map (rename_step ρ) l) ≡ run_shares b results l
  unfolding run_shares all_from
  run_shares_renamed [] results h g = refl
  run_shares_renamed (s ∷ l) results h g =
      ap (λ a. rows_of a onward) (step_renamed b p ρ (length results) s here g)
      ∙ rows_of_renamed {P = Good b p} (run_step b (result_of b results) s)
      (λ m. step_shares b (result_of b results) s m ∷ run_shares b (results ++ (m ∷ [])) l) onward
      (step_good b p (length results) s here g)
      (λ m hm. ap₂ ◌∷◌ (step_shares_renamed (length results) s m here g)
      (ap (λ r. run_shares (rename_book ρ b) r (map (rename_step ρ) l)) (map_snoc b p ρ results m)
      ∙ run_shares_renamed l (results ++ (m ∷ []))
      (rw (next_number results m) (and_right (step_sound b (length results) s) _ h))
      (each_snoc (λ m k. Good b p k) g hm)))
    where
      here : T (step_sound b (length results) s)
      here = and_left (step_sound b (length results) s) _ h

      onward : Model → List Shares
      onward m = step_shares (rename_book ρ b) (result_of (rename_book ρ b) (map (rename_model ρ) results))
          (rename_step ρ s) m ∷ run_shares (rename_book ρ b) (map (rename_model ρ) results ++ (m ∷ []))
          (map (rename_step ρ) l)

  pub rows_sound_renamed : rows_sound (rename_book ρ b) ≡ rows_sound b
  unfolding rows_sound rename_book
  rows_sound_renamed = run_shares_renamed b.steps [] p.steps nil

  pub renamed_rows : shares_rows (rename_book ρ b) ≡ shares_rows b
  unfolding shares_rows
  renamed_rows = ap reported (tested_passes (rename_book ρ b) (done (rows_sound (rename_book ρ b)))
      (renamed_passes b p ρ) ∙ ap done rows_sound_renamed ∙ sym (tested_passes b (done (rows_sound b)) p))
