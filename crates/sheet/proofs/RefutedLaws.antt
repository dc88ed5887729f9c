-- No program of a kind that Refuted names meets the contract of `run`. By the clause `exact`, whatever else the program
-- does: none of the seven kinds. By the clause `encloses` alone, whatever its verdicts are: none that passes operands
-- through, always gives the zero model or hands back its input. No kind is empty.
use Rattle.std.proofs.Math.Path.{◌≡◌, refl, ap, subst}
use Rattle.std.proofs.Common.{sym, ◌∙◌, arith}
use Rattle.std.specs.Prelude.{◌≢◌, eqb, ◌+ℤ◌}
use mathlib.Core.List.{List, [], ◌∷◌}
use Prim.Native.Nat.{ℕ, zero, suc, ◌-◌}
use Rattle.std.proofs.Math.Dec.{T}
use Rattle.std.proofs.Math.IntN.{pos, nat_abs}
use Rattle.std.proofs.Math.ListN.{length, get_or}
use Rattle.numbers.specs.Fixed.{span_limit}
use Rattle.calculus.specs.Key as K
use Rattle.calculus.specs.Key.{key_width}
use Rattle.calculus.specs.Terms.{size, every}
use Rattle.calculus.specs.Model as C
use Rattle.calculus.specs.Model.{zero_model, most_degree, fits, sound}
use Rattle.calculus.specs.Refusal.{too_many_terms, number, Answer, accepted, Result, done, stopped, at_place}
use Rattle.calculus.specs.Refusal.{◌followed_by◌, all_from}
use Rattle.calculus.specs.Operations.{constant_part}
use Rattle.calculus.specs.Book as B
use Rattle.calculus.specs.Book.{Step, Book, model_of, result_of, run_step, last, summary, model_sound, step_sound}
use Rattle.calculus.specs.Book.{operands, returned_summary}
use Rattle.calculus_laws.specs.SoundLaws.{Sound}
use Rattle.calculus_laws.specs.BookLaws.{Passes, model_passes}
use Rattle.calculus_laws.specs.BookSoundLaws.{Good, step_good}
use Rattle.calculus_laws.specs.EachLaws.{nil}
use Rattle.calculus_laws.specs.TestLaws.{and_left, and_right}
use Rattle.calculus_laws.specs.RefusalLaws.{IfAccepted, holds}
use Rattle.claim.specs.Claim.{Claim}
use Rattle.claim.proofs.ClaimFacts.{one_step, radius_refutes, negated, passing_refuted}
use Rattle.model_types.specs.Arrays.{first_places, padded}
use Rattle.model_types.specs.ModelStruct.{view_term, view, pack_term, pack, refusal, cause, verdict_number}
use Rattle.model_types.specs.ModelStruct.{verdict_place}
use Rattle.model_types.specs.ModelStructLaws.{view_pack, view_pack_sound}
use Rattle.format.specs.HeldBook.{HeldBook, view_book, HeldPasses}
use Rattle.format.specs.HeldBookLaws.{InLimits, view_passes}
use Rattle.format.proofs.WriteBackLaws.{read_passes}
use Rattle.format.specs.Format.{read, run_sheet}
use Rattle.format.specs.Computing.{reads}
use Rattle.format.specs.Samples.{hex, sheet_forms}
use Rattle.format.specs.SheetClaim.{SheetClaim}
use Rattle.sheet_book.specs.SummaryStruct.{stored_ends, stored_exact, ends_of, exact_of, summary_of}
use Rattle.sheet_book.specs.SummaryStruct.{refused_summary, run_answer}
use Rattle.sheet_book.specs.SummaryStructLaws.{answer_number}
use Rattle.sheet_run_bytes.specs.sheet_run_laws.RunLaws.{in_limits_of}
use Rattle.sheet.specs.Sheet.{Encloses}
use Rattle.sheet.specs.SheetLaws.{exact_result}
use Rattle.sheet.specs.Refuted.{Program, are_bytes, ExactProgram, Enclosing, model_by, AcceptedSheet, book_of}
use Rattle.sheet.specs.Refuted.{last_operands, AnswersOtherRadius, HandsOperandThrough}
use Rattle.sheet.specs.Refuted.{AnswersZero, AnswersInput, SaysEight, NamesOtherStep, RefusesAccepted}
use Rattle.sheet.specs.Refuted.{Widens, PassesOperands, GivesZero, HandsBack, SaysEightUncounted}
use Rattle.sheet.specs.Refuted.{NamesAlways, RefusesAll, widest, widening, pass_step, pass_steps}
use Rattle.sheet.specs.Refuted.{pass_after_first, passing}
use Rattle.sheet.specs.Refuted.{giving_zero, handing_back, saying_eight, at_step_0, naming_step_0, refusing}

-- ---- by the clause `exact`: no program of a kind
module _ (W : Program) (e : ExactProgram W) where
  result : (at : AcceptedSheet) → model_by W at.sheet ≡ at.result.model
  unfolding summary_of
  result at = ap (λ s. s.model) (exact_result at.sheet _ at.result (e at.sheet at.bytes) at.is_run)

  pub other_radius_refuted : AnswersOtherRadius W → ⊥
  other_radius_refuted k = k.other (ap (λ m. m.radius) (result k.at))

  pub operand_refuted : HandsOperandThrough W → ⊥
  operand_refuted k = k.other (sym k.answers ∙ result k.at)

  pub zero_refuted : AnswersZero W → ⊥
  zero_refuted k = k.other (subst (λ m. m ≡ zero_model m.vars) (result k.at) k.answers)

  pub input_refuted : AnswersInput W → ⊥
  input_refuted k = k.other (sym k.answers ∙ result k.at)

  pub eight_refuted : SaysEight W → ⊥
  eight_refuted k = k.other (sym (ap (λ r. verdict_number r.verdict) (e k.sheet k.bytes)
      ∙ answer_number (run_sheet k.sheet)) ∙ k.says)

  pub step_refuted : NamesOtherStep W → ⊥
  unfolding run_answer refused_summary verdict_place
  step_refuted k = k.other (ap (λ r. verdict_place r.verdict) (e k.sheet k.bytes ∙ ap run_answer k.stops))

  pub refusing_refuted : RefusesAccepted W → ⊥
  unfolding run_answer
  refusing_refuted k = k.refuses
      (ap (λ r. r.verdict) (e k.at.sheet k.at.bytes ∙ ap run_answer k.at.is_run))

-- ---- the sheets
-- the constant 0
nothing : List ℕ
nothing = hex ("01 00 00 00 00 00 00 00" ∷ "01 01 00 01 00 00 4D 4B" ∷ [])

-- the constant 1 / U
one : List ℕ
one = hex ("01 00 00 00 01 00 00 00" ∷ "01 01 00 01 00 00 4D 4B" ∷ [])

-- the same, after a model without terms
one_beside : List ℕ
one_beside = hex ("00 00 00 00 00" ∷ "01 00 00 00 01 00 00 00" ∷ "01 01 01 01 05 00 4D 4B" ∷ [])

-- 1 / U, and minus that
minus_one : List ℕ
minus_one = hex ("01 00 00 00 01 00 00 00" ∷ "03 00 00 00 00 00 00 00" ∷ "01 01 00 02 00 00 4D 4B" ∷ [])

-- 2^30 plus 1, in units: step 2 is refused
over : List ℕ
over = hex ("01 00 00 00 00 00 00 40" ∷ "01 00 00 00 01 00 00 00" ∷ "04 00 01 00 00 00 00 00" ∷
    "01 02 00 03 00 00 4D 4B" ∷ [])

-- 2^30 plus itself: step 1 is refused
over_sooner : List ℕ
over_sooner = hex ("01 00 00 00 00 00 00 40" ∷ "04 00 00 00 00 00 00 00" ∷ "01 02 00 02 00 00 4D 4B" ∷ [])

-- what opens for facts that compute
answers : Unit {0}
unfolding
    reads sheet_forms are_bytes nothing one one_beside minus_one over over_sooner
    stored_ends stored_exact ends_of exact_of summary_of refused_summary run_answer operands last_operands constant_part
    K.encode first_places padded view_term view pack_term pack refusal cause
    verdict_number verdict_place
answers = tt

-- those that are accepted
accepted_at : (sheet : List ℕ) (h : HeldBook) (s : B.Summary) → T (are_bytes sheet) → read sheet ≡ done h
    → run_sheet sheet ≡ done s → AcceptedSheet
accepted_at sheet h s b r d =
    record { sheet = sheet; bytes = b; held = h; is_read = r; result = s; is_run = d }

at_nothing : AcceptedSheet
unfolding answers
at_nothing = accepted_at nothing _ _ tt refl refl

at_one : AcceptedSheet
unfolding answers
at_one = accepted_at one _ _ tt refl refl

at_one_beside : AcceptedSheet
unfolding answers
at_one_beside = accepted_at one_beside _ _ tt refl refl

at_minus_one : AcceptedSheet
unfolding answers
at_minus_one = accepted_at minus_one _ _ tt refl refl

-- ---- a program that is always so is of its kind
module _ (W : Program) where
  pub widens_is : Widens W → AnswersOtherRadius W
  unfolding answers at_nothing accepted_at
  widens_is w = record { at = at_nothing; other = λ e. omega (arith, w at_nothing, e) }

  pub passes_is : PassesOperands W → HandsOperandThrough W
  unfolding answers at_minus_one accepted_at
  passes_is w = record {
    at = at_minus_one;
    results = _;
    ran = refl;
    place = 0;
    operand = 0;
    is_operand = refl;
    answers = w at_minus_one _ _ _ refl refl refl;
    other = λ e. let k : ◌≡◌ {A = ℕ} 2 0 = ap (λ m. nat_abs (constant_part m +ℤ pos 1)) e in omega arith;
  }

  pub gives_zero_is : GivesZero W → AnswersZero W
  unfolding answers at_one accepted_at
  gives_zero_is w = record {
    at = at_one;
    answers = w at_one;
    other = λ e. let k : ◌≡◌ {A = ℕ} 1 0 = ap (λ m. length m.terms) e in omega arith;
  }

  pub hands_back_is : HandsBack W → AnswersInput W
  unfolding answers at_one_beside accepted_at
  hands_back_is w = record {
    at = at_one_beside;
    number = 0;
    is_number = omega arith;
    answers = w at_one_beside _ refl;
    other = λ e. let k : ◌≡◌ {A = ℕ} 0 1 = ap (λ m. length m.terms) e in omega arith;
  }

  pub says_eight_is : SaysEightUncounted W → SaysEight W
  unfolding answers at_nothing accepted_at returned_summary
  says_eight_is w = record {
    sheet = nothing;
    bytes = tt;
    says = w at_nothing;
    other = λ e. let k : ◌≡◌ {A = ℕ} 0 8 = e in omega arith;
  }

  stops_at_1 : (verdict_place (W over_sooner).verdict ≢ 1) → NamesOtherStep W
  unfolding answers
  stops_at_1 h = record { sheet = over_sooner; bytes = tt; cause = _; step = 1; stops = refl; other = h }

  stops_at_2 : (verdict_place (W over).verdict ≢ 2) → NamesOtherStep W
  unfolding answers
  stops_at_2 h = record { sheet = over; bytes = tt; cause = _; step = 2; stops = refl; other = h }

  -- 1 is wrong where the run stops at step 2, any other number where it stops at step 1
  pub names_always_is : (k : ℕ) → NamesAlways k W → NamesOtherStep W
  unfolding answers
  names_always_is zero w = stops_at_1 (λ e. omega (arith, w over_sooner _ _ refl, e))
  names_always_is (suc zero) w = stops_at_2 (λ e. omega (arith, w over _ _ refl, e))
  names_always_is (suc (suc k)) w = stops_at_1 (λ e. omega (arith, w over_sooner _ _ refl, e))

  pub refuses_all_is : RefusesAll W → RefusesAccepted W
  refuses_all_is w = record { at = at_one; refuses = w at_one.sheet }

-- ---- no kind is empty
-- a sound model is packed and viewed again
good_back : (h : HeldBook) → HeldPasses h → (m : C.Model) → Sound h.n h.d m → view (pack m) ≡ m
unfolding key_width
good_back h p m g = view_pack h.d m (omega (arith, l.d_high)) (omega (arith, l.n_high, g.0.vars))
    (subst (λ k. T (every (λ j c. fits k h.d j) m.terms)) (sym g.0.vars) g.0.fitting)
  where
    l : InLimits h.n h.d (length h.models) (length h.steps)
    l = in_limits_of p

module _ (at : AcceptedSheet) where
  abbrev b : Book
  b = book_of at

  held_passes : HeldPasses at.held
  held_passes = read_passes at.sheet at.held at.is_read

  passes : Passes (book_of at)
  passes = view_passes at.held held_passes

  -- the first model
  model_back : (m : C.Model) → (book_of at).models ≡ m ∷ [] → view (pack m) ≡ m
  unfolding most_degree view_book model_sound model_of
  model_back m e = view_pack_sound at.held.d m (in_limits_of held_passes).d_high
      (subst (λ k. T (sound at.held.d k)) (ap (λ l. get_or l 0 (zero_model b.vars)) e)
      (and_right (eqb (model_of b 0).vars b.vars) _ (model_passes b passes 0
      (let l : length b.models ≡ 1 = ap length e in omega arith))))

  -- the result of the first step
  first_back : (s t : Step) (m : C.Model) → (book_of at).steps ≡ s ∷ t ∷ []
      → run_step (book_of at) (result_of (book_of at) []) s ≡ accepted m → view (pack m) ≡ m
  unfolding all_from view_book
  first_back s t m e r = good_back at.held held_passes m (good (subst (IfAccepted (Good b passes)) r
      (step_good b passes 0 s (and_left (step_sound b 0 s) _ (subst (λ l. T (all_from 0 (step_sound b) l)) e
      passes.steps)) nil)))
    where
      good : IfAccepted (Good b passes) (accepted m) → Good b passes m
      good (holds h) = h

pub widening_widens : Widens widening
unfolding widening widest summary run_answer view pack ◌followed_by◌
widening_widens at =
    let q : (model_by widening at.sheet).radius ≡ span_limit - size at.result.model.terms =
    ap (λ a. (run_answer (a followed_by (λ s. done (summary (widest s.model))))).model.radius) at.is_run in
    omega arith

pub passing_passes : PassesOperands passing
unfolding passing pass_after_first pass_steps pass_step result_of run_answer summary at_place ◌followed_by◌ last
passing_passes at s t m e o r =
    ap (λ a. view (run_answer (a followed_by (λ h. from h (view_book h).steps))).model) at.is_read
    ∙ ap (λ l. view (run_answer (from at.held l)).model) e
    ∙ ap (λ a. view (run_answer (at_place 0 a followed_by (λ k. pass_steps b (k ∷ []) (t ∷ []))
    followed_by ended at.held)).model) r
    ∙ ap (λ l. view (run_answer (at_place 1 (passed l) followed_by (λ k. done (m ∷ k ∷ []))
    followed_by ended at.held)).model) o
    ∙ first_back at s t m e r
  where
    b : Book
    b = book_of at

    ended : HeldBook → List C.Model → Result B.Summary
    ended h results = done (summary (last (zero_model (view_book h).vars) results))

    from : HeldBook → List Step → Result B.Summary
    from h l = pass_after_first (view_book h) l followed_by ended h

    passed : List ℕ → Answer C.Model
    passed l = elim l [ [] ↦ run_step b (result_of b (m ∷ [])) t | a ∷ k ↦ accepted (result_of b (m ∷ []) a) ]

pub giving_zero_gives : GivesZero giving_zero
unfolding giving_zero run_answer summary view pack zero_model first_places padded ◌followed_by◌
giving_zero_gives at = subst (λ a. let m = view (run_answer
    (a followed_by (λ s. done (summary (zero_model s.model.vars))))).model in m ≡ zero_model m.vars)
    (sym at.is_run) refl

pub handing_back_hands : HandsBack handing_back
unfolding handing_back run_answer summary model_of ◌followed_by◌
handing_back_hands at m e =
    ap (λ a. view (run_answer (a followed_by (λ h. done (summary (model_of (view_book h) 0))))).model) at.is_read
    ∙ ap (λ l. view (pack (get_or l 0 (zero_model (book_of at).vars)))) e ∙ model_back at m e

pub saying_eight_says : SaysEightUncounted saying_eight
unfolding saying_eight ◌followed_by◌ run_answer refused_summary verdict_number refusal cause number
saying_eight_says at =
    ap (λ a. verdict_number (run_answer (a followed_by (λ s. stopped too_many_terms 0))).verdict) at.is_run

pub naming_step_0_names : NamesAlways 0 naming_step_0
unfolding naming_step_0 at_step_0 run_answer refused_summary verdict_place
naming_step_0_names sheet q i e = ap (λ a. verdict_place (run_answer (at_step_0 a)).verdict) e

pub refusing_refuses : RefusesAll refusing
unfolding refusing run_answer refused_summary verdict_number refusal cause number
refusing_refuses sheet e = let k : ◌≡◌ {A = ℕ} 1 0 = ap verdict_number e in omega arith

-- so each is of its kind
pub widening_is : AnswersOtherRadius widening
widening_is = widens_is widening widening_widens

pub passing_is : HandsOperandThrough passing
passing_is = passes_is passing passing_passes

pub giving_zero_is : AnswersZero giving_zero
giving_zero_is = gives_zero_is giving_zero giving_zero_gives

pub handing_back_is : AnswersInput handing_back
handing_back_is = hands_back_is handing_back handing_back_hands

pub saying_eight_is : SaysEight saying_eight
saying_eight_is = says_eight_is saying_eight saying_eight_says

pub naming_step_0_is : NamesOtherStep naming_step_0
naming_step_0_is = names_always_is naming_step_0 0 naming_step_0_names

pub refusing_is : RefusesAccepted refusing
refusing_is = refuses_all_is refusing refusing_refuses

-- ---- by the clause `encloses` alone
module _ (W : Program) (c : Enclosing W) where
  -- the claim about an accepted sheet is one about its book
  claimed : (at : AcceptedSheet) → Claim (book_of at) (summary_of (W at.sheet))
  unfolding Encloses
  claimed at = of_book (c at.sheet at.bytes at.result at.is_run)
    where
      of_book : SheetClaim at.sheet (summary_of (W at.sheet)) → Claim (book_of at) (summary_of (W at.sheet))
      of_book k = subst (λ h. Claim (view_book h) (summary_of (W at.sheet)))
          (same k.book (sym k.is_read ∙ at.is_read)) k.claims
        where
          same : (h : HeldBook) → done h ≡ done at.held → h ≡ at.held
          same h p = cc

  -- so it is where the model that is answered is m
  claimed_of : (at : AcceptedSheet) (m : C.Model) → model_by W at.sheet ≡ m
      → let s = summary_of (W at.sheet) in
      Claim (book_of at) (record { model = m; range = s.range; integral = s.integral; exact = s.exact })
  unfolding summary_of
  claimed_of at m e = subst (λ k. Claim (book_of at) (record {
    model = k;
    range = ends_of (W at.sheet).range;
    integral = ends_of (W at.sheet).integral;
    exact = exact_of (W at.sheet).exact;
  })) e (claimed at)

  pub passing_not_enclosing : PassesOperands W → ⊥
  unfolding answers at_minus_one accepted_at negated
  passing_not_enclosing w = passing_refuted _ _ _ (claimed_of at_minus_one _ (w at_minus_one _ _ _ refl refl refl))

  pub zero_not_enclosing : GivesZero W → ⊥
  unfolding answers at_one accepted_at one_step
  zero_not_enclosing w = radius_refutes 1 [] _ _ _ _ (claimed_of at_one _ (w at_one))

  pub handing_back_not_enclosing : HandsBack W → ⊥
  unfolding answers at_one_beside accepted_at one_step
  handing_back_not_enclosing w = radius_refutes 1 _ 1 _ _ _ (claimed_of at_one_beside _ (w at_one_beside _ refl))

-- so neither does the program that refuses every sheet, with the zero model beside the refusal
pub refusing_not_enclosing : Enclosing refusing → ⊥
unfolding refusing run_answer refused_summary view pack zero_model first_places padded
refusing_not_enclosing c = zero_not_enclosing refusing c (λ at. refl)
