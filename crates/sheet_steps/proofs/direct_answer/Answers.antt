-- `direct_answer` goes by the code: each operation is asked and answers what the step is asked and answers.
use mathlib.Core.Path.{◌≡◌, refl, ◌∙◌, ap}
use Prim.Native.Nat.{ℕ, ◌≤◌}
use native.Mathlib.Omega.{arith}
use borrow.Author.Rules.{rules}
use mir.Facts.{to_z-of_z}
use mir.Syntax.{w64}
use mir.Val.{to_z, of_z}
use Rattle.calculus.specs.Model as C
use Rattle.calculus.specs.Refusal as R
use Rattle.calculus.specs.Refusal.{accepted, at_place}
use Rattle.calculus.specs.Operations as Op
use Rattle.model_types.specs.declared.Answer.{Answer}
use Rattle.model_types.specs.declared.Model.{Model}
use Rattle.model_types.specs.ModelStruct.{view, pack, answer}
use Rattle.sheet_step_answers.specs.Answers.{accepted_answer}
use Rattle.sheet_book.specs.BookStruct.{held_step}
use Rattle.sheet_steps.specs.Steps.{constant_code, variable_code, negate_code, add_code, subtract_code}
use Rattle.sheet_steps.specs.Steps.{code_answer, step_answer}
use Rattle.sheet_steps.proofs.StepLaws.{codes, accepted_is, answered_is}
use Rattle.sheet_steps.proofs.direct_answer.Goals as goal
use Rattle.sheet_steps.proofs.direct_answer.Goals.{In_default, Start}

-- ---- what the operations ask
pub constant_of-requires : goal.constant_of-requires
constant_of-requires c = c.requires.width

pub variable_of-requires : goal.variable_of-requires
unfolding held_step
variable_of-requires c =
    let p = c.requires in
    let v = p.variable c.in-2.is in
    (v.0, v.1, p.width)

pub negated-requires : goal.negated-requires
negated-requires c = c.requires.operands.first

pub added-requires : goal.added-requires
added-requires c = c.requires.operands

pub subtracted-requires : goal.subtracted-requires
subtracted-requires c = c.requires.operands

-- ---- what they answer
module _ (c : Start) (d : ℕ) (m : C.Model) where
  -- what a code gives
  abbrev given : ℕ → R.Answer C.Model
  given = code_answer c.args.n d (held_step c.args.s) m (view c.args.f)
      (view c.args.g)

  -- what is answered
  abbrev Answered : Answer → Type 0
  Answered r =
      r
      ≡ answer (at_place 0 (step_answer c.args.n d (held_step c.args.s) m
      (view c.args.f) (view c.args.g)))

  -- by an operation that cannot be refused
  accepts : {r : Answer} {h : Model} (i : ℕ) (k : C.Model) → r ≡ accepted_answer h → h ≡ pack k
      → c.args.s.code ≡ i → given i ≡ accepted k → Answered r
  unfolding held_step
  accepts = accepted_is c.args.n d (held_step c.args.s) m c.args.f c.args.g

  -- by one that can
  answers : {r : Answer} (i : ℕ) (a : R.Answer C.Model) → r ≡ answer (at_place 0 a) → c.args.s.code ≡ i
      → given i ≡ a → Answered r
  unfolding held_step
  answers = answered_is c.args.n d (held_step c.args.s) m c.args.f c.args.g

pub returns-in-1 : goal.returns-in-1
unfolding codes held_step
returns-in-1 c = λ d m.
    let s = c.args.s in
    let read_back : to_z w64 (of_z w64 s.value) ≡ s.value =
    to_z-of_z {w = w64} (record { sfits = c.struct_told-1.given.1.1.1.1.0.1 }) in
    accepts (goal.at.returns-in-1 c).Start d m constant_code _ c.accepted.ensures
    (c.constant_of.ensures ∙ ap (λ z. pack (Op.constant c.args.n z)) read_back)
    c.in-1.is refl

pub returns-in-2 : goal.returns-in-2
unfolding codes held_step
returns-in-2 c = λ d m.
    accepts (goal.at.returns-in-2 c).Start d m variable_code _ c.accepted-in-2.ensures c.variable_of.ensures
    c.in-2.is refl

pub returns-in-3 : goal.returns-in-3
unfolding codes
returns-in-3 c = λ d m.
    accepts (goal.at.returns-in-3 c).Start d m negate_code _ c.accepted-in-3.ensures c.negated.ensures c.in-3.is refl

pub returns-in-4 : goal.returns-in-4
unfolding codes
returns-in-4 c = λ d m. answers (goal.at.returns-in-4 c).Start d m add_code _ c.added.ensures c.in-4.is refl

-- no other code is left
is_difference : (m : In_default) → m.args.s.code ≡ subtract_code
unfolding held_step
is_difference m =
    let r = m.in_default.in_default-own.rest in
    let p = m.requires in
    let low : 4 ≤ m.args.s.code =
    omega (arith, p.no_input, r.0.0.0.1, r.0.0.1, r.0.1) in
    let high : m.args.s.code ≤ 8 = omega (arith, p.code, p.no_quotient, p.no_antiderivative) in
    omega (arith, low, high, p.no_product, p.no_substitution, p.no_sweep, r.1)

pub returns-in_default : goal.returns-in_default
unfolding codes
returns-in_default c = λ d m.
    answers (goal.at.returns-in_default c).Start d m subtract_code _ c.subtracted.ensures
    (is_difference (goal.at.returns-in_default c).In_default) refl
