-- `step_answer` goes by the code: a product, a substitution, a sweep and an antiderivative are asked and answer what
-- the step is asked and answers, each with its shares; any other result is all carried.
use mathlib.Core.Path.{◌≡◌, refl, ◌∙◌, ap}
use Prim.Native.Nat.{ℕ}
use borrow.Author.Rules.{rules}
use lib.IntN.{nat_abs}
use mir.Facts.{to_z-of_z}
use mir.Syntax.{w64}
use mir.Val.{to_z, of_z}
use Rattle.calculus.specs.Model as C
use Rattle.calculus.specs.Refusal as R
use Rattle.calculus.specs.Refusal.{accepted}
use Rattle.calculus.specs.Operations as Op
use Rattle.calculus.specs.Shares.{Shares, sweep_shares}
use Rattle.model_types.specs.declared.Accounted.{Accounted}
use Rattle.model_types.specs.ModelStruct.{view}
use Rattle.model_types.specs.SharesStruct.{accounted}
use Rattle.sheet_book.specs.BookStruct.{held_step}
use Rattle.sheet_steps.specs.Steps.{substitute_code, sweep_code, antiderivative_code}
use Rattle.sheet_steps.specs.Steps.{code_answer, code_shares, step_answer, step_row, DirectReady}
use Rattle.sheet_steps.proofs.StepLaws.{substitution, swept_sound, integrand, direct_ready, codes}
use Rattle.sheet_steps.proofs.StepLaws.{accounted_is, direct_bounded, carried_is}
use Rattle.sheet_steps.proofs.step_answer.Goals as goal
use Rattle.sheet_steps.proofs.step_answer.Goals.{In_default, Start}

-- ---- what the operations ask
pub substituted_accounted-requires : goal.substituted_accounted-requires
unfolding held_step
substituted_accounted-requires c =
    let p = c.requires in
    let e = c.in-7.is in
    record {
      substitution = substitution p.step_ready e;
      scratch_room = p.scratch_room e;
    }

pub swept_accounted-requires : goal.swept_accounted-requires
swept_accounted-requires c = swept_sound c.requires.step_ready

pub integrated_accounted-requires : goal.integrated_accounted-requires
unfolding held_step
integrated_accounted-requires c = integrand c.requires.step_ready c.in-10.is

-- no code is left that has shares of its own
direct : (c : In_default) → DirectReady c.args.n (held_step c.args.s)
    c.args.f c.args.g
unfolding held_step
direct c =
    let r = c.in_default.in_default-own.rest in
    direct_ready c.requires.step_ready r.0.0.1 r.0.1 r.1

pub direct_answer-requires : goal.direct_answer-requires
direct_answer-requires c = direct c

pub all_carried-requires : goal.all_carried-requires
all_carried-requires c =
    direct_bounded c.requires.step_ready (view c.args.f) (direct (goal.at.all_carried-requires c).In_default)
    (c.direct_answer.ensures c.args.d (view c.args.f))

-- ---- what they answer
module _ (c : Start) (m : C.Model) where
  -- what a code gives
  abbrev given : ℕ → R.Answer C.Model
  given = code_answer c.args.n c.args.d (held_step c.args.s) m (view c.args.f)
      (view c.args.g)

  -- and its shares
  abbrev shared : ℕ → C.Model → Shares
  shared = code_shares c.args.n c.args.d (held_step c.args.s) m (view c.args.f)
      (view c.args.g)

  -- what is answered
  abbrev Answered : Accounted → Type 0
  Answered r =
      r
      ≡ accounted (step_answer c.args.n c.args.d (held_step c.args.s) m
      (view c.args.f) (view c.args.g))
      (step_row c.args.n c.args.d (held_step c.args.s) m
      (view c.args.f) (view c.args.g))

  answers : {r : Accounted} (i : ℕ) (a : R.Answer C.Model) (k : C.Model → Shares) → r ≡ accounted a k
      → c.args.s.code ≡ i → given i ≡ a → shared i ≡ k → Answered r
  unfolding held_step
  answers =
      accounted_is c.args.n c.args.d (held_step c.args.s) m c.args.f c.args.g

pub shape_of-slots : goal.shape_of-slots
shape_of-slots c = c.substituted_accounted.auto.slots

pub shape_of-keys : goal.shape_of-keys
shape_of-keys c = c.substituted_accounted.auto.keys

pub shape_of-sums : goal.shape_of-sums
shape_of-sums c = c.substituted_accounted.auto.sums

pub returns-in-7 : goal.returns-in-7
unfolding codes held_step
returns-in-7 c =
    λ k. answers (goal.at.returns-in-7 c).Start k substitute_code _ _ c.substituted_accounted.ensures
    c.in-7.is refl refl

pub returns-in-8 : goal.returns-in-8
unfolding codes held_step
returns-in-8 c =
    let read_back : to_z w64 (of_z w64 c.args.s.value) ≡ c.args.s.value =
    to_z-of_z {w = w64} (record { sfits = c.struct_told-1.given.1.1.1.1.0.1 }) in
    λ k. answers (goal.at.returns-in-8 c).Start k sweep_code _ _
    (c.swept_accounted.ensures
    ∙ ap (λ k. accounted (accepted (Op.sweep k (view c.args.f))) (λ m. sweep_shares k (view c.args.f)))
    (c.magnitude.ensures ∙ ap nat_abs read_back))
    c.in-8.is refl refl

pub returns-in-10 : goal.returns-in-10
unfolding codes held_step
returns-in-10 c =
    λ k. answers (goal.at.returns-in-10 c).Start k antiderivative_code _ _ c.integrated_accounted.ensures c.in-10.is
    refl refl

pub returns-in_default : goal.returns-in_default
returns-in_default c =
    λ k. carried_is c.args.n c.args.d (held_step c.args.s) k c.args.f c.args.g
    (direct (goal.at.returns-in_default c).In_default) (c.direct_answer.ensures c.args.d k) c.all_carried.ensures
