-- Answers with their shares, made and taken apart.
use Rattle.std.specs.Prelude.{◌≡◌, ℕ, ◌*◌, ◌^◌, ◌≤◌, ◌<◌}
use Rattle.std.proofs.Math.Path.{refl}
use Rattle.std.proofs.Common.{sym, ◌∙◌, ap, ap₂, arith}
use Rattle.std.proofs.Math.Nat as NatL
use Rattle.numbers.specs.Fixed.{U, span_limit}
use Rattle.numbers.proofs.FixedLaws.{U_within, span_square_fits}
use Rattle.calculus.specs.Model as C
use Rattle.calculus.specs.Model.{zero_model}
use Rattle.calculus.specs.Refusal as R
use Rattle.calculus.specs.Refusal.{accepted, refused, stopped, at_place}
use Rattle.calculus.specs.Shares as S
use Rattle.calculus.specs.Shares.{no_shares, shares_of, grown, all_carried}
use Rattle.model_types.specs.declared.Model.{Model}
use Rattle.std.specs.Prelude.{Ok}
use Rattle.model_types.specs.declared.Answer.{Answer}
use Rattle.model_types.specs.declared.Shares.{Shares}
use Rattle.model_types.specs.declared.Accounted.{Accounted}
use Rattle.model_types.specs.ModelStruct.{pack, answer}
use Rattle.model_types.specs.SharesStruct.{stored_shares, accounted, unless_refused}

-- U times a number within the span limit fits
pub times_fits : (e : ℕ) → e ≤ span_limit → U * e < 2 ^ 64
times_fits e h = omega (arith, NatL.mul-le-mul U_within h, span_square_fits)

-- ---- made
-- both parts
abbrev both : Answer → Shares → Accounted
both a s = record { answer = a; shares = s }

-- of an answer and the shares of what it accepts
pub accounted_by : {a : Answer} {s : Shares} (o : R.Answer C.Model) (t : S.Shares) → a ≡ answer (at_place 0 o)
    → s ≡ unless_refused a.verdict (stored_shares t)
    → record { answer = a; shares = s } ≡ accounted o (λ m. t)
accounted_by o t e h = ap₂ both e (h ∙ ap (λ a. unless_refused a.verdict (stored_shares t)) e) ∙ go o
  where
    go : (o : R.Answer C.Model) → both (answer (at_place 0 o))
        (unless_refused (answer (at_place 0 o)).verdict (stored_shares t)) ≡ accounted o (λ m. t)
    go (accepted m) = unfold accounted answer at_place unless_refused shares_of in refl
    go (refused r) = unfold accounted answer at_place unless_refused shares_of in refl

-- of a refusal
pub accounted_refused : {a : Answer} (r : R.Refusal) (f : C.Model → S.Shares) → a ≡ answer (stopped r 0)
    → record { answer = a; shares = record { carried = 0; rounding = 0; swept = 0; slack = 0 } }
    ≡ accounted (refused r) f
accounted_refused r f e = ap (λ a. both a zeros) e
    ∙ (unfold accounted at_place shares_of stored_shares no_shares in refl)
  where
    zeros : Shares
    zeros = record { carried = 0; rounding = 0; swept = 0; slack = 0 }

-- of a model that no limit refuses
pub accounted_accepted : {h : Model} {s : Shares} (m : C.Model) (f : C.Model → S.Shares) → h ≡ pack m
    → s ≡ stored_shares (f m)
    → record { answer = record { model = h; verdict = Ok tt }; shares = s } ≡ accounted (accepted m) f
accounted_accepted m f e h = ap₂ (λ h s. both (record { model = h; verdict = Ok tt }) s) e h
    ∙ (unfold accounted answer at_place shares_of in refl)

-- of a refusal, whose radius is 0
stopped_carried : (r : R.Refusal) → both (answer (at_place 0 (refused r)))
    (stored_shares (grown (answer (at_place 0 (refused r))).model.radius 0 0)) ≡ accounted (refused r) all_carried
unfolding answer at_place accounted shares_of stored_shares grown no_shares pack zero_model
stopped_carried r =
    let none : U * 0 ≡ 0 = omega arith in
    ap (λ z. both (answer (stopped r 0)) (record { carried = z; rounding = z; swept = z; slack = 0 })) none

-- of an answer whose radius is all carried
pub accounted_carried : {a : Answer} {s : Shares} (o : R.Answer C.Model) → a ≡ answer (at_place 0 o)
    → s ≡ stored_shares (grown a.model.radius 0 0) → record { answer = a; shares = s } ≡ accounted o all_carried
accounted_carried o e h = ap₂ both e (h ∙ ap (λ a. stored_shares (grown a.model.radius 0 0)) e) ∙ go o
  where
    go : (o : R.Answer C.Model) → both (answer (at_place 0 o))
        (stored_shares (grown (answer (at_place 0 o)).model.radius 0 0)) ≡ accounted o all_carried
    go (accepted m) = unfold accounted answer at_place shares_of all_carried pack in refl
    go (refused r) = stopped_carried r

-- ---- taken apart
pub accounted_answer : {r : Accounted} (o : R.Answer C.Model) (f : C.Model → S.Shares) → r ≡ accounted o f
    → r.answer ≡ answer (at_place 0 o)
unfolding accounted
accounted_answer o f e = ap (λ r. r.answer) e

pub accounted_shares : {r : Accounted} (o : R.Answer C.Model) (f : C.Model → S.Shares) → r ≡ accounted o f
    → r.shares ≡ stored_shares (shares_of o f)
unfolding accounted
accounted_shares o f e = ap (λ r. r.shares) e
