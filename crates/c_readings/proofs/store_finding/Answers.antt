-- `store_finding` asks the Option and the verdict, then stores three numbers.
use mathlib.Core.Path.{◌≡◌, refl, ◌∙◌, ap, ap₂}
use mir.Val.{bool_byte}
use Rattle.std.specs.Prelude.{List, [], ◌∷◌, ℕ, Option, None, Some, is_some, unwrap_or}
use Rattle.model_types.specs.ModelStruct.{verdict_place}
use Rattle.model_slices.specs.HandedModels.{over}
use Rattle.c_readings.specs.HandedReadings.{any_contradicts, number_of, readings_state, stored_finding}
use Rattle.c_readings.proofs.store_finding.Goals as goal

as_number : (o : Option ℕ) → bool_byte (is_some o) ≡ any_contradicts o
unfolding any_contradicts
as_number None = refl
as_number (Some i) = refl

or_zero : (o : Option ℕ) → unwrap_or o 0 ≡ number_of o
unfolding number_of
or_zero None = refl
or_zero (Some i) = refl

stores : (l : List ℕ) {a b n a' b' n' : ℕ} → a ≡ a' → b ≡ b' → n ≡ n'
    → over (a ∷ b ∷ n ∷ []) l ≡ over (a' ∷ b' ∷ n' ∷ []) l
stores l e f g = rw (e, f, g)

pub returns : goal.returns
unfolding stored_finding
returns c =
    let place : c.verdict_place-place.result ≡ verdict_place c.args.f.verdict = c.verdict_place-place.ensures in
    let any : bool_byte c.is_some-any.result ≡ any_contradicts c.args.f.contradiction =
    ap bool_byte c.is_some-any.ensures ∙ as_number c.args.f.contradiction
    in
    let number : c.unwrap_or-number.result ≡ number_of c.args.f.contradiction =
    c.unwrap_or-number.ensures ∙ or_zero c.args.f.contradiction
    in
    ap₂ readings_state c.verdict_number.ensures (c.store_three.ensures ∙ stores c.args.numbers.now place any number)
