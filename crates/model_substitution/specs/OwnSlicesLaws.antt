-- Two models that lend their arrays to a substitution in slices, and its answer as a struct.
use Rattle.std.specs.Prelude.{◌≡◌, true, List, ℕ, ◌≤◌, ℤ}
use Rattle.std.proofs.Math.Path.{refl, ap, subst}
use Rattle.std.proofs.Common.{sym, ◌∙◌, ap₂}
use native.Mathlib.Omega.{arith}
use Rattle.std.proofs.Math.Dec.{T}
use Rattle.calculus.specs.Model as C
use Rattle.calculus.specs.Model.{zero_model, most_terms, sound}
use Rattle.calculus.specs.Refusal as R
use Rattle.calculus.specs.Refusal.{accepted, refused, stopped, at_place}
use Rattle.calculus.specs.Operations.{range_in_box, substitute}
use Rattle.calculus.specs.Shares as S
use Rattle.calculus.specs.Shares.{substitute_shares}
use Rattle.calculus_laws.specs.RefusalLaws.{IfAccepted}
use Rattle.calculus_laws.specs.SoundLaws.{Sound, substitute_sound}
use Rattle.model_types.specs.declared.Model.{Model}
use Rattle.model_types.specs.declared.Refusal.{Refusal}
use Rattle.model_types.specs.ModelStruct.{Verdict}
use Rattle.std.specs.Prelude.{Ok, Err}
use Rattle.model_types.specs.ModelStruct.{refused_at}
use Rattle.model_types.specs.declared.Answer.{Answer}
use Rattle.model_types.specs.declared.Shares.{Shares}
use Rattle.model_types.specs.declared.Accounted.{Accounted}
use Rattle.model_types.specs.ModelStruct.{view, pack, answer, cause}
use Rattle.model_types.specs.ModelStructLaws.{limits, refusal_cause}
use Rattle.model_types.specs.SharesStruct.{accounted}
use Rattle.model_types.specs.SharesStructLaws.{accounted_answer}
use Rattle.model_types.specs.ResultLaws.{Got, got, sound_struct}
use Rattle.model_slices.specs.declared.Kept.{Kept}
use Rattle.model_slices.specs.HeldModels.{model_places, held, Room}
use Rattle.model_slices.specs.HeldModelsLaws.{own_view}
use Rattle.product_answer.specs.KeptProduct.{model_unless}
use Rattle.model_substitution_slices.specs.model_horner_iteration.HornerIteration.{KeptIn}
use Rattle.model_substitution_slices.specs.Substituting.{Substitution, SubstitutionOf}

-- ---- the answer as a struct
-- its model, its verdict and its shares
abbrev put : Model → Verdict → Shares → Accounted
put m v s = record { answer = record { model = m; verdict = v }; shares = s }

pub kept_answer : {n : ℕ} {k : Kept} {ks : List ℕ} {cs : List ℤ} (a : R.Answer C.Model) (f : C.Model → S.Shares)
    → KeptIn n k ks cs (accounted a f)
    → put (model_unless k.verdict (held n k.count k.radius ks cs)) k.verdict k.shares ≡ accounted a f
unfolding accounted answer at_place model_unless
kept_answer {n} {k} {ks} {cs} (accepted m) f p =
    let H : Model = held n k.count k.radius ks cs in
    let q : model_unless k.verdict H ≡ (accounted (accepted m) f).answer.model =
    ap (λ v. model_unless v H) p.verdict ∙ p.model p.verdict in
    λ i. put (q i) (p.verdict i) (p.shares i)
kept_answer {n} {k} {ks} {cs} (refused r) f p =
    let H : Model = held n k.count k.radius ks cs in
    λ i. put (ap (λ v. model_unless v H) p.verdict i) (p.verdict i) (p.shares i)

-- a model beside a verdict
abbrev beside : Model → Verdict → Answer
beside m v = record { model = m; verdict = v }

pub answer_accepted : (v : Verdict) (m : Model) → v ≡ Ok tt → {r : Model} → r ≡ m
    → beside r (Ok tt) ≡ beside (model_unless v m) v
unfolding model_unless
answer_accepted v m e q = rw (e, q) refl

pub answer_refused : (v : Verdict) (m : Model) (r : Refusal) (i : ℕ) → v ≡ Err (refused_at r i) → {a : Answer}
    → a ≡ answer (stopped (cause r) i) → a ≡ beside (model_unless v m) v
unfolding model_unless answer
answer_refused v m r i e q = q ∙ ap (λ x. beside (pack (zero_model 1)) (Err (refused_at x i))) (refusal_cause r)
    ∙ rw e refl

-- ---- arrays that two models lend
module _ {d i : ℕ} {f g : Model} (s : Substitution d i f g) (room : Room f.keys f.coefficients)
    (room₂ : Room g.keys g.coefficients) where
  abbrev pub own_outer : Model
  own_outer = held f.n f.count f.radius f.keys f.coefficients

  abbrev pub own_inner : Model
  own_inner = held f.n g.count g.radius g.keys g.coefficients

  outer_view : view own_outer ≡ view f
  outer_view = own_view f room (limits _ _ s.model).few

  inner_view : view own_inner ≡ view g
  inner_view = ap (λ n. view (held n g.count g.radius g.keys g.coefficients)) s.vars
      ∙ own_view g room₂ (limits _ _ s.inner).few

  own_substitution : Substitution d i own_outer own_inner
  unfolding held
  own_substitution = record {
    order = s.order;
    model = subst (λ v. T (sound d v)) (sym outer_view) s.model;
    inner = subst (λ v. T (sound d v)) (sym inner_view) s.inner;
    vars = refl;
    first = s.first;
    last = s.last;
  }

  pub own_of : range_in_box (view g) ≡ true
      → SubstitutionOf d i f.n f.count f.radius f.keys f.coefficients g.count g.radius g.keys
      g.coefficients
  own_of h = record {
    first_room = room;
    second_room = room₂;
    models = own_substitution;
    in_box = ap range_in_box inner_view ∙ h;
  }

  -- the answer
  abbrev pub answers : Accounted
  answers = accounted (substitute d i (view f) (view g)) (λ m. substitute_shares d i (view f) (view g))

  pub own_answer : {k : Kept} {ks : List ℕ} {cs : List ℤ}
      → KeptIn f.n k ks cs (accounted (substitute d i (view own_outer) (view own_inner))
      (λ m. substitute_shares d i (view own_outer) (view own_inner)))
      → KeptIn f.n k ks cs answers
  own_answer {k} {ks} {cs} p = subst (KeptIn f.n k ks cs)
      (ap₂ (λ x y. accounted (substitute d i x y) (λ m. substitute_shares d i x y)) outer_view inner_view) p

  pub own_few : {k : Kept} {ks : List ℕ} {cs : List ℤ} → KeptIn f.n k ks cs answers → k.verdict ≡ Ok tt
      → k.count ≤ model_places
  unfolding held pack most_terms
  own_few p v = omega (
    arith,
    ap (λ (m : Model). m.count) (p.model v),
    ap (λ (m : Model). m.count) (taken p v).holds.packed,
    (taken p v).holds.sound.1.count,
  )
    where
      sound_whole : IfAccepted (Sound f.n d) (substitute d i (view f) (view g))
      sound_whole = substitute_sound f.n d i (view f) (view g) (sound_struct f refl s.model).0
          (sound_struct g (sym s.vars) s.inner).0

      taken : {k : Kept} {ks : List ℕ} {cs : List ℤ} → KeptIn f.n k ks cs answers → k.verdict ≡ Ok tt
          → Got f.n d (substitute d i (view f) (view g)) answers.answer.model
      taken p v = got (accounted_answer (substitute d i (view f) (view g)) _ refl) (sym p.verdict ∙ v) sound_whole
