-- The substitution of one piece.
use Rattle.std.specs.Prelude.{◌≡◌, refl, true, List, ℕ, ◌*◌, ◌^◌, ◌≤◌, ◌<◌, T, ℤ}
use Rattle.std.proofs.Common.{sym, ◌∙◌}
use Rattle.std.proofs.Math.Path.{ap}
use native.Mathlib.Omega.{arith}
use Rattle.calculus.specs.Terms.{is_nonzero, drop_zeros}
use Rattle.calculus_laws.specs.TermsLaws.{length_select}
use Rattle.calculus.specs.Model as C
use Rattle.calculus.specs.Model.{most_terms, most_degree, sound}
use Rattle.calculus_laws.specs.SoundLaws.{substitute_sound}
use Rattle.calculus.specs.Refusal as R
use Rattle.calculus.specs.Refusal.{accepted, refused, done, stopped, ◌then◌, at_place}
use Rattle.calculus.specs.Operations.{range, substitute}
use Rattle.calculus.specs.Tests.{vars_sound}
use Rattle.model_types.specs.declared.Model.{Model}
use Rattle.model_types.specs.declared.Refusal.{Refusal}
use Rattle.std.specs.Prelude.{Ok, Err}
use Rattle.model_types.specs.declared.Refused.{Refused}
use Rattle.model_types.specs.ModelStruct.{refused_at}
use Rattle.model_types.specs.declared.Answer.{Answer}
use Rattle.model_types.specs.declared.Bounds.{Bounds}
use Rattle.model_types.specs.ModelStruct.{view, pack, answer, bounds, refusal, cause}
use Rattle.model_types.specs.ModelStructLaws.{sound_vars, cause_refusal}
use Rattle.model_types.specs.ResultLaws.{Holds, held_view, held_sound, held_vars, Got, got, then_is, sound_order}
use Rattle.model_types.specs.ResultLaws.{sound_struct}
use Rattle.product_room.specs.ProductTerms.{ScratchRoom}
use Rattle.product_room.specs.ProductTermsLaws.{fewer_room}
use Rattle.model_substitution.specs.Substitute.{Substitution}
use Rattle.cuts.specs.Cuts.{piece, piece_range}
use Rattle.model_cut_pieces.specs.Cutting.{Cutting, piece_products}
use Rattle.model_cut_pieces.specs.PieceStructLaws.{both_terms, piece_sound}

-- what follows a refusal is refused with it, at place j
refused_range : {a : Answer} {x : Refusal} {y : ℕ} (j : ℕ) (p : R.Answer C.Model) → a.verdict ≡ Err (refused_at x y)
    → a ≡ answer (at_place 0 p)
    → bounds (stopped (cause x) j) ≡ bounds (at_place j (p then (λ m. accepted (range m))))
unfolding answer at_place ◌then◌
refused_range j (accepted m) w e = let z : ◌≡◌ {A = ℕ} 0 1 = cc in absurd (omega arith)
refused_range {x = x} {y = y} j (refused q) w e =
    let both : refused_at x y ≡ refused_at (refusal q) 0 = cc in
    let same : x ≡ refusal q = ap (λ (p : Refused). p.0) both in
    ap (λ r. bounds (stopped r j)) (ap cause same ∙ cause_refusal q)

module _ {d v k : ℕ} {f : Model} (c : Cutting d v k f) {j : ℕ} (hj : j < 2 ^ k) {g : Model}
    (e : g ≡ pack (piece f.n v k j)) where
  vars : vars_sound f.n ≡ true
  unfolding view
  vars = sound_vars d (view f) c.model

  piece_holds : Holds f.n d g (piece f.n v k j)
  piece_holds = record {
    packed = e;
    sound = piece_sound f.n v k j c.first c.last c.depth hj d c.positive;
  }

  pub piece_substitution : Substitution d v f g
  piece_substitution = record {
    order = c.order;
    model = c.model;
    inner = held_sound vars c.order piece_holds;
    vars = sym (held_vars piece_holds);
    first = c.first;
    last = c.last;
  }

  piece_count : g.count ≤ 2
  unfolding pack piece drop_zeros
  piece_count =
      omega (
        arith,
        ap (λ (c : Model). c.count) e,
        length_select (λ k c. is_nonzero c) (both_terms f.n v k j c.first c.last c.depth hj),
      )

  pub piece_room : {slots keys : List ℕ} {sums : List ℤ} → ScratchRoom piece_products slots keys sums
      → ScratchRoom (most_terms * g.count) slots keys sums
  unfolding most_terms
  piece_room l = fewer_room l (omega (arith, piece_count))

  module _ {a : Answer} (h : a ≡ answer (at_place 0 (substitute d v (view f) (view g)))) where
    abbrev put : R.Answer C.Model
    put = substitute d v (view f) (piece f.n v k j)

    put_is : a ≡ answer (at_place 0 put)
    put_is = h ∙ ap (λ g. answer (at_place 0 (substitute d v (view f) g))) (held_view vars c.order piece_holds)

    taken : a.verdict ≡ Ok tt → Got f.n d put a.model
    taken w = got put_is w (substitute_sound f.n d v (view f) (piece f.n v k j)
        (sound_struct f refl c.model).0 piece_holds.sound.0)

    pub piece_taken : a.verdict ≡ Ok tt → T (sound most_degree (view a.model))
    piece_taken w = sound_order d (view a.model) c.order (held_sound vars c.order (taken w).holds)

    pub piece_accepted : a.verdict ≡ Ok tt → {b : Bounds} → b ≡ bounds (done (range (view a.model)))
        → b ≡ bounds (at_place j (piece_range d v k (view f) j))
    unfolding piece_range view at_place
    piece_accepted w h = h ∙ ap (λ m. bounds (done (range m))) (held_view vars c.order (taken w).holds)
        ∙ ap (λ r. bounds (at_place j r)) (sym (then_is (λ m. accepted (range m)) (taken w).is))

    pub piece_refused : {x : Refusal} {y : ℕ} → a.verdict ≡ Err (refused_at x y)
        → {b : Bounds} → b ≡ bounds (stopped (cause x) j) → b ≡ bounds (at_place j (piece_range d v k (view f) j))
    unfolding piece_range view
    piece_refused {x} {y} w h = h ∙ go put put_is
      where
        go : (p : R.Answer C.Model) → a ≡ answer (at_place 0 p)
            → bounds (stopped (cause x) j) ≡ bounds (at_place j (p then (λ m. accepted (range m))))
        go p e = refused_range j p w e
