-- A model in slices with a radius added to its own, beside its shares.
use Rattle.std.specs.Prelude.{◌≡◌, refl, List, ℕ, ◌+◌, ℤ}
use Rattle.std.proofs.Common.{◌∙◌, ap, subst}
use Rattle.numbers.specs.Fixed.{capped}
use Rattle.calculus.specs.Refusal.{at_place}
use Rattle.calculus.specs.Operations.{limited, widen}
use Rattle.calculus.specs.Shares as S
use Rattle.calculus.specs.Shares.{carrying}
use Rattle.model_types.specs.declared.Answer.{Answer}
use Rattle.model_types.specs.declared.Shares.{Shares}
use Rattle.model_types.specs.declared.Accounted.{Accounted}
use Rattle.model_types.specs.ModelStruct.{view, answer}
use Rattle.model_types.specs.SharesStruct.{stored_shares, accounted, unless_refused}
use Rattle.model_types.specs.SharesStructLaws.{accounted_by}
use Rattle.model_slices.specs.HeldModels.{held}
use Rattle.model_limits.specs.declared.Left.{Left}
use Rattle.model_limits.specs.Limits.{Packed, LeftIn}
use Rattle.model_limits.specs.LimitLaws.{packed_radius, limited_capped}
use Rattle.model_horner_iteration.specs.HornerIteration.{KeptIn}

module _ (n c e radius : ℕ) (ks : List ℕ) (cs : List ℤ) where
  -- as it is limited it is packed
  pub widened_packed : (b : ℕ) → Packed (held n c e ks cs) → Packed (held n c b ks cs)
  unfolding held
  widened_packed b = packed_radius (held n c e ks cs) b

  widens : limited (view (held n c (capped (e + radius)) ks cs)) ≡ widen radius (view (held n c e ks cs))
  unfolding held view widen
  widens = limited_capped n (e + radius) _

  abbrev last : Answer
  last = answer (at_place 0 (widen radius (view (held n c e ks cs))))

  module _ {b : ℕ} (q : b ≡ capped (e + radius)) {r : Left}
      (l : LeftIn n r ks cs (answer (at_place 0 (limited (view (held n c b ks cs)))))) where
    left : LeftIn n r ks cs last
    left = subst (LeftIn n r ks cs)
        (ap (λ b. answer (at_place 0 (limited (view (held n c b ks cs))))) q ∙ ap (λ m. answer (at_place 0 m)) widens) l

    pub widened_in : (t : S.Shares) {a x : Shares} → a ≡ stored_shares (carrying radius t)
        → x ≡ unless_refused r.verdict a
        → KeptIn n (record { count = r.count; radius = r.radius; shares = x; verdict = r.verdict }) ks cs
        (accounted (widen radius (view (held n c e ks cs))) (λ m. carrying radius t))
    widened_in t {a = a} u x =
        let y : unless_refused r.verdict a ≡ unless_refused last.verdict (stored_shares (carrying radius t)) =
        ap (λ v. unless_refused v a) left.verdict ∙ ap (unless_refused last.verdict) u in
        let s : record { answer = last; shares = unless_refused last.verdict (stored_shares (carrying radius t)) }
        ≡ accounted (widen radius (view (held n c e ks cs))) (λ m. carrying radius t) =
        accounted_by (widen radius (view (held n c e ks cs))) (carrying radius t) refl refl in
        record {
          verdict = left.verdict ∙ ap (λ (a : Accounted). a.answer.verdict) s;
          shares = x ∙ y ∙ ap (λ (a : Accounted). a.shares) s;
          model = λ v. left.model v ∙ ap (λ (a : Accounted). a.answer.model) s;
        }
