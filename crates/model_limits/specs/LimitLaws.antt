-- The limits as the code tests them: what each way out answers.
use Rattle.std.specs.Prelude.{◌≡◌, true, false, ℕ, ◌+◌, ◌≤◌, ◌<◌, T, nat_abs, length, get_or}
use Rattle.std.proofs.Math.Path.{sym, ap}
use Rattle.std.proofs.Common.{◌∙◌, arith}
use Rattle.std.proofs.Math.Decide.{dec_le}
use borrow.Author.Tests.{le-leb, lt-leb}
use Rattle.std.proofs.Math.Dec.{leb}
use Rattle.numbers.specs.Fixed.{span_limit, capped}
use Rattle.numbers.proofs.FixedLaws.{capped_same, capped_more, capped_above, capped_within}
use Rattle.calculus.specs.Key.{key_width}
use Rattle.calculus.specs.Terms.{Terms, every, size, sum_over}
use Rattle.calculus.specs.Model as C
use Rattle.calculus.specs.Model.{most_terms, fits, span}
use Rattle.calculus.specs.Refusal.{accepted, refused, over_span, too_many_terms, require, stopped, at_place}
use Rattle.calculus.specs.Operations.{limited}
use Rattle.model_slices.specs.model_types.declared.Model.{Model}
use Rattle.std.specs.Prelude.{Ok}
use Rattle.model_slices.specs.model_types.ModelStruct.{zero_term, view, pack, answer, listed}
use Rattle.model_slices.specs.model_types.ModelStructLaws.{read, size_more, length_view, view_is, view_pack}
use Rattle.model_limits.specs.Limits.{Packed}

-- ---- each case
pub limited_many : (m : C.Model) → most_terms < length m.terms → limited m ≡ refused too_many_terms
unfolding limited require
limited_many m h = rw (lt-leb (length m.terms) most_terms h)

pub limited_few : (m : C.Model) → length m.terms ≤ most_terms
    → limited m ≡ require (leb (span m) span_limit) over_span (accepted m)
unfolding limited require
limited_few m h = rw (le-leb (length m.terms) most_terms h)

-- ---- a radius that is capped: within the limit it is the radius, and above it both are refused
pub limited_capped : (n e : ℕ) (p : Terms)
    → limited (record { vars = n; radius = capped e; terms = p }) ≡ limited (record { vars = n; radius = e; terms = p })
limited_capped n e p = go (dec_le e span_limit)
  where
    model : ℕ → C.Model
    model r = record { vars = n; radius = r; terms = p }

    go : Dec (e ≤ span_limit) → limited (model (capped e)) ≡ limited (model e)
    go (yes h) = ap (λ r. limited (model r)) (capped_same e h)
    go (no h) = unfold limited span require in
        rw (
          lt-leb (size p + capped e) span_limit (omega (arith, capped_above e (omega arith))),
          lt-leb (size p + e) span_limit (omega arith),
        )

-- ---- the span as it is summed: known as far as the cap
pub record Summed (m : Model) (total i : ℕ) : Type 0 where
  pub within : i ≤ m.count
  pub sum : capped total ≡ capped (size (read m.n i (listed m)) + m.radius)

module _ (m : Model) (w : m.count ≤ length (listed m)) where
  pub summed_first : Summed m m.radius 0
  unfolding size sum_over
  summed_first = record { within = omega arith; sum = ap capped (omega arith) }

  pub summed_iteration : (total i next : ℕ) → Summed m total i → i < m.count
      → next ≡ capped (total + nat_abs (get_or (listed m) i zero_term).coefficient) → Summed m next (i + 1)
  summed_iteration total i next h l e = record {
    within = omega arith;
    sum = ap capped e ∙ capped_more total _ _ h.sum
        ∙ ap capped (omega (arith, size_more m.n i (listed m) (omega arith)));
  }

  pub summed_end : (total i : ℕ) → Summed m total i → m.count ≤ i
      → leb total span_limit ≡ leb (span (view m)) span_limit
  unfolding span
  summed_end total i h l =
      let e : i ≡ m.count = omega (arith, h.within) in
      sym (capped_within total) ∙ ap (λ s. leb s span_limit) h.sum ∙ capped_within _
      ∙ ap (λ j. leb (size (read m.n j (listed m)) + m.radius) span_limit) e
      ∙ ap (λ v. leb (span v) span_limit) (sym (view_is m w))

-- ---- the answers
pub answer_many : (m : C.Model) → most_terms < length m.terms
    → answer (at_place 0 (limited m)) ≡ answer (stopped too_many_terms 0)
unfolding at_place
answer_many m h = ap (λ a. answer (at_place 0 a)) (limited_many m h)

-- a struct that a model in canonical form was packed into
pub pack_packed : (d : ℕ) (m : C.Model) → d < 16 → m.vars ≤ key_width
    → T (every (λ k c. fits m.vars d k) m.terms) → length m.terms ≤ most_terms → Packed (pack m)
pack_packed d m s l f h = record { few = unfold pack in h; packed = ap pack (view_pack d m s l f) }

-- with another radius
pub packed_radius : (m : Model) (e : ℕ) → Packed m
    → Packed (record { n = m.n; count = m.count; radius = e; keys = m.keys; coefficients = m.coefficients })
unfolding view pack
packed_radius m e p = record {
  few = p.few;
  packed = ap (λ (k : Model). record {
    n = k.n;
    count = k.count;
    radius = e;
    keys = k.keys;
    coefficients = k.coefficients;
  })
      p.packed;
}

module _ (m : Model) (p : Packed m) where
  at_most : length (view m).terms ≤ most_terms
  at_most = omega (arith, length_view m, p.few)

  pub answer_within : leb (span (view m)) span_limit ≡ true
      → answer (at_place 0 (limited (view m))) ≡ record { model = m; verdict = Ok tt }
  unfolding at_place answer require
  answer_within h = rw (limited_few (view m) at_most, h, p.packed)

  pub answer_over : leb (span (view m)) span_limit ≡ false
      → answer (at_place 0 (limited (view m))) ≡ answer (stopped over_span 0)
  unfolding at_place require
  answer_over h = rw (limited_few (view m) at_most, h)
