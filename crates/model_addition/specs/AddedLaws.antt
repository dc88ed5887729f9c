-- The sum of two sound models in memory: their lists can be merged, and what is merged is the sum.
use Rattle.std.specs.Prelude.{◌≡◌, refl, List, map, ℕ, ◌+◌, ◌≤◌, ◌<◌, T, nat_abs, get_or}
use Rattle.std.proofs.Math.Path.{sym, ap, ap₂, subst}
use Rattle.std.proofs.Common.{◌∙◌, arith, lit<}
use Rattle.std.proofs.Math.ListN.{length}
use Rattle.numbers.specs.Fixed.{span_limit}
use Rattle.calculus.specs.Terms.{every, is_nonzero, drop_zeros}
use Rattle.calculus.specs.Model as C
use Rattle.calculus.specs.Model.{most_vars, most_degree, most_terms, between, fits, sound, span}
use Rattle.calculus.specs.Refusal.{too_many_terms, stopped, at_place}
use Rattle.calculus.specs.Operations.{limited, negate, add}
use Rattle.calculus.specs.Tests.{vars_sound}
use Rattle.calculus_laws.specs.SoundLaws as S
use Rattle.calculus_laws.specs.SoundLaws.{Canonical, sound_parts, parts_sound, negate_sound}
use Rattle.calculus_laws.specs.TermsLaws.{every-++, every_select, every_collect}
use Rattle.model_types.specs.declared.Term.{Term}
use Rattle.model_types.specs.declared.Model.{Model}
use Rattle.model_types.specs.ModelStruct.{zero_term, view, pack_term, pad, pack, answer, listed, of_terms}
use Rattle.model_types.specs.ModelStructLaws.{read, sound_vars, view_terms, view_is, view_pack, within_span, limits}
use Rattle.model_limits.specs.Limits.{Packed}
use Rattle.model_limits.specs.LimitLaws.{pack_packed, answer_many}
use Rattle.model_addition.specs.Addition.{Operands}
use Rattle.model_addition.specs.SumTermsLaws.{sum_terms}
use Rattle.model_addition.specs.MergeLaws.{Rising, Mergeable, whole_sum, Merged, all_stored}

-- all places of the array are there
abbrev pub Whole : Model → Type 0
Whole m = length (listed m) ≡ most_terms

-- ---- one sound model
module _ (m : Model) (h : T (sound most_degree (view m))) (w : Whole m) where
  whole : m.count ≤ length (listed m)
  whole = omega (arith, (limits most_degree m h).few)

  pub coefficient_within : (i : ℕ) → i < m.count → nat_abs (get_or (listed m) i zero_term).coefficient ≤ span_limit
  coefficient_within i l = omega (arith, within_span m i whole l, (limits most_degree m h).small)

  pub radius_within : m.radius ≤ span_limit
  unfolding span view
  radius_within = omega (arith, (limits most_degree m h).small)

  canonical : Canonical m.n most_degree
      (record { vars = m.n; radius = m.radius; terms = read m.n m.count (listed m) })
  canonical = (sound_parts most_degree _ (subst (λ v. T (sound most_degree v)) (view_is m whole) h)).0

  -- its terms, in as many variables
  pub terms_in : (n : ℕ) → m.n ≡ n → Rising n m.count (listed m)
  terms_in n e = record {
    width = omega (arith, (limits most_degree m h).width);
    whole = whole;
    fitting = rw e at canonical.fitting;
    rises = rw e at canonical.rising_terms;
  }

-- ---- two
module _ (a b : Model) (s : Operands a b) (v : Whole a) (w : Whole b) where
  pub mergeable : Mergeable a b
  mergeable = record {
    first = terms_in a s.first v a.n refl;
    second = terms_in b s.second w a.n (sym s.vars);
  }

  -- before the limits
  abbrev sum_model : C.Model
  sum_model = record { vars = a.n; radius = a.radius + b.radius; terms = whole_sum a b }

  add_limited : add (view a) (view b) ≡ limited sum_model
  unfolding add view
  add_limited = ap₂ (λ l k. limited (record { vars = a.n; radius = a.radius + b.radius; terms = sum_terms l k }))
      (view_terms a (whole a s.first v))
      (view_terms b (whole b s.second w) ∙ ap (λ n. read n b.count (listed b)) (sym s.vars))

  pub answer_too_many : most_terms < length (whole_sum a b)
      → answer (at_place 0 (add (view a) (view b))) ≡ answer (stopped too_many_terms 0)
  answer_too_many h = ap (λ r. answer (at_place 0 r)) add_limited ∙ answer_many sum_model h

  fitting : T (every (λ k c. fits a.n most_degree k) (whole_sum a b))
  unfolding drop_zeros
  fitting = every_select (λ k c. fits a.n most_degree k) (λ k c. is_nonzero c) _
      (every_collect (fits a.n most_degree) _
      (every-++ (λ k c. fits a.n most_degree k) _ _ mergeable.first.fitting mergeable.second.fitting))

  -- what the loop leaves
  module _ {out : List Term} {count i j : ℕ} (m : Merged a b out count i j) (h : a.count + b.count ≤ i + j) where
    abbrev struct : Model
    struct = of_terms a.n count (a.radius + b.radius) out

    all_done : m.done ≡ whole_sum a b
    all_done = all_stored a b mergeable m h

    struct_pack : struct ≡ pack sum_model
    unfolding pack
    struct_pack = ap₂ (λ c l. of_terms a.n c (a.radius + b.radius) l)
        (sym m.many ∙ ap length all_done) (m.stored ∙ ap (λ l. pad (map pack_term l)) all_done)

    pub sum_packed : Packed struct
    unfolding most_degree
    sum_packed = subst Packed (sym struct_pack)
        (pack_packed most_degree sum_model (lit< tt) mergeable.first.width fitting
        (omega (arith, ap length all_done, m.many, m.few)))

    pub sum_answer : answer (at_place 0 (limited (view struct))) ≡ answer (at_place 0 (add (view a) (view b)))
    unfolding most_degree
    sum_answer = ap (λ v. answer (at_place 0 v))
        (ap limited
        (ap view struct_pack ∙ view_pack most_degree sum_model (lit< tt) mergeable.first.width fitting)
        ∙ sym add_limited)
