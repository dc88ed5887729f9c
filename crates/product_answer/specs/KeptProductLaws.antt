-- The answer of a product in arrays: its span as it is summed, and what each way out answers.
use Rattle.std.specs.Prelude.{◌≡◌, List, [], ◌∷◌, map, true, false, ℕ, ◌+◌, ◌*◌, ◌≤◌, ◌<◌, leb, ℤ, pos, length, get_or}
use Rattle.std.proofs.Math.Path.{refl, ap}
use Rattle.std.proofs.Common.{sym, ◌∙◌, arith}
use Rattle.std.proofs.Math.IntN.{nat_abs}
use Rattle.std.proofs.lemmas.List.{length-map}
use Rattle.numbers.specs.Fixed.{span_limit, capped, round_up}
use Rattle.numbers.proofs.FixedLaws.{capped_more, capped_within}
use Rattle.calculus.specs.Terms.{Terms, size, sum_over}
use Rattle.calculus_laws.specs.SumLaws.{ℕ_addition, sum_snoc}
use Rattle.calculus.specs.Model.{most_terms, span, zero_model}
use Rattle.calculus.specs.Model as C
use Rattle.calculus.specs.Refusal as R
use Rattle.calculus.specs.Refusal.{stopped, at_place}
use Rattle.calculus.specs.Shares as S
use Rattle.calculus.specs.Operations.{multiply}
use Rattle.calculus.specs.Shares.{product_shares}
use Rattle.model_types.specs.declared.Model.{Model}
use Rattle.model_types.specs.declared.Refusal.{Refusal}
use Rattle.model_types.specs.declared.Refusal.TheVariants.{OverSpan, TooManyTerms}
use Rattle.model_types.specs.ModelStruct.{Verdict}
use Rattle.std.specs.Prelude.{Ok, Err}
use Rattle.model_types.specs.ModelStruct.{refused_at}
use Rattle.model_types.specs.declared.Answer.{Answer}
use Rattle.model_types.specs.declared.Shares.{Shares}
use Rattle.model_types.specs.ArrayLaws.{first_padded}
use Rattle.model_types.specs.ModelStruct.{zero_term, view_term, view, pad, pack, places, answer, cause}
use Rattle.model_types.specs.ModelStructLaws.{refusal_cause}
use Rattle.model_types.specs.PairedLaws.{paired_of}
use Rattle.model_types.specs.SharesStruct.{stored_shares, accounted, unless_refused}
use Rattle.model_limits.specs.LimitLaws.{answer_within, answer_over}
use Rattle.product_sums.specs.TermArrays.{terms}
use Rattle.product_sums.specs.declared.Gathered.{Gathered}
use Rattle.product_answer.specs.PackedTerms.{narrowed_term, packed}
use Rattle.product_answer.specs.PackedTermsLaws.{terms_more}
use Rattle.product_answer.specs.CollectedProduct.{Product}
use Rattle.product_answer.specs.CollectedProductLaws.{too_many, struct_packed, struct_answer}
use Rattle.product_answer.specs.CollectedProductLaws.{product_accounted}
use Rattle.product_answer.specs.ErrorShares.{error_shares}
use Rattle.model_slices.specs.declared.Kept.{Kept}
use Rattle.product_answer.specs.KeptProduct.{model_unless, kept_model, kept_accounted, KeptReady, kept_refused}

-- ---- the span as it is summed: known as far as the cap
module _ (keys : List ℕ) (cs : List ℤ) where
  size_more : (i : ℕ) → i < length keys → i < length cs
      → size (terms (i + 1) keys cs) ≡ size (terms i keys cs) + nat_abs (get_or cs i (pos 0))
  unfolding size
  size_more i h l = ap size (terms_more keys cs i h l) ∙ sum_snoc ℕ_addition (λ k c. nat_abs c) (terms i keys cs) _

  module _ (radius : ℕ) where
    pub spanned_first : capped radius ≡ capped (size (terms 0 keys cs) + radius)
    unfolding terms size sum_over
    spanned_first = ap capped (omega arith)

    pub spanned_iteration : (total i next : ℕ) → i < length keys → i < length cs
        → capped total ≡ capped (size (terms i keys cs) + radius)
        → next ≡ capped (total + nat_abs (get_or cs i (pos 0)))
        → capped next ≡ capped (size (terms (i + 1) keys cs) + radius)
    spanned_iteration total i next h l e n =
        ap capped n ∙ capped_more total _ _ e ∙ ap capped (omega (arith, size_more i h l))

    pub spanned_end : (total i count : ℕ) → i ≡ count → capped total ≡ capped (size (terms i keys cs) + radius)
        → leb total span_limit ≡ leb (size (terms count keys cs) + radius) span_limit
    spanned_end total i count h e =
        sym (capped_within total) ∙ ap (λ s. leb s span_limit) e ∙ capped_within _
        ∙ ap (λ j. leb (size (terms j keys cs) + radius) span_limit) h

-- ---- the span of the struct that holds them
size_narrowed : (n : ℕ) (p : Terms) → size (map (view_term n) (map narrowed_term p)) ≡ size p
unfolding size sum_over view_term narrowed_term
size_narrowed n [] = refl
size_narrowed n (t ∷ p) = ap (λ s. nat_abs t.coefficient + s) (size_narrowed n p)

span_packed : (n e : ℕ) (p : Terms) → span (view (packed n e p)) ≡ size p + e
unfolding span view packed
span_packed n e p =
    ap (λ q. size (map (view_term n) q) + e)
    (ap (places (length p)) (paired_of (pad (map narrowed_term p)))
    ∙ ap (λ c. places c (pad (map narrowed_term p))) (sym (length-map p narrowed_term))
    ∙ first_padded zero_term most_terms (map narrowed_term p))
    ∙ ap (λ s. s + e) (size_narrowed n p)

-- ---- what each way out answers
module _ {n a e1 b e2 : ℕ} {r : Gathered} {keys : List ℕ} {cs : List ℤ} (w : Product n a e1 b e2 r keys cs) where
  -- the product
  abbrev o : R.Answer C.Model
  o = multiply w.order w.first w.second

  abbrev shares : C.Model → S.Shares
  shares m = product_shares w.order w.first w.second

  -- an answer with the shares that belong to its verdict
  kept_by : (k : Kept) (old : ℕ) → old ≡ a * e2 + b * e1 + e1 * e2
      → record { model = kept_model n k keys cs; verdict = k.verdict } ≡ answer (at_place 0 o)
      → k.shares ≡ unless_refused k.verdict (stored_shares (error_shares old r.rounding r.swept))
      → kept_accounted n k keys cs ≡ accounted o shares
  unfolding kept_accounted
  kept_by k old ro h s = product_accounted w old ro h refl s

  -- a refusal
  refused_by : (q : Refusal) → answer (stopped (cause q) 0) ≡ answer (at_place 0 o)
      → kept_accounted n (kept_refused q) keys cs ≡ accounted o shares
  unfolding kept_refused kept_model model_unless unless_refused answer
  refused_by q h =
      kept_by (kept_refused q) (a * e2 + b * e1 + e1 * e2) refl
      (ap (λ v. record { model = pack (zero_model 1); verdict = Err (refused_at v 0) }) (sym (refusal_cause q))
      ∙ h) refl

  pub kept_many : most_terms < r.count → kept_accounted n (kept_refused TooManyTerms) keys cs ≡ accounted o shares
  unfolding cause
  kept_many l = refused_by TooManyTerms (too_many w l)

  module _ (l : r.count ≤ most_terms) (old e : ℕ) (ro : old ≡ a * e2 + b * e1 + e1 * e2)
      (re : e ≡ round_up (old + r.rounding + r.swept)) where
    abbrev struct : Model
    struct = packed n e (terms r.count keys cs)

    same_span : leb (size (terms r.count keys cs) + e) span_limit ≡ leb (span (view struct)) span_limit
    same_span = ap (λ s. leb s span_limit) (sym (span_packed n e (terms r.count keys cs)))

    pub kept_over : leb (size (terms r.count keys cs) + e) span_limit ≡ false
        → kept_accounted n (kept_refused OverSpan) keys cs ≡ accounted o shares
    unfolding cause
    kept_over h = refused_by OverSpan
        (sym (answer_over struct (struct_packed w l old ro e struct re refl) (sym same_span ∙ h))
        ∙ struct_answer w l old ro e struct re refl)

    pub kept_within : (s : Shares) → leb (size (terms r.count keys cs) + e) span_limit ≡ true
        → s ≡ stored_shares (error_shares old r.rounding r.swept)
        → kept_accounted n (record { count = r.count; radius = e; shares = s; verdict = Ok tt }) keys cs
        ≡ accounted o shares
    unfolding kept_model model_unless unless_refused
    kept_within s h hs =
        kept_by (record { count = r.count; radius = e; shares = s; verdict = Ok tt }) old ro
        (sym (answer_within struct (struct_packed w l old ro e struct re refl) (sym same_span ∙ h))
        ∙ struct_answer w l old ro e struct re refl) hs

-- ---- what the arrays of an answer are ready for
told_apart : Verdict → ℕ
told_apart (Ok u) = 0
told_apart (Err r) = 1

pub refused_ready : (q : Refusal) (keys : List ℕ) (cs : List ℤ) → KeptReady (kept_refused q) keys cs
unfolding kept_refused told_apart
refused_ready q keys cs = record { ready = λ h. absurd (omega (arith, ap told_apart h)) }

-- ---- as a struct
-- the terms of an accepted answer are packed
pub answer_accepted : (n : ℕ) (k : Kept) (keys : List ℕ) (coefficients : List ℤ) → k.verdict ≡ Ok tt → {m : Model}
    → m ≡ packed n k.radius (terms k.count keys coefficients)
    → record { model = m; verdict = Ok tt } ≡ (kept_accounted n k keys coefficients).answer
unfolding kept_accounted kept_model model_unless
answer_accepted n k keys coefficients e q = rw (e, q) refl

-- the answer of a refused call
pub answer_refused : (n : ℕ) (k : Kept) (keys : List ℕ) (coefficients : List ℤ) (r : Refusal) (i : ℕ)
    → k.verdict ≡ Err (refused_at r i) → {a : Answer} → a ≡ answer (stopped (cause r) i)
    → a ≡ (kept_accounted n k keys coefficients).answer
unfolding kept_accounted kept_model model_unless answer
answer_refused n k keys coefficients r i e q =
    q ∙ ap (λ x. record { model = pack (zero_model 1); verdict = Err (refused_at x i) }) (refusal_cause r) ∙ rw e refl
