-- The places of a model in slices: one iteration of each loop that stores, and all of them.
use Rattle.std.specs.Prelude.{◌≡◌, ℤ, pos, set}
use Rattle.std.proofs.Math.Path.{refl, ap}
use Rattle.std.proofs.Common.{sym, ◌∙◌, take-append-drop}
use mathlib.Core.List.{List, [], ◌∷◌, ◌++◌, map, append_assoc, append-nil}
use Prim.Native.Nat.{ℕ, zero, suc, ◌+◌, ◌-◌, ◌≤◌, ◌<◌}
use native.Mathlib.Omega.{arith}
use Rattle.std.proofs.Math.ListN.{length, take, drop, replicate, length-append, length-replicate}
use Rattle.std.proofs.Math.Seq.{length-take-le, take_at, drop-append-add, drop-drop}
use Rattle.calculus.specs.Model.{most_terms, zero_model}
use Rattle.model_types.specs.declared.Term.{Term}
use Rattle.model_types.specs.ModelStruct.{Verdict}
use Rattle.std.specs.Prelude.{Ok, Err}
use Rattle.model_types.specs.ModelStruct.{refused_at}
use Rattle.model_types.specs.Arrays.{padded}
use Rattle.model_types.specs.ModelStruct.{zero_term, pad, pack}
use Rattle.model_types.specs.PairedLaws.{Listed}
use Rattle.model_slices.specs.HandedModels.{over, stored_keys, stored_coefficients}
use Rattle.model_slices.specs.HandedModelsLaws.{over_more}
use Rattle.product_sums.specs.TermArrays.{terms}
use Rattle.model_slices.specs.declared.Kept.{Kept}
use Rattle.product_answer.specs.KeptProduct.{model_unless, kept_model, kept_count, KeptReady}
use Rattle.product_answer.specs.PackedTerms.{narrowed_term, PackReady, narrow_keys, narrow_coefficients, packed}
use Rattle.product_answer.specs.PackedTermsLaws.{images, images_long, map_padded}
use Rattle.product_slices.specs.KeptPlaces.{zeroed}

-- ---- zeros: one more is stored
module _ {A : Type 0} (z : A) where
  one_more : (n : ℕ) → replicate n z ++ (z ∷ []) ≡ replicate (suc n) z
  one_more zero = refl
  one_more (suc n) = ap (λ l. z ∷ l) (one_more n)

  module _ (from : ℕ) (k : List A) (h : from ≤ length k) where
    pub zeroed_none : k ≡ zeroed z from from k
    unfolding zeroed over
    zeroed_none =
        let none : from - from ≡ 0 = omega arith in
        rw (none, append-nil, length-take-le from k h, take-append-drop)

    pub zeroed_more : (i : ℕ) → from ≤ i → i < length k → set (zeroed z from i k) i z ≡ zeroed z from (i + 1) k
    unfolding zeroed
    zeroed_more i l m =
        let n : suc (i - from) ≡ i + 1 - from = omega arith in
        over_more z (take from k ++ replicate (i - from) z) k i z
        (length-append (take from k) (replicate (i - from) z)
        ∙ omega (arith, length-take-le from k h, length-replicate (i - from) z)) m
        ∙ ap (λ r. over r k)
        (append_assoc (take from k) (replicate (i - from) z) (z ∷ [])
        ∙ ap (λ r. take from k ++ r) (one_more (i - from) ∙ ap (λ j. replicate j z) n))

  -- zeros after what was stored
  pub zeroed_after : (from before : ℕ) (l k : List A) → length l ≡ from → from ≤ before
      → zeroed z from before (over l k) ≡ over (padded z before l) k
  unfolding zeroed over padded
  zeroed_after from before l k e h =
      let m = l ++ replicate (before - from) z in
      let long : length m ≡ before = length-append l (replicate (before - from) z)
      ∙ omega (arith, length-replicate (before - from) z) in
      let sum : from + (before - from) ≡ before = omega arith in
      let rest : drop before (l ++ drop from k) ≡ drop before k =
      ap (λ j. drop j (l ++ drop from k)) (sym sum ∙ ap (λ j. j + (before - from)) (sym e))
      ∙ drop-append-add l (drop from k) (before - from)
      ∙ drop-drop (before - from) from k ∙ ap (λ j. drop j k) sum in
      rw (e, take_at l (drop from k) from e, long, rest)

-- ---- all places of an answer's model
places_are : (v : Verdict) (n e count : ℕ) (kept : List ℕ) (cs : List ℤ)
    → let m = model_unless v (packed n e (terms count kept cs)) in
    Listed m.keys m.coefficients (pad (map narrowed_term (terms (kept_count v count) kept cs)))
unfolding model_unless kept_count packed pack zero_model terms
places_are (Ok u) n e count kept cs = record { keys_are = refl; coefficients_are = refl }
places_are (Err r) n e count kept cs = record { keys_are = refl; coefficients_are = refl }

module _ (k : Kept) (kept : List ℕ) (cs : List ℤ) (w : KeptReady k kept cs) where
  -- how many terms are stored
  abbrev stored : ℕ
  stored = kept_count k.verdict k.count

  pub stored_ready : PackReady stored kept cs
  stored_ready = go k.verdict w.ready
    where
      go : (v : Verdict) → (v ≡ Ok tt → PackReady k.count kept cs)
          → PackReady (kept_count v k.count) kept cs
      go (Ok u) h = unfold kept_count in h refl
      go (Err r) h = unfold kept_count in record {
        few = omega arith;
        keys_long = omega arith;
        coefficients_long = omega arith;
        small = λ i l. absurd (omega arith);
      }

  module _ {A : Type 0} (f : Term → A) (to : List A) where
    all_stored : zeroed (f zero_term) stored most_terms (over (images kept cs f stored) to)
        ≡ over (map f (pad (map narrowed_term (terms stored kept cs)))) to
    unfolding images
    all_stored =
        zeroed_after (f zero_term) stored most_terms (images kept cs f stored) to
        (images_long kept cs f stored stored_ready.keys_long stored_ready.coefficients_long) stored_ready.few
        ∙ ap (λ l. over l to) (sym (map_padded f most_terms (map narrowed_term (terms stored kept cs))))

  pub keys_stored : (n : ℕ) (to : List ℕ)
      → zeroed 0 stored most_terms (over (narrow_keys (terms stored kept cs)) to)
      ≡ stored_keys (kept_model n k kept cs) to
  unfolding narrow_keys images stored_keys kept_model
  keys_stored n to = all_stored (λ t. t.key) to
      ∙ ap (λ l. over l to) (sym (places_are k.verdict n k.radius k.count kept cs).keys_are)

  pub coefficients_stored : (n : ℕ) (to : List ℤ)
      → zeroed (pos 0) stored most_terms (over (narrow_coefficients (terms stored kept cs)) to)
      ≡ stored_coefficients (kept_model n k kept cs) to
  unfolding narrow_coefficients images stored_coefficients kept_model
  coefficients_stored n to = all_stored (λ t. t.coefficient) to
      ∙ ap (λ l. over l to) (sym (places_are k.verdict n k.radius k.count kept cs).coefficients_are)
