-- The loop that loads models: what it holds, and one law for its start, an iteration and each way out.
use Rattle.std.specs.Prelude.{◌≡◌, List, [], ◌∷◌, ◌++◌, map, ◌≢◌, ℕ, ◌+◌, ◌*◌, ◌-◌, ◌≤◌, ◌<◌, ℤ, pos, drop, get_or, replicate, Some}
use Rattle.std.proofs.Math.Path.{refl, sym, ap, ap₂}
use Rattle.std.proofs.Common.{◌∙◌, subst, length-set, length-append}
use Rattle.std.proofs.lemmas.List.{map-append, get_or_at}
use Rattle.std.proofs.Math.Decide.{dec_lt, ℕ_discrete}
use native.Mathlib.Omega.{arith}
use Rattle.std.proofs.Math.Nat as NatL
use Rattle.std.proofs.Math.ListN.{length, take, set, length-map, get_or-append}
use Rattle.std.proofs.Math.Seq.{take_all, take-append-le}
use Rattle.calculus.specs.Model.{most_terms, zero_model}
use Rattle.model_types.specs.declared.Term.{Term}
use Rattle.model_types.specs.declared.Model.{Model}
use Rattle.model_types.specs.ModelStruct.{zero_term, pad, listed, view}
use Rattle.model_types.specs.ArrayLaws.{length_padded}
use Rattle.model_types.specs.PairedLaws.{paired_of}
use Rattle.model_slices.specs.HandedModels.{over}
use Rattle.format.specs.Bytes.{byte, u32}
use Rattle.format.specs.HeldBook.{HeldModel, view_model}
use Rattle.format.specs.Format.{read_model}
use Rattle.sheet_book.specs.BookStruct.{stored_term, stored_model}
use Rattle.sheet_read_walk.specs.sheet_walk.Walk.{held_keys, held_coefficients, RecordRead, Walk, walk, models_walked}
use Rattle.sheet_read_walk.specs.sheet_walk.TermWalkLaws.{view_stored, held_struct, count_at}
use Rattle.sheet_read_walk.specs.sheet_walk.ModelWalkLaws.{ModelsSoFar, Ends, models_first, models_iteration}
use Rattle.sheet_read_walk.specs.sheet_walk.ModelWalkLaws.{walk_place}
use Rattle.sheet_read_walk.specs.sheet_walk.ModelWalkLaws.{walk_after, read_passed, sound_few}
use Rattle.sheet_results.specs.Results.{Results, results, Roomy, held_result, spliced, with_result}
use Rattle.sheet_results.specs.ResultsLaws.{spliced_part, length_spliced, result_here, result_other, roomy_still}
use Rattle.sheet_results.specs.ResultsLaws.{roomy_less}
use Rattle.sheet_loading.specs.Loading.{Standing, KeepsRoom, ModelsLoaded}

-- ---- a struct of a model that was read
module _ (h : HeldModel) (few : length h.terms ≤ most_terms) where
  whole : length (listed (stored_model h)) ≡ most_terms
  unfolding stored_model
  whole = ap length (paired_of (pad (map stored_term h.terms)))
      ∙ length_padded zero_term most_terms (map stored_term h.terms)
      (omega (arith, length-map h.terms stored_term))

  pub listed_long : (stored_model h).count ≤ length (listed (stored_model h))
  unfolding stored_model
  listed_long = omega (arith, whole)

  pub few_terms : (stored_model h).count ≤ most_terms
  unfolding stored_model
  few_terms = few

  -- the terms that its count names
  pub keys_taken : take (stored_model h).count (stored_model h).keys ≡ held_keys h.terms
  unfolding over
  keys_taken =
      let u = length-map h.terms (λ t. t.key) in
      let e = ap (λ (x : Model). take x.count x.keys) (sym (held_struct h few)) in
      e ∙ take-append-le (length h.terms) (held_keys h.terms) _ (omega (arith, u))
      ∙ take_all (length h.terms) (held_keys h.terms) (omega (arith, u))

  pub coefficients_taken : take (stored_model h).count (stored_model h).coefficients ≡ held_coefficients h.terms
  unfolding over
  coefficients_taken =
      let u = length-map h.terms (λ t. t.coefficient) in
      let e = ap (λ (x : Model). take x.count x.coefficients) (sym (held_struct h few)) in
      e ∙ take-append-le (length h.terms) (held_coefficients h.terms) _ (omega (arith, u))
      ∙ take_all (length h.terms) (held_coefficients h.terms) (omega (arith, u))

-- ---- before model k: those before it stand at their places
pub record Loading (s : List ℕ) (n d count : ℕ) (m₀ m : Results) (at k : ℕ) : Type 0 where
  pub before : List HeldModel
  pub so_far : ModelsSoFar s n d count before at k
  pub standing : Standing n before m
  pub room : KeepsRoom m₀ m
  pub keys_long : length m.keys ≡ length m₀.keys
  pub coefficients_long : length m.coefficients ≡ length m₀.coefficients
  pub counts_long : length m.counts ≡ length m₀.counts
  pub radii_long : length m.radii ≡ length m₀.radii

pub load_first : (s : List ℕ) (n d count : ℕ) (m : Results) → Loading s n d count m m 0 0
load_first s n d count m = record {
  before = [];
  so_far = models_first s n d count;
  standing = record { each = λ a l. absurd (omega arith) };
  room = λ p r. r;
  keys_long = refl;
  coefficients_long = refl;
  counts_long = refl;
  radii_long = refl;
}

module _ {s : List ℕ} {n d count : ℕ} {m₀ m : Results} {at k : ℕ} (h : Loading s n d count m₀ m at k)
    (r : Roomy count m₀) where
  -- place k begins inside
  module _ (l : k < count) where
    abbrev from : ℕ
    from = most_terms * k

    place_inside : from + most_terms ≤ most_terms * count
    unfolding most_terms
    place_inside = omega arith

    pub keys_inside : from + most_terms ≤ length m.keys
    keys_inside = omega (arith, place_inside, r.keys_long, h.keys_long)

    pub coefficients_inside : from + most_terms ≤ length m.coefficients
    coefficients_inside = omega (arith, place_inside, r.coefficients_long, h.coefficients_long)

    pub count_inside : k < length m.counts
    count_inside = omega (arith, r.counts_long, h.counts_long)

    pub radius_inside : k < length m.radii
    radius_inside = omega (arith, r.radii_long, h.radii_long)

    -- an iteration: model k is read into the slices from its place on, and passes
    module _ {ks₂ : List ℕ} {cs₂ : List ℤ} {taken : ℕ}
        (g : RecordRead n d (drop at s) (take (length m.keys - from) (drop from m.keys)) ks₂
        (take (length m.coefficients - from) (drop from m.coefficients)) cs₂ (Some taken))
        (total radius : ℕ) (e : total ≡ byte (at + 4) s) (q : radius ≡ u32 (drop at s)) where
      abbrev read : HeldModel
      read = read_model n (drop at s)

      few : length read.terms ≤ most_terms
      few = omega (arith, count_at s n at, sound_few n d at s (read_passed n d at s g))

      abbrev after : Results
      after = results (take from m.keys ++ (ks₂ ++ drop (length m.keys - from) (drop from m.keys)))
          (take from m.coefficients
          ++ (cs₂ ++ drop (length m.coefficients - from) (drop from m.coefficients)))
          (set m.counts k total) (set m.radii k radius)

      put : after ≡ with_result (stored_model read) k m
      unfolding with_result
      put =
          let p = read_passed n d at s g in
          let a = spliced_part from (held_keys read.terms) m.keys (omega (arith, keys_inside)) (g.keys_are p)
          ∙ ap (λ x. spliced from x m.keys) (sym (keys_taken read few)) in
          let b = spliced_part from (held_coefficients read.terms) m.coefficients
          (omega (arith, coefficients_inside)) (g.coefficients_are p)
          ∙ ap (λ x. spliced from x m.coefficients) (sym (coefficients_taken read few)) in
          let c : set m.counts k total ≡ set m.counts k (stored_model read).count =
          ap (set m.counts k) counted in
          let d : set m.radii k radius ≡ set m.radii k (stored_model read).radius =
          ap (set m.radii k) weighed in
          λ i. record { keys = a i; coefficients = b i; counts = c i; radii = d i }
        where
          counted : total ≡ (stored_model read).count
          counted = unfold stored_model in (e ∙ sym (count_at s n at))

          weighed : radius ≡ (stored_model read).radius
          weighed = unfold stored_model read_model in q

      abbrev puts : Results
      puts = with_result (stored_model read) k m

      has_room : Roomy count m
      has_room = h.room count r

      is_read : (stored_model read).n ≡ n
      unfolding stored_model read_model
      is_read = refl

      stands : (a : ℕ) → a < length (h.before ++ (read ∷ []))
          → view (held_result n puts a) ≡ get_or (map view_model (h.before ++ (read ∷ []))) a (zero_model n)
      stands a t = elim (ℕ_discrete a k) [
        | yes o ↦ ap (λ j. view (held_result n puts j)) o
            ∙ result_here n (stored_model read) k has_room l (listed_long read few) is_read (few_terms read few)
            ∙ view_stored read
            ∙ sym (ap (λ x. get_or x a (zero_model n)) (map-append view_model h.before (read ∷ []))
            ∙ get_or_at (map view_model h.before) (view_model read) [] (zero_model n) a
            (length-map h.before view_model ∙ h.so_far.number ∙ sym o))
        | no o ↦ ap view (result_other n (stored_model read) k has_room l (few_terms read few) a o)
            ∙ h.standing.each a (before-it a t o)
            ∙ sym (ap (λ x. get_or x a (zero_model n)) (map-append view_model h.before (read ∷ []))
            ∙ get_or-append (map view_model h.before) (view_model read ∷ []) (zero_model n) a
            (omega (arith, before-it a t o, length-map h.before view_model)))
      ]
        where
          before-it : (a : ℕ) → a < length (h.before ++ (read ∷ [])) → (a ≡ k → ⊥) → a < length h.before
          before-it a t o = omega (arith, t, o, length-append h.before (read ∷ []), h.so_far.number)

      keys_kept : length puts.keys ≡ length m.keys
      unfolding with_result
      keys_kept = length_spliced from (take (stored_model read).count (stored_model read).keys) m.keys
          (omega (
            arith,
            keys_inside,
            few,
            ap length (keys_taken read few),
            length-map read.terms (λ t. t.key),
          ))

      coefficients_kept : length puts.coefficients ≡ length m.coefficients
      unfolding with_result
      coefficients_kept =
          length_spliced from (take (stored_model read).count (stored_model read).coefficients) m.coefficients
          (omega (
            arith,
            coefficients_inside,
            few,
            ap length (coefficients_taken read few),
            length-map read.terms (λ t. t.coefficient),
          ))

      keeps : KeepsRoom m₀ puts
      keeps p x = elim (dec_lt k p) [
        | yes i ↦ roomy_still n (stored_model read) k (h.room p x) i (few_terms read few) (listed_long read few)
        | no i ↦ roomy_less (roomy_still n (stored_model read) k has_room l (few_terms read few) (listed_long read few))
            (omega (arith, i))
      ]

      pub load_iteration : Loading s n d count m₀ after (at + taken) (k + 1)
      load_iteration = record {
        before = h.before ++ (read ∷ []);
        so_far = models_iteration s n d count h.before at k h.so_far l taken g.taken_is;
        standing = record { each = λ a t. ap (λ (x : Results). view (held_result n x a)) put ∙ stands a t };
        room = λ p x. subst (Roomy p) (sym put) (keeps p x);
        keys_long = ap (λ (x : Results). length x.keys) put ∙ keys_kept ∙ h.keys_long;
        coefficients_long = ap (λ (x : Results). length x.coefficients) put ∙ coefficients_kept
            ∙ h.coefficients_long;
        counts_long = length-set m.counts k total ∙ h.counts_long;
        radii_long = length-set m.radii k radius ∙ h.radii_long;
      }

  -- what the code answers when it leaves the loop: at the end
  pub load_end : (f : Ends s n d count h.before at k h.so_far)
      → ModelsLoaded n d count s (record { place = k; end = at }) m₀ m
  load_end f = record {
    walked = answer f;
    standing = λ e. subst (λ (w : Walk). Standing n w.passed m) (sym f) h.standing;
    room = λ e. h.room;
  }
    where
      answer : Ends s n d count h.before at k h.so_far
          → record { place = k; end = at } ≡ models_walked n d count s
      answer f = unfold models_walked in ap₂ (λ p e. record { place = p; end = e })
          (walk_place s n d count h.before at k h.so_far f)
          (walk_after s n d count h.before at k h.so_far f)

  -- or at a fault, whatever the slices hold then
  pub load_fault : (f : Ends s n d count h.before at k h.so_far) → k < count → (m₂ : Results)
      → ModelsLoaded n d count s (record { place = k; end = at }) m₀ m₂
  load_fault f l m₂ = record {
    walked = (load_end f).walked;
    standing = λ e. absurd (omega (arith, e, walk_place s n d count h.before at k h.so_far f));
    room = λ e. absurd (omega (arith, e, walk_place s n d count h.before at k h.so_far f));
  }
