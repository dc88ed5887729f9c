-- The loop over a record's terms: what it holds, and one law for its start, an iteration and its end; and the model
-- that two slices hold of them.
use Rattle.std.specs.Prelude.{◌≡◌, refl, false, ℕ, ◌+◌, ◌*◌, ◌≤◌, ◌<◌, ℤ, pos, get_or, set, take, replicate}
use Rattle.std.proofs.Math.Path.{sym, ap, ap₂}
use Rattle.std.proofs.Common.{◌∙◌, subst, arith, length-set, drop-drop, take_all}
use mathlib.Core.List.{List, [], ◌∷◌, ◌++◌, map, append-nil}
use Rattle.std.proofs.Math.Nat as NatL
use Rattle.std.proofs.Math.ListN.{length, drop, length-map, length-append, get_or-map}
use Rattle.calculus.specs.Model.{most_terms, sound}
use Rattle.model_types.specs.declared.Term.{Term}
use Rattle.model_types.specs.declared.Model.{Model}
use Rattle.model_types.specs.ModelStruct.{of_terms, pad, keys_of, coefficients_of, view}
use Rattle.model_types.specs.PairedLaws.{listed_struct}
use Rattle.model_slices.specs.HandedModels.{terms_of, handed, over}
use Rattle.model_slices.specs.HandedModelsLaws.{stored_more, taken_view, filled_listed}
use Rattle.model.specs.OperationLaws.{many_not}
use Rattle.format.specs.Bytes.{byte, u32}
use Rattle.format.specs.HeldBook.{HeldTerm, HeldModel, view_model}
use Rattle.format.specs.Format.{term_length, read_term, read_terms, read_model, model_length}
use Rattle.format.specs.ReadLoopLaws.{byte_at, read_term_at}
use Rattle.format.proofs.WriteBackLaws.{length_read_terms}
use Rattle.sheet_book.specs.BookStruct.{stored_term, stored_model}
use Rattle.sheet_book.specs.BookStructLaws.{held_stored_model, view_held_model}
use Rattle.sheet_walk.specs.Walk.{held_keys, held_coefficients}

-- a struct stands for the same model as what it stores
pub view_stored : (h : HeldModel) → view (stored_model h) ≡ view_model h
view_stored h = sym (view_held_model (stored_model h)) ∙ ap view_model (held_stored_model h)

-- one more of a length
one_more : (l i : ℕ) → l * (i + 1) ≡ l * i + l
one_more l i = NatL.mul-add l i 1 ∙ ap (λ k. l * i + k) (NatL.mul-one l)

-- one of so many is inside
pub one_inside : (l i c : ℕ) → i < c → l * i + l ≤ l * c
one_inside l i c h = subst (λ x. x ≤ l * c) (one_more l i) (NatL.mul-le-mul_left l (omega arith))

-- ---- the terms from a place on
-- what a place beyond them would hold
abbrev some_term : HeldTerm
some_term = record { key = 0; coefficient = pos 0 }

-- before term i: where it stands, and what two slices hold of the terms before it, over what they held
pub record TermsSoFar (s : List ℕ) (n from count : ℕ) (ks₀ : List ℕ) (cs₀ : List ℤ) (ks : List ℕ) (cs : List ℤ)
    (place i : ℕ) : Type 0 where
  pub within : i ≤ count
  pub placed : place ≡ from + term_length n * i
  pub keys_long : length ks ≡ length ks₀
  pub coefficients_long : length cs ≡ length cs₀
  pub keys_kept : ks ≡ over (take i (held_keys (read_terms n count (drop from s)))) ks₀
  pub coefficients_kept : cs ≡ over (take i (held_coefficients (read_terms n count (drop from s)))) cs₀

module _ (s : List ℕ) (n from count : ℕ) (ks₀ : List ℕ) (cs₀ : List ℤ) where
  abbrev ts : List HeldTerm
  ts = read_terms n count (drop from s)

  pub terms_first : TermsSoFar s n from count ks₀ cs₀ ks₀ cs₀ from 0
  unfolding over
  terms_first = record {
    within = omega arith;
    placed = omega (arith, NatL.mul-zero (term_length n));
    keys_long = refl;
    coefficients_long = refl;
    keys_kept = refl;
    coefficients_kept = refl;
  }

  keys_all : length (held_keys ts) ≡ count
  keys_all = length-map ts (λ t. t.key) ∙ length_read_terms n count (drop from s)

  coefficients_all : length (held_coefficients ts) ≡ count
  coefficients_all = length-map ts (λ t. t.coefficient) ∙ length_read_terms n count (drop from s)

  module _ {ks : List ℕ} {cs : List ℤ} {place i : ℕ} (h : TermsSoFar s n from count ks₀ cs₀ ks cs place i) where
    module _ (l : i < count) (t : Term) (e : t ≡ stored_term (read_term n (drop place s))) where
      in_terms : get_or ts i some_term ≡ read_term n (drop place s)
      in_terms = read_term_at n count i (drop from s) some_term l
          ∙ ap (read_term n) (drop-drop (term_length n * i) from s ∙ ap (λ j. drop j s) (sym h.placed))

      key_in : t.key ≡ get_or (held_keys ts) i 0
      unfolding stored_term
      key_in = ap (λ (t : Term). t.key) e
          ∙ sym (get_or-map (λ (t : HeldTerm). t.key) ts i some_term ∙ ap (λ (t : HeldTerm). t.key) in_terms)

      coefficient_in : t.coefficient ≡ get_or (held_coefficients ts) i (pos 0)
      unfolding stored_term
      coefficient_in = ap (λ (t : Term). t.coefficient) e
          ∙ sym (get_or-map (λ (t : HeldTerm). t.coefficient) ts i some_term
          ∙ ap (λ (t : HeldTerm). t.coefficient) in_terms)

      pub terms_iteration : count ≤ length ks₀ → count ≤ length cs₀ → (z : ℤ) → z ≡ t.coefficient
          → (size : ℕ) → size ≡ term_length n
          → TermsSoFar s n from count ks₀ cs₀ (set ks i t.key) (set cs i z) (place + size) (i + 1)
      terms_iteration a b z c size f = record {
        within = omega arith;
        placed = omega (arith, h.placed, one_more (term_length n) i);
        keys_long = length-set ks i t.key ∙ h.keys_long;
        coefficients_long = length-set cs i z ∙ h.coefficients_long;
        keys_kept = ap₂ (λ r k. set r i k) h.keys_kept key_in
            ∙ stored_more 0 (held_keys ts) ks₀ i (omega (arith, keys_all)) (omega arith);
        coefficients_kept = ap₂ (λ r k. set r i k) h.coefficients_kept (c ∙ coefficient_in)
            ∙ stored_more (pos 0) (held_coefficients ts) cs₀ i (omega (arith, coefficients_all)) (omega arith);
      }

    -- the slices hold them all
    pub terms_end : count ≤ i → (ks ≡ over (held_keys ts) ks₀) × (cs ≡ over (held_coefficients ts) cs₀)
    terms_end l = (
      h.keys_kept ∙ ap (λ r. over r ks₀) (take_all i (held_keys ts) (omega (arith, keys_all))),
      h.coefficients_kept
          ∙ ap (λ r. over r cs₀) (take_all i (held_coefficients ts) (omega (arith, coefficients_all))),
    )

-- ---- a model by its terms in two slices
terms_held : (ts : List HeldTerm) (ks : List ℕ) (cs : List ℤ)
    → terms_of (length ts) (held_keys ts ++ ks) (held_coefficients ts ++ cs) ≡ map stored_term ts
unfolding terms_of stored_term
terms_held [] ks cs = refl
terms_held (t ∷ ts) ks cs =
    ap (λ (r : List Term). record { key = t.key; coefficient = t.coefficient } ∷ r) (terms_held ts ks cs)

module _ (h : HeldModel) (few : length h.terms ≤ most_terms) where
  -- what stands after them does not matter
  pub held_view : (ks : List ℕ) (cs : List ℤ)
      → view (handed h.n (length h.terms) h.radius (over (held_keys h.terms) ks)
      (over (held_coefficients h.terms) cs)) ≡ view_model h
  unfolding over stored_model
  held_view ks cs =
      let a = held_keys h.terms ++ drop (length (held_keys h.terms)) ks in
      let b = held_coefficients h.terms ++ drop (length (held_coefficients h.terms)) cs in
      let x = length-append (held_keys h.terms) (drop (length (held_keys h.terms)) ks) in
      let y = length-append (held_coefficients h.terms) (drop (length (held_coefficients h.terms)) cs) in
      let u = length-map h.terms (λ t. t.key) in
      let v = length-map h.terms (λ t. t.coefficient) in
      sym (taken_view h.n (length h.terms) h.radius (length h.terms) a b (omega (arith, few, x, y, u, v)))
      ∙ ap (λ (l : List Term). view (of_terms h.n (length h.terms) h.radius (pad l)))
      (terms_held h.terms _ _)
      ∙ view_stored h

  -- and with zeros after them the two are the arrays of its struct
  pub held_struct : record {
    n = h.n;
    count = length h.terms;
    radius = h.radius;
    keys = over (held_keys h.terms) (replicate most_terms 0);
    coefficients = over (held_coefficients h.terms) (replicate most_terms (pos 0));
  } ≡ stored_model h
  unfolding stored_model
  held_struct =
      let u = length-map h.terms (λ t. t.key) in
      let v = length-map h.terms (λ t. t.coefficient) in
      let c = length h.terms in
      let f = filled_listed c (held_keys h.terms) (held_coefficients h.terms) (omega (arith, u))
      (omega (arith, v)) in
      listed_struct {l = pad (map stored_term h.terms)} (record {
        keys_are = ap (λ k. over k (replicate most_terms 0))
            (sym (take_all c (held_keys h.terms) (omega (arith, u))))
            ∙ f.keys_are ∙ ap (λ (l : List Term). keys_of (pad l)) all;
        coefficients_are = ap (λ k. over k (replicate most_terms (pos 0)))
            (sym (take_all c (held_coefficients h.terms) (omega (arith, v))))
            ∙ f.coefficients_are ∙ ap (λ (l : List Term). coefficients_of (pad l)) all;
      }) h.n c h.radius
    where
      all : terms_of (length h.terms) (held_keys h.terms) (held_coefficients h.terms)
          ≡ map stored_term h.terms
      all = ap₂ (terms_of (length h.terms)) (sym (append-nil (held_keys h.terms)))
          (sym (append-nil (held_coefficients h.terms))) ∙ terms_held h.terms [] []

-- ---- the record at a place
module _ (s : List ℕ) (n at : ℕ) where
  abbrev m : HeldModel
  m = read_model n (drop at s)

  -- its length
  pub length_at : model_length n (drop at s) ≡ 5 + term_length n * byte (at + 4) s
  unfolding model_length
  length_at = ap (λ c. 5 + term_length n * c) (byte_at at 4 s)

  -- how many terms it has
  pub count_at : length m.terms ≡ byte (at + 4) s
  unfolding read_model
  count_at = length_read_terms n (byte 4 (drop at s)) (drop 5 (drop at s)) ∙ byte_at at 4 s

  -- and these
  pub terms_here : (total : ℕ) → total ≡ byte (at + 4) s → read_terms n total (drop (at + 5) s) ≡ m.terms
  unfolding read_model
  terms_here total e = ap₂ (read_terms n) (e ∙ sym (byte_at at 4 s)) (sym (drop-drop 5 at s))

  pub many_terms : (d : ℕ) → most_terms < byte (at + 4) s → sound d (view_model m) ≡ false
  unfolding stored_model
  many_terms d h = ap (sound d) (sym (view_stored m)) ∙ many_not d (stored_model m) (omega (arith, count_at))

  module _ (total radius : ℕ) (e : total ≡ byte (at + 4) s) (r : radius ≡ u32 (drop at s)) where
    -- the model that slices hold once its terms are read
    pub read_view : byte (at + 4) s ≤ most_terms → (ks : List ℕ) (cs : List ℤ)
        → view (handed n total radius (over (held_keys (read_terms n total (drop (at + 5) s))) ks)
        (over (held_coefficients (read_terms n total (drop (at + 5) s))) cs)) ≡ view_model m
    unfolding read_model
    read_view few ks cs =
        ap (λ (l : List HeldTerm).
        view (handed n total radius (over (held_keys l) ks) (over (held_coefficients l) cs)))
        (terms_here total e)
        ∙ ap₂ (λ (c z : ℕ). view (handed n c z (over (held_keys m.terms) ks)
        (over (held_coefficients m.terms) cs))) (e ∙ sym count_at) r
        ∙ held_view m (omega (arith, few, count_at)) ks cs

    -- and with zeros after them the struct of it
    pub read_struct : byte (at + 4) s ≤ most_terms → record {
      n = n;
      count = total;
      radius = radius;
      keys = over (held_keys m.terms) (replicate most_terms 0);
      coefficients = over (held_coefficients m.terms) (replicate most_terms (pos 0));
    } ≡ stored_model m
    unfolding read_model
    read_struct few =
        ap₂ (λ (c z : ℕ). record {
          n = n;
          count = c;
          radius = z;
          keys = over (held_keys m.terms) (replicate most_terms 0);
          coefficients = over (held_coefficients m.terms) (replicate most_terms (pos 0));
        }) (e ∙ sym count_at) r
        ∙ held_struct m (omega (arith, few, count_at))
