-- Laws of the terms that two arrays hold, one of keys and one of coefficients: what stands at a place, and what a store
-- at a place of both leaves.
use Rattle.std.specs.Prelude.{◌≡◌, refl, List, [], ◌∷◌, map, ℕ, zero, suc, ◌^◌, ◌<◌, ℤ, pos, length, get_or, set}
use Rattle.std.proofs.Common.{sym, ◌∙◌, ap, ap₂, arith}
use Rattle.std.proofs.lemmas.List.{length-map}
use mir.Val.{Val}
use denote.Array.{each}
use denote.Shadow.{shadow}
use denote.Struct.Field.{u32-field}
use Rattle.model_types.specs.declared.Term.{Term}
use Rattle.model_types.specs.declared.Model.{Model}
use Rattle.model_types.specs.ModelStruct.{zero_term, paired, keys_of, coefficients_of, of_terms}

-- ---- arrays of one length
pub length_paired : (ks : List ℕ) (cs : List ℤ) → length ks ≡ length cs → length (paired ks cs) ≡ length ks
unfolding paired
length_paired [] cs e = refl
length_paired (k ∷ ks) [] e = absurd (omega arith)
length_paired (k ∷ ks) (c ∷ cs) e = ap suc (length_paired ks cs (omega arith))

-- the term at a place
pub paired_at : (ks : List ℕ) (cs : List ℤ) (i : ℕ) → length ks ≡ length cs
    → get_or (paired ks cs) i zero_term ≡ record { key = get_or ks i 0; coefficient = get_or cs i (pos 0) }
unfolding paired
paired_at [] [] i e = refl
paired_at [] (c ∷ cs) i e = absurd (omega arith)
paired_at (k ∷ ks) [] i e = absurd (omega arith)
paired_at (k ∷ ks) (c ∷ cs) zero e = refl
paired_at (k ∷ ks) (c ∷ cs) (suc i) e = paired_at ks cs i (omega arith)

-- its key
pub key_at : (ks : List ℕ) (cs : List ℤ) (i : ℕ) → length ks ≡ length cs
    → (get_or (paired ks cs) i zero_term).key ≡ get_or ks i 0
key_at ks cs i e = ap (λ (t : Term). t.key) (paired_at ks cs i e)

-- and its coefficient
pub coefficient_at : (ks : List ℕ) (cs : List ℤ) (i : ℕ) → length ks ≡ length cs
    → (get_or (paired ks cs) i zero_term).coefficient ≡ get_or cs i (pos 0)
coefficient_at ks cs i e = ap (λ (t : Term). t.coefficient) (paired_at ks cs i e)

-- a store at a place of both
pub paired_set : (ks : List ℕ) (cs : List ℤ) (i k : ℕ) (c : ℤ) → length ks ≡ length cs
    → paired (set ks i k) (set cs i c) ≡ set (paired ks cs) i (record { key = k; coefficient = c })
unfolding paired
paired_set [] [] i k c e = refl
paired_set [] (d ∷ cs) i k c e = absurd (omega arith)
paired_set (j ∷ ks) [] i k c e = absurd (omega arith)
paired_set (j ∷ ks) (d ∷ cs) zero k c e = refl
paired_set (j ∷ ks) (d ∷ cs) (suc i) k c e =
    ap (λ (l : List Term). record { key = j; coefficient = d } ∷ l) (paired_set ks cs i k c (omega arith))

-- ---- arrays of a list
pub paired_of : (l : List Term) → paired (keys_of l) (coefficients_of l) ≡ l
unfolding paired
paired_of [] = refl
paired_of (t ∷ l) = ap (λ (r : List Term). t ∷ r) (paired_of l)

keys_paired : (ks : List ℕ) (cs : List ℤ) → length ks ≡ length cs → keys_of (paired ks cs) ≡ ks
unfolding paired
keys_paired [] cs e = refl
keys_paired (k ∷ ks) [] e = absurd (omega arith)
keys_paired (k ∷ ks) (c ∷ cs) e = ap (λ (r : List ℕ). k ∷ r) (keys_paired ks cs (omega arith))

coefficients_paired : (ks : List ℕ) (cs : List ℤ) → length ks ≡ length cs → coefficients_of (paired ks cs) ≡ cs
unfolding paired
coefficients_paired [] [] e = refl
coefficients_paired [] (c ∷ cs) e = absurd (omega arith)
coefficients_paired (k ∷ ks) [] e = absurd (omega arith)
coefficients_paired (k ∷ ks) (c ∷ cs) e = ap (λ (r : List ℤ). c ∷ r) (coefficients_paired ks cs (omega arith))

set_map : {A : Type 0} (f : Term → A) (l : List Term) (i : ℕ) (t : Term)
    → map f (set l i t) ≡ set (map f l) i (f t)
set_map f [] i t = refl
set_map f (x ∷ l) zero t = refl
set_map f (x ∷ l) (suc i) t = ap (λ r. f x ∷ r) (set_map f l i t)

-- two arrays hold the terms of a list
pub record Listed (ks : List ℕ) (cs : List ℤ) (l : List Term) : Type 0 where
  pub keys_are : ks ≡ keys_of l
  pub coefficients_are : cs ≡ coefficients_of l

module _ {ks : List ℕ} {cs : List ℤ} {l : List Term} (h : Listed ks cs l) where
  -- as a list, which they determine
  pub listed_is : paired ks cs ≡ l
  listed_is = ap₂ paired h.keys_are h.coefficients_are ∙ paired_of l

  -- one length
  pub listed_even : length ks ≡ length cs
  listed_even = ap length h.keys_are ∙ length-map l (λ t. t.key)
      ∙ sym (ap length h.coefficients_are ∙ length-map l (λ t. t.coefficient))

  -- of another list that is the same
  pub listed_same : {r : List Term} → l ≡ r → Listed ks cs r
  listed_same e =
      record { keys_are = h.keys_are ∙ ap keys_of e; coefficients_are = h.coefficients_are ∙ ap coefficients_of e }

  -- a store at a place of both
  pub listed_set : (i k : ℕ) (c : ℤ) → Listed (set ks i k) (set cs i c) (set l i (record { key = k; coefficient = c }))
  listed_set i k c = record {
    keys_are = ap (λ r. set r i k) h.keys_are ∙ sym (set_map (λ t. t.key) l i _);
    coefficients_are = ap (λ r. set r i c) h.coefficients_are ∙ sym (set_map (λ t. t.coefficient) l i _);
  }

  -- one that leads to another list
  pub listed_next : (i k : ℕ) (c : ℤ) {r : List Term} → set l i (record { key = k; coefficient = c }) ≡ r
      → Listed (set ks i k) (set cs i c) r
  listed_next i k c e = record {
    keys_are = (listed_set i k c).keys_are ∙ ap keys_of e;
    coefficients_are = (listed_set i k c).coefficients_are ∙ ap coefficients_of e;
  }

  -- the struct of both
  pub listed_struct : (n count radius : ℕ)
      → record { n = n; count = count; radius = radius; keys = ks; coefficients = cs } ≡ of_terms n count radius l
  listed_struct n count radius = ap₂ (λ (k : List ℕ) (c : List ℤ). record {
    n = n;
    count = count;
    radius = radius;
    keys = k;
    coefficients = c;
  })
      h.keys_are h.coefficients_are

-- arrays that hold their own terms: a store of a term at a place of both
pub listed_put : {ks : List ℕ} {cs : List ℤ} → Listed ks cs (paired ks cs) → (i : ℕ) (t : Term) {k : ℕ} {c : ℤ}
    → k ≡ t.key → c ≡ t.coefficient
    → Listed (set ks i k) (set cs i c) (paired (set ks i k) (set cs i c))
    × (paired (set ks i k) (set cs i c) ≡ set (paired ks cs) i t)
listed_put {ks = ks} {cs = cs} h i t {k = k} {c = c} a b =
    let s = listed_set h i k c in (
      listed_same s (sym (listed_is s)),
      listed_is s ∙ ap₂ (λ (y : ℕ) (z : ℤ). set (paired ks cs) i (record { key = y; coefficient = z })) a b,
    )

-- arrays of one length hold their own terms
pub listed_own : (ks : List ℕ) (cs : List ℤ) → length ks ≡ length cs → Listed ks cs (paired ks cs)
listed_own ks cs e =
    record { keys_are = sym (keys_paired ks cs e); coefficients_are = sym (coefficients_paired ks cs e) }

-- ---- words
-- the keys that a struct's array holds are words
pub words_below : (ks : List ℕ) (us : List Val) → shadow (each ℕ u32-field.row.own_val (map (λ v. v) ks) us) → (i : ℕ)
    → get_or ks i 0 < 2 ^ 32
words_below [] us s i = omega arith
words_below (k ∷ ks) [] s i = absurd s
words_below (k ∷ ks) (u ∷ us) s zero = s.0.1
words_below (k ∷ ks) (u ∷ us) s (suc i) = words_below ks us s.1 i
