-- Laws of arrays with a count: what is looked at and what is stored after it.
use Rattle.std.specs.Prelude.{◌≡◌, take, get_or, set, replicate}
use Rattle.std.proofs.Math.Path.{refl, ap}
use Rattle.std.proofs.Common.{◌∙◌, add-one, take-suc}
use mathlib.Core.List.{List, [], ◌∷◌, ◌++◌, append_assoc}
use Prim.Native.Nat.{ℕ, zero, suc, ◌+◌, ◌-◌, ◌≤◌, ◌<◌}
use native.Mathlib.Omega.{arith}
use Rattle.std.proofs.Math.ListN.{length, length-append}
use Rattle.std.proofs.lemmas.List.{length-replicate}
use Rattle.std.proofs.Math.Seq.{set_at, take_at}
use Rattle.model_types.specs.Arrays.{first_places, padded}

-- one more element, at the code's i + 1
pub take_more : {A : Type 0} (l : List A) (i : ℕ) (d : A) → i < length l
    → take (i + 1) l ≡ take i l ++ (get_or l i d ∷ [])
take_more l i d h = rw (add-one, take-suc l i d)

module _ {A : Type 0} (zeros : A) where
  -- ---- the first places
  pub first_take : (c : ℕ) (l : List A) → c ≤ length l → first_places zeros c l ≡ take c l
  unfolding first_places
  first_take zero l h = refl
  first_take (suc c) [] h = absurd (omega arith)
  first_take (suc c) (x ∷ l) h = ap (λ k. x ∷ k) (first_take c l (omega arith))

  pub length_first : (c : ℕ) (l : List A) → length (first_places zeros c l) ≡ c
  unfolding first_places
  length_first zero l = refl
  length_first (suc c) [] = ap suc (length_first c [])
  length_first (suc c) (x ∷ l) = ap suc (length_first c l)

  -- ---- zeros after the entries
  -- zeros, one of them taken off
  one_off : (n : ℕ) → 0 < n → replicate n zeros ≡ zeros ∷ replicate (n - 1) zeros
  one_off zero h = absurd (omega arith)
  one_off (suc n) h = let e : suc n - 1 ≡ n = omega arith in rw e

  -- a zero stored among zeros
  pub set_zeros : (n i : ℕ) → set (replicate n zeros) i zeros ≡ replicate n zeros
  set_zeros zero i = refl
  set_zeros (suc n) zero = refl
  set_zeros (suc n) (suc i) = ap (λ l. zeros ∷ l) (set_zeros n i)

  module _ (size : ℕ) where
    -- a store after what is there
    pub padded_more : (l : List A) (i : ℕ) (x : A) → length l ≡ i → i < size
        → set (padded zeros size l) i x ≡ padded zeros size (l ++ (x ∷ []))
    unfolding padded
    padded_more l i x e h =
        let k = length-append l (x ∷ []) in
        let n : size - length l - 1 ≡ size - length (l ++ (x ∷ [])) = omega arith in
        rw (one_off (size - length l) (omega arith), n, set_at l zeros _ x i e, append_assoc)

    pub length_padded : (l : List A) → length l ≤ size → length (padded zeros size l) ≡ size
    unfolding padded
    length_padded l h = simp (length-append, length-replicate) (omega arith)

    pub length_padded_least : (l : List A) → length l ≤ length (padded zeros size l)
    unfolding padded
    length_padded_least l = omega (arith, length-append l (replicate (size - length l) zeros))

    pub take_padded : (l : List A) (i : ℕ) → length l ≡ i → take i (padded zeros size l) ≡ l
    unfolding padded
    take_padded l i e = take_at l _ i e

    -- the places in use of what was padded
    pub first_padded : (l : List A) → first_places zeros (length l) (padded zeros size l) ≡ l
    first_padded l = first_take (length l) (padded zeros size l) (length_padded_least l)
        ∙ take_padded l (length l) refl
