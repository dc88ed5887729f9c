-- `copied` copies as many keys and coefficients as the count says.
use mathlib.Core.Path.{◌≡◌, refl, ap}
use mathlib.Core.List.{List, [], ◌∷◌, ◌++◌}
use Prim.Native.Nat.{ℕ, zero, suc, ◌≤◌}
use native.Mathlib.Omega.{arith}
use lib.IntN.{ℤ}
use lib.ListN.{length, take}
use Rattle.model_types.specs.declared.Term.{Term}
use Rattle.model_slices.specs.HandedModels.{terms_of, over}
use Rattle.model_slices.specs.HeldModelsLaws.{held_same}
use Rattle.model_horner.proofs.copied.Goals as goal

-- the terms of two slices, of which the first places are looked at
terms_first : (n : ℕ) (ks rest : List ℕ) (cs others : List ℤ) → n ≤ length ks → n ≤ length cs
    → terms_of n (take n ks ++ rest) (take n cs ++ others) ≡ terms_of n ks cs
unfolding terms_of
terms_first zero ks rest cs others h l = refl
terms_first (suc n) [] rest cs others h l = absurd (omega arith)
terms_first (suc n) (k ∷ ks) rest [] others h l = absurd (omega arith)
terms_first (suc n) (k ∷ ks) rest (c ∷ cs) others h l =
    ap (λ (r : List Term). record { key = k; coefficient = c } ∷ r)
    (terms_first n ks rest cs others (omega arith) (omega arith))

pub copy_keys-requires : goal.copy_keys-requires
copy_keys-requires c =
    let r = c.requires.count_le_model_places in
    (omega (arith, r.0, r.1.keys), omega (arith, r.0, c.requires.room.keys))

pub copy_coefficients-requires : goal.copy_coefficients-requires
copy_coefficients-requires c =
    let r = c.requires.count_le_model_places in
    (omega (arith, r.0, r.1.coefficients), omega (arith, r.0, c.requires.room.coefficients))

pub returns : goal.returns
unfolding over
returns c =
    let r = c.requires.count_le_model_places in
    λ n radius. held_same n _ radius _ _ _ _
    (rw (c.copy_keys.ensures, c.copy_coefficients.ensures)
    (terms_first c.args.count c.args.keys.now _ c.args.coefficients.now _
    (omega (arith, r.0, r.1.keys)) (omega (arith, r.0, r.1.coefficients))))
