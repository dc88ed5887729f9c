-- What a call that fits has room for, and one store.
use Rattle.std.specs.Prelude.{◌≡◌, refl, true, ◌&&◌, List, [], ◌∷◌, ℕ, ◌≤◌, T, leb, length, set}
use Rattle.std.proofs.Common.{sym, subst, arith, leb→le}
use Rattle.calculus_laws.specs.TestLaws.{and_left, and_right}
use Rattle.model_slices.specs.HandedModels.{borrowed, over}
use Rattle.c_cuts.specs.CutCalls.{cut_fits}

pub fits_cut : (c k z e n : ℕ) → cut_fits c k z e n ≡ true → (2 ≤ e) × (1 ≤ n)
unfolding cut_fits
fits_cut c k z e n h =
    let t = subst T (sym h) tt in (
      leb→le 2 e (and_right (borrowed c k z) (leb 2 e) (and_left (borrowed c k z && leb 2 e) (leb 1 n) t)),
      leb→le 1 n (and_right (borrowed c k z && leb 2 e) (leb 1 n) t),
    )

pub over_one : {A : Type 0} (l : List A) (a : A) → 1 ≤ length l → set l 0 a ≡ over (a ∷ []) l
unfolding over
over_one [] a h = absurd (omega arith)
over_one (x ∷ l) a h = refl
