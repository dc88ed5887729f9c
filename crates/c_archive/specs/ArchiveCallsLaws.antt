-- What a call that fits has room for.
use Rattle.std.specs.Prelude.{◌≡◌, true, ℕ, ◌≤◌, T, leb}
use Rattle.std.proofs.Common.{sym, subst, leb→le}
use Rattle.calculus_laws.specs.TestLaws.{and_right}
use Rattle.model_slices.specs.HandedModels.{borrowed}
use Rattle.c_archive.specs.ArchiveCalls.{store_fits}

pub fits_numbers : (c k z n : ℕ) → store_fits c k z n ≡ true → 2 ≤ n
unfolding store_fits
fits_numbers c k z n h = leb→le 2 n (and_right (borrowed c k z) (leb 2 n) (subst T (sym h) tt))
