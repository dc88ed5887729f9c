-- Room for the numbers of a write.
use Rattle.std.specs.Prelude.{◌≡◌, true, ◌&&◌, ℕ, ◌≤◌, min, T, leb}
use Rattle.std.proofs.Common.{sym, subst, leb→le}
use Rattle.calculus.specs.Book.{most_models, most_steps}
use Rattle.calculus_laws.specs.TestLaws.{and_right}
use Rattle.c_writes.specs.WriteCalls.{book_fits}

pub fits_numbers : (mc models sc steps numbers : ℕ) → book_fits mc models sc steps numbers ≡ true → 2 ≤ numbers
unfolding book_fits
fits_numbers mc models sc steps numbers h =
    leb→le 2 numbers
    (and_right (leb (min mc most_models) models && leb (min sc most_steps) steps) (leb 2 numbers) (subst T (sym h) tt))
