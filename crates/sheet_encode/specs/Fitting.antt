-- What a model's record has room for.
use Rattle.std.specs.Prelude.{ℕ, ◌^◌, ◌<◌, ◌≤◌, nat_abs, length, get_or}
use Rattle.calculus.specs.Model.{most_terms}
use Rattle.format.specs.HeldBook.{HeldTerm, HeldModel}

-- the count fits a byte, the radius and each coefficient four
pub record ModelFits (m : HeldModel) : Type 0 where
  pub count : length m.terms ≤ most_terms
  pub radius : m.radius < 2 ^ 32
  pub coefficients : (i : ℕ) (x : HeldTerm) → i < length m.terms
      → nat_abs (get_or m.terms i x).coefficient < 2 ^ 31
