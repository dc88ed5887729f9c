-- A model with another radius.
use Rattle.std.specs.Prelude.{ℕ}
use Rattle.calculus.specs.Model as C

-- the radius is e
unfoldable pub with_radius : (e : ℕ) → C.Model → C.Model
with_radius e m = record { vars = m.vars; radius = e; terms = m.terms }
