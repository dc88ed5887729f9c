-- Two tests that pass together are one.
use Rattle.std.specs.Prelude.{◌≡◌, refl, Bool, true, false, T}

pub same_tests : (a b : Bool) → (T a → T b) → (T b → T a) → a ≡ b
same_tests true true f g = refl
same_tests true false f g = absurd (f tt)
same_tests false true f g = absurd (g tt)
same_tests false false f g = refl
