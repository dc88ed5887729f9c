-- The tests of the numbers that calls and steps are given.
use Rattle.std.specs.Prelude.{Bool, true, not, ◌&&◌, List, [], ◌∷◌, ℕ, leb, ℤ, nat_abs}
use Rattle.std.specs.Int.Signed.{non_neg}
use Rattle.numbers.specs.Fixed.{U, span_limit}
use Rattle.calculus.specs.Terms.{is_nonzero}
use Rattle.calculus.specs.Model.{most_vars, most_degree, between}

-- n is 1 to 8
unfoldable pub vars_sound : ℕ → Bool
vars_sound = between 1 most_vars

-- d is 1 to 15
unfoldable pub order_sound : ℕ → Bool
order_sound = between 1 most_degree

-- a constant is -2^30 to 2^30
unfoldable pub constant_sound : ℤ → Bool
constant_sound v = leb (nat_abs v) span_limit

-- a variable is 1 to n
unfoldable pub variable_sound : (n : ℕ) → ℕ → Bool
variable_sound n = between 1 n

-- a threshold is 0 to 2^30
unfoldable pub threshold_sound : ℤ → Bool
threshold_sound t = non_neg t && leb (nat_abs t) span_limit

-- each coordinate is 0: asked of those above n
unfoldable pub all_zero : List ℤ → Bool
all_zero [] = true
all_zero (X ∷ Xs) = not (is_nonzero X) && all_zero Xs

-- each coordinate is -U to U: asked of the first n
unfoldable pub all_in_unit : List ℤ → Bool
all_in_unit [] = true
all_in_unit (X ∷ Xs) = leb (nat_abs X) U && all_in_unit Xs
