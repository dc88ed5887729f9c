-- The kinds of steps that the claim asks for: only a quotient is one, and only an antiderivative is one, so that every
-- list of other steps keeps what is promised of lists without them.
use Rattle.std.specs.Prelude.{ℕ, T}
use Rattle.calculus.specs.Book.{Step, input, constant, variable, negate, add, subtract, multiply, substitute}
use Rattle.calculus.specs.Book.{sweep, quotient, antiderivative}
use Rattle.claim.specs.Outcome.{is_quotient, is_antiderivative}

-- a step that is a quotient
pub data IsQuotient : Step → Type 0 where
  is : {a b h w : ℕ} → IsQuotient (quotient a b h w)

-- the test passes no other
pub only_quotients : (s : Step) → T (is_quotient s) → IsQuotient s
unfolding is_quotient
only_quotients (input a) t = absurd t
only_quotients (constant value) t = absurd t
only_quotients (variable v) t = absurd t
only_quotients (negate a) t = absurd t
only_quotients (add a b) t = absurd t
only_quotients (subtract a b) t = absurd t
only_quotients (multiply a b) t = absurd t
only_quotients (substitute a b v) t = absurd t
only_quotients (sweep a value) t = absurd t
only_quotients (quotient a b h w) t = is
only_quotients (antiderivative a v) t = absurd t

-- a step that is an antiderivative
pub data IsAntiderivative : Step → Type 0 where
  is : {a v : ℕ} → IsAntiderivative (antiderivative a v)

-- the test passes no other
pub only_antiderivatives : (s : Step) → T (is_antiderivative s) → IsAntiderivative s
unfolding is_antiderivative
only_antiderivatives (input a) t = absurd t
only_antiderivatives (constant value) t = absurd t
only_antiderivatives (variable v) t = absurd t
only_antiderivatives (negate a) t = absurd t
only_antiderivatives (add a b) t = absurd t
only_antiderivatives (subtract a b) t = absurd t
only_antiderivatives (multiply a b) t = absurd t
only_antiderivatives (substitute a b v) t = absurd t
only_antiderivatives (sweep a value) t = absurd t
only_antiderivatives (quotient a b h w) t = absurd t
only_antiderivatives (antiderivative a v) t = is
