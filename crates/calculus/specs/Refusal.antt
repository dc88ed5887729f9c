-- Refusals with their numbers, answers that may be refused, and what is handed back in each case.
use Rattle.std.specs.Prelude.{Bool, true, false, ◌&&◌, List, [], ◌∷◌, ℕ, suc}

-- the causes of a refusal, in the words of document 01 (and, for 1 to 3 and from 12 on, of document 02)
pub data Refusal : Type 0 where
  -- length below 16 or above 8,792
  bad_length : Refusal
  -- last two bytes are neither mark
  bad_mark : Refusal
  -- n, d, model count or step count outside its limits; n does not fit the mark
  bad_limits : Refusal
  -- offset + 8 × steps + 8 is not the length
  bad_offset : Refusal
  -- a model breaks a rule, has a degree above d where d applies, has another n than its book, or runs past the first
  -- step
  bad_model : Refusal
  -- a step breaks its form; for a single call: variable, constant, threshold or unused coordinate wrong
  bad_step : Refusal
  -- a span above 2^30
  over_span : Refusal
  -- more than 64 terms after zeros are dropped
  too_many_terms : Refusal
  -- substituted model leaves the box; in evaluation, a coordinate does
  leaves_box : Refusal
  -- models of a single call differ in n
  variables_differ : Refusal
  -- the writer's buffer is too short
  short_buffer : Refusal
  -- a proposal does not certify its quotient: mu is U or more
  uncertified : Refusal
  -- a power model to convert to the Chebyshev form has n other than 1
  not_one_variable : Refusal
  -- a box is to be cut to a depth above 6
  cut_too_deep : Refusal
  -- a row of readings is longer than 256, or a low value exceeds its high one
  bad_reading : Refusal
  -- of a curve in doubles a value is not finite, or the radius is negative
  bad_double : Refusal
  -- a rank read from an archive is 3,876 or more, or does not rise
  bad_rank : Refusal

-- the number of each
unfoldable pub number : Refusal → ℕ
number bad_length = 1
number bad_mark = 2
number bad_limits = 3
number bad_offset = 4
number bad_model = 5
number bad_step = 6
number over_span = 7
number too_many_terms = 8
number leaves_box = 9
number variables_differ = 10
number short_buffer = 11
number uncertified = 12
number not_one_variable = 13
number cut_too_deep = 14
number bad_reading = 15
number bad_double = 16
number bad_rank = 17

-- ---- the answer of an operation
pub data Answer (A : Type 0) : Type 0 where
  accepted : A → Answer A
  refused : Refusal → Answer A

-- a test that must pass, else this refusal
unfoldable pub require : {A : Type 0} → Bool → Refusal → Answer A → Answer A
require true r a = a
require false r a = refused r

infixl 20 ◌then◌
-- the first refusal decides
unfoldable pub ◌then◌ : {A B : Type 0} → Answer A → (A → Answer B) → Answer B
◌then◌ (accepted a) f = f a
◌then◌ (refused r) f = refused r

-- ---- the result of a call or a run: a refusal has a place
pub data Result (A : Type 0) : Type 0 where
  done : A → Result A
  stopped : Refusal → (place : ℕ) → Result A

-- an operation's answer at place i
unfoldable pub at_place : {A : Type 0} → ℕ → Answer A → Result A
at_place i (accepted a) = done a
at_place i (refused r) = stopped r i

-- a test that must pass, else this refusal at place i
unfoldable pub require_at : {A : Type 0} → ℕ → Bool → Refusal → Result A → Result A
require_at i true r a = a
require_at i false r a = stopped r i

-- a test that each must pass, numbered from i on; the first that fails decides the place
unfoldable pub require_each : {A B : Type 0} → ℕ → (ℕ → B → Bool) → List B → Refusal → Result A → Result A
require_each i ok [] r a = a
require_each i ok (x ∷ l) r a = require_at i (ok i x) r (require_each (suc i) ok l r a)

-- whether each passes, numbered from i on
unfoldable pub all_from : {A : Type 0} → ℕ → (ℕ → A → Bool) → List A → Bool
all_from i ok [] = true
all_from i ok (x ∷ l) = ok i x && all_from (suc i) ok l

infixl 20 ◌followed_by◌
-- the first refusal decides
unfoldable pub ◌followed_by◌ : {A B : Type 0} → Result A → (A → Result B) → Result B
◌followed_by◌ (done a) f = f a
◌followed_by◌ (stopped r i) f = stopped r i

-- ---- what is handed back: the number and place of the refusal and a value
pub record Returned (A : Type 0) : Type 0 where
  pub number : ℕ
  pub place : ℕ
  pub value : A

-- 0 and 0 without a refusal; with one, a value that is named for the purpose
unfoldable pub returned : {A : Type 0} → (if_refused : A) → Result A → Returned A
returned if_refused (done a) = record { number = 0; place = 0; value = a }
returned if_refused (stopped r i) = record { number = number r; place = i; value = if_refused }
