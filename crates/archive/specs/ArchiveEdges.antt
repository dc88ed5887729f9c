-- Rows of edge cases, computed.
use Rattle.std.specs.Prelude.{◌≡◌, refl, List, [], ◌∷◌, ◌++◌, map, ℕ, ◌*◌, ◌/◌, ◌%◌, pos, negsuc, length, replicate}
use Rattle.calculus.specs.Computing as C
use Rattle.calculus.specs.Key as K
use Rattle.calculus.specs.Forms.{forms, at_key, model, line}
use Rattle.calculus.specs.Model.{Model, zero_model}
use Rattle.calculus.specs.Refusal as R
use Rattle.calculus.specs.Refusal.{bad_length, bad_limits, bad_model, bad_rank, short_buffer, done, stopped}
use Rattle.format.specs.Computing as F
use Rattle.archive.specs.Ranks as N
use Rattle.archive.specs.Ranks.{count_up, in_turn, rank_of, key_at}
use Rattle.archive.specs.Archive as A
use Rattle.archive.specs.Archive.{first_terms, model_stored, store, stored, restored}

-- all definitions
unfoldable pub archives : Unit {0}
unfolding
    C.calls forms F.writes R.returned R.◌followed_by◌ K.encode K.key_degree K.key_limit
    N.count_up N.in_turn N.monomials N.rank_width N.all_keys N.rank_count N.place_of N.rank_of N.key_at
    A.earlier A.by_degree_from A.by_degree A.terms_before A.first_terms A.ranked A.ranked_bytes A.model_stored A.store
    A.stored A.read_ranked A.read_all A.require_ranks A.restored_term A.restored_model A.restored
archives = tt

-- 7 + 2y³ + 5x in two variables: by key y³ comes before x, by degree after it
unfoldable pub cubic : Model
cubic = model 2 9 (at_key 2 0x0000 (pos 7) ∷ at_key 2 0x0300 (pos 2) ∷ at_key 2 0x1000 (pos 5) ∷ [])

-- its bytes
unfoldable pub cubic_bytes : List ℕ
cubic_bytes = 2 ∷ 9 ∷ 0 ∷ 0 ∷ 0 ∷ 3 ∷ 0 ∷ 0 ∷ 7 ∷ 0 ∷ 0 ∷ 0 ∷ 4 ∷ 0 ∷ 5 ∷ 0 ∷ 0 ∷ 0 ∷ 24 ∷ 0 ∷ 2 ∷ 0 ∷ 0 ∷ 0 ∷ []

-- -2x with a radius whose four bytes differ
unfoldable pub falling : Model
falling = model 1 0x01020304 (at_key 1 0x1000 (negsuc 1) ∷ [])

-- its bytes
unfoldable pub falling_bytes : List ℕ
falling_bytes = 1 ∷ 4 ∷ 3 ∷ 2 ∷ 1 ∷ 1 ∷ 4 ∷ 0 ∷ 254 ∷ 255 ∷ 255 ∷ 255 ∷ []

-- n, radius 0, the count, then ranks with the coefficient 1
unfoldable pub with_ranks : (n : ℕ) (ranks : List ℕ) → List ℕ
with_ranks n l =
    n ∷ 0 ∷ 0 ∷ 0 ∷ 0 ∷ length l ∷ in_turn (λ r. r % 256 ∷ r / 256 ∷ 1 ∷ 0 ∷ 0 ∷ 0 ∷ []) l

-- 1 + x + .. + x^15
unfoldable pub powers : Model
powers = model 1 0 (map (λ e. at_key 1 (0x1000 * e) (pos 1)) (count_up 0 16))

-- the ranks of these: the last ones of each degree
unfoldable pub powers_ranks : List ℕ
powers_ranks =
    0 ∷ 4 ∷ 14 ∷ 34 ∷ 69 ∷ 125 ∷ 209 ∷ 329
    ∷ 494 ∷ 714 ∷ 1000 ∷ 1364 ∷ 1819 ∷ 2379 ∷ 3059 ∷ 3875 ∷ []

-- ---- ranks
pub rank-rows
    : (rank_of 0 ≡ 0)
    -- the last variable has the lowest keys
    × (rank_of 0x00010000 ≡ 1)
    × (rank_of 0x10000000 ≡ 4)
    -- degree before key
    × (rank_of 0x00020000 ≡ 5)
    × (rank_of 0xF0000000 ≡ 3875)
    × (key_at 3875 ≡ 0xF0000000)
unfolding archives
rank-rows = (refl, refl, refl, refl, refl, refl)

-- ---- storing
pub store-rows
    : (model_stored cubic ≡ cubic_bytes)
    × (model_stored powers ≡ with_ranks 1 powers_ranks)
    × (model_stored falling ≡ falling_bytes)
    -- bytes beyond the length stay
    × ((stored (zero_model 4) (replicate 8 7)).value.buffer ≡ 4 ∷ 0 ∷ 0 ∷ 0 ∷ 0 ∷ 0 ∷ 7 ∷ 7 ∷ [])
    × ((stored (zero_model 4) (replicate 8 7)).value.length ≡ 6)
    -- a buffer of exactly the length is enough
    × (store falling (replicate 12 7) ≡ done falling_bytes)
    -- one byte short: nothing is changed, and the length is 0
    × (store line (replicate 17 0) ≡ stopped short_buffer 0)
    × ((stored line (replicate 17 7)).value.buffer ≡ replicate 17 7)
    × ((stored line (replicate 17 7)).value.length ≡ 0)
    × (store (zero_model 0) [] ≡ stopped bad_limits 0)
    -- n may be 5 in a sound model, not in the archive
    × (store (zero_model 5) [] ≡ stopped bad_limits 0)
    -- 3 before 5, 5 before 11
    × (store (model 5 0 (at_key 1 0x1000 (pos 0) ∷ [])) [] ≡ stopped bad_limits 0)
    × (store (model 1 0 (at_key 1 0x1000 (pos 0) ∷ [])) [] ≡ stopped bad_model 0)
unfolding archives cubic cubic_bytes falling falling_bytes with_ranks powers powers_ranks
store-rows = (refl, refl, refl, refl, refl, refl, refl, refl, refl, refl, refl, refl, refl)

-- ---- restoring
pub restore-rows
    : (restored cubic_bytes 3 ≡ done cubic)
    × (restored cubic_bytes 64 ≡ done cubic)
    × (restored (with_ranks 1 powers_ranks) 16 ≡ done powers)
    × (restored falling_bytes 1 ≡ done falling)
    -- the first two by degree, with the stored radius
    × (restored cubic_bytes 2 ≡ done (model 2 9 (at_key 2 0x0000 (pos 7) ∷ at_key 2 0x1000 (pos 5) ∷ [])))
    × (restored cubic_bytes 0 ≡ done (model 2 9 []))
    -- which are the first: by degree, and by key where degrees are the same
    × (first_terms 2 cubic ≡ model 2 9 (at_key 2 0x0000 (pos 7) ∷ at_key 2 0x1000 (pos 5) ∷ []))
    × (first_terms 1 (model 2 0 (at_key 2 0x0100 (pos 3) ∷ at_key 2 0x1000 (pos 5) ∷ []))
    ≡ model 2 0 (at_key 2 0x0100 (pos 3) ∷ []))
unfolding archives cubic cubic_bytes falling falling_bytes with_ranks powers powers_ranks
restore-rows = (refl, refl, refl, refl, refl, refl, refl, refl)

-- ---- refused, or not
pub refusal-rows
    -- a length of 5, one that is not by the count; 1 before 3
    : (restored (9 ∷ 0 ∷ 0 ∷ 0 ∷ 0 ∷ []) 1 ≡ stopped bad_length 0)
    × (restored (9 ∷ 0 ∷ 0 ∷ 0 ∷ 0 ∷ 1 ∷ []) 1 ≡ stopped bad_length 0)
    × (restored (1 ∷ 0 ∷ 0 ∷ 0 ∷ 0 ∷ 0 ∷ 0 ∷ []) 0 ≡ stopped bad_length 0)
    -- 3 before 17
    × (restored (with_ranks 0 (9000 ∷ [])) 1 ≡ stopped bad_limits 0)
    × (restored (with_ranks 5 (9000 ∷ [])) 1 ≡ stopped bad_limits 0)
    -- the last rank and the one after it
    × (restored (with_ranks 4 (3875 ∷ [])) 1 ≡ done (model 4 0 (at_key 4 0xF000 (pos 1) ∷ [])))
    × (restored (with_ranks 4 (3876 ∷ [])) 1 ≡ stopped bad_rank 0)
    × (restored (with_ranks 4 (3875 ∷ 3876 ∷ [])) 2 ≡ stopped bad_rank 1)
    -- equal ranks, falling ones; beyond those read they are not tested
    × (restored (with_ranks 4 (0 ∷ 0 ∷ [])) 2 ≡ stopped bad_rank 1)
    × (restored (with_ranks 4 (0 ∷ 4 ∷ 3 ∷ [])) 3 ≡ stopped bad_rank 2)
    × (restored (with_ranks 4 (0 ∷ 4 ∷ 3 ∷ [])) 4 ≡ stopped bad_rank 2)
    -- the first fault is named, whether it is that a rank does not rise or that it is too large
    × (restored (with_ranks 4 (4 ∷ 3 ∷ 9000 ∷ [])) 3 ≡ stopped bad_rank 1)
    × (restored (with_ranks 4 (9000 ∷ 3 ∷ [])) 2 ≡ stopped bad_rank 0)
    × (restored (with_ranks 1 (0 ∷ 4 ∷ 3 ∷ [])) 2
    ≡ done (model 1 0 (at_key 1 0x0000 (pos 1) ∷ at_key 1 0x1000 (pos 1) ∷ [])))
    × (restored (with_ranks 1 (0 ∷ 9000 ∷ [])) 1 ≡ done (model 1 0 (at_key 1 0x0000 (pos 1) ∷ [])))
    -- a term of variable 3 in a model of two (rank 2 is that of variable 3); 17 before 5
    × (restored (with_ranks 2 (2 ∷ [])) 1 ≡ stopped bad_model 0)
    × (restored (with_ranks 3 (2 ∷ [])) 1 ≡ done (model 3 0 (at_key 3 0x0010 (pos 1) ∷ [])))
    × (restored (with_ranks 2 (2 ∷ 2 ∷ [])) 2 ≡ stopped bad_rank 1)
    × (restored (with_ranks 2 (0 ∷ 2 ∷ [])) 1 ≡ done (model 2 0 (at_key 2 0x0000 (pos 1) ∷ [])))
    -- the coefficient 0, and a radius above the span limit, though no term is read
    × (restored (1 ∷ 0 ∷ 0 ∷ 0 ∷ 0 ∷ 1 ∷ 0 ∷ 0 ∷ 0 ∷ 0 ∷ 0 ∷ 0 ∷ []) 1 ≡ stopped bad_model 0)
    × (restored (1 ∷ 0 ∷ 0 ∷ 0 ∷ 0 ∷ 1 ∷ 0 ∷ 0 ∷ 0 ∷ 0 ∷ 0 ∷ 0 ∷ []) 0 ≡ done (model 1 0 []))
    × (restored (1 ∷ 255 ∷ 255 ∷ 255 ∷ 255 ∷ 0 ∷ []) 0 ≡ stopped bad_model 0)
    -- a radius of 2^30 is sound by itself, not with a term that is read
    × (restored (1 ∷ 0 ∷ 0 ∷ 0 ∷ 64 ∷ 1 ∷ 0 ∷ 0 ∷ 1 ∷ 0 ∷ 0 ∷ 0 ∷ []) 0 ≡ done (model 1 1073741824 []))
    × (restored (1 ∷ 0 ∷ 0 ∷ 0 ∷ 64 ∷ 1 ∷ 0 ∷ 0 ∷ 1 ∷ 0 ∷ 0 ∷ 0 ∷ []) 1 ≡ stopped bad_model 0)
    -- a count of 64
    × (restored (1 ∷ 0 ∷ 0 ∷ 0 ∷ 0 ∷ 64 ∷ replicate 384 0) 0 ≡ done (model 1 0 []))
    -- a count above 64, though no term is read, and though all ranks rise
    × (restored (1 ∷ 0 ∷ 0 ∷ 0 ∷ 0 ∷ 65 ∷ replicate 390 0) 0 ≡ stopped bad_model 0)
    × (restored (with_ranks 4 (count_up 0 65)) 65 ≡ stopped bad_model 0)
    -- 255 terms, of which the one at place 200 does not rise
    × (restored (with_ranks 4 (count_up 0 200 ++ count_up 199 55)) 255 ≡ stopped bad_rank 200)
    × (restored (with_ranks 4 (count_up 0 200 ++ count_up 199 55)) 200 ≡ stopped bad_model 0)
unfolding archives cubic cubic_bytes with_ranks
refusal-rows = (
  refl,
  refl,
  refl,
  refl,
  refl,
  refl,
  refl,
  refl,
  refl,
  refl,
  refl,
  refl,
  refl,
  refl,
  refl,
  refl,
  refl,
  refl,
  refl,
  refl,
  refl,
  refl,
  refl,
  refl,
  refl,
  refl,
  refl,
  refl,
  refl,
)
