-- The archive (request 14): a model's bytes with low degrees first, and what is restored from them.
use Rattle.std.specs.Prelude.{Bool, ◌&&◌, ◌||◌, List, [], ◌∷◌, ◌++◌, map, ℕ, zero, suc, ◌+◌, ◌*◌, min, eqb, ltb, leb, ℤ, length, drop}
use Rattle.polynomial.specs.Polynomial.{Term}
use Rattle.calculus.specs.Monomial.{degree, less}
use Rattle.calculus.specs.Key.{key_width, key, monomial_of}
use Rattle.calculus.specs.Terms.{Terms, term, select, sum_ℕ, collect}
use Rattle.calculus.specs.Model.{Model, most_degree, most_terms, between, sound}
use Rattle.calculus.specs.Refusal.{bad_length, bad_limits, bad_model, short_buffer, bad_rank, Result, done, require_at}
use Rattle.calculus.specs.Refusal.{◌followed_by◌, Returned, returned}
use Rattle.format.specs.Bytes.{byte, join, u16, u32, u16_bytes, u32_bytes, signed, bits}
use Rattle.format.specs.Format.{Written}
use Rattle.archive.specs.Ranks.{rank_width, rank_count, rank_of, key_at}

-- ---- by total degree and then key
-- k comes before l in the archive
unfoldable pub earlier : List ℕ → List ℕ → Bool
earlier k l = ltb (degree k) (degree l) || (eqb (degree k) (degree l) && less k l)

-- those of degree d, then those of degree d + 1, and so for c degrees, each as they stand
unfoldable pub by_degree_from : (d c : ℕ) → Terms → Terms
by_degree_from d zero p = []
by_degree_from d (suc c) p = select (λ k z. eqb (degree k) d) p ++ by_degree_from (suc d) c p

-- terms, which stand by key, by total degree and then key
unfoldable pub by_degree : Terms → Terms
by_degree = by_degree_from 0 (suc most_degree)

-- how many terms come before k
unfoldable pub terms_before : List ℕ → Terms → ℕ
terms_before k p = sum_ℕ (λ l z. 1) (select (λ l z. earlier l k) p)

-- the first j of them in that order, as they stand; the radius stays
unfoldable pub first_terms : (j : ℕ) → Model → Model
first_terms j m = record {
  vars = m.vars;
  radius = m.radius;
  terms = select (λ k z. ltb (terms_before k m.terms) j) m.terms;
}

-- ---- storing: n (1 byte), radius (4), term count (1), then per term rank (2) and coefficient (4)
-- a term as it is stored
pub record Ranked : Type 0 where
  pub rank : ℕ
  pub coefficient : ℤ

-- its rank is that of its key
unfoldable pub ranked : Term ℤ → Ranked
ranked t = record { rank = rank_of (key key_width t.exponents); coefficient = t.coefficient }

-- its bytes
unfoldable pub ranked_bytes : Ranked → List ℕ
ranked_bytes t = u16_bytes t.rank ++ u32_bytes (bits t.coefficient)

-- the bytes of terms, one after the other
abbrev pub terms_stored : Terms → List ℕ
terms_stored q = join (map ranked_bytes (map ranked q))

-- the bytes of a model
unfoldable pub model_stored : Model → List ℕ
model_stored m =
    m.vars ∷ (u32_bytes m.radius
    ++ (length m.terms ∷ terms_stored (by_degree m.terms)))

-- tests 3, 5 and 11, then the bytes
unfoldable pub store : Model → (buffer : List ℕ) → Result (List ℕ)
store m buffer =
    require_at 0 (between 1 rank_width m.vars) bad_limits
    (require_at 0 (sound most_degree m) bad_model
    (require_at 0 (leb (length (model_stored m)) (length buffer)) short_buffer
    (done (model_stored m))))

-- the length that is answered, and all that the buffer holds then: bytes beyond the length stay; a refused call answers
-- the length 0, and all bytes stay
unfoldable pub stored : Model → (buffer : List ℕ) → Returned Written
stored m buffer = returned (record { length = 0; buffer = buffer })
    (store m buffer followed_by (λ s. done (record { length = length s; buffer = s ++ drop (length s) buffer })))

-- ---- restoring
-- the bytes before the terms
abbrev pub stored_head : ℕ
stored_head = 6

-- those of a term
abbrev pub stored_term : ℕ
stored_term = 6

-- the term at the head
unfoldable pub read_ranked : List ℕ → Ranked
read_ranked s = record { rank = u16 s; coefficient = signed (u32 (drop 2 s)) }

-- c terms
unfoldable pub read_all : (c : ℕ) → List ℕ → List Ranked
read_all zero s = []
read_all (suc c) s = read_ranked s ∷ read_all c (drop stored_term s)

-- 17 at the first of the terms, numbered from i on, whose rank is 3,876 or more or does not rise: is below `least`,
-- which is one more than the rank before
unfoldable pub require_ranks : {A : Type 0} → (i least : ℕ) → List Ranked → Result A → Result A
require_ranks i least [] a = a
require_ranks i least (t ∷ l) a =
    require_at i (leb least t.rank && ltb t.rank rank_count) bad_rank
    (require_ranks (suc i) (suc t.rank) l a)

-- a term of n variables, by the key of its rank; a key with an exponent above n gives a monomial that breaks the rules
unfoldable pub restored_term : (n : ℕ) → Ranked → Term ℤ
restored_term n t = term t.coefficient (monomial_of n (key_at t.rank))

-- the terms in key order again
unfoldable pub restored_model : (n radius : ℕ) → List Ranked → Model
restored_model n e l = record { vars = n; radius = e; terms = collect (map (restored_term n) l) }

-- tests 1, 3, 17, 5: all but the first and the count ask only for the terms read, `many` of them or all if there are
-- fewer
unfoldable pub restored : (s : List ℕ) (many : ℕ) → Result Model
restored s many =
    let count : ℕ = byte 5 s in
    let read : List Ranked = read_all (min many count) (drop stored_head s) in
    let m : Model = restored_model (byte 0 s) (u32 (drop 1 s)) read in
    require_at 0 (leb stored_head (length s) && eqb (length s) (stored_head + stored_term * count)) bad_length
    (require_at 0 (between 1 rank_width (byte 0 s)) bad_limits
    (require_ranks 0 0 read
    (require_at 0 (leb count most_terms && sound most_degree m) bad_model
    (done m))))
