-- The loops of restoring.
use Rattle.std.specs.Prelude.{◌≡◌, Bool, ◌&&◌, List, [], ◌∷◌, ℕ, suc, ◌+◌, ◌-◌, ◌^◌, ◌≤◌, ◌<◌, T, leb, ℤ, pos, negsuc, drop}
use Rattle.std.proofs.Common.{sym, ◌∙◌, arith, lt-ltb, le-ltb, le-leb, drop-drop}
use Rattle.std.proofs.Math.Path.{ap, ap₂}
use Rattle.std.proofs.Math.Bool.{true, false}
use Rattle.std.proofs.Math.Dec.{ltb}
use Rattle.std.specs.Int.Signed.{mag}
use Rattle.std.proofs.lemmas.Bool.{lt-leb}
use Rattle.calculus.specs.Key.{key_width, key_fits}
use Rattle.calculus.specs.Model as C
use Rattle.calculus.specs.Refusal.{Result, stopped, bad_length, bad_rank, require_at}
use Rattle.format.specs.Bytes.{signed}
use Rattle.archive.specs.Ranks.{rank_count, key_at}
use Rattle.archive.specs.Archive.{Ranked, read_ranked, read_all, require_ranks}
use Rattle.model_archive_restoring.specs.Restoring.{ranks_ok, keys_fit}

-- ---- the terms that are left to read
pub read_more : (s : List ℕ) (many i at : ℕ) → i < many
    → read_all (many - i) (drop at s) ≡ read_ranked (drop at s) ∷ read_all (many - (i + 1)) (drop (at + 6) s)
unfolding read_all
read_more s many i at h = ap (λ c. read_all c (drop at s)) (let e : many - i ≡ suc (many - (i + 1)) = omega arith in e)
    ∙ ap (λ d. read_ranked (drop at s) ∷ read_all (many - (i + 1)) d) (drop-drop 6 at s)

pub read_none : (s : List ℕ) (many i at : ℕ) → many ≤ i → read_all (many - i) (drop at s) ≡ []
unfolding read_all
read_none s many i at h = ap (λ c. read_all c (drop at s)) (let e : many - i ≡ 0 = omega arith in e)

-- ---- test 17
module _ {A : Type 0} (i least : ℕ) (t : Ranked) (l : List Ranked) (a : Result A) where
  pub rank_low : t.rank < least → require_ranks i least (t ∷ l) a ≡ stopped bad_rank i
  unfolding require_ranks require_at
  rank_low h = ap (λ b. require_at i (b && ltb t.rank rank_count) bad_rank
      (require_ranks (suc i) (suc t.rank) l a))
      (lt-leb least t.rank h)

  pub rank_high : least ≤ t.rank → rank_count ≤ t.rank → require_ranks i least (t ∷ l) a ≡ stopped bad_rank i
  unfolding require_ranks require_at
  rank_high h g = ap₂ (λ b c. require_at i (b && c) bad_rank (require_ranks (suc i) (suc t.rank) l a))
      (le-leb least t.rank h) (le-ltb t.rank rank_count g)

  pub rank_good : least ≤ t.rank → t.rank < rank_count
      → require_ranks i least (t ∷ l) a ≡ require_ranks (suc i) (suc t.rank) l a
  unfolding require_ranks require_at
  rank_good h g = ap₂ (λ b c. require_at i (b && c) bad_rank (require_ranks (suc i) (suc t.rank) l a))
      (le-leb least t.rank h) (lt-ltb t.rank rank_count g)

-- what passes rises
abbrev other : Result C.Model
other = stopped bad_length 0

clash : (i : ℕ) → ◌≡◌ {A = Result C.Model} (stopped bad_rank i) other → ⊥
clash i e = let z : ◌≡◌ {A = ℕ} 0 1 = cc in omega arith

pub ranks_passed : (i least : ℕ) (l : List Ranked) → require_ranks i least l other ≡ other → T (ranks_ok least l)
unfolding require_ranks ranks_ok
ranks_passed i least [] e = tt
ranks_passed i least (t ∷ l) e =
    go (leb least t.rank) (ltb t.rank rank_count) e (ranks_passed (suc i) (suc t.rank) l)
  where
    go : (b c : Bool) → require_at i (b && c) bad_rank (require_ranks (suc i) (suc t.rank) l other) ≡ other
        → (require_ranks (suc i) (suc t.rank) l other ≡ other → T (ranks_ok (suc t.rank) l))
        → T (b && c && ranks_ok (suc t.rank) l)
    go true true e r = r (unfold require_at in e)
    go true false e r = absurd (clash i (unfold require_at in e))
    go false c e r = absurd (clash i (unfold require_at in e))

-- ---- keys that fit
pub fit_more : (n : ℕ) (t : Ranked) (l : List Ranked) (b : Bool) → key_fits key_width n (key_at t.rank) ≡ b
    → keys_fit n (t ∷ l) ≡ (b && keys_fit n l)
unfolding keys_fit
fit_more n t l b e = ap (λ c. c && keys_fit n l) e

-- ---- a coefficient of 32 bits fits 64
pub signed_fits : (u : ℕ) → u < 2 ^ 32 → mag (signed u) < 2 ^ 63
unfolding signed
signed_fits u h = go (ltb u (2 ^ 31))
  where
    go : (b : Bool) → mag (elim b as (λ b. ℤ) [ true ↦ pos u | false ↦ negsuc (2 ^ 32 - suc u) ]) < 2 ^ 63
    go true = omega arith
    go false = omega arith
