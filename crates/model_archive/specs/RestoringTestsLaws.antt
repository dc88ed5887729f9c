-- What restoring answers, case by case.
use Rattle.std.specs.Prelude.{◌≡◌, Bool, true, false, ◌&&◌, List, ℕ, ◌+◌, ◌*◌, ◌≤◌, ◌<◌, min, T, eqb, leb, length, drop}
use Rattle.std.proofs.Math.Path.{refl, sym}
use Rattle.std.proofs.Common.{◌∙◌, ap, ap₂, subst, arith}
use borrow.Author.Tests.{le-leb, lt-leb, eq-eqb, ne_eqb}
use Rattle.calculus.specs.Model.{Model, most_degree, most_terms, between, sound}
use Rattle.calculus.specs.Refusal.{Result, done, stopped, require_at, bad_length, bad_limits, bad_model}
use Rattle.format.specs.Bytes.{byte, u32}
use Rattle.archive.specs.Ranks.{rank_width}
use Rattle.archive.specs.Archive.{read_all, require_ranks, restored_model, restored}
use Rattle.model_archive_restoring.specs.Restoring.{last_test}

-- ---- the first tests
module _ (s : List ℕ) (many : ℕ) where
  pub too_short : length s < 6 → restored s many ≡ stopped bad_length 0
  unfolding restored require_at
  too_short h = rw (lt-leb 6 (length s) h)

  pub other_length : 6 ≤ length s → (length s ≡ 6 + 6 * byte 5 s → ⊥) → restored s many ≡ stopped bad_length 0
  unfolding restored require_at
  other_length h g = rw (le-leb 6 (length s) h, ne_eqb (length s) (6 + 6 * byte 5 s) g)

  module _ (h : length s ≡ 6 + 6 * byte 5 s) where
    few : 6 ≤ length s
    few = omega arith

    same_vars : between 1 4 (byte 0 s) ≡ between 1 rank_width (byte 0 s)
    unfolding rank_width
    same_vars = refl

    pub not_vars : between 1 4 (byte 0 s) ≡ false → restored s many ≡ stopped bad_limits 0
    unfolding restored require_at
    not_vars g = rw (le-leb 6 (length s) few, eq-eqb (length s) (6 + 6 * byte 5 s) h, sym same_vars ∙ g)

    pub goes_on : between 1 4 (byte 0 s) ≡ true → restored s many
        ≡ require_ranks 0 0 (read_all (min many (byte 5 s)) (drop 6 s)) (last_test (byte 5 s)
        (restored_model (byte 0 s) (u32 (drop 1 s)) (read_all (min many (byte 5 s)) (drop 6 s))))
    unfolding restored require_at last_test
    goes_on g = rw (le-leb 6 (length s) few, eq-eqb (length s) (6 + 6 * byte 5 s) h, sym same_vars ∙ g)
