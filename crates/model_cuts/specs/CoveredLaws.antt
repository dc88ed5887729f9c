-- One iteration of the loop over the pieces: what the ends cover so far, and what is still to come.
use Rattle.std.specs.Prelude.{◌≡◌, refl, ℤ}
use Rattle.std.proofs.Math.Path.{sym, ap, ap₂}
use Rattle.std.proofs.Common.{◌∙◌, add-one}
use Prim.Native.Nat.{ℕ, suc, ◌+◌, ◌-◌, ◌^◌, ◌≤◌, ◌<◌}
use native.Mathlib.Omega.{arith}
use Rattle.std.proofs.Math.Nat as NatL
use Rattle.calculus.specs.Model as C
use Rattle.calculus.specs.Refusal as R
use Rattle.calculus.specs.Refusal.{done, stopped, at_place, ◌followed_by◌}
use Rattle.calculus.specs.Operations.{Ends, range}
use Rattle.model_types.specs.declared.Refusal.{Refusal}
use Rattle.std.specs.Prelude.{Ok, Err}
use Rattle.model_types.specs.ModelStruct.{refused_at}
use Rattle.model_types.specs.declared.Bounds.{Bounds}
use Rattle.model_types.specs.ModelStruct.{bounds}
use Rattle.cuts.specs.Cuts.{smaller, larger, hull, overlap, piece_range, hull_from, pieces_hull, cut_range}

-- two ends
abbrev pair : ℤ → ℤ → Ends
pair l h = record { low = l; high = h }

-- ---- results taken apart
record Stops (r : R.Result Ends) : Type 0 where
  cause_is : R.Refusal
  place_is : ℕ
  is : r ≡ stopped cause_is place_is

stops : {b : Bounds} {r : R.Result Ends} {x : Refusal} {y : ℕ} → b ≡ bounds r → b.verdict ≡ Err (refused_at x y)
    → Stops r
unfolding bounds
stops {r = done e} h v = let z : ◌≡◌ {A = ℕ} 0 1 = cc in absurd (omega arith)
stops {r = stopped q i} h v = record { cause_is = q; place_is = i; is = refl }

gives : {b : Bounds} {r : R.Result Ends} → b ≡ bounds r → b.verdict ≡ Ok tt → r ≡ done (pair b.low b.high)
unfolding bounds
gives {r = done e} h v = ap done (ap₂ pair (sym (ap (λ b. b.low) h)) (sym (ap (λ b. b.high) h)))
gives {r = stopped q i} h v = let z : ◌≡◌ {A = ℕ} 0 1 = cc in absurd (omega arith)

module _ (d i k : ℕ) (f : C.Model) where
  -- what piece j answers
  abbrev pub at_piece : ℕ → R.Result Ends
  at_piece j = at_place j (piece_range d i k f j)

  -- what the pieces from j on make of two ends
  abbrev from_piece : ℕ → Ends → R.Result Ends
  from_piece j = hull_from d i k f j (2 ^ k - j)

  -- the pieces before j are covered from low to high
  pub record Covered (j : ℕ) (low high : ℤ) : Type 0 where
    pub within : j ≤ 2 ^ k
    pub rest : from_piece j (pair low high) ≡ pieces_hull d i k f

  cut_stopped : {q : R.Refusal} {p : ℕ} → pieces_hull d i k f ≡ stopped q p → cut_range d i k f ≡ stopped q p
  unfolding cut_range ◌followed_by◌
  cut_stopped e = ap (λ r. r followed_by (λ h. done (overlap (range f) h))) e

  -- ---- the first piece
  pub first_refused : {b : Bounds} {x : Refusal} {y : ℕ} → b ≡ bounds (at_piece 0) → b.verdict ≡ Err (refused_at x y)
      → b ≡ bounds (cut_range d i k f)
  unfolding pieces_hull ◌followed_by◌
  first_refused h w =
      let s = stops h w in
      h ∙ ap bounds (s.is ∙ sym (cut_stopped (ap (λ r. r followed_by from_piece 1) s.is)))

  pub first_accepted : {b : Bounds} → b ≡ bounds (at_piece 0) → b.verdict ≡ Ok tt → Covered 1 b.low b.high
  unfolding pieces_hull ◌followed_by◌
  first_accepted h w = record {
    within = NatL.one-le-pow k 2 (omega arith);
    rest = sym (ap (λ r. r followed_by from_piece 1) (gives h w));
  }

  -- ---- an iteration
  module _ {j : ℕ} {low high : ℤ} (p : Covered j low high) (l : j < 2 ^ k) where
    -- the next piece is taken in, and those after it
    abbrev onward : Ends → R.Result Ends
    onward e = from_piece (j + 1) (hull (pair low high) e)

    more : from_piece j (pair low high) ≡ (at_piece j followed_by onward)
    unfolding hull_from
    more =
        let one_less : 2 ^ k - j ≡ suc (2 ^ k - (j + 1)) = omega arith in
        ap (λ c. hull_from d i k f j c (pair low high)) one_less
        ∙ ap (λ n. at_piece j followed_by (λ e. hull_from d i k f n (2 ^ k - (j + 1)) (hull (pair low high) e)))
        (sym (add-one j))

    pub iteration_refused : {b : Bounds} {x : Refusal} {y : ℕ} → b ≡ bounds (at_piece j) → b.verdict
        ≡ Err (refused_at x y)
        → b ≡ bounds (cut_range d i k f)
    unfolding ◌followed_by◌
    iteration_refused h w =
        let s = stops h w in
        h ∙ ap bounds (s.is
        ∙ sym (cut_stopped (sym p.rest ∙ more ∙ ap (λ r. r followed_by onward) s.is)))

    pub iteration_accepted : {b : Bounds} → b ≡ bounds (at_piece j) → b.verdict ≡ Ok tt
        → Covered (j + 1) (smaller low b.low) (larger high b.high)
    unfolding ◌followed_by◌ hull
    iteration_accepted h w = record {
      within = omega arith;
      rest = sym (ap (λ r. r followed_by onward) (gives h w)) ∙ sym more ∙ p.rest;
    }

  -- ---- the end: the overlap with the undivided range
  pub covered_end : {j : ℕ} {low high : ℤ} → Covered j low high → 2 ^ k ≤ j
      → {b : Bounds} → b ≡ bounds (done (range f))
      → record { low = larger b.low low; high = smaller b.high high; verdict = Ok tt }
      ≡ bounds (cut_range d i k f)
  unfolding cut_range ◌followed_by◌ bounds overlap hull_from
  covered_end {j} {low} {high} p l h =
      let none : 2 ^ k - j ≡ 0 = omega arith in
      ap₂ (λ x y. record { low = larger x low; high = smaller y high; verdict = Ok tt })
      (ap (λ b. b.low) h) (ap (λ b. b.high) h)
      ∙ ap (λ r. bounds (r followed_by (λ e. done (overlap (range f) e))))
      (sym (ap (λ c. hull_from d i k f j c (pair low high)) none) ∙ p.rest)
