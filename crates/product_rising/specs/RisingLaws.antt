-- What is kept of parts, one after the other, and how large it can be.
use Rattle.std.specs.Prelude.{◌≡◌, refl, set}
use Rattle.std.proofs.Common.{sym, ◌∙◌, ap, subst, add-one, arith, length-append}
use Rattle.std.proofs.Math.Bool.{Bool, not}
use mathlib.Core.List.{List, [], ◌∷◌, ◌++◌, append-nil, append_assoc}
use Prim.Native.Nat.{ℕ, zero, suc, ◌+◌, ◌<◌, ◌≤◌}
use Rattle.std.proofs.Math.Decide.{dec_lt}
use Rattle.std.proofs.Math.Dec.{leb}
use Rattle.std.proofs.Math.IntN.{ℤ}
use Rattle.std.proofs.Math.ListN.{length}
use Rattle.polynomial.specs.Polynomial.{Term}
use Rattle.calculus.specs.Terms.{Terms, select, size}
use Rattle.calculus.specs.Model.{most_terms}
use Rattle.product_sums.specs.TermArrays.{at_key, terms}
use Rattle.product_sums.specs.TermArrayLaws.{terms_push}
use Rattle.product_sums.specs.declared.Gathered.{Gathered}
use Rattle.product_sums.specs.ProductsLaws.{size_append}
use Rattle.product_sums.specs.Wide.{degree_byte}
use Rattle.product_sums.specs.Kept.{wide_within_order, wide_above_order, wide_kept, wide_rounding, wide_swept}
use Rattle.product_sums.specs.GatherLaws.{kept_append, rounding_append, swept_append, size_select, residuals_le}
use Rattle.product_sums.specs.GatherLaws.{kept_none, rounding_none, swept_none, counted_few, counted_many}
use Rattle.product_rising.specs.Rising.{in_turn, Room, Part, Scanned}

-- ---- how large it can be
module _ (part : ℕ → Terms) where
  size_more : (i : ℕ) → size (in_turn part (suc i)) ≡ size (in_turn part i) + size (part i)
  unfolding in_turn
  size_more i = size_append (in_turn part i) (part i)

  pub size_in_turn : (i n : ℕ) → i ≤ n → size (in_turn part i) ≤ size (in_turn part n)
  size_in_turn i zero h = let e : i ≡ 0 = omega arith in rw e (omega arith)
  size_in_turn i (suc n) h = elim (dec_lt i (suc n)) [
    | yes l ↦ omega (arith, size_in_turn i n (omega arith), size_more n)
    | no l ↦ let e : i ≡ suc n = omega arith in rw e (omega arith)
  ]

  -- one of them
  pub size_in_turn_step : (i n : ℕ) → i < n → size (part i) ≤ size (in_turn part n)
  size_in_turn_step i n h = omega (arith, size_in_turn (suc i) n (omega arith), size_more i)

module _ (d : ℕ) (q : Terms) where
  pub rounding_within : wide_rounding d q ≤ size q
  unfolding wide_rounding wide_within_order
  rounding_within =
      let f : List ℕ → ℤ → Bool = λ k z. leb (degree_byte k) d in
      omega (arith, residuals_le (select f q), size_select f q)

  pub swept_within : wide_swept d q ≤ size q
  unfolding wide_swept wide_above_order
  swept_within = size_select (λ k z. not (leb (degree_byte k) d)) q

-- ---- parts
-- none yet
pub part_none : (d n : ℕ) (kept : List ℕ) (coefficients : List ℤ) → Room n kept coefficients
    → Part d [] n kept coefficients kept coefficients (record { count = n; rounding = 0; swept = 0 })
part_none d n kept coefficients h = record {
  from = omega arith;
  most = h.taken;
  few = λ g. rw (kept_none d) (omega arith);
  many = λ g. omega arith;
  following = λ g. rw (kept_none d) (sym (append-nil _));
  rounding = sym (rounding_none d);
  swept = sym (swept_none d);
}

-- one sum of which nothing is kept, or that comes too late, or that is put after the others
module _ (d : ℕ) (q : Terms) (n : ℕ) (kept : List ℕ) (coefficients : List ℤ) (h : Room n kept coefficients)
    (rounding swept : ℕ) (a : rounding ≡ wide_rounding d q) (b : swept ≡ wide_swept d q) where
  pub part_nothing : wide_kept d q ≡ []
      → Part d q n kept coefficients kept coefficients (record { count = n; rounding = rounding; swept = swept })
  part_nothing e = record {
    from = omega arith;
    most = h.taken;
    few = λ g. rw e (omega arith);
    many = λ g. omega arith;
    following = λ g. rw e (sym (append-nil _));
    rounding = a;
    swept = b;
  }

  pub part_late : most_terms < n
      → Part d q n kept coefficients kept coefficients (record { count = n; rounding = rounding; swept = swept })
  part_late l = record {
    from = omega arith;
    most = h.taken;
    few = λ g. absurd (omega arith);
    many = λ g. omega arith;
    following = λ g. absurd (omega arith);
    rounding = a;
    swept = b;
  }

  pub part_put : (key : ℕ) (c : ℤ) → n ≤ most_terms → wide_kept d q ≡ at_key key c ∷ []
      → Part d q n kept coefficients (set kept n key) (set coefficients n c)
      (record { count = n + 1; rounding = rounding; swept = swept })
  part_put key c l e = record {
    from = omega arith;
    most = omega arith;
    few = λ g. rw e (omega arith);
    many = λ g. rw e (omega arith);
    following = λ g.
        rw (e, add-one)
        (terms_push n kept coefficients key c (omega (arith, h.kept_room)) (omega (arith, h.coefficients_room)));
    rounding = a;
    swept = b;
  }

-- one after another
module _ (d : ℕ) (p q : Terms) (n : ℕ) (kept₀ kept₁ kept₂ : List ℕ) (coefficients₀ coefficients₁ coefficients₂ : List ℤ)
    (r s : Gathered) (x : Part d p n kept₀ coefficients₀ kept₁ coefficients₁ r)
    (y : Part d q r.count kept₁ coefficients₁ kept₂ coefficients₂ s) where
  long : length (wide_kept d (p ++ q)) ≡ length (wide_kept d p) + length (wide_kept d q)
  long = ap (length {A = Term ℤ}) (kept_append d p q) ∙ length-append (wide_kept d p) (wide_kept d q)

  pub part_after : Part d (p ++ q) n kept₀ coefficients₀ kept₂ coefficients₂
      (record { count = s.count; rounding = r.rounding + s.rounding; swept = r.swept + s.swept })
  part_after = record {
    from = omega (arith, x.from, y.from);
    most = y.most;
    few = λ g. let h = y.from in omega (arith, x.few (omega arith), y.few g, long);
    many = λ g. elim (dec_lt most_terms r.count) [
      | yes l ↦ omega (arith, x.many l, long)
      | no l ↦ omega (arith, x.few (omega arith), y.many g, long)
    ];
    following = λ g.
        let h = y.from in
        y.following g
        ∙ ap (λ (t : Terms). t ++ wide_kept d q) (x.following (omega arith))
        ∙ append_assoc (terms n kept₀ coefficients₀) (wide_kept d p) (wide_kept d q)
        ∙ ap (λ (t : Terms). terms n kept₀ coefficients₀ ++ t) (sym (kept_append d p q));
    rounding = omega (arith, x.rounding, y.rounding, rounding_append d p q);
    swept = omega (arith, x.swept, y.swept, swept_append d p q);
  }

-- ---- all of them
module _ (d : ℕ) (zs : Terms) (kept₀ kept : List ℕ) (coefficients₀ coefficients : List ℤ) (r : Gathered)
    (x : Part d zs 0 kept₀ coefficients₀ kept coefficients r) where
  pub scanned_many : most_terms < r.count
      → Scanned d zs kept coefficients (record { count = most_terms + 1; rounding = 0; swept = 0 })
  scanned_many h =
      let many : most_terms < length (wide_kept d zs) = omega (arith, x.many h) in
      record {
        answered = sym (counted_many (length (wide_kept d zs)) (wide_rounding d zs) (wide_swept d zs) many);
        terms = λ few. absurd (omega arith);
      }

  pub scanned_few : r.count ≤ most_terms → Scanned d zs kept coefficients r
  unfolding terms
  scanned_few h =
      let n : r.count ≡ length (wide_kept d zs) = omega (arith, x.few h) in
      record {
        answered =
            rw (← n, ← x.rounding, ← x.swept) (sym (counted_few r.count r.rounding r.swept h));
        terms = λ few. x.following h;
      }

-- ---- the parts of a loop
-- what is kept of the first i of n parts
pub record Held (part : ℕ → Terms) (n d from : ℕ) (kept₀ : List ℕ) (coefficients₀ : List ℤ)
    (kept : List ℕ) (coefficients : List ℤ) (count rounding swept i : ℕ) : Type 0 where
  pub on : i ≤ n
  pub kept_long : length kept ≡ length kept₀
  pub coefficients_long : length coefficients ≡ length coefficients₀
  pub done : Part d (in_turn part i) from kept₀ coefficients₀ kept coefficients
      (record { count = count; rounding = rounding; swept = swept })

module _ (part : ℕ → Terms) (n d from : ℕ) (kept₀ : List ℕ) (coefficients₀ : List ℤ) where
  pub held_none : Room from kept₀ coefficients₀
      → Held part n d from kept₀ coefficients₀ kept₀ coefficients₀ from 0 0 0
  unfolding in_turn
  held_none h = record {
    on = omega arith;
    kept_long = refl;
    coefficients_long = refl;
    done = part_none d from kept₀ coefficients₀ h;
  }

  module _ (kept : List ℕ) (coefficients : List ℤ) (count rounding swept i : ℕ)
      (h : Held part n d from kept₀ coefficients₀ kept coefficients count rounding swept i) where
    pub held_room : Room from kept₀ coefficients₀ → Room count kept coefficients
    held_room r = record {
      taken = h.done.most;
      kept_room = rw h.kept_long r.kept_room;
      coefficients_room = rw h.coefficients_long r.coefficients_room;
    }

    -- all of them
    pub held_end : n ≤ i → Part d (in_turn part n) from kept₀ coefficients₀ kept coefficients
        (record { count = count; rounding = rounding; swept = swept })
    held_end g =
        let e : i ≡ n = omega (arith, h.on) in
        subst (λ m. Part d (in_turn part m) from kept₀ coefficients₀ kept coefficients
        (record { count = count; rounding = rounding; swept = swept })) e h.done

    -- one more
    module _ (iteration : i < n) (kept₁ : List ℕ) (coefficients₁ : List ℤ) (r : Gathered)
        (p : Part d (part i) count kept coefficients kept₁ coefficients₁ r) where
      after : Part d (in_turn part (suc i)) from kept₀ coefficients₀ kept₁ coefficients₁
          (record { count = r.count; rounding = rounding + r.rounding; swept = swept + r.swept })
      unfolding in_turn
      after =
          part_after d (in_turn part i) (part i) from kept₀ kept kept₁ coefficients₀ coefficients coefficients₁ _ r
          h.done p

      pub held_rounding : rounding + r.rounding ≤ size (in_turn part n)
      held_rounding =
          omega (
            arith,
            after.rounding,
            rounding_within d (in_turn part (suc i)),
            size_in_turn part (suc i) n (omega arith),
          )

      pub held_swept : swept + r.swept ≤ size (in_turn part n)
      held_swept =
          omega (
            arith,
            after.swept,
            swept_within d (in_turn part (suc i)),
            size_in_turn part (suc i) n (omega arith),
          )

      pub held_more : length kept₁ ≡ length kept → length coefficients₁ ≡ length coefficients
          → Held part n d from kept₀ coefficients₀ kept₁ coefficients₁ r.count (rounding + r.rounding)
          (swept + r.swept) (i + 1)
      held_more lk lc = record {
        on = omega arith;
        kept_long = lk ∙ h.kept_long;
        coefficients_long = lc ∙ h.coefficients_long;
        done = rw add-one after;
      }
