-- One more row stored; and what room there is.
use Rattle.std.specs.Prelude.{◌≡◌, refl, true, ◌&&◌, List, [], ◌∷◌, ◌++◌, ℕ, zero, suc, ◌+◌, ◌*◌, ◌≤◌, ◌<◌, T, leb, length, take, get_or, set}
use Rattle.std.proofs.Common.{sym, ◌∙◌, ap, subst, append_assoc, arith, leb→le, length-append, length-take-le}
use Rattle.calculus.specs.Model.{most_terms}
use Rattle.calculus_laws.specs.TestLaws.{and_left, and_right}
use Rattle.model_types.specs.ArrayLaws.{take_more}
use Rattle.model_types.specs.declared.Shares.{Shares}
use Rattle.model_slices.specs.HandedModels.{over, answer_numbers, run_ends, model_room}
use Rattle.model_slices.specs.HandedModelsLaws.{over_more, room_parts}
use Rattle.c_shares.specs.HandedShares.{row_numbers, report_numbers, report_room}

-- ---- rows
row_length : (l : List Shares) → length (row_numbers l) ≡ 4 * length l
unfolding row_numbers
row_length [] = refl
row_length (s ∷ l) = omega (arith, row_length l)

rows_after : (l : List Shares) (s : Shares)
    → row_numbers (l ++ (s ∷ [])) ≡ row_numbers l ++ (s.carried ∷ s.rounding ∷ s.swept ∷ s.slack ∷ [])
unfolding row_numbers
rows_after [] s = refl
rows_after (t ∷ l) s =
    ap (λ (r : List ℕ). t.carried ∷ t.rounding ∷ t.swept ∷ t.slack ∷ r) (rows_after l s)

-- four stores after what was overwritten
four_more : (l k : List ℕ) (i a b c e : ℕ) → length l ≡ i → i + 3 < length k
    → set (set (set (set (over l k) i a) (i + 1) b) (i + 2) c) (i + 3) e ≡ over (l ++ (a ∷ b ∷ c ∷ e ∷ [])) k
four_more l k i a b c e n h =
    ap (λ r. set (set (set r (i + 1) b) (i + 2) c) (i + 3) e) (over_more 0 l k i a n (omega arith))
    ∙ ap (λ r. set (set r (i + 2) c) (i + 3) e)
    (over_more 0 (l ++ (a ∷ [])) k (i + 1) b (longer l a i n) (omega arith))
    ∙ ap (λ r. set r (i + 3) e)
    (over_more 0 ((l ++ (a ∷ [])) ++ (b ∷ [])) k (i + 2) c
    (omega (arith, longer (l ++ (a ∷ [])) b (i + 1) (longer l a i n))) (omega arith))
    ∙ over_more 0 (((l ++ (a ∷ [])) ++ (b ∷ [])) ++ (c ∷ [])) k (i + 3) e
    (omega (
      arith,
      longer ((l ++ (a ∷ [])) ++ (b ∷ [])) c (i + 2)
          (omega (arith, longer (l ++ (a ∷ [])) b (i + 1) (longer l a i n))),
    )) (omega arith)
    ∙ ap (λ r. over r k)
    (append_assoc ((l ++ (a ∷ [])) ++ (b ∷ [])) (c ∷ []) (e ∷ [])
    ∙ append_assoc (l ++ (a ∷ [])) (b ∷ []) (c ∷ e ∷ []) ∙ append_assoc l (a ∷ []) (b ∷ c ∷ e ∷ []))
  where
    longer : (l : List ℕ) (x i : ℕ) → length l ≡ i → length (l ++ (x ∷ [])) ≡ i + 1
    longer l x i e = omega (arith, length-append l (x ∷ []), e)

-- what is read past the end of an array of rows
abbrev pub no_row : Shares
no_row = record { carried = 0; rounding = 0; swept = 0; slack = 0 }

-- an iteration of the loop that stores rows
pub rows_more : (rows : List Shares) (k : List ℕ) (i : ℕ) → i < length rows → 4 * i + 3 < length k
    → let s = get_or rows i no_row in
    set (set (set (set (over (row_numbers (take i rows)) k) (4 * i) s.carried) (4 * i + 1) s.rounding)
    (4 * i + 2) s.swept) (4 * i + 3) s.slack
    ≡ over (row_numbers (take (i + 1) rows)) k
rows_more rows k i h w =
    four_more (row_numbers (take i rows)) k (4 * i) _ _ _ _
    (row_length (take i rows) ∙ ap (λ n. 4 * n) (length-take-le i rows (omega arith))) w
    ∙ ap (λ r. over r k) (sym (ap row_numbers (take_more rows i no_row h) ∙ rows_after (take i rows) _))

-- ---- room
pub report_fits : (k z n e s : ℕ) → report_room k z n e s ≡ true
    → (most_terms ≤ k) × (most_terms ≤ z) × (answer_numbers ≤ n) × (run_ends ≤ e) × (report_numbers ≤ s)
unfolding report_room
report_fits k z n e s h =
    let t = subst T (sym h) tt in
    let l = and_left (model_room k z n && leb 6 e) (leb 256 s) t in
    let m = room_parts k z n (and_left (model_room k z n) (leb 6 e) l) in (
      m.0,
      m.1,
      m.2,
      leb→le 6 e (and_right (model_room k z n) (leb 6 e) l),
      leb→le 256 s (and_right (model_room k z n && leb 6 e) (leb 256 s) t),
    )
