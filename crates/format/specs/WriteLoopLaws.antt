-- Writing by loops that walk forward: records joined one by one, and stores one after another.
use Rattle.std.specs.Prelude.{◌≡◌, List, [], ◌∷◌, ◌++◌, map, ℕ, suc, ◌+◌, ◌≤◌, ◌<◌, length, get_or, drop, take, set}
use Rattle.std.proofs.Common.{◌∙◌, ap, append-nil, arith, take-suc}
use Rattle.std.proofs.lemmas.List.{map-append}
use Rattle.std.proofs.lemmas.List.Edits.{sets, sets-eq}
use Rattle.format.specs.Bytes.{join}
use Rattle.format.specs.BytesLaws.{join-++}

-- one record more
pub join_more : {A : Type 0} (f : A → List ℕ) (l : List A) (i : ℕ) (x : A) → i < length l
    → join (map f (take (suc i) l)) ≡ join (map f (take i l)) ++ f (get_or l i x)
unfolding join
join_more f l i x h =
    ap (λ k. join (map f k)) (take-suc l i x h) ∙ ap join (map-append f (take i l) (get_or l i x ∷ []))
    ∙ join-++ (map f (take i l)) (f (get_or l i x) ∷ [])
    ∙ ap (λ r. join (map f (take i l)) ++ r) (append-nil (f (get_or l i x)))

-- stores after those that are made
pub sets_more : (s r buffer : List ℕ) (i j : ℕ) → j ≡ i + length s → sets (sets buffer i s) j r ≡ sets buffer i (s ++ r)
sets_more [] r buffer i j e = ap (λ k. sets buffer k r) (let f : j ≡ i = omega arith in f)
sets_more (x ∷ s) r buffer i j e = sets_more s r (set buffer i x) (suc i) j (omega arith)

-- stores from the start on: the rest of the buffer stays
pub sets_front : (s buffer : List ℕ) → length s ≤ length buffer → sets buffer 0 s ≡ s ++ drop (length s) buffer
sets_front s buffer h =
    sets-eq s buffer 0 (omega arith) ∙ ap (λ k. s ++ drop k buffer) (let e : 0 + length s ≡ length s = omega arith in e)
