-- The tests on lists of natural numbers decide equality and a strict total order.
use Rattle.std.specs.Prelude.{◌≡◌, refl, Bool, true, false, not, List, [], ◌∷◌, ◌⊎◌, ℕ, ◌<◌, ◌≤◌, T, eqb, ltb}
use Rattle.std.proofs.Common.{sym, ◌∙◌, ap₂, subst, inl, inr, arith, eqb→eq, ltb→lt, lt→ltb, nltb→le}
use Rattle.std.proofs.Math.Decide.{dec_le}
use Rattle.std.proofs.Math.Dec.{eqb_refl}
use Rattle.algebra.specs.Lexicographic.{same, less}

-- ---- equality
pub same_ok : (k l : List ℕ) → T (same k l) → k ≡ l
same_ok [] [] t = refl
same_ok [] (w ∷ l) t = absurd t
same_ok (v ∷ k) [] t = absurd t
same_ok (v ∷ k) (w ∷ l) t = go (eqb v w) (eqb→eq v w) (same_ok k l) t
  where
    go : (b : Bool) → (T b → v ≡ w) → (T (same k l) → k ≡ l) → T (elim b [ true ↦ same k l | false ↦ false ])
        → v ∷ k ≡ w ∷ l
    go true f g t = ap₂ ◌∷◌ (f tt) (g t)
    go false f g t = absurd t

pub same_refl : (k : List ℕ) → T (same k k)
same_refl [] = tt
same_refl (v ∷ k) = go (eqb v v) (eqb_refl v) (same_refl k)
  where
    go : (b : Bool) → T b → T (same k k) → T (elim b [ true ↦ same k k | false ↦ false ])
    go true h t = t
    go false h t = absurd h

eqb_of : {v w : ℕ} → v ≡ w → T (eqb v w)
eqb_of {v} e = subst (λ x. T (eqb v x)) e (eqb_refl v)

-- ---- a strict total order
-- what decides at the heads: they differ, or they are equal and the tails decide
abbrev pub LessCons : ℕ → ℕ → List ℕ → List ℕ → Type 0
LessCons v w k l = (v < w) ⊎ ((v ≡ w) × T (less k l))

pub less_cons : (v w : ℕ) (k l : List ℕ) → T (less (v ∷ k) (w ∷ l)) → LessCons v w k l
less_cons v w k l h = go (eqb v w) (eqb→eq v w) h
  where
    go : (b : Bool) → (T b → v ≡ w) → T (elim b [ true ↦ less k l | false ↦ ltb v w ]) → LessCons v w k l
    go true e h = inr (e tt, h)
    go false e h = inl (ltb→lt v w h)

pub cons_less : (v w : ℕ) (k l : List ℕ) → LessCons v w k l → T (less (v ∷ k) (w ∷ l))
cons_less v w k l s = go (eqb v w) (eqb→eq v w) eqb_of s
  where
    go : (b : Bool) → (T b → v ≡ w) → (v ≡ w → T b) → LessCons v w k l
        → T (elim b [ true ↦ less k l | false ↦ ltb v w ])
    go true e f (inl h) = absurd (let g : v ≡ w = e tt in omega arith)
    go true e f (inr h) = h.1
    go false e f (inl h) = lt→ltb v w h
    go false e f (inr h) = absurd (f h.0)

pub less_irrefl : (k : List ℕ) → T (less k k) → ⊥
less_irrefl [] h = h
less_irrefl (v ∷ k) h = go (less_cons v v k k h) (less_irrefl k)
  where
    go : LessCons v v k k → (T (less k k) → ⊥) → ⊥
    go (inl h) f = omega arith
    go (inr h) f = f h.1

pub less_trans : (j k l : List ℕ) → T (less j k) → T (less k l) → T (less j l)
less_trans [] [] l h g = absurd h
less_trans [] (v ∷ k) [] h g = absurd g
less_trans [] (v ∷ k) (w ∷ l) h g = tt
less_trans (u ∷ j) [] l h g = absurd h
less_trans (u ∷ j) (v ∷ k) [] h g = absurd g
less_trans (u ∷ j) (v ∷ k) (w ∷ l) h g =
    cons_less u w j l (go (less_cons u v j k h) (less_cons v w k l g) (less_trans j k l))
  where
    go : LessCons u v j k → LessCons v w k l → (T (less j k) → T (less k l) → T (less j l)) → LessCons u w j l
    go (inl a) (inl b) f = inl (omega arith)
    go (inl a) (inr b) f = inl (let e = b.0 in omega arith)
    go (inr a) (inl b) f = inl (let e = a.0 in omega arith)
    go (inr a) (inr b) f = inr (a.0 ∙ b.0, f a.1 b.1)

pub less_total : (k l : List ℕ) → T (not (same k l)) → T (not (less k l)) → T (less l k)
less_total [] [] s h = absurd s
less_total [] (w ∷ l) s h = absurd h
less_total (v ∷ k) [] s h = tt
less_total (v ∷ k) (w ∷ l) s h =
    cons_less w v l k (go (eqb v w) (eqb→eq v w) (nltb→le v w) eqb_of s h (less_total k l))
  where
    go : (b : Bool) → (T b → v ≡ w) → (T (not (ltb v w)) → w ≤ v) → (v ≡ w → T b)
        → T (not (elim b [ true ↦ same k l | false ↦ false ]))
        → T (not (elim b [ true ↦ less k l | false ↦ ltb v w ]))
        → (T (not (same k l)) → T (not (less k l)) → T (less l k)) → LessCons w v l k
    go true e le f s h g = inr (sym (e tt), g s h)
    go false e le f s h g = inl (strict (dec_le v w))
      where
        strict : Dec (v ≤ w) → w < v
        strict (yes q) = absurd (f (let p : w ≤ v = le h in omega arith))
        strict (no q) = omega arith
