-- Sums over 0 .. n - 1, by any commutative addition, do not mind a reordering.
use Rattle.std.specs.Prelude.{◌≡◌, Bool, true, false, T, eqb}
use Rattle.std.proofs.Math.Path.{refl, sym, ap, ap₂}
use Rattle.std.proofs.Common.{◌∙◌, subst, arith, ne_eqb, eqb→eq}
use Prim.Native.Nat.{ℕ, zero, suc, ◌<◌}
use Rattle.std.proofs.Math.Dec.{eqb_refl}
use Rattle.calculus_laws.specs.SumLaws.{Addition, plus_swap, if_so}
use Rattle.calculus_laws.specs.TestLaws.{same_tests}
use Rattle.renaming.specs.Reordering.{Reordering}

-- two tests of equality, of numbers that are equal together
pub eqb_same : (i j k l : ℕ) → (i ≡ j → k ≡ l) → (k ≡ l → i ≡ j) → eqb i j ≡ eqb k l
eqb_same i j k l f g = same_tests (eqb i j) (eqb k l) (λ t. of k l (f (eqb→eq i j t))) (λ t. of i j (g (eqb→eq k l t)))
  where
    of : (a b : ℕ) → a ≡ b → T (eqb a b)
    of a b e = subst (λ z. T (eqb a z)) e (eqb_refl a)

module _ {A : Type 0} (N : Addition A) where
  open N use {plus, nothing, plus_nothing, plus_comm, plus_assoc}

  -- g 0 + .. + g (n - 1), from the last
  unfoldable pub total : ℕ → (ℕ → A) → A
  total zero g = nothing
  total (suc n) g = plus (g n) (total n g)

  pub total_cong : (n : ℕ) (g h : ℕ → A) → ((i : ℕ) → i < n → g i ≡ h i) → total n g ≡ total n h
  unfolding total
  total_cong zero g h e = refl
  total_cong (suc n) g h e = ap₂ plus (e n (omega arith)) (total_cong n g h (λ i l. e i (omega arith)))

  -- from the first
  pub total_first : (n : ℕ) (g : ℕ → A) → total (suc n) g ≡ plus (g 0) (total n (λ i. g (suc i)))
  unfolding total
  total_first zero g = refl
  total_first (suc n) g = ap (plus (g (suc n))) (total_first n g) ∙ plus_swap N (g (suc n)) (g 0) _

  total_nothing : (n : ℕ) → total n (λ i. nothing) ≡ nothing
  unfolding total
  total_nothing zero = refl
  total_nothing (suc n) = plus_nothing _ ∙ total_nothing n

  total_plus : (n : ℕ) (g h : ℕ → A) → total n (λ i. plus (g i) (h i)) ≡ plus (total n g) (total n h)
  unfolding total
  total_plus zero g h = sym (plus_nothing nothing)
  total_plus (suc n) g h = ap (plus (plus (g n) (h n))) (total_plus n g h)
      ∙ plus_assoc (g n) (h n) _
      ∙ ap (plus (g n)) (plus_swap N (h n) (total n g) (total n h))
      ∙ sym (plus_assoc (g n) (total n g) _)

  total_exchange : (n m : ℕ) (h : ℕ → ℕ → A)
      → total n (λ i. total m (λ j. h i j)) ≡ total m (λ j. total n (λ i. h i j))
  unfolding total
  total_exchange zero m h = sym (total_nothing m)
  total_exchange (suc n) m h = ap (plus (total m (h n))) (total_exchange n m h)
      ∙ sym (total_plus m (h n) (λ j. total n (λ i. h i j)))

  -- ---- only one counts
  total_none : (n c : ℕ) (x : A) → ((i : ℕ) → i < n → i ≡ c → ⊥) → total n (λ i. if_so N (eqb i c) x) ≡ nothing
  unfolding if_so
  total_none n c x h = total_cong n (λ i. if_so N (eqb i c) x) (λ i. nothing)
      (λ i l. ap (λ b. if_so N b x) (ne_eqb i c (h i l))) ∙ total_nothing n

  total_pick : (n c : ℕ) (x : A) → c < n → total n (λ i. if_so N (eqb i c) x) ≡ x
  unfolding total if_so
  total_pick zero c x l = absurd (omega arith)
  total_pick (suc n) c x l = go (eqb n c) refl (λ k. total_pick n c x k)
    where
      rest : A
      rest = total n (λ i. if_so N (eqb i c) x)

      other : eqb n c ≡ false → n ≡ c → ⊥
      other e q = subst T e (subst (λ k. T (eqb n k)) q (eqb_refl n))

      go : (b : Bool) → eqb n c ≡ b → (c < n → rest ≡ x) → plus (if_so N b x) rest ≡ x
      go true e ih = let q : n ≡ c = eqb→eq n c (subst T (sym e) tt) in
          ap (plus x) (total_none n c x (λ i k p. omega arith)) ∙ plus_comm x nothing ∙ plus_nothing x
      go false e ih = plus_nothing rest ∙ ih (omega (arith, other e))

  -- ---- the law: a double sum over pairs that belong together, exchanged
  pub total_reordered : {n : ℕ} (ρ : Reordering n) (g : ℕ → A) → total n (λ j. g (ρ.from j)) ≡ total n g
  total_reordered {n} ρ g =
      total_cong n (λ j. g (ρ.from j)) (λ j. total n (λ i. if_so N (eqb i (ρ.from j)) (g i)))
      (λ j l. sym (picked j l))
      ∙ total_exchange n n (λ j i. if_so N (eqb i (ρ.from j)) (g i))
      ∙ total_cong n (λ i. total n (λ j. if_so N (eqb i (ρ.from j)) (g i))) g (λ i l. found i l)
    where
      picked : (j : ℕ) → j < n → total n (λ i. if_so N (eqb i (ρ.from j)) (g i)) ≡ g (ρ.from j)
      picked j l = total_cong n (λ i. if_so N (eqb i (ρ.from j)) (g i))
          (λ i. if_so N (eqb i (ρ.from j)) (g (ρ.from j))) (λ i k. same i (eqb i (ρ.from j)) (eqb→eq i (ρ.from j)))
          ∙ total_pick n (ρ.from j) (g (ρ.from j)) (ρ.from_inside j l)
        where
          same : (i : ℕ) (b : Bool) → (T b → i ≡ ρ.from j) → if_so N b (g i) ≡ if_so N b (g (ρ.from j))
          same i true h = ap (λ k. if_so N true (g k)) (h tt)
          same i false h = unfold if_so in refl

      found : (i : ℕ) → i < n → total n (λ j. if_so N (eqb i (ρ.from j)) (g i)) ≡ g i
      found i l = total_cong n (λ j. if_so N (eqb i (ρ.from j)) (g i)) (λ j. if_so N (eqb j (ρ.to i)) (g i))
          (λ j k. ap (λ b. if_so N b (g i)) (eqb_same i (ρ.from j) j (ρ.to i)
          (λ e. sym (ρ.to_from j k) ∙ ap ρ.to (sym e)) (λ e. sym (ρ.from_to i l) ∙ ap ρ.from (sym e))))
          ∙ total_pick n (ρ.to i) (g i) (ρ.to_inside i l)
