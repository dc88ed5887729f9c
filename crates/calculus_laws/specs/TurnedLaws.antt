-- Lists of terms with all signs turned: what does not see the sign stays, and the rest turns with it.
use Rattle.std.specs.Prelude.{◌≡◌, Bool, true, false, List, [], ◌∷◌, ◌++◌, ℕ, ℤ, neg_ℤ, nat_abs, ◌+ℤ◌, ◌*ℤ◌, length}
use Rattle.std.proofs.Math.Path.{refl}
use Rattle.std.proofs.Common.{sym, ◌∙◌, ap, ap₂}
use Rattle.std.proofs.Math.IntN.{neg_ℤ-neg_ℤ}
use Rattle.std.proofs.lemmas.List.{length-map}
use Rattle.algebra.specs.Integer.{natAbs_neg}
use Rattle.algebra.specs.IntegerRing.{ℤR}
use Rattle.algebra.specs.RingSolver.{◌⊞◌, ◌⊠◌, ⊝◌, ring}
use Rattle.polynomial.specs.Polynomial.{Term, add_exponents, times, product}
use Rattle.calculus.specs.Monomial.{same, less}
use Rattle.calculus.specs.Terms.{Terms, term, select, size, map_coefficients, insert, collect}
use Rattle.calculus_laws.specs.SumLaws.{ℕ_addition, sum_map_coefficients, sum_cong}

-- ---- terms with all signs turned
-- one term
abbrev pub turn : Term ℤ → Term ℤ
turn t = term (neg_ℤ t.coefficient) t.exponents

-- all terms
abbrev pub turned : Terms → Terms
turned = map_coefficients neg_ℤ

-- a sum of what does not see the sign
pub size_turned : (p : Terms) → size (turned p) ≡ size p
unfolding size
size_turned p = sum_map_coefficients ℕ_addition (λ k c. nat_abs c) neg_ℤ p
    ∙ sum_cong ℕ_addition _ (λ k c. nat_abs c) (λ k c. natAbs_neg c) p

pub length_turned : (p : Terms) → length (turned p) ≡ length p
unfolding map_coefficients
length_turned p = length-map p _

pub turned_twice : (p : Terms) → turned (turned p) ≡ p
unfolding map_coefficients
turned_twice [] = refl
turned_twice (t ∷ p) = ap₂ ◌∷◌ (λ i. term (neg_ℤ-neg_ℤ t.coefficient i) t.exponents) (turned_twice p)

turned-++ : (p q : Terms) → turned (p ++ q) ≡ turned p ++ turned q
unfolding map_coefficients
turned-++ [] q = refl
turned-++ (t ∷ p) q = ap (λ r. turn t ∷ r) (turned-++ p q)

-- selecting by a test that does not see the sign
pub select_turned : (f : List ℕ → ℤ → Bool) → ((k : List ℕ) (c : ℤ) → f k (neg_ℤ c) ≡ f k c)
    → (p : Terms) → select f (turned p) ≡ turned (select f p)
unfolding select map_coefficients
select_turned f e [] = refl
select_turned f e (t ∷ p) =
    ap (λ b. elim b as (λ b. Terms) [ true ↦ turn t ∷ select f (turned p) | false ↦ select f (turned p) ])
    (e t.exponents t.coefficient)
    ∙ go (f t.exponents t.coefficient) (select_turned f e p)
  where
    go : (b : Bool) → select f (turned p) ≡ turned (select f p)
        → elim b as (λ b. Terms) [ true ↦ turn t ∷ select f (turned p) | false ↦ select f (turned p) ]
        ≡ turned (elim b as (λ b. Terms) [ true ↦ t ∷ select f p | false ↦ select f p ])
    go true ih = ap (λ q. turn t ∷ q) ih
    go false ih = ih

-- collecting
insert_turned : (t : Term ℤ) (p : Terms) → insert (turn t) (turned p) ≡ turned (insert t p)
unfolding insert map_coefficients
insert_turned t [] = refl
insert_turned t (s ∷ p) =
    go (same t.exponents s.exponents) (less t.exponents s.exponents) (insert_turned t p)
  where
    joined : neg_ℤ t.coefficient +ℤ neg_ℤ s.coefficient ≡ neg_ℤ (t.coefficient +ℤ s.coefficient)
    joined = ring 2 ℤR (λ a b. ⊝ a ⊞ ⊝ b) (λ a b. ⊝ (a ⊞ b)) refl t.coefficient s.coefficient

    go : (b c : Bool) → insert (turn t) (turned p) ≡ turned (insert t p)
        → elim b as (λ b. Terms) [
          | true ↦ term (neg_ℤ t.coefficient +ℤ neg_ℤ s.coefficient) s.exponents ∷ turned p
          | false ↦ elim c as (λ c. Terms) [
            | true ↦ turn t ∷ (turn s ∷ turned p)
            | false ↦ turn s ∷ insert (turn t) (turned p)
          ]
        ]
        ≡ turned (elim b as (λ b. Terms) [
          | true ↦ term (t.coefficient +ℤ s.coefficient) s.exponents ∷ p
          | false ↦ elim c as (λ c. Terms) [ true ↦ t ∷ (s ∷ p) | false ↦ s ∷ insert t p ]
        ])
    go true c ih = ap (λ z. term z s.exponents ∷ turned p) joined
    go false true ih = refl
    go false false ih = ap (λ q. turn s ∷ q) ih

pub collect_turned : (p : Terms) → collect (turned p) ≡ turned (collect p)
unfolding collect map_coefficients
collect_turned [] = refl
collect_turned (t ∷ p) = ap (insert (turn t)) (collect_turned p) ∙ insert_turned t (collect p)

-- ---- products
-- a factor's signs are the product's: those of the first,
neg_times : (a b : ℤ) → neg_ℤ a *ℤ b ≡ neg_ℤ (a *ℤ b)
neg_times a b = ring 2 ℤR (λ a b. ⊝ a ⊠ b) (λ a b. ⊝ (a ⊠ b)) refl a b

times_turned_first : (t : Term ℤ) (q : Terms) → times ℤR (turn t) q ≡ turned (times ℤR t q)
unfolding times map_coefficients
times_turned_first t [] = refl
times_turned_first t (s ∷ q) = ap₂ (λ z r. term z (add_exponents t.exponents s.exponents) ∷ r)
    (neg_times t.coefficient s.coefficient) (times_turned_first t q)

pub product_turned_first : (p q : Terms) → product ℤR (turned p) q ≡ turned (product ℤR p q)
unfolding product map_coefficients
product_turned_first [] q = refl
product_turned_first (t ∷ p) q =
    ap₂ ◌++◌ (times_turned_first t q) (product_turned_first p q) ∙ sym (turned-++ (times ℤR t q) (product ℤR p q))

-- and those of the second
times_neg : (a b : ℤ) → a *ℤ neg_ℤ b ≡ neg_ℤ (a *ℤ b)
times_neg a b = ring 2 ℤR (λ a b. a ⊠ ⊝ b) (λ a b. ⊝ (a ⊠ b)) refl a b

times_turned_second : (t : Term ℤ) (q : Terms) → times ℤR t (turned q) ≡ turned (times ℤR t q)
unfolding times map_coefficients
times_turned_second t [] = refl
times_turned_second t (s ∷ q) = ap₂ (λ z r. term z (add_exponents t.exponents s.exponents) ∷ r)
    (times_neg t.coefficient s.coefficient) (times_turned_second t q)

pub product_turned_second : (p q : Terms) → product ℤR p (turned q) ≡ turned (product ℤR p q)
unfolding product
product_turned_second [] q = unfold map_coefficients in refl
product_turned_second (t ∷ p) q =
    ap₂ ◌++◌ (times_turned_second t q) (product_turned_second p q) ∙ sym (turned-++ (times ℤR t q) (product ℤR p q))
