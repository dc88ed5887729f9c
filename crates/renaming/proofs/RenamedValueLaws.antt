-- A renamed model is the same function of the renamed point: what a renaming means.
use Rattle.std.specs.Prelude.{◌≡◌, List, [], ◌∷◌, ℕ, zero, suc, ◌<◌, ℤ, pos, length, get_or}
use Rattle.std.proofs.Math.Path.{refl, ap}
use Rattle.std.proofs.Common.{sym, ◌∙◌, ap₂, arith, eqb→eq}
use Rattle.algebra.specs.Ring.{pow}
use Rattle.algebra.specs.Ordered.{abs}
use Rattle.algebra.proofs.Rational.{ℚ, ◌+ℚ◌, ◌*ℚ◌, ◌≤ℚ◌, whole}
use Rattle.algebra.proofs.RationalRing.{ℚR}
use Rattle.algebra.proofs.RationalOrder.{ℚO}
use Rattle.polynomial.specs.Polynomial.{exponent, monomial, eval}
use Rattle.polynomial.specs.Box.{none, more}
use Rattle.calculus.specs.Terms.{Terms, sum_over}
use Rattle.calculus.specs.Model.{Model, ◌/U, Point, InBox, polynomial, value}
use Rattle.calculus_laws.specs.SumLaws.{Addition, ℚ_addition, sum}
use Rattle.calculus_laws.specs.SoundLaws.{Canonical}
use Rattle.renaming.specs.Reordering.{Reordering, tabulate, rename, rename_point, rename_model}
use Rattle.renaming.specs.TotalLaws.{total, total_cong, total_first, total_reordered}
use Rattle.renaming.specs.ExponentLaws.{length_tabulate, element_tabulate}
use Rattle.renaming.proofs.RenamedMonomialLaws.{length_rename, exponent_from}
use Rattle.renaming.specs.TermSumLaws.{sum_agree}
use Rattle.renaming.proofs.RenamedTermsLaws.{InOrder, long, sum_renamed}
use Rattle.renaming.proofs.RenamedModelLaws.{canonical_in_order}
open ℚR use {1#, *-one, *-comm, *-assoc}

-- the product of fractions
abbrev pub ℚ_product : Addition ℚ
ℚ_product = record {
  plus = ◌*ℚ◌;
  nothing = 1#;
  plus_nothing = λ x. *-comm 1# x ∙ *-one x;
  plus_comm = *-comm;
  plus_assoc = *-assoc;
}

-- the coordinate of variable i, counted from 0
abbrev coordinate : ℕ → Point → ℚ
coordinate i x = get_or x i (whole (pos 0))

-- ---- a monomial is a product over the variables
monomial_total : (n : ℕ) (k : List ℕ) (x : Point) → length k ≡ n → length x ≡ n
    → monomial ℚR k x ≡ total ℚ_product n (λ i. pow ℚR (coordinate i x) (exponent i k))
unfolding monomial exponent
monomial_total zero [] x h g = unfold total in refl
monomial_total zero (e ∷ k) x h g = absurd (omega arith)
monomial_total (suc n) [] x h g = absurd (omega arith)
monomial_total (suc n) (e ∷ k) [] h g = absurd (omega arith)
monomial_total (suc n) (e ∷ k) (y ∷ x) h g =
    ap (pow ℚR y e *ℚ◌) (monomial_total n k x (omega arith) (omega arith))
    ∙ sym (total_first ℚ_product n (λ i. pow ℚR (coordinate i (y ∷ x)) (exponent i (e ∷ k))))

module _ {n : ℕ} (ρ : Reordering n) (x : Point) where
  -- ---- the renamed point
  length_point : length (rename_point ρ x) ≡ n
  unfolding rename_point
  length_point = length_tabulate n (λ j. coordinate (ρ.from j) x)

  coordinate_from : (j : ℕ) → j < n → coordinate j (rename_point ρ x) ≡ coordinate (ρ.from j) x
  unfolding rename_point
  coordinate_from j h = element_tabulate n (λ j. coordinate (ρ.from j) x) (whole (pos 0)) j h

  monomial_renamed : length x ≡ n → (k : List ℕ) → length k ≡ n
      → monomial ℚR (rename ρ k) (rename_point ρ x) ≡ monomial ℚR k x
  monomial_renamed g k h = monomial_total n (rename ρ k) (rename_point ρ x) (length_rename ρ k) length_point
      ∙ total_cong ℚ_product n _ (λ j. pow ℚR (coordinate (ρ.from j) x) (exponent (ρ.from j) k))
      (λ j l. ap₂ (pow ℚR) (coordinate_from j l) (exponent_from ρ k j l))
      ∙ total_reordered ℚ_product ρ (λ i. pow ℚR (coordinate i x) (exponent i k))
      ∙ sym (monomial_total n k x h g)

-- ---- the box
box_at : (n : ℕ) (x : Point) → InBox n x → (i : ℕ) → i < n → abs ℚO (coordinate i x) ≤ℚ 1#
box_at zero x b i h = absurd (omega arith)
box_at (suc n) [] b i h = elim b [ ]
box_at (suc n) (y ∷ x) (more l b) zero h = l
box_at (suc n) (y ∷ x) (more l b) (suc i) h = box_at n x b i (omega arith)

box_of : (n : ℕ) (f : ℕ → ℚ) → ((i : ℕ) → i < n → abs ℚO (f i) ≤ℚ 1#) → InBox n (tabulate n f)
unfolding tabulate
box_of zero f h = none
box_of (suc n) f h = more (h 0 (omega arith)) (box_of n (λ i. f (suc i)) (λ i l. h (suc i) (omega arith)))

-- a renamed point of the box is one
pub box_renamed : (n : ℕ) (ρ : Reordering n) (x : Point) → InBox n x → InBox n (rename_point ρ x)
unfolding rename_point
box_renamed n ρ x b = box_of n (λ j. coordinate (ρ.from j) x)
    (λ j h. box_at n x b (ρ.from j) (ρ.from_inside j h))

-- ---- the value
-- of one term
abbrev worth : Point → List ℕ → ℤ → ℚ
worth x k c = c /U *ℚ monomial ℚR k x

value_sum : (m : Model) (x : Point) → value m x ≡ sum ℚ_addition (worth x) m.terms
unfolding value polynomial eval sum_over
value_sum m x = go m.terms
  where
    go : (p : Terms) → eval ℚR (polynomial (record { vars = m.vars; radius = m.radius; terms = p })) x
        ≡ sum ℚ_addition (worth x) p
    go [] = refl
    go (t ∷ p) = ap (worth x t.exponents t.coefficient +ℚ◌) (go p)

pub value_renamed : (n d : ℕ) (m : Model) → Canonical n d m → (ρ : Reordering n) (x : Point) → length x ≡ n
    → value (rename_model ρ m) (rename_point ρ x) ≡ value m x
value_renamed n d m c ρ x g = value_sum (rename_model ρ m) (rename_point ρ x)
    ∙ moved ∙ sym (value_sum m x)
  where
    o : InOrder n m.terms
    o = canonical_in_order c

    moved : sum ℚ_addition (worth (rename_point ρ x)) (rename_model ρ m).terms ≡ sum ℚ_addition (worth x) m.terms
    moved = unfold rename_model in (sum_renamed ρ m.terms o ℚ_addition (worth (rename_point ρ x))
        ∙ sum_agree ℚ_addition (λ k c. long n k) _ (worth x)
        (λ k c t. ap (c /U *ℚ◌) (monomial_renamed ρ x g k (eqb→eq (length k) n t))) m.terms o.all_long)
