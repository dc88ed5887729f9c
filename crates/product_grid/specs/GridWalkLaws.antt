-- The sums in a grid in the order in which they are looked at: their keys rise, and each is at its place.
use Rattle.std.specs.Prelude.{◌≡◌, Bool, true, false, not, List, [], ◌∷◌, ◌++◌, ℕ, zero, suc, ◌+◌, ◌-◌, ◌*◌, ◌^◌, ◌<◌, ◌≤◌, T, ℤ, pos, get_or}
use Rattle.std.proofs.Common.{refl, ap, arith, lt→ltb}
use Rattle.std.proofs.Math.Decide.{ℕ_discrete}
use Rattle.algebra.specs.Lexicographic.{same, less}
use Rattle.algebra.specs.LexicographicLaws.{same_refl}
use Rattle.polynomial.specs.Polynomial.{Term}
use Rattle.calculus.specs.Terms.{Terms, rising_from, rising, absent}
use Rattle.calculus_laws.specs.TestLaws.{both}
use Rattle.calculus_laws.specs.TermsLaws.{every_head, every_tail}
use Rattle.product_sums.specs.TermArrays.{at_key}
use Rattle.product_sums.specs.InsertLaws.{less_key}
use Rattle.product_grid_scan.specs.product_rising.Rising.{in_turn}
use Rattle.product_grid_scan.specs.GridTerms.{steps_within, first_step, second_step, third_step, fourth_step}
use Rattle.product_grid_scan.specs.GridTerms.{row_terms, line_terms, plane_terms, grid_terms}
use Rattle.product_grid_scan.specs.GridTermsLaws.{steps_left}

-- ---- keys that rise, from the least on and below the end
pub data Rises (end : ℕ) : ℕ → Terms → Type 0 where
  none : (least : ℕ) → least ≤ end → Rises end least []
  more : (least x : ℕ) (z : ℤ) (p : Terms) → least ≤ x → Rises end (x + 1) p → Rises end least (at_key x z ∷ p)

rises_lower : (end l m : ℕ) (p : Terms) → l ≤ m → Rises end m p → Rises end l p
rises_lower end l _ _ h (none m g) = none l (omega arith)
rises_lower end l _ _ h (more m x z p g r) = more l x z p (omega arith) r

rises_higher : (d e l : ℕ) (p : Terms) → d ≤ e → Rises d l p → Rises e l p
rises_higher d e _ _ h (none l g) = none l (omega arith)
rises_higher d e _ _ h (more l x z p g r) = more l x z p g (rises_higher d e (x + 1) p h r)

rises_append : (d e l : ℕ) (p q : Terms) → Rises d l p → Rises e d q → Rises e l (p ++ q)
rises_append d e _ _ q (none l g) s = rises_lower e l d q g s
rises_append d e _ _ q (more l x z p g r) s = more l x z (p ++ q) g (rises_append d e (x + 1) p q r s)

-- parts one after the other, each from its own key on
rises_in_turn : (key : ℕ → ℕ) (part : ℕ → Terms) (n : ℕ)
    → ((i : ℕ) → i < n → Rises (key (suc i)) (key i) (part i)) → Rises (key n) (key 0) (in_turn part n)
unfolding in_turn
rises_in_turn key part zero f = none (key 0) (omega arith)
rises_in_turn key part (suc n) f =
    rises_append (key n) (key (suc n)) (key 0) (in_turn part n) (part n)
    (rises_in_turn key part n (λ i h. f i (omega arith))) (f n (omega arith))

rising_on : (end k l : ℕ) (p : Terms) → l ≡ k + 1 → Rises end l p → T (rising_from (k ∷ []) p)
unfolding rising_from
rising_on end k _ _ e (none l g) = tt
rising_on end k _ _ e (more l x z p g r) =
    both (less (k ∷ []) (x ∷ [])) _ (rw (less_key k x) (lt→ltb k x (omega (arith, e))))
    (rising_on end x (x + 1) p refl r)

rising_after : (end k : ℕ) (p : Terms) → Rises end (k + 1) p → T (rising_from (k ∷ []) p)
rising_after end k p r = rising_on end k (k + 1) p refl r

pub rises_rising : (end least : ℕ) (p : Terms) → Rises end least p → T (rising p)
unfolding rising
rises_rising end _ _ (none l g) = tt
rises_rising end _ _ (more l x z p g r) = rising_after end x p r

module _ (sums : List ℤ) (degrees : List ℕ) (short : (i : ℕ) → get_or degrees i 0 < 2 ^ 8) where
  row_rises : (at n key : ℕ) → Rises (key + fourth_step * n) key (row_terms sums degrees at n key)
  row_rises at n key =
      rises_lower _ key _ _ (omega arith)
      (rises_in_turn (λ i. key + fourth_step * i) _ n
      (λ i h. more _ _ _ _ (omega arith) (none _ (omega (arith, short (at + i))))))

  line_rises : (fourth at n key left : ℕ) → left < 127
      → Rises (key + third_step * n) key (line_terms sums degrees fourth at n key left)
  line_rises fourth at n key left l =
      rises_lower _ key _ _ (omega arith)
      (rises_in_turn (λ i. key + third_step * i) _ n
      (λ i h.
      rises_higher _ _ _ _ (omega (arith, steps_left fourth (left - i)))
      (row_rises ((at + i) * fourth) (steps_within fourth (left - i)) (key + third_step * i))))

  plane_rises : (third fourth at n key left : ℕ) → left < 127
      → Rises (key + second_step * n) key (plane_terms sums degrees third fourth at n key left)
  plane_rises third fourth at n key left l =
      rises_lower _ key _ _ (omega arith)
      (rises_in_turn (λ i. key + second_step * i) _ n
      (λ i h.
      rises_higher _ _ _ _ (omega (arith, steps_left third (left - i)))
      (line_rises fourth ((at + i) * third) (steps_within third (left - i)) (key + second_step * i) (left - i)
      (omega arith))))

  pub grid_rises : (first second third fourth most : ℕ) → most < 127
      → T (rising (grid_terms sums degrees first second third fourth most))
  grid_rises first second third fourth most l =
      rises_rising _ _ _
      (rises_in_turn (λ i. first_step * i) _ (steps_within first most)
      (λ i h.
      rises_higher _ _ _ _ (omega (arith, steps_left second (most - i)))
      (plane_rises third fourth (i * second) (steps_within second (most - i)) (first_step * i) (most - i)
      (omega arith))))

-- ---- what holds of each term
pub data Keyed (P : ℕ → ℤ → Type 0) : Terms → Type 0 where
  none : Keyed P []
  more : (x : ℕ) (z : ℤ) (p : Terms) → P x z → Keyed P p → Keyed P (at_key x z ∷ p)

pub keyed_append : (P : ℕ → ℤ → Type 0) (p q : Terms) → Keyed P p → Keyed P q → Keyed P (p ++ q)
keyed_append P _ q none b = b
keyed_append P _ q (more x z p h a) b = more x z (p ++ q) h (keyed_append P p q a b)

keyed_in_turn : (P : ℕ → ℤ → Type 0) (part : ℕ → Terms) (n : ℕ) → ((i : ℕ) → i < n → Keyed P (part i))
    → Keyed P (in_turn part n)
unfolding in_turn
keyed_in_turn P part zero f = none
keyed_in_turn P part (suc n) f =
    keyed_append P (in_turn part n) (part n) (keyed_in_turn P part n (λ i h. f i (omega arith))) (f n (omega arith))

-- ---- a monomial that stands among terms
pub data Among (k : List ℕ) : Terms → Type 0 where
  here : (x : ℕ) (z : ℤ) (p : Terms) → k ≡ x ∷ [] → Among k (at_key x z ∷ p)
  later : (t : Term ℤ) (p : Terms) → Among k p → Among k (t ∷ p)

among_left : (k : List ℕ) (p q : Terms) → Among k p → Among k (p ++ q)
among_left k _ q (here x z p e) = here x z (p ++ q) e
among_left k _ q (later t p a) = later t (p ++ q) (among_left k p q a)

among_right : (k : List ℕ) (p q : Terms) → Among k q → Among k (p ++ q)
among_right k [] q a = a
among_right k (t ∷ p) q a = later t (p ++ q) (among_right k p q a)

among_in_turn : (k : List ℕ) (part : ℕ → Terms) (n i : ℕ) → i < n → Among k (part i) → Among k (in_turn part n)
unfolding in_turn
among_in_turn k part zero i h a = absurd (omega arith)
among_in_turn k part (suc n) i h a = elim (ℕ_discrete i n) [
  | yes c ↦ among_right k (in_turn part n) (part n) (rw c at a)
  | no c ↦ among_left k (in_turn part n) (part n) (among_in_turn k part n i (omega arith) a)
]

pub among_absent : (k : List ℕ) (p : Terms) → Among k p → T (absent k p) → ⊥
unfolding absent
among_absent k _ (here x z p e) h =
    let n : T (not (same k (x ∷ []))) = every_head (λ j c. not (same k j)) (at_key x z) p h in
    go (same k (x ∷ [])) (rw e (same_refl (x ∷ []))) n
  where
    go : (b : Bool) → T b → T (not b) → ⊥
    go true y m = m
    go false y m = y
among_absent k _ (later t p a) h = among_absent k p a (every_tail (λ j c. not (same k j)) t p h)

-- ---- exponents, their key without a degree, and their place
abbrev pub key_of : (a b c d : ℕ) → ℕ
key_of a b c d = first_step * a + second_step * b + third_step * c + fourth_step * d

-- those that are looked at
pub record Seen (first second third fourth most a b c d : ℕ) : Type 0 where
  pub in_first : a < steps_within first most
  pub in_second : b < steps_within second (most - a)
  pub in_third : c < steps_within third (most - a - b)
  pub in_fourth : d < steps_within fourth (most - a - b - c)

module _ (sums : List ℤ) (degrees : List ℕ) (first second third fourth most : ℕ) where
  pub grid_keyed : (P : ℕ → ℤ → Type 0)
      → ((a b c d : ℕ) → Seen first second third fourth most a b c d
      → let i = ((a * second + b) * third + c) * fourth + d in
      P (key_of a b c d + get_or degrees i 0) (get_or sums i (pos 0)))
      → Keyed P (grid_terms sums degrees first second third fourth most)
  grid_keyed P f =
      keyed_in_turn P _ _ (λ a ha. keyed_in_turn P _ _
      (λ b hb. keyed_in_turn P _ _ (λ c hc. keyed_in_turn P _ _ (λ d hd.
      more _ _ _ (f a b c d (record { in_first = ha; in_second = hb; in_third = hc; in_fourth = hd })) none))))

  pub grid_among : (x a b c d : ℕ) → Seen first second third fourth most a b c d
      → x ≡ key_of a b c d + get_or degrees (((a * second + b) * third + c) * fourth + d) 0
      → Among (x ∷ []) (grid_terms sums degrees first second third fourth most)
  grid_among x a b c d s e =
      among_in_turn _ _ _ a s.in_first (among_in_turn _ _ _ b s.in_second (among_in_turn _ _ _ c s.in_third
      (among_in_turn _ _ _ d s.in_fourth (here _ _ _ (ap (λ k. k ∷ []) e)))))
