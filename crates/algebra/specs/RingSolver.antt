-- Identities of commutative rings by computation: two expressions with one normal form have one value in every ring.
use Rattle.std.specs.Prelude.{◌≡◌, Bool, ℕ, zero, suc, T, leb}
use Rattle.std.proofs.Math.Path.{refl, sym, ap, ap₂}
use Rattle.std.proofs.Common.{◌∙◌}
use Rattle.std.proofs.Math.Bool.{true, false}
use mathlib.Core.List.{List, [], ◌∷◌}
use Prim.Native.Nat as N
use Rattle.algebra.specs.Lexicographic.{same, less}
use Rattle.algebra.specs.LexicographicLaws.{same_ok}
use Rattle.algebra.specs.Ring.{Ring, nat}
use Rattle.algebra.specs.RingLaws.{+-lcomm, *-lcomm, zero-+, distl, +-cancel, zero-*, *-zero, one-*, nat_one}
use Rattle.algebra.specs.RingLaws.{difference_add, difference_mul, difference_neg, nat_add, nat_mul}

-- ---- expressions and their normal forms
infixl 60 ◌⊞◌ ◌⊟◌
infixl 70 ◌⊠◌
infix 80 ⊝◌
-- a ring expression in numbered variables
pub data Expr : Type 0 where
  var : ℕ → Expr
  𝟎 𝟏 : Expr
  ◌⊞◌ : Expr → Expr → Expr
  ◌⊠◌ : Expr → Expr → Expr
  ⊝◌ : Expr → Expr

-- a − b
abbrev pub ◌⊟◌ : Expr → Expr → Expr
a ⊟ b = a ⊞ ⊝ b

-- a monomial is the sorted list of its variables: one more variable
abbrev pub insert_variable : ℕ → List ℕ → List ℕ
insert_variable v [] = v ∷ []
insert_variable v (w ∷ l) = elim (leb v w) [ true ↦ v ∷ (w ∷ l) | false ↦ w ∷ insert_variable v l ]

-- the product of two monomials
abbrev pub monomial_times : List ℕ → List ℕ → List ℕ
monomial_times [] l = l
monomial_times (v ∷ k) l = insert_variable v (monomial_times k l)

-- a sum of monomials with natural coefficients, in order
pub data Form : Type 0 where
  nil : Form
  term : ℕ → List ℕ → Form → Form

-- c times the monomial m, added in its place
abbrev pub insert_term : ℕ → List ℕ → Form → Form
insert_term c m nil = term c m nil
insert_term c m (term d n p) = elim (same m n) [
  | true ↦ term (N.◌+◌ c d) n p
  | false ↦ elim (less m n) [ true ↦ term c m (term d n p) | false ↦ term d n (insert_term c m p) ]
]

-- the sum
abbrev pub form_plus : Form → Form → Form
form_plus nil q = q
form_plus (term c m p) q = insert_term c m (form_plus p q)

-- c times the monomial m, times a form
abbrev pub form_scale : ℕ → List ℕ → Form → Form
form_scale c m nil = nil
form_scale c m (term d n p) = insert_term (N.◌*◌ c d) (monomial_times m n) (form_scale c m p)

-- the product
abbrev pub form_times : Form → Form → Form
form_times nil q = nil
form_times (term c m p) q = form_plus (form_scale c m q) (form_times p q)

-- what an expression is: a difference of two forms
abbrev pub Difference : Type 0
Difference = record { positive : Form; negative : Form }

-- the product of two differences
abbrev pub difference_times : Difference → Difference → Difference
difference_times a b = record {
  positive = form_plus (form_times a.positive b.positive) (form_times a.negative b.negative);
  negative = form_plus (form_times a.positive b.negative) (form_times a.negative b.positive);
}

-- the difference that an expression is
abbrev pub normalize : Expr → Difference
normalize (var v) = record { positive = term 1 (v ∷ []) nil; negative = nil }
normalize 𝟎 = record { positive = nil; negative = nil }
normalize 𝟏 = record { positive = term 1 [] nil; negative = nil }
normalize (e ⊞ f) = record {
  positive = form_plus (normalize e).positive (normalize f).positive;
  negative = form_plus (normalize e).negative (normalize f).negative;
}
normalize (e ⊠ f) = difference_times (normalize e) (normalize f)
normalize (⊝ e) = record { positive = (normalize e).negative; negative = (normalize e).positive }

-- two expressions have one normal form: by refl, where they are written out
abbrev pub SameForm : Expr → Expr → Type 0
SameForm e f = form_plus (normalize e).positive (normalize f).negative
    ≡ form_plus (normalize f).positive (normalize e).negative

-- ---- what they mean in a ring
module _ (R : Ring) where
  open R use {Carrier, 0#, 1#, ◌+◌, ◌*◌, neg, +_assoc, +_comm, +-zero, *-assoc, *-one, dist}

  infixl 60 ◌+◌
  infixl 70 ◌*◌
  -- the value of an expression
  abbrev pub ⟦◌⟧ : Expr → (ℕ → Carrier) → Carrier
  ⟦◌⟧ (var v) ρ = ρ v
  ⟦◌⟧ 𝟎 ρ = 0#
  ⟦◌⟧ 𝟏 ρ = 1#
  ⟦◌⟧ (e ⊞ f) ρ = ⟦◌⟧ e ρ + ⟦◌⟧ f ρ
  ⟦◌⟧ (e ⊠ f) ρ = ⟦◌⟧ e ρ * ⟦◌⟧ f ρ
  ⟦◌⟧ (⊝ e) ρ = neg (⟦◌⟧ e ρ)

  module _ (ρ : ℕ → Carrier) where
    monomial_value : List ℕ → Carrier
    monomial_value [] = 1#
    monomial_value (v ∷ l) = ρ v * monomial_value l

    form_value : Form → Carrier
    form_value nil = 0#
    form_value (term c m p) = nat R c * monomial_value m + form_value p

    insert_variable_ok : (v : ℕ) (l : List ℕ) → monomial_value (insert_variable v l) ≡ ρ v * monomial_value l
    unfolding monomial_value
    insert_variable_ok v [] = refl
    insert_variable_ok v (w ∷ l) = go (leb v w) (insert_variable_ok v l)
      where
        go : (b : Bool) → monomial_value (insert_variable v l) ≡ ρ v * monomial_value l
            → monomial_value (elim b [ true ↦ v ∷ (w ∷ l) | false ↦ w ∷ insert_variable v l ])
            ≡ ρ v * (ρ w * monomial_value l)
        go true h = refl
        go false h = ap (λ x. ρ w * x) h ∙ *-lcomm R (ρ w) (ρ v) (monomial_value l)

    monomial_times_ok : (k l : List ℕ) → monomial_value (monomial_times k l) ≡ monomial_value k * monomial_value l
    unfolding monomial_value
    monomial_times_ok [] l = sym (one-* R (monomial_value l))
    monomial_times_ok (v ∷ k) l = insert_variable_ok v (monomial_times k l)
        ∙ ap (λ x. ρ v * x) (monomial_times_ok k l)
        ∙ sym (*-assoc (ρ v) (monomial_value k) (monomial_value l))

    insert_term_ok : (c : ℕ) (m : List ℕ) (p : Form)
        → form_value (insert_term c m p) ≡ nat R c * monomial_value m + form_value p
    unfolding form_value
    insert_term_ok c m nil = refl
    insert_term_ok c m (term d n p) = go (same m n) (same_ok m n) (less m n) (insert_term_ok c m p)
      where
        go : (b : Bool) → (T b → m ≡ n) → (b' : Bool)
            → form_value (insert_term c m p) ≡ nat R c * monomial_value m + form_value p
            → form_value (elim b [
              | true ↦ term (N.◌+◌ c d) n p
              | false ↦ elim b' [ true ↦ term c m (term d n p) | false ↦ term d n (insert_term c m p) ]
            ])
            ≡ nat R c * monomial_value m + (nat R d * monomial_value n + form_value p)
        go true f b h = rw (f tt) (ap (λ x. x * monomial_value n + form_value p) (nat_add R c d)
            ∙ ap (λ x. x + form_value p) (dist _ _ _) ∙ +_assoc _ _ _)
        go false f true h = refl
        go false f false h = ap (λ x. nat R d * monomial_value n + x) h ∙ +-lcomm R _ _ _

    form_plus_ok : (p q : Form) → form_value (form_plus p q) ≡ form_value p + form_value q
    unfolding form_value
    form_plus_ok nil q = sym (zero-+ R (form_value q))
    form_plus_ok (term c m p) q = insert_term_ok c m (form_plus p q)
        ∙ ap (λ x. nat R c * monomial_value m + x) (form_plus_ok p q) ∙ sym (+_assoc _ _ _)

    term_times_ok : (c d : ℕ) (m n : List ℕ) → nat R (N.◌*◌ c d) * monomial_value (monomial_times m n)
        ≡ nat R c * monomial_value m * (nat R d * monomial_value n)
    term_times_ok c d m n = ap₂ ◌*◌ (nat_mul R c d) (monomial_times_ok m n) ∙ simp (*-assoc, *-lcomm R)

    form_scale_ok : (c : ℕ) (m : List ℕ) (p : Form)
        → form_value (form_scale c m p) ≡ nat R c * monomial_value m * form_value p
    unfolding form_value
    form_scale_ok c m nil = sym (*-zero R _)
    form_scale_ok c m (term d n p) = insert_term_ok (N.◌*◌ c d) (monomial_times m n) (form_scale c m p)
        ∙ ap₂ ◌+◌ (term_times_ok c d m n) (form_scale_ok c m p)
        ∙ sym (distl R (nat R c * monomial_value m) (nat R d * monomial_value n) (form_value p))

    form_times_ok : (p q : Form) → form_value (form_times p q) ≡ form_value p * form_value q
    unfolding form_value
    form_times_ok nil q = sym (zero-* R (form_value q))
    form_times_ok (term c m p) q = form_plus_ok (form_scale c m q) (form_times p q)
        ∙ ap₂ ◌+◌ (form_scale_ok c m q) (form_times_ok p q)
        ∙ sym (dist (nat R c * monomial_value m) (form_value p) (form_value q))

    one_ok : form_value (term 1 [] nil) ≡ 1#
    unfolding form_value monomial_value
    one_ok = simp (nat_one R, *-one, +-zero)

    variable_ok : (v : ℕ) → form_value (term 1 (v ∷ []) nil) ≡ ρ v
    unfolding form_value monomial_value
    variable_ok v = simp (nat_one R, *-one, one-* R, +-zero)

    -- an expression's value is the difference of its two forms
    sound : (e : Expr) → ⟦◌⟧ e ρ + form_value (normalize e).negative ≡ form_value (normalize e).positive
    unfolding form_value
    sound (var v) = +-zero (ρ v) ∙ sym (variable_ok v)
    sound 𝟎 = +-zero 0#
    sound 𝟏 = +-zero 1# ∙ sym one_ok
    sound (e ⊞ f) = simp form_plus_ok (difference_add R _ _ _ _ _ _ (sound e) (sound f))
    sound (e ⊠ f) = simp (form_plus_ok, form_times_ok) (difference_mul R _ _ _ _ _ _ (sound e) (sound f))
    sound (⊝ e) = difference_neg R _ _ _ (sound e)

    solve : (e f : Expr) → SameForm e f → ⟦◌⟧ e ρ ≡ ⟦◌⟧ f ρ
    solve e f h = +-cancel R (⟦◌⟧ e ρ) (⟦◌⟧ f ρ) (n₁ + n₂) (left ∙ ap form_value h ∙ sym right)
      where
        n₁ : Carrier
        n₁ = form_value (normalize e).negative

        n₂ : Carrier
        n₂ = form_value (normalize f).negative

        left : ⟦◌⟧ e ρ + (n₁ + n₂) ≡ form_value (form_plus (normalize e).positive (normalize f).negative)
        left = sym (+_assoc (⟦◌⟧ e ρ) n₁ n₂) ∙ ap (λ x. x + n₂) (sound e) ∙ sym (form_plus_ok _ _)

        right : ⟦◌⟧ f ρ + (n₁ + n₂) ≡ form_value (form_plus (normalize f).positive (normalize e).negative)
        right = ap (λ x. ⟦◌⟧ f ρ + x) (+_comm n₁ n₂) ∙ sym (+_assoc (⟦◌⟧ f ρ) n₂ n₁) ∙ ap (λ x. x + n₁) (sound f)
            ∙ sym (form_plus_ok _ _)

  -- the values of the variables from 0 on
  abbrev pub environment : List Carrier → ℕ → Carrier
  environment [] n = 0#
  environment (x ∷ l) zero = x
  environment (x ∷ l) (suc n) = environment l n

-- ---- by the number of variables
-- a function of n expressions
abbrev pub ExprFunction : ℕ → Type 0
ExprFunction zero = Expr
ExprFunction (suc n) = Expr → ExprFunction n

-- its expression in the variables from k on
abbrev pub at_variables : (n k : ℕ) → ExprFunction n → Expr
at_variables zero k e = e
at_variables (suc n) k f = at_variables n (suc k) (f (var k))

-- P holds of every list of n elements, given one by one
abbrev pub ForAll : (A : Type 0) (n : ℕ) → (List A → Type 0) → Type 0
ForAll A zero P = P []
ForAll A (suc n) P = (x : A) → ForAll A n (λ xs. P (x ∷ xs))

for_all : (A : Type 0) (n : ℕ) (P : List A → Type 0) → ((xs : List A) → P xs) → ForAll A n P
for_all A zero P h = h []
for_all A (suc n) P h = λ x. for_all A n (λ xs. P (x ∷ xs)) (λ xs. h (x ∷ xs))

-- an identity in n variables, at any n elements of any ring: ring 2 R (λ x y. x ⊠ y) (λ x y. y ⊠ x) refl a b
pub ring : (n : ℕ) (R : Ring) (f g : ExprFunction n) → SameForm (at_variables n 0 f) (at_variables n 0 g)
    → ForAll R.Carrier n
    (λ xs. ⟦◌⟧ R (at_variables n 0 f) (environment R xs) ≡ ⟦◌⟧ R (at_variables n 0 g) (environment R xs))
ring n R f g h =
    for_all R.Carrier n _ (λ xs. solve R (environment R xs) (at_variables n 0 f) (at_variables n 0 g) h)
