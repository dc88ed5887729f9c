-- The model of three coefficients, put together term by term.
use Rattle.std.specs.Prelude.{◌≡◌, refl, [], ◌∷◌, ◌++◌, ℕ, ◌+◌, ◌≤◌, ◌<◌, T, ℤ, length}
use Rattle.std.proofs.Common.{sym, ◌∙◌, ap, ap₂, subst, length-append}
use native.Mathlib.Omega.{arith}
use Rattle.calculus.specs.Computing.{runs}
use Rattle.calculus.specs.Key.{key_width, monomial_of, fits_digits, decode}
use Rattle.calculus.specs.Terms.{term, is_nonzero, drop_zeros, every}
use Rattle.calculus_laws.specs.TermsLaws.{every_select, length_select}
use Rattle.calculus.specs.Model as C
use Rattle.calculus.specs.Model.{zero_model, most_terms, fits}
use Rattle.doubles.specs.Doubles.{model_of}
use Rattle.model_types.specs.declared.Model.{Model}
use Rattle.model_types.specs.ModelStruct.{view, pack}
use Rattle.model_types.specs.ModelStructLaws.{select-++, view_pack}
use Rattle.model_limits.specs.Limits.{Packed}
use Rattle.model_limits.specs.LimitLaws.{pack_packed}
use Rattle.model_doubles.specs.DoublesStruct.{with_term}

-- no terms yet
abbrev pub empty : ℕ → C.Model
empty e = record { vars = 1; radius = e; terms = [] }

-- with a radius
abbrev with_radius : ℕ → Model → Model
with_radius e m =
    record { n = m.n; count = m.count; radius = e; keys = m.keys; coefficients = m.coefficients }

pub packed_empty : (m : Model) (e : ℕ) → m ≡ pack (zero_model 1)
    → with_radius e m ≡ pack (empty e)
unfolding pack zero_model
packed_empty m e h = ap (with_radius e) h

-- room for one more
pub room : (m : Model) (o : C.Model) → m ≡ pack o → o.vars ≡ 1 → length o.terms < 64 → (m.n ≡ 1) × (m.count < 64)
unfolding pack
room m o h v l = (ap (λ m. m.n) h ∙ v, subst (λ i. i < 64) (sym (ap (λ m. m.count) h)) l)

pub length_with : (z : ℕ) (c : ℤ) (o : C.Model) → length (with_term z c o).terms ≤ length o.terms + 1
unfolding with_term drop_zeros
length_with z c o = omega (
  arith,
  length-append o.terms (drop_zeros (term c (monomial_of o.vars z) ∷ [])),
  length_select (λ k c. is_nonzero c) (term c (monomial_of o.vars z) ∷ []),
)

pub vars_with : (z : ℕ) (c : ℤ) (o : C.Model) → (with_term z c o).vars ≡ o.vars
unfolding with_term
vars_with z c o = refl

-- all three
monomials : (monomial_of 1 0 ≡ 0 ∷ []) × (monomial_of 1 268435456 ≡ 1 ∷ []) × (monomial_of 1 536870912 ≡ 2 ∷ [])
unfolding monomial_of fits_digits decode key_width
monomials = (refl, refl, refl)

pub three : (c0 c1 c2 : ℤ) (e : ℕ)
    → with_term 536870912 c2 (with_term 268435456 c1 (with_term 0 c0 (empty e))) ≡ model_of c0 c1 c2 e
unfolding with_term model_of drop_zeros
three c0 c1 c2 e = ap (λ p. record { vars = 1; radius = e; terms = p })
    (ap₂ (λ p q. p ++ q)
    (ap₂ (λ p q. p ++ q) (ap (λ k. drop_zeros (term c0 k ∷ [])) monomials.0)
    (ap (λ k. drop_zeros (term c1 k ∷ [])) monomials.1)
    ∙ sym (select-++ (λ k c. is_nonzero c) (term c0 (0 ∷ []) ∷ []) (term c1 (1 ∷ []) ∷ [])))
    (ap (λ k. drop_zeros (term c2 k ∷ [])) monomials.2)
    ∙ sym (select-++ (λ k c. is_nonzero c) (term c0 (0 ∷ []) ∷ term c1 (1 ∷ []) ∷ []) (term c2 (2 ∷ []) ∷ [])))

-- it is a struct as packing leaves it, and is viewed as it was
module _ (c0 c1 c2 : ℤ) (e : ℕ) where
  fitting : T (every (λ k c. fits 1 2 k) (model_of c0 c1 c2 e).terms)
  unfolding model_of drop_zeros
  fitting = every_select (λ k c. fits 1 2 k) (λ k c. is_nonzero c) _ (unfold runs in tt)

  pub few : length (model_of c0 c1 c2 e).terms ≤ most_terms
  unfolding model_of drop_zeros most_terms
  few = omega (arith, length_select (λ k c. is_nonzero c) (term c0 (0 ∷ []) ∷ term c1 (1 ∷ []) ∷ term c2 (2 ∷ []) ∷ []))

  one_variable : (model_of c0 c1 c2 e).vars ≤ key_width
  unfolding model_of key_width
  one_variable = omega arith

  pub packed_three : Packed (pack (model_of c0 c1 c2 e))
  unfolding model_of
  packed_three = pack_packed 2 _ (omega arith) one_variable fitting few

  pub viewed_three : view (pack (model_of c0 c1 c2 e)) ≡ model_of c0 c1 c2 e
  unfolding model_of
  viewed_three = view_pack 2 _ (omega arith) one_variable fitting
