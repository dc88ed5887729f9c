-- What a call from slices to slices stores is its answer, stored; and which call a code names of its kind.
use Rattle.std.specs.Prelude.{◌≡◌, refl, Bool, true, false, ◌&&◌, List, ℕ, T, leb, ℤ}
use Rattle.std.proofs.Math.Path.{sym, ap}
use Rattle.std.proofs.Common.{◌∙◌, subst}
use borrow.Author.Tests.{ne_eqb}
use Rattle.calculus.specs.Model.{Model}
use Rattle.calculus.specs.Calls.{call_negate, call_add, call_subtract, call_multiply, call_sweep, call_antiderivative}
use Rattle.calculus.specs.Calls.{call_range, call_integral, call_evaluate}
use Rattle.model_types.specs.declared.Answer.{Answer}
use Rattle.model_types.specs.ModelStruct.{answer, bounds, integral_answer}
use Rattle.model_slices.specs.HandedModels.{borrowed}
use Rattle.c_products.specs.model_slice_calls.StoredCalls.{Stored}
use Rattle.c_calls.specs.CallCodes.{Called, called_state, stored_answer, call_known, call_fits}
use Rattle.c_calls.specs.CallCodes.{alone, ends_alone, ends_call, point_fits, ends_call_fits}
use Rattle.c_calls.specs.CallCodesLaws.{alone_answer}
use Rattle.c_calls.specs.CallKinds.{two_call, one_call}

pub stored_called : {a b : Answer} {x : ℕ} {ks ks₂ ns ns₂ : List ℕ} {cs cs₂ : List ℤ} → a ≡ b
    → Stored a x ks cs ns ks₂ cs₂ ns₂ → called_state x ks₂ cs₂ ns₂ ≡ stored_answer b ks cs ns
unfolding called_state stored_answer
stored_called {ks = ks} {ns = ns} {cs = cs} e s =
    rw (s.number, s.keys, s.coefficients, s.numbers) (ap (λ a. stored_answer a ks cs ns) e)

pub called_same : {a b : Answer} {x : Called} (ks ns : List ℕ) (cs : List ℤ) → a ≡ b → x ≡ stored_answer a ks cs ns
    → x ≡ stored_answer b ks cs ns
called_same ks ns cs e s = s ∙ ap (λ a. stored_answer a ks cs ns) e

-- a call that fits has a known code
pub fits_known : (code c₁ k₁ z₁ c₂ k₂ z₂ : ℕ) (room : Bool) → call_fits code c₁ k₁ z₁ c₂ k₂ z₂ room ≡ true
    → call_known code ≡ true
unfolding call_fits
fits_known code c₁ k₁ z₁ c₂ k₂ z₂ room h =
    first (call_known code) (borrowed c₁ k₁ z₁) (borrowed c₂ k₂ z₂) room (subst T (sym h) tt)
  where
    first : (a b c d : Bool) → T (a && b && c && d) → a ≡ true
    first true b c d t = refl
    first false b c d t = absurd t

-- ---- with two ends
-- a call that fits has all places of the slices that its count names
pub fits_slices : (code c k z p e : ℕ) → ends_call_fits code c k z p e ≡ true → borrowed c k z ≡ true
unfolding ends_call_fits
fits_slices code c k z p e h =
    third (leb 1 code) (leb code 3) (borrowed c k z) (point_fits code p) (leb 4 e) (subst T (sym h) tt)
  where
    third : (a b c d e : Bool) → T (a && b && c && d && e) → c ≡ true
    third a b true d e t = refl
    third true true false d e t = absurd t
    third true false false d e t = absurd t
    third false b false d e t = absurd t

module _ (code : ℕ) (xs : List ℤ) (f : Model) where
  pub ends_range : code ≡ 1 → ends_alone (bounds (call_range f)) ≡ integral_answer (ends_call code xs f)
  unfolding ends_call
  ends_range e = alone_answer (call_range f) ∙ sym (ap (λ c. integral_answer (ends_call c xs f)) e)

  pub ends_integral : code ≡ 2 → integral_answer (call_integral f) ≡ integral_answer (ends_call code xs f)
  unfolding ends_call
  ends_integral e = sym (ap (λ c. integral_answer (ends_call c xs f)) e)

  pub ends_evaluate : (code ≡ 1 → ⊥) → (code ≡ 2 → ⊥)
      → integral_answer (alone (call_evaluate xs f)) ≡ integral_answer (ends_call code xs f)
  unfolding ends_call
  ends_evaluate a b = rw (ne_eqb code 1 a, ne_eqb code 2 b)

-- ---- of two models
module _ (code d : ℕ) (f g : Model) where
  pub two_add : code ≡ 4 → answer (call_add f g) ≡ answer (two_call code d f g)
  unfolding two_call
  two_add e = sym (ap (λ c. answer (two_call c d f g)) e)

  pub two_subtract : code ≡ 5 → answer (call_subtract f g) ≡ answer (two_call code d f g)
  unfolding two_call
  two_subtract e = sym (ap (λ c. answer (two_call c d f g)) e)

  pub two_multiply : (code ≡ 4 → ⊥) → (code ≡ 5 → ⊥) → answer (call_multiply d f g) ≡ answer (two_call code d f g)
  unfolding two_call
  two_multiply a b = rw (ne_eqb code 4 a, ne_eqb code 5 b)

-- ---- of one
module _ (code d i : ℕ) (v : ℤ) (f : Model) where
  pub one_negate : code ≡ 3 → answer (call_negate f) ≡ answer (one_call code d i v f)
  unfolding one_call
  one_negate e = sym (ap (λ c. answer (one_call c d i v f)) e)

  pub one_sweep : code ≡ 8 → {t : ℤ} → t ≡ v → answer (call_sweep t f) ≡ answer (one_call code d i v f)
  unfolding one_call
  one_sweep e q = ap (λ t. answer (call_sweep t f)) q ∙ sym (ap (λ c. answer (one_call c d i v f)) e)

  pub one_antiderivative : (code ≡ 3 → ⊥) → (code ≡ 8 → ⊥)
      → answer (call_antiderivative d i f) ≡ answer (one_call code d i v f)
  unfolding one_call
  one_antiderivative a b = rw (ne_eqb code 3 a, ne_eqb code 8 b)
