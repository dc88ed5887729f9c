-- What q and r say of a model, of the answer of an integral's call and of the answer of a run: up to four variables U
-- times the integral of the model's polynomial over the box, above nothing.
use Rattle.std.specs.Prelude.{◌≡◌, refl, not, [], ◌∷◌, ◌<◌, T}
use Rattle.std.proofs.Common.{sym, ◌∙◌, ap, ap₂, subst, arith}
use Rattle.algebra.proofs.Rational.{◌+ℚ◌, ◌*ℚ◌, whole, reciprocal}
use Rattle.algebra.proofs.RationalRing.{ℚR}
use Rattle.algebra.proofs.RationalField.{ℚF}
use Rattle.polynomial.specs.Polynomial.{scale}
use Rattle.polynomial.specs.Integral as I
use Rattle.polynomial.proofs.IntegralLaws.{integral_scale}
use Rattle.numbers.specs.Fixed.{U}
use Rattle.calculus.specs.Terms.{Terms}
use Rattle.calculus.specs.Model.{Model, most_degree, polynomial, sound}
use Rattle.calculus.specs.Refusal.{bad_model, done}
use Rattle.calculus.specs.Operations.{common_denominator, has_exact, Mixed, zero_mixed, mixed_part, exact_part}
use Rattle.calculus.specs.Operations.{Integral, whole_integral}
use Rattle.calculus.specs.Calls.{call_integral}
use Rattle.calculus.specs.Book.{Book, Summary, summary, run, run_sound}
use Rattle.calculus.specs.Functions.{exact_integral}
use Rattle.calculus_laws.specs.RefusalLaws.{Passed, passed_at}
use Rattle.calculus_laws.specs.BookLaws.{Passes, run_done, Ran, sound_ran}
use Rattle.calculus_laws.specs.UnitLaws.{natural, U_times}
use Rattle.calculus_laws.specs.IntegralEndsLaws.{whole_polynomial, polynomial_integral}
use Rattle.calculus_laws.specs.ExactIntegralLaws.{Served, sound_served, exact_is, remainder_small}
use Rattle.calculus_laws.specs.ExactIntegralLaws.{exact_known, exact_none}
use Rattle.claim.proofs.ClaimProof.{result_served}

-- q + r / 212,837,625 is the integral of a model's polynomial in units, and r is from 0 to 212,837,624
pub record ExactValue (m : Model) (x : Mixed) : Type 0 where
  pub is_integral : whole x.quotient +ℚ natural x.remainder *ℚ reciprocal common_denominator
      ≡ natural U *ℚ exact_integral m.vars (polynomial m)
  pub in_limits : x.remainder < common_denominator

-- U times the polynomial of a model has its coefficients as they stand
scaled : (p : Terms)
    → scale ℚR (natural U) (polynomial (record { vars = 0; radius = 0; terms = p })) ≡ whole_polynomial p
unfolding scale polynomial whole_polynomial
scaled [] = refl
scaled (t ∷ p) =
    ap₂ (λ c l. record { coefficient = c; exponents = t.exponents } ∷ l) (U_times t.coefficient) (scaled p)

in_units : (m : Model) → natural U *ℚ exact_integral m.vars (polynomial m) ≡ polynomial_integral m
unfolding exact_integral polynomial
in_units m = sym (integral_scale ℚF m.vars (natural U) (polynomial m))
    ∙ ap (I.integral ℚF m.vars) (scaled m.terms)

-- what is promised of them: up to four variables this, above that both are 0
pub record ExactAnswer (m : Model) (x : Mixed) : Type 0 where
  pub known : T (has_exact m.vars) → ExactValue m x
  pub none : T (not (has_exact m.vars)) → x ≡ zero_mixed

served_exact : (m : Model) → Served m → ExactValue m (mixed_part m)
served_exact m s = record { is_integral = exact_is m s ∙ sym (in_units m); in_limits = remainder_small m s }

-- THEOREM: of a sound model, of an answered call and of an accepted book
pub model_exact : (m : Model) → (T (has_exact m.vars) → Served m) → ExactAnswer m (exact_part m)
model_exact m s = record {
  known = λ e. subst (ExactValue m) (sym (exact_known m e)) (served_exact m (s e));
  none = exact_none m;
}

pub call_exact : (f : Model) (x : Integral) → call_integral f ≡ done x → ExactAnswer f x.exact
unfolding call_integral whole_integral
call_exact f x h = subst (λ (y : Integral). ExactAnswer f y.exact) same
    (model_exact f (sound_served most_degree f (omega arith) passed.test))
  where
    passed : Passed (sound most_degree f) (done (whole_integral f)) x
    passed = passed_at 0 (sound most_degree f) bad_model _ x h

    same : whole_integral f ≡ x
    same = let e : done (whole_integral f) ≡ done x = passed.result in cc

pub sound_run_exact : (b : Book) (s : Summary) → Passes b → run_sound b ≡ done s → ExactAnswer s.model s.exact
unfolding summary
sound_run_exact b s p h = subst (ExactAnswer s.model) same (model_exact s.model (result_served b s p h))
  where
    ran : Ran b s
    ran = sound_ran b s h

    same : exact_part s.model ≡ s.exact
    same = subst (λ (t : Summary). exact_part t.model ≡ t.exact) ran.is_summary refl

pub run_exact : (b : Book) (s : Summary) → run b ≡ done s → ExactAnswer s.model s.exact
run_exact b s h = sound_run_exact b s (run_done b s h).passes (run_done b s h).result
