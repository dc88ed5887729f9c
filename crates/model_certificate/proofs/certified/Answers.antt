-- `certified` tests mu, then gives h the radius that beta and mu certify.
use mathlib.Core.Path.{◌≡◌, sym, ◌∙◌, ap, subst}
use Prim.Native.Nat.{ℕ}
use native.Mathlib.Omega.{arith}
use borrow.Author.Rules.{rules}
use lib.IntN.{nat_abs}
use Rattle.numbers.specs.Fixed.{U}
use Rattle.fixed.specs.MachineLaws.{answered}
use Rattle.model_types.specs.ModelStruct.{view, pack, cause}
use Rattle.model_slices.specs.HandedModels.{handed}
use Rattle.model_slices.specs.HeldModels.{held}
use Rattle.model_limits.specs.Limits.{Packed}
use Rattle.model_certificate.specs.Certificate.{with_radius}
use Rattle.model_certificate.specs.CertificateLaws.{product_fits, radius_packed, certified_not, certified_answer}
use Rattle.model_certificate.specs.CertificateLaws.{copied_few, copied_packed}
use Rattle.model_certificate.proofs.certified.Goals as goal
use Rattle.model_certificate.proofs.certified.Goals.{After-magnitude-unit, Start}

unit_is : (c : After-magnitude-unit) → c.magnitude-unit.result ≡ U
unit_is c = c.magnitude-unit.ensures ∙ ap nat_abs (answered c.unit.type_inv c.unit.ensures)

-- h with any radius
module _ (s : Start) (e : ℕ) where
  widened : held s.args.n s.args.count e s.args.keys.now s.args.coefficients.now
      ≡ pack (with_radius e (view (handed s.args.n s.args.count 0 s.args.keys.now
      s.args.coefficients.now)))
  widened = copied_packed s.args.n s.args.count e s.args.keys.now s.args.coefficients.now
      s.requires.count_in_bounds s.requires.t

pub returns-then-unit-mu : goal.returns-then-unit-mu
unfolding cause
returns-then-unit-mu c =
    c.refuse.ensures
    ∙ certified_not _ _ _ (omega (
      arith,
      unit_is (goal.at.returns-then-unit-mu c).After-magnitude-unit,
      c.if-unit-mu.true,
    ))

pub overflow_mul-product : goal.overflow_mul-product
overflow_mul-product c = rw (unit_is (goal.at.overflow_mul-product c).After-magnitude-unit) (record {
  fits = product_fits _ c.requires.beta_le_span_limit;
})

pub overflow_sub-room : goal.overflow_sub-room
overflow_sub-room c = omega arith

pub divided_up-radius-requires : goal.divided_up-radius-requires
divided_up-radius-requires c = omega (arith, c.if-unit-mu.false)

pub copied-requires : goal.copied-requires
copied-requires c =
    record {
      count_le_most_terms = copied_few c.args.n c.args.count 0 c.args.keys.now c.args.coefficients.now
          c.requires.count_in_bounds
          c.requires.t;
      count_in_bounds = c.requires.count_in_bounds;
    }

pub limited-requires : goal.limited-requires
limited-requires c =
    subst Packed (sym (c.copied.ensures ∙ widened (goal.at.limited-requires c).Start _))
    (radius_packed _ _ c.requires.t)

pub returns : goal.returns
returns c =
    let u = unit_is (goal.at.returns c).After-magnitude-unit in
    certified_answer _ _ _ c.requires.t u (omega (arith, u, c.if-unit-mu.false)) c.divided_up-radius.ensures
    (c.copied.ensures ∙ widened (goal.at.returns c).Start _) c.limited.ensures
