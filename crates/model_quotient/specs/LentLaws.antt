-- Models that are handed over to a quotient in slices: without the radii of its proposal it is the same, and structs
-- lend their arrays.
use Rattle.std.specs.Prelude.{◌≡◌, List, ℕ, ◌≤◌, T, ℤ, length}
use Rattle.std.proofs.Math.Path.{refl, sym}
use Rattle.std.proofs.Common.{◌∙◌, ap, subst, arith}
use Rattle.calculus.specs.Model as C
use Rattle.calculus.specs.Model.{sound}
use Rattle.calculus.specs.Refusal.{at_place}
use Rattle.calculus.specs.Operations.{bare, defect, deviation, certified, quotient}
use Rattle.model_types.specs.declared.Model.{Model}
use Rattle.model_types.specs.declared.Answer.{Answer}
use Rattle.model_types.specs.ModelStruct.{view, answer}
use Rattle.model_types.specs.ModelStructLaws.{limits}
use Rattle.model_slices.specs.HandedModels.{handed}
use Rattle.model_multiplication.specs.OwnArraysLaws.{Whole, handed_own}
use Rattle.model_proposal.specs.Proposal.{Proposal}
use Rattle.model_proposal.specs.FormLaws.{bare_vars, bare_struct}
use Rattle.model_proposal.specs.SliceFormLaws.{handed_bare}

-- ---- a proposal without its radii
module _ (d n c3 r3 : ℕ) (ks3 : List ℕ) (cs3 : List ℤ) (c4 r4 : ℕ) (ks4 : List ℕ) (cs4 : List ℤ) where
  abbrev h : Model
  h = handed n c3 r3 ks3 cs3

  abbrev w : Model
  w = handed n c4 r4 ks4 cs4

  abbrev h0 : Model
  h0 = handed n c3 0 ks3 cs3

  abbrev w0 : Model
  w0 = handed n c4 0 ks4 cs4

  -- is one
  pub bare_proposal : {f g : Model} → Proposal d f g h w → Proposal d f g h0 w0
  bare_proposal s =
      let e = handed_bare n c3 r3 ks3 cs3 in
      let o = handed_bare n c4 r4 ks4 cs4 in
      record {
        order = s.order;
        dividend = s.dividend;
        divisor = s.divisor;
        proposed = bare_struct h h0 e d s.proposed;
        inverse = bare_struct w w0 o d s.inverse;
        divisor_vars = s.divisor_vars;
        proposed_vars = bare_vars h h0 e ∙ s.proposed_vars;
        inverse_vars = bare_vars w w0 o ∙ s.inverse_vars;
      }

  -- and has the same quotient
  pub bare_quotient : (x y : C.Model) → quotient d x y (view h0) (view w0) ≡ quotient d x y (view h) (view w)
  unfolding quotient defect deviation certified bare view handed
  bare_quotient x y = refl

-- ---- a dividend that was copied
pub copied_proposal : {d : ℕ} {f g h w : Model} (k : Model) → view k ≡ view f → Proposal d f g h w
    → Proposal d k g h w
copied_proposal {d} {f} k e s = record {
  order = s.order;
  dividend = subst (λ c. T (sound d c)) (sym e) s.dividend;
  divisor = s.divisor;
  proposed = s.proposed;
  inverse = s.inverse;
  divisor_vars = s.divisor_vars ∙ vars;
  proposed_vars = s.proposed_vars ∙ vars;
  inverse_vars = s.inverse_vars ∙ vars;
}
  where
    vars : f.n ≡ k.n
    vars = unfold view in sym (ap (λ (c : C.Model). c.vars) e)

-- ---- structs that lend their arrays
module _ {d : ℕ} {f g h w : Model} (s : Proposal d f g h w)
    (wf : Whole f) (wg : Whole g) (wh : Whole h) (ww : Whole w) where
  -- one of them, taken in the variables of f
  lent : (m : Model) → Whole m → m.n ≡ f.n
      → handed f.n m.count m.radius m.keys m.coefficients ≡ m
  lent m whole e = ap (λ n. handed n m.count m.radius m.keys m.coefficients) (sym e) ∙ handed_own m whole

  abbrev first : Model
  first = handed f.n f.count f.radius f.keys f.coefficients

  abbrev second : Model
  second = handed f.n g.count g.radius g.keys g.coefficients

  abbrev third : Model
  third = handed f.n h.count h.radius h.keys h.coefficients

  abbrev fourth : Model
  fourth = handed f.n w.count w.radius w.keys w.coefficients

  first_own : first ≡ f
  first_own = handed_own f wf

  second_own : second ≡ g
  second_own = lent g wg s.divisor_vars

  third_own : third ≡ h
  third_own = lent h wh s.proposed_vars

  fourth_own : fourth ≡ w
  fourth_own = lent w ww s.inverse_vars

  whole_proposal : Proposal d f second third fourth
  whole_proposal =
      subst (λ x. Proposal d f x third fourth) (sym second_own)
      (subst (λ x. Proposal d f g x fourth) (sym third_own)
      (subst (λ x. Proposal d f g h x) (sym fourth_own) s))

  -- what they lend is a proposal
  pub lent_proposal : Proposal d first second (handed f.n h.count 0 h.keys h.coefficients)
      (handed f.n w.count 0 w.keys w.coefficients)
  lent_proposal = bare_proposal d f.n h.count h.radius h.keys h.coefficients
      w.count w.radius w.keys w.coefficients
      (subst (λ x. Proposal d x second third fourth) (sym first_own) whole_proposal)

  -- with all places that the counts name
  long : (m : Model) → Whole m → T (sound d (view m))
      → (m.count ≤ length m.keys) × (m.count ≤ length m.coefficients)
  long m whole t =
      let few = (limits d m t).few in
      (omega (arith, few, whole.keys_whole), omega (arith, few, whole.coefficients_whole))

  pub first_long : (f.count ≤ length f.keys) × (f.count ≤ length f.coefficients)
  first_long = long f wf s.dividend

  pub second_long : (g.count ≤ length g.keys) × (g.count ≤ length g.coefficients)
  second_long = long g wg s.divisor

  pub third_long : (h.count ≤ length h.keys) × (h.count ≤ length h.coefficients)
  third_long = long h wh s.proposed

  pub fourth_long : (w.count ≤ length w.keys) × (w.count ≤ length w.coefficients)
  fourth_long = long w ww s.inverse

  -- and its quotient is theirs
  pub lent_quotient : {r : Answer}
      → r ≡ answer (at_place 0 (quotient d (view first) (view second)
      (view (handed f.n h.count 0 h.keys h.coefficients))
      (view (handed f.n w.count 0 w.keys w.coefficients))))
      → r ≡ answer (at_place 0 (quotient d (view f) (view g) (view h) (view w)))
  lent_quotient e = e
      ∙ ap (λ a. answer (at_place 0 a)) (bare_quotient d f.n h.count h.radius h.keys h.coefficients
      w.count w.radius w.keys w.coefficients (view first) (view second))
      ∙ (λ i. answer (at_place 0 (quotient d (view (first_own i)) (view (second_own i)) (view (third_own i))
      (view (fourth_own i)))))
