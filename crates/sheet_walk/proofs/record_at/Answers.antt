-- `record_at` tests whether a record fits, reads its terms, and tests its model in the slices.
use mathlib.Core.Path.{◌≡◌, sym, ◌∙◌, ap, subst}
use mathlib.Core.List.{List}
use Prim.Native.Nat.{ℕ, ◌+◌, ◌*◌, ◌-◌, ◌≤◌, ◌<◌}
use native.Mathlib.Omega.{arith}
use native.Mathlib.Nat as NatL
use borrow.Author.Rules.{rules}
use borrow.Author.Tests.{not-true, not-false}
use lib.ListN.{length}
use mir.Syntax.{w64}
use mir.Val.{Fits}
use Rattle.calculus.specs.Model.{most_terms}
use Rattle.format.specs.Bytes.{byte}
use Rattle.format.specs.Format.{term_length}
use Rattle.format.proofs.KeyBytesLaws.{term_most}
use Rattle.sheet_walk.specs.ModelWalkLaws.{no_head, no_terms, too_many, unsound, passes, borrowed_long}
use Rattle.sheet_walk.proofs.record_at.Goals as goal
use Rattle.sheet_walk.proofs.record_at.Goals.{After-term_bytes, After-terms_at, Else-total-gt-MOST_TERMS}

-- ---- what is known once the count of terms is read,
module _ (c : After-term_bytes) where
  abbrev sheet : List ℕ
  sheet = c.args.s.now

  abbrev total : ℕ
  total = c.byte_at-total.result

  counted : total ≡ byte (c.args.at + 4) sheet
  counted = c.byte_at-total.ensures

  sized : c.term_bytes.result ≡ term_length c.args.n
  sized = c.term_bytes.ensures

  short : Fits w64 (length sheet)
  short = omega arith

  -- a record's terms are not many bytes
  product : c.term_bytes.result * total ≤ 8 * 255
  product =
      let few : total ≤ 255 = omega arith in
      NatL.mul-le-mul (subst (λ k. k ≤ 8) (sym sized) (term_most _)) few

-- of a record that fits,
module _ (c : Else-total-gt-MOST_TERMS) where
  few : total (goal.at.u32_at-radius-requires c).After-term_bytes ≤ most_terms
  unfolding most_terms
  few = c.if-total-gt-MOST_TERMS.false

  room : 5 + term_length c.args.n * total (goal.at.u32_at-radius-requires c).After-term_bytes ≤ length
      (sheet (goal.at.u32_at-radius-requires c).After-term_bytes) - c.args.at
  room = subst (λ k. 5 + k * total (goal.at.u32_at-radius-requires c).After-term_bytes ≤ length
      (sheet (goal.at.u32_at-radius-requires c).After-term_bytes) - c.args.at)
      (sized (goal.at.u32_at-radius-requires c).After-term_bytes)
      c.if-left-taken.false

-- and once its terms are read
module _ (c : After-terms_at) where
  keys_room : most_terms ≤ length c.terms_at.new.keys
  keys_room = omega (arith, c.terms_at.auto.keys, c.requires.most_terms_in_bounds.0)

  coefficients_room : most_terms ≤ length c.terms_at.new.coefficients
  coefficients_room = omega (arith, c.terms_at.auto.coefficients, c.requires.most_terms_in_bounds.1)

pub returns-then-left-lt-MODEL_BYTES : goal.returns-then-left-lt-MODEL_BYTES
returns-then-left-lt-MODEL_BYTES c =
    let a = c.args in
    no_head _ _ a.at a.s.now _ _ _ _ c.if-left-lt-MODEL_BYTES.true

pub overflow_mul-taken : goal.overflow_mul-taken
overflow_mul-taken c = omega (arith, product c)

pub overflow_add-taken : goal.overflow_add-taken
overflow_add-taken c = omega (arith, product c)

pub returns-then-left-taken : goal.returns-then-left-taken
returns-then-left-taken c =
    no_terms _ _ c.args.at (sheet (goal.at.returns-then-left-taken c).After-term_bytes) _ _ _ _ _
    (counted (goal.at.returns-then-left-taken c).After-term_bytes)
    (subst (λ k. length (sheet (goal.at.returns-then-left-taken c).After-term_bytes) - c.args.at < 5 + k * total
    (goal.at.returns-then-left-taken c).After-term_bytes)
    (sized (goal.at.returns-then-left-taken c).After-term_bytes) c.if-left-taken.true)

pub returns-then-total-gt-MOST_TERMS : goal.returns-then-total-gt-MOST_TERMS
unfolding most_terms
returns-then-total-gt-MOST_TERMS c =
    too_many _ _ c.args.at (sheet (goal.at.returns-then-total-gt-MOST_TERMS c).After-term_bytes) _ _ _ _ _
    (counted (goal.at.returns-then-total-gt-MOST_TERMS c).After-term_bytes) c.if-total-gt-MOST_TERMS.true

pub u32_at-radius-requires : goal.u32_at-radius-requires
u32_at-radius-requires c = omega (arith, room c, c.requires.at_in_bounds)

pub overflow_add-at-2 : goal.overflow_add-at-2
overflow_add-at-2 c = omega (
  arith,
  room (goal.at.overflow_add-at-2 c).Else-total-gt-MOST_TERMS,
  c.requires.at_in_bounds,
  short (goal.at.overflow_add-at-2 c).After-term_bytes,
)

pub terms_at-requires : goal.terms_at-requires
terms_at-requires c =
    let p = c.requires in
    record {
      count_in_bounds = omega (arith, room (goal.at.terms_at-requires c).Else-total-gt-MOST_TERMS, p.at_in_bounds);
      count_in_bounds_2 = (
        omega (
          arith,
          few (goal.at.terms_at-requires c).Else-total-gt-MOST_TERMS,
          p.most_terms_in_bounds.0,
        ),
        omega (
          arith,
          few (goal.at.terms_at-requires c).Else-total-gt-MOST_TERMS,
          p.most_terms_in_bounds.1,
        ),
      );
    }

pub sound_slices-requires : goal.sound_slices-requires
sound_slices-requires c =
    borrowed_long _ _ _ (keys_room (goal.at.sound_slices-requires c).After-terms_at)
    (coefficients_room (goal.at.sound_slices-requires c).After-terms_at)

pub returns-then-not-sound_slices : goal.returns-then-not-sound_slices
returns-then-not-sound_slices c =
    unsound _ _ c.args.at (sheet (goal.at.returns-then-not-sound_slices c).After-term_bytes) _ _ _ _ _
    (counted (goal.at.returns-then-not-sound_slices c).After-term_bytes) _ c.u32_at-radius.ensures
    (few (goal.at.returns-then-not-sound_slices c).Else-total-gt-MOST_TERMS) c.terms_at.ensures.0 c.terms_at.ensures.1
    (sym c.sound_slices.ensures ∙ c.if-not-sound_slices.true)

pub returns : goal.returns
returns c =
    rw (sized (goal.at.returns c).After-term_bytes)
    (passes _ _ c.args.at (sheet (goal.at.returns c).After-term_bytes) _ _ _ _ _
    (counted (goal.at.returns c).After-term_bytes) _ c.u32_at-radius.ensures
    (few (goal.at.returns c).Else-total-gt-MOST_TERMS) c.terms_at.ensures.0 c.terms_at.ensures.1
    (room (goal.at.returns c).Else-total-gt-MOST_TERMS)
    (sym c.sound_slices.ensures ∙ c.if-not-sound_slices.false))
